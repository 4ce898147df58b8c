use Rattle.std.proofs.Common.{◌≡◌, ◌^◌, ◌<◌, ◌++◌, map, ◌∙◌, ap, sym, subst}
use Rattle.std.specs.Prelude.{All, filter}
use Rattle.std.proofs.lemmas.List.Elements.{All-append}
use Rattle.sg_base.specs.declared.kind.Kind.TheVariants as kind
use Rattle.sg_base.specs.declared.row.Row.TheVariants as row
use Rattle.sg_own_rows.specs.Numbers.{naming, number_of_row, picked}
use Rattle.sg_own_rows.specs.Own.{addresses, is_among, named_by, names_one, own_campaigns, own_events, own_layouts, shown}
use Rattle.sg_own_rows.proofs.OwnLemmas.{all_filter, map_parts, naming_same, picked_same, short_named}
use Rattle.sg_tables.specs.Counts.{IsBounded, IsShort}
use Rattle.sg_tables.specs.Refusals.{is_of}
use Rattle.sg_tables.specs.Rows.{id_in, references}
use Rattle.sg_own_rows.proofs.own.Names.of.Goals as goal

pub addresses_of-requires-clause-short : goal.addresses_of-requires-clause-short
addresses_of-requires-clause-short c = subst (λ r. id_in r < 2 ^ 32) c.requires.row c.requires.bounded.id

pub addresses_of-requires-clause-named : goal.addresses_of-requires-clause-named
addresses_of-requires-clause-named c = subst (λ r. All IsShort (references r)) c.requires.row c.requires.bounded.named

pub returns-clause-names : goal.returns-clause-names
returns-clause-names c =
    let d = c.args.display.now in
    let rows = c.args.tables.now.rows in
    let bounded = c.rows_of.ensures.bounded in
    let display = c.in_ok-addresses.ensures in
    let events_bounded = all_filter IsBounded (is_of kind.Event) rows bounded in
    let events : naming c.deref.result.now c.rows_of.result.now ≡ own_events d rows =
    ap (λ l. naming l c.rows_of.result.now) c.deref.ensures.value
    ∙ (ap (naming c.in_ok-addresses.addresses.items) c.rows_of.ensures.value
    ∙ naming_same (addresses d) c.in_ok-addresses.addresses.items (filter (is_of kind.Event) rows) display events_bounded) in
    let events_short = short_named (own_events d rows) (all_filter IsBounded (names_one (addresses d)) (filter (is_of kind.Event) rows) events_bounded) in
    let events_are =
    c.in_ok-add_naming.ensures
    ∙ (ap (λ l. l ++ map number_of_row (named_by (naming c.deref.result.now c.rows_of.result.now))) c.new-by_events.ensures.items
    ∙ ap (λ l. map number_of_row (named_by l)) events) in
    let by_events = c.order.ensures.list (named_by (own_events d rows)) events_short events_are in
    let campaigns_bounded = all_filter IsBounded (is_of kind.Campaign) rows bounded in
    let campaigns : picked c.deref-2.result.now c.rows_of-2.result.now ≡ own_campaigns d rows =
    ap (λ l. picked l c.rows_of-2.result.now) c.deref-2.ensures.value
    ∙ (ap (picked c.order.new.numbers.items) c.rows_of-2.ensures.value
    ∙ picked_same (named_by (own_events d rows)) c.order.new.numbers.items (filter (is_of kind.Campaign) rows) by_events campaigns_bounded) in
    let campaigns_short = short_named (own_campaigns d rows) (all_filter IsBounded (is_among (named_by (own_events d rows))) (filter (is_of kind.Campaign) rows) campaigns_bounded) in
    let own = map number_of_row (references (row.Display d)) in
    let front =
    c.in_ok-add_references.ensures
    ∙ (ap (λ l. l ++ map number_of_row (references c.args.entry.now.row)) c.new-shown.ensures.items
    ∙ ap (λ r. map number_of_row (references r)) c.requires.row) in
    let middle =
    c.in_ok-extend_from_slice.ensures.items
    ∙ (ap (λ l. l ++ c.as_slice.result.now) front ∙ ap (λ l. own ++ l) (c.as_slice.ensures.value ∙ events_are)) in
    let shown_are =
    c.in_ok-add_named.ensures
    ∙ (ap (λ l. l ++ map number_of_row (named_by (picked c.deref-2.result.now c.rows_of-2.result.now))) middle
    ∙ (ap (λ l. (own ++ map number_of_row (named_by (own_events d rows))) ++ map number_of_row (named_by l)) campaigns
    ∙ map_parts (references (row.Display d)) (named_by (own_events d rows)) (named_by (own_campaigns d rows)))) in
    let own_short = subst (λ r. All IsShort (references r)) c.requires.row c.requires.bounded.named in
    let shown_short =
    All-append IsShort (references (row.Display d)) (named_by (own_events d rows) ++ named_by (own_campaigns d rows)) own_short
    (All-append IsShort (named_by (own_events d rows)) (named_by (own_campaigns d rows)) events_short campaigns_short) in
    let shown_is = c.order-2.ensures.list (shown d rows) shown_short shown_are in
    let layouts_bounded = all_filter IsBounded (is_of kind.Layout) rows bounded in
    let layouts : picked c.deref-3.result.now c.rows_of-3.result.now ≡ own_layouts d rows =
    ap (λ l. picked l c.rows_of-3.result.now) c.deref-3.ensures.value
    ∙ (ap (picked c.order-2.new.numbers.items) c.rows_of-3.ensures.value
    ∙ picked_same (shown d rows) c.order-2.new.numbers.items (filter (is_of kind.Layout) rows) shown_is layouts_bounded) in
    let layouts_are =
    c.in_ok-add_named-2.ensures
    ∙ (ap (λ l. l ++ map number_of_row (named_by (picked c.deref-3.result.now c.rows_of-3.result.now))) c.new-by_layouts.ensures.items
    ∙ ap (λ l. map number_of_row (named_by l)) layouts) in
    let by_layouts = c.order-3.ensures.list (named_by (own_layouts d rows)) (short_named (own_layouts d rows) (all_filter IsBounded (is_among (shown d rows)) (filter (is_of kind.Layout) rows) layouts_bounded)) layouts_are in
    record { of_display = display; of_events = by_events; of_shown = shown_is; of_layouts = by_layouts }
