use Rattle.std.proofs.Common.{◌≡◌, List, ◌∙◌, ap, refl}
use Rattle.std.specs.Prelude.{filter}
use Rattle.sg_base.specs.declared.kind.Kind.{Kind}
use Rattle.sg_base.specs.declared.kind.Kind.TheVariants as kind
use Rattle.sg_own_rows.specs.Numbers.{IsListOf, naming, picked}
use Rattle.sg_own_rows.specs.Own.{addresses, all_in, campaign_in, daypart_in, event_in, file_in, is_among, layout_in, named_by, own_campaigns, own_dayparts, own_events, own_layouts, own_media, shown}
use Rattle.sg_own_rows.proofs.OwnLemmas.{all_filter, naming_same, picked_same}
use Rattle.sg_tables.specs.Counts.{IsBounded}
use Rattle.sg_tables.specs.Refusals.{is_of}
use Rattle.sg_own_rows.proofs.own.draft_of.Goals as goal

pub returns : goal.returns
returns c =
    let d = c.args.display.now in
    let rows = c.args.tables.now.rows in
    let names = c.requires in
    let bounded = c.rows_of.ensures.bounded in
    let layouts =
    c.in_ok-layouts.ensures
    ∙ ap (all_in layout_in)
    (ap (λ l. picked l c.rows_of.result.now) c.deref.ensures.value
    ∙ (ap (picked c.args.names.now.shown.items) c.rows_of.ensures.value
    ∙ picked_same (shown d rows) c.args.names.now.shown.items (filter (is_of kind.Layout) rows) names.of_shown (all_filter IsBounded (is_of kind.Layout) rows bounded))) in
    let campaigns =
    c.in_ok-campaigns.ensures
    ∙ ap (all_in campaign_in)
    (ap (λ l. picked l c.rows_of-2.result.now) c.deref-2.ensures.value
    ∙ (ap (picked c.args.names.now.by_events.items) c.rows_of-2.ensures.value
    ∙ picked_same (named_by (own_events d rows)) c.args.names.now.by_events.items (filter (is_of kind.Campaign) rows) names.of_events (all_filter IsBounded (is_of kind.Campaign) rows bounded))) in
    let dayparts =
    c.in_ok-dayparts.ensures
    ∙ ap (all_in daypart_in)
    (ap (λ l. picked l c.rows_of-3.result.now) c.deref-3.ensures.value
    ∙ (ap (picked c.args.names.now.by_events.items) c.rows_of-3.ensures.value
    ∙ picked_same (named_by (own_events d rows)) c.args.names.now.by_events.items (filter (is_of kind.Daypart) rows) names.of_events (all_filter IsBounded (is_of kind.Daypart) rows bounded))) in
    let events =
    c.in_ok-events.ensures
    ∙ ap (all_in event_in)
    (ap (λ l. naming l c.rows_of-4.result.now) c.deref-4.ensures.value
    ∙ (ap (naming c.args.names.now.addresses.items) c.rows_of-4.ensures.value
    ∙ naming_same (addresses d) c.args.names.now.addresses.items (filter (is_of kind.Event) rows) names.of_display (all_filter IsBounded (is_of kind.Event) rows bounded))) in
    let files =
    c.in_ok-files.ensures
    ∙ ap (all_in file_in)
    (ap (λ l. picked l c.rows_of-5.result.now) c.deref-5.ensures.value
    ∙ (ap (picked c.args.names.now.by_layouts.items) c.rows_of-5.ensures.value
    ∙ picked_same (named_by (own_layouts d rows)) c.args.names.now.by_layouts.items (filter (is_of kind.Media) rows) names.of_layouts (all_filter IsBounded (is_of kind.Media) rows bounded))) in
    rw (c.in_ok-zone.ensures.cases, layouts, campaigns, dayparts, events, files) refl
