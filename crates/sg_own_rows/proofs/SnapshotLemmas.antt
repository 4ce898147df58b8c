-- A display's own rows as a snapshot: all that is named is there, and it is valid.
use Rattle.std.proofs.Common.{◌≡◌, ℕ, ◌^◌, ◌<◌, ◌≤◌, ◌||◌, ltb, Bool, true, false, List, [], ◌∷◌, ◌++◌, length, map, refl, arith}
use Rattle.std.specs.Prelude.{Option, None, Some, All, Contains, filter}
use Rattle.std.specs.List.{AllByRecursion, flat_map, list_any}
use Rattle.std.proofs.lemmas.Bool.{ltb-false}
use Rattle.std.proofs.lemmas.List.Elements.{All-head}
use Rattle.sg_base.specs.declared.campaign.Campaign.{Campaign as CampaignRow}
use Rattle.sg_base.specs.declared.event.Target.{Target}
use Rattle.sg_base.specs.declared.event.Target.TheVariants as target
use Rattle.sg_base.specs.declared.event.When.{When}
use Rattle.sg_base.specs.declared.event.When.TheVariants as when
use Rattle.sg_base.specs.declared.ids.LayoutId.{LayoutId}
use Rattle.sg_base.specs.declared.kind.Kind.TheVariants as kind
use Rattle.sg_base.specs.declared.kind.LimitName.{LimitName}
use Rattle.sg_base.specs.declared.layout.Item.{Item}
use Rattle.sg_base.specs.declared.layout.Region.{Region}
use Rattle.sg_base.specs.declared.row.DisplayRow.{DisplayRow}
use Rattle.sg_base.specs.declared.row.Row.{Row}
use Rattle.sg_base.specs.declared.row.Row.TheVariants as row
use Rattle.sg_base.specs.Rising.{IsRising}
use Rattle.sg_base.proofs.FaultLemmas.{first_none, if_none}
use Rattle.sg_edit_rows.specs.EditRows.{IsDisplay, IsRow}
use Rattle.sg_manifest.specs.Snapshot.{HasLayouts, HasMedia, IsSnapshot, IsTargetIn, IsWhenIn, campaign_ids, daypart_ids, file_ids, layout_ids}
use Rattle.sg_manifest.proofs.OrderLemmas.{increasing_from_rises}
use Rattle.sg_rows.specs.declared.form.RowForm.TheVariants.{Version2, Edit}
use Rattle.sg_rows.specs.Rows.{IsCampaignRow, IsDaypartRow, IsEventRow, IsLayoutRow, IsListed}
use Rattle.sg_own_rows.specs.declared.own.Own.{Own}
use Rattle.sg_own_rows.specs.Own.{addresses, all_in, campaign_in, daypart_in, event_in, file_in, is_among, layout_in, named_by, names_one, over, own_campaigns, own_dayparts, own_events, own_layouts, own_media, own_snapshot, shown, too_large}
use Rattle.sg_own_rows.proofs.OwnLemmas.{all_filter}
use Rattle.sg_own_rows.proofs.ValidLemmas.{IsNamed, Lists, all_named, all_of, any_left, any_right, contains_named, lists_campaigns, lists_dayparts, lists_events, lists_files, lists_layouts, of_kind, rises_in, rising_filter, same_itself, valid_campaign, valid_daypart, valid_event, valid_file, valid_layout}
use Rattle.sg_tables.specs.declared.row_id.RowId.{RowId}
use Rattle.sg_tables.specs.Counts.{IsBounded, IsShort}
use Rattle.sg_tables.specs.Entries.{Kept, number_of_kept}
use Rattle.sg_tables.specs.Refusals.{AreClosed, IsThere, is_of}
use Rattle.sg_tables.specs.Rows.{at, daypart_in as daypart_named, is_same, references, target_in}

-- ---- what an own row names is among the own rows

target_there : (d : DisplayRow) (rows : List Kept) → AllByRecursion IsBounded rows → (t : Target) → IsNamed rows (named_by (own_events d rows)) (target_in t) → IsTargetIn (layout_ids (own_snapshot d rows)) (campaign_ids (own_snapshot d rows)) t
target_there d rows bounded (target.Layout l) n =
    contains_named kind.Layout layout_in (λ x. x.id.0) lists_layouts (shown d rows) l.0 rows n.short bounded n.there
    (any_right (is_same (at kind.Layout l.0)) (references (row.Display d)) (named_by (own_events d rows) ++ named_by (own_campaigns d rows))
    (any_left (is_same (at kind.Layout l.0)) (named_by (own_events d rows)) (named_by (own_campaigns d rows)) n.named))
target_there d rows bounded (target.Campaign c) n =
    contains_named kind.Campaign campaign_in (λ x. x.id.0) lists_campaigns (named_by (own_events d rows)) c.0 rows n.short bounded n.there n.named

event_target : (d : DisplayRow) (rows : List Kept) → AllByRecursion IsBounded rows → (r : Row) → AllByRecursion (IsNamed rows (named_by (own_events d rows))) (references r) → AllByRecursion (λ e. IsTargetIn (layout_ids (own_snapshot d rows)) (campaign_ids (own_snapshot d rows)) e.target) (event_in r)
event_target d rows bounded (row.Media f) n = tt
event_target d rows bounded (row.Layout l) n = tt
event_target d rows bounded (row.Campaign c) n = tt
event_target d rows bounded (row.Daypart p) n = tt
event_target d rows bounded (row.Group g) n = tt
event_target d rows bounded (row.Display x) n = tt
event_target d rows bounded (row.Event v) n = (target_there d rows bounded v.event.target n.0, tt)

when_there : (d : DisplayRow) (rows : List Kept) → AllByRecursion IsBounded rows → (w : When) (rest : List RowId) → AllByRecursion (IsNamed rows (named_by (own_events d rows))) (daypart_named w ++ rest) → IsWhenIn (daypart_ids (own_snapshot d rows)) w
when_there d rows bounded when.Always rest n = tt
when_there d rows bounded (when.Custom from to) rest n = tt
when_there d rows bounded (when.Named p date) rest n =
    contains_named kind.Daypart daypart_in (λ x. x.id.0) lists_dayparts (named_by (own_events d rows)) p.0 rows n.0.short bounded n.0.there n.0.named

event_when : (d : DisplayRow) (rows : List Kept) → AllByRecursion IsBounded rows → (r : Row) → AllByRecursion (IsNamed rows (named_by (own_events d rows))) (references r) → AllByRecursion (λ e. IsWhenIn (daypart_ids (own_snapshot d rows)) e.when) (event_in r)
event_when d rows bounded (row.Media f) n = tt
event_when d rows bounded (row.Layout l) n = tt
event_when d rows bounded (row.Campaign c) n = tt
event_when d rows bounded (row.Daypart p) n = tt
event_when d rows bounded (row.Group g) n = tt
event_when d rows bounded (row.Display x) n = tt
event_when d rows bounded (row.Event v) n = (when_there d rows bounded v.event.when (map (λ x. at kind.Display x.0) v.displays ++ map (λ x. at kind.Group x.0) v.groups) n.1, tt)

each_layout : (d : DisplayRow) (rows : List Kept) → AllByRecursion IsBounded rows → (layouts : List LayoutId) → AllByRecursion (IsNamed rows (shown d rows)) (map (λ l. at kind.Layout l.0) layouts) → AllByRecursion (λ l. Contains (layout_ids (own_snapshot d rows)) l.0) layouts
each_layout d rows bounded [] n = tt
each_layout d rows bounded (l ∷ ls) n = (
  contains_named kind.Layout layout_in (λ x. x.id.0) lists_layouts (shown d rows) l.0 rows n.0.short bounded n.0.there n.0.named,
  each_layout d rows bounded ls n.1,
)

campaign_layouts : (d : DisplayRow) (rows : List Kept) → AllByRecursion IsBounded rows → (r : Row) → AllByRecursion (IsNamed rows (shown d rows)) (references r) → AllByRecursion (HasLayouts (layout_ids (own_snapshot d rows))) (campaign_in r)
campaign_layouts d rows bounded (row.Media f) n = tt
campaign_layouts d rows bounded (row.Layout l) n = tt
campaign_layouts d rows bounded (row.Campaign c) n = (each_layout d rows bounded c.layouts n, tt)
campaign_layouts d rows bounded (row.Daypart p) n = tt
campaign_layouts d rows bounded (row.Group g) n = tt
campaign_layouts d rows bounded (row.Display x) n = tt
campaign_layouts d rows bounded (row.Event v) n = tt

all_front : {A : Type 0} (P : A → Type 0) (xs ys : List A) → AllByRecursion P (xs ++ ys) → AllByRecursion P xs
all_front P [] ys a = tt
all_front P (x ∷ xs) ys a = (a.0, all_front P xs ys a.1)

all_rest : {A : Type 0} (P : A → Type 0) (xs ys : List A) → AllByRecursion P (xs ++ ys) → AllByRecursion P ys
all_rest P [] ys a = a
all_rest P (x ∷ xs) ys a = all_rest P xs ys a.1

each_item : (d : DisplayRow) (rows : List Kept) → AllByRecursion IsBounded rows → (items : List Item) → AllByRecursion (IsNamed rows (named_by (own_layouts d rows))) (map (λ item. at kind.Media item.media.0) items) → AllByRecursion (λ i. Contains (file_ids (own_snapshot d rows)) i.media.0) items
each_item d rows bounded [] n = tt
each_item d rows bounded (i ∷ is) n = (
  contains_named kind.Media file_in (λ x. x.media.0) lists_files (named_by (own_layouts d rows)) i.media.0 rows n.0.short bounded n.0.there n.0.named,
  each_item d rows bounded is n.1,
)

each_region : (d : DisplayRow) (rows : List Kept) → AllByRecursion IsBounded rows → (regions : List Region) → AllByRecursion (IsNamed rows (named_by (own_layouts d rows))) (flat_map (λ region. map (λ item. at kind.Media item.media.0) region.items) regions) → AllByRecursion (HasMedia (file_ids (own_snapshot d rows))) regions
each_region d rows bounded [] n = tt
each_region d rows bounded (r ∷ rs) n =
    let here = map (λ (item : Item). at kind.Media item.media.0) r.items in
    let rest = flat_map (λ (region : Region). map (λ (item : Item). at kind.Media item.media.0) region.items) rs in
    (each_item d rows bounded r.items (all_front (IsNamed rows (named_by (own_layouts d rows))) here rest n), each_region d rows bounded rs (all_rest (IsNamed rows (named_by (own_layouts d rows))) here rest n))

layout_media : (d : DisplayRow) (rows : List Kept) → AllByRecursion IsBounded rows → (r : Row) → AllByRecursion (IsNamed rows (named_by (own_layouts d rows))) (references r) → AllByRecursion (λ l. AllByRecursion (HasMedia (file_ids (own_snapshot d rows))) l.regions) (layout_in r)
layout_media d rows bounded (row.Media f) n = tt
layout_media d rows bounded (row.Layout l) n = (each_region d rows bounded l.regions n, tt)
layout_media d rows bounded (row.Campaign c) n = tt
layout_media d rows bounded (row.Daypart p) n = tt
layout_media d rows bounded (row.Group g) n = tt
layout_media d rows bounded (row.Display x) n = tt
layout_media d rows bounded (row.Event v) n = tt

-- ---- limits

within : (name : LimitName) (most count : ℕ) → over name most count ≡ None → count ≤ most
within name most count e = ltb-false most count (if_none (ltb most count) _ None e).0

-- ---- the whole

pub valid_own : (d : DisplayRow) (rows : List Kept) → IsDisplay d → AllByRecursion (λ e. IsRow Edit e.row) rows → IsRising number_of_kept rows → AreClosed rows → AllByRecursion IsBounded rows
    → All IsShort (references (row.Display d)) → AllByRecursion (IsThere rows) (references (row.Display d)) → too_large (own_snapshot d rows) ≡ None → IsSnapshot (own_snapshot d rows)
valid_own d rows display valid rising closed bounded short there fits =
    let s = own_snapshot d rows in
    let events = own_events d rows in
    let campaigns = own_campaigns d rows in
    let dayparts = own_dayparts d rows in
    let layouts = own_layouts d rows in
    let media = own_media d rows in
    let by_events = is_among (named_by events) in
    let by_shown = is_among (shown d rows) in
    let by_layouts = is_among (named_by layouts) in
    let for_it = names_one (addresses d) in
    let IsValid : Kept → Type 0 = λ e. IsRow Edit e.row in
    let IsClosed : Kept → Type 0 = λ e. AllByRecursion (IsThere rows) (references e.row) in
    let events_named = all_named rows events (named_by events) (all_filter IsBounded for_it _ (all_filter IsBounded (is_of kind.Event) rows bounded)) (all_filter IsClosed for_it _ (all_filter IsClosed (is_of kind.Event) rows closed)) (λ x among. among) in
    let campaigns_named = all_named rows campaigns (shown d rows) (all_filter IsBounded by_events _ (all_filter IsBounded (is_of kind.Campaign) rows bounded)) (all_filter IsClosed by_events _ (all_filter IsClosed (is_of kind.Campaign) rows closed))
    (λ x among. any_right (is_same x) (references (row.Display d)) (named_by events ++ named_by campaigns) (any_right (is_same x) (named_by events) (named_by campaigns) among)) in
    let layouts_named = all_named rows layouts (named_by layouts) (all_filter IsBounded by_shown _ (all_filter IsBounded (is_of kind.Layout) rows bounded)) (all_filter IsClosed by_shown _ (all_filter IsClosed (is_of kind.Layout) rows closed)) (λ x among. among) in
    let files_fit = first_none (over _ _ (length s.files)) _ fits in
    let layouts_fit = first_none (over _ _ (length s.layouts)) _ files_fit.1 in
    let campaigns_fit = first_none (over _ _ (length s.campaigns)) _ layouts_fit.1 in
    let rest_fit = first_none (over _ _ (length s.dayparts)) (over _ _ (length s.events)) campaigns_fit.1 in
    record {
      version = refl;
      zone = display.zone;
      default = display.default;
      rows = record {
        layouts = all_of layout_in IsLayoutRow IsValid layouts (λ e is. valid_layout e.row is) (all_filter IsValid by_shown _ (all_filter IsValid (is_of kind.Layout) rows valid));
        campaigns = all_of campaign_in IsCampaignRow IsValid campaigns (λ e is. valid_campaign e.row is) (all_filter IsValid by_events _ (all_filter IsValid (is_of kind.Campaign) rows valid));
        dayparts = all_of daypart_in (IsDaypartRow Version2) IsValid dayparts (λ e is. valid_daypart e.row is) (all_filter IsValid by_events _ (all_filter IsValid (is_of kind.Daypart) rows valid));
        events = all_of event_in (IsEventRow Version2) IsValid events (λ e is. valid_event e.row is) (all_filter IsValid for_it _ (all_filter IsValid (is_of kind.Event) rows valid));
        files = all_of file_in IsListed IsValid media (λ e is. valid_file e.row is) (all_filter IsValid by_layouts _ (all_filter IsValid (is_of kind.Media) rows valid));
      };
      order = record {
        layouts = increasing_from_rises (λ l. l.id.0) s.layouts (rises_in kind.Layout layout_in (λ l. l.id.0) lists_layouts layouts (all_filter _ by_shown _ (of_kind kind.Layout rows)) (rising_filter by_shown _ (rising_filter (is_of kind.Layout) rows rising)));
        campaigns = increasing_from_rises (λ c. c.id.0) s.campaigns (rises_in kind.Campaign campaign_in (λ c. c.id.0) lists_campaigns campaigns (all_filter _ by_events _ (of_kind kind.Campaign rows)) (rising_filter by_events _ (rising_filter (is_of kind.Campaign) rows rising)));
        dayparts = increasing_from_rises (λ p. p.id.0) s.dayparts (rises_in kind.Daypart daypart_in (λ p. p.id.0) lists_dayparts dayparts (all_filter _ by_events _ (of_kind kind.Daypart rows)) (rising_filter by_events _ (rising_filter (is_of kind.Daypart) rows rising)));
        events = increasing_from_rises (λ e. e.id.0) s.events (rises_in kind.Event event_in (λ e. e.id.0) lists_events events (all_filter _ for_it _ (of_kind kind.Event rows)) (rising_filter for_it _ (rising_filter (is_of kind.Event) rows rising)));
        files = increasing_from_rises (λ f. f.media.0) s.files (rises_in kind.Media file_in (λ f. f.media.0) lists_files media (all_filter _ by_layouts _ (of_kind kind.Media rows)) (rising_filter by_layouts _ (rising_filter (is_of kind.Media) rows rising)));
      };
      named = record {
        default =
            let first = at kind.Layout d.default.0 in
            let groups = map (λ g. at kind.Group g.0) d.groups in
            contains_named kind.Layout layout_in (λ x. x.id.0) lists_layouts (shown d rows) d.default.0 rows (All-head IsShort first groups short) bounded there.0 (rw (same_itself first) refl);
        media = all_of layout_in (λ l. AllByRecursion (HasMedia (file_ids s)) l.regions) (λ e. AllByRecursion (IsNamed rows (named_by layouts)) (references e.row)) layouts (λ e n. layout_media d rows bounded e.row n) layouts_named;
        campaigns = all_of campaign_in (HasLayouts (layout_ids s)) (λ e. AllByRecursion (IsNamed rows (shown d rows)) (references e.row)) campaigns (λ e n. campaign_layouts d rows bounded e.row n) campaigns_named;
        targets = all_of event_in (λ v. IsTargetIn (layout_ids s) (campaign_ids s) v.target) (λ e. AllByRecursion (IsNamed rows (named_by events)) (references e.row)) events (λ e n. event_target d rows bounded e.row n) events_named;
        dayparts = all_of event_in (λ v. IsWhenIn (daypart_ids s) v.when) (λ e. AllByRecursion (IsNamed rows (named_by events)) (references e.row)) events (λ e n. event_when d rows bounded e.row n) events_named;
      };
      few = record {
        files = within _ _ _ files_fit.0;
        layouts = within _ _ _ layouts_fit.0;
        campaigns = within _ _ _ campaigns_fit.0;
        dayparts = within _ _ _ rest_fit.0;
        events = within _ _ _ rest_fit.1;
      };
    }
