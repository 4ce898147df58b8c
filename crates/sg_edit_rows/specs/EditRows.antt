-- The rows of edits: those of a manifest, groups, displays, and events with displays and groups. Their JSON, when they
-- are valid, and which row JSON says, in each form.
use Rattle.std.specs.Prelude.{◌≡◌, ◌≢◌, ℕ, ◌+◌, ◌<◌, ◌&&◌, true, nat_lt, nat_le, Bool, List, [], ◌∷◌, map, codes, length, IsTrue, Result, Ok, Err}
use Rattle.std.specs.List.{AllByRecursion}
use Rattle.serde_json.specs.Data.{Data, string, object, Members, member, no_members}
use Rattle.sg_base.specs.declared.limits.TheConstants.{MAX_FEW}
use Rattle.sg_base.specs.declared.ids.GroupId.{GroupId}
use Rattle.sg_rows.specs.declared.fault.RowFault.{RowFault}
use Rattle.sg_rows.specs.declared.fault.RowFault.TheVariants.{Shape}
use Rattle.sg_rows.specs.declared.form.RowForm.{RowForm}
use Rattle.sg_rows.specs.declared.form.RowForm.TheVariants.{Version1, Version2, Edit}
use Rattle.sg_base.specs.declared.kind.Kind.{Kind}
use Rattle.sg_base.specs.declared.kind.Kind.TheVariants as kind
use Rattle.sg_base.specs.declared.row.Row.{Row}
use Rattle.sg_base.specs.declared.row.Row.TheVariants as row
use Rattle.sg_base.specs.declared.row.DisplayRow.{DisplayRow}
use Rattle.sg_base.specs.declared.row.EventRow.{EventRow}
use Rattle.sg_base.specs.Texts.{is_key}
use Rattle.sg_rows.specs.Faults.{◌>>=◌, needs}
use Rattle.sg_rows.specs.Ids.{IsGroup, IsDisplayId, group_id_json, display_id_json, group_id_at, display_id_at}
use Rattle.sg_rows.specs.Parts.{exactly, member_at, id_at, text_at, list_at}
use Rattle.sg_rows.specs.Reading.{file_at, layout_at, campaign_at, daypart_at, zone_at, parts_at, made_event, event_at}
use Rattle.sg_rows.specs.Rows.{IsId, IsListed, IsLayoutRow, IsCampaignRow, IsDaypartRow, IsEventRow}
use Rattle.sg_rows.specs.Text.{whole, list_of, file_json, layout_json, campaign_json, daypart_json, layered_members, event_json, zone_json}
use Rattle.sg_rows.specs.Zone.{IsZone}

-- ---- lists of a few ids

-- each number is above the one before, the first above the last one passed
abbrev pub rise_from : ℕ → List ℕ → Bool
rise_from last [] = true
rise_from last (n ∷ ns) = nat_lt last n && rise_from n ns

-- ids that ascend, no more than a display or an event may have
abbrev pub are_few : {A : Type 0} → (A → ℕ) → List A → Bool
are_few key ids = nat_le (length ids) MAX_FEW && rise_from 0 (map key ids)

abbrev pub AreFew : {A : Type 0} → (A → ℕ) → List A → Type 0
AreFew key ids = IsTrue (are_few key ids)

abbrev pub few_at : {A : Type 0} → (Data → Result A RowFault) → (A → ℕ) → Data → Result (List A) RowFault
few_at f key d = list_at f d >>= (λ ids. needs (are_few key ids) Shape >>= (λ few. Ok ids))

-- ---- groups

abbrev pub group_json : GroupId → Data
group_json g = object (member (codes "id") (whole g.0) no_members)

unfoldable pub group_at : Data → Result GroupId RowFault
group_at d = do
  form ← exactly 1 d
  id ← member_at id_at (codes "id") d
  Ok (record { 0 = id })

-- ---- displays

abbrev pub key_at : Data → Result (List ℕ) RowFault
key_at d = text_at d >>= (λ text. needs (is_key text) Shape >>= (λ key. Ok text))

abbrev pub display_json : DisplayRow → Data
display_json d = object
    (member (codes "default") (whole d.default.0)
    (member (codes "groups") (list_of group_id_json d.groups)
    (member (codes "id") (whole d.id.0)
    (member (codes "key") (string d.key)
    (member (codes "zone") (zone_json d.zone) no_members)))))

pub record IsDisplay (d : DisplayRow) : Type 0 where
  pub id : IsId d.id.0
  pub default : IsId d.default.0
  pub groups : AllByRecursion IsGroup d.groups
  pub few : AreFew (λ g. g.0) d.groups
  pub key : IsTrue (is_key d.key)
  pub zone : IsZone d.zone

-- the zone's own fault comes after the form of all members
unfoldable pub display_at : Data → Result DisplayRow RowFault
display_at d = do
  form ← exactly 5 d
  default ← member_at id_at (codes "default") d
  groups ← member_at (few_at group_id_at (λ g. g.0)) (codes "groups") d
  id ← member_at id_at (codes "id") d
  key ← member_at key_at (codes "key") d
  zone ← member_at zone_at (codes "zone") d
  Ok (record { id = record { 0 = id }; default = record { 0 = default }; groups = groups; key = key; zone = zone })

-- ---- scheduled events

-- the members of an event behind those that it is for
abbrev pub scheduled_members : EventRow → Members → Data
scheduled_members e ms = object
    (member (codes "displays") (list_of display_id_json e.displays)
    (member (codes "groups") (list_of group_id_json e.groups) ms))

abbrev pub scheduled_json : EventRow → Data
scheduled_json e = scheduled_members e (layered_members e.event)

pub record IsScheduled (e : EventRow) : Type 0 where
  pub event : IsEventRow Edit e.event
  pub displays : AllByRecursion IsDisplayId e.displays
  pub few_displays : AreFew (λ d. d.0) e.displays
  pub groups : AllByRecursion IsGroup e.groups
  pub few_groups : AreFew (λ g. g.0) e.groups
  pub some : 0 < length e.displays + length e.groups

unfoldable pub scheduled_at : Data → Result EventRow RowFault
scheduled_at d = do
  parts ← parts_at Edit d
  displays ← member_at (few_at display_id_at (λ d. d.0)) (codes "displays") d
  groups ← member_at (few_at group_id_at (λ g. g.0)) (codes "groups") d
  some ← needs (nat_lt 0 (length displays + length groups)) Shape
  event ← made_event parts
  Ok (record { event = event; displays = displays; groups = groups })

-- in a manifest an event says for nobody that it is for them
pub record IsListedEvent (form : RowForm) (e : EventRow) : Type 0 where
  pub event : IsEventRow form e.event
  pub displays : e.displays ≡ []
  pub groups : e.groups ≡ []

abbrev pub listed_at : RowForm → Data → Result EventRow RowFault
listed_at form d = event_at form d >>= (λ e. Ok (record { event = e; displays = []; groups = [] }))

-- ---- an event in each form

abbrev pub event_row_json : RowForm → EventRow → Data
event_row_json Version1 e = event_json Version1 e.event
event_row_json Version2 e = event_json Version2 e.event
event_row_json Edit e = scheduled_json e

abbrev pub IsEventIn : RowForm → EventRow → Type 0
IsEventIn Version1 e = IsListedEvent Version1 e
IsEventIn Version2 e = IsListedEvent Version2 e
IsEventIn Edit e = IsScheduled e

abbrev pub event_row_at : RowForm → Data → Result EventRow RowFault
event_row_at Version1 d = listed_at Version1 d
event_row_at Version2 d = listed_at Version2 d
event_row_at Edit d = scheduled_at d

-- ---- a row of any kind

-- a row of any kind, as contracts see it
abbrev pub RowView : Type 0
RowView = Row

abbrev pub row_json : RowForm → Row → Data
row_json form (row.Media f) = file_json f
row_json form (row.Layout l) = layout_json l
row_json form (row.Campaign c) = campaign_json c
row_json form (row.Daypart d) = daypart_json form d
row_json form (row.Group g) = group_json g
row_json form (row.Display d) = display_json d
row_json form (row.Event e) = event_row_json form e

-- a valid row, which the form can say
abbrev pub IsRow : RowForm → Row → Type 0
IsRow form (row.Media f) = IsListed f
IsRow form (row.Layout l) = IsLayoutRow l
IsRow form (row.Campaign c) = IsCampaignRow c
IsRow form (row.Daypart d) = IsDaypartRow form d
IsRow form (row.Group g) = IsGroup g
IsRow form (row.Display d) = IsDisplay d
IsRow form (row.Event e) = IsEventIn form e

-- the lists of a manifest have rows of these kinds
abbrev pub IsOfManifest : Kind → Type 0
IsOfManifest kind.Media = Unit {0}
IsOfManifest kind.Layout = Unit {0}
IsOfManifest kind.Campaign = Unit {0}
IsOfManifest kind.Daypart = Unit {0}
IsOfManifest kind.Group = ⊥
IsOfManifest kind.Display = ⊥
IsOfManifest kind.Event = Unit {0}
IsOfManifest kind.Client = ⊥

-- no row is of the kind of clients
abbrev pub HasKind : RowForm → Kind → Type 0
HasKind Version1 k = IsOfManifest k
HasKind Version2 k = IsOfManifest k
HasKind Edit k = k ≢ kind.Client

abbrev pub row_at : Kind → RowForm → Data → Result Row RowFault
row_at kind.Media form d = file_at d >>= (λ f. Ok (row.Media f))
row_at kind.Layout form d = layout_at d >>= (λ l. Ok (row.Layout l))
row_at kind.Campaign form d = campaign_at d >>= (λ c. Ok (row.Campaign c))
row_at kind.Daypart form d = daypart_at form d >>= (λ x. Ok (row.Daypart x))
row_at kind.Group form d = group_at d >>= (λ g. Ok (row.Group g))
row_at kind.Display form d = display_at d >>= (λ x. Ok (row.Display x))
row_at kind.Event form d = event_row_at form d >>= (λ e. Ok (row.Event e))
row_at kind.Client form d = Err Shape
