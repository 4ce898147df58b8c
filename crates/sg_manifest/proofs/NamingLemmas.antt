-- Where an id is looked for among others in another order, the answer is the same.
use Rattle.std.proofs.Common.{◌≡◌, ℕ, ◌==◌, Bool, List, [], ◌∷◌, Option, refl, ap, ap₂, subst, true, false}
use Rattle.std.proofs.lemmas.List.Sorted.{list_any-IsPermutation}
use Rattle.std.specs.Prelude.{if◌then◌else◌, None, Some, IfSome}
use Rattle.std.specs.List.{list_any}
use Rattle.std.specs.List.Sorted.{IsPermutation}
use Rattle.sg_base.specs.declared.layout.Region.{Region}
use Rattle.sg_base.specs.declared.campaign.Campaign.{Campaign as CampaignRow}
use Rattle.sg_base.specs.declared.event.When.{When}
use Rattle.sg_base.specs.declared.event.When.TheVariants.{Always, Custom, Named}
use Rattle.sg_base.specs.declared.event.Target.{Target}
use Rattle.sg_base.specs.declared.event.Target.TheVariants as target
use Rattle.sg_base.specs.Faults.{first_of, first_in}
use Rattle.sg_base.specs.Layout.{LayoutRow}
use Rattle.sg_base.specs.declared.kind.Kind.{Kind}
use Rattle.sg_base.specs.declared.kind.Kind.TheVariants.{Media, Layout, Campaign, Daypart}
use Rattle.sg_manifest.specs.declared.fault.ManifestFault.{ManifestFault}
use Rattle.sg_manifest.specs.declared.fault.ManifestFault.TheVariants.{Dangling}
use Rattle.sg_manifest.specs.Snapshot.{SnapshotRow, layout_ids, campaign_ids, daypart_ids, file_ids}
use Rattle.sg_manifest.specs.Faults.{nests_memory}
use Rattle.sg_manifest.specs.Reading.{missing, missing_media, missing_file, missing_layout, missing_target, missing_daypart, missing_in_target, missing_in_when, dangling_by, dangling}

missing_same : (kind : Kind) (xs ys : List ℕ) → IsPermutation xs ys → (id : ℕ) → missing kind xs id ≡ missing kind ys id
missing_same kind xs ys moved id = ap (λ (b : Bool). if b then None else Some (Dangling kind id)) (list_any-IsPermutation (λ n. n == id) xs ys moved)

first_same : {X F : Type 0} (f g : X → Option F) → ((x : X) → f x ≡ g x) → (xs : List X) → first_in f xs ≡ first_in g xs
first_same f g same [] = refl
first_same f g same (x ∷ xs) = ap₂ first_of (same x) (first_same f g same xs)

media_same : (xs ys : List ℕ) → IsPermutation xs ys → (r : Region) → missing_media xs r ≡ missing_media ys r
media_same xs ys moved r = first_same (λ i. missing Media xs i.media.0) (λ i. missing Media ys i.media.0) (λ i. missing_same Media xs ys moved i.media.0) r.items

file_same : (xs ys : List ℕ) → IsPermutation xs ys → (l : LayoutRow) → missing_file xs l ≡ missing_file ys l
file_same xs ys moved l = first_same (missing_media xs) (missing_media ys) (media_same xs ys moved) l.regions

layout_same : (xs ys : List ℕ) → IsPermutation xs ys → (c : CampaignRow) → missing_layout xs c ≡ missing_layout ys c
layout_same xs ys moved c = first_same (λ l. missing Layout xs l.0) (λ l. missing Layout ys l.0) (λ l. missing_same Layout xs ys moved l.0) c.layouts

target_same : (xs ys vs ws : List ℕ) → IsPermutation xs ys → IsPermutation vs ws → (t : Target) → missing_target xs vs t ≡ missing_target ys ws t
target_same xs ys vs ws moved moves (target.Layout id) = missing_same Layout xs ys moved id.0
target_same xs ys vs ws moved moves (target.Campaign id) = missing_same Campaign vs ws moves id.0

daypart_same : (xs ys : List ℕ) → IsPermutation xs ys → (w : When) → missing_daypart xs w ≡ missing_daypart ys w
daypart_same xs ys moved Always = refl
daypart_same xs ys moved (Custom from to) = refl
daypart_same xs ys moved (Named daypart date) = missing_same Daypart xs ys moved daypart.0

pub dangling_same : (s : SnapshotRow) (ls cs ds fs : List ℕ) → IsPermutation (layout_ids s) ls → IsPermutation (campaign_ids s) cs → IsPermutation (daypart_ids s) ds → IsPermutation (file_ids s) fs
    → dangling_by s ls cs ds fs ≡ dangling s
dangling_same s ls cs ds fs l c d f =
    rw (
      ← missing_same Layout (layout_ids s) ls l s.default.0,
      ← first_same (missing_file (file_ids s)) (missing_file fs) (file_same (file_ids s) fs f) s.layouts,
      ← first_same (missing_layout (layout_ids s)) (missing_layout ls) (layout_same (layout_ids s) ls l) s.campaigns,
      ← first_same (missing_in_target (layout_ids s) (campaign_ids s)) (missing_in_target ls cs) (λ e. target_same (layout_ids s) ls (campaign_ids s) cs l c e.target) s.events,
      ← first_same (missing_in_when (daypart_ids s)) (missing_in_when ds) (λ e. daypart_same (daypart_ids s) ds d e.when) s.events,
    ) refl

-- ---- what is missing is a fault of its own

abbrev IsOwn : Option ManifestFault → Type 0
IsOwn o = IfSome o (λ fault. nests_memory fault ≡ false)

own_if : (b : Bool) (kind : Kind) (id : ℕ) → IsOwn (if b then None else Some (Dangling kind id))
own_if true kind id = tt
own_if false kind id = refl

own_missing : (kind : Kind) (ids : List ℕ) (id : ℕ) → IsOwn (missing kind ids id)
own_missing kind ids id = own_if (list_any (λ n. n == id) ids) kind id

own_first : (a b : Option ManifestFault) → IsOwn a → IsOwn b → IsOwn (first_of a b)
own_first None b h k = k
own_first (Some f) b h k = h

own_in : {X : Type 0} (f : X → Option ManifestFault) → ((x : X) → IsOwn (f x)) → (xs : List X) → IsOwn (first_in f xs)
own_in f each [] = tt
own_in f each (x ∷ xs) = own_first (f x) (first_in f xs) (each x) (own_in f each xs)

own_target : (ls cs : List ℕ) (t : Target) → IsOwn (missing_target ls cs t)
own_target ls cs (target.Layout id) = own_missing Layout ls id.0
own_target ls cs (target.Campaign id) = own_missing Campaign cs id.0

own_daypart : (ds : List ℕ) (w : When) → IsOwn (missing_daypart ds w)
own_daypart ds Always = tt
own_daypart ds (Custom from to) = tt
own_daypart ds (Named daypart date) = own_missing Daypart ds daypart.0

own_dangling : (s : SnapshotRow) → IsOwn (dangling s)
own_dangling s =
    own_first _ _ (own_missing Layout (layout_ids s) s.default.0)
    (own_first _ _ (own_in (missing_file (file_ids s)) (λ l. own_in (missing_media (file_ids s)) (λ r. own_in (λ i. missing Media (file_ids s) i.media.0) (λ i. own_missing Media (file_ids s) i.media.0) r.items) l.regions) s.layouts)
    (own_first _ _ (own_in (missing_layout (layout_ids s)) (λ c. own_in (λ l. missing Layout (layout_ids s) l.0) (λ l. own_missing Layout (layout_ids s) l.0) c.layouts) s.campaigns)
    (own_first _ _ (own_in (missing_in_target (layout_ids s) (campaign_ids s)) (λ e. own_target (layout_ids s) (campaign_ids s) e.target) s.events)
    (own_in (missing_in_when (daypart_ids s)) (λ e. own_daypart (daypart_ids s) e.when) s.events))))

pub own_fault : (s : SnapshotRow) (fault : ManifestFault) → dangling s ≡ Some fault → nests_memory fault ≡ false
own_fault s fault e = subst IsOwn e (own_dangling s)
