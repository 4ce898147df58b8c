-- How a step of a sync ends, and what it leaves.
use Rattle.std.specs.Prelude.{◌≡◌, ◌≢◌, ◌⊎◌, ◌↔◌, IsTrue, ℕ, ◌+◌, ◌^◌, ◌-◌, ◌==◌, Bool, true, false, List, [], None, Some, Result, Ok, Err, length, if◌then◌else◌}
use Rattle.std.specs.declared.option.Option.{Option}
use Rattle.md5.specs.Md5.{md5}
use Rattle.sg_base.specs.declared.file.Listed.{Listed}
use Rattle.sg_devices.specs.declared.link.Exchange.{Exchange}
use Rattle.sg_exchange.specs.Asking.{Caller, Hears}
use Rattle.sg_exchange.specs.declared.heard.TheConstants.{REPLY_ROOM}
use Rattle.sg_exchange.specs.declared.heard.Wants.TheVariants.{AtMost}
use Rattle.sg_exchange.specs.Heard.{Outcome, Whole, LinkFault, NotHttp, Cut, Status, Length}
use Rattle.sg_exchange.specs.Requests.{manifest_request}
use Rattle.sg_base.specs.declared.limits.TheConstants.{MANIFEST_TEXT}
use Rattle.sg_fetch.specs.Fetching.{calls_of as fetch_calls_of, is_link_stay}
use Rattle.sg_sync.specs.declared.list.Begun.{Begun}
use Rattle.sg_intake.specs.Stocks.{Stock, Stays}
use Rattle.sg_listing.specs.Plans.{Plan, plan}
use Rattle.sg_manifest.specs.declared.fault.ManifestFault.{ManifestFault}
use Rattle.sg_manifest.specs.Reading.{manifest_at}
use Rattle.sg_manifest.specs.Snapshot.{SnapshotRow}
use Rattle.sg_missing.specs.Missing.{Holding, missing, IsPart, IsUnderWay}
use Rattle.sg_placing.specs.Placing.{is_listed}
use Rattle.sg_timeline.specs.declared.step.Cause.{Cause}
use Rattle.sg_timeline.specs.declared.step.Cause.TheVariants as cause
use Rattle.sg_timeline.specs.declared.step.StepEnd.{StepEnd}
use Rattle.sg_timeline.specs.declared.step.StepEnd.TheVariants.{Listed as ListedNow, Piece, Sealed, Switched, UpToDate, Stay}

-- a display with its key, and the snapshot that it is getting, if there is one
pub record Syncing : Type 0 where
  pub caller : Caller
  pub plan : Option Plan

-- A sync goes on after an exchange that failed or was cut. Every other stay ends it.
abbrev pub stays_under_way : Cause → Bool
stays_under_way cause.LinkFault = true
stays_under_way (cause.Cut got n) = true
stays_under_way _ = false

abbrev pub goes_on : StepEnd → Bool
goes_on (Stay why) = stays_under_way why
goes_on (Piece media at) = true
goes_on (Sealed media) = true
goes_on _ = false

-- the snapshot that is being got after a step
abbrev pub plan_after : StepEnd → Plan → Option Plan
plan_after end p = if goes_on end then Some p else None

-- What was staged is given up, but for files that a snapshot lists; and of these the one of which a part is staged,
-- unless it is the first that isn't whole.
pub record Begins (old : Stock) (files : List Listed) (new : Stock) : Type 0 where
  pub holds : (f : Listed) → is_listed files f ≡ true → new.here.holds f ≡ old.here.holds f
  pub under_way : IsUnderWay new.here files
  pub part : new.here.part ≢ None → new.here.part ≡ old.here.part
  pub came : (bytes : List ℕ) → new.here.part ≢ None → old.came bytes → new.came bytes

-- How a text ends an idle sync that isn't that of the snapshot: it is listed with its missing pieces, or has a fault.
abbrev pub ListEnds : List ℕ → Stock → Stock → Option Plan → StepEnd → Type 0
ListEnds text old new getting end =
    ((s : SnapshotRow) × (manifest_at text ≡ Ok s) × Begins old s.files new × (getting ≡ Some (plan text s))
    × (end ≡ ListedNow (length (missing new.here s.files))))
    ⊎ ((fault : ManifestFault) × (manifest_at text ≡ Err fault) × Stays old new × (getting ≡ None)
    × (end ≡ Stay (cause.Manifest fault)))

-- How what was heard of the manifest ends an idle sync. The text of the snapshot says that nothing is new.
abbrev pub TextEnds : Bool → List ℕ → Stock → Stock → Option Plan → StepEnd → Type 0
TextEnds true text old new getting end = Stays old new × (getting ≡ None) × (end ≡ UpToDate)
TextEnds false text old new getting end = ListEnds text old new getting end

-- it is so exactly where the text is that of the snapshot, by what is known of that
abbrev pub IsShown : (Option (List ℕ) → Type 0) → List ℕ → Bool → Type 0
IsShown shows text same = (shown : Option (List ℕ)) → shows shown → (IsTrue same ↔ (shown ≡ Some text))

abbrev pub StaysFor : Cause → Stock → Stock → Option Plan → StepEnd → Type 0
StaysFor why old new getting end = Stays old new × (getting ≡ None) × (end ≡ Stay why)

abbrev pub ManifestEnds : (Option (List ℕ) → Type 0) → Outcome → Stock → Stock → Option Plan → StepEnd → Type 0
ManifestEnds shows (Whole text) old new getting end =
    (same : Bool) × IsShown shows text same × TextEnds same text old new getting end
ManifestEnds shows (Cut got n body) old new getting end = StaysFor (cause.Cut got n) old new getting end
ManifestEnds shows LinkFault old new getting end = StaysFor cause.LinkFault old new getting end
ManifestEnds shows NotHttp old new getting end = StaysFor cause.NotHttp old new getting end
ManifestEnds shows (Status status) old new getting end = StaysFor (cause.Status status) old new getting end
ManifestEnds shows (Length got expected) old new getting end = StaysFor (cause.Length got expected) old new getting end

-- exactly this exchange was made, the request for the manifest
abbrev pub AsksForManifest : Caller → Option (List Exchange) → Option (List Exchange) → Outcome → Type 0
AsksForManifest caller asked told outcome =
    Hears REPLY_ROOM asked told (manifest_request caller.display caller.key) (AtMost MANIFEST_TEXT) outcome

-- A switch by the number of the snapshot before it: the next number, and the MD5 of the new text; or the numbers
-- are used up
abbrev pub switch_end : ℕ → List ℕ → StepEnd
switch_end number text = if number == 2 ^ 32 - 1 then Stay cause.Spent else Switched (number + 1) (md5 text)

-- what is staged is as a step leaves it: while a snapshot is being got, nothing in part but bytes of its first file
-- that isn't whole
abbrev pub IsFit : Option Plan → Holding → Type 0
IsFit None here = IsPart here.part
IsFit (Some p) here = IsUnderWay here p.snapshot.files

-- the link is blamed by a step that asked for the manifest
abbrev pub is_link_begin : {E : Type 0} → Result Begun E → Bool
is_link_begin (Ok begun) = is_link_stay begun.end
is_link_begin (Err why) = false

-- the disk calls that a step makes at least, where a seal and a switch make so many
abbrev pub switch_calls_of : ℕ → StepEnd → ℕ
switch_calls_of switch (Switched number md5) = switch
switch_calls_of switch _ = 0

abbrev pub calls_of : ℕ → ℕ → StepEnd → ℕ
calls_of seal switch end = fetch_calls_of seal end + switch_calls_of switch end
