-- From the parts of a preview to the whole.
use Rattle.std.proofs.Common.{◌≡◌, ℕ, ◌+◌, ◌<◌, ◌≤◌, true, List, [], ◌∷◌, length, get_or, Contains, ◌⊎◌, inl, inr, Result, Ok, Err, MatchResult, zero, suc, refl, sym, lit<, arith}
use Rattle.sg_base.specs.declared.limits.TheConstants.{MANIFEST_TEXT}
use Rattle.sg_manifest.specs.declared.fault.ManifestFault.{ManifestFault}
use Rattle.sg_manifest.specs.declared.fault.ManifestFault.TheVariants.{Memory as OutOfMemory}
use Rattle.sg_lines.specs.Reading.{Input}
use Rattle.sg_manifest.specs.Faults.{has_cause}
use Rattle.sg_manifest.specs.Snapshot.{SnapshotRow}
use Rattle.signage.specs.declared.stop.Stop.{Stop}
use Rattle.signage.specs.declared.stop.Stop.TheVariants.{Usage, TooLong, NoManifest, Read, Memory}
use Rattle.sg_endings.specs.Texts.{memory_fault}
use Rattle.signage.specs.Stop.{status_of, text_of}
use Rattle.signage.specs.Lines.{lines_of}
use Rattle.sg_manifest.specs.Text.{IsManifest}
use Rattle.signage.specs.Preview.{TakesAll, Reads, IsPreview, body_of}
use Rattle.signage.specs.Loading.{ReadsSome, Stops, Refused}
use Rattle.signage.specs.Printing.{IsTimeline}

-- a fault that isn't want of memory is one of the bytes
pub cause_of : (fault : ManifestFault) → (fault ≡ OutOfMemory → ⊥) → has_cause fault ≡ true
cause_of OutOfMemory other = absurd (other refl)
cause_of fault other = refl

-- one of two statuses
two_cases : (status k : ℕ) → k < 2 → get_or (0 ∷ 9 ∷ []) k status ≡ status → (status ≡ 0) ⊎ (status ≡ 9)
two_cases status zero inside is = inl (sym is)
two_cases status (suc zero) inside is = inr (sym is)
two_cases status (suc (suc k)) inside is = absurd (omega arith)

pub timeline_cases : (status : ℕ) → Contains (0 ∷ 9 ∷ []) status → (status ≡ 0) ⊎ (status ≡ 9)
timeline_cases status known = two_cases status known.0 known.1 known.2

-- every line
pub all_lines : (s : SnapshotRow) (moments : List ℕ) → IsTimeline s moments 0 (lines_of s moments)
all_lines s moments = record { known = (0, lit< tt, refl); all = λ e. refl; memory = λ e. absurd (omega (arith, e)) }

-- no line, and want of memory
pub no_lines : (s : SnapshotRow) (moments : List ℕ) → IsTimeline s moments 9 memory_fault
no_lines s moments = record { known = (1, lit< tt, refl); all = λ e. absurd (omega (arith, e)); memory = λ e. refl }

-- a timeline of the snapshot that was read is a preview
pub previewed : (before after : Input) (s : SnapshotRow) (moments : List ℕ) → Reads before after s → (status : ℕ) (text : List ℕ) → IsTimeline s moments status text → IsPreview before after moments status text
previewed before after s moments reads status text t = record {
  known = elim (timeline_cases status t.known) [ inl e ↦ (0, lit< tt, sym e) | inr e ↦ (3, lit< tt, sym e) ];
  quiet = λ _. reads.quiet;
  shown = λ e. record { snapshot = s; reads = reads; lines = t.all e };
  refused = λ e. absurd (elim (timeline_cases status t.known) [ inl z ↦ omega (arith, e, z) | inr z ↦ omega (arith, e, z) ]);
  read = λ e. absurd (elim (timeline_cases status t.known) [ inl z ↦ omega (arith, e, z) | inr z ↦ omega (arith, e, z) ]);
  memory = t.memory;
}

-- and so is a stop with its cause
pub stop_preview : (before after : Input) (moments : List ℕ) (stop : Stop) → Stops before after stop → IsPreview before after moments (status_of stop) (text_of stop)
stop_preview before after moments Usage h = absurd h.cause
stop_preview before after moments TooLong h = record {
  known = (1, lit< tt, refl);
  quiet = λ _. h.quiet (λ e. cc);
  shown = λ e. absurd (omega (arith, e));
  refused = λ e. inl (h.cause, refl);
  read = λ e. absurd (omega (arith, e));
  memory = λ e. absurd (omega (arith, e));
}
stop_preview before after moments (NoManifest fault) h = record {
  known = (1, lit< tt, refl);
  quiet = λ _. h.quiet (λ e. cc);
  shown = λ e. absurd (omega (arith, e));
  refused = λ e. inr (fault, h.cause, refl);
  read = λ e. absurd (omega (arith, e));
  memory = λ e. absurd (omega (arith, e));
}
stop_preview before after moments Read h = record {
  known = (2, lit< tt, refl);
  quiet = λ other. absurd (other refl);
  shown = λ e. absurd (omega (arith, e));
  refused = λ e. absurd (omega (arith, e));
  read = λ e. (h.cause, refl);
  memory = λ e. absurd (omega (arith, e));
}
stop_preview before after moments Memory h = record {
  known = (3, lit< tt, refl);
  quiet = λ _. h.quiet (λ e. cc);
  shown = λ e. absurd (omega (arith, e));
  refused = λ e. absurd (omega (arith, e));
  read = λ e. absurd (omega (arith, e));
  memory = λ e. refl;
}

-- the whole of an input that is short enough was taken
all_taken : (before after : Input) (input : List ℕ) → ReadsSome before.left after.left input → length input ≤ MANIFEST_TEXT + 1 → TakesAll before after input
all_taken before after input some short = record {
  taken = some.taken;
  end = elim some.whole [ inl long ↦ absurd (omega (arith, long, short)) | inr e ↦ e.1 ];
  short = short;
}

-- an input that was read, and what its bytes are
pub loaded : (before after : Input) (input : List ℕ) (r : Result SnapshotRow Stop) → ReadsSome before.left after.left input → after.faults ≡ before.faults → length input ≤ MANIFEST_TEXT + 1
    → MatchResult r (λ s. IsManifest (body_of input) s) (λ stop. Refused (body_of input) stop) → MatchResult r (λ s. Reads before after s) (λ stop. Stops before after stop)
loaded before after input (Ok s) some calm short is = record { quiet = calm; input = input; taken = all_taken before after input some short; is = is }
loaded before after input (Err Usage) some calm short h = absurd h
loaded before after input (Err TooLong) some calm short h = absurd h
loaded before after input (Err (NoManifest fault)) some calm short h = record { cause = record { input = input; taken = all_taken before after input some short; first = h }; quiet = λ _. calm }
loaded before after input (Err Read) some calm short h = absurd h
loaded before after input (Err Memory) some calm short h = record { cause = tt; quiet = λ _. calm }
