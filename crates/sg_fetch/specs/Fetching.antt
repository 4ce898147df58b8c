-- How the fetching of a piece ends.
use Rattle.std.specs.Prelude.{◌≡◌, ◌⊎◌, ℕ, ◌+◌, ◌<◌, ◌≤◌, ◌==◌, Bool, true, false, List, [], None, Some, Result, Ok, Err, length}
use Rattle.std.specs.declared.option.Option.{Option}
use Rattle.sg_base.specs.declared.file.Listed.{Listed}
use Rattle.sg_devices.specs.declared.link.Exchange.{Exchange}
use Rattle.sg_exchange.specs.Asking.{Caller, Hears}
use Rattle.sg_exchange.specs.declared.heard.TheConstants.{REPLY_ROOM}
use Rattle.sg_exchange.specs.declared.heard.Wants.TheVariants.{Exactly}
use Rattle.sg_exchange.specs.Heard.{Outcome, Whole, LinkFault, NotHttp, Cut, Status, Length}
use Rattle.sg_exchange.specs.Requests.{piece_request}
use Rattle.sg_missing.specs.declared.wanted.Wanted.{Wanted}
use Rattle.sg_missing.specs.Missing.{IsAlone, staged_of}
use Rattle.sg_missing.specs.Pieces.{piece_end}
use Rattle.sg_timeline.specs.declared.step.Cause.TheVariants as cause
use Rattle.sg_timeline.specs.declared.step.StepEnd.{StepEnd}
use Rattle.sg_timeline.specs.declared.step.StepEnd.TheVariants.{Piece, Sealed, Stay}
use Rattle.sg_intake.specs.declared.intake.Lack.{Lack}
use Rattle.sg_intake.specs.Stocks.{Stock, Stays, Gains, Seals, GivesUp}

-- What a whole piece makes of a store, and how that ends, by whether it is the last of its file. The last one seals
-- the file, or shows that its bytes have another MD5.
abbrev pub WholeEnds : Bool → Wanted → Stock → List ℕ → Stock → StepEnd → Type 0
WholeEnds false piece old body new end = Gains old piece.file body new × (end ≡ Piece piece.file.media piece.at)
WholeEnds true piece old body new end =
    (Seals old piece.file body new × (end ≡ Sealed piece.file.media))
    ⊎ ((found : List ℕ) × GivesUp old piece.file body found new
    × (end ≡ Stay (cause.DigestDiffers piece.file.media piece.file.md5 found)))

-- What was heard makes this of a store, and ends so. The bytes of a piece that was cut are taken in.
abbrev pub PieceEnds : Wanted → Stock → Outcome → Stock → StepEnd → Type 0
PieceEnds piece old (Whole body) new end =
    (length body ≡ piece.count) × WholeEnds (piece.at + piece.count == piece.file.length) piece old body new end
PieceEnds piece old (Cut got n body) new end =
    (length body < piece.count) × Gains old piece.file body new × (end ≡ Stay (cause.Cut got n))
PieceEnds piece old LinkFault new end = Gains old piece.file [] new × (end ≡ Stay cause.LinkFault)
PieceEnds piece old NotHttp new end = Gains old piece.file [] new × (end ≡ Stay cause.NotHttp)
PieceEnds piece old (Status status) new end = Gains old piece.file [] new × (end ≡ Stay (cause.Status status))
PieceEnds piece old (Length got expected) new end =
    Gains old piece.file [] new × (end ≡ Stay (cause.Length got expected))

-- what a file lacks that is to be begun: where a part of it is staged it lacks nothing
abbrev pub lack_of : Option (Listed × ℕ) → Option Lack → Option Lack
lack_of None lack = lack
lack_of (Some part) lack = None

-- exactly this exchange was made, the request for a piece
abbrev pub AsksFor : Caller → Wanted → Option (List Exchange) → Option (List Exchange) → Outcome → Type 0
AsksFor caller piece asked told outcome =
    Hears REPLY_ROOM asked told (piece_request caller.display caller.key piece.file.media.0 piece.at)
    (Exactly piece.count) outcome

-- A piece is fetched, by what its file lacks that is to be begun. Where there is no room nothing is asked and
-- nothing changes.
abbrev pub Fetches : Option Lack → Caller → Wanted → Option (List Exchange) → Option (List Exchange) → Stock → Stock
    → StepEnd → Type 0
Fetches (Some lack) caller piece asked told old new end =
    (told ≡ asked) × Stays old new × (end ≡ Stay (cause.NoSpace lack.need lack.largest))
Fetches None caller piece asked told old new end =
    (outcome : Outcome) × AsksFor caller piece asked told outcome × PieceEnds piece old outcome new end

-- a piece came whole, and with it its file if it was the last one
abbrev pub comes_whole : StepEnd → Bool
comes_whole (Piece media at) = true
comes_whole (Sealed media) = true
comes_whole _ = false

-- the link is blamed
abbrev pub is_link_stay : StepEnd → Bool
is_link_stay (Stay cause.LinkFault) = true
is_link_stay _ = false

abbrev pub is_link_answer : {E : Type 0} → Result StepEnd E → Bool
is_link_answer (Ok end) = is_link_stay end
is_link_answer (Err why) = false

abbrev pub is_link_end : {E : Type 0} → Result (Option StepEnd) E → Bool
is_link_end (Ok None) = false
is_link_end (Ok (Some end)) = is_link_stay end
is_link_end (Err why) = false

-- the disk calls that a step makes at least, where a seal makes so many
abbrev pub calls_of : ℕ → StepEnd → ℕ
calls_of seal (Sealed media) = seal
calls_of seal _ = 0

-- a piece is the next of a file, by what is staged of it
pub record IsNext (part : Option (Listed × ℕ)) (piece : Wanted) : Type 0 where
  pub alone : IsAlone part piece.file
  pub begins : piece.at ≡ staged_of part piece.file
  pub ends : piece.at + piece.count ≡ piece_end piece.at piece.file.length
  pub some : 1 ≤ piece.count
