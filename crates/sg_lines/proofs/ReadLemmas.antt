-- Takes of a source, one after another.
use Rattle.std.proofs.Common.{zero, suc, ◌≡◌, ◌≢◌, ◌∙◌, ◌<◌, ◌≤◌, ℕ, ◌+◌, Bool, true, false, List, [], ◌∷◌, ◌++◌, length, take, drop, get_or, inl, inr, ap, arith, refl, subst, sym, append_assoc, length-append}
use Rattle.std.proofs.KnownBytes.{Consumes-nil, Consumes-trans}
use Rattle.std.specs.Prelude.{Option, None, Some, MatchOption, slice_index}
use Rattle.std.specs.Io.KnownBytes.{Consumes, IsAtEnd}
use Rattle.std.proofs.lemmas.List.{append-nil}
use Rattle.sg_base.specs.Causes.{Rose}
use Rattle.sg_lines.specs.declared.stop.LineStop.{LineStop}
use Rattle.sg_lines.specs.declared.stop.LineStop.TheVariants as stop
use Rattle.sg_lines.specs.Reading.{HasNoFeed, Input, IsLong, Reader, Stops, StopsBy, Took, TookSome, Waits}

pub took_nothing : (before : Input) (r : Reader) → r.taken ≤ r.limit → Took before before r r []
took_nothing before r bound = record { bound = bound; taken = Consumes-nil before.left; held = sym (append-nil r.held); count = omega arith; limit = refl; most = refl; ended = refl; quiet = refl }

-- before anything came in
pub waits_now : (before : Input) (r : Reader) → r.taken ≤ r.limit → HasNoFeed r.held → length r.held ≤ r.most → Waits before before r r []
waits_now before r bound feeds few = record { took = took_nothing before r bound; feeds = feeds; few = few }

pub took_joined : (a b c : Input) (x y z : Reader) (bs cs : List ℕ) → Took a b x y bs → Took b c y z cs → Took a c x z (bs ++ cs)
took_joined a b c x y z bs cs first then = record {
  taken = Consumes-trans a.left b.left c.left bs cs first.taken then.taken;
  held = then.held ∙ (ap (λ (l : List ℕ). l ++ cs) first.held ∙ append_assoc x.held bs cs);
  count = omega (arith, first.count, then.count, length-append bs cs);
  bound = then.bound;
  limit = then.limit ∙ first.limit;
  most = then.most ∙ first.most;
  ended = then.ended ∙ first.ended;
  quiet = then.quiet ∙ first.quiet;
}

pub some_joined : (a b c : Input) (x y z : Reader) (cs : List ℕ) → TookSome a b x y → Took b c y z cs → TookSome a c x z
some_joined a b c x y z cs first then = (first.0 ++ cs, took_joined a b c x y z first.0 cs first.1 then)

waits_later : (a b c : Input) (x y z : Reader) (bs : List ℕ) (first : TookSome a b x y) → Waits b c y z bs → Waits a c x z (first.0 ++ bs)
waits_later a b c x y z bs first w = record { took = took_joined a b c x y z first.0 bs first.1 w.took; feeds = w.feeds; few = w.few }

stops_by_later : (a b c : Input) (x y : Reader) (why : LineStop) → TookSome a b x y → StopsBy b c y why → StopsBy a c x why
stops_by_later a b c x y stop.Read first h = (
  h.0,
  record {
    bytes = first.0 ++ h.1.bytes;
    between = h.1.between;
    waits = waits_later a b h.1.between x y h.0 h.1.bytes first h.1.waits;
    kept = h.1.kept;
    rose = h.1.rose;
  },
)
stops_by_later a b c x y stop.LongLine first h = (h.0, some_joined a b c x y h.0 h.1.0 first h.1.1, h.2)
stops_by_later a b c x y stop.TooLong first h = (
  h.0,
  record {
    bytes = first.0 ++ h.1.bytes;
    between = h.1.between;
    waits = waits_later a b h.1.between x y h.0 h.1.bytes first h.1.waits;
    full = h.1.full;
    more = h.1.more;
    came = h.1.came;
  },
)
stops_by_later a b c x y stop.Memory first h = (
  first.0 ++ h.0,
  Consumes-trans a.left b.left c.left first.0 h.0 first.1.taken h.1,
  omega (arith, first.1.count, first.1.limit, h.2, length-append first.0 h.0),
)

-- a stop after bytes came in
pub stops_later : (a b c : Input) (x y : Reader) (why : LineStop) → TookSome a b x y → Stops b c y why → Stops a c x why
stops_later a b c x y why first h = record {
  early = sym first.1.ended ∙ h.early;
  cause = stops_by_later a b c x y why first h.cause;
  quiet = λ other. h.quiet other ∙ first.1.quiet;
}

-- a line that is too long
pub stops_long : (a b : Input) (x y : Reader) → x.ended ≡ false → TookSome a b x y → IsLong y.held y.most → Stops a b x stop.LongLine
stops_long a b x y early took long = record { early = early; cause = (y, took, long); quiet = λ _. took.1.quiet }

-- a take of one byte
pub one_taken : (a b : Option (List ℕ)) (n : ℕ) (xs : List ℕ) → 0 < n → n ≤ 1 → n ≤ length xs → Consumes a b (take n xs) → (more : ℕ) × Consumes a b (more ∷ [])
one_taken a b zero xs some few inside came = absurd (omega arith)
one_taken a b (suc zero) [] some few inside came = absurd (omega arith)
one_taken a b (suc zero) (x ∷ xs) some few inside came = (x, came)
one_taken a b (suc (suc n)) xs some few inside came = absurd (omega arith)
