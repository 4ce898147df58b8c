-- From a reader of lines to the lines of an input.
use Rattle.std.proofs.Common.{◌≡◌, ◌∙◌, ◌<◌, ◌≤◌, ℕ, ◌+◌, ◌-◌, false, List, [], ◌∷◌, ◌++◌, inl, inr, length, take, drop, get_or, refl, sym, ap, subst, arith, append_assoc, length-append, take-append-drop}
use Rattle.std.proofs.KnownBytes.{Consumes-nil, Consumes-trans}
use Rattle.std.proofs.lemmas.List.{append-nil, drop_more, get_or-take, length-drop, length-take}
use Rattle.std.specs.Io.KnownBytes.{Consumes}
use Rattle.sg_base.specs.declared.limits.TheConstants.{MAX_BODY, MAX_TAKEN}
use Rattle.sg_edit_command.proofs.FoldLemmas.{all_more, length_more, text_more}
use Rattle.sg_edit_command.specs.Answering.{HasGiven, IsReading}
use Rattle.sg_edit_command.specs.Reading.{CannotRead, IsLine, ReadsAll, ReadsLines, ReadsLong, ReadsNext, ReadsTooMuch, last_line, text_of}
use Rattle.sg_lines.specs.Reading.{CannotTake, Gives, GivesLast, GivesLine, GivesNone, Input, IsFirstFeed, IsLong, IsTooLong, Reader, Took, TookSome}

-- ---- bytes that came in

-- more bytes after those that are held
pub reads_more : (a b c : Input) (lines : List (List ℕ)) (held bytes : List ℕ) → ReadsLines a b lines held → Consumes b.left c.left bytes
    → length (text_of lines ++ held) + length bytes ≤ MAX_TAKEN → c.faults ≡ b.faults → ReadsLines a c lines (held ++ bytes)
reads_more a b c lines held bytes r came few quiet = record {
  taken = subst (Consumes a.left c.left) (append_assoc (text_of lines) held bytes) (Consumes-trans a.left b.left c.left (text_of lines ++ held) bytes r.taken came);
  few = rw (← append_assoc (text_of lines) held bytes, length-append (text_of lines ++ held) bytes) few;
  each = r.each;
  quiet = quiet ∙ r.quiet;
}

-- a reader that took bytes is one that reads
pub takes_more : (a b c : Input) (r s : Reader) (given : List (List ℕ)) (bytes : List ℕ) → HasGiven a b r given → r.ended ≡ false → Took b c r s bytes → IsReading a c s given
takes_more a b c r s given bytes h early took =
    let reading : IsReading a b r given = h.early early in
    let few : length (text_of given ++ r.held) + length bytes ≤ MAX_TAKEN = omega (arith, reading.taken, took.count, took.bound, took.limit, h.limit) in
    let read : ReadsLines a c given (r.held ++ bytes) = reads_more a b c given r.held bytes reading.read took.taken few took.quiet in
    record {
      read = subst (ReadsLines a c given) (sym took.held) read;
      taken =
          let long : length (text_of given ++ (r.held ++ bytes)) ≡ length (text_of given ++ r.held) + length bytes =
          ap (λ (t : List ℕ). length t) (sym (append_assoc (text_of given) r.held bytes)) ∙ length-append (text_of given ++ r.held) bytes in
          rw took.held (omega (arith, long, reading.taken, took.count));
    }

-- ---- a line

-- the bytes up to the first line feed, and those after it
feed_split : (bytes : List ℕ) (at : ℕ) → at < length bytes → get_or bytes at 0 ≡ 10 → bytes ≡ take at bytes ++ 10 ∷ drop (at + 1) bytes
feed_split bytes at inside feed =
    sym (take-append-drop at bytes) ∙ ap (λ (l : List ℕ). take at bytes ++ l) (drop_more bytes at 0 inside ∙ ap (λ (n : ℕ). n ∷ drop (at + 1) bytes) feed)

line_of : (bytes : List ℕ) (at : ℕ) → IsFirstFeed bytes at → at ≤ MAX_BODY → IsLine (take at bytes)
line_of bytes at feed few =
    let long : length (take at bytes) ≤ at = omega (arith, length-take at bytes) in
    record {
      feeds = λ k inside is. feed.first k (omega (arith, inside, long)) (sym (get_or-take at bytes k 0 (omega (arith, inside, long))) ∙ is);
      short = omega (arith, long, few);
    }

-- the line that a reader gives comes after those before it
pub next_read : (a b c : Input) (r s : Reader) (given : List (List ℕ)) (line : List ℕ) → HasGiven a b r given → Gives b c r s line → ReadsNext a c given line
next_read a b c r s given line h (inl g) =
    let reading : IsReading a c g.mid given = takes_more a b c r g.mid given g.took.0 h g.early g.took.1 in
    record {
      others = g.mid.held;
      read = reading.read;
      is = rw g.is (line_of g.mid.held g.at g.feed (omega (arith, g.few, g.took.1.most, h.most)));
      end = inl (drop (g.at + 1) g.mid.held, feed_split g.mid.held g.at g.feed.inside g.feed.feed ∙ ap (λ (l : List ℕ). l ++ 10 ∷ drop (g.at + 1) g.mid.held) (sym g.is));
    }
next_read a b c r s given line h (inr g) =
    let reading : IsReading a c g.mid given = takes_more a b c r g.mid given g.took.0 h g.early g.took.1 in
    record {
      others = g.mid.held;
      read = reading.read;
      is = rw g.is (record { feeds = g.feeds; short = omega (arith, g.few, g.took.1.most, h.most) });
      end = inr (rw g.is g.some, sym g.is, g.end);
    }

-- ---- what a reader has given

-- there are as many bytes as lines at least
few_lines : (lines : List (List ℕ)) → length lines ≤ length (text_of lines)
few_lines [] = omega arith
few_lines (line ∷ lines) = omega (arith, few_lines lines, length-append line (10 ∷ text_of lines))

-- before any line
given_none : (a : Input) (r : Reader) → r.held ≡ [] → r.taken ≡ 0 → r.limit ≡ MAX_TAKEN → r.most ≡ MAX_BODY → r.ended ≡ false → HasGiven a a r []
given_none a r held taken limit most early = record {
  limit = limit;
  most = most;
  bound = omega (arith, taken);
  count = omega arith;
  early = λ _. record {
    read = record {
      taken = subst (Consumes a.left a.left) (sym held) (Consumes-nil a.left);
      few = rw held (omega arith);
      each = tt;
      quiet = refl;
    };
    taken = rw held taken;
  };
  late = λ late. absurd cc;
}

pub given_new : (a : Input) (r : Reader) → r ≡ record { held = []; taken = 0; limit = MAX_TAKEN; most = MAX_BODY; ended = false } → HasGiven a a r []
given_new a r is =
    given_none a r (ap (λ (r : Reader). r.held) is) (ap (λ (r : Reader). r.taken) is) (ap (λ (r : Reader). r.limit) is) (ap (λ (r : Reader). r.most) is)
    (ap (λ (r : Reader). r.ended) is)

-- the bytes of a line that its line feed ends
more_read : (a c : Input) (given : List (List ℕ)) (line held after : List ℕ) → ReadsLines a c given held → IsLine line → held ≡ line ++ 10 ∷ after → ReadsLines a c (given ++ line ∷ []) after
more_read a c given line held after r is split =
    let same : text_of (given ++ line ∷ []) ++ after ≡ text_of given ++ held = text_more given line after ∙ ap (λ (l : List ℕ). text_of given ++ l) (sym split) in
    record {
      taken = subst (Consumes a.left c.left) (sym same) r.taken;
      few = rw same r.few;
      each = all_more IsLine given line r.each is;
      quiet = r.quiet;
    }

last_one : (line : List ℕ) → 0 < length line → last_line line ≡ line ∷ []
last_one [] some = absurd (omega arith)
last_one (b ∷ bs) some = refl

-- with the line that a line feed ends
pub given_line : (a b c : Input) (r s : Reader) (given : List (List ℕ)) (line : List ℕ) → HasGiven a b r given → GivesLine b c r s line → HasGiven a c s (given ++ line ∷ [])
given_line a b c r s given line h g =
    let took = g.took.1 in
    let reading : IsReading a c g.mid given = takes_more a b c r g.mid given g.took.0 h g.early took in
    let after : List ℕ = drop (g.at + 1) g.mid.held in
    let is : IsLine line = rw g.is (line_of g.mid.held g.at g.feed (omega (arith, g.few, took.most, h.most))) in
    let split : g.mid.held ≡ line ++ 10 ∷ after = feed_split g.mid.held g.at g.feed.inside g.feed.feed ∙ ap (λ (l : List ℕ). l ++ 10 ∷ after) (sym g.is) in
    let same : text_of (given ++ line ∷ []) ++ after ≡ text_of given ++ g.mid.held = text_more given line after ∙ ap (λ (l : List ℕ). text_of given ++ l) (sym split) in
    rw g.left (record {
      limit = took.limit ∙ h.limit;
      most = took.most ∙ h.most;
      bound = omega (arith, took.bound, took.limit, h.limit);
      count = rw (length_more given line) (omega (arith, few_lines given, reading.taken, length-append (text_of given) g.mid.held, g.feed.inside));
      early = λ _. record { read = more_read a c given line g.mid.held after reading.read is split; taken = rw same reading.taken };
      late = λ late. absurd (let false_is : g.mid.ended ≡ false = took.ended ∙ g.early in cc);
    })

-- with a last line
pub given_last : (a b c : Input) (r s : Reader) (given : List (List ℕ)) (line : List ℕ) → HasGiven a b r given → GivesLast b c r s line → HasGiven a c s (given ++ line ∷ [])
given_last a b c r s given line h g =
    let took = g.took.1 in
    let reading : IsReading a c g.mid given = takes_more a b c r g.mid given g.took.0 h g.early took in
    rw g.left (record {
      limit = took.limit ∙ h.limit;
      most = took.most ∙ h.most;
      bound = omega (arith, took.bound, took.limit, h.limit);
      count = rw (length_more given line) (omega (arith, few_lines given, reading.taken, length-append (text_of given) g.mid.held, g.some));
      early = λ early. absurd cc;
      late = λ _. record {
        whole = given;
        others = g.mid.held;
        read = reading.read;
        end = g.end;
        last = record { feeds = g.feeds; short = omega (arith, g.few, took.most, h.most) };
        are = ap (λ (ls : List (List ℕ)). given ++ ls) (ap (λ (l : List ℕ). l ∷ []) g.is ∙ sym (last_one g.mid.held g.some));
      };
    })

pub given_more : (a b c : Input) (r s : Reader) (given : List (List ℕ)) (line : List ℕ) → HasGiven a b r given → Gives b c r s line → HasGiven a c s (given ++ line ∷ [])
given_more a b c r s given line h (inl g) = given_line a b c r s given line h g
given_more a b c r s given line h (inr g) = given_last a b c r s given line h g

-- and no line more
pub given_all : (a b c : Input) (r s : Reader) (given : List (List ℕ)) → HasGiven a b r given → GivesNone b c r s → ReadsAll a c given
given_all a b c r s given h (inl g) =
    let reading : IsReading a c g.mid given = takes_more a b c r g.mid given g.took.0 h g.early g.took.1 in
    record {
      whole = given;
      others = [];
      read = subst (ReadsLines a c given) g.none reading.read;
      end = g.end;
      last = record { feeds = λ k inside. absurd (omega (arith, inside)); short = omega arith };
      are = sym (append-nil given);
    }
given_all a b c r s given h (inr g) = subst (λ (i : Input). ReadsAll a i given) (sym g.source) (h.late g.ended)

-- ---- why no line is given

pub long_read : (a b c : Input) (r s : Reader) (given : List (List ℕ)) → HasGiven a b r given → r.ended ≡ false → TookSome b c r s → IsLong s.held s.most → ReadsLong a c given
long_read a b c r s given h early took long =
    let reading : IsReading a c s given = takes_more a b c r s given took.0 h early took.1 in
    let most : s.most ≡ MAX_BODY = took.1.most ∙ h.most in
    record { others = s.held; read = reading.read; long = subst (IsLong s.held) most long }

pub too_much_read : (a b c : Input) (r s : Reader) (given : List (List ℕ)) → HasGiven a b r given → r.ended ≡ false → IsTooLong b c r s → c.faults ≡ b.faults → ReadsTooMuch a c given
too_much_read a b c r s given h early t quiet =
    let took = t.waits.took in
    let reading : IsReading a t.between s given = takes_more a b t.between r s given t.bytes h early took in
    record {
      others = s.held;
      between = t.between;
      read = reading.read;
      part = record { feeds = t.waits.feeds; short = omega (arith, t.waits.few, took.most, h.most) };
      full = omega (arith, reading.taken, t.full, took.limit, h.limit);
      more = t.more;
      came = t.came;
      quiet = quiet ∙ (h.early early).read.quiet;
    }

pub cannot_read : (a b c : Input) (r s : Reader) (given : List (List ℕ)) → HasGiven a b r given → r.ended ≡ false → CannotTake b c r s → CannotRead a c given
cannot_read a b c r s given h early t =
    let took = t.waits.took in
    let reading : IsReading a t.between s given = takes_more a b t.between r s given t.bytes h early took in
    record {
      others = s.held;
      between = t.between;
      read = reading.read;
      part = record { feeds = t.waits.feeds; short = omega (arith, t.waits.few, took.most, h.most) };
      kept = t.kept;
      rose = t.rose;
    }

-- the bytes that came in where memory ran out
pub some_read : (a b c : Input) (r : Reader) (given : List (List ℕ)) (bytes : List ℕ) → HasGiven a b r given → r.ended ≡ false → Consumes b.left c.left bytes → r.taken + length bytes ≤ r.limit
    → c.faults ≡ b.faults → ReadsLines a c given (r.held ++ bytes)
some_read a b c r given bytes h early came few quiet =
    let reading : IsReading a b r given = h.early early in
    reads_more a b c given r.held bytes reading.read came (omega (arith, reading.taken, few, h.limit)) quiet

-- each line lessens what may still come
pub lessens : (b c : Input) (r s : Reader) (line : List ℕ) → Gives b c r s line → (s.limit - s.taken) + length s.held < (r.limit - r.taken) + length r.held
lessens b c r s line (inl g) =
    let took = g.took.1 in
    let held : length g.mid.held ≡ length r.held + length g.took.0 = ap (λ (l : List ℕ). length l) took.held ∙ length-append r.held g.took.0 in
    let left : length (drop (g.at + 1) g.mid.held) ≡ length g.mid.held - (g.at + 1) = length-drop (g.at + 1) g.mid.held in
    rw g.left (omega (arith, left, held, took.count, took.limit, took.bound, g.feed.inside))
lessens b c r s line (inr g) =
    let took = g.took.1 in
    let held : length g.mid.held ≡ length r.held + length g.took.0 = ap (λ (l : List ℕ). length l) took.held ∙ length-append r.held g.took.0 in
    rw g.left (omega (arith, held, took.count, took.limit, took.bound, g.some))
