-- Bytes that come after others, and what is known of a stream that grows.
use Rattle.std.proofs.Common.{◌≡◌, ℕ, ◌<◌, false, List, [], ◌++◌, length, sym, ap, ◌∙◌, subst, arith, append_assoc}
use Rattle.std.specs.declared.option.Option.{Option}
use Rattle.std.specs.Io.KnownBytes.{Keeps}
use Rattle.std.proofs.KnownBytes.{Consumes-nil, Consumes-trans, Consumes-kept}
use Rattle.std.proofs.lemmas.List.{append-nil, length-append}
use Rattle.sg_base.specs.declared.limits.TheConstants.{MAX_HEAD}
use Rattle.sg_http.specs.declared.search.Progress.{Progress}
use Rattle.sg_http.specs.Messages.{Unfinished, Opens}
use Rattle.sg_http.specs.Search.{IsSearched}
use Rattle.sg_http.proofs.JudgeLemmas.{known_none}
use Rattle.sg_connection.specs.declared.receive.Wait.{Wait}
use Rattle.sg_connection.specs.Taking.{Comes, IsAwaited, Unread}

pub comes_none : (old new : Option (List ℕ)) (u : Unread) → Keeps old new → Comes old new u u
comes_none old new u same = record {
  more = [];
  took = Consumes-kept old old new [] (Consumes-nil old) same;
  stream = sym (append-nil u.stream);
  total = omega arith;
}

pub comes_then : (a b c : Option (List ℕ)) (u v w : Unread) → Comes a b u v → Comes b c v w → Comes a c u w
comes_then a b c u v w p q = record {
  more = p.more ++ q.more;
  took = Consumes-trans a b c p.more q.more p.took q.took;
  stream = q.stream ∙ ap (λ s. s ++ q.more) p.stream ∙ append_assoc u.stream p.more q.more;
  total = omega (arith, p.total, q.total, length-append p.more q.more);
}

pub awaited_none : (stream : List ℕ) → IsAwaited stream (record { progress = record { at = 0; begun = false }; want = 0 })
awaited_none stream = record { known = known_none stream; short = λ more h. absurd (omega arith) }

pub awaited_head : (stream : List ℕ) (progress : Progress) → length stream < MAX_HEAD → IsSearched stream progress
    → IsAwaited stream (record { progress = progress; want = 0 })
awaited_head stream progress short searched = record {
  known = record { front = stream; rest = []; split = sym (append-nil stream); short = omega arith; searched = searched };
  short = λ more h. absurd (omega arith);
}

pub awaited_more : (stream more : List ℕ) (wait : Wait) → IsAwaited stream wait → IsAwaited (stream ++ more) wait
awaited_more stream more wait h = record {
  known = record {
    front = h.known.front;
    rest = h.known.rest ++ more;
    split = ap (λ s. s ++ more) h.known.split ∙ append_assoc h.known.front h.known.rest more;
    short = h.known.short;
    searched = h.known.searched;
  };
  short = λ later few. subst (λ s. Opens s Unfinished) (sym (append_assoc stream more later))
      (h.short (more ++ later) (omega (arith, few, ap length (append_assoc stream more later))));
}

-- what has no message as far as it goes
pub unfinished : (stream : List ℕ) (want : ℕ) → length stream < want
    → ((more : List ℕ) → length (stream ++ more) < want → Opens (stream ++ more) Unfinished) → Opens stream Unfinished
unfinished stream want few h =
    subst (λ s. Opens s Unfinished) (append-nil stream) (h [] (omega (arith, few, ap length (append-nil stream))))

pub awaited_on : (seen stream longer more : List ℕ) (wait : Wait) → seen ≡ stream → longer ≡ stream ++ more → IsAwaited seen wait
    → IsAwaited longer wait
awaited_on seen stream longer more wait here there h =
    subst (λ s. IsAwaited s wait) (sym there) (awaited_more stream more wait (subst (λ s. IsAwaited s wait) here h))

pub still_none : (seen : List ℕ) (u v : Unread) → seen ≡ u.stream → v ≡ u → Opens seen Unfinished → Opens v.stream Unfinished
still_none seen u v here same h = subst (λ s. Opens s Unfinished) (here ∙ ap (λ (w : Unread). w.stream) (sym same)) h
