-- What the bytes of a reply say, by each of the ways to say it.
use Rattle.std.proofs.Common.{◌≡◌, ℕ, true, false, List, [], ◌++◌, length, take, refl, sym, ◌∙◌, subst, Some, None}
use Rattle.std.proofs.lemmas.List.{append-nil}
use Rattle.sg_http.specs.declared.search.Search.TheVariants.{Ended, GoesOn}
use Rattle.sg_http.specs.declared.search.Progress.{Progress}
use Rattle.sg_http.specs.Head.{empty_end}
use Rattle.sg_http.specs.Replies.{Reading, Part, NoReply, ReplyHeads, Reads, may_be_http}
use Rattle.sg_http.specs.Search.{Searches}
use Rattle.sg_http.proofs.SearchLemmas.{from_start}

pub empty_found : (bytes : List ℕ) (end : ℕ) → Searches bytes true 0 (Ended end) → empty_end bytes ≡ Some end
empty_found bytes end found =
    let P : List ℕ → Type 0 = λ all. empty_end all ≡ Some end in
    subst P (append-nil bytes) (sym (from_start (empty_end (bytes ++ []))) ∙ found.1 [])

pub none_found : (bytes : List ℕ) (progress : Progress) → Searches bytes true 0 (GoesOn progress) → empty_end bytes ≡ None
none_found bytes progress found = sym (from_start (empty_end bytes)) ∙ found.1

pub reads_none : (bytes : List ℕ) → may_be_http bytes ≡ false → Reads bytes NoReply
unfolding Reads
reads_none bytes other = rw other refl

pub reads_part : (bytes : List ℕ) → may_be_http bytes ≡ true → empty_end bytes ≡ None → Reads bytes (Part 0 (length bytes) 0 [])
unfolding Reads
reads_part bytes http none = rw (http, none) refl

pub reads_head : (bytes : List ℕ) (end : ℕ) (reading : Reading) → may_be_http bytes ≡ true → empty_end bytes ≡ Some end
    → ReplyHeads (take end bytes) bytes reading → Reads bytes reading
unfolding Reads
reads_head bytes end reading http found heads = rw (http, found) heads
