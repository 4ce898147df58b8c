-- The JSON of a reply that is kept says that reply.
use Rattle.std.proofs.Common.{◌≡◌, ◌∙◌, ℕ, ◌^◌, ◌<◌, Bool, true, false, cond, List, [], ◌∷◌, Option, Some, None, refl, ap, sym, subst, arith, lt-ltb}
use Rattle.std.specs.Prelude.{IfSome}
use Rattle.std.specs.List.{find}
use Rattle.std.specs.Str.{bytes_eq}
use Rattle.std.proofs.lemmas.Slice.Eq.{bytes_eq-Decides}
use Rattle.std.proofs.lemmas.Bool.{and_parts, eqb-true}
use Rattle.sg_base.specs.declared.kind.Kind.{Kind}
use Rattle.sg_base.specs.declared.kind.Kind.TheVariants as kind
use Rattle.sg_base.specs.Names.{kind_name}
use Rattle.sg_records.specs.declared.client.Client.{Client}
use Rattle.sg_records.specs.declared.reply.FaultName.{FaultName}
use Rattle.sg_records.specs.declared.reply.FaultName.TheVariants as fault
use Rattle.sg_records.specs.declared.reply.Reply.{Reply}
use Rattle.sg_records.specs.declared.reply.Reply.TheVariants.{Done, Unknown, InUse, Exists, Full, Sequence, Invalid}
use Rattle.sg_records.specs.Clients.{IsClient, client_json, is_kept}
use Rattle.sg_records.specs.Reading.{client_in, fault_named, kind_named, kinds, reply_in}
use Rattle.sg_records.specs.Replies.{fault_name, reply_json}
use Rattle.sg_records.proofs.SoundSaved.{id_fits, limit_fits, row_fits}

pub kind_again : (k : Kind) → kind_named (kind_name k) ≡ Some k
kind_again kind.Media = refl
kind_again kind.Layout = refl
kind_again kind.Campaign = refl
kind_again kind.Daypart = refl
kind_again kind.Group = refl
kind_again kind.Display = refl
kind_again kind.Event = refl
kind_again kind.Client = refl

fault_again : (f : FaultName) → fault_named (fault_name f) ≡ Some f
fault_again fault.Shape = refl
fault_again fault.Later = refl
fault_again fault.Layout = refl
fault_again fault.Daypart = refl
fault_again fault.Repeat = refl
fault_again fault.Event = refl
fault_again fault.Zone = refl
fault_again fault.NoReplace = refl
fault_again fault.Incomplete = refl

-- what is found passes the test
found_passes : {A : Type 0} (p : A → Bool) (xs : List A) (x : A) → find p xs ≡ Some x → p x ≡ true
found_passes p [] x e = absurd (cc)
found_passes p (y ∷ ys) x e = elim (p y) as (λ b. p y ≡ b → cond b (Some y) (find p ys) ≡ Some x → p x ≡ true) [
  | true ↦ (λ yes h. let same : y ≡ x = cc in subst (λ z. p z ≡ true) same yes)
  | false ↦ (λ _ h. found_passes p ys x h)
] refl e

name_of_kind : (name : List ℕ) (k : Kind) → kind_named name ≡ Some k → name ≡ kind_name k
name_of_kind name k e = (bytes_eq-Decides name (kind_name k)).0 (found_passes (λ x. bytes_eq name (kind_name x)) kinds k e)

-- a kind that is found for a name, and for no other
pub kind_is_named : (name : List ℕ) (r : Option Kind) → IfSome r (λ k. name ≡ kind_name k) → ((k : Kind) → name ≡ kind_name k → r ≡ Some k) → r ≡ kind_named name
kind_is_named name (Some k) found only = sym (ap kind_named found ∙ kind_again k)
kind_is_named name None found only = elim (kind_named name) as (λ o. kind_named name ≡ o → None ≡ o) [
  | None ↦ (λ _. refl)
  | Some k ↦ (λ is. only k (name_of_kind name k is))
] refl

pub reply_again : (last : ℕ) (r : Reply) → last < 2 ^ 32 → is_kept last r ≡ true → reply_in (reply_json r) ≡ Some r
reply_again last (Done seq) h e = let same = eqb-true seq last e in let fits : seq < 2 ^ 32 = omega (arith, same) in rw (lt-ltb seq (2 ^ 32) fits) refl
reply_again last (Unknown k id) h e = rw (kind_again k, lt-ltb id (2 ^ 32) (row_fits k id e)) refl
reply_again last (InUse k id by_k by_id) h e =
    let p = and_parts _ _ e in
    rw (kind_again k, lt-ltb id (2 ^ 32) (row_fits k id p.0), kind_again by_k, lt-ltb by_id (2 ^ 32) (row_fits by_k by_id p.1)) refl
reply_again last (Exists k id) h e = rw (kind_again k, lt-ltb id (2 ^ 32) (row_fits k id e)) refl
reply_again last (Full k limit) h e = rw (kind_again k, lt-ltb limit (2 ^ 32) (limit_fits k limit e)) refl
reply_again last (Sequence expected) h e = absurd (cc)
reply_again last (Invalid f) h e = rw (fault_again f) refl

pub client_again : (c : Client) → IsClient c → client_in c.client (client_json c) ≡ Some c
client_again c h =
    let p = and_parts _ _ h in let q = and_parts _ _ p.1 in
    let fits = id_fits c.last q.0 in
    rw (lt-ltb c.last (2 ^ 32) fits, reply_again c.last c.reply fits q.1) refl
