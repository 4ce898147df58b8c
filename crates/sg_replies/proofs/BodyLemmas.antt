-- Bodies as they are put together. Names and digits need no escapes.
use Rattle.std.proofs.Common.{◌≡◌, ◌∙◌, ℕ, List, [], ◌∷◌, ◌++◌, refl, sym, ap, append_assoc}
use Rattle.std.specs.Prelude.{codes, decimal}
use Rattle.hex.specs.Hex.{encode_lower}
use Rattle.json.specs.Print.{escape, escape_byte}
use Rattle.sg_base.specs.declared.kind.Kind.{Kind}
use Rattle.sg_base.specs.declared.kind.Kind.TheVariants as kind
use Rattle.sg_base.specs.declared.kind.LimitName.TheVariants as limit
use Rattle.sg_base.specs.Names.{kind_name, limit_name}
use Rattle.sg_records.specs.Replies.{fault_name}
use Rattle.sg_records.specs.declared.reply.FaultName.TheVariants as fault
use Rattle.sg_records.specs.declared.reply.Reply.{Reply}
use Rattle.sg_records.specs.declared.reply.Reply.TheVariants as reply
use Rattle.sg_replies.specs.Bodies.{refusal_name, reply_body, saying_text}
use Rattle.sg_replies.specs.declared.refusal.Refusal.TheVariants as refusal
use Rattle.sg_replies.specs.declared.saying.Saying.{Saying}
use Rattle.sg_replies.specs.declared.saying.Saying.TheVariants as said

-- a kind in quotes, and what follows it
escaped_kind : (k : Kind) (rest : List ℕ) → (escape (kind_name k) ++ 34 ∷ []) ++ rest ≡ kind_name k ++ 34 ∷ rest
unfolding escape_byte
escaped_kind kind.Media rest = refl
escaped_kind kind.Layout rest = refl
escaped_kind kind.Campaign rest = refl
escaped_kind kind.Daypart rest = refl
escaped_kind kind.Group rest = refl
escaped_kind kind.Display rest = refl
escaped_kind kind.Event rest = refl
escaped_kind kind.Client rest = refl

-- the parts of a body; those of a digest are apart
abbrev pub parts : Saying → List ℕ
parts (said.Held n) = codes "{\"held\":" ++ (decimal n ++ codes "}")
parts (said.Complete media) = codes "{\"complete\":" ++ (decimal media.0 ++ codes "}")
parts (said.Epoch n) = codes "{\"epoch\":" ++ (decimal n ++ codes "}")
parts (said.Next n) = codes "{\"next\":" ++ (decimal n ++ codes "}")
parts (said.Refused r) = codes "{\"refused\":\"" ++ (refusal_name r ++ codes "\"}")
parts (said.Unknown media) = codes "{\"id\":" ++ (decimal media.0 ++ codes ",\"kind\":\"media\",\"refused\":\"Unknown\"}")
parts (said.PieceOrder n) = codes "{\"expected\":" ++ (decimal n ++ codes ",\"refused\":\"PieceOrder\"}")
parts (said.PieceLength n) = codes "{\"expected\":" ++ (decimal n ++ codes ",\"refused\":\"PieceLength\"}")
parts (said.DigestDiffers found) = saying_text (said.DigestDiffers found)
parts (said.TooLarge name n) =
    codes "{\"count\":" ++ (decimal n ++ (codes ",\"limit\":\"" ++ (limit_name name ++ codes "\",\"refused\":\"TooLarge\"}")))
parts (said.NotListed media) = codes "{\"media\":" ++ (decimal media.0 ++ codes ",\"refused\":\"NotListed\"}")
parts (said.PastEnd n) = codes "{\"length\":" ++ (decimal n ++ codes ",\"refused\":\"PastEnd\"}")
parts (said.Gap n) = codes "{\"next\":" ++ (decimal n ++ codes ",\"refused\":\"Gap\"}")
parts (said.PlaysFull n) = codes "{\"limit\":" ++ (decimal n ++ codes ",\"refused\":\"PlaysFull\"}")

pub parts_are : (s : Saying) → parts s ≡ saying_text s
unfolding escape_byte
parts_are (said.Held n) = refl
parts_are (said.Complete media) = refl
parts_are (said.Epoch n) = refl
parts_are (said.Next n) = refl
parts_are (said.Refused refusal.Body) = refl
parts_are (said.Refused refusal.Path) = refl
parts_are (said.Refused refusal.Method) = refl
parts_are (said.Refused refusal.Key) = refl
parts_are (said.Refused refusal.Range) = refl
parts_are (said.Refused refusal.NoEpoch) = refl
parts_are (said.Refused refusal.EpochsSpent) = refl
parts_are (said.Refused refusal.Keeper) = refl
parts_are (said.Refused refusal.Memory) = refl
parts_are (said.Unknown media) = refl
parts_are (said.PieceOrder n) = refl
parts_are (said.PieceLength n) = refl
parts_are (said.DigestDiffers found) = refl
parts_are (said.TooLarge limit.Files n) = refl
parts_are (said.TooLarge limit.Layouts n) = refl
parts_are (said.TooLarge limit.Campaigns n) = refl
parts_are (said.TooLarge limit.Dayparts n) = refl
parts_are (said.TooLarge limit.Events n) = refl
parts_are (said.TooLarge limit.Text n) = refl
parts_are (said.NotListed media) = refl
parts_are (said.PastEnd n) = refl
parts_are (said.Gap n) = refl
parts_are (said.PlaysFull n) = refl

-- the body of a digest, whose digits need no escapes
pub digest_parts : (found : List ℕ) → escape (encode_lower found) ≡ encode_lower found
    → codes "{\"found\":\"" ++ (encode_lower found ++ codes "\",\"refused\":\"DigestDiffers\"}") ≡ saying_text (said.DigestDiffers found)
unfolding escape_byte
digest_parts found plain =
    let P : List ℕ → List ℕ = λ digits. codes "{\"found\":" ++ (34 ∷ ((digits ++ 34 ∷ []) ++ codes ",\"refused\":\"DigestDiffers\"}")) in
    ap (λ rest. codes "{\"found\":\"" ++ rest) (sym (append_assoc (encode_lower found) (34 ∷ []) (codes ",\"refused\":\"DigestDiffers\"}")))
    ∙ ap P (sym plain)

-- the parts of the body of a reply to an edit
abbrev pub edit_parts : Reply → List ℕ
edit_parts (reply.Done n) = codes "{\"done\":" ++ (decimal n ++ codes "}")
edit_parts (reply.Unknown k id) = codes "{\"id\":" ++ (decimal id ++ (codes ",\"kind\":\"" ++ (kind_name k ++ codes "\",\"refused\":\"Unknown\"}")))
edit_parts (reply.InUse k id by_k by_id) = codes "{\"by\":{\"id\":" ++ (decimal by_id ++ (codes ",\"kind\":\"" ++ (kind_name by_k
    ++ (codes "\"},\"id\":" ++ (decimal id ++ (codes ",\"kind\":\"" ++ (kind_name k ++ codes "\",\"refused\":\"InUse\"}")))))))
edit_parts (reply.Exists k id) = codes "{\"id\":" ++ (decimal id ++ (codes ",\"kind\":\"" ++ (kind_name k ++ codes "\",\"refused\":\"Exists\"}")))
edit_parts (reply.Full k n) = codes "{\"kind\":\"" ++ (kind_name k ++ (codes "\",\"limit\":" ++ (decimal n ++ codes ",\"refused\":\"Full\"}")))
edit_parts (reply.Sequence n) = codes "{\"expected\":" ++ (decimal n ++ codes ",\"refused\":\"Sequence\"}")
edit_parts (reply.Invalid f) = codes "{\"fault\":\"" ++ (fault_name f ++ codes "\",\"refused\":\"Invalid\"}")

pub edit_parts_are : (r : Reply) → edit_parts r ≡ reply_body r
unfolding escape_byte
edit_parts_are (reply.Done n) = refl
edit_parts_are (reply.Unknown k id) =
    ap (λ x. codes "{\"id\":" ++ (decimal id ++ (codes ",\"kind\":\"" ++ x))) (sym (escaped_kind k (codes ",\"refused\":\"Unknown\"}")))
edit_parts_are (reply.InUse k id by_k by_id) =
    let last : List ℕ = codes ",\"refused\":\"InUse\"}" in
    let own : List ℕ = codes ",\"id\":" ++ (decimal id ++ (codes ",\"kind\":\"" ++ ((escape (kind_name k) ++ 34 ∷ []) ++ last))) in
    let by : List ℕ = (escape (kind_name by_k) ++ 34 ∷ []) ++ codes "}" in
    ap (λ x. codes "{\"by\":{\"id\":" ++ (decimal by_id ++ (codes ",\"kind\":\"" ++ (kind_name by_k ++ (codes "\"},\"id\":" ++ (decimal id ++ (codes ",\"kind\":\"" ++ x)))))))
    (sym (escaped_kind k last))
    ∙ ap (λ x. codes "{\"by\":{\"id\":" ++ (decimal by_id ++ (codes ",\"kind\":\"" ++ x))) (sym (escaped_kind by_k (codes "}" ++ own)))
    ∙ ap (λ x. codes "{\"by\":{\"id\":" ++ (decimal by_id ++ (codes ",\"kind\":\"" ++ x))) (sym (append_assoc (escape (kind_name by_k) ++ 34 ∷ []) (codes "}") own))
    ∙ ap (λ x. codes "{\"by\":{\"id\":" ++ x) (sym (append_assoc (decimal by_id) (codes ",\"kind\":\"" ++ by) own))
edit_parts_are (reply.Exists k id) =
    ap (λ x. codes "{\"id\":" ++ (decimal id ++ (codes ",\"kind\":\"" ++ x))) (sym (escaped_kind k (codes ",\"refused\":\"Exists\"}")))
edit_parts_are (reply.Full k n) =
    ap (λ x. codes "{\"kind\":\"" ++ x) (sym (escaped_kind k (codes ",\"limit\":" ++ (decimal n ++ codes ",\"refused\":\"Full\"}"))))
edit_parts_are (reply.Sequence n) = refl
edit_parts_are (reply.Invalid fault.Shape) = refl
edit_parts_are (reply.Invalid fault.Later) = refl
edit_parts_are (reply.Invalid fault.Layout) = refl
edit_parts_are (reply.Invalid fault.Daypart) = refl
edit_parts_are (reply.Invalid fault.Repeat) = refl
edit_parts_are (reply.Invalid fault.Event) = refl
edit_parts_are (reply.Invalid fault.Zone) = refl
edit_parts_are (reply.Invalid fault.NoReplace) = refl
edit_parts_are (reply.Invalid fault.Incomplete) = refl
