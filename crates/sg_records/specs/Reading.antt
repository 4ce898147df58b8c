-- What a reply's JSON says. That a row is the very text of what it says is another test, so members are only looked for.
use Rattle.std.specs.Prelude.{ℕ, ◌^◌, Bool, if◌then◌else◌, List, [], ◌∷◌, codes, Option, Some, None, option_map, option_and_then}
use Rattle.std.specs.List.{find}
use Rattle.std.specs.Str.{bytes_eq}
use Rattle.serde_json.specs.Data.{Data}
use Rattle.serde_json.specs.Find.{get, as_bool, as_str, as_number, as_u64}
use Rattle.sg_base.specs.declared.kind.Kind.{Kind}
use Rattle.sg_base.specs.declared.kind.Kind.TheVariants as kind
use Rattle.sg_base.specs.Names.{kind_name}
use Rattle.sg_rows.specs.Parts.{below}
use Rattle.sg_records.specs.declared.client.Client.{Client}
use Rattle.sg_records.specs.declared.reply.FaultName.{FaultName}
use Rattle.sg_records.specs.declared.reply.FaultName.TheVariants as fault
use Rattle.sg_records.specs.declared.reply.Reply.{Reply}
use Rattle.sg_records.specs.declared.reply.Reply.TheVariants.{Done, Unknown, InUse, Exists, Full, Invalid}
use Rattle.sg_records.specs.Replies.{fault_name}
use Rattle.sg_tables.specs.declared.row_id.RowId.{RowId}

-- ---- members

-- the member of this name, a whole number of 32 bits
abbrev pub number_in : List ℕ → Data → Option ℕ
number_in name d = option_and_then (below (2 ^ 32)) (option_and_then as_u64 (option_and_then as_number (get name d)))

abbrev pub text_in : List ℕ → Data → Option (List ℕ)
text_in name d = option_and_then as_str (get name d)

abbrev pub flag_in : List ℕ → Data → Option Bool
flag_in name d = option_and_then as_bool (get name d)

abbrev pub kinds : List Kind
kinds = kind.Media ∷ kind.Layout ∷ kind.Campaign ∷ kind.Daypart ∷ kind.Group ∷ kind.Display ∷ kind.Event ∷ kind.Client ∷ []

-- the kind of this name
abbrev pub kind_named : List ℕ → Option Kind
kind_named name = find (λ k. bytes_eq name (kind_name k)) kinds

-- the fault of this name
abbrev pub fault_named : List ℕ → Option FaultName
fault_named name = find (λ f. bytes_eq name (fault_name f))
    (fault.Shape ∷ fault.Later ∷ fault.Layout ∷ fault.Daypart ∷ fault.Repeat ∷ fault.Event ∷ fault.Zone ∷ fault.NoReplace ∷ fault.Incomplete ∷ [])

abbrev pub kind_in : List ℕ → Data → Option Kind
kind_in name d = option_and_then kind_named (text_in name d)

-- the kind and the id of a row
abbrev pub row_in : Data → Option RowId
row_in d = option_and_then (λ kind. option_map (λ id. record { kind = kind; id = id }) (number_in (codes "id") d)) (kind_in (codes "kind") d)

-- ---- replies

abbrev pub in_use_in : Data → Option Reply
in_use_in d = option_and_then (λ row. option_map (λ by. InUse row.kind row.id by.kind by.id) (option_and_then row_in (get (codes "by") d))) (row_in d)

abbrev pub full_in : Data → Option Reply
full_in d = option_and_then (λ kind. option_map (λ limit. Full kind limit) (number_in (codes "limit") d)) (kind_in (codes "kind") d)

abbrev pub invalid_in : Data → Option Reply
invalid_in d = option_map (λ fault. Invalid fault) (option_and_then fault_named (text_in (codes "fault") d))

-- the refusal of this name
abbrev pub refusal_in : Data → List ℕ → Option Reply
refusal_in d name =
    if bytes_eq name (codes "Unknown") then option_map (λ row. Unknown row.kind row.id) (row_in d)
    else (if bytes_eq name (codes "Exists") then option_map (λ row. Exists row.kind row.id) (row_in d)
    else (if bytes_eq name (codes "InUse") then in_use_in d
    else (if bytes_eq name (codes "Full") then full_in d
    else (if bytes_eq name (codes "Invalid") then invalid_in d else None))))

abbrev pub done_or : Option Reply → Option ℕ → Option Reply
done_or refusal None = refusal
done_or refusal (Some seq) = Some (Done seq)

-- a reply that may be kept
abbrev pub reply_in : Data → Option Reply
reply_in d = done_or (option_and_then (refusal_in d) (text_in (codes "refused") d)) (number_in (codes "done") d)

-- what is kept of a client
abbrev pub client_in : ℕ → Data → Option Client
client_in client d =
    option_and_then (λ last. option_map (λ reply. record { client = client; last = last; reply = reply }) (option_and_then reply_in (get (codes "reply") d)))
    (number_in (codes "last") d)
