-- What an edit is answered: its JSON (RFC 8259), members in byte order of their names, and its status of HTTP (RFC 9110).
use Rattle.std.specs.Prelude.{ℕ, List, codes}
use Rattle.serde_json.specs.Data.{Data, string, object, member, no_members}
use Rattle.sg_base.specs.declared.kind.Kind.{Kind}
use Rattle.sg_base.specs.Names.{kind_name}
use Rattle.sg_rows.specs.declared.fault.RowFault.{RowFault}
use Rattle.sg_rows.specs.declared.fault.RowFault.TheVariants as row
use Rattle.sg_rows.specs.Text.{whole}
use Rattle.sg_records.specs.declared.reply.FaultName.{FaultName}
use Rattle.sg_records.specs.declared.reply.FaultName.TheVariants as fault
use Rattle.sg_records.specs.declared.reply.Reply.{Reply}
use Rattle.sg_records.specs.declared.reply.Reply.TheVariants.{Done, Unknown, InUse, Exists, Full, Sequence, Invalid}
use Rattle.sg_tables.specs.declared.change.TableRefusal.{TableRefusal}
use Rattle.sg_tables.specs.declared.change.TableRefusal.TheVariants as refused

abbrev pub fault_name : FaultName → List ℕ
fault_name fault.Shape = codes "Shape"
fault_name fault.Later = codes "Later"
fault_name fault.Layout = codes "Layout"
fault_name fault.Daypart = codes "Daypart"
fault_name fault.Repeat = codes "Repeat"
fault_name fault.Event = codes "Event"
fault_name fault.Zone = codes "Zone"
fault_name fault.NoReplace = codes "NoReplace"
fault_name fault.Incomplete = codes "Incomplete"

abbrev pub status_of : Reply → ℕ
status_of (Done seq) = 200
status_of (Unknown kind id) = 409
status_of (InUse kind id by_kind by_id) = 409
status_of (Exists kind id) = 409
status_of (Full kind limit) = 409
status_of (Sequence expected) = 409
status_of (Invalid fault) = 422

-- a refusal that names a row
abbrev pub of_row : Kind → ℕ → Data → Data
of_row kind id refused = object
    (member (codes "id") (whole id)
    (member (codes "kind") (string (kind_name kind))
    (member (codes "refused") refused no_members)))

abbrev pub reply_json : Reply → Data
reply_json (Done seq) = object (member (codes "done") (whole seq) no_members)
reply_json (Unknown kind id) = of_row kind id (string (codes "Unknown"))
reply_json (InUse kind id by_kind by_id) = object
    (member (codes "by") (object (member (codes "id") (whole by_id) (member (codes "kind") (string (kind_name by_kind)) no_members)))
    (member (codes "id") (whole id)
    (member (codes "kind") (string (kind_name kind))
    (member (codes "refused") (string (codes "InUse")) no_members))))
reply_json (Exists kind id) = of_row kind id (string (codes "Exists"))
reply_json (Full kind limit) = object
    (member (codes "kind") (string (kind_name kind))
    (member (codes "limit") (whole limit)
    (member (codes "refused") (string (codes "Full")) no_members)))
reply_json (Sequence expected) = object
    (member (codes "expected") (whole expected) (member (codes "refused") (string (codes "Sequence")) no_members))
reply_json (Invalid fault) = object
    (member (codes "fault") (string (fault_name fault)) (member (codes "refused") (string (codes "Invalid")) no_members))

-- ---- replies for causes of the layers below

-- the name of a fault; want of memory has none, and is no fault of a row
abbrev pub name_of : RowFault → FaultName
name_of row.Shape = fault.Shape
name_of row.Later = fault.Later
name_of (row.Layout f) = fault.Layout
name_of (row.Daypart f) = fault.Daypart
name_of (row.Repeat f) = fault.Repeat
name_of (row.Event f) = fault.Event
name_of (row.Zone f) = fault.Zone
name_of row.NoReplace = fault.NoReplace
name_of (row.Incomplete media) = fault.Incomplete
name_of row.Memory = fault.Shape

-- the reply to a change that the tables refuse; want of memory is answered by none
abbrev pub refused_by : TableRefusal → Reply
refused_by (refused.Unknown kind id) = Unknown kind id
refused_by (refused.InUse kind id by_kind by_id) = InUse kind id by_kind by_id
refused_by (refused.Exists kind id) = Exists kind id
refused_by (refused.Full kind limit) = Full kind limit
refused_by (refused.Incomplete media) = Invalid fault.Incomplete
refused_by refused.Memory = Invalid fault.Shape
