-- How kinds and limits are named in texts.
use Rattle.std.specs.Prelude.{ℕ, List, codes}
use Rattle.sg_base.specs.declared.kind.Kind.{Kind}
use Rattle.sg_base.specs.declared.kind.Kind.TheVariants.{Media, Layout, Campaign, Daypart, Group, Display, Event, Client}
use Rattle.sg_base.specs.declared.kind.LimitName.{LimitName}
use Rattle.sg_base.specs.declared.kind.LimitName.TheVariants as limit

abbrev pub kind_name : Kind → List ℕ
kind_name Media = codes "media"
kind_name Layout = codes "layout"
kind_name Campaign = codes "campaign"
kind_name Daypart = codes "daypart"
kind_name Group = codes "group"
kind_name Display = codes "display"
kind_name Event = codes "event"
kind_name Client = codes "client"

abbrev pub limit_name : LimitName → List ℕ
limit_name limit.Files = codes "files"
limit_name limit.Layouts = codes "layouts"
limit_name limit.Campaigns = codes "campaigns"
limit_name limit.Dayparts = codes "dayparts"
limit_name limit.Events = codes "events"
limit_name limit.Text = codes "text"
