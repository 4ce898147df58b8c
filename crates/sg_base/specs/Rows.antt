-- The kind of a row, which is never that of clients.
use Rattle.sg_base.specs.declared.kind.Kind.{Kind}
use Rattle.sg_base.specs.declared.kind.Kind.TheVariants as kind
use Rattle.sg_base.specs.declared.row.Row.{Row}
use Rattle.sg_base.specs.declared.row.Row.TheVariants as row

abbrev pub kind_of : Row → Kind
kind_of (row.Media f) = kind.Media
kind_of (row.Layout l) = kind.Layout
kind_of (row.Campaign c) = kind.Campaign
kind_of (row.Daypart d) = kind.Daypart
kind_of (row.Group g) = kind.Group
kind_of (row.Display d) = kind.Display
kind_of (row.Event e) = kind.Event
