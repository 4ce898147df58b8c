-- The kinds of event, and the order of each.
use Rattle.std.specs.Prelude.{ℕ, zero, suc, ◌+◌, ◌==◌, nat_lt, max, ◌&&◌, Bool, List, [], ◌∷◌, ◌++◌, filter}
use Rattle.sg_base.specs.Event.{EventValue}
use Rattle.sg_layer.specs.declared.kind.Kind.{Kind}
use Rattle.sg_layer.specs.declared.kind.Kind.TheVariants.{Normal, Interrupt, Overlay}

-- events of layer 0 make the picture, normal ones and interrupts, which have a share of voice; overlays are of layer 1
abbrev pub is_of : Kind → EventValue → Bool
is_of Normal e = (e.layer == 0) && (e.share == 0)
is_of Interrupt e = (e.layer == 0) && nat_lt 0 e.share
is_of Overlay e = e.layer == 1

-- the greatest order of some events
abbrev pub greatest_order : List EventValue → ℕ
greatest_order [] = 0
greatest_order (e ∷ es) = max e.order (greatest_order es)

-- the events of m orders, from one on
abbrev pub of_orders : ℕ → ℕ → List EventValue → List EventValue
of_orders zero order es = []
of_orders (suc m) order es = filter (λ e. e.order == order) es ++ of_orders m (order + 1) es

-- events order by order; those of one order stay as they stand
unfoldable pub by_order : List EventValue → List EventValue
by_order es = of_orders (greatest_order es + 1) 0 es

-- of events by id those of a kind: interrupts by id, and others by order and id
abbrev pub events_of : Kind → List EventValue → List EventValue
events_of Normal es = by_order (filter (is_of Normal) es)
events_of Interrupt es = filter (is_of Interrupt) es
events_of Overlay es = by_order (filter (is_of Overlay) es)
