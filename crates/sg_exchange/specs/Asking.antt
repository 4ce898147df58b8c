-- What is asked of a server, and what a link tells of it.
use Rattle.std.specs.Prelude.{ℕ, List, [], ◌∷◌}
use Rattle.std.specs.declared.option.Option.{Option}
use Rattle.sg_outside.specs.Lists.{Grows}
use Rattle.sg_devices.specs.declared.link.Exchange.{Exchange}
use Rattle.sg_devices.specs.Exchanges.{exchange_by}
use Rattle.sg_exchange.specs.declared.heard.Wants.{Wants}
use Rattle.sg_exchange.specs.Heard.{Outcome, ComesTo}

-- a display with its key, and the room for replies
pub record Caller : Type 0 where
  pub display : ℕ
  pub key : List ℕ
  pub reply : List ℕ

-- Where the link tells its exchanges, exactly this one came after those before: the request with so much room, and an
-- answer that comes to this.
pub record Hears (room : ℕ) (old new : Option (List Exchange)) (request : List ℕ) (wants : Wants) (outcome : Outcome) : Type 0 where
  pub answer : Option (List ℕ)
  pub note : List ℕ
  pub told : Grows old new (exchange_by request room answer note ∷ [])
  pub comes_to : ComesTo wants answer outcome
