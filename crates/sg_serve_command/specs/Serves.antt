-- What `serve` does with a door and a keeper: its status, what it writes, and what it leaves.
use Rattle.std.specs.Prelude.{◌≡◌, ℕ, ◌++◌, Bool, List, codes, decimal}
use Rattle.std.specs.declared.option.Option.{Option}
use Rattle.sg_api.specs.declared.server.Server.{Server}
use Rattle.sg_api.specs.Folds.{History}
use Rattle.sg_api.specs.Rule.{Answered}
use Rattle.sg_connection.specs.declared.door.Served.{Served}
use Rattle.sg_connection.specs.declared.door.Served.TheVariants.{Done, DoorFault}
use Rattle.sg_connection.specs.Exchanges.{in_pairs}
use Rattle.sg_connection.specs.Serving.{Scene}
use Rattle.sg_connection.specs.Visits.{ServesDoor}
use Rattle.sg_endings.specs.declared.stop.Stop.{Stop}
use Rattle.sg_endings.specs.Stops.{status_of, text_of}
use Rattle.sg_keeper.specs.View.{Ran, Same, View}
use Rattle.sg_opening.specs.Opening.{IsOpened, IsUnopened}

-- ---- opening

-- a server with this key of an operator, for whose records the rows of a keeper stand
pub record IsOpenedFor (operator : List ℕ) (old new : View) (s : Server) : Type 0 where
  pub key : s.gate.operator ≡ operator
  pub opened : IsOpened old s.cms
  pub ran : Ran 9 old new

-- ---- serving

-- a door as it is seen: the connections to come and those that went back, whether it said that no more come, its faults
pub record DoorAt (C : Type 0) : Type 0 where
  pub coming : Option (List C)
  pub back : Option (List C)
  pub ended : Bool
  pub faults : ℕ

abbrev pub door_at : {C : Type 0} → Option (List C) → Option (List C) → Bool → ℕ → DoorAt C
door_at coming back ended faults = record { coming = coming; back = back; ended = ended; faults = faults }

abbrev pub status_of_served : Served → ℕ
status_of_served (Done n) = 0
status_of_served (DoorFault n) = 14

abbrev pub text_of_served : Served → List ℕ
text_of_served (Done n) = codes "served " ++ (decimal n ++ codes "\n")
text_of_served (DoorFault n) = codes "fault: door\n"

-- A run of `serve` with the key of an operator, for so many connections.
pub data Serves {K C : Type 0} (view : K → View) (scene : C → Server × K → Scene (Server × K)) (operator : List ℕ)
    (limit : ℕ) (d d' : DoorAt C) (k l : K) : ℕ → List ℕ → Type 0 where
  -- the server was loaded, and served the door until that ended or failed, or all its connections went back
  served : (s t : Server) (mid : K) (how : Served) → IsOpenedFor operator (view k) (view mid) s → Same (view k) (view mid)
      → ServesDoor (in_pairs (Answered view)) scene (s, mid) (t, l) d.coming d'.coming d.back d'.back
      limit d'.ended d.faults d'.faults how
      → History view s mid t l
      → Serves view scene operator limit d d' k l (status_of_served how) (text_of_served how)
  -- there was no server, and no connection came
  stopped : (why : Stop) → IsUnopened (view k) (view l) why → Same (view k) (view l) → d' ≡ d
      → Serves view scene operator limit d d' k l (status_of why) (text_of why)
