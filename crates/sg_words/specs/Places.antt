-- The places of the real objects that a command works on.
use Rattle.std.specs.Prelude.{ℕ, List, [], Option, Some, None, unwrap_or}
use Rattle.std.specs.String.{string_bytes}
use Rattle.sg_words.specs.Table.{Said, said_in}
use Rattle.sg_words.specs.Table.Said.{Format, Play, Serve, Edit, Report, Rehearse, Made}
use Rattle.sg_words.specs.declared.place.Places.{Places}

-- places as texts
pub record Texts : Type 0 where
  pub store : List ℕ
  pub db : List ℕ
  pub server : List ℕ
  pub listen : List ℕ
  pub panel : List ℕ

abbrev pub texts_of : Places → Texts
texts_of p = record {
  store = string_bytes p.store;
  db = string_bytes p.db;
  server = string_bytes p.server;
  listen = string_bytes p.listen;
  panel = string_bytes p.panel;
}

abbrev pub nowhere : Texts
nowhere = record { store = []; db = []; server = []; listen = []; panel = [] }

-- the places that the options of a command name, each empty where it isn't given
abbrev pub places_of : Said → Texts
places_of (Format store server display key room) = record nowhere { store = store; server = server }
places_of (Play store server key every panel) = record nowhere { store = store; server = server; panel = unwrap_or panel [] }
places_of (Serve db listen key connections) = record nowhere { db = db; listen = listen }
places_of (Edit db) = record nowhere { db = db }
places_of (Report db from to) = record nowhere { db = db }
places_of Rehearse = nowhere
places_of (Made number) = nowhere

abbrev pub places_if : Option Said → Texts
places_if None = nowhere
places_if (Some said) = places_of said

-- the places that the words name. Words that aren't in the table name none
abbrev pub places_in : List (List ℕ) → Texts
places_in words = places_if (said_in words)
