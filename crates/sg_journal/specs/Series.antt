-- A list of plays, recorded one behind another.
use Rattle.std.specs.Prelude.{ℕ, ◌≤◌, ◌++◌, List, length, take}
use Rattle.sg_base.specs.declared.play.PlayBody.{PlayBody}
use Rattle.sg_disk.specs.Contents.{Contents}
use Rattle.sg_contents.specs.StandsFor.{StandsFor}

-- with more plays
abbrev pub played_all : Contents → List PlayBody → Contents
played_all p plays = record p { plays = p.plays ++ plays }

-- The bytes of a disk stand for the contents with the first n of these plays: in their order, none left out and none in part
pub record StandsForSome (p : Contents) (plays : List PlayBody) (c : List ℕ) : Type 0 where
  pub n : ℕ
  pub within : n ≤ length plays
  pub stands : StandsFor (played_all p (take n plays)) c
