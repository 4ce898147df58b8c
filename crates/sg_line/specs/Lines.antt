-- The line that tells what is shown at a moment.
use Rattle.std.specs.Prelude.{ℕ, List, [], ◌++◌, codes, Option, None, Some}
use Rattle.std.specs.List.{flat_map}
use Rattle.std.specs.Fmt.{decimal, signed_decimal}
use Rattle.sg_base.specs.declared.ids.MediaId.{MediaId}
use Rattle.sg_resolver.specs.declared.show.Show.{Show}
use Rattle.sg_line.specs.declared.shown.Shown.{Shown}

-- an event, its layout, where its slot began, and how long ago
unfoldable pub show_text : Show → List ℕ
show_text show =
    decimal show.event ++ (codes " l" ++ (decimal show.layout ++ (codes " s" ++ (signed_decimal show.slot_start
    ++ (codes " o" ++ decimal show.offset)))))

-- a region and the medium that it shows
unfoldable pub entry_text : ℕ × MediaId → List ℕ
entry_text entry = codes " r" ++ (decimal entry.0 ++ (codes ":m" ++ decimal entry.1.0))

-- what is shown at once: the show, and each region of its picture
abbrev pub part_text : Shown → List ℕ
part_text shown = show_text shown.show ++ flat_map entry_text shown.picture

-- what an overlay shows above the picture, if there is one
abbrev pub over_text : Option Shown → List ℕ
over_text None = []
over_text (Some over) = codes " v" ++ part_text over

-- the shown line: the moment, what the picture shows, and what is shown above it
abbrev pub line_text : ℕ → Shown → Option Shown → List ℕ
line_text moment shown over = decimal moment ++ (codes " e" ++ (part_text shown ++ (over_text over ++ codes "\n")))
