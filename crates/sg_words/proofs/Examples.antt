-- Lines of words, and what they say by the command table.
use Rattle.std.proofs.Common.{◌≡◌, ℕ, List, [], ◌∷◌, refl}
use Rattle.std.specs.Prelude.{codes, Option, None, Some}
use Rattle.std.specs.Fmt.{digits}
use Rattle.clap.proofs.OnLiterals.{clap_on_literals}
use Rattle.sg_words.specs.Options.{given, found_in}
use Rattle.sg_words.specs.Table.{said_in, edit_in, edit_words, report_in, report_words, serve_in, serve_words, rehearse_in, rehearse_words}
use Rattle.sg_words.specs.Table.Said.{Edit, Made, Rehearse, Report, Serve}

-- ---- `edit`

edit_says : said_in (codes "edit" ∷ codes "--db" ∷ codes "a" ∷ []) ≡ Some (Edit (codes "a"))
unfolding clap_on_literals given found_in edit_in edit_words
edit_says = refl

without_a_value : said_in (codes "edit" ∷ codes "--db" ∷ []) ≡ None
unfolding clap_on_literals given found_in edit_in edit_words
without_a_value = refl

with_equals : said_in (codes "edit" ∷ codes "--db=a" ∷ []) ≡ None
unfolding clap_on_literals given found_in edit_in edit_words
with_equals = refl

with_a_dash_alone : said_in (codes "edit" ∷ codes "--db" ∷ codes "-" ∷ []) ≡ None
unfolding clap_on_literals given found_in edit_in edit_words
with_a_dash_alone = refl

with_two_dashes : said_in (codes "edit" ∷ codes "--db" ∷ codes "a" ∷ codes "--" ∷ []) ≡ None
unfolding clap_on_literals given found_in edit_in edit_words
with_two_dashes = refl

-- ---- `report`

report_in_any_order : said_in (codes "report" ∷ codes "--to" ∷ codes "5" ∷ codes "--db" ∷ codes "a" ∷ codes "--from" ∷ codes "0" ∷ []) ≡ Some (Report (codes "a") 0 5)
unfolding clap_on_literals digits given found_in report_in report_words
report_in_any_order = refl

report_to_an_earlier_moment : said_in (codes "report" ∷ codes "--db" ∷ codes "a" ∷ codes "--from" ∷ codes "6" ∷ codes "--to" ∷ codes "5" ∷ []) ≡ None
unfolding clap_on_literals digits given found_in report_in report_words
report_to_an_earlier_moment = refl

option_twice : said_in (codes "report" ∷ codes "--db" ∷ codes "a" ∷ codes "--from" ∷ codes "0" ∷ codes "--to" ∷ codes "5" ∷ codes "--to" ∷ codes "5" ∷ []) ≡ None
unfolding clap_on_literals digits given found_in report_in report_words
option_twice = refl

-- ---- `serve`

serve_without_connections : said_in (codes "serve" ∷ codes "--db" ∷ codes "a" ∷ codes "--listen" ∷ codes "b" ∷ codes "--key" ∷ codes "K" ∷ []) ≡ Some (Serve (codes "a") (codes "b") (codes "K") 1000000)
unfolding clap_on_literals given found_in serve_in serve_words
serve_without_connections = refl

serve_without_a_key : said_in (codes "serve" ∷ codes "--db" ∷ codes "a" ∷ codes "--listen" ∷ codes "b" ∷ []) ≡ None
unfolding clap_on_literals given found_in serve_in serve_words
serve_without_a_key = refl

-- ---- `rehearse`

rehearse_says : said_in (codes "rehearse" ∷ []) ≡ Some Rehearse
unfolding clap_on_literals given found_in rehearse_in rehearse_words
rehearse_says = refl

rehearse_made : said_in (codes "rehearse" ∷ codes "--made" ∷ codes "12" ∷ []) ≡ Some (Made 12)
unfolding clap_on_literals digits given found_in rehearse_in rehearse_words
rehearse_made = refl
