use Rattle.std.proofs.Common.{◌∙◌, ap, sym}
use Rattle.std.specs.Prelude.{option_map}
use Rattle.serde_json.specs.View.{view}
use Rattle.sg_records.proofs.SavedLemmas.{older_no_float}
use Rattle.sg_records.proofs.saved.is_older_text.Goals as goal

pub write-requires : goal.write-requires
write-requires c =
    older_no_float c.args.row.now (view c.in-Some.value) c.requires (sym c.in_ok-value.ensures ∙ ap (option_map view) c.in-Some.is)
