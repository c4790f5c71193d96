use Rattle.std.proofs.lemmas.List.{length-map}
use Rattle.pb_schema.proofs.rules.files.imports_name_files.Goals as goal

pub returns : goal.returns
returns c = simp length-map c.all_imports_are_below.ensures
