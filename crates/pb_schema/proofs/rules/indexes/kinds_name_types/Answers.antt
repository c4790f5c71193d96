use Rattle.std.proofs.lemmas.List.{length-map}
use Rattle.pb_schema.proofs.rules.indexes.kinds_name_types.Goals as goal

pub returns : goal.returns
returns c = simp length-map c.each_field.ensures
