use Rattle.std.proofs.Common.{List, ap, ◌∙◌}
use Rattle.std.specs.Prelude.{slice_get}
use Rattle.pb_schema.specs.Types.{FieldView}
use Rattle.pb_schema.specs.View.{field_view}
use Rattle.pb_json_read.proofs.PlaceLemmas.{read_at}
use Rattle.pb_json_read.proofs.names.field_at.Goals as goal

pub returns-clause-found : goal.returns-clause-found
returns-clause-found c =
    read_at field_view c.fields_of.result.now c.args.index c.get.result c.get.ensures.lookup.3
    ∙ ap (λ (fs : List FieldView). slice_get fs c.args.index) c.fields_of.ensures.listed
