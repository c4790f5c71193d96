use Rattle.std.proofs.Common.{ℕ, List, length, sym, ap, ◌∙◌}
use Rattle.std.specs.Prelude.{◌==◌}
use Rattle.std.proofs.lemmas.List.{length-map}
use Rattle.pb_schema.specs.Types.{FieldView}
use Rattle.pb_schema.specs.View.{field_view}
use Rattle.pb_json_read.proofs.encoded.has_no_fields.Goals as goal

pub returns : goal.returns
returns c =
    c.is_empty.ensures
    ∙ ap (λ (n : ℕ). n == 0) (sym (length-map c.fields_of.result.now field_view) ∙ ap (λ (fs : List FieldView). length fs) c.fields_of.ensures.listed)
