use Rattle.std.proofs.Common.{refl}
use Rattle.std.specs.Prelude.{option_map}
use Rattle.std.proofs.lemmas.Result.{err_from_is_err_and}
use Rattle.pb_value.specs.Data.{one}
use Rattle.pb_value.specs.View.{value_view}
use Rattle.pb_value.proofs.Views.{content_view-One}
use Rattle.pb_json_read.proofs.ReadLemmas.{made_ok, made_err}
use Rattle.pb_json_read.proofs.plain.read_plain_one.Goals as goal

pub returns-in_err-one : goal.returns-in_err-one
returns-in_err-one c =
    let p = err_from_is_err_and c.from_residual.result c.from_residual.ensures.1 in
    rw (p.1, p.2) (made_err _ (option_map one) _ c.in_err-one.ensures)

pub returns-in-Some : goal.returns-in-Some
returns-in-Some c = made_ok _ (option_map one) (option_map value_view c.in_ok-one.field-0) _ (rw (content_view-One, c.in-Some.is) refl) c.in_ok-one.ensures

pub returns-in-None : goal.returns-in-None
returns-in-None c = made_ok _ (option_map one) (option_map value_view c.in_ok-one.field-0) _ (rw (c.in-None.is) refl) c.in_ok-one.ensures
