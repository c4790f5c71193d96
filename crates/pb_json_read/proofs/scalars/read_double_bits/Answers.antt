use Rattle.pb_json_text.proofs.ViewLemmas.{form_view-Number}
use Rattle.pb_json_read.proofs.ScalarLemmas.{float_only}
use Rattle.pb_json_read.proofs.scalars.read_double_bits.Goals as goal

pub returns-in-Number : goal.returns-in-Number
returns-in-Number c =
    rw (c.in-Number.is, form_view-Number) (float_only _ _ _ _ c.deref.ensures.value c.read_double.ensures.read c.read_double.ensures.all)
