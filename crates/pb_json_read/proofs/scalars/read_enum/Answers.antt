use Rattle.std.proofs.Common.{rules}
use Rattle.pb_json_text.proofs.ViewLemmas.{form_view-Number, form_view-String}
use Rattle.pb_json_read.proofs.ScalarLemmas.{signed_only}
use Rattle.pb_json_read.proofs.scalars.read_enum.Goals as goal

pub returns-in-Number : goal.returns-in-Number
returns-in-Number c =
    rw (c.in-Number.is, form_view-Number) (signed_only _ _ c.read_i32.result c.deref.ensures.value c.read_i32.ensures.read (search rules) c.read_i32.ensures.all)

pub returns-in-String : goal.returns-in-String
returns-in-String c = rw (c.in-String.is, form_view-String) (rw c.as_str.ensures.value at c.read_enum_name.ensures)
