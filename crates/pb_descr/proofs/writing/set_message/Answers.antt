use Rattle.std.proofs.Common.{map}
use Rattle.pb_declarations.specs.View.{file_view}
use Rattle.pb_descr_message.proofs.WriteLemmas.{told_deep}
use Rattle.pb_descr.proofs.writing.set_message.Goals as goal

pub returns-in-Err-TooDeep : goal.returns-in-Err-TooDeep
returns-in-Err-TooDeep c = record {
  made = tt;
  well_formed = tt;
  refused = told_deep (map file_view c.args.files.now) (rw (c.requires, c.in_ok-body.ensures.written, c.in-Err-TooDeep.field-0-is) at c.in-Err-TooDeep.ensures.refused);
}
