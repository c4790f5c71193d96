use Rattle.std.proofs.Common.{◌≤◌}
use Rattle.pb_declarations.specs.Decls.{DeclaredFile}
use Rattle.pb_declarations.specs.Nests.{all_nest}
use Rattle.pb_declarations.specs.View.{file_view}
use Rattle.pb_descr_message.specs.Ranges.{IsFileInRange}
use Rattle.pb_descr_message.proofs.RangeLemmas.{go_on}
use Rattle.pb_descr_message.proofs.ranges.read_files.Goals as goal

pub loop-file-preserved : goal.loop-file-preserved
loop-file-preserved c =
    go_on (λ (f : DeclaredFile). all_nest f.messages ≤ 100 → IsFileInRange f) file_view c.args.files.now c.loop-file.file-index c.file-item.result c.loop-file-test.true c.file-item.is
    c.loop-file.invariant c.read_file.ensures
