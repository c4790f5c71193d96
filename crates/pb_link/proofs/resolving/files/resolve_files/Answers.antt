use Rattle.std.proofs.Common.{map}
use Rattle.pb_declarations.specs.View.{file_view}
use Rattle.pb_link_names.specs.View.{declaration_view}
use Rattle.pb_link.specs.Resolving.{coming, file_read, behind_file}
use Rattle.pb_link.proofs.ResolvingLemmas.{read_more, read_end}
use Rattle.pb_link.proofs.resolving.files.resolve_files.Goals as goal

pub loop-file-preserved : goal.loop-file-preserved
loop-file-preserved c =
    let ds = map declaration_view c.args.row.now in
    read_more (file_read ds) behind_file file_view file_view c.args.files.now c.loop-file.file-index c.file-item.result c.loop-file.resolved.items c.push.new.self.items c.in_ok-made.made (coming c.loop-file.names) (coming c.resolve_file.new.names) _ c.loop-file-test.true c.file-item.is c.in_ok-push.ensures.items (c.in_ok-made.ensures.file) c.in_ok-made.ensures.behind c.loop-file.invariant

pub returns : goal.returns
returns c =
    let ds = map declaration_view c.args.row.now in
    read_end (file_read ds) behind_file file_view file_view c.args.files.now c.loop-file.file-index c.loop-file.resolved.items (coming c.loop-file.names) _ c.loop-file-test.false c.loop-file.invariant
