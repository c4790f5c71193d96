use Rattle.std.proofs.Common.{map}
use Rattle.pb_declarations.specs.View.{file_view}
use Rattle.pb_link_names.proofs.GraphLemmas.{list_ended, imports_in, public_in, imports_whole, lead_to_files}
use Rattle.pb_link_names.proofs.imports.Imports.new.Goals as goal

pub end_list-requires : goal.end_list-requires
end_list-requires c = (c.in_ok-push_imports.ensures.all (map file_view c.args.files.now) c.in_ok-firsts.ensures.named).laid c.loop-file.invariant.0.laid

pub end_list-requires-in-loop-file : goal.end_list-requires-in-loop-file
end_list-requires-in-loop-file c = (c.in_ok-push_imports.ensures.public (map file_view c.args.files.now) c.in_ok-firsts.ensures.named).laid c.loop-file.invariant.1.laid

pub loop-file-preserved : goal.loop-file-preserved
loop-file-preserved c =
    let files = c.args.files.now in
    let all = c.in_ok-push_imports.ensures.all (map file_view files) c.in_ok-firsts.ensures.named in
    let public = c.in_ok-push_imports.ensures.public (map file_view files) c.in_ok-firsts.ensures.named in
    let ended = c.in_ok-end_list.ensures in
    let ended_too = c.in_ok-end_list-2.ensures in (
      list_ended (imports_in files) files c.loop-file.file-index c.file-item.result c.loop-file.all c.push_imports.new.all c.end_list.new.self c.loop-file-test.true c.file-item.is c.loop-file.invariant.0 all ended.lists ended.empty ended.laid,
      list_ended (public_in files) files c.loop-file.file-index c.file-item.result c.loop-file.public c.push_imports.new.public c.end_list-in-loop-file.new.self c.loop-file-test.true c.file-item.is c.loop-file.invariant.1 public ended_too.lists ended_too.empty ended_too.laid,
    )

pub returns-clause-exact : goal.returns-clause-exact
returns-clause-exact c =
    imports_whole c.args.files.now c.loop-file.file-index _ c.loop-file-test.false c.loop-file.invariant.0.exact c.loop-file.invariant.1.exact

pub returns-clause-lead : goal.returns-clause-lead
returns-clause-lead c =
    lead_to_files (map file_view c.args.files.now) _ (imports_whole c.args.files.now c.loop-file.file-index _ c.loop-file-test.false c.loop-file.invariant.0.exact c.loop-file.invariant.1.exact)

pub returns-clause-first : goal.returns-clause-first
returns-clause-first c =
    c.in_ok-firsts.ensures.marked
