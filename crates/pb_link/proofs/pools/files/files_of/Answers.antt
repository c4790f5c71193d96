use Rattle.std.proofs.Common.{map, ap, ◌∙◌}
use Rattle.pb_schema.specs.View.{file_view}
use Rattle.pb_declarations.specs.View.{file_view as declared_view}
use Rattle.pb_graphs.specs.Flat.{lists_of}
use Rattle.pb_link_names.specs.Sees.{file_of}
use Rattle.pb_link.proofs.PartLemmas.{copied_more, copied_all, imports_at}
use Rattle.pb_link.proofs.pools.files.files_of.Goals as goal

pub loop-index-preserved : goal.loop-index-preserved
loop-index-preserved c =
    let all = map declared_view c.args.files.now in
    let file = declared_view c.index-files-index.result in
    copied_more (λ f. file_of all (declared_view f)) file_view c.args.files.now c.loop-index.index c.index-files-index.result c.loop-index.infos.items c.push.new.self.items c.in_ok-info.info c.loop-index-test.true c.index-files-index.is c.loop-index.invariant c.in_ok-push.ensures.items
    (c.in_ok-info.ensures ∙ ap (λ is. record (file_of all file) { imports = is }) (c.next.ensures.exact ∙ imports_at declared_view all (lists_of c.args.imports.now) c.args.files.now c.loop-index.index c.index-files-index.result c.requires c.loop-index-test.true c.index-files-index.is))

pub returns : goal.returns
returns c =
    let all = map declared_view c.args.files.now in
    copied_all (file_of all) declared_view file_view c.args.files.now c.loop-index.index c.loop-index.infos.items c.loop-index-test.false c.loop-index.invariant
