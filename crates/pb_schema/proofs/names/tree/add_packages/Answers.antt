use Rattle.std.proofs.Common.{◌∙◌, arith}
use Rattle.pb_schema.proofs.PackageLemmas.{packages-none, packages-more, packages-all}
use Rattle.pb_schema.proofs.names.tree.add_packages.Goals as goal

pub loop-file-init : goal.loop-file-init
loop-file-init c tree words = rw c.new-scopes.ensures.items (packages-none c.args.tree.now tree)

pub loop-file-preserved : goal.loop-file-preserved
loop-file-preserved c tree words =
    rw c.in_ok-push.ensures.items (packages-more c.args.files.now c.loop-file.scopes.items c.in_ok-scope.scope c.loop-file.file-index c.file-item.result c.as_bytes.result.now c.args.tree.now c.loop-file.tree _ (omega arith) c.file-item.is words (c.as_bytes.ensures.value ∙ c.as_str.ensures.value) (c.loop-file.invariant tree words) c.in_ok-scope.ensures)

pub returns : goal.returns
returns c tree words =
    packages-all c.args.files.now c.loop-file.scopes.items c.loop-file.file-index c.args.tree.now c.loop-file.tree (omega arith) (c.loop-file.invariant tree words)
