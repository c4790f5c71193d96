use Rattle.std.proofs.Common.{◌≡◌, ◌++◌, map, rules}
use Rattle.pb_value.specs.View.{value_view}
use Rattle.pb_descr_message.specs.Omitted.{omitted_view, extension_parts}
use Rattle.pb_descr_message.proofs.OmittedLemmas.{gathered_more}
use Rattle.pb_descr_message.proofs.omitting.add_extensions.Goals as goal

pub loop-extension-preserved : goal.loop-extension-preserved
loop-extension-preserved c =
    let added : map omitted_view c.add_part.new.omitted.items ≡ map omitted_view c.loop-extension.omitted.items ++ extension_parts c.args.file c.args.scope.now (value_view c.extension-item.result) = search rules in
    gathered_more value_view (extension_parts c.args.file c.args.scope.now) c.args.extensions.now c.loop-extension.extension-index c.extension-item.result (map omitted_view c.args.omitted.now.items) (map omitted_view c.loop-extension.omitted.items) (map omitted_view c.add_part.new.omitted.items)
    c.loop-extension-test.true c.extension-item.is c.loop-extension.invariant added
