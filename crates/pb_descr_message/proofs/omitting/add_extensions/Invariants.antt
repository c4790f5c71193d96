use Rattle.std.proofs.Common.{◌≡◌, ◌++◌, flat_map, map, take}
use Rattle.pb_value.specs.View.{value_view}
use Rattle.pb_descr_message.specs.Omitted.{omitted_view, extension_parts}
use Rattle.pb_descr_message.proofs.omitting.add_extensions.Given as goal

abbrev pub invariant-loop-extension : goal.invariant-loop-extension
invariant-loop-extension l =
    map omitted_view l.omitted.items ≡ map omitted_view l.initial.omitted.items ++ flat_map (extension_parts l.file l.scope) (map value_view (take l.extension-index l.extensions))
