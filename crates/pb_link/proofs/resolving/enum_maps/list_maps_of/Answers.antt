use Rattle.std.proofs.Common.{map, ap, ◌∙◌, rules}
use Rattle.std.specs.Vec.{with_items}
use Rattle.std.proofs.lemmas.List.{with_items_is}
use Rattle.pb_declarations.specs.View.{message_view}
use Rattle.pb_link.specs.EnumMaps.{message_without_maps}
use Rattle.pb_link.proofs.EnumMapLemmas.{file_changed}
use Rattle.pb_link.proofs.resolving.enum_maps.list_maps_of.Goals as goal

pub returns-then-file : goal.returns-then-file
returns-then-file c =
    let before = c.args.file.now.messages in
    let kept = with_items_is before c.list_maps.new.messages (search rules) in
    file_changed c.args.file.now (with_items before c.list_maps.new.messages) c.if-file.true
    (ap (map message_view) kept ∙ c.list_maps.ensures ∙ ap (λ ms. map message_without_maps (map message_view ms)) c.deref_mut.ensures.value)
