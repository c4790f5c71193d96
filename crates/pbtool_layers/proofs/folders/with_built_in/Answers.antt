use Rattle.std.proofs.Common.{rules, ◌≡◌, true, List, refl, ap, ◌∙◌}
use Rattle.std.specs.Prelude.{map, string_bytes}
use Rattle.std.specs.List.{insert}
use Rattle.std.specs.declared.alloc.Global.{Global}
use Rattle.std.specs.declared.string.String.{String}
use Rattle.pbtool_layers.specs.Folders.{is_compile}
use Rattle.pbtool_layers.proofs.FolderWords.{same_end, two_put_in}
use Rattle.pbtool_layers.proofs.folders.with_built_in.Goals as goal

pub returns : goal.returns
returns c =
    let words = c.args.words.items in
    let within = rw c.deref-2.ensures.value at c.end_of-end.ensures.within in
    let end = (rw c.deref-2.ensures.value at c.end_of-end.ensures.is) ∙ same_end words in
    let named : is_compile (map string_bytes words) ≡ true = search rules in
    ap (map string_bytes)
    (c.in_ok-insert-2.ensures.items
    ∙ ap (λ (ws : List (String Global)). insert ws c.end_of-end.result c.in_ok-from_str-2.field-0) c.in_ok-insert.ensures.items)
    ∙ two_put_in c.end_of-end.result words c.in_ok-from_str-2.field-0 c.in_ok-from_str.field-0 within
    ∙ rw (c.in_ok-from_str-2.ensures.ok, c.in_ok-from_str.ensures.ok, end, named) refl
