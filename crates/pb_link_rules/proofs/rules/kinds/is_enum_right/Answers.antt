use Rattle.std.proofs.Common.{map, not, ap, ◌∙◌, ◌&&◌, ◌||◌}
use Rattle.std.specs.List.{list_all}
use Rattle.pb_declarations.specs.View.{file_view}
use Rattle.pb_link_rules.specs.Rules.{passes_declared, is_two, is_open, is_of_entry}
use Rattle.pb_link_rules.specs.Judging.{world_of}
use Rattle.pb_link_names.specs.View.{declaration_view}
use Rattle.pb_link_rules.proofs.rules.kinds.is_enum_right.Goals as goal

pub returns : goal.returns
returns c = λ s d may e.
    let fs = map file_view c.args.files.now in
    let w = world_of fs (map declaration_view c.args.row.now) s in
    c.either.ensures
    ∙ ap (λ b. b || c.are_no_closed_enums.result) may
    ∙ ap (λ b. (is_two fs d.file && not (is_of_entry d.item)) || b) (c.are_no_closed_enums.ensures s ∙ ap (list_all (passes_declared w (is_open fs))) e)
