use Rattle.std.proofs.Common.{[], ◌∷◌, ◌++◌, ap, ◌∙◌}
use Rattle.std.specs.Prelude.{if◌then◌else◌}
use Rattle.pb_names.specs.NameSets.{names_in}
use Rattle.pbtool_command.proofs.gathering.add_name.Goals as goal

pub returns : goal.returns
returns c unknown =
    let names = names_in c.args.names.now in
    c.in_ok-add_copy.ensures.names ∙ ap (λ b. if b then names else names ++ c.args.name.now ∷ []) unknown
