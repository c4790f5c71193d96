use Rattle.std.proofs.Common.{◌==◌, ap, ◌∙◌}
use Rattle.pb_declarations.specs.declared.decl.MessageDecl.{out-MessageDecl}
use Rattle.pb_link_rules.proofs.MapLemmas.{bare_right}
use Rattle.pb_link_rules.proofs.rules.maps.has_nothing_inside.Goals as goal

pub returns : goal.returns
returns c =
    let m = out-MessageDecl c.args.message.now in
    bare_right c.args.message.now c.is_empty-no_messages.result c.is_empty-no_enums.result c.is_empty-no_oneofs.result c.all_three.result
    (c.is_empty-no_messages.ensures ∙ ap (λ n. n == 0) m.messages.ok.0)
    (c.is_empty-no_enums.ensures ∙ ap (λ n. n == 0) m.enums.ok.0)
    (c.is_empty-no_oneofs.ensures ∙ ap (λ n. n == 0) m.oneofs.ok.0)
    c.all_three.ensures
