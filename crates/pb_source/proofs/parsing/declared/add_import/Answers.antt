use Rattle.std.proofs.Common.{◌++◌, ◌∷◌, [], string_bytes, ap, ◌∙◌}
use Rattle.pb_source.specs.Meaning.{FileStatement, public_from}
use Rattle.pb_source.proofs.PartSteps.{file_holds_import}
use Rattle.pb_source.proofs.parsing.declared.add_import.Goals as goal

pub returns : goal.returns
returns c = λ ss h.
    let p = c.args.file.now in
    file_holds_import p ss h c.args.is_public c.push.new.self c.add_public.new.public c.args.name c.in_ok-push.ensures.items
    (c.in_ok-add_public.ensures (string_bytes c.args.name)
    ∙ ap (λ n. p.public.items ++ public_from n (FileStatement.an_import c.args.is_public (string_bytes c.args.name) ∷ [])) (c.len.ensures ∙ p.imports.ok.0))
