use Rattle.std.proofs.Common.{◌≡◌, ◌+◌, ℕ, List, [], Option, refl}
use Rattle.std.proofs.lemmas.Result.{err_from_is_err_and}
use Rattle.pb_wire.specs.Limits.{full}
use Rattle.pbtool_files.specs.FileMap.{IsSaved, IsUnsaved}
use Rattle.pbtool_files.specs.Known.{IsReadOf}
use Rattle.pbtool_command.specs.Steps.{IsNothing, JsonReadAt, JsonReadOf}
use Rattle.pbtool_files.specs.SetFile.{NoType}
use Rattle.pbtool_command.specs.TypeAnswer.{no_type}
use Rattle.pbtool_files.proofs.RefusalLemmas.{refuses_map}
use Rattle.pbtool_command.proofs.Coming.{refused_comes}
use Rattle.pbtool_command.proofs.FileSteps.{later_comes}
use Rattle.pbtool_command.proofs.FromJsonSteps.{json_of_set}
use Rattle.pbtool_command.proofs.from_json.from_json.Goals as goal

pub returns-in_err-named-clause-comes : goal.returns-in_err-named-clause-comes
returns-in_err-named-clause-comes g c =
    let p = err_from_is_err_and c.from_residual.result c.from_residual.ensures.1 in
    rw (p.1, p.2)
    (refused_comes (λ text. text ≡ []) (λ _. ⊥) (IsSaved g.F.Files.contents c.args.files.now c.find_named_type.new.files)
    (IsUnsaved g.F.Files.contents g.F.Files.failures c.args.files.now c.find_named_type.new.files)
    (JsonReadOf g.F.Files.contents g.F.Files.is_steady c.args.files.now c.args.conversion.rules c.args.conversion.out.now c.args.source.now) IsNothing c.in_err-named.field-0.0
    refl c.in_err-named.ensures.files refl
    (refuses_map (λ a. (content : Option (List ℕ)) × IsReadOf g.F.Files.contents g.F.Files.is_steady c.args.files.now (full.bytes + 1) c.args.source.now.set.now content
    × NoType c.args.source.now.reading c.args.source.now.type_name.now c.args.source.now.set.now content a)
    (JsonReadOf g.F.Files.contents g.F.Files.is_steady c.args.files.now c.args.conversion.rules c.args.conversion.out.now c.args.source.now) c.in_err-named.field-0.0
    (λ a h. no_type h.1 h.2) c.in_err-named.ensures.refused))

pub returns-clause-comes : goal.returns-clause-comes
returns-clause-comes g c =
    let contents = g.F.Files.contents in
    let is_steady = g.F.Files.is_steady in
    let before = c.args.files.now in
    let mid = c.find_named_type.new.files in
    let named = c.in_ok-named.named in
    let type = c.in_ok-named.ensures in
    later_comes contents g.F.Files.failures before mid c.from_json_at-answer.new.files (λ text. text ≡ []) (λ _. ⊥)
    (JsonReadAt contents is_steady mid c.args.conversion.rules named.names c.args.conversion.out.now named.pool named.message_type.0 c.args.source.now.file.now)
    (JsonReadOf contents is_steady before c.args.conversion.rules c.args.conversion.out.now c.args.source.now) IsNothing IsNothing c.from_json_at-answer.result type.files type.kept
    (json_of_set contents is_steady before mid c.args.conversion.rules c.args.conversion.out.now c.args.source.now type.found.0 named.pool named.message_type.0 named.names type.found.3 type.found.1 type.found.2 type.files type.steady)
    (λ text nothing. nothing) c.from_json_at-answer.ensures.comes
