use Rattle.std.proofs.Common.{◌≡◌, [], refl}
use Rattle.std.proofs.lemmas.Result.{err_from_is_err_and}
use Rattle.pb_encode.specs.Encoding.{bytes_of}
use Rattle.pbtool_files.specs.Answer.{saves}
use Rattle.pbtool_files.specs.FileMap.{IsSaved, IsUnsaved}
use Rattle.pbtool_command.specs.MessageAnswer.{CanonAnswer}
use Rattle.pbtool_command.specs.Steps.{IsNothing, JsonReadAt}
use Rattle.pbtool_files.proofs.RefusalLemmas.{refuses_map}
use Rattle.pbtool_command.proofs.Coming.{refused_comes}
use Rattle.pbtool_command.proofs.FileSteps.{later_comes}
use Rattle.pbtool_command.proofs.FromJsonSteps.{no_text, text_read, text_refused}
use Rattle.pbtool_command.proofs.from_json.from_json_at.Goals as goal

pub returns-in_err-text-clause-comes : goal.returns-in_err-text-clause-comes
returns-in_err-text-clause-comes g c =
    let p = err_from_is_err_and c.from_residual.result c.from_residual.ensures.1 in
    let contents = g.F.Files.contents in
    let is_steady = g.F.Files.is_steady in
    let before = c.args.files.now in
    rw (p.1, p.2)
    (refused_comes (λ text. text ≡ []) (λ _. ⊥) (IsSaved contents before c.read_file.new.files)
    (IsUnsaved contents g.F.Files.failures before c.read_file.new.files)
    (JsonReadAt contents is_steady before c.args.conversion.rules c.args.named.now.names c.args.conversion.out.now c.args.named.now.pool c.args.named.now.message_type.0 c.args.path.now) IsNothing
    c.in_err-text.field-0.0 refl c.in_err-text.ensures.files refl
    (refuses_map _ _ c.in_err-text.field-0.0
    (no_text contents is_steady before c.args.conversion.rules c.args.named.now.names c.args.conversion.out.now c.args.named.now.pool c.args.named.now.message_type.0 c.args.path.now) c.in_err-text.ensures.refused))

pub returns-in_err-message-clause-comes : goal.returns-in_err-message-clause-comes
returns-in_err-message-clause-comes g c =
    let p = err_from_is_err_and c.from_residual-in_err-message.result c.from_residual-in_err-message.ensures.1 in
    let contents = g.F.Files.contents in
    let is_steady = g.F.Files.is_steady in
    let before = c.args.files.now in
    rw (p.1, p.2)
    (refused_comes (λ text. text ≡ []) (λ _. ⊥) (IsSaved contents before c.read_file.new.files)
    (IsUnsaved contents g.F.Files.failures before c.read_file.new.files)
    (JsonReadAt contents is_steady before c.args.conversion.rules c.args.named.now.names c.args.conversion.out.now c.args.named.now.pool c.args.named.now.message_type.0 c.args.path.now) IsNothing
    c.in_err-message.field-0.0 refl c.in_ok-text.ensures.files refl
    (refuses_map _ _ c.in_err-message.field-0.0
    (text_refused contents is_steady before c.args.conversion.rules c.args.named.now.names c.args.conversion.out.now c.args.named.now.pool c.args.named.now.message_type.0 c.args.path.now _ c.in_ok-text.ensures.read)
    (rw c.as_slice.ensures.value at c.in_err-message.ensures.refused)))

pub returns-clause-comes : goal.returns-clause-comes
returns-clause-comes g c =
    let contents = g.F.Files.contents in
    let is_steady = g.F.Files.is_steady in
    let before = c.args.files.now in
    let message = c.in_ok-message.message in
    let text = c.in_ok-text.ensures in
    let reads = c.in_ok-message.ensures in
    let short = rw c.as_slice.ensures.value at reads.short in
    let read = rw c.as_slice.ensures.value at reads.read in
    later_comes contents g.F.Files.failures before c.read_file.new.files c.save_canonical.new.files (λ text. text ≡ []) (λ _. ⊥)
    (CanonAnswer (bytes_of message) (saves c.args.conversion.out.now (bytes_of message)))
    (JsonReadAt contents is_steady before c.args.conversion.rules c.args.named.now.names c.args.conversion.out.now c.args.named.now.pool c.args.named.now.message_type.0 c.args.path.now) IsNothing IsNothing
    c.save_canonical.result text.files text.kept
    (λ a made. text_read contents is_steady before c.args.conversion.rules c.args.named.now.names c.args.conversion.out.now c.args.named.now.pool c.args.named.now.message_type.0 c.args.path.now _ text.read message a
    reads.of_type.0 reads.of_type.1 short read made)
    (λ text nothing. nothing) c.save_canonical.ensures.comes
