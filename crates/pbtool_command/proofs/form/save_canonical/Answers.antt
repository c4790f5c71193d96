use Rattle.std.proofs.Common.{◌≡◌, refl, []}
use Rattle.pb_wire.specs.declared.device.DeviceFault.{DeviceFault}
use Rattle.pb_encode.specs.Encoding.{bytes_of}
use Rattle.pbtool_files.specs.Answer.{saves}
use Rattle.pbtool_command.specs.MessageAnswer.{CanonAnswer, fits}
use Rattle.pbtool_command.specs.Steps.{IsNothing}
use Rattle.pbtool_command.proofs.Coming.{save_comes, unsaved_fails}
use Rattle.pbtool_command.proofs.form.save_canonical.Goals as goal

pub returns-in-Ok-clause-comes : goal.returns-in-Ok-clause-comes
returns-in-Ok-clause-comes g c =
    let made = c.in_ok-bytes.ensures.made in
    let small = rw made.0 at made.1 in
    let bytes = bytes_of c.args.message.now in
    let wrote = rw (c.deref.ensures.value, made.0) at c.in-Ok.ensures.map in
    save_comes g.F.Files.contents g.F.Files.failures c.args.files.now c.write_whole.new.self (λ text. text ≡ []) (λ text. ⊥)
    (CanonAnswer bytes (saves c.args.path.now bytes)) IsNothing c.args.path.now bytes (fits small refl) refl DeviceFault wrote

pub returns-clause-comes : goal.returns-clause-comes
returns-clause-comes g c =
    let made = c.in_ok-bytes.ensures.made in
    let small = rw made.0 at made.1 in
    let bytes = bytes_of c.args.message.now in
    let wrote = rw (c.deref.ensures.value, made.0) at c.in-Err.ensures.map in
    unsaved_fails g.F.Files.contents g.F.Files.failures c.args.files.now c.write_whole.new.self (λ text. text ≡ []) (λ text. ⊥)
    (CanonAnswer bytes (saves c.args.path.now bytes)) IsNothing c.args.path.now bytes (fits small refl) refl c.in-Err.field-0 c.in-Err.ensures.failed wrote
