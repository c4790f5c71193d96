use Rattle.std.proofs.Common.{refl, inl, inr}
use Rattle.pbtool_files.specs.Answer.{done}
use Rattle.pbtool_command.proofs.form.print_text.Goals as goal

pub returns-in-Ok : goal.returns-in-Ok
returns-in-Ok g c =
    let sent = c.in-Ok.ensures in
    (done sent.0, (sent.0, sent.1, refl), refl, refl, sent.2, refl)

pub returns-in-Err : goal.returns-in-Err
returns-in-Err g c =
    let cut = c.in-Err.ensures in
    inr (inl (cut.0, refl, inl (done cut.0, (cut.0, cut.1, refl), refl), cut.2, refl))
