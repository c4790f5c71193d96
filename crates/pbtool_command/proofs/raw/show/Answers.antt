use Rattle.std.proofs.Common.{refl, inl, inr}
use Rattle.pbtool_files.specs.Answer.{done}
use Rattle.pbtool_command.proofs.raw.show.Goals as goal

pub returns-in-Ok : goal.returns-in-Ok
returns-in-Ok g c = λ rs text.
    let sent = c.in-Ok.ensures rs text in
    (done sent.0, (sent.0, sent.1, refl), refl, refl, sent.2, refl)

pub returns-in-Err : goal.returns-in-Err
returns-in-Err g c = λ rs text.
    let cut = c.in-Err.ensures rs text in
    inr (inl (cut.0, refl, inl (done cut.0, (cut.0, cut.1, refl), refl), cut.2, refl))
