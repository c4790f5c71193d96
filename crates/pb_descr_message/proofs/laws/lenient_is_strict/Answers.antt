use Rattle.pb_descr_message.proofs.LenientStrict as lenient
use Rattle.pb_descr_message.proofs.laws.lenient_is_strict.Goals as goal

pub returns : goal.returns
returns c = record { read = λ b without files are w. lenient.read b without are w files; refused = λ b without i cause are w. lenient.refused b without are w i cause }
