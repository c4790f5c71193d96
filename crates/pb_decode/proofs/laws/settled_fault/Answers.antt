use Rattle.pb_wire.proofs.Longer.{text_longer}
use Rattle.pb_decode.proofs.laws.settled_fault.Goals as goal

pub returns : goal.returns
returns c = λ pool m limits b more f h. record { fault = text_longer b more f h.settled h.fault; settled = h.settled }
