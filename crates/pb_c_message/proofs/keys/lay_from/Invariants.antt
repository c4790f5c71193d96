use Rattle.std.proofs.Common.{◌≡◌, drop}
use Rattle.pb_c_message.specs.Keys.{laid_from}
use Rattle.pb_c_message.proofs.keys.lay_from.Given as goal

-- the bytes that are left are yet to be laid, from where those before end
abbrev pub invariant-loop-byte : goal.invariant-loop-byte
invariant-loop-byte l = laid_from l.at l.bytes l.initial.out ≡ laid_from l.index (drop l.byte-index l.bytes) l.out
