use Rattle.std.proofs.Common.{◌≡◌, map}
use Rattle.pb_c_message.specs.Plain.{scalar_plain}
use Rattle.pb_c_message.specs.Keys.{laid, laid_from}
use Rattle.pb_c_message.proofs.KeyLists.{left}
use Rattle.pb_c_message.proofs.keys.write_keys.Given as goal

-- the keys that are left are yet to be laid, from where those before end
abbrev pub invariant-loop-key : goal.invariant-loop-key
invariant-loop-key l = laid (map scalar_plain (left l.first l.entries.entries)) l.initial.buffer ≡ laid_from l.count (map scalar_plain (left l.skipped l.key-iterator)) l.buffer
