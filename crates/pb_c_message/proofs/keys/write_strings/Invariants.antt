use Rattle.std.proofs.Common.{◌≡◌}
use Rattle.pb_c_message.specs.Keys.{strings_of, laid, laid_from}
use Rattle.pb_c_message.proofs.KeyLists.{left}
use Rattle.pb_c_message.proofs.keys.write_strings.Given as goal

-- the strings that are left are yet to be laid, from where those before end
abbrev pub invariant-loop-key : goal.invariant-loop-key
invariant-loop-key l = laid (strings_of (left l.first l.entries.entries)) l.initial.out ≡ laid_from l.at (strings_of (left l.skipped l.key-iterator)) l.out
