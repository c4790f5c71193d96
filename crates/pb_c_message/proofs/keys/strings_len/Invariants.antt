use Rattle.std.proofs.Common.{◌≡◌, ◌+◌, length}
use Rattle.pb_c_message.specs.Keys.{strings_of}
use Rattle.pb_c_message.proofs.KeyLists.{left}
use Rattle.pb_c_message.proofs.keys.strings_len.Given as goal

-- all the bytes are those counted and those of the keys that are left
abbrev pub invariant-loop-key : goal.invariant-loop-key
invariant-loop-key l = length (strings_of (left l.first l.entries.entries)) ≡ l.size + length (strings_of (left l.skipped l.key-iterator))
