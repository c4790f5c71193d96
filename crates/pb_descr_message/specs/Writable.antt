-- Which real files can be written as a set.
use Rattle.std.specs.Prelude.{ℕ, ◌≤◌, ◌<◌, ◌^◌, List, length}
use Rattle.pb_value.specs.Data.{message_depth}
use Rattle.pb_declarations.specs.Decls.{DeclaredFile}
use Rattle.pb_descr_message.specs.Sets.{set_bytes}
use Rattle.pb_descr_message.specs.Writing.{set_body}

-- the set nests at most 100 levels deep, and the wire can hold its bytes
abbrev pub IsWithinLimits : List DeclaredFile → Type 0
IsWithinLimits files = (message_depth (set_body files) ≤ 100) × (length (set_bytes files) < 2 ^ 31)
