-- When a device in memory fails: at the call that comes after this many others, or never.
use Rattle.std.specs.Prelude.{ℕ, zero, suc, Option, Some, None}

-- how many others come before the call that fails, after one call: a plan fails once
abbrev pub after_call : Option ℕ → Option ℕ
after_call None = None
after_call (Some zero) = None
after_call (Some (suc n)) = Some n
