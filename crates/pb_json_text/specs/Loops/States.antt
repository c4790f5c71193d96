-- What the parts of the reader say of the machine.
use Rattle.std.specs.Prelude.{◌≡◌, ℕ, ◌+◌, List, [], ◌∷◌, Bool, true, not, ◌==◌, ◌&&◌, nat_lt, ◌⊎◌}
use Rattle.pb_json_text.specs.Fault.{out_of_memory}
use Rattle.pb_json_text.specs.Grammar.{is_blank}
use Rattle.pb_json_text.specs.Json.{Members}
use Rattle.pb_json_text.specs.Loops.Machine.{Mode, Stack, go, Outcome, stop, next, begin, begin_name, onward, run}
use Rattle.pb_json_text.specs.declared.fault.JsonCause.TheVariants as cause
use Rattle.pb_json_text.specs.declared.fault.JsonFault.{JsonFault}

-- blanks change nothing
abbrev pub Skips : Mode → Type 0
Skips m = (p x : ℕ) → is_blank x ≡ true → next m p x ≡ go m

-- memory ran out, or the machine stops with this fault
abbrev pub IsStop : JsonFault → Outcome → Type 0
IsStop e o = (e ≡ out_of_memory) ⊎ (o ≡ stop e.byte e.cause)

-- from the first byte of a value on
abbrev pub run_begin : ℕ → Stack → ℕ → List ℕ → Outcome
run_begin l k p [] = stop p cause.UnexpectedEnd
run_begin l k p (x ∷ xs) = onward (begin l k p x) p (λ n. run n (p + 1) xs)

-- from the first byte of a name on
abbrev pub run_name : ℕ → ℕ → Members → Stack → ℕ → List ℕ → Outcome
run_name l a ms k p [] = stop p cause.UnexpectedEnd
run_name l a ms k p (x ∷ xs) = onward (begin_name l a ms k p x) p (λ n. run n (p + 1) xs)

-- a byte of a string that is itself
abbrev pub is_plain : ℕ → Bool
is_plain x = not (x == 34) && not (x == 92) && not (nat_lt x 32)
