-- The message that bytes encode.
use Rattle.std.proofs.Common.{refl, inl, inr}
use Rattle.std.proofs.lemmas.Bool.{and_parts, ltb-true}
use Rattle.std.proofs.lemmas.List.Elements.{All-from_recursion}
use Rattle.std.specs.Prelude.{◌≡◌, ◌⊎◌, ℕ, List, [], ◌∷◌, Bool, true, false, nat_lt, Option, Some, None, All}
use Rattle.std.specs.List.{AllByRecursion, list_all}
use Rattle.pb_wire.specs.Fault.{Fault}
use Rattle.pb_wire.specs.Grammar.{HasFault}
use Rattle.pb_wire.specs.Limits.{full}
use Rattle.pb_wire.specs.Ranges.{IsByte}
use Rattle.pb_schema.specs.Types.{Types}
use Rattle.pb_schema.specs.Context.{a_message, schema_of}
use Rattle.pb_value.specs.Data.{Message}
use Rattle.pb_value.specs.Derives.{Text}
use Rattle.pb_decode.proofs.DecodeLemmas.{exactly_value}

abbrev pub is_byte : ℕ → Bool
is_byte b = nat_lt b 256

-- the value, where bytes have a value or a fault
abbrev pub value_or_none : {pool : Types} {m : ℕ} {b : List ℕ}
    → ((v : Message) × Text pool m full b v) ⊎ ((f : Fault) × HasFault (schema_of pool) (a_message m) full b f) → Option Message
value_or_none (inl t) = Some t.0
value_or_none (inr bad) = None

each_byte : (b : List ℕ) → list_all is_byte b ≡ true → AllByRecursion IsByte b
each_byte [] e = tt
each_byte (x ∷ b) e = (ltb-true x 256 (and_parts _ _ e).0, each_byte b (and_parts _ _ e).1)

pub bytes_are : (b : List ℕ) → list_all is_byte b ≡ true → All IsByte b
bytes_are b e = All-from_recursion IsByte b (each_byte b e)

abbrev pub encoded_if : (pool : Types) (m : ℕ) (b : List ℕ) (all : Bool) → list_all is_byte b ≡ all → Option Message
encoded_if pool m b true e = value_or_none (exactly_value pool m full b (bytes_are b e)).either
encoded_if pool m b false e = None

-- The message of a type whose encoding these bytes are, within the greatest limits, and nothing where they are none. Bytes have one value or one
-- fault, never both (`pb_decode::laws::one_answer`), so this is a function.
unfoldable pub message_encoded : Types → ℕ → List ℕ → Option Message
message_encoded pool m b = encoded_if pool m b (list_all is_byte b) refl
