-- A message type comes after the one that it is declared in.
use Rattle.std.proofs.Common.{◌≡◌, ℕ, ◌+◌, ◌<◌, Option, Some, None, option_map, IfSome, arith, sym}
use Rattle.pb_schema.specs.Types.{Types}
use Rattle.pb_schema.specs.Nesting.{parent_of}
use Rattle.pb_schema.specs.Rules.{IsPool}
use Rattle.pb_schema.specs.declared.types.MessageId.{MessageId}
use Rattle.pb_schema.proofs.LookupLemmas.{pool_parents}

pub parent_before : (ts : Types) (m : ℕ) (p : Option MessageId) → IsPool ts → option_map (λ (q : MessageId). q.0) p ≡ parent_of ts.messages m → IfSome p (λ q. q.0 < m)
parent_before ts m None rules e = tt
parent_before ts m (Some p) rules e = pool_parents ts (m + 1) rules m p.0 (omega arith) (sym e)
