-- The length of a record, where its payload or its part begins.
use Rattle.std.proofs.Common.{◌≡◌, ◌≢◌, ℕ, List, [], ◌∷◌, ◌++◌, length, sym, ap, subst}
use Rattle.pb_wire.specs.Record.{Record}
use Rattle.pb_wire.specs.declared.fault.Cause.{Cause}
use Rattle.pb_wire.specs.declared.fault.Cause.TheVariants.{Truncated}
use Rattle.pb_wire.specs.declared.fault.PathStep.{PathStep}
use Rattle.pb_wire.specs.Fault.{fault, Place, input_end, VarintFault, LengthFault}
use Rattle.pb_wire.specs.Schema.{records}
use Rattle.pb_wire.specs.Grammar.{Bad}
use Rattle.pb_schema.specs.Types.{Types}
use Rattle.pb_schema.specs.Context.{a_message as in_message, schema_of}
use Rattle.pb_decode_parts.specs.declared.open.target.Target.{Target}
use Rattle.pb_decode_parts.specs.declared.tokens.step.Step.{Step}
use Rattle.pb_decode_parts.specs.declared.tokens.step.Step.TheVariants as step
use Rattle.pb_decode_parts.specs.Open.Parents.{path_of, next_step}
use Rattle.pb_decode_parts.specs.Tokens.After.{awaited, After}
use Rattle.pb_decode.specs.Reader.{State, here, own_step, path_here, Reads, Stops, cut, Reported}
use Rattle.pb_decode_parts.proofs.TokenReports.{length_refused}

-- the reader awaits the length of this record
pub at_length :
    {pool : Types} {m depth levels : ℕ} {base : List Record} {p0 : Place} (s : State) (rest : List ℕ) (k : ℕ) (p : Target) → Reads pool m depth levels base p0 s rest → s.next ≡ step.Length k p
    → After pool m depth levels base p0 s.parents (step.Length k p) s.now s.scope (here s rest)
at_length {pool} {m} {depth} {levels} {base} {p0} s rest k p begun is = subst (λ (z : Step). After pool m depth levels base p0 s.parents z s.now s.scope (here s rest)) is begun

-- A FAULT below the step of the record is one where the reader is
length_reported :
    (pool : Types) (m depth : ℕ) (p0 : Place) (s : State) (k : ℕ) (p : Target) (byte : ℕ) (c : Cause) → s.next ≡ step.Length k p
    → Bad (schema_of pool) (records (in_message m)) depth p0 (fault byte (path_of s.parents ++ next_step k s.scope ∷ []) c) → Bad (schema_of pool) (records (in_message m)) depth p0 (fault byte (path_here s) c)
length_reported pool m depth p0 s k p byte c is bad =
    let path : path_of s.parents ++ next_step k s.scope ∷ [] ≡ path_here s = ap (λ (z : Step). path_of s.parents ++ own_step z s.scope) (sym is) in
    subst (λ (z : List PathStep). Bad (schema_of pool) (records (in_message m)) depth p0 (fault byte z c)) path bad

pub length_fault_reported :
    {pool : Types} {m depth levels : ℕ} {base : List Record} {p0 : Place} (s : State) (rest : List ℕ) (k : ℕ) (p : Target) (c : Cause) → Reads pool m depth levels base p0 s rest → s.next ≡ step.Length k p → c ≢ Truncated
    → LengthFault (here s rest) (fault s.at [] c) → Reported pool m depth p0 (fault s.at (path_here s) c)
length_fault_reported {pool} {m} {depth} {p0 = p0} s rest k p c begun is not_cut bad =
    record { bad = length_reported pool m depth p0 s k p s.at c is (length_refused k p (fault s.at [] c) begun (ap awaited is) bad); settled = not_cut }

-- THE BYTES END inside the length
pub length_short :
    {pool : Types} {m depth levels : ℕ} {base : List Record} {p0 : Place} (s : State) (rest : List ℕ) (k : ℕ) (p : Target) → Reads pool m depth levels base p0 s rest → s.next ≡ step.Length k p
    → VarintFault (here s rest) (fault (input_end (here s rest)) [] Truncated) → Stops pool m depth p0 s rest
length_short {pool} {m} {depth} {levels} {base} {p0} s rest k p begun is bad =
    cut (length_reported pool m depth p0 s k p (input_end (here s rest)) Truncated is (length_refused k p (fault (input_end (here s rest)) [] Truncated) begun (ap awaited is) (LengthFault.token bad)))
