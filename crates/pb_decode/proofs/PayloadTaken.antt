-- A reader before a payload of bytes.
use Rattle.std.proofs.Common.{◌≡◌, ℕ, ◌+◌, ◌≤◌, ◌<◌, List, [], ◌∷◌, ◌++◌, take, length, sym, ap, subst, arith}
use Rattle.pb_wire.specs.Record.{Record}
use Rattle.pb_wire.specs.declared.fault.Cause.{Cause}
use Rattle.pb_wire.specs.declared.fault.Cause.TheVariants.{Truncated, BadText}
use Rattle.pb_wire.specs.declared.fault.PathStep.{PathStep}
use Rattle.pb_wire.specs.Fault.{fault, Place, Moves}
use Rattle.pb_wire.specs.Scan.{passed}
use Rattle.pb_wire.specs.Schema.{records}
use Rattle.pb_wire.specs.Grammar.{Bad}
use Rattle.pb_wire.proofs.ScanLemmas.{moves_passed}
use Rattle.pb_schema.specs.Types.{Types}
use Rattle.pb_schema.specs.Rules.{IsPool}
use Rattle.pb_schema.specs.Context.{a_message as in_message, schema_of}
use Rattle.pb_decode_parts.specs.declared.open.target.Target.{Target}
use Rattle.pb_decode_parts.specs.declared.tokens.step.Step.{Step}
use Rattle.pb_decode_parts.specs.declared.tokens.step.Step.TheVariants as step
use Rattle.pb_decode_parts.specs.Open.Parents.{CanHold, next_step, path_of}
use Rattle.pb_decode_parts.specs.declared.values.payload_value.PayloadError.{PayloadError}
use Rattle.pb_decode_parts.specs.declared.values.payload_value.PayloadError.TheVariants as error
use Rattle.pb_decode_parts.specs.Values.PayloadValue.{IsBytesTarget, IfBadText}
use Rattle.pb_decode_parts.specs.Tokens.After.{After}
use Rattle.pb_decode.specs.Reader.{State, here, own_step, path_here, Reads, Stops, cut, Reported}
use Rattle.pb_decode_parts.proofs.AfterLemmas.{at_payload}
use Rattle.pb_decode_parts.proofs.PayloadSteps.{payload_cut}
use Rattle.pb_decode_parts.proofs.WellLemmas.{can_hold}
use Rattle.pb_decode.proofs.FewRecords.{counts_fit}

-- the step of a payload's record
pub payload_path : (s : State) (k : ℕ) (meant : Target) (n : ℕ) → s.next ≡ step.Payload k meant n → path_of s.parents ++ next_step k s.scope ∷ [] ≡ path_here s
payload_path s k meant n is = ap (λ (z : Step). path_of s.parents ++ own_step z s.scope) (sym is)

module _ {pool : Types} {m depth levels : ℕ} {base : List Record} {p0 : Place} (s : State) (rest : List ℕ) (k : ℕ) (meant : Target) (n : ℕ) (begun : Reads pool m depth levels base p0 s rest) (is : s.next ≡ step.Payload k meant n) where
  pub payload_next : After pool m depth levels base p0 s.parents (step.Payload k meant n) s.now s.scope (here s rest)
  payload_next = subst (λ (z : Step). After pool m depth levels base p0 s.parents z s.now s.scope (here s rest)) is begun

  pub payload_target : IsBytesTarget meant
  payload_target = (at_payload k meant n payload_next).for_bytes

  pub payload_can : IsPool pool → CanHold pool s.now
  payload_can ok = can_hold ok s.now (at_payload k meant n payload_next).reached

  pub payload_few : s.scope.counts k ≤ s.at
  payload_few =
      let at = at_payload k meant n payload_next in
      let few = counts_fit k at.reached in
      let tag = at.has.tag.2.at in
      let size = at.length_is.length_is.2.at in
      omega (arith, few, tag, size)

  -- its bytes lead after it
  pub payload_moves : n ≤ length rest → Moves (here s rest) (take n rest) (passed (here s rest) n)
  payload_moves within = moves_passed (here s rest) n within (at_payload k meant n payload_next).length_is.within

  pub payload_bad : (byte : ℕ) (c : Cause) → Bad (schema_of pool) (records (in_message m)) depth p0 (fault byte (path_of s.parents ++ next_step k s.scope ∷ []) c)
      → Bad (schema_of pool) (records (in_message m)) depth p0 (fault byte (path_here s) c)
  payload_bad byte c bad = subst (λ (z : List PathStep). Bad (schema_of pool) (records (in_message m)) depth p0 (fault byte z c)) (payload_path s k meant n is) bad

  -- where they are not all here nothing can be taken
  pub payload_short : IsPool pool → length rest < n → Stops pool m depth p0 s rest
  payload_short ok short = cut (payload_bad (s.at + length rest) Truncated (payload_cut k meant n payload_next (payload_can ok) payload_target short))

  -- a string that is not UTF-8 is refused at once
  pub payload_refused : (e : PayloadError) (valid : ℕ) → e ≡ error.BadText valid
      → IfBadText e (λ v. Bad (schema_of pool) (records (in_message m)) depth p0 (fault (s.at + v) (path_of s.parents ++ next_step k s.scope ∷ []) BadText)) → Reported pool m depth p0 (fault (s.at + valid) (path_here s) BadText)
  payload_refused e valid which reported =
      record {
        bad = payload_bad (s.at + valid) BadText (subst (λ (z : PayloadError). IfBadText z (λ v. Bad (schema_of pool) (records (in_message m)) depth p0 (fault (s.at + v) (path_of s.parents ++ next_step k s.scope ∷ []) BadText))) which reported);
        settled = λ same. absurd (cc);
      }
