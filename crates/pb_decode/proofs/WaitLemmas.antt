-- A reader that stops waits for the rest of what comes next.
use Rattle.std.proofs.Common.{◌≡◌, ◌≢◌, ◌⊎◌, ℕ, zero, suc, ◌-◌, List, [], take, drop, length, ◌<◌, refl, sym, ◌∙◌, subst, inl, inr, Option, Some, None}
use Rattle.std.specs.Prelude.{IfNone}
use Rattle.pb_decode_parts.specs.declared.open.target.Target.{Target}
use Rattle.pb_decode_parts.specs.declared.tokens.step.Step.{Step}
use Rattle.pb_decode_parts.specs.declared.tokens.step.Step.TheVariants as step
use Rattle.pb_schema.specs.declared.types.Kind.{Kind}
use Rattle.pb_schema.specs.Kinds.{wire_type_of}
use Rattle.pb_decode_parts.specs.Tokens.After.{Tag, tag, awaited}
use Rattle.pb_decode.specs.Reader.{State, left_of, here}
use Rattle.pb_decode.specs.Reader.Waiting.{WaitsAt, Waits}
use Rattle.pb_decode_parts.specs.Tokens.Numbers.{IsCutVarint, IsCutNumber}
use Rattle.pb_decode_parts.specs.Tokens.Number.{IsNumberType}
use Rattle.pb_decode.specs.Reader.Ended.{NothingEnds, StepGoesOn}
use Rattle.pb_decode_parts.proofs.OpenedLemmas.{nothing_left}
use Rattle.pb_decode_parts.proofs.PlaceLemmas.{slice_from}

same_type : (t u : Tag) → Some t ≡ Some u → t.type ≡ u.type
same_type t u is = cc

-- a number that is cut is waited for
pub number_waits : (s : State) (rest : List ℕ) (t : Tag) → IsNumberType t.type → awaited s.next ≡ Some t → IsCutNumber t.type (here s rest) → Waits s rest
number_waits s rest t types is h = by_step s.next is
  where
    no_length : (n : ℕ) → n ≡ 2 → IsNumberType n → ⊥
    no_length n two (inl e) = absurd (cc)
    no_length n two (inr (inl e)) = absurd (cc)
    no_length n two (inr (inr e)) = absurd (cc)

    by_step : (next : Step) → awaited next ≡ Some t → WaitsAt next s.parents (here s rest)
    by_step step.Tag e = absurd (cc)
    by_step (step.Varint n p) e = subst (λ (z : ℕ). IsCutNumber z (here s rest)) (sym (same_type (tag n 0 p) t e)) h
    by_step (step.I64 n p) e = subst (λ (z : ℕ). IsCutNumber z (here s rest)) (sym (same_type (tag n 1 p) t e)) h
    by_step (step.I32 n p) e = subst (λ (z : ℕ). IsCutNumber z (here s rest)) (sym (same_type (tag n 5 p) t e)) h
    by_step (step.Length n p) e = absurd (no_length t.type (sym (same_type (tag n 2 p) t e)) types)
    by_step (step.Payload n p size) e = absurd (cc)
    by_step (step.Elements n k outer) e = absurd (cc)

-- and an element of a list
pub element_waits : (s : State) (rest : List ℕ) (n : ℕ) (k : Kind) (outer : Option ℕ) → s.next ≡ step.Elements n k outer → IsCutNumber (wire_type_of k) (here s rest) → Waits s rest
element_waits s rest n k outer is h = subst (λ (z : Step). WaitsAt z s.parents (here s rest)) (sym is) h

-- and a payload
pub payload_waits : (s : State) (rest : List ℕ) (n : ℕ) (p : Target) (size : ℕ) → s.next ≡ step.Payload n p size → length rest < size → Waits s rest
payload_waits s rest n p size is h = subst (λ (z : Step). WaitsAt z s.parents (here s rest)) (sym is) h

pub none_waits : (s : State) (n : ℕ) (l : List ℕ) (o : Option ℕ) → o ≡ None → IfNone o (Waits s (take (length l - n) (drop n l))) → Waits s (drop n l)
none_waits s n l o none h = subst (Waits s) (slice_from n l) (subst (λ (z : Option ℕ). IfNone z (Waits s (take (length l - n) (drop n l)))) none h)

-- a length that is cut
pub length_waits : (s : State) (rest : List ℕ) (n : ℕ) (p : Target) → s.next ≡ step.Length n p → IsCutVarint (here s rest) → Waits s rest
length_waits s rest n p is h = subst (λ (z : Step). WaitsAt z s.parents (here s rest)) (sym is) h

-- a tag that is cut
pub tag_waits : (s : State) (rest : List ℕ) → s.next ≡ step.Tag → IsCutVarint (here s rest) → Waits s rest
tag_waits s rest is h = subst (λ (z : Step). WaitsAt z s.parents (here s rest)) (sym is) (inl h)

-- a tag that has no byte, or the end
pub end_waits : (s : State) (rest : List ℕ) → s.next ≡ step.Tag → NothingEnds s → (rest ≡ []) ⊎ (left_of s ≡ Some 0) → Waits s rest
end_waits s rest tag goes_on nothing = subst (λ (z : Step). WaitsAt z s.parents (here s rest)) (sym tag) (by_end (left_of s) refl nothing)
  where
    ended : (s.parents ≡ []) ⊎ (left_of s ≢ Some 0) → left_of s ≡ Some 0 → WaitsAt step.Tag s.parents (here s rest)
    ended (inl top) end = inr (top, inl end)
    ended (inr open_end) end = absurd (open_end end)

    by_end : (e : Option ℕ) → left_of s ≡ e → (rest ≡ []) ⊎ (left_of s ≡ Some 0) → WaitsAt step.Tag s.parents (here s rest)
    by_end e is (inr end) = ended (subst (λ (z : Step). StepGoesOn z s.parents (left_of s)) tag goes_on) end
    by_end None is (inl none) = inl (nothing_left (here s rest) none (λ end. let never : None ≡ Some 0 = sym is ∙ end in cc))
    by_end (Some zero) is (inl none) = ended (subst (λ (z : Step). StepGoesOn z s.parents (left_of s)) tag goes_on) is
    by_end (Some (suc n)) is (inl none) = inl (nothing_left (here s rest) none (λ end. let never : Some (suc n) ≡ Some 0 = sym is ∙ end in cc))
