-- What is right is answered: one value, or one fault.
use Rattle.std.proofs.Common.{◌≡◌, ℕ, List, refl, sym, ap, ◌∙◌, inl, inr, ◌⊎◌}
use Rattle.std.specs.Prelude.{Result, Ok, Err, IfOk, IfErr, IsErrAnd, MatchResult, All}
use Rattle.pb_wire.specs.Ranges.{IsByte}
use Rattle.pb_wire.specs.Fault.{Fault, fault}
use Rattle.pb_wire.specs.Grammar.{HasFault}
use Rattle.pb_wire.specs.Exact.{Exactly, IsSomeText}
use Rattle.pb_wire.specs.Limits.{Bounds}
use Rattle.pb_wire.proofs.ExactLemmas.{exactly}
use Rattle.pb_wire.proofs.Unique.{same_records}
use Rattle.pb_schema.specs.Types.{Types}
use Rattle.pb_schema.specs.Context.{a_message, schema_of}
use Rattle.pb_value.specs.Data.{Message}
use Rattle.pb_value.specs.Value.{value}
use Rattle.pb_value.specs.Derives.{Text}
use Rattle.pb_decode.specs.declared.error.DecodeError.{DecodeError}
use Rattle.pb_decode.specs.declared.error.DecodeError.TheVariants as error
use Rattle.pb_decode.specs.Reader.{IfFault}

pub some_text : {pool : Types} {m : ℕ} {limits : Bounds} {b : List ℕ} (v : Message) → Text pool m limits b v → IsSomeText (schema_of pool) (a_message m) limits b
some_text v t = (t.derives.records, record { size = t.size; spelled = t.derives.spelled; sound = t.derives.sound })

pub text_of : {pool : Types} {m : ℕ} {limits : Bounds} {b : List ℕ} → IsSomeText (schema_of pool) (a_message m) limits b → (v : Message) × Text pool m limits b v
text_of {pool = pool} {m = m} (rs, t) = (value pool m rs, record { size = t.size; derives = record { records = rs; spelled = t.spelled; sound = t.sound; valued = refl } })

-- bytes are the encoding of a value, or have one fault
pub exactly_value : (pool : Types) (m : ℕ) (limits : Bounds) (b : List ℕ) → All IsByte b → Exactly ((v : Message) × Text pool m limits b v) (HasFault (schema_of pool) (a_message m) limits b)
exactly_value pool m limits b bytes = record {
  either = by_text law.either;
  not_both = λ f bad t. law.not_both f bad (some_text t.0 t.1);
  one = law.one;
}
  where
    law : Exactly (IsSomeText (schema_of pool) (a_message m) limits b) (HasFault (schema_of pool) (a_message m) limits b)
    law = exactly (schema_of pool) (a_message m) limits b bytes

    by_text : IsSomeText (schema_of pool) (a_message m) limits b ⊎ ((f : Fault) × HasFault (schema_of pool) (a_message m) limits b f)
        → ((v : Message) × Text pool m limits b v) ⊎ ((f : Fault) × HasFault (schema_of pool) (a_message m) limits b f)
    by_text (inl t) = inl (text_of t)
    by_text (inr bad) = inr bad

pub accepted_from :
    {A : Type 0} (r : Result A DecodeError) (P Q : A → Type 0) (Fails : Fault → Type 0) → IfOk r P → IfErr r (λ e. IfFault e Fails) → ((a : A) → P a → Q a) → ((f : Fault) → Fails f → ⊥) → MatchResult r Q (λ e. e ≡ error.Memory)
accepted_from (Ok a) P Q Fails ok err good bad = good a ok
accepted_from (Err (error.Fault byte path c)) P Q Fails ok err good bad = absurd (bad (fault byte path.items c) err)
accepted_from (Err error.Memory) P Q Fails ok err good bad = refl
accepted_from (Err error.Device) P Q Fails ok err good bad = absurd err
accepted_from (Err error.Finished) P Q Fails ok err good bad = absurd err

pub refused_from :
    {A : Type 0} (r : Result A DecodeError) (P : A → Type 0) (Fails : Fault → Type 0) (f : Fault) → IfOk r P → IfErr r (λ e. IfFault e Fails) → ((a : A) → P a → ⊥) → ((g : Fault) → Fails g → g ≡ f) → IsErrAnd r (λ e. IfFault e (λ g. g ≡ f))
refused_from (Ok a) P Fails f ok err good same = absurd (good a ok)
refused_from (Err (error.Fault byte path c)) P Fails f ok err good same = same (fault byte path.items c) err
refused_from (Err error.Memory) P Fails f ok err good same = tt
refused_from (Err error.Device) P Fails f ok err good same = absurd err
refused_from (Err error.Finished) P Fails f ok err good same = absurd err

-- and of no other value
pub same_value : {pool : Types} {m : ℕ} {limits : Bounds} {b : List ℕ} (v w : Message) → Text pool m limits b v → Text pool m limits b w → v ≡ w
same_value {pool} {m} {b = b} v w t u =
    t.derives.valued ∙ ap (value pool m) (same_records t.derives.records u.derives.records b t.derives.spelled u.derives.spelled) ∙ sym u.derives.valued
