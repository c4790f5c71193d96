-- What the new kind reads of the payload of one value of the old kind: a scalar, a message, or a message as bytes.
use Rattle.std.proofs.Common.{◌≡◌, ℕ, pos, negsuc, zero, suc, ◌<◌, ◌≤◌, List, [], ◌∷◌, ◌++◌, map, true, false, not, Option, Some, None, option_map, refl, sym, ◌∙◌, ap, subst, arith, append-nil}
use Rattle.std.specs.Prelude.{unwrap_or, ◌==◌}
use Rattle.std.proofs.lemmas.Bool.Decides.{Decides-eqb}
use Rattle.pb_wire.specs.Record.{Payload, varint, fixed64, len, group, fixed32, Record, wire_type}
use Rattle.pb_wire.specs.Inside.{records_inside}
use Rattle.pb_schema.specs.declared.types.Kind.{Kind}
use Rattle.pb_schema.specs.declared.types.Kind.TheVariants as kind
use Rattle.pb_schema.specs.Types.{Types}
use Rattle.pb_schema.specs.Scalar.{Scalar, int32, int64, uint32, uint64, boolean, float, double, enum, text, bytes, is_default}
use Rattle.pb_schema.specs.Kinds.{wire_type_of, message_of_kind, closed_enum, default_of, IsOfKind, read, written}
use Rattle.pb_schema.specs.Closed.{is_declared, is_undeclared}
use Rattle.pb_value.specs.Data.{Datum, scalar, message, Message, levels_of, message_depth}
use Rattle.pb_value.specs.Value.{last_of, all_elements, one_value, list_values}
use Rattle.pb_value.specs.Canon.{payload_of, canon, canon_bytes, record_of, sealed}
use Rattle.pb_value.specs.WellFormed.{IsDatum, IsBody, datum_declared}
use Rattle.pb_value.proofs.CanonLemmas.{AreGood}
use Rattle.pb_value.proofs.BytesLemmas.{AreBytes-shortest_records}
use Rattle.pb_value.proofs.GroupLemmas.{inside-wrapped}
use Rattle.pb_value.proofs.Options.{some_of}
use Rattle.pb_value.proofs.ShapeSteps.{one_value-scalar, list_values-scalar}
use Rattle.pb_compat.specs.Scalars.{meaning, KeepsScalar, keeps_scalars}
use Rattle.pb_compat.specs.Fields.{keeps_kind}
use Rattle.pb_compat.specs.Agrees.{IsSameValue, Agrees, HasNoUnknown, ValueHasNoUnknown}
use Rattle.pb_compat.proofs.ScalarLemmas.{MeansTo, scalars_kept}
use Rattle.pb_compat.proofs.FieldLemmas.{read_as, kept_scalars, read_wire, read_scalar, packable_wire, elements_read}

no_zero : (n : ℕ) → (suc n == 0) ≡ true → ⊥
no_zero n e = omega (arith, (Decides-eqb (suc n) 0).0 e)

-- the default of a kind is the one value of it that is a default
pub default_only : (k : Kind) (x : Scalar) → IsOfKind k x → is_default x ≡ true → x ≡ default_of k
default_only kind.Int32 (int32 (pos zero)) h e = refl
default_only kind.Int32 (int32 (pos (suc n))) h e = absurd (no_zero n e)
default_only kind.Int32 (int32 (negsuc n)) h e = absurd (cc)
default_only kind.Sint32 (int32 (pos zero)) h e = refl
default_only kind.Sint32 (int32 (pos (suc n))) h e = absurd (no_zero n e)
default_only kind.Sint32 (int32 (negsuc n)) h e = absurd (cc)
default_only kind.Sfixed32 (int32 (pos zero)) h e = refl
default_only kind.Sfixed32 (int32 (pos (suc n))) h e = absurd (no_zero n e)
default_only kind.Sfixed32 (int32 (negsuc n)) h e = absurd (cc)
default_only kind.Int64 (int64 (pos zero)) h e = refl
default_only kind.Int64 (int64 (pos (suc n))) h e = absurd (no_zero n e)
default_only kind.Int64 (int64 (negsuc n)) h e = absurd (cc)
default_only kind.Sint64 (int64 (pos zero)) h e = refl
default_only kind.Sint64 (int64 (pos (suc n))) h e = absurd (no_zero n e)
default_only kind.Sint64 (int64 (negsuc n)) h e = absurd (cc)
default_only kind.Sfixed64 (int64 (pos zero)) h e = refl
default_only kind.Sfixed64 (int64 (pos (suc n))) h e = absurd (no_zero n e)
default_only kind.Sfixed64 (int64 (negsuc n)) h e = absurd (cc)
default_only kind.Uint32 (uint32 zero) h e = refl
default_only kind.Uint32 (uint32 (suc n)) h e = absurd (no_zero n e)
default_only kind.Fixed32 (uint32 zero) h e = refl
default_only kind.Fixed32 (uint32 (suc n)) h e = absurd (no_zero n e)
default_only kind.Uint64 (uint64 zero) h e = refl
default_only kind.Uint64 (uint64 (suc n)) h e = absurd (no_zero n e)
default_only kind.Fixed64 (uint64 zero) h e = refl
default_only kind.Fixed64 (uint64 (suc n)) h e = absurd (no_zero n e)
default_only kind.Bool (boolean true) h e = absurd (cc)
default_only kind.Bool (boolean false) h e = refl
default_only kind.Float (float zero) h e = refl
default_only kind.Float (float (suc n)) h e = absurd (no_zero n e)
default_only kind.Double (double zero) h e = refl
default_only kind.Double (double (suc n)) h e = absurd (no_zero n e)
default_only (kind.Enum i) (enum (pos zero)) h e = refl
default_only (kind.Enum i) (enum (pos (suc n))) h e = absurd (no_zero n e)
default_only (kind.Enum i) (enum (negsuc n)) h e = absurd (cc)
default_only (kind.ClosedEnum i) (enum (pos zero)) h e = refl
default_only (kind.ClosedEnum i) (enum (pos (suc n))) h e = absurd (no_zero n e)
default_only (kind.ClosedEnum i) (enum (negsuc n)) h e = absurd (cc)
default_only kind.Text (text []) h e = refl
default_only kind.Text (text (x ∷ xs)) h e = absurd (cc)
default_only kind.Bytes (bytes []) h e = refl
default_only kind.Bytes (bytes (x ∷ xs)) h e = absurd (cc)
default_only k x h e = absurd h

-- a key is read as one of the new kind
pub key_read : (old new : Types) (k l : Kind) (keeps : keeps_scalars old new k l ≡ true) (x : Scalar) → IsOfKind k x → is_declared old k x ≡ true → IsOfKind l (read_as k l x)
key_read old new k l keeps x h d =
    let r = some_of (read l (written k x)) (MeansTo new l (meaning x)) (scalars_kept new old k l keeps x h d) in
    subst (IsOfKind l) (sym (ap (λ (o : Option Scalar). unwrap_or o x) r.1)) r.2.0

-- a number that is read as a declared one is not undeclared
declared_number : (new : Types) (k : Kind) (p : Payload) (y : Scalar) → read k p ≡ Some y → is_declared new k y ≡ true → is_undeclared new (closed_enum k) p ≡ false
declared_number new (kind.ClosedEnum e) (varint n) y r d = ap not (let same : enum _ ≡ y = cc in subst (λ (x : Scalar). is_declared new (kind.ClosedEnum e) x ≡ true) (sym same) d)
declared_number new (kind.ClosedEnum e) (fixed64 n) y r d = refl
declared_number new (kind.ClosedEnum e) (len s) y r d = refl
declared_number new (kind.ClosedEnum e) (group g) y r d = refl
declared_number new (kind.ClosedEnum e) (fixed32 n) y r d = refl
declared_number new k p y r d = refl

-- what is known of a value that is read
abbrev pub IsRead : Kind → Datum → Type 0
IsRead b (scalar y) = IsOfKind b y
IsRead b (message w) = Unit {0}

module _ (old new : Types) (inner : ℕ → List Record → Message) where
  -- the new kind b reads a value of the old kind a
  pub record Reads (a b : Kind) (d : Datum) : Type 0 where
    pub value : Datum
    pub is_read : IsRead b value
    pub same : IsSameValue old new a b d value
    pub wire : wire_type (payload_of old a d) ≡ wire_type_of b
    pub declared : is_undeclared new (closed_enum b) (payload_of old a d) ≡ false
    pub alone : (n : ℕ) → one_value inner b (record_of n (payload_of old a d) ∷ []) ≡ Some value
    pub listed : (n : ℕ) (rs : List Record) → list_values inner b (record_of n (payload_of old a d) ∷ rs) ≡ value ∷ list_values inner b rs

  pub kept_read : (a b : Kind) (x : Scalar) → KeepsScalar new a b x → Reads a b (scalar x)
  kept_read a b x kept =
      let r = some_of (read b (written a x)) (MeansTo new b (meaning x)) kept in
      let none = read_scalar b (written a x) r.0 r.1 in
      let wire = read_wire b (written a x) r.0 r.1 in
      let gives = elements_read b (written a x) r.0 (λ can w. (packable_wire b can).0 (sym wire ∙ w)) r.1 in
      record {
        value = scalar r.0;
        is_read = r.2.0;
        same = r.2.2;
        wire = wire;
        declared = declared_number new b (written a x) r.0 r.1 r.2.1;
        alone = λ n. one_value-scalar inner b (record_of n (written a x) ∷ []) none ∙ ap (λ (l : List Scalar). option_map scalar (last_of (l ++ []))) gives;
        listed = λ n rs.
            list_values-scalar inner b (record_of n (written a x) ∷ rs) none
            ∙ ap (λ (l : List Scalar). map scalar (l ++ all_elements b rs)) gives
            ∙ ap (λ (l : List Datum). scalar r.0 ∷ l) (sym (list_values-scalar inner b rs none));
      }

  scalar_read : (a b : Kind) (x : Scalar) → keeps_scalars old new a b ≡ true → IsOfKind a x → is_declared old a x ≡ true → Reads a b (scalar x)
  scalar_read a b x keeps h d = kept_read a b x (scalars_kept new old a b keeps x h d)

  module _ (Pair : ℕ → ℕ → Type 0) (levels : ℕ)
      (inside : (m n : ℕ) (v : Message) → Pair m n → IsBody old m v → HasNoUnknown v → message_depth v < levels → Agrees old new m n v (inner n (canon old m v)))
      (good : (m : ℕ) (v : Message) → IsBody old m v → AreGood (canon old m v)) where
    -- where both kinds are messages, their types are such a pair
    abbrev pub LeadToPair : Kind → Kind → Type 0
    LeadToPair a b = (m n : ℕ) → message_of_kind a ≡ Some m → message_of_kind b ≡ Some n → Pair m n

    message_read : (a b : Kind) (v : Message) → keeps_kind old new a b ≡ true → LeadToPair a b → IsDatum old a (message v) → HasNoUnknown v → message_depth v < levels → Reads a b (message v)
    message_read (kind.Message i) (kind.Message j) v keeps pair w none l =
        let within : records_inside (sealed (canon old i.0 v)) ≡ canon old i.0 v = inside-wrapped (kind.Message i) i.0 (canon old i.0 v) refl (good i.0 v w) in
        record {
          value = message (inner j.0 (canon old i.0 v));
          is_read = tt;
          same = inside i.0 j.0 v (pair i.0 j.0 refl refl) w none l;
          wire = refl;
          declared = refl;
          alone = λ n. ap (λ (rs : List Record). Some (message (inner j.0 rs))) (append-nil (records_inside (sealed (canon old i.0 v))) ∙ within);
          listed = λ n rs. ap (λ (xs : List Record). message (inner j.0 xs) ∷ list_values inner (kind.Message j) rs) within;
        }
    message_read (kind.Group i) (kind.Group j) v keeps pair w none l =
        let within : records_inside (payload_of old (kind.Group i) (message v)) ≡ canon old i.0 v = inside-wrapped (kind.Group i) i.0 (canon old i.0 v) refl (good i.0 v w) in
        record {
          value = message (inner j.0 (canon old i.0 v));
          is_read = tt;
          same = inside i.0 j.0 v (pair i.0 j.0 refl refl) w none l;
          wire = refl;
          declared = refl;
          alone = λ n. ap (λ (rs : List Record). Some (message (inner j.0 rs))) (append-nil (records_inside (payload_of old (kind.Group i) (message v))) ∙ within);
          listed = λ n rs. ap (λ (xs : List Record). message (inner j.0 xs) ∷ list_values inner (kind.Group j) rs) within;
        }
    message_read (kind.Message i) kind.Bytes v keeps pair w none l = record {
      value = scalar (bytes (canon_bytes old i.0 v));
      is_read = AreBytes-shortest_records (canon old i.0 v) (good i.0 v w).in_range;
      same = refl;
      wire = refl;
      declared = refl;
      alone = λ n. refl;
      listed = λ n rs. refl;
    }
    message_read (kind.Message i) b v keeps pair w none l = absurd (cc)
    message_read (kind.Group i) b v keeps pair w none l = absurd (cc)
    message_read a b v keeps pair w none l = absurd w

    -- each value of a kind that is kept is read
    pub value_read : (a b : Kind) (d : Datum) → keeps_kind old new a b ≡ true → LeadToPair a b → IsDatum old a d → datum_declared old a d ≡ true → ValueHasNoUnknown d → levels_of d ≤ levels → Reads a b d
    value_read a b (scalar x) keeps pair w d none l = scalar_read a b x (kept_scalars old new a b (scalar_alone a x w) keeps) w d
      where
        scalar_alone : (k : Kind) (y : Scalar) → IsOfKind k y → message_of_kind k ≡ None
        scalar_alone (kind.Message i) y h = absurd h
        scalar_alone (kind.Group i) y h = absurd h
        scalar_alone k y h = refl
    value_read a b (message v) keeps pair w d none l = message_read a b v keeps pair w none (omega (arith, l))
