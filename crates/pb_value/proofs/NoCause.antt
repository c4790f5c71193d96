-- A well-formed message has no cause to be refused.
use Rattle.std.proofs.Common.{◌≡◌, ◌≢◌, ℕ, ◌<◌, ◌≤◌, List, [], ◌∷◌, arith, inl, inr, refl, sym, ap, ◌∙◌, subst, Option, Some, None}
use Rattle.std.proofs.lemmas.Bool.Decides.{nat_tests}
use Rattle.std.specs.Prelude.{◌⊎◌, Bool, true, false, not, ◌&&◌, ◌||◌, ◌==◌, nat_lt, nat_le, ◌^◌}
use Rattle.pb_wire.specs.Record.{Payload, varint, fixed64, len, group, fixed32, Group, no_more, more, Record}
use Rattle.pb_wire.specs.Ranges.{IsNumber}
use Rattle.pb_wire.specs.Inside.{IsNumbered, IsNumberedGroup}
use Rattle.pb_schema.specs.declared.types.Kind.{Kind}
use Rattle.pb_schema.specs.declared.types.Kind.TheVariants as kind
use Rattle.pb_schema.specs.declared.types.Shape.{Shape}
use Rattle.pb_schema.specs.declared.types.Shape.TheVariants as shape
use Rattle.pb_schema.specs.Types.{FieldView, Types, message_fields, field_numbered}
use Rattle.pb_schema.specs.Scalar.{Scalar, int32, int64, uint32, uint64, boolean, float, double, enum, text, bytes}
use Rattle.pb_schema.specs.Kinds.{message_of_kind, IsOfKind}
use Rattle.pb_schema.specs.Closed.{counts}
use Rattle.pb_value.specs.Data.{Datum, scalar, message, Datums, no_datums, datum, Entries, no_entries, entry, Holding, one, list, map, Fields, no_fields, field, Message, body, message_depth}
use Rattle.pb_value.specs.Judge.{is_scalar_of, is_message_kind, is_value_of, are_values_of, is_key_of, are_entries_of, holds_kind, has_shape, is_absence}
use Rattle.pb_value.specs.Cause.{or_else, unless, at_field, shape_at, in_message, in_map, is_number, is_numbered, is_numbered_group, unknown_cause, stored_cause, with_member, is_second, datum_cause, datums_cause, entries_cause, parts_cause, held_cause, fields_cause, body_cause, message_cause, FailsWith}
use Rattle.pb_value.specs.WellFormed.{AreUnknown, IsOfShape, KeysRise, HasNoMember, HasOneMemberEach, oneof_of, oneof_at, key_of, IsDatum, AreDatums, AreEntries, IsHeld, AreFields, IsBody, IsWellFormed, holds_declared}
use Rattle.pb_value.specs.declared.error.ValueError.{ValueError}
use Rattle.pb_value.specs.declared.error.ValueError.TheVariants.{WrongKind, NoSuchField, KnownAsUnknown, TooDeep, Memory, NoSuchValue}
use Rattle.pb_value.proofs.JudgeLemmas.{OneFrom, oneof_at-shape}
use Rattle.pb_value.proofs.Options.{at_some, some_of}
use Rattle.pb_value.proofs.Numbers.{number_is}

and_true : (a b : Bool) → a ≡ true → b ≡ true → (a && b) ≡ true
and_true a b e f = ap (λ (x : Bool). x && b) e ∙ f

scalar_of : (k : Kind) (x : Scalar) → IsOfKind k x → is_scalar_of k x ≡ true
scalar_of kind.Int32 (int32 z) h = refl
scalar_of kind.Int64 (int64 z) h = refl
scalar_of kind.Uint32 (uint32 n) h = refl
scalar_of kind.Uint64 (uint64 n) h = refl
scalar_of kind.Sint32 (int32 z) h = refl
scalar_of kind.Sint64 (int64 z) h = refl
scalar_of kind.Bool (boolean b) h = refl
scalar_of (kind.Enum e) (enum z) h = refl
scalar_of (kind.ClosedEnum e) (enum z) h = refl
scalar_of kind.Fixed64 (uint64 n) h = refl
scalar_of kind.Sfixed64 (int64 z) h = refl
scalar_of kind.Double (double n) h = refl
scalar_of kind.Fixed32 (uint32 n) h = refl
scalar_of kind.Sfixed32 (int32 z) h = refl
scalar_of kind.Float (float n) h = refl
scalar_of kind.Text (text s) h = refl
scalar_of kind.Bytes (bytes s) h = refl
scalar_of k x h = absurd h

message_kind : (k : Kind) (m : ℕ) → message_of_kind k ≡ Some m → is_message_kind k ≡ true
message_kind (kind.Message n) m e = refl
message_kind (kind.Group n) m e = refl
message_kind k m e = absurd (cc)

shaped : (s : Shape) (h : Holding) → IsOfShape s h → (has_shape s h ≡ true) × (is_absence s h ≡ false)
shaped shape.Implicit (one d) h = (refl, h)
shaped shape.Explicit (one d) h = (refl, refl)
shaped (shape.OneofMember o) (one d) h = (refl, refl)
shaped (shape.List p) (list (datum d ds)) h = (refl, refl)
shaped (shape.Map k) (map (entry x d es)) h = (refl, refl)
shaped s h w = absurd w

key_judged : (s : Shape) (key : Kind) (x : Scalar) → key_of s ≡ Some key → IsOfKind key x → is_key_of s x ≡ true
key_judged (shape.Map l) key x e h = let same : key ≡ l = cc in scalar_of l x (subst (λ (k : Kind). IsOfKind k x) same h)
key_judged s key x e h = absurd (cc)

is_number-IsNumber : (k : ℕ) → IsNumber k → is_number k ≡ true
is_number-IsNumber k h = and_true (nat_lt 0 k) (nat_lt k (2 ^ 29)) (low k h.0) (high k h.1)
  where
    low : (n : ℕ) → 0 < n → nat_lt 0 n ≡ true
    low n f = grind (arith, nat_tests)

    high : (n : ℕ) → n < 2 ^ 29 → nat_lt n (2 ^ 29) ≡ true
    high n f = grind (arith, nat_tests)

mutual
  is_numbered-IsNumbered : (p : Payload) → IsNumbered p → is_numbered p ≡ true
  is_numbered-IsNumbered (varint n) h = refl
  is_numbered-IsNumbered (fixed64 n) h = refl
  is_numbered-IsNumbered (len s) h = refl
  is_numbered-IsNumbered (group g) h = is_numbered-group g h
  is_numbered-IsNumbered (fixed32 n) h = refl

  is_numbered-group : (g : Group) → IsNumberedGroup g → is_numbered_group g ≡ true
  is_numbered-group no_more h = refl
  is_numbered-group (more k p g) h =
      and_true (is_number k && is_numbered p) (is_numbered_group g) (and_true (is_number k) (is_numbered p) (is_number-IsNumber k h.0) (is_numbered-IsNumbered p h.1)) (is_numbered-group g h.2)

no_unknown_cause : (pool : Types) (fs : List FieldView) (us : List Record) → AreUnknown pool fs us → unknown_cause pool fs us ≡ None
no_unknown_cause pool fs [] h = refl
no_unknown_cause pool fs (u ∷ us) h =
    ap (λ (x : Bool). or_else (or_else (unless x NoSuchField) (unless (not (counts pool fs u)) KnownAsUnknown)) (unknown_cause pool fs us))
    (and_true (is_number u.number) (is_numbered u.payload) (is_number-IsNumber u.number h.0.0) (is_numbered-IsNumbered u.payload h.0.2))
    ∙ ap (λ (x : Bool). or_else (unless (not x) KnownAsUnknown) (unknown_cause pool fs us)) h.0.3 ∙ no_unknown_cause pool fs us h.1

-- at most one member each, beside those that are set before
or_cases : (a b : Bool) → (a || b) ≡ true → (a ≡ true) ⊎ (b ≡ true)
or_cases true b e = inl refl
or_cases false b e = inr e

bool_cases : (a : Bool) → (a ≡ true → ⊥) → a ≡ false
bool_cases true f = absurd (f refl)
bool_cases false f = refl

not_second : (s : Shape) (seen : ℕ → Bool) → ((o : ℕ) → seen o ≡ true → oneof_of s ≢ Some o) → is_second s seen ≡ false
not_second (shape.OneofMember p) seen h = bool_cases (seen p) (λ e. h p e refl)
not_second shape.Implicit seen h = refl
not_second shape.Explicit seen h = refl
not_second (shape.List p) seen h = refl
not_second (shape.Map k) seen h = refl

was_seen : (s : Shape) (seen : ℕ → Bool) (o : ℕ) → with_member s seen o ≡ true → (oneof_of s ≡ Some o) ⊎ (seen o ≡ true)
was_seen (shape.OneofMember p) seen o e = by_cases (or_cases (o == p) (seen o) e)
  where
    by_cases : ((o == p) ≡ true) ⊎ (seen o ≡ true) → (Some p ≡ Some o) ⊎ (seen o ≡ true)
    by_cases (inl a) = inl (ap (λ (q : ℕ). Some q) (sym (number_is o p a)))
    by_cases (inr b) = inr b
was_seen shape.Implicit seen o e = inr e
was_seen shape.Explicit seen o e = inr e
was_seen (shape.List p) seen o e = inr e
was_seen (shape.Map k) seen o e = inr e

OneFrom-from_each : (all : List FieldView) (seen : ℕ → Bool) (fs : Fields) → HasOneMemberEach all fs → ((o : ℕ) → seen o ≡ true → HasNoMember all o fs) → OneFrom all seen fs
unfolding OneFrom
OneFrom-from_each all seen no_fields h none = tt
OneFrom-from_each all seen (field n g fs) h none = (
  not_second (shape_at (field_numbered n all)) seen (λ o e q. (none o e).0 (oneof_at-shape (field_numbered n all) ∙ q)),
  OneFrom-from_each all (with_member (shape_at (field_numbered n all)) seen) fs h.1
      (λ o e. later o (was_seen (shape_at (field_numbered n all)) seen o e)),
)
  where
    later : (o : ℕ) → (oneof_of (shape_at (field_numbered n all)) ≡ Some o) ⊎ (seen o ≡ true) → HasNoMember all o fs
    later o (inl a) = at_some (oneof_at all n) (λ (p : ℕ). HasNoMember all p fs) o h.0 (oneof_at-shape (field_numbered n all) ∙ a)
    later o (inr b) = (none o b).1

module _ (pool : Types) where
  value_of : (k : Kind) (d : Datum) → IsDatum pool k d → is_value_of k d ≡ true
  value_of k (scalar x) h = scalar_of k x h
  value_of k (message b) h = let m = some_of (message_of_kind k) (λ (m : ℕ). IsBody pool m b) h in message_kind k m.0 m.1

  values_of : (k : Kind) (ds : Datums) → AreDatums pool k ds → are_values_of k ds ≡ true
  values_of k no_datums h = refl
  values_of k (datum d ds) h = and_true (is_value_of k d) (are_values_of k ds) (value_of k d h.0) (values_of k ds h.1)

  entries_of : (s : Shape) (key k : Kind) (es : Entries) → key_of s ≡ Some key → AreEntries pool key k es → are_entries_of s k es ≡ true
  entries_of s key k no_entries e h = refl
  entries_of s key k (entry x d es) e h =
      and_true (is_key_of s x && is_value_of k d) (are_entries_of s k es) (and_true (is_key_of s x) (is_value_of k d) (key_judged s key x e h.0) (value_of k d h.1))
      (entries_of s key k es e h.2)

  holds : (s : Shape) (k : Kind) (h : Holding) → IsHeld pool s k h → holds_kind s k h ≡ true
  holds s k (one d) w = value_of k d w
  holds s k (list ds) w = values_of k ds w
  holds s k (map es) w =
      let key = some_of (key_of s) (λ (key : Kind). AreEntries pool key k es × KeysRise es) w in entries_of s key.0 k es key.1 key.2.0

  no_stored_cause :
      (seen : ℕ → Bool) (s : Shape) (k : Kind) (h : Holding) → IsOfShape s h → IsHeld pool s k h → is_second s seen ≡ false → stored_cause seen s k h ≡ None
  no_stored_cause seen s k h shape held first =
      rw (holds s k h held, (shaped s h shape).0, (shaped s h shape).1, first) refl

  mutual
    unfolding OneFrom

    no_datum_cause : (k : Kind) (d : Datum) → IsDatum pool k d → datum_cause pool k d ≡ None
    no_datum_cause k (scalar x) h = ap (λ (b : Bool). unless b WrongKind) (scalar_of k x h)
    no_datum_cause k (message b) h =
        let m = some_of (message_of_kind k) (λ (m : ℕ). IsBody pool m b) h in
        ap (λ (o : Option ℕ). in_message o (λ n. body_cause pool n b)) m.1 ∙ no_body_cause m.0 b m.2

    no_datums_cause : (k : Kind) (ds : Datums) → AreDatums pool k ds → datums_cause pool k ds ≡ None
    no_datums_cause k no_datums h = refl
    no_datums_cause k (datum d ds) h = ap (λ (x : Option ValueError). or_else x (datums_cause pool k ds)) (no_datum_cause k d h.0) ∙ no_datums_cause k ds h.1

    no_entries_cause : (key k : Kind) (es : Entries) → AreEntries pool key k es → entries_cause pool key k es ≡ None
    no_entries_cause key k no_entries h = refl
    no_entries_cause key k (entry x d es) h =
        ap (λ (b : Bool). or_else (unless b WrongKind) (or_else (datum_cause pool k d) (entries_cause pool key k es))) (scalar_of key x h.0)
        ∙ ap (λ (y : Option ValueError). or_else y (entries_cause pool key k es)) (no_datum_cause k d h.1) ∙ no_entries_cause key k es h.2

    no_parts_cause : (s : Shape) (k : Kind) (h : Holding) → IsHeld pool s k h → parts_cause pool s k h ≡ None
    no_parts_cause s k (one d) w = no_datum_cause k d w
    no_parts_cause s k (list ds) w = no_datums_cause k ds w
    no_parts_cause s k (map es) w =
        let key = some_of (key_of s) (λ (key : Kind). AreEntries pool key k es × KeysRise es) w in
        ap (λ (o : Option Kind). in_map o (λ l. entries_cause pool l k es)) key.1 ∙ no_entries_cause key.0 k es key.2.0

    no_fields_cause : (all : List FieldView) (seen : ℕ → Bool) (fs : Fields) → AreFields pool all fs → OneFrom all seen fs → fields_cause pool all seen fs ≡ None
    no_fields_cause all seen no_fields h w = refl
    no_fields_cause all seen (field n g fs) h w =
        let f = some_of (field_numbered n all) (λ (f : FieldView). IsOfShape f.shape g × IsHeld pool f.shape f.kind g × (holds_declared pool f.kind g ≡ true)) h.0 in
        let first : is_second f.0.shape seen ≡ false = ap (λ (x : Option FieldView). is_second (shape_at x) seen) (sym f.1) ∙ w.0 in
        ap (λ (x : Option FieldView). or_else (at_field x (λ e. or_else (stored_cause seen e.shape e.kind g) (held_cause pool e.shape e.kind g))) (fields_cause pool all (with_member (shape_at (field_numbered n all)) seen) fs)) f.1
        ∙ ap (λ (x : Option ValueError). or_else (or_else x (held_cause pool f.0.shape f.0.kind g)) (fields_cause pool all (with_member (shape_at (field_numbered n all)) seen) fs)) (no_stored_cause seen f.0.shape f.0.kind g f.2.0 f.2.1 first)
        ∙ ap (λ (x : Option ValueError). or_else x (fields_cause pool all (with_member (shape_at (field_numbered n all)) seen) fs)) (ap (λ (b : Bool). or_else (unless b NoSuchValue) (parts_cause pool f.0.shape f.0.kind g)) f.2.2 ∙ no_parts_cause f.0.shape f.0.kind g f.2.1)
        ∙ no_fields_cause all (with_member (shape_at (field_numbered n all)) seen) fs h.1 w.1

    no_body_cause : (m : ℕ) (b : Message) → IsBody pool m b → body_cause pool m b ≡ None
    no_body_cause m (body fs us) h =
        ap (λ (x : Option ValueError). or_else x (unknown_cause pool (message_fields pool m) us))
        (no_fields_cause (message_fields pool m) (λ o. false) fs h.0 (OneFrom-from_each (message_fields pool m) (λ o. false) fs h.2 (λ o e. absurd (cc))))
        ∙ no_unknown_cause pool (message_fields pool m) us h.3

  pub no_cause : (m : ℕ) (v : Message) → IsWellFormed pool m v → message_cause pool m v ≡ None
  no_cause m v h =
      ap (λ (x : Option ValueError). or_else x (unless (nat_le (message_depth v) 100) TooDeep)) (no_body_cause m v h.parts)
      ∙ ap (λ (b : Bool). unless b TooDeep) (shallow (message_depth v) h.depth)
    where
      shallow : (n : ℕ) → n ≤ 100 → nat_le n 100 ≡ true
      shallow n f = grind (arith, nat_tests)

pub memory_alone : (cause : Option ValueError) (e : ValueError) → cause ≡ None → FailsWith cause e → e ≡ Memory
memory_alone cause e none (inl m) = m
memory_alone cause e none (inr c) = absurd (cc)
