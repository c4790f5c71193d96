-- Worked cases of messages that agree, and of messages that do not.
use Rattle.std.proofs.Common.{◌≡◌, ◌≢◌, ℕ, pos, List, [], ◌∷◌, true, false, Some, None, refl, sym, ◌∙◌, ap, inl, inr}
use Rattle.std.specs.Prelude.{◌⊎◌, Option}
use Rattle.pb_wire.specs.Record.{Record, len}
use Rattle.pb_schema.specs.declared.types.Kind.{Kind}
use Rattle.pb_schema.specs.declared.types.Kind.TheVariants as kind
use Rattle.pb_schema.specs.declared.types.Shape.{Shape}
use Rattle.pb_schema.specs.declared.types.Shape.TheVariants as shape
use Rattle.pb_schema.specs.Types.{FieldView, MessageView, Types}
use Rattle.pb_schema.specs.Scalar.{int32, int64, text, bytes, boolean}
use Rattle.pb_value.specs.Data.{scalar, message, no_datums, datum, no_entries, entry, Holding, one, list, no_fields, field, Message, body, get_field}
use Rattle.pb_value.proofs.FieldExtent.{get_field-first, get_field-later, equal_or_not}
use Rattle.pb_compat.specs.declared.difference.Severity.TheVariants.{BreaksReading, Renames}
use Rattle.pb_compat.specs.Agrees.{IsSameValue, AreSameValues, AreSameEntries, HoldsSame, Agrees, HasNoUnknown, break_among}

abbrev a_field : ℕ → Kind → Shape → FieldView
a_field n k s = record { name = []; number = n; kind = k; shape = s }

abbrev a_message : List FieldView → MessageView
a_message fs = record { name = []; file = 0; parent = None; fields = fs; oneofs = [] }

-- message M { int32 a = 1; N b = 2; string c = 3; }, and N is a type without fields
abbrev old : Types
old = record {
  files = [];
  messages = a_message (a_field 1 kind.Int32 shape.Implicit ∷ a_field 2 (kind.Message (record { 0 = 1 })) shape.Explicit ∷ a_field 3 kind.Text shape.Implicit ∷ []) ∷ a_message [] ∷ [];
  enums = [];
}

-- message M { int64 a = 1; repeated N b = 2; }
abbrev new : Types
new = record {
  files = [];
  messages = a_message (a_field 1 kind.Int64 shape.Implicit ∷ a_field 2 (kind.Message (record { 0 = 1 })) (shape.List false) ∷ []) ∷ a_message [] ∷ [];
  enums = [];
}

-- a is 7, and c the string `a`
abbrev a_value : Message
a_value = body (field 1 (one (scalar (int32 (pos 7)))) (field 3 (one (scalar (text (97 ∷ [])))) no_fields)) []

abbrev lost : Record
lost = record { number = 3; payload = len (97 ∷ []) }

read : Agrees old new 0 0 a_value (body (field 1 (one (scalar (int64 (pos 7)))) no_fields) (lost ∷ []))
read = ((refl, (tt, tt)), nothing, refl)
  where
    clash : {x : Holding} {o : Option Holding} → o ≡ None → o ≡ Some x → ⊥
    clash p q = cc

    nothing : (k : ℕ) → get_field k (field 1 (one (scalar (int32 (pos 7)))) (field 3 (one (scalar (text (97 ∷ [])))) no_fields)) ≡ None → get_field k (field 1 (one (scalar (int64 (pos 7)))) no_fields) ≡ None
    nothing k e = by (equal_or_not k 1)
      where
        by : (k ≡ 1) ⊎ (k ≢ 1) → get_field k (field 1 (one (scalar (int64 (pos 7)))) no_fields) ≡ None
        by (inl z) = absurd (clash (sym (ap (λ (i : ℕ). get_field i (field 1 (one (scalar (int32 (pos 7)))) (field 3 (one (scalar (text (97 ∷ [])))) no_fields))) z) ∙ e) (get_field-first 1 (one (scalar (int32 (pos 7)))) (field 3 (one (scalar (text (97 ∷ [])))) no_fields)))
        by (inr d) = get_field-later k 1 (one (scalar (int64 (pos 7)))) no_fields d

-- another number
other_value : HoldsSame old new kind.Int32 kind.Int64 shape.Implicit (one (scalar (int32 (pos 7)))) (Some (one (scalar (int64 (pos 8))))) → ⊥
other_value e = absurd (cc)

-- a lost field that is not among the unknown records
forgotten : Agrees old new 0 0 a_value (body (field 1 (one (scalar (int64 (pos 7)))) no_fields) []) → ⊥
forgotten h = let e = h.2 in absurd (cc)

-- a field that was not set
made_up : Agrees old new 0 0 (body no_fields []) (body (field 1 (one (scalar (int64 (pos 7)))) no_fields) []) → ⊥
made_up h = let e = h.1 1 refl in absurd (cc)

default_left : HoldsSame old new kind.Int32 kind.Int64 shape.Implicit (one (scalar (int32 (pos 0)))) None
default_left = (refl, refl)

-- only where the new field has implicit presence
explicit_left : HoldsSame old new kind.Int32 kind.Int64 shape.Explicit (one (scalar (int32 (pos 0)))) None → ⊥
explicit_left h = let e = h.0 in absurd (cc)

number_left : HoldsSame old new kind.Int32 kind.Int64 shape.Implicit (one (scalar (int32 (pos 1)))) None → ⊥
number_left h = let e = h.1 in absurd (cc)

list_of_one : HoldsSame old new kind.Bool kind.Int32 (shape.List true) (one (scalar (boolean true))) (Some (list (datum (scalar (int32 (pos 1))) no_datums)))
list_of_one = refl

list_of_two : HoldsSame old new kind.Int32 kind.Int32 (shape.List true) (one (scalar (int32 (pos 1)))) (Some (list (datum (scalar (int32 (pos 1))) (datum (scalar (int32 (pos 1))) no_datums)))) → ⊥
list_of_two h = h

turned_list : AreSameValues old new kind.Int32 kind.Int32 (datum (scalar (int32 (pos 1))) (datum (scalar (int32 (pos 2))) no_datums)) (datum (scalar (int32 (pos 2))) (datum (scalar (int32 (pos 1))) no_datums)) → ⊥
turned_list h = let e = h.0 in absurd (cc)

-- the value under another key
other_key : AreSameEntries old new kind.Text kind.Text (entry (int32 (pos 1)) (scalar (text [])) no_entries) (entry (int32 (pos 2)) (scalar (text [])) no_entries) → ⊥
other_key h = let e = h.0 in absurd (cc)

-- a message as its encoding
empty_encoding : IsSameValue old new (kind.Message (record { 0 = 1 })) kind.Bytes (message (body no_fields [])) (scalar (bytes []))
empty_encoding = refl

-- an unknown record one level down
deep_unknown : HasNoUnknown (body (field 2 (one (message (body no_fields (lost ∷ [])))) no_fields) []) → ⊥
deep_unknown h = let e = h.1.0.0 in absurd (cc)

some_break : break_among (record { number = 1; severity = Renames } ∷ record { number = 2; severity = BreaksReading } ∷ []) ≡ true
some_break = refl

no_break : break_among (record { number = 1; severity = Renames } ∷ []) ≡ false
no_break = refl
