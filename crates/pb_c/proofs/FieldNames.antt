-- Names of fields are ASCII, so the name of one is UTF-8.
use Rattle.std.proofs.Common.{◌≡◌, ℕ, zero, suc, List, [], ◌∷◌, Bool, true, false, Option, Some, None, cond, refl, sym, ap, ◌∙◌, subst}
use Rattle.std.specs.Prelude.{IsTrue, IsUtf8, slice_get}
use Rattle.std.specs.List.{AllByRecursion}
use Rattle.std.specs.Str.{bytes_eq}
use Rattle.std.proofs.lemmas.Option.{none-some}
use Rattle.std.proofs.lemmas.Slice.Eq.{bytes_eq-Decides}
use Rattle.std.proofs.lemmas.Str.{IsUtf8-from_ascii}
use Rattle.pb_schema.specs.Names.{is_word, names_of_field}
use Rattle.pb_schema.specs.Rules.{IsPool}
use Rattle.pb_schema.specs.Rules.Names.{AreWords, MessageIsOfWords}
use Rattle.pb_schema.specs.Tables.{field_named}
use Rattle.pb_schema.specs.Types.{FieldView, MessageView, Types, fields_of_message, message_fields}
use Rattle.pb_schema.specs.declared.types.Shape.{Shape}
use Rattle.pb_schema.specs.declared.types.Shape.TheVariants as shape
use Rattle.pb_schema.specs.declared.types.Kind.{Kind}
use Rattle.pb_link.proofs.AsciiLemmas.{text_ascii}

-- the names that a field declares begin with its own
own_name : (s : Shape) (name : List ℕ) (number : ℕ) (kind : Kind) → AreWords (names_of_field (record { name = name; number = number; kind = kind; shape = s }))
    → IsTrue (is_word name)
own_name (shape.Map key) name number kind words = words.0
own_name shape.Implicit name number kind words = words.0
own_name shape.Explicit name number kind words = words.0
own_name (shape.OneofMember o) name number kind words = words.0
own_name (shape.List packed) name number kind words = words.0

-- the name of a field among some of words is a word
named_word :
    (name : List ℕ) (fs : List FieldView) (f : FieldView) → AllByRecursion (λ g. AreWords (names_of_field g)) fs → field_named name fs ≡ Some f → IsTrue (is_word name)
named_word name [] f words found = absurd (none-some f found)
named_word name (g ∷ fs) f words found = by_name (bytes_eq g.name name) refl (λ later. named_word name fs f words.1 later)
  where
    by_name : (b : Bool) → bytes_eq g.name name ≡ b → (field_named name fs ≡ Some f → IsTrue (is_word name)) → IsTrue (is_word name)
    by_name true same rest = subst (λ n. IsTrue (is_word n)) ((bytes_eq-Decides g.name name).0 same) (own_name g.shape g.name g.number g.kind words.0)
    by_name false other rest = rest (sym (ap (λ b. cond b (Some g) (field_named name fs)) other) ∙ found)

-- an option that holds nothing
pub none_where : {A : Type 0} (o : Option A) → ((x : A) → o ≡ Some x → ⊥) → o ≡ None
none_where None never = refl
none_where (Some x) never = absurd (never x refl)

-- the fields of a message among some of words
words_of : (ms : List MessageView) (m : ℕ) → AllByRecursion MessageIsOfWords ms → AllByRecursion (λ g. AreWords (names_of_field g)) (fields_of_message (slice_get ms m))
words_of [] m words = tt
words_of (t ∷ ms) zero words = words.0.1
words_of (t ∷ ms) (suc m) words = words_of ms m words.1

pub field_name_is_text : (ts : Types) → IsPool ts → (m : ℕ) (name : List ℕ) (f : FieldView) → field_named name (message_fields ts m) ≡ Some f → IsUtf8 name
field_name_is_text ts pool m name f found =
    IsUtf8-from_ascii name (text_ascii name (named_word name (message_fields ts m) f (words_of ts.messages m pool.names.message_words) found))
