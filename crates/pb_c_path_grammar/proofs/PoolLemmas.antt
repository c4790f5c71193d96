-- In a pool each field is found by its name and by its number.
use Rattle.std.proofs.Common.{◌≡◌, ℕ, zero, suc, ◌<◌, List, [], ◌∷◌, length, Option, Some, None, refl, subst, arith}
use Rattle.std.specs.Prelude.{IsTrue, slice_get}
use Rattle.std.specs.List.{AllByRecursion}
use Rattle.std.specs.Str.{bytes_eq}
use Rattle.std.proofs.lemmas.Slice.Eq.{bytes_eq-Decides}
use Rattle.pb_schema.specs.Names.{is_word, names_of_field}
use Rattle.pb_schema.specs.Rules.{AreWords, FieldNumbersDiffer, IsPool, MessageIsOfWords}
use Rattle.pb_schema.specs.Tables.{field_named}
use Rattle.pb_schema.specs.Types.{FieldView, MessageView, Types, fields_of_message, field_numbered}
use Rattle.pb_schema.specs.declared.types.Kind.{Kind}
use Rattle.pb_schema.specs.declared.types.Shape.{Shape}
use Rattle.pb_schema.specs.declared.types.Shape.TheVariants as shape
use Rattle.pb_schema.proofs.LookupLemmas.{at_message, found_at}
use Rattle.pb_c_path_grammar.proofs.SpelledLemmas.{NamesSome, NumbersFind, found_is}

pub numbers_find : (pool : Types) → IsPool pool → NumbersFind pool
numbers_find pool is_pool m w f e = of_message (slice_get pool.messages m) refl e
  where
    of_message : (o : Option MessageView) → slice_get pool.messages m ≡ o → field_named w (fields_of_message o) ≡ Some f
        → field_numbered f.number (fields_of_message o) ≡ Some f
    of_message None is e = absurd (cc)
    of_message (Some t) is e =
        let found = found_is (λ g. bytes_eq g.name w) t.fields f e in
        found_at f.number t.fields found.place f (at_message FieldNumbersDiffer pool.messages m t is_pool.fields.numbers_differ is) found.there refl

first_word : (name : List ℕ) (number : ℕ) (k : Kind) (s : Shape) → AreWords (names_of_field (record { name = name; number = number; kind = k; shape = s }))
    → IsTrue (is_word name)
first_word name number k (shape.Map key) are = are.0
first_word name number k shape.Implicit are = are.0
first_word name number k shape.Explicit are = are.0
first_word name number k (shape.OneofMember o) are = are.0
first_word name number k (shape.List packed) are = are.0

word_at : (fs : List FieldView) (i : ℕ) (f : FieldView) → AllByRecursion (λ g. AreWords (names_of_field g)) fs → slice_get fs i ≡ Some f → IsTrue (is_word f.name)
word_at [] i f every e = absurd (cc)
word_at (g ∷ gs) zero f every e =
    let same : g ≡ f = cc in subst (λ (h : FieldView). IsTrue (is_word h.name)) same (first_word g.name g.number g.kind g.shape every.0)
word_at (g ∷ gs) (suc i) f every e = word_at gs i f every.1 e

word_some : (name : List ℕ) → IsTrue (is_word name) → 0 < length name
word_some [] is = absurd (cc)
word_some (c ∷ cs) is = omega arith

pub names_some : (pool : Types) → IsPool pool → NamesSome pool
names_some pool is_pool m w f e = of_message (slice_get pool.messages m) refl e
  where
    of_message : (o : Option MessageView) → slice_get pool.messages m ≡ o → field_named w (fields_of_message o) ≡ Some f → 0 < length w
    of_message None is e = absurd (cc)
    of_message (Some t) is e =
        let found = found_is (λ g. bytes_eq g.name w) t.fields f e in
        let words = at_message MessageIsOfWords pool.messages m t is_pool.names.message_words is in
        subst (λ (n : List ℕ). 0 < length n) ((bytes_eq-Decides f.name w).0 found.passes) (word_some f.name (word_at t.fields found.place f words.1 found.there))
