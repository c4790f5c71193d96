-- The fields of a message, part by part.
use Rattle.std.proofs.Common.{◌≡◌, ℕ, suc, ◌+◌, ◌<◌, List, [], ◌∷◌, ◌++◌, length, drop, get_or, Option, None, Some, refl, sym, ap, ◌∙◌, subst, codes}
use Rattle.std.specs.Prelude.{MatchOption}
use Rattle.std.proofs.lemmas.List.{drop_more}
use Rattle.pb_schema.specs.declared.types.Kind.{Kind}
use Rattle.pb_schema.specs.Types.{FieldView, Types, field_numbered}
use Rattle.pb_value.specs.View.{key_view, value_view, values_view, entries_view, content_view, fields_view}
use Rattle.pb_value.specs.declared.body.Content.{Content}
use Rattle.pb_value.specs.declared.body.MapKey.{MapKey}
use Rattle.pb_value.specs.declared.body.Value.{Value}
use Rattle.pb_text.specs.declared.form.TextForm.{TextForm}
use Rattle.pb_text.specs.Lines.{item}
use Rattle.pb_text.specs.Text.{AreDatumLines, AreEachLines, AreEntriesLines, AreFieldsLines, AreHoldingLines, ArePairLines}

-- the elements from an index on, by the element there
from_item : {X : Type 0} (xs : List X) (i : ℕ) (x : X) → i < length xs → x ≡ get_or xs i x → drop i xs ≡ x ∷ drop (i + 1) xs
from_item {X} xs i x below is = drop_more xs i x below ∙ ap (λ (y : X). y ∷ drop (i + 1) xs) (sym is)

-- FIELDS

module _ (form : TextForm) (pool : Types) (level : ℕ) where
  -- a field and those after it
  pub fields_join :
      (all : List FieldView) (before after : List (ℕ × Content)) (n : ℕ) (h : Content) (f : FieldView)
      → before ≡ (n, h) ∷ after → field_numbered n all ≡ Some f → (first rest : List ℕ) → AreHoldingLines form pool level f (content_view h) first
      → AreFieldsLines form pool level all (fields_view after) rest → AreFieldsLines form pool level all (fields_view before) (first ++ rest)
  fields_join all before after n h f split found first rest is others =
      subst (λ (fs : List (ℕ × Content)). AreFieldsLines form pool level all (fields_view fs) (first ++ rest)) (sym split) (
        first,
        rest,
        refl,
        subst (λ (o : Option FieldView). MatchOption o (first ≡ []) (λ g. AreHoldingLines form pool level g (content_view h) first)) (sym found) is,
        others,
      )

  -- a field that the type does not have has no line
  pub fields_skip :
      (all : List FieldView) (before after : List (ℕ × Content)) (n : ℕ) (h : Content)
      → before ≡ (n, h) ∷ after → field_numbered n all ≡ None → (rest : List ℕ) → AreFieldsLines form pool level all (fields_view after) rest
      → AreFieldsLines form pool level all (fields_view before) rest
  fields_skip all before after n h split none rest others =
      let nothing : List ℕ = [] in
      subst (λ (fs : List (ℕ × Content)). AreFieldsLines form pool level all (fields_view fs) rest) (sym split) (
        nothing,
        rest,
        refl,
        subst (λ (o : Option FieldView). MatchOption o (nothing ≡ nothing) (λ g. AreHoldingLines form pool level g (content_view h) nothing)) (sym none) refl,
        others,
      )

  pub entries_join :
      (k : Kind) (label : List ℕ) (before after : List (MapKey × Value)) (key : MapKey) (v : Value)
      → before ≡ (key, v) ∷ after → (first rest : List ℕ) → ((inside : List ℕ) × (first ≡ item form.layout level (label ++ codes " {") ++ inside ++ item form.layout level (codes "}"))
      × ArePairLines form pool (suc level) k (key_view key) (value_view v) inside)
      → AreEntriesLines form pool level k label (entries_view after) rest → AreEntriesLines form pool level k label (entries_view before) (first ++ rest)
  entries_join k label before after key v split first rest (inside, whole, (name, value, joined, is_key, is_value)) others =
      subst (λ (es : List (MapKey × Value)). AreEntriesLines form pool level k label (entries_view es) (first ++ rest)) (sym split) (
        name,
        value,
        rest,
        ap (λ (l : List ℕ). l ++ rest) (whole ∙ ap (λ (l : List ℕ). item form.layout level (label ++ codes " {") ++ l ++ item form.layout level (codes "}")) joined),
        is_key,
        is_value,
        others,
      )

  pub each_join :
      (k : Kind) (label : List ℕ) (vs : List Value) (i : ℕ) (v : Value) → i < length vs → v ≡ get_or vs i v
      → (first rest : List ℕ) → AreDatumLines form pool level k label (value_view v) first
      → AreEachLines form pool level k label (values_view (drop (i + 1) vs)) rest → AreEachLines form pool level k label (values_view (drop i vs)) (first ++ rest)
  each_join k label vs i v below at first rest is others =
      subst (λ (ws : List Value). AreEachLines form pool level k label (values_view ws) (first ++ rest)) (sym (from_item vs i v below at))
      (first, rest, refl, is, others)
