-- Each map field of a pool's types has its entry message among their declarations.
use Rattle.std.proofs.Common.{◌≡◌, ℕ, zero, suc, ◌+◌, inl, inr, List, [], ◌∷◌, ◌++◌, length, refl, sym, ◌∙◌, subst, Some}
use Rattle.std.specs.Prelude.{slice_get, filter_map}
use Rattle.std.specs.List.{cons_option}
use Rattle.std.proofs.lemmas.Option.{none-some}
use Rattle.pb_schema.specs.declared.types.Kind.{Kind}
use Rattle.pb_schema.specs.declared.types.Shape.{Shape}
use Rattle.pb_schema.specs.declared.types.Shape.TheVariants as shape
use Rattle.pb_schema.specs.Types.{FieldView, MessageView, Types}
use Rattle.pb_schema.specs.Rules.{IsPool}
use Rattle.pb_declarations.specs.Decls.{message, no_messages, messages_of}
use Rattle.pb_link_names.specs.Declarations.{a_message, Declaration, head_row, messages_declared, declarations}
use Rattle.pb_link.specs.ToDecls.{declared_head, decls_of, entry_of_field}
use Rattle.pb_link_names.proofs.BehindLemmas.{get_front, get_behind}
use Rattle.pb_link.proofs.ForestLemmas.{In}
use Rattle.pb_link.proofs.FlatLemmas.{Stands, in_numbered}
use Rattle.pb_link.proofs.EachDeclaredLemmas.{Name, Scope, entries_of, tell}
use Rattle.pb_link.proofs.FromLemmas.{entry_head, IsMapField}

-- the entry message of a map field stands among some declarations
pub record HasEntry (ts : Types) (m : ℕ × MessageView) (g : FieldView) (key : Kind) (ds : List Declaration) : Type 0 where
  pub place : ℕ
  pub declared : Declaration
  pub there : slice_get ds place ≡ Some declared
  pub item : declared.item ≡ a_message (entry_head ts g key) no_messages
  pub file : declared.file ≡ m.1.file
  pub scope : declared.scope ≡ Name ts m.0

entry_front : (ts : Types) (m : ℕ × MessageView) (g : FieldView) (key : Kind) (xs ys : List Declaration) → HasEntry ts m g key xs → HasEntry ts m g key (xs ++ ys)
entry_front ts m g key xs ys h = record { place = h.place; declared = h.declared; there = get_front xs ys h.place h.declared h.there; item = h.item; file = h.file; scope = h.scope }

entry_behind : (ts : Types) (m : ℕ × MessageView) (g : FieldView) (key : Kind) (xs ys : List Declaration) → HasEntry ts m g key ys → HasEntry ts m g key (xs ++ ys)
entry_behind ts m g key xs ys h = record { place = length xs + h.place; declared = h.declared; there = get_behind xs ys h.place (length xs + h.place) refl ∙ h.there; item = h.item; file = h.file; scope = h.scope }

some_same : {A : Type 0} (a b : A) → Some a ≡ Some b → a ≡ b
some_same a b h = cc

among_entries : (ts : Types) (m : ℕ × MessageView) (g : FieldView) (key : Kind) → g.shape ≡ shape.Map key → (place at : ℕ) (fs : List FieldView) (j : ℕ) → slice_get fs j ≡ Some g → HasEntry ts m g key (messages_declared m.1.file place (Name ts m.0) at (messages_of (filter_map (entry_of_field ts) fs)))
among_entries ts m g key is place at [] j there = absurd (none-some g there)
among_entries ts m g key is place at (f ∷ fs) zero there =
    subst (λ x. HasEntry ts m g key (messages_declared m.1.file place (Name ts m.0) at (messages_of (cons_option (entry_of_field ts x) (filter_map (entry_of_field ts) fs))))) (sym (some_same f g there))
    (subst (λ s. HasEntry ts m g key (messages_declared m.1.file place (Name ts m.0) at (messages_of (cons_option (entry_of_field ts (record g { shape = s })) (filter_map (entry_of_field ts) fs))))) (sym is)
    (record { place = 0; declared = record { file = m.1.file; parent = place; scope = Name ts m.0; item = a_message (entry_head ts g key) no_messages }; there = refl; item = refl; file = refl; scope = refl }))
among_entries ts m g key is place at (f ∷ fs) (suc j) there = by f.shape at (λ p. among_entries ts m g key is place p fs j there)
  where
    by : (s : Shape) (at : ℕ) → ((p : ℕ) → HasEntry ts m g key (messages_declared m.1.file place (Name ts m.0) p (messages_of (filter_map (entry_of_field ts) fs)))) → HasEntry ts m g key (messages_declared m.1.file place (Name ts m.0) at (messages_of (cons_option (entry_of_field ts (record f { shape = s })) (filter_map (entry_of_field ts) fs))))
    by (shape.Map k) at rest = let r = rest (at + 3) in record { place = suc (suc (suc r.place)); declared = r.declared; there = r.there; item = r.item; file = r.file; scope = r.scope }
    by shape.Implicit at rest = rest at
    by shape.Explicit at rest = rest at
    by (shape.OneofMember o) at rest = rest at
    by (shape.List packed) at rest = rest at

abbrev HasAll : Types → List Declaration → List (ℕ × MessageView) → Type 0
HasAll ts ds ms = (m : ℕ × MessageView) → In m ms → (j : ℕ) (g : FieldView) (key : Kind) → IsMapField m j g key → HasEntry ts m g key ds

has_join : (ts : Types) (xs ys : List Declaration) (ms ns : List (ℕ × MessageView)) → HasAll ts xs ms → HasAll ts ys ns → HasAll ts (xs ++ ys) (ms ++ ns)
has_join ts xs ys [] ns first second m h j g key is = entry_behind ts m g key xs ys (second m h j g key is)
has_join ts xs ys (x ∷ ms) ns first second m (inl e) j g key is = entry_front ts m g key xs ys (first m (inl e) j g key is)
has_join ts xs ys (x ∷ ms) ns first second m (inr h) j g key is = has_join ts xs ys ms ns (λ n k. first n (inr k)) second m h j g key is

has_message : (ts : Types) (m : ℕ × MessageView) (own nested enums : List Declaration) (place at : ℕ) (ms : List (ℕ × MessageView)) → HasAll ts nested ms → HasAll ts ((own ++ (nested ++ messages_declared m.1.file place (Name ts m.0) at (entries_of ts m))) ++ enums) (m ∷ ms)
has_message ts m own nested enums place at ms inside n (inl e) j g key is =
    let K = messages_declared m.1.file place (Name ts m.0) at (entries_of ts m) in
    subst (λ x. HasEntry ts x g key ((own ++ (nested ++ K)) ++ enums)) (sym e)
    (entry_front ts m g key (own ++ (nested ++ K)) enums (entry_behind ts m g key own (nested ++ K) (entry_behind ts m g key nested K
    (among_entries ts m g key is.is_map place at m.1.fields j (subst (λ (x : ℕ × MessageView). slice_get x.1.fields j ≡ Some g) e is.there)))))
has_message ts m own nested enums place at ms inside n (inr h) j g key is =
    let K = messages_declared m.1.file place (Name ts m.0) at (entries_of ts m) in
    entry_front ts n g key (own ++ (nested ++ K)) enums (entry_behind ts n g key own (nested ++ K) (entry_front ts n g key nested K (inside n h j g key is)))

pub has_entry : (ts : Types) → IsPool ts → (m : ℕ × MessageView) → Stands ts m → (j : ℕ) (g : FieldView) (key : Kind) → IsMapField m j g key → HasEntry ts m g key (declarations (decls_of ts))
has_entry ts pool m there = tell ts pool (λ ds ms es. HasAll ts ds ms) (record {
  none = λ n h. absurd h;
  join = λ xs ys ms ns es fs first second. has_join ts xs ys ms ns first second;
  enum = λ e at parent place n h. absurd h;
  message = λ n at parent place from inner nested enums ms es fs inside last. has_message ts n (head_row n.1.file parent (Scope ts n.1.file n.1.parent) (Name ts n.0) place (message (declared_head ts n.0 n.1) inner)) nested enums place from ms inside;
  file = λ i f at place ds ms es rest n h j g key is. let r = rest n h j g key is in record { place = suc r.place; declared = r.declared; there = r.there; item = r.item; file = r.file; scope = r.scope };
}) m (in_numbered ts m there)
