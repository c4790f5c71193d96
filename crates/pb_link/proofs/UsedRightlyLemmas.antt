-- Which declarations of a pool's types use entry messages.
use Rattle.std.proofs.Common.{◌≡◌, ◌≢◌, ℕ, zero, suc, inl, List, [], ◌∷◌, Bool, true, false, not, ◌&&◌, ◌||◌, ◌==◌, cond, refl, sym, ap, ◌∙◌, subst, arith, Some}
use Rattle.std.specs.Prelude.{slice_get, filter}
use Rattle.std.specs.List.{AllByRecursion, flat_map, list_all, list_any}
use Rattle.std.specs.Option.{option_map_or}
use Rattle.std.proofs.lemmas.Bool.{false≢true}
use Rattle.std.proofs.lemmas.Bool.Decides.{Decides-eqb}
use Rattle.std.proofs.lemmas.Option.{none-some}
use Rattle.pb_schema.specs.declared.types.Kind.{Kind}
use Rattle.pb_schema.specs.declared.types.Shape.TheVariants as shape
use Rattle.pb_schema.specs.Names.{in_scope, entry_name, message_name, AllDiffer}
use Rattle.pb_schema.specs.Types.{FieldView, MessageView, Types}
use Rattle.pb_schema.specs.Rules.{IsPool}
use Rattle.pb_declarations.specs.Decls.{DeclaredField, MessageHead}
use Rattle.pb_link_names.specs.Declarations.{Declaration}
use Rattle.pb_link_names.specs.Lookup.{found}
use Rattle.pb_link_rules.specs.Rules.{World, lookups, is_entry, is_found_at, is_map_field, is_used_rightly, uses}
use Rattle.pb_link.specs.ToDecls.{code_of_kind, name_of_kind}
use Rattle.pb_link.proofs.ForestLemmas.{In, in_all, in_flat}
use Rattle.pb_link.proofs.FlatLemmas.{Stands}
use Rattle.pb_link.proofs.ReorderLemmas.{differ_left, differ_right, differ_apart}
use Rattle.pb_link.proofs.EachDeclaredLemmas.{Name, called}
use Rattle.pb_link.proofs.NamesDifferLemmas.{entry_alone, entry_full, entries_in, all_entries, all_others}
use Rattle.pb_link.proofs.NamesApartLemmas.{in_get, known_differ}
use Rattle.pb_link.proofs.FromLemmas.{IsMapField}
use Rattle.pb_link.proofs.TypeCaseLemmas.{TypeCase, scalar, type_named, KindCase, field_at}

-- WHAT A KIND'S NAME MEANS IS USED RIGHTLY, AND IS NO ENTRY

pub kind_used : (ts : Types) (w : World) (file parent : ℕ) (scope : List ℕ) (head : MessageHead) (i : ℕ) (f : DeclaredField) (k : Kind) → f.type_name ≡ name_of_kind ts k → KindCase ts w file scope k → list_all (is_used_rightly w (field_at file parent scope head i f)) (lookups w (field_at file parent scope head i f)) ≡ true
kind_used ts w file parent scope head i f k named c =
    subst (λ o. list_all (is_used_rightly w (field_at file parent scope head i (record f { type_name = o }))) (lookups w (field_at file parent scope head i (record f { type_name = o }))) ≡ true) (sym named) (by c.case)
  where
    by : TypeCase w file scope (name_of_kind ts k) (code_of_kind k) → list_all (is_used_rightly w (field_at file parent scope head i (record f { type_name = name_of_kind ts k }))) (lookups w (field_at file parent scope head i (record f { type_name = name_of_kind ts k }))) ≡ true
    by (scalar none right) = subst (λ o. list_all (is_used_rightly w (field_at file parent scope head i (record f { type_name = o }))) (lookups w (field_at file parent scope head i (record f { type_name = o }))) ≡ true) (sym none) refl
    by (type_named n is t) =
        let d = field_at file parent scope head i (record f { type_name = Some n }) in
        subst (λ o. list_all (is_used_rightly w (field_at file parent scope head i (record f { type_name = o }))) (lookups w (field_at file parent scope head i (record f { type_name = o }))) ≡ true) (sym is)
        (ap (λ r. is_used_rightly w d r && true) t.looked ∙ ap (λ o. option_map_or (λ (e : Declaration). not (is_entry e.item) || is_map_field e d) o true && true) t.there
        ∙ ap (λ b. (not b || is_map_field t.type d) && true) (c.no_entry n is t.place t.looked t.type t.there))

pub kind_uses_none : (ts : Types) (w : World) (file parent : ℕ) (scope : List ℕ) (head : MessageHead) (i : ℕ) (f : DeclaredField) (k : Kind) → f.type_name ≡ name_of_kind ts k → KindCase ts w file scope k → (p : ℕ) (e : Declaration) → slice_get w.declared p ≡ Some e → is_entry e.item ≡ true → uses w p (field_at file parent scope head i f) ≡ true → ⊥
kind_uses_none ts w file parent scope head i f k named c p e there entry used = by c.case (subst (λ o. list_any (is_found_at p) (lookups w (field_at file parent scope head i (record f { type_name = o }))) ≡ true) named used)
  where
    by : TypeCase w file scope (name_of_kind ts k) (code_of_kind k) → list_any (is_found_at p) (lookups w (field_at file parent scope head i (record f { type_name = name_of_kind ts k }))) ≡ true → ⊥
    by (scalar none right) h = false≢true (subst (λ o. list_any (is_found_at p) (lookups w (field_at file parent scope head i (record f { type_name = o }))) ≡ true) none h)
    by (type_named n is t) h =
        let at : (is_found_at p (found t.place) || false) ≡ true = sym (ap (λ r. is_found_at p r || false) t.looked) ∙ subst (λ o. list_any (is_found_at p) (lookups w (field_at file parent scope head i (record f { type_name = o }))) ≡ true) is h in
        let same : p ≡ t.place = (Decides-eqb p t.place).0 (or_none (p == t.place) at) in
        false≢true (sym (c.no_entry n is t.place t.looked e (ap (slice_get w.declared) (sym same) ∙ there)) ∙ entry)
      where
        or_none : (b : Bool) → (b || false) ≡ true → b ≡ true
        or_none true x = refl
        or_none false x = x

-- ONE ELEMENT

-- where one element alone passes, it is what is left
pub filter_one : {X : Type 0} (t : X → Bool) (xs : List X) (p : ℕ) (x : X) → slice_get xs p ≡ Some x → t x ≡ true → ((q : ℕ) (y : X) → slice_get xs q ≡ Some y → t y ≡ true → q ≡ p) → filter t xs ≡ x ∷ []
filter_one t [] p x there passes one = absurd (none-some x there)
filter_one {X = X} t (z ∷ xs) zero x there passes one =
    ap (λ b. cond b (z ∷ filter t xs) (filter t xs)) (ap t (some_same z x there) ∙ passes) ∙ ap (λ l. z ∷ l) (none_pass xs (λ q y at is. later q (one (suc q) y at is))) ∙ ap (λ y. y ∷ []) (some_same z x there)
  where
    some_same : (a b : X) → Some a ≡ Some b → a ≡ b
    some_same a b h = cc

    later : (q : ℕ) → suc q ≡ 0 → ⊥
    later q e = omega (arith, e)

    none_pass : (ys : List X) → ((q : ℕ) (y : X) → slice_get ys q ≡ Some y → t y ≡ true → ⊥) → filter t ys ≡ []
    none_pass [] none = refl
    none_pass (y ∷ ys) none = by (t y) refl (none_pass ys (λ q v at is. none (suc q) v at is))
      where
        by : (b : Bool) → t y ≡ b → filter t ys ≡ [] → cond b (y ∷ filter t ys) (filter t ys) ≡ []
        by true is rest = absurd (none 0 y refl is)
        by false is rest = rest
filter_one {X = X} t (z ∷ xs) (suc p) x there passes one = by (t z) refl (filter_one t xs p x there passes (λ q y at is. same q (one (suc q) y at is)))
  where
    same : (q : ℕ) → suc q ≡ suc p → q ≡ p
    same q e = omega (arith, e)

    never : 0 ≡ suc p → ⊥
    never e = omega (arith, e)

    by : (b : Bool) → t z ≡ b → filter t xs ≡ x ∷ [] → cond b (z ∷ filter t xs) (filter t xs) ≡ x ∷ []
    by true is rest = absurd (never (one 0 z refl is))
    by false is rest = rest

-- ONE ENTRY FOR A NAME

-- lists in a row of lists whose elements differ have no element in common
flat_one : {X Y : Type 0} (g : X → List Y) (xs : List X) → AllDiffer (flat_map g xs) → (i j : ℕ) (x y : X) (z : Y) → slice_get xs i ≡ Some x → slice_get xs j ≡ Some y → In z (g x) → In z (g y) → i ≡ j
flat_one g [] differ i j x y z at_x at_y in_x in_y = absurd (none-some x at_x)
flat_one g (v ∷ xs) differ zero zero x y z at_x at_y in_x in_y = refl
flat_one {X = X} {Y = Y} g (v ∷ xs) differ zero (suc j) x y z at_x at_y in_x in_y =
    absurd (in_all (λ b. z ≢ b) (flat_map g xs) z (in_all (λ a. AllByRecursion (λ b. a ≢ b) (flat_map g xs)) (g v) z (differ_apart (g v) (flat_map g xs) differ) (subst (λ u. In z (g u)) (sym (some_same v x at_x)) in_x)) (in_flat g xs y z (in_get xs j y at_y) in_y) refl)
  where
    some_same : (a b : X) → Some a ≡ Some b → a ≡ b
    some_same a b h = cc
flat_one {X = X} {Y = Y} g (v ∷ xs) differ (suc i) zero x y z at_x at_y in_x in_y =
    absurd (in_all (λ b. z ≢ b) (flat_map g xs) z (in_all (λ a. AllByRecursion (λ b. a ≢ b) (flat_map g xs)) (g v) z (differ_apart (g v) (flat_map g xs) differ) (subst (λ u. In z (g u)) (sym (some_same v y at_y)) in_y)) (in_flat g xs x z (in_get xs i x at_x) in_x) refl)
  where
    some_same : (a b : X) → Some a ≡ Some b → a ≡ b
    some_same a b h = cc
flat_one g (v ∷ xs) differ (suc i) (suc j) x y z at_x at_y in_x in_y = ap suc (flat_one g xs (differ_right (g v) (flat_map g xs) differ) i j x y z at_x at_y in_x in_y)

flat_each : {X Y : Type 0} (g : X → List Y) (xs : List X) → AllDiffer (flat_map g xs) → (i : ℕ) (x : X) → slice_get xs i ≡ Some x → AllDiffer (g x)
flat_each g [] differ i x at = absurd (none-some x at)
flat_each {X = X} {Y = Y} g (v ∷ xs) differ zero x at = subst (λ u. AllDiffer (g u)) (some_same v x at) (differ_left (g v) (flat_map g xs) differ)
  where
    some_same : (a b : X) → Some a ≡ Some b → a ≡ b
    some_same a b h = cc
flat_each g (v ∷ xs) differ (suc i) x at = flat_each g xs (differ_right (g v) (flat_map g xs) differ) i x at

-- two map fields whose entry messages have one full name are one
pub one_entry : (ts : Types) → IsPool ts → (m n : ℕ × MessageView) → Stands ts m → Stands ts n → (i j : ℕ) (f g : FieldView) (key kind : Kind) → IsMapField m i f key → IsMapField n j g kind → in_scope (Name ts m.0) (entry_name f.name) ≡ in_scope (Name ts n.0) (entry_name g.name) → (m.0 ≡ n.0) × (i ≡ j)
one_entry ts pool m n at_m at_n i j f g key kind is_f is_g same =
    let x : List ℕ = in_scope (message_name ts.files ts.messages m.1) (entry_name f.name) in
    let both : x ≡ in_scope (message_name ts.files ts.messages n.1) (entry_name g.name) = ap (λ s. in_scope s (entry_name f.name)) (sym (called ts pool m at_m)) ∙ same ∙ ap (λ s. in_scope s (entry_name g.name)) (called ts pool n at_n) in
    let differ : AllDiffer (all_entries ts) = differ_right (all_others ts) (all_entries ts) (known_differ ts pool) in
    let first : In x (entry_full (message_name ts.files ts.messages m.1) f) = here (message_name ts.files ts.messages m.1) f key is_f.is_map in
    let second : In x (entry_full (message_name ts.files ts.messages n.1) g) = subst (λ y. In y (entry_full (message_name ts.files ts.messages n.1) g)) (sym both) (here (message_name ts.files ts.messages n.1) g kind is_g.is_map) in
    let messages : m.0 ≡ n.0 = flat_one (entries_in ts) ts.messages differ m.0 n.0 m.1 n.1 x at_m at_n (in_flat (entry_full (message_name ts.files ts.messages m.1)) m.1.fields f x (in_get m.1.fields i f is_f.there) first) (in_flat (entry_full (message_name ts.files ts.messages n.1)) n.1.fields g x (in_get n.1.fields j g is_g.there) second) in
    let one : m.1 ≡ n.1 = some_same m.1 n.1 (sym at_m ∙ ap (slice_get ts.messages) messages ∙ at_n) in
    (messages, flat_one (entry_full (message_name ts.files ts.messages n.1)) n.1.fields (flat_each (entries_in ts) ts.messages differ n.0 n.1 at_n) i j f g x (subst (λ (t : MessageView). slice_get t.fields i ≡ Some f) one is_f.there) is_g.there (subst (λ t. In x (entry_full (message_name ts.files ts.messages t) f)) one first) second)
  where
    some_same : (a b : MessageView) → Some a ≡ Some b → a ≡ b
    some_same a b h = cc

    here : (scope : List ℕ) (h : FieldView) (k : Kind) → h.shape ≡ shape.Map k → In (in_scope scope (entry_name h.name)) (entry_full scope h)
    here scope h k is = subst (λ s. In (in_scope scope (entry_name h.name)) (entry_alone scope h.name s)) (sym is) (inl refl)
