-- The declarations of a pool's types meet the rule of map entries: each is used by its map field, and by no other.
use Rattle.std.proofs.Common.{◌≡◌, ℕ, zero, suc, ◌+◌, inl, List, [], ◌∷◌, Bool, true, false, not, ◌&&◌, ◌||◌, ◌==◌, cond, length, refl, sym, ap, ◌∙◌, subst, Some}
use Rattle.std.specs.Prelude.{slice_get, IsTrue}
use Rattle.std.specs.List.{AllByRecursion, list_all}
use Rattle.std.specs.Option.{option_map_or}
use Rattle.std.specs.Str.{bytes_eq}
use Rattle.std.proofs.lemmas.Bool.{false≢true}
use Rattle.std.proofs.lemmas.Bool.Decides.{Decides-eqb}
use Rattle.std.proofs.lemmas.Option.{none-some}
use Rattle.std.proofs.lemmas.Slice.Eq.{bytes_eq-Decides}
use Rattle.pb_schema.specs.declared.types.Kind.{Kind}
use Rattle.pb_schema.specs.declared.types.Shape.{Shape}
use Rattle.pb_schema.specs.declared.types.Shape.TheVariants as shape
use Rattle.pb_schema.specs.Kinds.{is_key_kind, is_of_proto2}
use Rattle.pb_schema.specs.Names.{in_scope, entry_name}
use Rattle.pb_schema.specs.Types.{FieldView, MessageView, Types}
use Rattle.pb_schema.specs.Rules.{IsPool, NamesType, TypeIsSeen, HasKeyKind, MayBeValue}
use Rattle.pb_declarations.specs.Decls.{MessageHead, no_messages}
use Rattle.pb_link_names.specs.Declarations.{a_message, a_field, Declaration}
use Rattle.pb_link_names.specs.Lookup.{found, looked_up}
use Rattle.pb_link_rules.specs.Rules.{World, lookups, is_entry, is_map_field, gives_name, is_used_rightly}
use Rattle.pb_link_rules.specs.Link.{IsWorldOf}
use Rattle.pb_link.specs.ToDecls.{is_optional_view, is_repeated_shape, name_of_kind, name_of_type, declared_field, declared_fields, declared_head, decls_of}
use Rattle.pb_link.proofs.FlatLemmas.{Stands}
use Rattle.pb_link.proofs.WholeLemmas.{all_at}
use Rattle.pb_link.proofs.EachDeclaredLemmas.{Name}
use Rattle.pb_link.proofs.FromLemmas.{Two, IsMapField, entry_head}
use Rattle.pb_link.proofs.DeclaredSightLemmas.{sees_right}
use Rattle.pb_link.proofs.DeclaredSyntaxLemmas.{rule_at, stands_in, enum_right, not_in_proto3}
use Rattle.pb_link.proofs.DeclaredLookupLemmas.{message_placed, EntryPlaced, entry_placed}
use Rattle.pb_link.proofs.InMessageLemmas.{field_parent, entry_parent}
use Rattle.pb_link.proofs.TypeCaseLemmas.{KindCase, kind_case, case_of_key, field_at}
use Rattle.pb_link.proofs.UsedRightlyLemmas.{kind_used}

some_same : {A : Type 0} (a b : A) → Some a ≡ Some b → a ≡ b
some_same a b h = cc

-- a field of a message is declared at its index
pub declared_there : (two : Bool) (ts : Types) (scope : List ℕ) (s : ℕ) (fs : List FieldView) (j : ℕ) (g : FieldView) → slice_get fs j ≡ Some g → (r : ℕ) × (slice_get (declared_fields two ts scope s fs) j ≡ Some (declared_field two ts scope r g))
declared_there two ts scope s [] j g there = absurd (none-some g there)
declared_there two ts scope s (x ∷ fs) zero g there = (s, ap (λ y. Some (declared_field two ts scope s y)) (some_same x g there))
declared_there two ts scope s (x ∷ fs) (suc j) g there = declared_there two ts scope (cond (is_optional_view two x) (s + 1) s) fs j g there

pub map_name : (ts : Types) (scope name : List ℕ) (s : Shape) (k key : Kind) → s ≡ shape.Map key → name_of_type ts scope name s k ≡ Some (46 ∷ in_scope scope (entry_name name))
map_name ts scope name s k key is = ap (λ x. name_of_type ts scope name x k) is

pub both_true : (a b : Bool) → a ≡ true → b ≡ true → (a && b) ≡ true
both_true a b x y = ap (λ z. z && b) x ∙ y

pub right_and : (a b : Bool) → (a && b) ≡ true → b ≡ true
right_and true b h = h
right_and false b h = absurd (false≢true h)

pub or_none : (b : Bool) → (b || false) ≡ true → b ≡ true
or_none true x = refl
or_none false x = x

module _ (ts : Types) (pool : IsPool ts) (w : World) (world : IsWorldOf (decls_of ts) w) where
  -- THE KINDS OF A FIELD

  pub seen_kind : (m : ℕ × MessageView) → Stands ts m → (j : ℕ) (g : FieldView) → slice_get m.1.fields j ≡ Some g → (scope : List ℕ) → KindCase ts w m.1.file scope g.kind
  seen_kind m there j g at scope = kind_case ts pool w world m.1.file scope g.kind
      (rule_at (λ t f. NamesType (length ts.messages) (length ts.enums) f.kind) ts pool.indexes.kinds m there j g at)
      (rule_at (λ t f. TypeIsSeen ts t.file f.kind) ts pool.fields.types_seen m there j g at)
      (enum_right ts pool m there j g at)
      (not_in_proto3 (Two ts m) g.shape g.kind (stands_in ts pool m there j g at))

  pub is_key : (m : ℕ × MessageView) → Stands ts m → (j : ℕ) (g : FieldView) (key : Kind) → IsMapField m j g key → IsTrue (is_key_kind key)
  is_key m there j g key is = subst HasKeyKind is.is_map (all_at (λ f. HasKeyKind f.shape) m.1.fields j g (all_at (λ t. AllByRecursion (λ f. HasKeyKind f.shape) t.fields) ts.messages m.0 m.1 pool.fields.shapes.keys there) is.there)

  pub key_case : (m : ℕ × MessageView) → Stands ts m → (j : ℕ) (g : FieldView) (key : Kind) → IsMapField m j g key → (scope : List ℕ) → KindCase ts w m.1.file scope key
  key_case m there j g key is scope = case_of_key ts pool w world m.1.file scope key (is_key m there j g key is)

  -- the value of a map is of a kind of proto3
  pub value_three : (m : ℕ × MessageView) → Stands ts m → (j : ℕ) (g : FieldView) (key : Kind) → IsMapField m j g key → is_of_proto2 g.kind ≡ false
  value_three m there j g key is = subst (λ s. MayBeValue s g.kind) is.is_map (rule_at (λ t f. MayBeValue f.shape f.kind) ts pool.fields.shapes.values m there j g is.there)

  -- A MAP FIELD

  own_seen : (m : ℕ × MessageView) → w.sight.sees m.1.file m.1.file ≡ true
  own_seen m = (sees_right ts pool w world m.1.file m.1.file).1 (inl refl)

  abbrev pub Entry : (m : ℕ × MessageView) → Stands ts m → (j : ℕ) (g : FieldView) (key : Kind) → IsMapField m j g key → EntryPlaced ts w m.0 m.1 g key
  Entry m there j g key is = entry_placed ts pool w world m.0 m.1 there j g key is.there is.is_map

  -- the type name of a map field means its entry message
  pub map_looked : (m : ℕ × MessageView) (there : Stands ts m) (j : ℕ) (g : FieldView) (key : Kind) (is : IsMapField m j g key) (scope : List ℕ) → looked_up w.declared (w.sight.sees m.1.file) scope (46 ∷ in_scope (Name ts m.0) (entry_name g.name)) ≡ found (Entry m there j g key is).place
  map_looked m there j g key is scope = (Entry m there j g key is).looked m.1.file scope (own_seen m)

  -- a field that stands in the message, and is called like the map field, is the map field of the entry
  pub is_its_map_field : (m : ℕ × MessageView) (there : Stands ts m) (j : ℕ) (g : FieldView) (key : Kind) (is : IsMapField m j g key) (k : ℕ) (d e : Declaration) (head : MessageHead) (i r : ℕ) → d.parent ≡ (message_placed ts pool w world m.0 m.1 there).place → d.item ≡ a_field head i (declared_field (Two ts m) ts (Name ts m.0) r g) → slice_get w.declared k ≡ Some e → e.item ≡ a_message (entry_head ts g key) no_messages → e.scope ≡ Name ts m.0 → is_map_field e d ≡ true
  is_its_map_field m there j g key is k d e head i r parent item at entry scope =
      both_true (d.parent == e.parent) (gives_name d.item e.item)
      ((Decides-eqb d.parent e.parent).1 (parent ∙ sym (entry_parent ts pool w world m there k e (entry_head ts g key) no_messages at entry scope)))
      (ap (λ x. gives_name x e.item) item ∙ ap (gives_name (a_field head i (declared_field (Two ts m) ts (Name ts m.0) r g))) entry
      ∙ both_true (is_repeated_shape g.shape) (bytes_eq (entry_name g.name) (entry_name g.name)) (ap is_repeated_shape is.is_map) ((bytes_eq-Decides (entry_name g.name) (entry_name g.name)).1 refl))

  -- AT A FIELD

  abbrev pub Field : (m : ℕ × MessageView) → (parent i r : ℕ) → FieldView → Declaration
  Field m parent i r g = field_at m.1.file parent (Name ts m.0) (declared_head ts m.0 m.1) i (declared_field (Two ts m) ts (Name ts m.0) r g)

  pub field_used : (m : ℕ × MessageView) → Stands ts m → (place parent i r : ℕ) (g : FieldView) → slice_get m.1.fields i ≡ Some g → slice_get w.declared place ≡ Some (Field m parent i r g) → list_all (is_used_rightly w (Field m parent i r g)) (lookups w (Field m parent i r g)) ≡ true
  field_used m there place parent i r g at here = by g.shape refl
    where
      plain : (s : Shape) → g.shape ≡ s → name_of_type ts (Name ts m.0) g.name s g.kind ≡ name_of_kind ts g.kind → list_all (is_used_rightly w (Field m parent i r g)) (lookups w (Field m parent i r g)) ≡ true
      plain s is named = kind_used ts w m.1.file parent (Name ts m.0) (declared_head ts m.0 m.1) i (declared_field (Two ts m) ts (Name ts m.0) r g) g.kind (ap (λ x. name_of_type ts (Name ts m.0) g.name x g.kind) is ∙ named) (seen_kind m there i g at (Name ts m.0))

      by : (s : Shape) → g.shape ≡ s → list_all (is_used_rightly w (Field m parent i r g)) (lookups w (Field m parent i r g)) ≡ true
      by (shape.Map key) is =
          let map : IsMapField m i g key = record { there = at; is_map = is } in
          let e = Entry m there i g key map in
          let d = Field m parent i r g in
          let f = declared_field (Two ts m) ts (Name ts m.0) r g in
          let up = field_parent ts pool w world m there place d (declared_head ts m.0 m.1) i f here refl refl in
          subst (λ o. list_all (is_used_rightly w d) (lookups w (field_at m.1.file parent (Name ts m.0) (declared_head ts m.0 m.1) i (record f { type_name = o }))) ≡ true) (sym (map_name ts (Name ts m.0) g.name g.shape g.kind key is))
          (ap (λ x. is_used_rightly w d x && true) (map_looked m there i g key map (Name ts m.0)) ∙ ap (λ o. option_map_or (λ (x : Declaration). not (is_entry x.item) || is_map_field x d) o true && true) e.there
          ∙ ap (λ b. (not (is_entry e.declared.item) || b) && true) (is_its_map_field m there i g key map e.place d e.declared (declared_head ts m.0 m.1) i r up refl e.there e.item e.scope)
          ∙ ap (λ b. b && true) (or_true (not (is_entry e.declared.item))))
        where
          or_true : (b : Bool) → (b || true) ≡ true
          or_true true = refl
          or_true false = refl
      by shape.Implicit is = plain shape.Implicit is refl
      by shape.Explicit is = plain shape.Explicit is refl
      by (shape.OneofMember o) is = plain (shape.OneofMember o) is refl
      by (shape.List packed) is = plain (shape.List packed) is refl
