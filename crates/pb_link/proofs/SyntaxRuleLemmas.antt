-- The declarations of a pool's types meet the rules that go by the syntax of files: optional fields, first values and closed enums.
use Rattle.std.proofs.Common.{◌≡◌, ℕ, List, [], ◌∷◌, Bool, true, false, not, ◌&&◌, ◌||◌, refl, sym, ap, ◌∙◌, subst, Option, Some}
use Rattle.std.specs.Prelude.{ℤ, pos, slice_get, is_none}
use Rattle.std.specs.List.{list_all}
use Rattle.std.specs.Option.{option_map_or}
use Rattle.std.proofs.lemmas.Bool.Decides.{Decides-int_eq}
use Rattle.pb_schema.specs.declared.types.Kind.{Kind}
use Rattle.pb_schema.specs.declared.types.Shape.{Shape}
use Rattle.pb_schema.specs.declared.types.Shape.TheVariants as shape
use Rattle.pb_schema.specs.Kinds.{message_of_kind, is_of_proto2}
use Rattle.pb_schema.specs.Names.{in_scope, entry_name}
use Rattle.pb_schema.specs.Types.{FieldView, MessageView, Types, is_proto2}
use Rattle.pb_schema.specs.Rules.{IsPool, BeginsRight}
use Rattle.pb_declarations.specs.Decls.{DeclaredField, MessageHead}
use Rattle.pb_link_rules.specs.declared.cause.LinkCause.TheVariants as cause
use Rattle.pb_link_names.specs.Declarations.{Declaration}
use Rattle.pb_link_rules.specs.Rules.{World, is_two, is_marked_optional, begins_right, is_enum, is_open, is_enum_right, passes_declared, lookups, key_name, value_name}
use Rattle.pb_link_names.specs.MarkRules.{is_oneof_right}
use Rattle.pb_link_rules.specs.Link.{IsWorldOf, holds}
use Rattle.pb_link.specs.ToDecls.{is_optional_field, code_of_kind, name_of_kind, name_of_type, declared_field, declared_enum, declared_head, entry_part, decls_of}
use Rattle.pb_link_names.proofs.AnyLemmas.{or_second}
use Rattle.pb_link.proofs.FlatLemmas.{Stands}
use Rattle.pb_link.proofs.WholeLemmas.{all_at}
use Rattle.pb_link.proofs.EachDeclaredLemmas.{Name}
use Rattle.pb_link.proofs.FromLemmas.{Two, IsFrom, from_file, from_message, from_field, from_oneof, from_entry, from_key, from_value, from_enum, from_enum_value, IsMapField, entry_head}
use Rattle.pb_link.proofs.DeclaredSyntaxLemmas.{two_again, stands_in, not_in_proto3}
use Rattle.pb_link.proofs.TypeCaseLemmas.{TypeCase, scalar, type_named, KindCase, key_plain, field_at}
use Rattle.pb_link.proofs.MapRuleLemmas.{is_key, value_three, seen_kind, key_case, Entry, map_looked, map_name, Field}

-- OPTIONAL FIELDS

-- in a file of proto2 no field is optional
never_optional : (two : Bool) (s : Shape) (k : Kind) → (is_optional_field two s k && two) ≡ false
never_optional two shape.Explicit k = by two (is_none (message_of_kind k))
  where
    by : (two b : Bool) → ((not two && b) && two) ≡ false
    by true b = refl
    by false true = refl
    by false false = refl
never_optional two shape.Implicit k = refl
never_optional two (shape.OneofMember o) k = refl
never_optional two (shape.List packed) k = refl
never_optional two (shape.Map key) k = refl

module _ (ts : Types) (pool : IsPool ts) (w : World) (world : IsWorldOf (decls_of ts) w) where
  -- BadOneof
  pub oneof_right : (place : ℕ) (d : Declaration) → IsFrom ts d → is_oneof_right d.item ≡ true → holds w place d cause.BadOneof ≡ true
  oneof_right place d from right = ap (λ b. not b && is_oneof_right d.item) (unmarked d from) ∙ right
    where
      unmarked : (d : Declaration) → IsFrom ts d → (is_marked_optional d.item && is_two w.files d.file) ≡ false
      unmarked d (from_field m there p i r g at) =
          ap (λ b. is_optional_field (Two ts m) g.shape g.kind && b) (two_again ts pool w world m.1.file) ∙ never_optional (Two ts m) g.shape g.kind
      unmarked d (from_file i p f there) = refl
      unmarked d (from_message m there p inner) = refl
      unmarked d (from_oneof m there p i name at) = refl
      unmarked d (from_entry m there p j g key is) = refl
      unmarked d (from_key m there p j g key is) = refl
      unmarked d (from_value m there p j g key is) = refl
      unmarked d (from_enum e there p) = refl
      unmarked d (from_enum_value e there p i v at) = refl

  -- BadEnum
  pub first_value : (place : ℕ) (d : Declaration) → IsFrom ts d → holds w place d cause.BadEnum ≡ true
  first_value place d (from_enum e there p) =
      ap (λ b. begins_right b (declared_enum e.1)) (two_again ts pool w world e.1.file)
      ∙ by (is_proto2 ts.files e.1.file) e.1.values
      (all_at (λ u. BeginsRight (is_proto2 ts.files u.file) u.values) ts.enums e.0 e.1 pool.syntax.first_values there)
    where
      by : (two : Bool) (vs : List (List ℕ × ℤ)) → BeginsRight two vs → begins_right two (declared_enum (record e.1 { values = vs })) ≡ true
      by two [] h = absurd h
      by true (v ∷ vs) h = refl
      by false (v ∷ vs) h = (Decides-int_eq v.1 (pos 0)).1 h
  first_value place d (from_file i p f there) = refl
  first_value place d (from_message m there p inner) = refl
  first_value place d (from_field m there p i r g at) = refl
  first_value place d (from_oneof m there p i name at) = refl
  first_value place d (from_entry m there p j g key is) = refl
  first_value place d (from_key m there p j g key is) = refl
  first_value place d (from_value m there p j g key is) = refl
  first_value place d (from_enum_value e there p i v at) = refl

  -- CLOSED ENUMS

  abbrev Open : Declaration → Type 0
  Open d = list_all (passes_declared w (is_open w.files)) (lookups w d) ≡ true

  -- a kind of proto3 names no closed enum
  kind_open : (file parent : ℕ) (scope : List ℕ) (head : MessageHead) (i : ℕ) (f : DeclaredField) (k : Kind) → f.type_name ≡ name_of_kind ts k →
      KindCase ts w file scope k → is_of_proto2 k ≡ false → Open (field_at file parent scope head i f)
  kind_open file parent scope head i f k named c three = subst (λ o. Open (At o)) (sym named) (by c.case)
    where
      At : Option (List ℕ) → Declaration
      At o = field_at file parent scope head i (record f { type_name = o })

      by : TypeCase w file scope (name_of_kind ts k) (code_of_kind k) → Open (At (name_of_kind ts k))
      by (scalar none right) = subst (λ o. Open (At o)) (sym none) refl
      by (type_named n is t) =
          subst (λ o. Open (At o)) (sym is)
          (ap (λ r. passes_declared w (is_open w.files) r && true) t.looked ∙ ap (λ o. option_map_or (is_open w.files) o true && true) t.there
          ∙ ap (λ b. b && true) (c.open_enum three n is t.place t.looked t.type t.there))

  -- a field in a file of proto2, or else one of a kind of proto3
  field_open : (m : ℕ × MessageView) → Stands ts m → (p i r : ℕ) (g : FieldView) → slice_get m.1.fields i ≡ Some g →
      is_enum_right w (Field ts pool w world m p i r g) ≡ true
  field_open m there p i r g at =
      ap (λ b. (b && true) || list_all (passes_declared w (is_open w.files)) (lookups w d)) (two_again ts pool w world m.1.file) ∙ by (Two ts m) refl
    where
      d : Declaration
      d = Field ts pool w world m p i r g

      plain : (s : Shape) → g.shape ≡ s → name_of_type ts (Name ts m.0) g.name s g.kind ≡ name_of_kind ts g.kind → is_of_proto2 g.kind ≡ false → Open d
      plain s is named =
          kind_open m.1.file p (Name ts m.0) (declared_head ts m.0 m.1) i (declared_field (Two ts m) ts (Name ts m.0) r g) g.kind
          (ap (λ x. name_of_type ts (Name ts m.0) g.name x g.kind) is ∙ named) (seen_kind ts pool w world m there i g at (Name ts m.0))

      by_shape : (s : Shape) → g.shape ≡ s → is_of_proto2 g.kind ≡ false → Open d
      by_shape (shape.Map key) is three =
          let map : IsMapField m i g key = record { there = at; is_map = is } in
          let e = Entry ts pool w world m there i g key map in
          let named : Option (List ℕ) → DeclaredField = λ o. record (declared_field (Two ts m) ts (Name ts m.0) r g) { type_name = o } in
          subst (λ o. Open (field_at m.1.file p (Name ts m.0) (declared_head ts m.0 m.1) i (named o))) (sym (map_name ts (Name ts m.0) g.name g.shape g.kind key is))
          (ap (λ x. passes_declared w (is_open w.files) x && true) (map_looked ts pool w world m there i g key map (Name ts m.0))
          ∙ ap (λ o. option_map_or (is_open w.files) o true && true) e.there
          ∙ ap (λ it. not (is_enum it && is_two w.files e.declared.file) && true) e.item)
      by_shape shape.Implicit is three = plain shape.Implicit is refl three
      by_shape shape.Explicit is three = plain shape.Explicit is refl three
      by_shape (shape.OneofMember o) is three = plain (shape.OneofMember o) is refl three
      by_shape (shape.List packed) is three = plain (shape.List packed) is refl three

      by : (b : Bool) → Two ts m ≡ b → ((b && true) || list_all (passes_declared w (is_open w.files)) (lookups w d)) ≡ true
      by true is = refl
      by false is = by_shape g.shape refl (not_in_proto3 (Two ts m) g.shape g.kind (stands_in ts pool m there i g at) is)

  -- ClosedEnum
  pub open_right : (place : ℕ) (d : Declaration) → IsFrom ts d → holds w place d cause.ClosedEnum ≡ true
  open_right place d (from_field m there p i r g at) = field_open m there p i r g at
  open_right place d (from_key m there p j g key is) =
      let scope = in_scope (Name ts m.0) (entry_name g.name) in
      or_second _ _
      (kind_open m.1.file p scope (entry_head ts g key) 0 (entry_part ts key_name 1 key) key refl
      (key_case ts pool w world m there j g key is scope) (key_plain key (is_key ts pool w world m there j g key is)))
  open_right place d (from_value m there p j g key is) =
      let scope = in_scope (Name ts m.0) (entry_name g.name) in
      or_second _ _
      (kind_open m.1.file p scope (entry_head ts g key) 1 (entry_part ts value_name 2 g.kind) g.kind refl
      (seen_kind ts pool w world m there j g is.there scope) (value_three ts pool w world m there j g key is))
  open_right place d (from_file i p f there) = refl
  open_right place d (from_message m there p inner) = refl
  open_right place d (from_oneof m there p i name at) = refl
  open_right place d (from_entry m there p j g key is) = refl
  open_right place d (from_enum e there p) = refl
  open_right place d (from_enum_value e there p i v at) = refl
