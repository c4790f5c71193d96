-- The type names of the declarations of a pool's types mean types, and of the right kind.
use Rattle.std.proofs.Common.{◌≡◌, ℕ, ◌∷◌, refl, ap, Some}
use Rattle.std.specs.Prelude.{slice_get}
use Rattle.pb_schema.specs.declared.types.Shape.{Shape}
use Rattle.pb_schema.specs.declared.types.Shape.TheVariants as shape
use Rattle.pb_schema.specs.Names.{in_scope, entry_name}
use Rattle.pb_schema.specs.Types.{FieldView, MessageView, Types}
use Rattle.pb_schema.specs.Rules.{IsPool}
use Rattle.pb_link_names.specs.Declarations.{Declaration}
use Rattle.pb_link_rules.specs.Rules.{World, key_name, value_name, is_message}
use Rattle.pb_link_rules.specs.Link.{IsWorldOf}
use Rattle.pb_link.specs.ToDecls.{code_of_kind, code_of_field, name_of_type, declared_field, declared_head, entry_part, decls_of}
use Rattle.pb_link.proofs.FlatLemmas.{Stands}
use Rattle.pb_link.proofs.EachDeclaredLemmas.{Name}
use Rattle.pb_link.proofs.FromLemmas.{Two, IsFrom, from_file, from_message, from_field, from_oneof, from_entry, from_key, from_value, from_enum, from_enum_value, IsMapField, entry_head}
use Rattle.pb_link.proofs.TypeCaseLemmas.{MeetsTypeRules, as_message, TypeCase, type_named, field_rules}
use Rattle.pb_link.proofs.MapRuleLemmas.{seen_kind, key_case, Entry, map_looked}

module _ (ts : Types) (pool : IsPool ts) (w : World) (world : IsWorldOf (decls_of ts) w) where
  -- the type of a field of a message
  field_case : (m : ℕ × MessageView) → Stands ts m → (j : ℕ) (g : FieldView) → slice_get m.1.fields j ≡ Some g → (s : Shape) → g.shape ≡ s → TypeCase w m.1.file (Name ts m.0) (name_of_type ts (Name ts m.0) g.name s g.kind) (code_of_field s g.kind)
  field_case m there j g at (shape.Map key) is =
      let map : IsMapField m j g key = record { there = at; is_map = is } in
      let e = Entry ts pool w world m there j g key map in
      type_named (46 ∷ in_scope (Name ts m.0) (entry_name g.name)) refl (record { place = e.place; type = e.declared; looked = map_looked ts pool w world m there j g key map (Name ts m.0); there = e.there; right = as_message refl (ap is_message e.item) })
  field_case m there j g at shape.Implicit is = (seen_kind ts pool w world m there j g at (Name ts m.0)).case
  field_case m there j g at shape.Explicit is = (seen_kind ts pool w world m there j g at (Name ts m.0)).case
  field_case m there j g at (shape.OneofMember o) is = (seen_kind ts pool w world m there j g at (Name ts m.0)).case
  field_case m there j g at (shape.List packed) is = (seen_kind ts pool w world m there j g at (Name ts m.0)).case

  -- NotFound, NotVisible, NotAType and KindMismatch
  pub type_rules : (place : ℕ) (d : Declaration) → IsFrom ts d → MeetsTypeRules w place d
  type_rules place d (from_field m there p i r g at) = field_rules w place m.1.file p (Name ts m.0) (declared_head ts m.0 m.1) i (declared_field (Two ts m) ts (Name ts m.0) r g) (code_of_field g.shape g.kind) refl (field_case m there i g at g.shape refl)
  type_rules place d (from_key m there p j g key is) =
      let scope = in_scope (Name ts m.0) (entry_name g.name) in
      field_rules w place m.1.file p scope (entry_head ts g key) 0 (entry_part ts key_name 1 key) (code_of_kind key) refl (key_case ts pool w world m there j g key is scope).case
  type_rules place d (from_value m there p j g key is) =
      let scope = in_scope (Name ts m.0) (entry_name g.name) in
      field_rules w place m.1.file p scope (entry_head ts g key) 1 (entry_part ts value_name 2 g.kind) (code_of_kind g.kind) refl (seen_kind ts pool w world m there j g is.there scope).case
  type_rules place d (from_file i p f there) = record { is_found = refl; visible = refl; a_type = refl; kind = refl }
  type_rules place d (from_message m there p inner) = record { is_found = refl; visible = refl; a_type = refl; kind = refl }
  type_rules place d (from_oneof m there p i name at) = record { is_found = refl; visible = refl; a_type = refl; kind = refl }
  type_rules place d (from_entry m there p j g key is) = record { is_found = refl; visible = refl; a_type = refl; kind = refl }
  type_rules place d (from_enum e there p) = record { is_found = refl; visible = refl; a_type = refl; kind = refl }
  type_rules place d (from_enum_value e there p i v at) = record { is_found = refl; visible = refl; a_type = refl; kind = refl }
