-- What a place among the declarations of a pool's types holds: a message of the pool, an enum of it, or neither.
use Rattle.std.specs.Prelude.{◌≡◌, ℕ, false, Some, slice_get}
use Rattle.pb_schema.specs.Types.{MessageView, EnumView, Types}
use Rattle.pb_declarations.specs.Decls.{DeclaredMessages}
use Rattle.pb_link_names.specs.Declarations.{a_message, an_enum, Declaration}
use Rattle.pb_link_rules.specs.Rules.{World, is_enum, is_message_type}
use Rattle.pb_link.specs.PoolOf.{message_index, enum_index, parent_type}
use Rattle.pb_link.specs.ToDecls.{declared_head, declared_enum}
use Rattle.pb_link.proofs.EachDeclaredLemmas.{Scope}

pub record AtMessage (ts : Types) (w : World) (place : ℕ) (d : Declaration) (m : ℕ × MessageView) : Type 0 where
  pub stands : slice_get ts.messages m.0 ≡ Some m.1
  pub there : slice_get w.declared place ≡ Some d
  pub file : d.file ≡ m.1.file
  pub scope : d.scope ≡ Scope ts m.1.file m.1.parent
  pub inner : DeclaredMessages
  pub item : d.item ≡ a_message (declared_head ts m.0 m.1) inner
  pub index : message_index w place ≡ m.0
  pub around : parent_type w d.parent ≡ m.1.parent

pub record AtEnum (ts : Types) (w : World) (place : ℕ) (d : Declaration) (e : ℕ × EnumView) : Type 0 where
  pub stands : slice_get ts.enums e.0 ≡ Some e.1
  pub there : slice_get w.declared place ≡ Some d
  pub file : d.file ≡ e.1.file
  pub scope : d.scope ≡ Scope ts e.1.file e.1.parent
  pub item : d.item ≡ an_enum (declared_enum e.1)
  pub index : enum_index w place ≡ e.0
  pub around : parent_type w d.parent ≡ e.1.parent

pub data Placed (ts : Types) (w : World) (place : ℕ) (d : Declaration) : Type 0 where
  at_message : (m : ℕ × MessageView) → AtMessage ts w place d m → Placed ts w place d
  at_enum : (e : ℕ × EnumView) → AtEnum ts w place d e → Placed ts w place d
  at_other : is_message_type d.item ≡ false → is_enum d.item ≡ false → Placed ts w place d
