-- The types of a pool are those of declared messages and enums, and the rules hold of their parts.
use Rattle.std.proofs.Common.{◌≡◌, ℕ, ◌+◌, List, Bool, true, false, refl, sym, ap, subst, Some, None}
use Rattle.std.specs.Prelude.{slice_get, filter_map, if◌then◌else◌}
use Rattle.std.specs.List.{AllByRecursion}
use Rattle.std.proofs.lemmas.Option.{none-some}
use Rattle.pb_schema.specs.Names.{in_scope}
use Rattle.pb_schema.specs.Types.{FieldView, MessageView, EnumView}
use Rattle.pb_declarations.specs.Decls.{DeclaredField, DeclaredEnum, MessageHead, DeclaredMessages, DeclaredFile}
use Rattle.pb_link_names.specs.Declarations.{Item, a_message, a_field, an_enum, Declaration}
use Rattle.pb_link_rules.specs.Rules.{World}
use Rattle.pb_link_rules.specs.Link.{IsWorldOf}
use Rattle.pb_link.specs.PoolOf.{message_type, message_by_item, message_of_head, enum_type, enum_by_item, field_type}
use Rattle.pb_link_rules.proofs.ThereLemmas.{some_same, all_types, all_mapped, field_there}

pub unless_entry : {M : Type 0} (b : Bool) (m y : M) → (if b then None else Some m) ≡ Some y → (m ≡ y) × (b ≡ false)
unless_entry true m y h = absurd (none-some y h)
unless_entry false m y h = (some_same m y h, refl)

-- each message type is that of a declared message, no entry
pub each_message : (w : World) (P : MessageView → Type 0) → ((k file parent : ℕ) (scope : List ℕ) (head : MessageHead) (inner : DeclaredMessages) → slice_get w.declared k ≡ Some (record { file = file; parent = parent; scope = scope; item = a_message head inner }) → head.is_entry ≡ false → P (message_of_head w (record { file = file; parent = parent; scope = scope; item = a_message head inner }) head)) → AllByRecursion P (filter_map (message_type w) w.declared)
each_message w P each = all_types P (message_type w) w.declared (λ k d t there made. by_item k d.file d.parent d.scope d.item t there made)
  where
    by_item : (k file parent : ℕ) (scope : List ℕ) (it : Item) (t : MessageView) → slice_get w.declared k ≡ Some (record { file = file; parent = parent; scope = scope; item = it }) → message_by_item w (record { file = file; parent = parent; scope = scope; item = it }) it ≡ Some t → P t
    by_item k file parent scope (a_message head inner) t there made =
        let made_of = unless_entry head.is_entry (message_of_head w (record { file = file; parent = parent; scope = scope; item = a_message head inner }) head) t made in
        subst P made_of.0 (each k file parent scope head inner there made_of.1)
    by_item k file parent scope it t there made = absurd (none-some t made)

pub each_enum : (w : World) (P : EnumView → Type 0) → ((k file parent : ℕ) (scope : List ℕ) (e : DeclaredEnum) (t : EnumView) → slice_get w.declared k ≡ Some (record { file = file; parent = parent; scope = scope; item = an_enum e }) → enum_by_item w (record { file = file; parent = parent; scope = scope; item = an_enum e }) (an_enum e) ≡ Some t → P t) → AllByRecursion P (filter_map (enum_type w) w.declared)
each_enum w P each = all_types P (enum_type w) w.declared (λ k d t there made. by_item k d.file d.parent d.scope d.item t there made)
  where
    by_item : (k file parent : ℕ) (scope : List ℕ) (it : Item) (t : EnumView) → slice_get w.declared k ≡ Some (record { file = file; parent = parent; scope = scope; item = it }) → enum_by_item w (record { file = file; parent = parent; scope = scope; item = it }) it ≡ Some t → P t
    by_item k file parent scope (an_enum e) t there made = each k file parent scope e t there made
    by_item k file parent scope it t there made = absurd (none-some t made)

-- each field of each message type is that of a declared field
pub each_field : (files : List DeclaredFile) (w : World) → IsWorldOf files w → (P : FieldView → Type 0) → ((k file parent : ℕ) (scope : List ℕ) (head : MessageHead) (j : ℕ) (f : DeclaredField) → slice_get w.declared k ≡ Some (record { file = file; parent = parent; scope = scope; item = a_field head j f }) → P (field_type w file scope f)) → AllByRecursion (λ t. AllByRecursion P t.fields) (filter_map (message_type w) w.declared)
each_field files w world P each = each_message w (λ t. AllByRecursion P t.fields) (λ k file parent scope head inner there plain. all_mapped P (field_type w file (in_scope scope head.name)) head.fields (λ j f field. each (k + 1 + j) file k (in_scope scope head.name) head j f (field_there files w world k file parent scope head inner there j f field)))

-- a type is of the file of its declaration
pub of_message : (w : World) (d : Declaration) (t : MessageView) → message_type w d ≡ Some t → t.file ≡ d.file
of_message w d t made = by_item d.item made
  where
    by_item : (it : Item) → message_by_item w d it ≡ Some t → t.file ≡ d.file
    by_item (a_message head inner) made = ap (λ m. m.file) (sym (unless_entry head.is_entry (message_of_head w d head) t made).0)
    by_item it made = absurd (none-some t made)

pub of_enum : (w : World) (d : Declaration) (t : EnumView) → enum_type w d ≡ Some t → t.file ≡ d.file
of_enum w d t made = by_item d.item made
  where
    by_item : (it : Item) → enum_by_item w d it ≡ Some t → t.file ≡ d.file
    by_item (an_enum e) made = ap (λ m. m.file) (sym (some_same _ t made))
    by_item it made = absurd (none-some t made)
