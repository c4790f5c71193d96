-- Each entry message among the declarations of a pool's types is used by one field, its map field, and has a key and a value.
use Rattle.std.proofs.Common.{◌≡◌, ℕ, ◌+◌, List, true, false, not, ◌&&◌, ◌||◌, ◌==◌, length, refl, sym, ap, ◌∙◌, subst, Some}
use Rattle.std.specs.Prelude.{slice_get}
use Rattle.std.specs.Option.{option_map_or}
use Rattle.std.proofs.lemmas.Bool.{false≢true}
use Rattle.std.proofs.lemmas.Bool.Decides.{Decides-eqb}
use Rattle.pb_schema.specs.declared.types.Kind.{Kind}
use Rattle.pb_schema.specs.declared.types.Kind.TheVariants as kind
use Rattle.pb_schema.specs.declared.types.Shape.{Shape}
use Rattle.pb_schema.specs.declared.types.Shape.TheVariants as shape
use Rattle.pb_schema.specs.Kinds.{is_of_proto2}
use Rattle.pb_schema.specs.Names.{in_scope, entry_name}
use Rattle.pb_schema.specs.Types.{FieldView, MessageView, Types}
use Rattle.pb_schema.specs.Rules.{IsPool}
use Rattle.pb_declarations.specs.Decls.{no_messages}
use Rattle.pb_link_names.specs.Declarations.{a_message, a_field, Declaration, is_named, simple_name}
use Rattle.pb_link_rules.specs.Rules.{World, passes, item_of, is_not_entry, is_found_at, uses, is_one_map_field, has_one_use, is_key_code, is_part, is_value_part, is_no_entry, are_key_and_value, has_key_and_value, key_name, value_name, is_map_right}
use Rattle.pb_link_rules.specs.Link.{IsWorldOf}
use Rattle.pb_link.specs.ToDecls.{name_of_kind, name_of_type, code_of_kind, declared_field, declared_head, entry_part, decls_of}
use Rattle.pb_link.proofs.FlatLemmas.{Stands}
use Rattle.pb_link_rules.proofs.ThereLemmas.{field_there}
use Rattle.pb_link.proofs.EachDeclaredLemmas.{Name}
use Rattle.pb_link.proofs.FromLemmas.{Two, IsFrom, from_file, from_message, from_field, from_oneof, from_entry, from_key, from_value, from_enum, from_enum_value, IsMapField, entry_head}
use Rattle.pb_link.proofs.OneNameLemmas.{one_place}
use Rattle.pb_link.proofs.DeclaredLookupLemmas.{message_placed, EntryPlaced, world_differs}
use Rattle.pb_link.proofs.InMessageLemmas.{from_at, field_parent}
use Rattle.pb_link.proofs.TypeCaseLemmas.{TypeCase, scalar, type_named, KindCase, field_at, key_code}
use Rattle.pb_link.proofs.UsedRightlyLemmas.{kind_used, kind_uses_none, filter_one, one_entry}
use Rattle.pb_link.proofs.MapRuleLemmas.{declared_there, map_name, or_none, seen_kind, value_three, is_key, key_case, Entry, map_looked, is_its_map_field, Field, field_used}

some_same : {A : Type 0} (a b : A) → Some a ≡ Some b → a ≡ b
some_same a b h = cc

-- what a message's entry says of the message's name and of its field's
same_entry : (ts : Types) (s t : List ℕ) (f g : FieldView) (key k : Kind) (d e : Declaration) → d ≡ e → d.scope ≡ s → e.scope ≡ t → d.item ≡ a_message (entry_head ts f key) no_messages → e.item ≡ a_message (entry_head ts g k) no_messages → in_scope s (entry_name f.name) ≡ in_scope t (entry_name g.name)
same_entry ts s t f g key k d e same at_d at_e is_d is_e =
    ap (λ x. in_scope x (entry_name f.name)) (sym at_d ∙ ap (λ (x : Declaration). x.scope) same ∙ at_e)
    ∙ ap (λ x. in_scope t (simple_name x)) (sym is_d ∙ ap (λ (x : Declaration). x.item) same ∙ is_e)

-- the value of an entry is no group
value_part : (ts : Types) (k : Kind) → is_of_proto2 k ≡ false → is_value_part (entry_part ts value_name 2 k) ≡ true
value_part ts (kind.Group n) three = absurd (false≢true (sym three))
value_part ts (kind.ClosedEnum n) three = refl
value_part ts (kind.Message n) three = refl
value_part ts (kind.Enum n) three = refl
value_part ts kind.Double three = refl
value_part ts kind.Float three = refl
value_part ts kind.Int64 three = refl
value_part ts kind.Uint64 three = refl
value_part ts kind.Int32 three = refl
value_part ts kind.Fixed64 three = refl
value_part ts kind.Fixed32 three = refl
value_part ts kind.Bool three = refl
value_part ts kind.Text three = refl
value_part ts kind.Bytes three = refl
value_part ts kind.Uint32 three = refl
value_part ts kind.Sfixed32 three = refl
value_part ts kind.Sfixed64 three = refl
value_part ts kind.Sint32 three = refl
value_part ts kind.Sint64 three = refl

module _ (ts : Types) (pool : IsPool ts) (w : World) (world : IsWorldOf (decls_of ts) w) where
  -- THE MAP FIELD OF AN ENTRY

  record Its (m : ℕ × MessageView) (there : Stands ts m) (j : ℕ) (g : FieldView) (key : Kind) (is : IsMapField m j g key) : Type 0 where
    place : ℕ
    field : Declaration
    at : slice_get w.declared place ≡ Some field
    r : ℕ
    item : field.item ≡ a_field (declared_head ts m.0 m.1) j (declared_field (Two ts m) ts (Name ts m.0) r g)
    scope : field.scope ≡ Name ts m.0
    file : field.file ≡ m.1.file

  its : (m : ℕ × MessageView) (there : Stands ts m) (j : ℕ) (g : FieldView) (key : Kind) (is : IsMapField m j g key) → Its m there j g key is
  its m there j g key is =
      let p = message_placed ts pool w world m.0 m.1 there in
      let head = declared_head ts m.0 m.1 in
      let f = declared_there (Two ts m) ts (Name ts m.0) (length m.1.oneofs) m.1.fields j g is.there in
      let d = p.declared in
      let whole : slice_get w.declared p.place ≡ Some (record { file = d.file; parent = d.parent; scope = d.scope; item = a_message head p.inner }) = p.there ∙ ap (λ it. Some (record { file = d.file; parent = d.parent; scope = d.scope; item = it })) p.item in
      let called : in_scope d.scope head.name ≡ Name ts m.0 = ap (λ it. in_scope d.scope (simple_name it)) (sym p.item) ∙ p.full in
      record {
        place = p.place + 1 + j;
        field = record { file = d.file; parent = p.place; scope = in_scope d.scope head.name; item = a_field head j (declared_field (Two ts m) ts (Name ts m.0) f.0 g) };
        at = field_there (decls_of ts) w world p.place d.file d.parent d.scope head p.inner whole j (declared_field (Two ts m) ts (Name ts m.0) f.0 g) f.1;
        r = f.0;
        item = refl;
        scope = called;
        file = p.file;
      }

  -- a map field uses its entry
  uses_its : (m : ℕ × MessageView) (there : Stands ts m) (j : ℕ) (g : FieldView) (key : Kind) (is : IsMapField m j g key) (d : Declaration) (i r : ℕ) → d.item ≡ a_field (declared_head ts m.0 m.1) i (declared_field (Two ts m) ts (Name ts m.0) r g) → d.file ≡ m.1.file → (p : ℕ) → uses w p d ≡ (p == (Entry ts pool w world m there j g key is).place || false)
  uses_its m there j g key is d i r item file p =
      subst (λ (x : Declaration). uses w p x ≡ ((p == e.place) || false)) (sym whole)
      (subst (λ o. uses w p (field_at m.1.file d.parent d.scope (declared_head ts m.0 m.1) i (record (declared_field (Two ts m) ts (Name ts m.0) r g) { type_name = o })) ≡ ((p == e.place) || false)) (sym (map_name ts (Name ts m.0) g.name g.shape g.kind key is.is_map))
      (ap (λ x. is_found_at p x || false) (map_looked ts pool w world m there j g key is d.scope)))
    where
      e : EntryPlaced ts w m.0 m.1 g key
      e = Entry ts pool w world m there j g key is

      whole : d ≡ field_at m.1.file d.parent d.scope (declared_head ts m.0 m.1) i (declared_field (Two ts m) ts (Name ts m.0) r g)
      whole = λ k. record { file = file k; parent = d.parent; scope = d.scope; item = item k }

  module _ (m : ℕ × MessageView) (there : Stands ts m) (place parent j : ℕ) (g : FieldView) (key : Kind) (is : IsMapField m j g key) (here : slice_get w.declared place ≡ Some (record { file = m.1.file; parent = parent; scope = Name ts m.0; item = a_message (entry_head ts g key) no_messages })) where
    abbrev It : Declaration
    It = record { file = m.1.file; parent = parent; scope = Name ts m.0; item = a_message (entry_head ts g key) no_messages }

    -- the entry stands where it is found
    one_there : place ≡ (Entry ts pool w world m there j g key is).place
    one_there =
        let e = Entry ts pool w world m there j g key is in
        one_place w.declared (world_differs ts pool w world) place e.place It e.declared here e.there refl (ap is_named e.item)
        (ap (λ x. in_scope (Name ts m.0) (simple_name x)) (sym e.item) ∙ ap (λ s. in_scope s (simple_name e.declared.item)) (sym e.scope))

    -- whatever uses it is its map field
    used_once : (q : ℕ) (d : Declaration) → slice_get w.declared q ≡ Some d → IsFrom ts d → uses w place d ≡ true → q ≡ (its m there j g key is).place
    used_once q d at (from_file i p f there_f) used = absurd (false≢true used)
    used_once q d at (from_message n there_n p inner) used = absurd (false≢true used)
    used_once q d at (from_oneof n there_n p i name is_n) used = absurd (false≢true used)
    used_once q d at (from_entry n there_n p i f k is_f) used = absurd (false≢true used)
    used_once q d at (from_enum e there_e p) used = absurd (false≢true used)
    used_once q d at (from_enum_value e there_e p i v is_v) used = absurd (false≢true used)
    used_once q d at (from_key n there_n p i f k is_f) used = absurd (kind_uses_none ts w n.1.file p (in_scope (Name ts n.0) (entry_name f.name)) (entry_head ts f k) 0 (entry_part ts key_name 1 k) k refl (key_case ts pool w world n there_n i f k is_f (in_scope (Name ts n.0) (entry_name f.name))) place It here refl used)
    used_once q d at (from_value n there_n p i f k is_f) used = absurd (kind_uses_none ts w n.1.file p (in_scope (Name ts n.0) (entry_name f.name)) (entry_head ts f k) 1 (entry_part ts value_name 2 f.kind) f.kind refl (seen_kind ts pool w world n there_n i f is_f.there (in_scope (Name ts n.0) (entry_name f.name))) place It here refl used)
    used_once q d at (from_field n there_n p i r f is_f) used = by f.shape refl
      where
        plain : (s : Shape) → f.shape ≡ s → name_of_type ts (Name ts n.0) f.name s f.kind ≡ name_of_kind ts f.kind → q ≡ (its m there j g key is).place
        plain s same named = absurd (kind_uses_none ts w n.1.file p (Name ts n.0) (declared_head ts n.0 n.1) i (declared_field (Two ts n) ts (Name ts n.0) r f) f.kind (ap (λ x. name_of_type ts (Name ts n.0) f.name x f.kind) same ∙ named) (seen_kind ts pool w world n there_n i f is_f (Name ts n.0)) place It here refl used)

        by : (s : Shape) → f.shape ≡ s → q ≡ (its m there j g key is).place
        by (shape.Map k) same =
            let map : IsMapField n i f k = record { there = is_f; is_map = same } in
            let e = Entry ts pool w world n there_n i f k map in
            let meant : place ≡ e.place = (Decides-eqb place e.place).0 (or_none (place == e.place) (sym (uses_its n there_n i f k map (Field ts pool w world n p i r f) i r refl refl place) ∙ used)) in
            let one : It ≡ e.declared = some_same It e.declared (sym here ∙ ap (slice_get w.declared) meant ∙ e.there) in
            let entries = one_entry ts pool m n there there_n j i g f key k is map (same_entry ts (Name ts m.0) (Name ts n.0) g f key k It e.declared one refl e.scope refl e.item) in
            let messages : m.1 ≡ n.1 = some_same m.1 n.1 (sym there ∙ ap (slice_get ts.messages) entries.0 ∙ there_n) in
            let fields : g ≡ f = some_same g f (sym is.there ∙ ap (λ (t : MessageView). slice_get t.fields j) messages ∙ ap (slice_get n.1.fields) entries.1 ∙ is_f) in
            let u = its m there j g key is in
            one_place w.declared (world_differs ts pool w world) q u.place (Field ts pool w world n p i r f) u.field at u.at refl (ap is_named u.item)
            (ap (λ k. in_scope (Name ts k) f.name) (sym entries.0) ∙ ap (λ (x : FieldView). in_scope (Name ts m.0) x.name) (sym fields) ∙ ap (λ x. in_scope (Name ts m.0) (simple_name x)) (sym u.item) ∙ ap (λ s. in_scope s (simple_name u.field.item)) (sym u.scope))
        by shape.Implicit same = plain shape.Implicit same refl
        by shape.Explicit same = plain shape.Explicit same refl
        by (shape.OneofMember o) same = plain (shape.OneofMember o) same refl
        by (shape.List packed) same = plain (shape.List packed) same refl

    one_use : has_one_use w place It ≡ true
    one_use =
        let u = its m there j g key is in
        let e = Entry ts pool w world m there j g key is in
        let used : uses w place u.field ≡ true = uses_its m there j g key is u.field j u.r u.item u.file place ∙ ap (λ b. b || false) ((Decides-eqb place e.place).1 one_there) in
        ap (is_one_map_field It) (filter_one (uses w place) w.declared u.place u.field u.at used (λ q d at passes. used_once q d at (from_at ts pool w world q d at) passes))
        ∙ is_its_map_field ts pool w world m there j g key is place u.field It (declared_head ts m.0 m.1) j u.r (field_parent ts pool w world m there u.place u.field (declared_head ts m.0 m.1) j (declared_field (Two ts m) ts (Name ts m.0) u.r g) u.at u.item u.scope) u.item here refl refl

    value_plain : option_map_or (is_no_entry w It) (name_of_kind ts g.kind) true ≡ true
    value_plain = by c.case
      where
        c : KindCase ts w m.1.file (in_scope (Name ts m.0) (entry_name g.name)) g.kind
        c = seen_kind ts pool w world m there j g is.there (in_scope (Name ts m.0) (entry_name g.name))

        by : TypeCase w m.1.file (in_scope (Name ts m.0) (entry_name g.name)) (name_of_kind ts g.kind) (code_of_kind g.kind) → option_map_or (is_no_entry w It) (name_of_kind ts g.kind) true ≡ true
        by (scalar none right) = ap (λ o. option_map_or (is_no_entry w It) o true) none
        by (type_named n named t) =
            ap (λ o. option_map_or (is_no_entry w It) o true) named ∙ ap (passes w is_not_entry) t.looked ∙ ap (λ o. option_map_or is_not_entry (item_of o) true) t.there ∙ ap not (c.no_entry n named t.place t.looked t.type t.there)

    key_right : is_key_code (code_of_kind key) ≡ true
    key_right = key_code key (is_key ts pool w world m there j g key is)

    has_both : has_key_and_value w It (entry_head ts g key).fields ≡ true
    has_both =
        ap (λ b. b || are_key_and_value w It (entry_part ts value_name 2 g.kind) (entry_part ts key_name 1 key))
        (ap (λ b. is_part key_name 1 (entry_part ts key_name 1 key) && b && is_key_code (code_of_kind key) && option_map_or (is_no_entry w It) (name_of_kind ts g.kind) true) (value_part ts g.kind (value_three ts pool w world m there j g key is))
        ∙ ap (λ b. true && b && option_map_or (is_no_entry w It) (name_of_kind ts g.kind) true) key_right
        ∙ ap (λ b. true && b) value_plain)

    entry_right : is_map_right w place It ≡ true
    entry_right = ap (λ b. b && has_key_and_value w It (entry_head ts g key).fields && true) one_use ∙ ap (λ b. true && b && true) has_both

  -- BadMap
  pub map_right : (place : ℕ) (d : Declaration) → slice_get w.declared place ≡ Some d → IsFrom ts d → is_map_right w place d ≡ true
  map_right place d at (from_file i p f there) = refl
  map_right place d at (from_message m there p inner) = refl
  map_right place d at (from_field m there p i r g is) = field_used ts pool w world m there place p i r g is at
  map_right place d at (from_oneof m there p i name is) = refl
  map_right place d at (from_entry m there p j g key is) = entry_right m there place p j g key is at
  map_right place d at (from_key m there p j g key is) = kind_used ts w m.1.file p (in_scope (Name ts m.0) (entry_name g.name)) (entry_head ts g key) 0 (entry_part ts key_name 1 key) key refl (key_case ts pool w world m there j g key is (in_scope (Name ts m.0) (entry_name g.name)))
  map_right place d at (from_value m there p j g key is) = kind_used ts w m.1.file p (in_scope (Name ts m.0) (entry_name g.name)) (entry_head ts g key) 1 (entry_part ts value_name 2 g.kind) g.kind refl (seen_kind ts pool w world m there j g is.there (in_scope (Name ts m.0) (entry_name g.name)))
  map_right place d at (from_enum e there p) = refl
  map_right place d at (from_enum_value e there p i v is) = refl
