-- The fields of a declared message of a pool mean what they do in the pool.
use Rattle.std.proofs.Common.{◌≡◌, ℕ, suc, ◌+◌, List, [], ◌∷◌, Bool, true, false, cond, IsTrue, map, length, refl, ap, ◌∙◌, subst, inl, Option, Some, None}
use Rattle.std.specs.Prelude.{slice_get, option_and_then, IfSome}
use Rattle.std.specs.Option.{option_map_or}
use Rattle.std.proofs.lemmas.Bool.{false≢true}
use Rattle.pb_schema.specs.declared.types.Kind.{Kind}
use Rattle.pb_schema.specs.declared.types.Kind.TheVariants as kind
use Rattle.pb_schema.specs.declared.types.Shape.{Shape}
use Rattle.pb_schema.specs.declared.types.Shape.TheVariants as shape
use Rattle.pb_schema.specs.Imports.{IsSeen}
use Rattle.pb_schema.specs.Kinds.{is_key_kind}
use Rattle.pb_schema.specs.Names.{message_names, enum_names, name_at}
use Rattle.pb_schema.specs.Types.{FieldView, MessageView, EnumView, Types, is_proto2}
use Rattle.pb_schema.specs.Rules.{IsPool, NamesType, TypeIsSeen, HasKeyKind, MayBePacked, MayBeImplicit, MayStandIn, EnumIsRight}
use Rattle.pb_declarations.specs.Decls.{DeclaredField}
use Rattle.pb_link_names.specs.Declarations.{full_name, head_of}
use Rattle.pb_link_names.specs.Lookup.{looked_up}
use Rattle.pb_link_rules.specs.Rules.{World, is_two, is_group, place_found, value_name}
use Rattle.pb_link_rules.specs.Link.{IsWorldOf}
use Rattle.pb_link.specs.PoolOf.{enum_index, kind_of_code, enum_kind, kind_by_item, kind_declared, kind_at, grouped, type_place, kind_by_place, kind_of_field, entry_by_item, entry_declared, entry_of, with_kind, field_by_entry, field_type}
use Rattle.pb_link.specs.ToDecls.{code_of_kind, name_of_kind, code_of_field, name_of_type, is_optional_view, declared_field, declared_fields, declared_head, entry_part, entry_message, decls_of}
use Rattle.pb_link.proofs.FlatLemmas.{Stands}
use Rattle.pb_link.proofs.FromLemmas.{Two}
use Rattle.pb_link.proofs.WholeLemmas.{get_there}
use Rattle.pb_link.proofs.DeclaredSightLemmas.{sees_right}
use Rattle.pb_link.proofs.DeclaredSyntaxLemmas.{two_again, rule_at, stands_in, enum_right}
use Rattle.pb_link.proofs.DeclaredLookupLemmas.{message_placed, enum_placed, entry_placed}
use Rattle.pb_link.proofs.ShapeAgainLemmas.{IsNoMap, shape_again}

key_again : (k : Kind) → IsTrue (is_key_kind k) → kind_of_code (code_of_kind k) ≡ k
key_again kind.Double h = refl
key_again kind.Float h = refl
key_again kind.Int64 h = refl
key_again kind.Uint64 h = refl
key_again kind.Int32 h = refl
key_again kind.Fixed64 h = refl
key_again kind.Fixed32 h = refl
key_again kind.Bool h = refl
key_again kind.Text h = refl
key_again kind.Bytes h = refl
key_again kind.Uint32 h = refl
key_again kind.Sfixed32 h = refl
key_again kind.Sfixed64 h = refl
key_again kind.Sint32 h = refl
key_again kind.Sint64 h = refl
key_again (kind.Enum e) h = absurd (false≢true h)
key_again (kind.ClosedEnum e) h = absurd (false≢true h)
key_again (kind.Message m) h = absurd (false≢true h)
key_again (kind.Group m) h = absurd (false≢true h)

module _ (ts : Types) (pool : IsPool ts) (w : World) (world : IsWorldOf (decls_of ts) w) where
  sees : (i j : ℕ) → IsSeen ts.files i j → w.sight.sees i j ≡ true
  sees i j h = (sees_right ts pool w world i j).1 h

  -- KINDS

  -- the field has this kind, and uses no entry message
  abbrev Means : ℕ → List ℕ → DeclaredField → Kind → Type 0
  Means file scope f k = (kind_of_field w file scope f ≡ k) × (entry_of w file scope f ≡ None)

  scalar : (file : ℕ) (scope : List ℕ) (f : DeclaredField) (k : Kind) → f.type_name ≡ None → f.type_code ≡ Some (code_of_kind k) →
      kind_of_code (code_of_kind k) ≡ k → Means file scope f k
  scalar file scope f k none code same =
      let nowhere : type_place w file scope f ≡ None = ap (option_and_then (λ name. place_found (looked_up w.declared (w.sight.sees file) scope name))) none in (
        ap (kind_by_place w f) nowhere ∙ ap (λ c. option_map_or kind_of_code c kind.Bool) code ∙ same,
        ap (option_and_then (λ place. option_and_then entry_declared (slice_get w.declared place))) nowhere,
      )

  placed : (file : ℕ) (scope name : List ℕ) (f : DeclaredField) (place : ℕ) → f.type_name ≡ Some name →
      place_found (looked_up w.declared (w.sight.sees file) scope name) ≡ Some place → type_place w file scope f ≡ Some place
  placed file scope name f place named there = ap (option_and_then (λ n. place_found (looked_up w.declared (w.sight.sees file) scope n))) named ∙ there

  -- a message, which is a group where that is the type number
  message_means : (group : Bool) (file : ℕ) (scope : List ℕ) (f : DeclaredField) (i : ℕ) (t : MessageView) → slice_get ts.messages i ≡ Some t →
      IsSeen ts.files file t.file → f.type_name ≡ Some (46 ∷ name_at (message_names ts) i) → is_group f.type_code ≡ group →
      Means file scope f (grouped group (kind.Message (record { 0 = i })))
  message_means group file scope f i t there seen named is =
      let p = message_placed ts pool w world i t there in
      let at = placed file scope (46 ∷ name_at (message_names ts) i) f p.place named (ap place_found (p.looked file scope (sees file t.file seen))) in
      let here : kind_at w p.place ≡ kind.Message (record { 0 = i }) = ap (kind_declared w p.place) p.there ∙ ap (kind_by_item w p.declared.file p.place) p.item ∙ ap (λ n. kind.Message (record { 0 = n })) p.index in (
        ap (kind_by_place w f) at ∙ ap (λ b. grouped b (kind_at w p.place)) is ∙ ap (grouped group) here,
        ap (option_and_then (λ place. option_and_then entry_declared (slice_get w.declared place))) at ∙ ap (option_and_then entry_declared) p.there ∙ ap (entry_by_item p.declared) p.item,
      )

  -- an enum, which is closed in a file of proto2
  enum_means : (two : Bool) (file : ℕ) (scope : List ℕ) (f : DeclaredField) (i : ℕ) (e : EnumView) → slice_get ts.enums i ≡ Some e →
      IsSeen ts.files file e.file → f.type_name ≡ Some (46 ∷ name_at (enum_names ts) i) → is_group f.type_code ≡ false → is_proto2 ts.files e.file ≡ two →
      Means file scope f (enum_kind two i)
  enum_means two file scope f i e there seen named single is =
      let p = enum_placed ts pool w world i e there in
      let at = placed file scope (46 ∷ name_at (enum_names ts) i) f p.place named (ap place_found (p.looked file scope (sees file e.file seen))) in
      let syntax : is_two w.files p.declared.file ≡ two = two_again ts pool w world p.declared.file ∙ ap (is_proto2 ts.files) p.file ∙ is in
      let here : kind_at w p.place ≡ enum_kind two i = ap (kind_declared w p.place) p.there ∙ ap (kind_by_item w p.declared.file p.place) p.item ∙ ap (λ b. enum_kind b (enum_index w p.place)) syntax ∙ ap (enum_kind two) p.index in (
        ap (kind_by_place w f) at ∙ ap (λ b. grouped b (kind_at w p.place)) single ∙ here,
        ap (option_and_then (λ place. option_and_then entry_declared (slice_get w.declared place))) at ∙ ap (option_and_then entry_declared) p.there ∙ ap (entry_by_item p.declared) p.item,
      )

  seen_there : {X : Type 0} (o : Option X) (x : X) (P : X → Type 0) → o ≡ Some x → IfSome o P → P x
  seen_there o x P is h = subst (λ p. IfSome p P) is h

  means : (file : ℕ) (scope : List ℕ) (f : DeclaredField) (k : Kind) → NamesType (length ts.messages) (length ts.enums) k → TypeIsSeen ts file k →
      EnumIsRight ts.files ts.enums k → f.type_name ≡ name_of_kind ts k → f.type_code ≡ Some (code_of_kind k) → Means file scope f k
  means file scope f (kind.Message m) named seen right is code =
      let t = get_there ts.messages m.0 named in
      message_means false file scope f m.0 t.0 t.1 (seen_there (slice_get ts.messages m.0) t.0 (λ x. IsSeen ts.files file x.file) t.1 seen) is (ap is_group code)
  means file scope f (kind.Group m) named seen right is code =
      let t = get_there ts.messages m.0 named in
      message_means true file scope f m.0 t.0 t.1 (seen_there (slice_get ts.messages m.0) t.0 (λ x. IsSeen ts.files file x.file) t.1 seen) is (ap is_group code)
  means file scope f (kind.Enum e) named seen right is code =
      let t = get_there ts.enums e.0 named in
      enum_means false file scope f e.0 t.0 t.1 (seen_there (slice_get ts.enums e.0) t.0 (λ x. IsSeen ts.files file x.file) t.1 seen) is (ap is_group code)
      (seen_there (slice_get ts.enums e.0) t.0 (λ x. is_proto2 ts.files x.file ≡ false) t.1 right)
  means file scope f (kind.ClosedEnum e) named seen right is code =
      let t = get_there ts.enums e.0 named in
      enum_means true file scope f e.0 t.0 t.1 (seen_there (slice_get ts.enums e.0) t.0 (λ x. IsSeen ts.files file x.file) t.1 seen) is (ap is_group code)
      (seen_there (slice_get ts.enums e.0) t.0 (λ x. is_proto2 ts.files x.file ≡ true) t.1 right)
  means file scope f kind.Double named seen right is code = scalar file scope f kind.Double is code refl
  means file scope f kind.Float named seen right is code = scalar file scope f kind.Float is code refl
  means file scope f kind.Int64 named seen right is code = scalar file scope f kind.Int64 is code refl
  means file scope f kind.Uint64 named seen right is code = scalar file scope f kind.Uint64 is code refl
  means file scope f kind.Int32 named seen right is code = scalar file scope f kind.Int32 is code refl
  means file scope f kind.Fixed64 named seen right is code = scalar file scope f kind.Fixed64 is code refl
  means file scope f kind.Fixed32 named seen right is code = scalar file scope f kind.Fixed32 is code refl
  means file scope f kind.Bool named seen right is code = scalar file scope f kind.Bool is code refl
  means file scope f kind.Text named seen right is code = scalar file scope f kind.Text is code refl
  means file scope f kind.Bytes named seen right is code = scalar file scope f kind.Bytes is code refl
  means file scope f kind.Uint32 named seen right is code = scalar file scope f kind.Uint32 is code refl
  means file scope f kind.Sfixed32 named seen right is code = scalar file scope f kind.Sfixed32 is code refl
  means file scope f kind.Sfixed64 named seen right is code = scalar file scope f kind.Sfixed64 is code refl
  means file scope f kind.Sint32 named seen right is code = scalar file scope f kind.Sint32 is code refl
  means file scope f kind.Sint64 named seen right is code = scalar file scope f kind.Sint64 is code refl

  -- FIELDS

  -- what the pool's rules say of a field of a message
  record IsRight (m : ℕ × MessageView) (g : FieldView) (s : Shape) : Type 0 where
    named : NamesType (length ts.messages) (length ts.enums) g.kind
    seen : TypeIsSeen ts m.1.file g.kind
    opens : EnumIsRight ts.files ts.enums g.kind
    key : HasKeyKind s
    packed : MayBePacked s g.kind
    implicit : MayBeImplicit s g.kind
    stands : MayStandIn (Two ts m) s g.kind

  module _ (m : ℕ × MessageView) (there : Stands ts m) (scope : List ℕ) (j : ℕ) (g : FieldView) (at : slice_get m.1.fields j ≡ Some g) (r : ℕ) where
    abbrev Name : List ℕ
    Name = name_at (message_names ts) m.0

    abbrev Declared : Shape → DeclaredField
    Declared s = declared_field (Two ts m) ts Name r (record { name = g.name; number = g.number; kind = g.kind; shape = s })

    abbrev Again : Shape → Type 0
    Again s = field_type w m.1.file scope (Declared s) ≡ record { name = g.name; number = g.number; kind = g.kind; shape = s }

    plain : (s : Shape) → IsNoMap s → IsRight m g s → name_of_type ts Name g.name s g.kind ≡ name_of_kind ts g.kind →
        code_of_field s g.kind ≡ code_of_kind g.kind → Again s
    plain s bare right called code =
        let k = means m.1.file scope (Declared s) g.kind right.named right.seen right.opens called (ap Some code) in
        ap (field_by_entry w m.1.file scope (Declared s)) k.1
        ∙ ap (with_kind (is_two w.files m.1.file) (Declared s)) k.0
        ∙ ap (λ b. with_kind b (Declared s) g.kind) (two_again ts pool w world m.1.file)
        ∙ ap (λ x. record { name = g.name; number = g.number; kind = g.kind; shape = x }) (shape_again (Two ts m) ts Name r g.name g.number g.kind s bare right.packed right.implicit right.stands)

    map_again : (key : Kind) → g.shape ≡ shape.Map key → IsRight m g (shape.Map key) → Again (shape.Map key)
    map_again key is right =
        let e = entry_placed ts pool w world m.0 m.1 there j g key at is in
        let f = Declared (shape.Map key) in
        let head = head_of (entry_message ts g.name key g.kind) in
        let found : type_place w m.1.file scope f ≡ Some e.place = ap place_found (e.looked m.1.file scope (sees m.1.file m.1.file (inl refl))) in
        let uses : entry_of w m.1.file scope f ≡ Some (head, full_name e.declared) = ap (option_and_then (λ place. option_and_then entry_declared (slice_get w.declared place))) found ∙ ap (option_and_then entry_declared) e.there ∙ ap (entry_by_item e.declared) e.item in
        let value = means m.1.file (full_name e.declared) (entry_part ts value_name 2 g.kind) g.kind right.named right.seen right.opens refl refl in
        ap (field_by_entry w m.1.file scope f) uses
        ∙ (λ i. record { name = g.name; number = g.number; kind = value.0 i; shape = shape.Map (key_again key right.key i) })

    by_shape : (s : Shape) → g.shape ≡ s → IsRight m g s → Again s
    by_shape (shape.Map key) is right = map_again key is right
    by_shape shape.Implicit is right = plain shape.Implicit tt right refl refl
    by_shape shape.Explicit is right = plain shape.Explicit tt right refl refl
    by_shape (shape.OneofMember o) is right = plain (shape.OneofMember o) tt right refl refl
    by_shape (shape.List packed) is right = plain (shape.List packed) tt right refl refl

  field_again : (m : ℕ × MessageView) → Stands ts m → (scope : List ℕ) (j : ℕ) (g : FieldView) → slice_get m.1.fields j ≡ Some g → (r : ℕ) →
      field_type w m.1.file scope (declared_field (Two ts m) ts (name_at (message_names ts) m.0) r g) ≡ g
  field_again m there scope j g at r = by_shape m there scope j g at r g.shape refl (record {
    named = rule_at (λ t f. NamesType (length ts.messages) (length ts.enums) f.kind) ts pool.indexes.kinds m there j g at;
    seen = rule_at (λ t f. TypeIsSeen ts t.file f.kind) ts pool.fields.types_seen m there j g at;
    opens = enum_right ts pool m there j g at;
    key = rule_at (λ t f. HasKeyKind f.shape) ts pool.fields.shapes.keys m there j g at;
    packed = rule_at (λ t f. MayBePacked f.shape f.kind) ts pool.fields.shapes.packed m there j g at;
    implicit = rule_at (λ t f. MayBeImplicit f.shape f.kind) ts pool.fields.shapes.implicit m there j g at;
    stands = stands_in ts pool m there j g at;
  })

  each_again : (two : Bool) (file : ℕ) (scope name : List ℕ) (s : ℕ) (fs : List FieldView) →
      ((j : ℕ) (g : FieldView) → slice_get fs j ≡ Some g → (r : ℕ) → field_type w file scope (declared_field two ts name r g) ≡ g) →
      map (field_type w file scope) (declared_fields two ts name s fs) ≡ fs
  each_again two file scope name s [] each = refl
  each_again two file scope name s (f ∷ fs) each =
      let next = cond (is_optional_view two f) (s + 1) s in
      ap (λ x. x ∷ map (field_type w file scope) (declared_fields two ts name next fs)) (each 0 f refl s)
      ∙ ap (λ l. f ∷ l) (each_again two file scope name next fs (λ j g there. each (suc j) g there))

  pub fields_again : (m : ℕ × MessageView) → Stands ts m → (scope : List ℕ) → map (field_type w m.1.file scope) (declared_head ts m.0 m.1).fields ≡ m.1.fields
  fields_again m there scope = each_again (Two ts m) m.1.file scope (name_at (message_names ts) m.0) (length m.1.oneofs) m.1.fields (field_again m there scope)
