-- What the types of fields mean in a world of a pool's declarations, and the rules of linking that speak of that.
use Rattle.std.proofs.Common.{◌≡◌, ℕ, List, ◌∷◌, Bool, true, false, not, ◌&&◌, ◌||◌, length, refl, sym, ap, ◌∙◌, subst, Option, Some, None, IfSome}
use Rattle.std.specs.Prelude.{slice_get, IsTrue}
use Rattle.std.specs.Option.{option_map_or}
use Rattle.std.proofs.lemmas.Bool.{false≢true}
use Rattle.pb_schema.specs.declared.types.Kind.{Kind}
use Rattle.pb_schema.specs.declared.types.Kind.TheVariants as kind
use Rattle.pb_schema.specs.Kinds.{is_key_kind, is_of_proto2}
use Rattle.pb_schema.specs.Imports.{IsSeen}
use Rattle.pb_schema.specs.Names.{message_names, enum_names, name_at}
use Rattle.pb_schema.specs.Types.{MessageView, EnumView, Types, is_proto2}
use Rattle.pb_schema.specs.Rules.{IsPool, NamesType, TypeIsSeen, EnumIsRight}
use Rattle.pb_declarations.specs.declared.decl.TypeCode.{TypeCode}
use Rattle.pb_declarations.specs.declared.decl.TypeCode.TheVariants as code
use Rattle.pb_declarations.specs.Decls.{DeclaredField, MessageHead}
use Rattle.pb_link_rules.specs.declared.cause.LinkCause.TheVariants as cause
use Rattle.pb_link_names.specs.Declarations.{Item, a_field, Declaration}
use Rattle.pb_link_names.specs.Lookup.{found, not_found, not_visible, not_a_type, looked_up}
use Rattle.pb_link_rules.specs.Rules.{World, is_two, item_of, passes, is_same_fault, is_message, is_message_type, is_enum, is_entry, is_open, is_key_code, is_type_by}
use Rattle.pb_link_rules.specs.Link.{IsWorldOf, holds}
use Rattle.pb_link.specs.ToDecls.{code_of_kind, name_of_kind, decls_of}
use Rattle.pb_link.proofs.WholeLemmas.{get_there}
use Rattle.pb_link.proofs.DeclaredSightLemmas.{sees_right}
use Rattle.pb_link.proofs.DeclaredSyntaxLemmas.{two_again}
use Rattle.pb_link.proofs.DeclaredLookupLemmas.{message_placed, enum_placed}

-- the rules that speak of what type names mean
pub record MeetsTypeRules (w : World) (place : ℕ) (d : Declaration) : Type 0 where
  pub is_found : holds w place d cause.NotFound ≡ true
  pub visible : holds w place d cause.NotVisible ≡ true
  pub a_type : holds w place d cause.NotAType ≡ true
  pub kind : holds w place d cause.KindMismatch ≡ true

-- a type is what a type number says, in a file that is of proto2 or not
pub data IsOfCode (two : Bool) (c : TypeCode) (it : Item) : Type 0 where
  as_message : c ≡ code.Message → is_message it ≡ true → IsOfCode two c it
  as_enum : c ≡ code.Enum → is_enum it ≡ true → IsOfCode two c it
  as_group : c ≡ code.Group → two ≡ true → is_message_type it ≡ true → IsOfCode two c it

-- a type name means the type at a place, which is what a type number says
pub record NamesAType (w : World) (file : ℕ) (scope name : List ℕ) (c : TypeCode) : Type 0 where
  pub place : ℕ
  pub type : Declaration
  pub looked : looked_up w.declared (w.sight.sees file) scope name ≡ found place
  pub there : slice_get w.declared place ≡ Some type
  pub right : IsOfCode (is_two w.files file) c type.item

-- a type name and a type number that go together
pub data TypeCase (w : World) (file : ℕ) (scope : List ℕ) (name : Option (List ℕ)) (c : TypeCode) : Type 0 where
  scalar : name ≡ None → ((d : Declaration) → is_type_by w d None (Some c) ≡ true) → TypeCase w file scope name c
  type_named : (n : List ℕ) → name ≡ Some n → NamesAType w file scope n c → TypeCase w file scope name c

abbrev pub field_at : ℕ → ℕ → List ℕ → MessageHead → ℕ → DeclaredField → Declaration
field_at file parent scope head i f = record { file = file; parent = parent; scope = scope; item = a_field head i f }

named_rules : (w : World) (place file parent : ℕ) (scope : List ℕ) (head : MessageHead) (i : ℕ) (f : DeclaredField) (n : List ℕ) (c : TypeCode) →
    NamesAType w file scope n c → MeetsTypeRules w place (field_at file parent scope head i (record f { type_name = Some n; type_code = Some c }))
named_rules w place file parent scope head i f n c t = record {
  is_found = ap (λ r. not (is_same_fault not_found r || false)) t.looked;
  visible = ap (λ r. not (is_same_fault not_visible r || false)) t.looked;
  a_type = ap (λ r. not (is_same_fault not_a_type r || false)) t.looked;
  kind = by t.right;
}
  where
    d : Declaration
    d = field_at file parent scope head i (record f { type_name = Some n; type_code = Some c })

    -- what the name means passes a test that the type passes
    passes_there : (test : Item → Bool) → test t.type.item ≡ true → (passes w test (looked_up w.declared (w.sight.sees file) scope n) && true) ≡ true
    passes_there test h = ap (λ r. passes w test r && true) t.looked ∙ ap (λ o. option_map_or test (item_of o) true && true) t.there ∙ ap (λ b. b && true) h

    by : IsOfCode (is_two w.files file) c t.type.item → is_type_by w d (Some n) (Some c) ≡ true
    by (as_message is h) = subst (λ x. is_type_by w d (Some n) (Some x) ≡ true) (sym is) (passes_there is_message h)
    by (as_enum is h) = subst (λ x. is_type_by w d (Some n) (Some x) ≡ true) (sym is) (passes_there is_enum h)
    by (as_group is two h) =
        subst (λ x. is_type_by w d (Some n) (Some x) ≡ true) (sym is)
        (ap (λ b. b && (passes w is_message_type (looked_up w.declared (w.sight.sees file) scope n) && true)) two ∙ passes_there is_message_type h)

pub field_rules : (w : World) (place file parent : ℕ) (scope : List ℕ) (head : MessageHead) (i : ℕ) (f : DeclaredField) (c : TypeCode) → f.type_code ≡ Some c →
    TypeCase w file scope f.type_name c → MeetsTypeRules w place (field_at file parent scope head i f)
field_rules w place file parent scope head i f c coded (scalar none right) =
    subst (λ x. MeetsTypeRules w place (field_at file parent scope head i (record f { type_code = x }))) (sym coded)
    (subst (λ o. MeetsTypeRules w place (field_at file parent scope head i (record f { type_name = o; type_code = Some c }))) (sym none)
    (record { is_found = refl; visible = refl; a_type = refl; kind = right (field_at file parent scope head i (record f { type_name = None; type_code = Some c })) }))
field_rules w place file parent scope head i f c coded (type_named n is t) =
    subst (λ x. MeetsTypeRules w place (field_at file parent scope head i (record f { type_code = x }))) (sym coded)
    (subst (λ o. MeetsTypeRules w place (field_at file parent scope head i (record f { type_name = o; type_code = Some c }))) (sym is)
    (named_rules w place file parent scope head i f n c t))

-- KINDS

-- the type that a kind's name means is so
abbrev pub IfNamed : Types → World → ℕ → List ℕ → Kind → (Declaration → Type 0) → Type 0
IfNamed ts w file scope k P = (n : List ℕ) → name_of_kind ts k ≡ Some n → (p : ℕ) → looked_up w.declared (w.sight.sees file) scope n ≡ found p → (t : Declaration) → slice_get w.declared p ≡ Some t → P t

-- what a kind's name means, which is no entry, and a closed enum only of a kind of proto2
pub record KindCase (ts : Types) (w : World) (file : ℕ) (scope : List ℕ) (k : Kind) : Type 0 where
  pub case : TypeCase w file scope (name_of_kind ts k) (code_of_kind k)
  pub no_entry : IfNamed ts w file scope k (λ t. is_entry t.item ≡ false)
  pub open_enum : is_of_proto2 k ≡ false → IfNamed ts w file scope k (λ t. is_open w.files t ≡ true)

some_same : {A : Type 0} (a b : A) → Some a ≡ Some b → a ≡ b
some_same a b h = cc

none_some : {A P : Type 0} {a : A} → ◌≡◌ {A = Option A} None (Some a) → P
none_some e = cc

found_same : (p q : ℕ) → found p ≡ found q → p ≡ q
found_same p q e = cc

-- the type at a found place is one
same_type : (w : World) (file : ℕ) (scope n m : List ℕ) (p q : ℕ) (t u : Declaration) → Some n ≡ Some m →
    looked_up w.declared (w.sight.sees file) scope n ≡ found p → looked_up w.declared (w.sight.sees file) scope m ≡ found q → slice_get w.declared p ≡ Some t →
    slice_get w.declared q ≡ Some u → t ≡ u
same_type w file scope n m p q t u names first second at_t at_u =
    let places : p ≡ q = found_same p q (sym first ∙ ap (looked_up w.declared (w.sight.sees file) scope) (some_same n m names) ∙ second) in
    some_same t u (sym at_t ∙ ap (slice_get w.declared) places ∙ at_u)

module _ (ts : Types) (pool : IsPool ts) (w : World) (world : IsWorldOf (decls_of ts) w) (file : ℕ) (scope : List ℕ) where
  seen_true : (i j : ℕ) → IsSeen ts.files i j → w.sight.sees i j ≡ true
  seen_true i j h = (sees_right ts pool w world i j).1 h

  plain : (k : Kind) → name_of_kind ts k ≡ None → ((d : Declaration) → is_type_by w d None (Some (code_of_kind k)) ≡ true) → KindCase ts w file scope k
  plain k none right = record {
    case = scalar none right;
    no_entry = λ n is p looked t there. none_some (sym none ∙ is);
    open_enum = λ three n is p looked t there. none_some (sym none ∙ is);
  }

  -- what holds of the type at the place that a kind's name means
  placed : (k : Kind) (name : List ℕ) (place : ℕ) (d : Declaration) (P : Declaration → Type 0) → name_of_kind ts k ≡ Some name →
      looked_up w.declared (w.sight.sees file) scope name ≡ found place → slice_get w.declared place ≡ Some d → P d → IfNamed ts w file scope k P
  placed k name place d P called looked there holds n is q at u there_u = subst P (same_type w file scope name n place q d u (sym called ∙ is) looked at there there_u) holds

  -- the message of an index, by the type number that a kind has for it
  message_case : (k : Kind) (i : ℕ) (t : MessageView) → slice_get ts.messages i ≡ Some t → IsSeen ts.files file t.file →
      name_of_kind ts k ≡ Some (46 ∷ name_at (message_names ts) i) →
      ((it : Item) → is_message it ≡ true → is_message_type it ≡ true → IsOfCode (is_two w.files file) (code_of_kind k) it) → KindCase ts w file scope k
  message_case k i t there seen called right =
      let name = 46 ∷ name_at (message_names ts) i in
      let p = message_placed ts pool w world i t there in
      let looked = p.looked file scope (seen_true file t.file seen) in
      record {
        case = type_named name called (record { place = p.place; type = p.declared; looked = looked; there = p.there; right = right p.declared.item (ap is_message p.item) (ap is_message_type p.item) });
        no_entry = placed k name p.place p.declared (λ d. is_entry d.item ≡ false) called looked p.there (ap is_entry p.item);
        open_enum = λ three. placed k name p.place p.declared (λ d. is_open w.files d ≡ true) called looked p.there (ap (λ it. not (is_enum it && is_two w.files p.declared.file)) p.item);
      }

  -- the enum of an index
  enum_case : (k : Kind) (i : ℕ) (e : EnumView) → slice_get ts.enums i ≡ Some e → IsSeen ts.files file e.file →
      name_of_kind ts k ≡ Some (46 ∷ name_at (enum_names ts) i) → code_of_kind k ≡ code.Enum → (is_of_proto2 k ≡ false → is_proto2 ts.files e.file ≡ false) →
      KindCase ts w file scope k
  enum_case k i e there seen called coded three =
      let name = 46 ∷ name_at (enum_names ts) i in
      let p = enum_placed ts pool w world i e there in
      let looked = p.looked file scope (seen_true file e.file seen) in
      record {
        case = type_named name called (record { place = p.place; type = p.declared; looked = looked; there = p.there; right = as_enum coded (ap is_enum p.item) });
        no_entry = placed k name p.place p.declared (λ d. is_entry d.item ≡ false) called looked p.there (ap is_entry p.item);
        open_enum = λ h. placed k name p.place p.declared (λ d. is_open w.files d ≡ true) called looked p.there
            (ap (λ it. not (is_enum it && is_two w.files p.declared.file)) p.item ∙ ap not (two_again ts pool w world p.declared.file ∙ ap (is_proto2 ts.files) p.file ∙ three h));
      }

  -- a group stands in a file of proto2
  group_two : (b : Bool) → (b ≡ false → ◌≡◌ {A = Bool} true false) → b ≡ true
  group_two true never = refl
  group_two false never = absurd (false≢true (sym (never refl)))

  seen_there : {X : Type 0} (o : Option X) (x : X) (P : X → Type 0) → o ≡ Some x → IfSome o P → P x
  seen_there o x P is h = subst (λ p. IfSome p P) is h

  -- a kind that names a type of the pool which the file sees, with the enum's syntax, and in a file of proto3 none of proto2
  pub kind_case : (k : Kind) → NamesType (length ts.messages) (length ts.enums) k → TypeIsSeen ts file k → EnumIsRight ts.files ts.enums k →
      (is_proto2 ts.files file ≡ false → is_of_proto2 k ≡ false) → KindCase ts w file scope k
  kind_case kind.Double names seen right three = plain kind.Double refl (λ d. refl)
  kind_case kind.Float names seen right three = plain kind.Float refl (λ d. refl)
  kind_case kind.Int64 names seen right three = plain kind.Int64 refl (λ d. refl)
  kind_case kind.Uint64 names seen right three = plain kind.Uint64 refl (λ d. refl)
  kind_case kind.Int32 names seen right three = plain kind.Int32 refl (λ d. refl)
  kind_case kind.Fixed64 names seen right three = plain kind.Fixed64 refl (λ d. refl)
  kind_case kind.Fixed32 names seen right three = plain kind.Fixed32 refl (λ d. refl)
  kind_case kind.Bool names seen right three = plain kind.Bool refl (λ d. refl)
  kind_case kind.Text names seen right three = plain kind.Text refl (λ d. refl)
  kind_case kind.Bytes names seen right three = plain kind.Bytes refl (λ d. refl)
  kind_case kind.Uint32 names seen right three = plain kind.Uint32 refl (λ d. refl)
  kind_case kind.Sfixed32 names seen right three = plain kind.Sfixed32 refl (λ d. refl)
  kind_case kind.Sfixed64 names seen right three = plain kind.Sfixed64 refl (λ d. refl)
  kind_case kind.Sint32 names seen right three = plain kind.Sint32 refl (λ d. refl)
  kind_case kind.Sint64 names seen right three = plain kind.Sint64 refl (λ d. refl)
  kind_case (kind.Message m) names seen right three =
      let t = get_there ts.messages m.0 names in
      message_case (kind.Message m) m.0 t.0 t.1 (seen_there (slice_get ts.messages m.0) t.0 (λ u. IsSeen ts.files file u.file) t.1 seen) refl (λ it message type. as_message refl message)
  kind_case (kind.Group m) names seen right three =
      let t = get_there ts.messages m.0 names in
      let two : is_two w.files file ≡ true = two_again ts pool w world file ∙ group_two (is_proto2 ts.files file) three in
      message_case (kind.Group m) m.0 t.0 t.1 (seen_there (slice_get ts.messages m.0) t.0 (λ u. IsSeen ts.files file u.file) t.1 seen) refl (λ it message type. as_group refl two type)
  kind_case (kind.Enum e) names seen right three =
      let t = get_there ts.enums e.0 names in
      enum_case (kind.Enum e) e.0 t.0 t.1 (seen_there (slice_get ts.enums e.0) t.0 (λ u. IsSeen ts.files file u.file) t.1 seen) refl refl
      (λ h. seen_there (slice_get ts.enums e.0) t.0 (λ u. is_proto2 ts.files u.file ≡ false) t.1 right)
  kind_case (kind.ClosedEnum e) names seen right three =
      let t = get_there ts.enums e.0 names in
      enum_case (kind.ClosedEnum e) e.0 t.0 t.1 (seen_there (slice_get ts.enums e.0) t.0 (λ u. IsSeen ts.files file u.file) t.1 seen) refl refl (λ h. absurd (false≢true (sym h)))

  -- a key is a scalar
  pub case_of_key : (k : Kind) → IsTrue (is_key_kind k) → KindCase ts w file scope k
  case_of_key kind.Int64 h = plain kind.Int64 refl (λ d. refl)
  case_of_key kind.Uint64 h = plain kind.Uint64 refl (λ d. refl)
  case_of_key kind.Int32 h = plain kind.Int32 refl (λ d. refl)
  case_of_key kind.Fixed64 h = plain kind.Fixed64 refl (λ d. refl)
  case_of_key kind.Fixed32 h = plain kind.Fixed32 refl (λ d. refl)
  case_of_key kind.Bool h = plain kind.Bool refl (λ d. refl)
  case_of_key kind.Text h = plain kind.Text refl (λ d. refl)
  case_of_key kind.Uint32 h = plain kind.Uint32 refl (λ d. refl)
  case_of_key kind.Sfixed32 h = plain kind.Sfixed32 refl (λ d. refl)
  case_of_key kind.Sfixed64 h = plain kind.Sfixed64 refl (λ d. refl)
  case_of_key kind.Sint32 h = plain kind.Sint32 refl (λ d. refl)
  case_of_key kind.Sint64 h = plain kind.Sint64 refl (λ d. refl)
  case_of_key kind.Double h = absurd (false≢true h)
  case_of_key kind.Float h = absurd (false≢true h)
  case_of_key kind.Bytes h = absurd (false≢true h)
  case_of_key (kind.Enum e) h = absurd (false≢true h)
  case_of_key (kind.ClosedEnum e) h = absurd (false≢true h)
  case_of_key (kind.Message m) h = absurd (false≢true h)
  case_of_key (kind.Group m) h = absurd (false≢true h)

-- its type number is that of a key
pub key_code : (k : Kind) → IsTrue (is_key_kind k) → is_key_code (code_of_kind k) ≡ true
key_code (kind.Enum e) h = absurd (false≢true h)
key_code (kind.ClosedEnum e) h = absurd (false≢true h)
key_code (kind.Message m) h = absurd (false≢true h)
key_code (kind.Group m) h = absurd (false≢true h)
key_code kind.Double h = absurd (false≢true h)
key_code kind.Float h = absurd (false≢true h)
key_code kind.Bytes h = absurd (false≢true h)
key_code kind.Int64 h = refl
key_code kind.Uint64 h = refl
key_code kind.Int32 h = refl
key_code kind.Fixed64 h = refl
key_code kind.Fixed32 h = refl
key_code kind.Bool h = refl
key_code kind.Text h = refl
key_code kind.Uint32 h = refl
key_code kind.Sfixed32 h = refl
key_code kind.Sfixed64 h = refl
key_code kind.Sint32 h = refl
key_code kind.Sint64 h = refl

-- and it is of no kind of proto2
pub key_plain : (k : Kind) → IsTrue (is_key_kind k) → is_of_proto2 k ≡ false
key_plain (kind.ClosedEnum e) h = absurd (false≢true h)
key_plain (kind.Group m) h = absurd (false≢true h)
key_plain (kind.Enum e) h = refl
key_plain (kind.Message m) h = refl
key_plain kind.Double h = refl
key_plain kind.Float h = refl
key_plain kind.Int64 h = refl
key_plain kind.Uint64 h = refl
key_plain kind.Int32 h = refl
key_plain kind.Fixed64 h = refl
key_plain kind.Fixed32 h = refl
key_plain kind.Bool h = refl
key_plain kind.Text h = refl
key_plain kind.Bytes h = refl
key_plain kind.Uint32 h = refl
key_plain kind.Sfixed32 h = refl
key_plain kind.Sfixed64 h = refl
key_plain kind.Sint32 h = refl
key_plain kind.Sint64 h = refl
