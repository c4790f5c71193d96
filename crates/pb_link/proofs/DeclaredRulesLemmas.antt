-- The declarations of a pool's types meet the rules that rest on one declaration.
use Rattle.std.proofs.Common.{◌≡◌, ◌≢◌, ℕ, zero, suc, ◌+◌, inl, inr, List, [], ◌∷◌, map, take, length, Bool, true, false, ◌&&◌, ◌||◌, not, cond, refl, sym, ap, ◌∙◌, subst, arith, Some, None}
use Rattle.std.specs.Prelude.{ℤ, pos, slice_get, IsTrue}
use Rattle.std.specs.List.{AllByRecursion, list_any}
use Rattle.std.specs.Option.{option_map_or}
use Rattle.std.specs.Ordering.{int_eq}
use Rattle.std.proofs.lemmas.Bool.{false≢true}
use Rattle.std.proofs.lemmas.Bool.Decides.{nat_tests, Decides-int_eq}
use Rattle.std.proofs.lemmas.Option.{none-some}
use Rattle.pb_schema.specs.declared.types.Kind.{Kind}
use Rattle.pb_schema.specs.declared.types.Kind.TheVariants as kind
use Rattle.pb_schema.specs.declared.types.Shape.{Shape}
use Rattle.pb_schema.specs.declared.types.Shape.TheVariants as shape
use Rattle.pb_schema.specs.Kinds.{is_packable}
use Rattle.pb_schema.specs.Names.{AllDiffer, message_names, name_at}
use Rattle.pb_schema.specs.Types.{FieldView, MessageView, EnumView, Types, is_proto2}
use Rattle.pb_schema.specs.Rules.{IsPool, IsFieldNumber, MayBePacked}
use Rattle.pb_declarations.specs.Decls.{DeclaredField}
use Rattle.pb_link_names.specs.Declarations.{Item, a_field, Declaration, head_of}
use Rattle.pb_link_rules.specs.Rules.{World, is_field_number, is_packable_code}
use Rattle.pb_link_names.specs.MarkRules.{oneof_of_field_is_right}
use Rattle.pb_link_rules.specs.Link.{IsWorldOf}
use Rattle.pb_link.specs.ToDecls.{is_repeated_shape, code_of_kind, code_of_field, packed_of_field, declared_field, declared_fields, is_optional_view, shares_numbers, declared_enum, declared_head, entry_message, decls_of}
use Rattle.pb_link.proofs.OwnRules.{MeetsOwnRules}
use Rattle.pb_link.proofs.FlatLemmas.{Stands}
use Rattle.pb_link.proofs.WholeLemmas.{all_at}
use Rattle.pb_link.proofs.DeclaredSyntaxLemmas.{rule_at}
use Rattle.pb_link.proofs.DeclaredOneofLemmas.{field_oneof, oneof_right}
use Rattle.pb_link.proofs.EachItemLemmas.{OfEnum, OfHead, Of, all_items}

some_same : {A : Type 0} (a b : A) → Some a ≡ Some b → a ≡ b
some_same a b h = cc

-- an item meets them wherever it stands
abbrev Own : Item → Type 0
Own it = (w : World) (place file parent : ℕ) (scope : List ℕ) → MeetsOwnRules w place (record { file = file; parent = parent; scope = scope; item = it })

-- NUMBERS

field_number : (n : ℕ) → IsFieldNumber n → is_field_number (pos n) ≡ true
field_number n (least, most, inl low) = grind (arith, nat_tests)
field_number n (least, most, inr high) = grind (arith, nat_tests)

other_int : (x y : ℤ) → x ≢ y → int_eq x y ≡ false
other_int x y ne = by (int_eq x y) (Decides-int_eq x y).0
  where
    by : (b : Bool) → (b ≡ true → x ≡ y) → b ≡ false
    by true is = absurd (ne (is refl))
    by false is = refl

pos_same : (a b : ℕ) → pos a ≡ pos b → a ≡ b
pos_same a b h = cc

or_false : (a b : Bool) → a ≡ false → b ≡ false → (a || b) ≡ false
or_false a b first second = ap (λ x. x || b) first ∙ second

or_left : (a b : Bool) → (a || b) ≡ false → a ≡ false
or_left true b h = h
or_left false b h = refl

or_right : (a b : Bool) → (a || b) ≡ false → b ≡ false
or_right true b h = absurd (true_false h)
  where
    true_false : ◌≡◌ {A = Bool} true false → ⊥
    true_false e = cc
or_right false b h = h

-- the field after a declared one
declared_at : (two : Bool) (ts : Types) (scope : List ℕ) (s : ℕ) (fs : List FieldView) (i : ℕ) (f : DeclaredField) → slice_get (declared_fields two ts scope s fs) i ≡ Some f → (g : FieldView) × (slice_get fs i ≡ Some g) × ((r : ℕ) × (f ≡ declared_field two ts scope r g))
declared_at two ts scope s [] i f h = absurd (none-some f h)
declared_at two ts scope s (g ∷ fs) zero f h = (g, refl, (s, sym (some_same (declared_field two ts scope s g) f h)))
declared_at two ts scope s (g ∷ fs) (suc i) f h = declared_at two ts scope (cond (is_optional_view two g) (s + 1) s) fs i f h

none_earlier : (two : Bool) (ts : Types) (scope : List ℕ) (s : ℕ) (fs : List FieldView) (i : ℕ) (g : FieldView) → AllDiffer (map (λ f. f.number) fs) → slice_get fs i ≡ Some g → list_any (λ h. int_eq (pos g.number) h.number) (take i (declared_fields two ts scope s fs)) ≡ false
none_earlier two ts scope s [] i g differ h = absurd (none-some g h)
none_earlier two ts scope s (x ∷ fs) zero g differ h = refl
none_earlier two ts scope s (x ∷ fs) (suc i) g differ h =
    or_false (int_eq (pos g.number) (pos x.number)) (list_any (λ d. int_eq (pos g.number) d.number) (take i (declared_fields two ts scope (cond (is_optional_view two x) (s + 1) s) fs)))
    (other_int (pos g.number) (pos x.number) (λ e. differs fs i differ.0 h (sym (pos_same g.number x.number e))))
    (none_earlier two ts scope (cond (is_optional_view two x) (s + 1) s) fs i g differ.1 h)
  where
    differs : (ys : List FieldView) (j : ℕ) → AllByRecursion (λ n. x.number ≢ n) (map (λ f. f.number) ys) → slice_get ys j ≡ Some g → x.number ≢ g.number
    differs [] j all at = absurd (none-some g at)
    differs (y ∷ ys) zero all at = λ e. all.0 (e ∙ ap (λ f. f.number) (sym (some_same y g at)))
    differs (y ∷ ys) (suc j) all at = differs ys j all.1 at

-- of an enum that shares no numbers, no earlier value has a value's number
none_shared : (vs : List (List ℕ × ℤ)) (i : ℕ) (v : List ℕ × ℤ) → shares_numbers vs ≡ false → slice_get vs i ≡ Some v → list_any (λ u. int_eq v.1 u.1) (take i vs) ≡ false
none_shared [] i v h at = absurd (none-some v at)
none_shared (x ∷ vs) zero v h at = refl
none_shared (x ∷ vs) (suc i) v h at =
    or_false (int_eq v.1 x.1) (list_any (λ u. int_eq v.1 u.1) (take i vs))
    (other_int v.1 x.1 (λ e. differs vs i (first (list_any (λ u. int_eq x.1 u.1) vs) h) at (sym e)))
    (none_shared vs i v (rest (list_any (λ u. int_eq x.1 u.1) vs) h) at)
  where
    true_false : ◌≡◌ {A = Bool} true false → ⊥
    true_false e = cc

    first : (b : Bool) → cond b true (shares_numbers vs) ≡ false → b ≡ false
    first true k = absurd (true_false k)
    first false k = refl

    rest : (b : Bool) → cond b true (shares_numbers vs) ≡ false → shares_numbers vs ≡ false
    rest true k = absurd (true_false k)
    rest false k = k

    differs : (ys : List (List ℕ × ℤ)) (j : ℕ) → list_any (λ u. int_eq x.1 u.1) ys ≡ false → slice_get ys j ≡ Some v → x.1 ≢ v.1
    differs [] j none at_j = absurd (none-some v at_j)
    differs (y ∷ ys) zero none at_j = λ e. true_false (sym ((Decides-int_eq x.1 y.1).1 (e ∙ ap (λ u. u.1) (sym (some_same y v at_j)))) ∙ or_left (int_eq x.1 y.1) (list_any (λ u. int_eq x.1 u.1) ys) none)
    differs (y ∷ ys) (suc j) none at_j = differs ys j (or_right (int_eq x.1 y.1) (list_any (λ u. int_eq x.1 u.1) ys) none) at_j

-- PACKED LISTS

packable_code : (k : Kind) → IsTrue (is_packable k) → is_packable_code (code_of_kind k) ≡ true
packable_code kind.Text may = absurd (false≢true may)
packable_code kind.Bytes may = absurd (false≢true may)
packable_code (kind.Message m) may = absurd (false≢true may)
packable_code (kind.Group m) may = absurd (false≢true may)
packable_code kind.Double may = refl
packable_code kind.Float may = refl
packable_code kind.Int64 may = refl
packable_code kind.Uint64 may = refl
packable_code kind.Int32 may = refl
packable_code kind.Fixed64 may = refl
packable_code kind.Fixed32 may = refl
packable_code kind.Bool may = refl
packable_code kind.Uint32 may = refl
packable_code kind.Sfixed32 may = refl
packable_code kind.Sfixed64 may = refl
packable_code kind.Sint32 may = refl
packable_code kind.Sint64 may = refl
packable_code (kind.Enum e) may = refl
packable_code (kind.ClosedEnum e) may = refl

-- a field that says it is packed is a list of a packable kind
abbrev IsPackedRight : Bool → Shape → Kind → Type 0
IsPackedRight two s k =
    (not (option_map_or (λ b. b) (packed_of_field two s k) false) || (is_repeated_shape s && is_packable_code (code_of_field s k))) ≡ true

packed_right : (two : Bool) (s : Shape) (k : Kind) → MayBePacked s k → IsPackedRight two s k
packed_right true (shape.List true) k may = packable_code k may
packed_right true (shape.List false) k may = refl
packed_right false (shape.List packed) k may = by (is_packable k && not packed)
  where
    by : (b : Bool) → (not (option_map_or (λ (x : Bool). x) (cond b (Some false) None) false) || is_packable_code (code_of_kind k)) ≡ true
    by true = refl
    by false = refl
packed_right two shape.Implicit k may = refl
packed_right two shape.Explicit k may = refl
packed_right two (shape.OneofMember o) k may = refl
packed_right two (shape.Map key) k may = refl

-- ENUMS

value_free : (vs : List (List ℕ × ℤ)) (i : ℕ) (v : List ℕ × ℤ) → slice_get vs i ≡ Some v → (shares_numbers vs || not (list_any (λ u. int_eq v.1 u.1) (take i vs))) ≡ true
value_free vs i v at = by (shares_numbers vs) refl
  where
    by : (b : Bool) → shares_numbers vs ≡ b → (b || not (list_any (λ u. int_eq v.1 u.1) (take i vs))) ≡ true
    by true is = refl
    by false is = ap not (none_shared vs i v is at)

-- ALL ITEMS

own_enum : (e : EnumView) → OfEnum Own (declared_enum e)
own_enum e = record {
  is_enum = λ w place file parent scope. record { number = refl; number_is_free = refl; not_reserved = refl; oneof = refl; packed = refl; ranges = refl };
  are_values = λ i v at w place file parent scope. record { number = refl; number_is_free = value_free e.values i v at; not_reserved = refl; oneof = refl; packed = refl; ranges = refl };
}

own_entry : (ts : Types) (name : List ℕ) (key k : Kind) → OfHead Own (head_of (entry_message ts name key k))
own_entry ts name key k = record {
  is_message = λ inner w place file parent scope. record { number = refl; number_is_free = refl; not_reserved = refl; oneof = refl; packed = refl; ranges = refl };
  are_fields = part;
  are_oneofs = λ i n at. absurd (none-some n at);
}
  where
    part : (i : ℕ) (f : DeclaredField) → slice_get (head_of (entry_message ts name key k)).fields i ≡ Some f → Own (a_field (head_of (entry_message ts name key k)) i f)
    part zero f at = subst (λ g. Own (a_field (head_of (entry_message ts name key k)) 0 g)) (some_same _ f at) (λ w place file parent scope. record { number = refl; number_is_free = refl; not_reserved = refl; oneof = refl; packed = refl; ranges = refl })
    part (suc zero) f at = subst (λ g. Own (a_field (head_of (entry_message ts name key k)) 1 g)) (some_same _ f at) (λ w place file parent scope. record { number = refl; number_is_free = refl; not_reserved = refl; oneof = refl; packed = refl; ranges = refl })
    part (suc (suc i)) f at = absurd (none-some f at)

own_head : (ts : Types) → IsPool ts → (m : ℕ × MessageView) → Stands ts m → OfHead Own (declared_head ts m.0 m.1)
own_head ts pool m there = record {
  is_message = λ inner w place file parent scope. record { number = refl; number_is_free = refl; not_reserved = refl; oneof = refl; packed = refl; ranges = refl };
  are_fields = field;
  are_oneofs = λ i name at w place file parent scope. record { number = refl; number_is_free = refl; not_reserved = refl; oneof = oneof_right ts pool m there i name at; packed = refl; ranges = refl };
}
  where
    field : (i : ℕ) (f : DeclaredField) → slice_get (declared_head ts m.0 m.1).fields i ≡ Some f → Own (a_field (declared_head ts m.0 m.1) i f)
    field i f at =
        let two = is_proto2 ts.files m.1.file in
        let from = declared_at two ts (name_at (message_names ts) m.0) (length m.1.oneofs) m.1.fields i f at in
        let g = from.0 in
        let number : IsFieldNumber g.number = all_at (λ x. IsFieldNumber x.number) m.1.fields i g (all_at (λ t. AllByRecursion (λ x. IsFieldNumber x.number) t.fields) ts.messages m.0 m.1 pool.fields.shapes.numbers there) from.1 in
        let differ : AllDiffer (map (λ x. x.number) m.1.fields) = all_at (λ t. AllDiffer (map (λ x. x.number) t.fields)) ts.messages m.0 m.1 pool.fields.numbers_differ there in
        let may = rule_at (λ t f. MayBePacked f.shape f.kind) ts pool.fields.shapes.packed m there i g from.1 in
        let oneof_at : oneof_of_field_is_right (declared_head ts m.0 m.1) (declared_field two ts (name_at (message_names ts) m.0) from.2.0 g) ≡ true = ap (oneof_of_field_is_right (declared_head ts m.0 m.1)) (sym from.2.1) ∙ field_oneof ts pool m there i f at in
        subst (λ h. Own (a_field (declared_head ts m.0 m.1) i h)) (sym from.2.1) (λ w place file parent scope. record {
          number = field_number g.number number;
          number_is_free = ap not (none_earlier two ts (name_at (message_names ts) m.0) (length m.1.oneofs) m.1.fields i g differ from.1);
          not_reserved = refl;
          oneof = oneof_at;
          packed = packed_right two g.shape g.kind may;
          ranges = refl;
        })

pub own_rules : (ts : Types) → IsPool ts → (w : World) → IsWorldOf (decls_of ts) w → (place : ℕ) (d : Declaration) → slice_get w.declared place ≡ Some d → MeetsOwnRules w place d
own_rules ts pool w world place d there =
    let all = all_items ts Own (λ i f v p file parent scope. record { number = refl; number_is_free = refl; not_reserved = refl; oneof = refl; packed = refl; ranges = refl }) (own_head ts pool) (own_entry ts) (each_enum ts.enums) in
    all_at (Of Own) w.declared place d (subst (AllByRecursion (Of Own)) (sym world.declared) all) there w place d.file d.parent d.scope
  where
    each_enum : (es : List EnumView) → AllByRecursion (λ e. OfEnum Own (declared_enum e)) es
    each_enum [] = tt
    each_enum (e ∷ es) = (own_enum e, each_enum es)
