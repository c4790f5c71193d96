-- The shape of a declared field of a pool is the field's own, and so are the oneofs of a declared message.
use Rattle.std.proofs.Common.{◌≡◌, ℕ, zero, suc, ◌+◌, ◌<◌, List, [], ◌∷◌, ◌++◌, Bool, true, false, not, cond, ◌&&◌, map, length, refl, sym, ap, ◌∙◌, arith, Option, Some, None, length-append}
use Rattle.std.specs.Prelude.{filter, slice_get, if◌then◌else◌}
use Rattle.std.specs.List.{enumerate_from}
use Rattle.std.specs.Option.{option_map_or}
use Rattle.std.proofs.lemmas.Bool.{false≢true}
use Rattle.pb_schema.specs.declared.types.Kind.{Kind}
use Rattle.pb_schema.specs.declared.types.Kind.TheVariants as kind
use Rattle.pb_schema.specs.declared.types.Shape.{Shape}
use Rattle.pb_schema.specs.declared.types.Shape.TheVariants as shape
use Rattle.pb_schema.specs.Kinds.{is_packable}
use Rattle.pb_schema.specs.Types.{MessageView, Types, is_proto2}
use Rattle.pb_schema.specs.Rules.{IsPool, MayBePacked, MayBeImplicit, MayStandIn}
use Rattle.pb_declarations.specs.Decls.{DeclaredField}
use Rattle.pb_link_names.specs.Declarations.{is_synthetic}
use Rattle.pb_link.specs.PoolOf.{list_shape, singular_shape, real_oneofs}
use Rattle.pb_link.specs.ToDecls.{packed_of_list, declared_field, declared_head, synthetic_names}
use Rattle.pb_link.proofs.FlatLemmas.{Stands}
use Rattle.pb_link.proofs.DeclaredOneofLemmas.{real_oneof, made_oneof}

-- SHAPES

-- no map field
abbrev pub IsNoMap : Shape → Type 0
IsNoMap (shape.Map key) = ⊥
IsNoMap shape.Implicit = Unit {0}
IsNoMap shape.Explicit = Unit {0}
IsNoMap (shape.OneofMember o) = Unit {0}
IsNoMap (shape.List packed) = Unit {0}

abbrev pub shape_made : Bool → Kind → DeclaredField → Shape
shape_made two k f = cond f.is_repeated (list_shape two k f) (singular_shape two k f)

-- what a list says of being packed, by whether its kind is packable
abbrev said : Bool → Bool → Bool → Option Bool
said true packed b = if packed then Some true else None
said false packed b = if b && not packed then Some false else None

-- in a file of proto2 a packed list says so, and in one of proto3 an unpacked one of a packable kind
packed_list : (two packed b : Bool) → (packed ≡ true → b ≡ true) → (b && option_map_or (λ (x : Bool). x) (said two packed b) (not two)) ≡ packed
packed_list true true b may = ap (λ x. x && true) (may refl)
packed_list true false true may = refl
packed_list true false false may = refl
packed_list false true true may = refl
packed_list false true false may = may refl
packed_list false false true may = refl
packed_list false false false may = refl

module _ (two : Bool) (ts : Types) (scope : List ℕ) (r : ℕ) where
  abbrev Made : List ℕ → ℕ → Kind → Shape → Shape
  Made name number k s = shape_made two k (declared_field two ts scope r (record { name = name; number = number; kind = k; shape = s }))

  list_again : (name : List ℕ) (number : ℕ) (packed : Bool) (k : Kind) → MayBePacked (shape.List packed) k →
      Made name number k (shape.List packed) ≡ shape.List packed
  list_again name number packed k may = ap (λ o. shape.List (is_packable k && option_map_or (λ (x : Bool). x) o (not two))) (same two) ∙ ap shape.List (packed_list two packed (is_packable k) (by packed may))
    where
      same : (t : Bool) → packed_of_list t packed k ≡ said t packed (is_packable k)
      same true = refl
      same false = refl

      by : (b : Bool) → MayBePacked (shape.List b) k → b ≡ true → is_packable k ≡ true
      by true h e = h
      by false h e = absurd (false≢true e)

  -- without a oneof and a mark a field is Explicit in a file of proto2, and by its kind in one of proto3
  explicit_again : (name : List ℕ) (number : ℕ) (k : Kind) → MayStandIn two shape.Explicit k → Made name number k shape.Explicit ≡ shape.Explicit
  explicit_again name number k may = by two k may
    where
      by : (t : Bool) (k : Kind) → MayStandIn t shape.Explicit k →
          shape_made t k (declared_field t ts scope r (record { name = name; number = number; kind = k; shape = shape.Explicit })) ≡ shape.Explicit
      by true k may = refl
      by false (kind.Message m) may = refl
      by false (kind.Group m) may = refl
      by false (kind.Enum e) may = refl
      by false (kind.ClosedEnum e) may = refl
      by false kind.Double may = refl
      by false kind.Float may = refl
      by false kind.Int64 may = refl
      by false kind.Uint64 may = refl
      by false kind.Int32 may = refl
      by false kind.Fixed64 may = refl
      by false kind.Fixed32 may = refl
      by false kind.Bool may = refl
      by false kind.Text may = refl
      by false kind.Bytes may = refl
      by false kind.Uint32 may = refl
      by false kind.Sfixed32 may = refl
      by false kind.Sfixed64 may = refl
      by false kind.Sint32 may = refl
      by false kind.Sint64 may = refl

  implicit_again : (name : List ℕ) (number : ℕ) (k : Kind) → MayBeImplicit shape.Implicit k → MayStandIn two shape.Implicit k →
      Made name number k shape.Implicit ≡ shape.Implicit
  implicit_again name number k scalar may = by two k scalar may
    where
      by : (t : Bool) (k : Kind) → MayBeImplicit shape.Implicit k → MayStandIn t shape.Implicit k →
          shape_made t k (declared_field t ts scope r (record { name = name; number = number; kind = k; shape = shape.Implicit })) ≡ shape.Implicit
      by true k scalar may = absurd may
      by false (kind.Message m) scalar may = absurd scalar
      by false (kind.Group m) scalar may = absurd scalar
      by false (kind.Enum e) scalar may = refl
      by false (kind.ClosedEnum e) scalar may = refl
      by false kind.Double scalar may = refl
      by false kind.Float scalar may = refl
      by false kind.Int64 scalar may = refl
      by false kind.Uint64 scalar may = refl
      by false kind.Int32 scalar may = refl
      by false kind.Fixed64 scalar may = refl
      by false kind.Fixed32 scalar may = refl
      by false kind.Bool scalar may = refl
      by false kind.Text scalar may = refl
      by false kind.Bytes scalar may = refl
      by false kind.Uint32 scalar may = refl
      by false kind.Sfixed32 scalar may = refl
      by false kind.Sfixed64 scalar may = refl
      by false kind.Sint32 scalar may = refl
      by false kind.Sint64 scalar may = refl

  pub shape_again : (name : List ℕ) (number : ℕ) (k : Kind) (s : Shape) → IsNoMap s → MayBePacked s k → MayBeImplicit s k → MayStandIn two s k →
      Made name number k s ≡ s
  shape_again name number k (shape.Map key) plain packed implicit may = absurd plain
  shape_again name number k (shape.List b) plain packed implicit may = list_again name number b k packed
  shape_again name number k shape.Explicit plain packed implicit may = explicit_again name number k may
  shape_again name number k shape.Implicit plain packed implicit may = implicit_again name number k implicit may
  shape_again name number k (shape.OneofMember o) plain packed implicit may = refl

-- ONEOFS

none_kept : (t : ℕ × List ℕ → Bool) (k : ℕ) (ys : List (List ℕ)) → ((i : ℕ) (y : List ℕ) → slice_get ys i ≡ Some y → t (k + i, y) ≡ false) →
    map (λ (e : ℕ × List ℕ). e.1) (filter t (enumerate_from k ys)) ≡ []
none_kept t k [] none = refl
none_kept t k (y ∷ ys) none =
    let e : k + 0 ≡ k = omega arith in
    ap (λ b. map (λ (x : ℕ × List ℕ). x.1) (cond b ((k, y) ∷ filter t (enumerate_from (k + 1) ys)) (filter t (enumerate_from (k + 1) ys)))) (ap (λ n. t (n, y)) (sym e) ∙ none 0 y refl)
    ∙ none_kept t (k + 1) ys (λ i z there. let f : k + 1 + i ≡ k + suc i = omega arith in ap (λ n. t (n, z)) f ∙ none (suc i) z there)

-- the first ones pass a test of their index, and those after them do not
first_kept : (t : ℕ × List ℕ → Bool) (k : ℕ) (xs ys : List (List ℕ)) → ((i : ℕ) (x : List ℕ) → slice_get xs i ≡ Some x → t (k + i, x) ≡ true) →
    ((i : ℕ) (y : List ℕ) → slice_get ys i ≡ Some y → t (k + length xs + i, y) ≡ false) →
    map (λ (e : ℕ × List ℕ). e.1) (filter t (enumerate_from k (xs ++ ys))) ≡ xs
first_kept t k [] ys some none = none_kept t k ys (λ i y there. let e : k + i ≡ k + 0 + i = omega arith in ap (λ n. t (n, y)) e ∙ none i y there)
first_kept t k (x ∷ xs) ys some none =
    let e : k + 0 ≡ k = omega arith in
    ap (λ b. map (λ (z : ℕ × List ℕ). z.1) (cond b ((k, x) ∷ filter t (enumerate_from (k + 1) (xs ++ ys))) (filter t (enumerate_from (k + 1) (xs ++ ys))))) (ap (λ n. t (n, x)) (sym e) ∙ some 0 x refl)
    ∙ ap (λ l. x ∷ l) (first_kept t (k + 1) xs ys
    (λ i z there. let f : k + 1 + i ≡ k + suc i = omega arith in ap (λ n. t (n, z)) f ∙ some (suc i) z there)
    (λ i z there. let f : k + 1 + length xs + i ≡ k + suc (length xs) + i = omega arith in ap (λ n. t (n, z)) f ∙ none i z there))

get_less : {X : Type 0} (xs : List X) (i : ℕ) (x : X) → slice_get xs i ≡ Some x → i < length xs
get_less [] i x h = absurd (none_some h)
  where
    none_some : {A : Type 0} {a : A} → None ≡ Some a → ⊥
    none_some e = cc
get_less (y ∷ xs) zero x h = omega arith
get_less (y ∷ xs) (suc i) x h = let rest = get_less xs i x h in omega (arith, rest)

pub oneofs_again : (ts : Types) → IsPool ts → (m : ℕ × MessageView) → Stands ts m → real_oneofs (declared_head ts m.0 m.1) ≡ m.1.oneofs
oneofs_again ts pool m there =
    let head = declared_head ts m.0 m.1 in
    let names = synthetic_names (is_proto2 ts.files m.1.file) m.1.fields in
    first_kept (λ e. not (is_synthetic head e.0)) 0 m.1.oneofs names
    (λ i x at. let less = get_less m.1.oneofs i x at in let e : 0 + i ≡ i = omega arith in ap (λ n. not (is_synthetic head n)) e ∙ ap not (real_oneof ts pool m there i less))
    (λ i y at.
    let less = get_less names i y at in
    let size = length-append m.1.oneofs names in
    ap not (made_oneof ts pool m there (0 + length m.1.oneofs + i) (omega arith) (omega (arith, less, size))))
