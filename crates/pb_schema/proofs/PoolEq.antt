-- What `==` says of the parts of two pools: whether their mathematical values are equal.
use Rattle.std.proofs.Common.{◌≡◌, ℕ, List, [], ◌∷◌, map, Option, Some, None, refl, ap, subst, Global}
use Rattle.std.proofs.lemmas.Bool.{false≢true}
use Rattle.std.proofs.lemmas.Bool.Decides.{Decides-eqb, Decides-int_eq}
use Rattle.std.proofs.lemmas.Slice.Eq.{bytes_eq-Decides}
use Rattle.std.specs.Prelude.{ℤ, Bool, true, false, ◌&&◌, ◌==◌, String, string_bytes}
use Rattle.std.specs.Bool.{Decides}
use Rattle.std.specs.Cmp.{booleans_Decides}
use Rattle.std.specs.Cmp.Lexicographic.{pointwise}
use Rattle.std.specs.Option.{option_eq}
use Rattle.std.specs.Ordering.{int_eq}
use Rattle.std.specs.String.{string_eq}
use Rattle.pb_schema.specs.declared.types.Kind.{Kind}
use Rattle.pb_schema.specs.declared.types.Kind.TheVariants as kind
use Rattle.pb_schema.specs.declared.types.Shape.{Shape}
use Rattle.pb_schema.specs.declared.types.Shape.TheVariants as shape
use Rattle.pb_schema.specs.declared.types.MessageId.{MessageId}
use Rattle.pb_schema.specs.declared.types.Field.{Field}
use Rattle.pb_schema.specs.declared.types.MessageType.{MessageType}
use Rattle.pb_schema.specs.declared.types.EnumType.{EnumType}
use Rattle.pb_schema.specs.declared.types.FileInfo.{FileInfo}
use Rattle.pb_schema.specs.Types.{FieldView, MessageView, EnumView, FileView, Types}
use Rattle.pb_schema.specs.View.{field_view, file_view, message_view, enum_view, parent_view}
use Rattle.pb_schema.specs.contracts.types.KindPartialEq.TheImpl as kind_eq
use Rattle.pb_schema.specs.contracts.types.ShapePartialEq.TheImpl as shape_eq
use Rattle.pb_schema.specs.contracts.types.FieldPartialEq.TheImpl as field_eq
use Rattle.pb_schema.specs.contracts.types.MessageTypePartialEq.TheImpl as message_eq
use Rattle.pb_schema.specs.contracts.types.EnumTypePartialEq.TheImpl as enum_eq
use Rattle.pb_schema.specs.contracts.types.FileInfoPartialEq.TheImpl as file_eq

both : (x y : Bool) → (x && y) ≡ true → (x ≡ true) × (y ≡ true)
both true y e = (cc, e)
both false y e = absurd (cc)

-- TESTS TOGETHER

and_join : (a b : Bool) → a ≡ true → b ≡ true → (a && b) ≡ true
and_join true b p q = q
and_join false b p q = p

and_decides : (a b : Bool) (P Q : Type 0) → Decides a P → Decides b Q → Decides (a && b) (P × Q)
and_decides a b P Q p q = (
  λ e. let each = both a b e in (p.0 each.0, q.0 each.1),
  λ h. and_join a b (p.1 h.0) (q.1 h.1),
)

decides_as : (a : Bool) (P Q : Type 0) → (P → Q) → (Q → P) → Decides a P → Decides a Q
decides_as a P Q to from p = (λ e. to (p.0 e), λ q. p.1 (from q))

-- two lists of views are equal where each pair is
pub views_decide : {A V : Type 0} (E : A → A → Bool) (view : A → V) → ((a b : A) → Decides (E a b) (view a ≡ view b)) → (xs ys : List A) → Decides (pointwise E xs ys) (map view xs ≡ map view ys)
views_decide E view each [] [] = (λ e. refl, λ e. refl)
views_decide E view each [] (y ∷ ys) = (λ e. absurd (false≢true e), λ e. absurd (cc))
views_decide E view each (x ∷ xs) [] = (λ e. absurd (false≢true e), λ e. absurd (cc))
views_decide E view each (x ∷ xs) (y ∷ ys) = step (each x y) (views_decide E view each xs ys)
  where
    step : Decides (E x y) (view x ≡ view y) → Decides (pointwise E xs ys) (map view xs ≡ map view ys) → Decides (E x y && pointwise E xs ys) (map view (x ∷ xs) ≡ map view (y ∷ ys))
    step first rest = (
      λ e. let each = both (E x y) (pointwise E xs ys) e in λ i. first.0 each.0 i ∷ rest.0 each.1 i,
      λ e.
          let head : view x ≡ view y = cc in
          let tail : map view xs ≡ map view ys = cc in
          and_join (E x y) (pointwise E xs ys) (first.1 head) (rest.1 tail),
    )

-- PARTS

text_decides : (s t : String Global) → Decides (string_eq s t) (string_bytes s ≡ string_bytes t)
text_decides s t = bytes_eq-Decides (string_bytes s) (string_bytes t)

abbrev same_kind : Kind → Kind → Bool
same_kind = (kind_eq.ghosts).eq

kind_is : (a b : Kind) → same_kind a b ≡ true → a ≡ b
kind_is kind.Double kind.Double e = refl
kind_is kind.Float kind.Float e = refl
kind_is kind.Int64 kind.Int64 e = refl
kind_is kind.Uint64 kind.Uint64 e = refl
kind_is kind.Int32 kind.Int32 e = refl
kind_is kind.Fixed64 kind.Fixed64 e = refl
kind_is kind.Fixed32 kind.Fixed32 e = refl
kind_is kind.Bool kind.Bool e = refl
kind_is kind.Text kind.Text e = refl
kind_is kind.Bytes kind.Bytes e = refl
kind_is kind.Uint32 kind.Uint32 e = refl
kind_is kind.Sfixed32 kind.Sfixed32 e = refl
kind_is kind.Sfixed64 kind.Sfixed64 e = refl
kind_is kind.Sint32 kind.Sint32 e = refl
kind_is kind.Sint64 kind.Sint64 e = refl
kind_is (kind.Enum m) (kind.Enum n) e = let same : m.0 ≡ n.0 = (Decides-eqb m.0 n.0).0 e in λ i. kind.Enum (record { 0 = same i })
kind_is (kind.Message m) (kind.Message n) e = let same : m.0 ≡ n.0 = (Decides-eqb m.0 n.0).0 e in λ i. kind.Message (record { 0 = same i })
kind_is (kind.Group m) (kind.Group n) e = let same : m.0 ≡ n.0 = (Decides-eqb m.0 n.0).0 e in λ i. kind.Group (record { 0 = same i })
kind_is (kind.ClosedEnum m) (kind.ClosedEnum n) e = let same : m.0 ≡ n.0 = (Decides-eqb m.0 n.0).0 e in λ i. kind.ClosedEnum (record { 0 = same i })
kind_is a b e = absurd (false≢true e)

kind_itself : (a : Kind) → same_kind a a ≡ true
kind_itself (kind.Enum m) = (Decides-eqb m.0 m.0).1 refl
kind_itself (kind.Message m) = (Decides-eqb m.0 m.0).1 refl
kind_itself (kind.Group m) = (Decides-eqb m.0 m.0).1 refl
kind_itself (kind.ClosedEnum m) = (Decides-eqb m.0 m.0).1 refl
kind_itself a = refl

kinds_decide : (a b : Kind) → Decides (same_kind a b) (a ≡ b)
kinds_decide a b = (kind_is a b, λ e. subst (λ (k : Kind). same_kind a k ≡ true) e (kind_itself a))

abbrev same_shape : Shape → Shape → Bool
same_shape = (shape_eq.ghosts).eq

shape_is : (a b : Shape) → same_shape a b ≡ true → a ≡ b
shape_is shape.Implicit shape.Implicit e = refl
shape_is shape.Explicit shape.Explicit e = refl
shape_is (shape.OneofMember m) (shape.OneofMember n) e = ap shape.OneofMember ((Decides-eqb m n).0 e)
shape_is (shape.List true) (shape.List true) e = refl
shape_is (shape.List false) (shape.List false) e = refl
shape_is (shape.Map k) (shape.Map l) e = ap shape.Map (kind_is k l e)
shape_is a b e = absurd (false≢true e)

shape_itself : (a : Shape) → same_shape a a ≡ true
shape_itself shape.Implicit = refl
shape_itself shape.Explicit = refl
shape_itself (shape.OneofMember m) = (Decides-eqb m m).1 refl
shape_itself (shape.List true) = refl
shape_itself (shape.List false) = refl
shape_itself (shape.Map k) = kind_itself k

shapes_decide : (a b : Shape) → Decides (same_shape a b) (a ≡ b)
shapes_decide a b = (shape_is a b, λ e. subst (λ (s : Shape). same_shape a s ≡ true) e (shape_itself a))

fields_decide : (a b : Field) → Decides ((field_eq.ghosts).eq a b) (field_view a ≡ field_view b)
fields_decide a b =
    decides_as _ _ _ (λ h i. record { name = h.0 i; number = h.1.0 i; kind = h.1.1.0 i; shape = h.1.1.1 i })
    (λ e. (ap (λ (f : FieldView). f.name) e, (ap (λ (f : FieldView). f.number) e, (ap (λ (f : FieldView). f.kind) e, ap (λ (f : FieldView). f.shape) e))))
    (and_decides _ _ _ _ (text_decides a.name b.name) (and_decides _ _ _ _ (Decides-eqb a.number b.number) (and_decides _ _ _ _ (kinds_decide a.kind b.kind) (shapes_decide a.shape b.shape))))

parents_decide : (p q : Option MessageId) → Decides (option_eq (λ (x y : MessageId). x.0 == y.0) p q) (parent_view p ≡ parent_view q)
parents_decide None None = (λ e. refl, λ e. refl)
parents_decide None (Some y) = (λ e. absurd (false≢true e), λ e. absurd (cc))
parents_decide (Some x) None = (λ e. absurd (false≢true e), λ e. absurd (cc))
parents_decide (Some x) (Some y) = (λ e. ap (λ (n : ℕ). Some n) ((Decides-eqb x.0 y.0).0 e), λ e. let same : x.0 ≡ y.0 = cc in (Decides-eqb x.0 y.0).1 same)

values_decide : (x y : String Global × ℤ) → Decides (string_eq x.0 y.0 && int_eq x.1 y.1) (◌≡◌ {A = List ℕ × ℤ} (string_bytes x.0, x.1) (string_bytes y.0, y.1))
values_decide x y =
    decides_as _ _ _ (λ h i. (h.0 i, h.1 i)) (λ e. (ap (λ (v : List ℕ × ℤ). v.0) e, ap (λ (v : List ℕ × ℤ). v.1) e))
    (and_decides _ _ _ _ (text_decides x.0 y.0) (Decides-int_eq x.1 y.1))

-- THE LISTS OF A POOL

pub files_decide : (a b : FileInfo) → Decides ((file_eq.ghosts).eq a b) (file_view a ≡ file_view b)
files_decide a b =
    decides_as _ _ _ (λ h i. record { name = h.0 i; package_name = h.1.0 i; imports = h.1.1.0 i; proto2 = h.1.1.1 i })
    (λ e. (ap (λ (f : FileView). f.name) e, (ap (λ (f : FileView). f.package_name) e, (ap (λ (f : FileView). f.imports) e, ap (λ (f : FileView). f.proto2) e))))
    (and_decides _ _ _ _ (text_decides a.name b.name) (and_decides _ _ _ _ (text_decides a.«package» b.«package») (and_decides _ _ _ _ (bytes_eq-Decides a.imports.items b.imports.items) (booleans_Decides a.proto2 b.proto2))))

pub messages_decide : (a b : MessageType) → Decides ((message_eq.ghosts).eq a b) (message_view a ≡ message_view b)
messages_decide a b =
    decides_as _ _ _ (λ h i. record { name = h.0 i; file = h.1.0 i; parent = h.1.1.0 i; fields = h.1.1.1.0 i; oneofs = h.1.1.1.1 i })
    (λ e. (ap (λ (m : MessageView). m.name) e, (ap (λ (m : MessageView). m.file) e, (ap (λ (m : MessageView). m.parent) e, (ap (λ (m : MessageView). m.fields) e, ap (λ (m : MessageView). m.oneofs) e)))))
    (and_decides _ _ _ _ (text_decides a.name b.name) (and_decides _ _ _ _ (Decides-eqb a.file b.file) (and_decides _ _ _ _ (parents_decide a.parent b.parent)
    (and_decides _ _ _ _ (views_decide (field_eq.ghosts).eq field_view fields_decide a.fields.items b.fields.items) (views_decide string_eq string_bytes text_decides a.oneofs.items b.oneofs.items)))))

pub enums_decide : (a b : EnumType) → Decides ((enum_eq.ghosts).eq a b) (enum_view a ≡ enum_view b)
enums_decide a b =
    decides_as _ _ _ (λ h i. record { name = h.0 i; file = h.1.0 i; parent = h.1.1.0 i; values = h.1.1.1 i })
    (λ e. (ap (λ (m : EnumView). m.name) e, (ap (λ (m : EnumView). m.file) e, (ap (λ (m : EnumView). m.parent) e, ap (λ (m : EnumView). m.values) e))))
    (and_decides _ _ _ _ (text_decides a.name b.name) (and_decides _ _ _ _ (Decides-eqb a.file b.file) (and_decides _ _ _ _ (parents_decide a.parent b.parent)
    (views_decide (λ (x y : String Global × ℤ). string_eq x.0 y.0 && int_eq x.1 y.1) (λ (v : String Global × ℤ). (string_bytes v.0, v.1)) values_decide a.values.items b.values.items))))

-- pools whose lists are equal
pub pool_is : (p q : Types) → p.files ≡ q.files → p.messages ≡ q.messages → p.enums ≡ q.enums → p ≡ q
pool_is p q a b c = λ i. record { files = a i; messages = b i; enums = c i }
