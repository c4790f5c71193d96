-- The fields of a pool's messages have declarations.
use Rattle.std.proofs.Common.{◌≡◌, ℕ, zero, suc, ◌^◌, ◌<◌, ◌≤◌, List, [], ◌∷◌, map, length, refl, sym, ap, subst, arith, Some, get_or, false}
use Rattle.std.specs.Prelude.{slice_get, IsTrue, IsAscii}
use Rattle.std.specs.List.{AllByRecursion}
use Rattle.std.proofs.lemmas.Option.{none-some}
use Rattle.pb_schema.specs.declared.types.Kind.{Kind}
use Rattle.pb_schema.specs.declared.types.Kind.TheVariants as kind
use Rattle.pb_schema.specs.declared.types.Shape.{Shape}
use Rattle.pb_schema.specs.declared.types.Shape.TheVariants as shape
use Rattle.pb_schema.specs.Kinds.{is_key_kind}
use Rattle.pb_schema.specs.Types.{FieldView, MessageView, Types}
use Rattle.pb_schema.specs.Names.{names_of_field, entry_name, is_word}
use Rattle.pb_schema.specs.Rules.{IsPool, IsFieldNumber, NamesType, NamesOneof, HasKeyKind, AreWords, MessageIsOfWords, FieldNumbersDiffer, EachOneofHasMember}
use Rattle.pb_link.specs.Declarable.{IsDeclarable, AreDeclarable}
use Rattle.pb_link.proofs.AsciiLemmas.{text_ascii}
use Rattle.pb_link.proofs.CountLemmas.{at_most, few_oneofs}

some_same : {A : Type 0} (a b : A) → Some a ≡ Some b → a ≡ b
some_same a b h = cc

pub all_at : {X : Type 0} (P : X → Type 0) (xs : List X) (i : ℕ) (x : X) → AllByRecursion P xs → slice_get xs i ≡ Some x → P x
all_at P [] i x all h = absurd (none-some x h)
all_at P (y ∷ xs) zero x all h = subst P (some_same y x h) all.0
all_at P (y ∷ xs) (suc i) x all h = all_at P xs i x all.1 h

all_map : {X Y : Type 0} (P : X → Type 0) (Q : Y → Type 0) (g : X → Y) (xs : List X) → ((x : X) → P x → Q (g x)) → AllByRecursion P xs → AllByRecursion Q (map g xs)
all_map P Q g [] give all = tt
all_map P Q g (x ∷ xs) give all = (give x all.0, all_map P Q g xs give all.1)

length-map : {X Y : Type 0} (g : X → Y) (xs : List X) → length (map g xs) ≡ length xs
length-map g [] = refl
length-map g (x ∷ xs) = ap suc (length-map g xs)

pub few_fields : (ts : Types) → IsPool ts → (i : ℕ) (t : MessageView) → slice_get ts.messages i ≡ Some t → length t.fields ≤ 2 ^ 29
few_fields ts pool i t there = by (2 ^ 29) refl
  where
    by : (n : ℕ) → n ≡ 2 ^ 29 → length t.fields ≤ n
    by n is = subst (λ k. k ≤ n) (length-map (λ (f : FieldView). f.number) t.fields)
        (at_most n (map (λ (f : FieldView). f.number) t.fields) (all_at FieldNumbersDiffer ts.messages i t pool.fields.numbers_differ there)
        (all_map (λ (f : FieldView). IsFieldNumber f.number) (λ k. k < n) (λ (f : FieldView). f.number) t.fields (λ f h. subst (λ k. f.number < k) (sym is) h.1)
        (all_at (λ (u : MessageView). AllByRecursion (λ (f : FieldView). IsFieldNumber f.number) u.fields) ts.messages i t pool.fields.shapes.numbers there)))

pub few_members : (ts : Types) → IsPool ts → (i : ℕ) (t : MessageView) → slice_get ts.messages i ≡ Some t → length t.oneofs ≤ length t.fields
few_members ts pool i t there = few_oneofs (length t.oneofs) t.fields (all_at EachOneofHasMember ts.messages i t pool.fields.oneofs there)

names_fewer : (n m : ℕ) (s : Shape) → n ≤ m → NamesOneof n s → NamesOneof m s
names_fewer n m (shape.OneofMember o) le h = omega (arith, le, h)
names_fewer n m shape.Explicit le h = tt
names_fewer n m shape.Implicit le h = tt
names_fewer n m (shape.List packed) le h = tt
names_fewer n m (shape.Map key) le h = tt

together : (ts : Types) (oneofs limit : ℕ) (fs : List FieldView) → oneofs ≤ limit → limit ≡ 2 ^ 31 →
    AllByRecursion (λ (f : FieldView). IsFieldNumber f.number) fs → AllByRecursion (λ (f : FieldView). NamesType (length ts.messages) (length ts.enums) f.kind) fs →
    AllByRecursion (λ (f : FieldView). HasKeyKind f.shape) fs → AllByRecursion (λ (f : FieldView). NamesOneof oneofs f.shape) fs → AllByRecursion (λ (f : FieldView). AreWords (names_of_field f)) fs → AreDeclarable ts fs
together ts oneofs limit [] few is numbers kinds keys members words = tt
together ts oneofs limit (f ∷ fs) few is numbers kinds keys members words = (
  record {
    number = let h = numbers.0.1 in omega (arith, h);
    kind = kinds.0;
    key = keys.0;
    member = subst (λ k. NamesOneof k f.shape) is (names_fewer oneofs limit f.shape few members.0);
    words = words.0;
  },
  together ts oneofs limit fs few is numbers.1 kinds.1 keys.1 members.1 words.1,
)

pub declarable : (ts : Types) → IsPool ts → (i : ℕ) (t : MessageView) → slice_get ts.messages i ≡ Some t → AreDeclarable ts t.fields
declarable ts pool i t there =
    together ts (length t.oneofs) (2 ^ 31) t.fields (let a = few_members ts pool i t there in let b = few_fields ts pool i t there in omega (arith, a, b)) refl
    (all_at (λ (u : MessageView). AllByRecursion (λ (f : FieldView). IsFieldNumber f.number) u.fields) ts.messages i t pool.fields.shapes.numbers there)
    (all_at (λ (u : MessageView). AllByRecursion (λ (f : FieldView). NamesType (length ts.messages) (length ts.enums) f.kind) u.fields) ts.messages i t pool.indexes.kinds there)
    (all_at (λ (u : MessageView). AllByRecursion (λ (f : FieldView). HasKeyKind f.shape) u.fields) ts.messages i t pool.fields.shapes.keys there)
    (all_at (λ (u : MessageView). AllByRecursion (λ (f : FieldView). NamesOneof (length u.oneofs) f.shape) u.fields) ts.messages i t pool.indexes.members there)
    (all_at MessageIsOfWords ts.messages i t pool.names.message_words there).1

-- a key is no message and no enum
pub key_names : (messages enums : ℕ) (k : Kind) → IsTrue (is_key_kind k) → NamesType messages enums k
key_names messages enums kind.Double h = tt
key_names messages enums kind.Float h = tt
key_names messages enums kind.Int64 h = tt
key_names messages enums kind.Uint64 h = tt
key_names messages enums kind.Int32 h = tt
key_names messages enums kind.Fixed64 h = tt
key_names messages enums kind.Fixed32 h = tt
key_names messages enums kind.Bool h = tt
key_names messages enums kind.Text h = tt
key_names messages enums kind.Bytes h = tt
key_names messages enums kind.Uint32 h = tt
key_names messages enums kind.Sfixed32 h = tt
key_names messages enums kind.Sfixed64 h = tt
key_names messages enums kind.Sint32 h = tt
key_names messages enums kind.Sint64 h = tt
key_names messages enums (kind.Enum e) h = absurd (no_key h)
  where
    no_key : IsTrue false → ⊥
    no_key x = cc
key_names messages enums (kind.ClosedEnum e) h = absurd (no_key h)
  where
    no_key : IsTrue false → ⊥
    no_key x = cc
key_names messages enums (kind.Group e) h = absurd (no_key h)
  where
    no_key : IsTrue false → ⊥
    no_key x = cc
key_names messages enums (kind.Message m) h = absurd (no_key h)
  where
    no_key : IsTrue false → ⊥
    no_key x = cc

-- the name of an entry message is a text
pub entry_ascii : (f : FieldView) (key : Kind) → f.shape ≡ shape.Map key → AreWords (names_of_field f) → IsAscii (entry_name f.name)
entry_ascii f key is words = text_ascii (entry_name f.name) (by f.shape is words)
  where
    by : (s : Shape) → s ≡ shape.Map key → AreWords (names_of_field (record f { shape = s })) → IsTrue (is_word (entry_name f.name))
    by s same h = (subst (λ x. AreWords (names_of_field (record f { shape = x }))) same h).1.0

pub field_at : (ts : Types) {X : Type 0} (view : X → FieldView) (xs : List X) (i : ℕ) (x : X) → i < length xs → x ≡ get_or xs i x → AreDeclarable ts (map view xs) → IsDeclarable ts (view x)
field_at ts view [] i x less there all = absurd (omega (arith, less))
field_at ts view (y ∷ xs) zero x less there all = subst (λ z. IsDeclarable ts (view z)) (sym there) all.0
field_at ts view (y ∷ xs) (suc i) x less there all = field_at ts view xs i x (omega (arith, less)) there all.1
