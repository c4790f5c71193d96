-- The fixed types are a pool: each rule as a test that computes, and what the test says.
use Rattle.std.proofs.Common.{◌≡◌, ◌≢◌, ℕ, zero, suc, ◌<◌, ◌≤◌, ◌^◌, inl, List, [], ◌∷◌, Bool, true, false, not, ◌&&◌, ◌==◌, IsTrue, map, length, refl, sym, ap, ◌∙◌, subst, arith, Option, Some, None, Contains, IfSome, IsSomeAnd}
use Rattle.std.specs.Prelude.{slice_get, nat_lt, nat_le}
use Rattle.std.specs.List.{AllByRecursion, list_all, list_any}
use Rattle.std.specs.Str.{bytes_eq}
use Rattle.std.proofs.lemmas.Bool.{false≢true}
use Rattle.std.proofs.lemmas.Bool.Decides.{nat_tests}
use Rattle.std.proofs.lemmas.Option.{none-some}
use Rattle.std.proofs.lemmas.Slice.Eq.{bytes_eq-Decides}
use Rattle.std.proofs.lemmas.Map.Views.{list_any-from_Contains}
use Rattle.std.proofs.lemmas.Cmp.{nat_list_eq_equiv}
use Rattle.pb_schema.specs.declared.types.Kind.{Kind}
use Rattle.pb_schema.specs.declared.types.Kind.TheVariants as kind
use Rattle.pb_schema.specs.declared.types.Shape.{Shape}
use Rattle.pb_schema.specs.declared.types.Shape.TheVariants as shape
use Rattle.pb_schema.specs.Types.{FieldView, MessageView, FileView, Types, is_proto2}
use Rattle.pb_schema.specs.Kinds.{is_of_proto2}
use Rattle.pb_schema.specs.Names.{is_word, names_of_field, declared_names, packages_of, AllDiffer}
use Rattle.pb_schema.specs.Nesting.{parent_of, IsWithin, itself, deeper}
use Rattle.pb_schema.specs.Imports.{imports_of, Reaches, directly, further, IsSeen}
use Rattle.pb_schema.specs.Rules.{IsPool, EachField, FileRules, IndexRules, NameRules, FieldRules, IsInFileOfParent, NamesType, NamesOneof, FilesRise, FollowsParent, MessageIsOfWords, AreWords, IsFieldNumber, FieldNumbersDiffer, TypeIsSeen, EachOneofHasMember, HasKeyKind, MayBePacked, MayBeImplicit, MayBeValue, MayStandIn, EnumIsRight, SyntaxRules}
use Rattle.pb_schema.specs.View.{file_view, message_view, enum_view, types_of}
use Rattle.pb_schema.specs.declared.types.FileInfo.{FileInfo}
use Rattle.pb_schema.specs.declared.types.MessageType.{MessageType}
use Rattle.pb_schema.specs.declared.types.EnumType.{EnumType}
use Rattle.pb_descr_message.specs.Pool.{descriptor_file, descriptor_types}

abbrev the_messages : List MessageView
the_messages = descriptor_types.messages

-- WHAT TESTS SAY

and_left : (a b : Bool) → (a && b) ≡ true → a ≡ true
and_left true b h = refl
and_left false b h = absurd (false≢true h)

and_right : (a b : Bool) → (a && b) ≡ true → b ≡ true
and_right true b h = h
and_right false b h = absurd (false≢true h)

all_pass : {X : Type 0} (P : X → Type 0) (t : X → Bool) → ((x : X) → t x ≡ true → P x) → (xs : List X) → list_all t xs ≡ true → AllByRecursion P xs
all_pass P t says [] h = tt
all_pass P t says (x ∷ xs) h = (says x (and_left (t x) (list_all t xs) h), all_pass P t says xs (and_right (t x) (list_all t xs) h))

each_passes : (P : MessageView → FieldView → Type 0) (t : MessageView → FieldView → Bool) → ((m : MessageView) (f : FieldView) → t m f ≡ true → P m f) → (ms : List MessageView) → list_all (λ m. list_all (t m) m.fields) ms ≡ true → EachField P ms
each_passes P t says ms h = all_pass (λ m. AllByRecursion (P m) m.fields) (λ m. list_all (t m) m.fields) (λ m. all_pass (P m) (t m) (says m) m.fields) ms h

abbrev differ : {X : Type 0} → (X → X → Bool) → List X → Bool
differ eq [] = true
differ eq (x ∷ xs) = list_all (λ y. not (eq x y)) xs && differ eq xs

not_same : (b : Bool) → not b ≡ true → b ≡ true → ⊥
not_same true h e = false≢true h
not_same false h e = false≢true e

all_differ : {X : Type 0} (eq : X → X → Bool) → ((x y : X) → x ≡ y → eq x y ≡ true) → (xs : List X) → differ eq xs ≡ true → AllDiffer xs
all_differ eq told [] h = tt
all_differ eq told (x ∷ xs) h = (
  all_pass (λ y. x ≢ y) (λ y. not (eq x y)) (λ y apart same. not_same (eq x y) apart (told x y same)) xs (and_left (list_all (λ y. not (eq x y)) xs) (differ eq xs) h),
  all_differ eq told xs (and_right (list_all (λ y. not (eq x y)) xs) (differ eq xs) h),
)

abbrev rises : List MessageView → Bool
rises [] = true
rises (x ∷ []) = true
rises (x ∷ y ∷ zs) = nat_le x.file y.file && rises (y ∷ zs)

le_of : (a b : ℕ) → nat_le a b ≡ true → a ≤ b
le_of a b e = grind (arith, nat_tests)

lt_of : (a b : ℕ) → nat_lt a b ≡ true → a < b
lt_of a b e = grind (arith, nat_tests)

eq_of : (a b : ℕ) → (a == b) ≡ true → a ≡ b
eq_of a b e = grind (arith, nat_tests)

eq_to : (a b : ℕ) → a ≡ b → (a == b) ≡ true
eq_to a b e = grind (arith, nat_tests)

in_order : (ms : List MessageView) → rises ms ≡ true → FilesRise ms
in_order [] h = tt
in_order (x ∷ []) h = tt
in_order (x ∷ y ∷ zs) h = (le_of x.file y.file (and_left (nat_le x.file y.file) (rises (y ∷ zs)) h), in_order (y ∷ zs) (and_right (nat_le x.file y.file) (rises (y ∷ zs)) h))

-- FILES

no_imports : (i : ℕ) → imports_of descriptor_types.files i ≡ []
no_imports zero = refl
no_imports (suc i) = refl

no_element : {X : Type 0} (x : X) → Contains [] x → ⊥
no_element x (k, within, same) = absurd (omega (arith, within))

reaches_nothing : (i j : ℕ) → Reaches descriptor_types.files i j → ⊥
reaches_nothing i j (directly among) = no_element j (subst (λ xs. Contains xs j) (no_imports i) among)
reaches_nothing i j (further {k} way among) = reaches_nothing i k way

file_rules : FileRules descriptor_types.files
file_rules = record {
  named = ((λ e. false≢true (ap (λ xs. length xs == 0) e)), tt);
  names_differ = (tt, tt);
  packages = (refl, tt);
  few_imports = (lt_of 0 (2 ^ 31) refl, tt);
  imports_name_files = (tt, tt);
  no_cycle = λ i way. reaches_nothing i i way;
}

-- INDEXES

abbrev has_file : ℕ → Option MessageView → Bool
has_file file None = false
has_file file (Some t) = t.file == file

abbrev in_parent_file : List MessageView → ℕ → Option ℕ → Bool
in_parent_file ms file None = true
in_parent_file ms file (Some p) = has_file file (slice_get ms p)

shares_file : (ms : List MessageView) (file : ℕ) (parent : Option ℕ) → in_parent_file ms file parent ≡ true → IsInFileOfParent ms file parent
shares_file ms file None h = tt
shares_file ms file (Some p) h = by_message (slice_get ms p) h
  where
    by_message : (o : Option MessageView) → has_file file o ≡ true → IsSomeAnd o (λ t. t.file ≡ file)
    by_message None h = absurd (false≢true h)
    by_message (Some t) h = eq_of t.file file h

abbrev names_type : ℕ → ℕ → Kind → Bool
names_type messages enums (kind.Enum e) = nat_lt e.0 enums
names_type messages enums (kind.Message m) = nat_lt m.0 messages
names_type messages enums (kind.Group m) = nat_lt m.0 messages
names_type messages enums (kind.ClosedEnum e) = nat_lt e.0 enums
names_type messages enums _ = true

type_named : (messages enums : ℕ) (k : Kind) → names_type messages enums k ≡ true → NamesType messages enums k
type_named messages enums (kind.Enum e) h = lt_of e.0 enums h
type_named messages enums (kind.Message m) h = lt_of m.0 messages h
type_named messages enums (kind.Group m) h = lt_of m.0 messages h
type_named messages enums (kind.ClosedEnum e) h = lt_of e.0 enums h
type_named messages enums k h = tt

-- a shape that is no member, no map, not packed and not implicit
abbrev is_plain : Shape → Bool
is_plain shape.Explicit = true
is_plain (shape.List false) = true
is_plain _ = false

plain_oneof : (n : ℕ) (s : Shape) → is_plain s ≡ true → NamesOneof n s
plain_oneof n (shape.OneofMember o) h = absurd (false≢true h)
plain_oneof n s h = tt

plain_key : (s : Shape) → is_plain s ≡ true → HasKeyKind s
plain_key (shape.Map key) h = absurd (false≢true h)
plain_key s h = tt

plain_packed : (s : Shape) (k : Kind) → is_plain s ≡ true → MayBePacked s k
plain_packed (shape.List true) k h = absurd (false≢true h)
plain_packed s k h = tt

plain_implicit : (s : Shape) (k : Kind) → is_plain s ≡ true → MayBeImplicit s k
plain_implicit shape.Implicit k h = absurd (false≢true h)
plain_implicit s k h = tt

plain_value : (s : Shape) (k : Kind) → is_plain s ≡ true → MayBeValue s k
plain_value (shape.Map key) k h = absurd (false≢true h)
plain_value s k h = tt

index_rules : IndexRules descriptor_types
index_rules = record {
  message_files = all_pass (λ t. t.file < 1) (λ t. nat_lt t.file 1) (λ t. lt_of t.file 1) the_messages refl;
  enum_files = tt;
  message_parents = all_pass (λ t. IsInFileOfParent the_messages t.file t.parent) (λ t. in_parent_file the_messages t.file t.parent) (λ t. shares_file the_messages t.file t.parent) the_messages refl;
  enum_parents = tt;
  kinds = each_passes (λ t f. NamesType 15 0 f.kind) (λ t f. names_type 15 0 f.kind) (λ t f. type_named 15 0 f.kind) the_messages refl;
  members = each_passes (λ t f. NamesOneof (length t.oneofs) f.shape) (λ t f. is_plain f.shape) (λ t f. plain_oneof (length t.oneofs) f.shape) the_messages refl;
}

-- ORDER

some_same : (a b : ℕ) → Some a ≡ Some b → a ≡ b
some_same a b h = cc

follows : (i : ℕ) → FollowsParent the_messages i
follows zero p e = absurd (none-some p e)
follows (suc zero) p e = absurd (none-some p e)
follows (suc (suc zero)) p e = absurd (none-some p e)
follows (suc (suc (suc zero))) p e = (2, refl, subst (λ q. IsWithin the_messages q 2) (some_same 2 p e) itself)
follows (suc (suc (suc (suc zero)))) p e = (3, refl, subst (λ q. IsWithin the_messages q 3) (some_same 2 p e) (deeper {q = 2} refl itself))
follows (suc (suc (suc (suc (suc zero))))) p e = absurd (none-some p e)
follows (suc (suc (suc (suc (suc (suc zero)))))) p e = absurd (none-some p e)
follows (suc (suc (suc (suc (suc (suc (suc zero))))))) p e = absurd (none-some p e)
follows (suc (suc (suc (suc (suc (suc (suc (suc zero)))))))) p e = (7, refl, subst (λ q. IsWithin the_messages q 7) (some_same 7 p e) itself)
follows (suc (suc (suc (suc (suc (suc (suc (suc (suc i))))))))) p e = absurd (none-some p (sym (rest i) ∙ e))
  where
    rest : (n : ℕ) → parent_of the_messages (suc (suc (suc (suc (suc (suc (suc (suc (suc n))))))))) ≡ None
    rest zero = refl
    rest (suc zero) = refl
    rest (suc (suc zero)) = refl
    rest (suc (suc (suc zero))) = refl
    rest (suc (suc (suc (suc zero)))) = refl
    rest (suc (suc (suc (suc (suc zero))))) = refl
    rest (suc (suc (suc (suc (suc (suc n)))))) = refl

-- NAMES

abbrev of_words : MessageView → Bool
of_words t = is_word t.name && list_all (λ f. list_all is_word (names_of_field f)) t.fields && list_all is_word t.oneofs

are_words : (names : List (List ℕ)) → list_all is_word names ≡ true → AreWords names
are_words names h = all_pass (λ n. IsTrue (is_word n)) is_word (λ n e. e) names h

message_words : (t : MessageView) → of_words t ≡ true → MessageIsOfWords t
message_words t h =
    let both : (is_word t.name && list_all (λ f. list_all is_word (names_of_field f)) t.fields) ≡ true = and_left _ (list_all is_word t.oneofs) h in (
      and_left (is_word t.name) _ both,
      all_pass (λ f. AreWords (names_of_field f)) (λ f. list_all is_word (names_of_field f)) (λ f. are_words (names_of_field f)) t.fields (and_right (is_word t.name) _ both),
      are_words t.oneofs (and_right _ (list_all is_word t.oneofs) h),
    )

no_such_name : (names : List (List ℕ)) (p : List ℕ) → list_any (bytes_eq p) names ≡ false → ¬ Contains names p
no_such_name names p none there = false≢true (sym none ∙ list_any-from_Contains nat_list_eq_equiv p names there)

name_rules : NameRules descriptor_types
name_rules = record {
  message_words = all_pass MessageIsOfWords of_words message_words the_messages refl;
  enum_words = tt;
  names_differ = all_differ bytes_eq (λ x y. (bytes_eq-Decides x y).1) (declared_names descriptor_types) refl;
  packages_free = (all_pass (λ p. ¬ Contains (declared_names descriptor_types) p) (λ p. not (list_any (bytes_eq p) (declared_names descriptor_types))) (λ p e. no_such_name (declared_names descriptor_types) p (turned (list_any (bytes_eq p) (declared_names descriptor_types)) e)) (packages_of (slice_package descriptor_types)) refl, tt);
}
  where
    turned : (b : Bool) → not b ≡ true → b ≡ false
    turned true h = absurd (false≢true h)
    turned false h = refl

    slice_package : Types → List ℕ
    slice_package ts = by_files ts.files
      where
        by_files : List FileView → List ℕ
        by_files [] = []
        by_files (f ∷ fs) = f.package_name

-- FIELDS

abbrev is_number : ℕ → Bool
is_number n = nat_le 1 n && nat_lt n (2 ^ 29) && nat_lt n 19000

field_number : (n : ℕ) → is_number n ≡ true → IsFieldNumber n
field_number n h =
    let both : (nat_le 1 n && nat_lt n (2 ^ 29)) ≡ true = and_left _ (nat_lt n 19000) h in
    (le_of 1 n (and_left (nat_le 1 n) (nat_lt n (2 ^ 29)) both), lt_of n (2 ^ 29) (and_right (nat_le 1 n) (nat_lt n (2 ^ 29)) both), inl (lt_of n 19000 (and_right _ (nat_lt n 19000) h)))

abbrev not_elsewhere : ℕ → Option MessageView → Bool
not_elsewhere file None = true
not_elsewhere file (Some t) = file == t.file

abbrev is_seen : ℕ → Kind → Bool
is_seen file (kind.Enum e) = false
is_seen file (kind.Message m) = not_elsewhere file (slice_get the_messages m.0)
is_seen file (kind.Group m) = false
is_seen file (kind.ClosedEnum e) = false
is_seen file _ = true

type_seen : (file : ℕ) (k : Kind) → is_seen file k ≡ true → TypeIsSeen descriptor_types file k
type_seen file (kind.Enum e) h = absurd (false≢true h)
type_seen file (kind.Message m) h = by_message (slice_get the_messages m.0) h
  where
    by_message : (o : Option MessageView) → not_elsewhere file o ≡ true → IfSome o (λ t. IsSeen descriptor_types.files file t.file)
    by_message None h = tt
    by_message (Some t) h = inl (eq_of file t.file h)
type_seen file (kind.Group m) h = absurd (false≢true h)
type_seen file (kind.ClosedEnum e) h = absurd (false≢true h)
type_seen file k h = tt

no_oneofs : (t : MessageView) → (length t.oneofs == 0) ≡ true → EachOneofHasMember t
no_oneofs t h o within = absurd (omega (arith, within, eq_of (length t.oneofs) 0 h))

field_rules : FieldRules descriptor_types
field_rules = record {
  numbers_differ = all_pass FieldNumbersDiffer (λ t. differ (λ a b. a == b) (map (λ f. f.number) t.fields)) (λ t. all_differ (λ a b. a == b) eq_to (map (λ f. f.number) t.fields)) the_messages refl;
  types_seen = each_passes (λ t f. TypeIsSeen descriptor_types t.file f.kind) (λ t f. is_seen t.file f.kind) (λ t f. type_seen t.file f.kind) the_messages refl;
  oneofs = all_pass EachOneofHasMember (λ t. length t.oneofs == 0) no_oneofs the_messages refl;
  shapes = record {
    numbers = each_passes (λ t f. IsFieldNumber f.number) (λ t f. is_number f.number) (λ t f. field_number f.number) the_messages refl;
    keys = each_passes (λ t f. HasKeyKind f.shape) (λ t f. is_plain f.shape) (λ t f. plain_key f.shape) the_messages refl;
    packed = each_passes (λ t f. MayBePacked f.shape f.kind) (λ t f. is_plain f.shape) (λ t f. plain_packed f.shape f.kind) the_messages refl;
    implicit = each_passes (λ t f. MayBeImplicit f.shape f.kind) (λ t f. is_plain f.shape) (λ t f. plain_implicit f.shape f.kind) the_messages refl;
    values = each_passes (λ t f. MayBeValue f.shape f.kind) (λ t f. is_plain f.shape) (λ t f. plain_value f.shape f.kind) the_messages refl;
  };
}

-- SYNTAX

is_three : (i : ℕ) → is_proto2 descriptor_types.files i ≡ false
is_three zero = refl
is_three (suc i) = refl

not_of_proto2 : (b : Bool) → not b ≡ true → b ≡ false
not_of_proto2 true h = absurd (false≢true h)
not_of_proto2 false h = refl

may_stand : (t : MessageView) (f : FieldView) → not (is_of_proto2 f.kind) ≡ true → MayStandIn (is_proto2 descriptor_types.files t.file) f.shape f.kind
may_stand t f h = subst (λ b. MayStandIn b f.shape f.kind) (sym (is_three t.file)) (not_of_proto2 (is_of_proto2 f.kind) h)

abbrev is_no_enum : Kind → Bool
is_no_enum (kind.Enum e) = false
is_no_enum (kind.ClosedEnum e) = false
is_no_enum _ = true

no_enum : (k : Kind) → is_no_enum k ≡ true → EnumIsRight descriptor_types.files [] k
no_enum (kind.Enum e) h = absurd (false≢true h)
no_enum (kind.ClosedEnum e) h = absurd (false≢true h)
no_enum k h = tt

syntax_rules : SyntaxRules descriptor_types
syntax_rules = record {
  fields = each_passes (λ t f. MayStandIn (is_proto2 descriptor_types.files t.file) f.shape f.kind) (λ t f. not (is_of_proto2 f.kind)) may_stand the_messages refl;
  enums = each_passes (λ t f. EnumIsRight descriptor_types.files [] f.kind) (λ t f. is_no_enum f.kind) (λ t f. no_enum f.kind) the_messages refl;
  first_values = tt;
}

pub descriptor_is_pool : IsPool descriptor_types
descriptor_is_pool = record {
  files = file_rules;
  indexes = index_rules;
  messages_in_order = (in_order the_messages refl, follows);
  enums_in_order = tt;
  names = name_rules;
  fields = field_rules;
  syntax = syntax_rules;
}

-- parts that stand for the fixed types are a pool
pub parts_are_pool :
    (files : List FileInfo) (file : FileInfo) (messages : List MessageType) (enums : List EnumType) → files ≡ file ∷ [] → file_view file ≡ descriptor_file → map message_view messages ≡ the_messages → enums ≡ [] →
    IsPool (types_of files messages enums)
parts_are_pool files file messages enums one seen same none =
    subst IsPool (λ i. record { files = (sym (ap (λ fs. map file_view fs) one ∙ ap (λ f. f ∷ []) seen)) i; messages = (sym same) i; enums = (sym (ap (λ es. map enum_view es) none)) i }) descriptor_is_pool
