-- The declarations of a pool's types are written as a set that shows no cause.
use Rattle.std.proofs.Common.{◌≡◌, ◌≢◌, ℕ, zero, suc, ◌+◌, List, [], ◌∷◌, ◌++◌, Bool, true, false, ◌&&◌, ◌==◌, map, length, refl, sym, ap, ◌∙◌, subst, arith, Option, Some, None}
use Rattle.std.specs.Prelude.{⊤, ℤ, filter, filter_map, if◌then◌else◌, IsTrue, slice_get}
use Rattle.std.specs.List.{AllByRecursion, enumerate_from, cons_option}
use Rattle.std.proofs.lemmas.Bool.{false≢true}
use Rattle.pb_schema.specs.declared.types.Kind.{Kind}
use Rattle.pb_schema.specs.declared.types.Kind.TheVariants as kind
use Rattle.pb_schema.specs.declared.types.Shape.{Shape}
use Rattle.pb_schema.specs.declared.types.Shape.TheVariants as shape
use Rattle.pb_schema.specs.Kinds.{is_key_kind, is_of_proto2}
use Rattle.pb_schema.specs.Names.{is_word, entry_name, names_of_field, message_names, name_at}
use Rattle.pb_schema.specs.Nesting.{parent_of, itself, deeper}
use Rattle.pb_schema.specs.Types.{FieldView, MessageView, EnumView, FileView, Types, is_proto2, proto2_of}
use Rattle.pb_schema.specs.Rules.{IsPool, AreWords, MessageIsOfWords, EnumIsOfWords, HasKeyKind, MayBeValue, MayStandIn}
use Rattle.pb_declarations.specs.Decls.{DeclaredMessage, messages_of}
use Rattle.pb_descr_message.specs.Causes.{set_causes}
use Rattle.pb_descr_message.specs.Writing.{set_body}
use Rattle.pb_descr_message.proofs.SilentLemmas.{IsNamed, has_type, IsSilentField, IsSilentEnum, IsSilentHead, IsSilentMessage, AreSilentMessages, IsSilentFile, silent_set}
use Rattle.pb_link.specs.ToDecls.{code_of_kind, code_of_field, is_optional_view, declared_fields, synthetic_names, entry_message, entry_of_field, declared_enum, is_parent, is_outermost, messages_in, declared_head, declared_message, outermost_messages, declared_file, decls_of}
use Rattle.pb_link.proofs.ForestLemmas.{all_append, all_each}
use Rattle.pb_link.proofs.FlatLemmas.{Stands, all_numbered, all_filtered, children}
use Rattle.pb_link.proofs.FromLemmas.{Two}
use Rattle.pb_link.proofs.WholeLemmas.{all_at, share, Outermost, outermost}
use Rattle.pb_link.proofs.DeclaredSyntaxLemmas.{rule_at, stands_in}
use Rattle.pb_link.proofs.TypeCaseLemmas.{key_plain}

word_named : (name : List ℕ) → is_word name ≡ true → IsNamed name
word_named [] h = absurd (false≢true h)
word_named (c ∷ cs) h = λ e. cc

words_named : (names : List (List ℕ)) → AreWords names → AllByRecursion IsNamed names
words_named names words = all_each (λ name. IsTrue (is_word name)) IsNamed names word_named words

all_map : {X Y : Type 0} (P : X → Type 0) (Q : Y → Type 0) (g : X → Y) (xs : List X) → ((x : X) → P x → Q (g x)) → AllByRecursion P xs →
    AllByRecursion Q (map g xs)
all_map P Q g [] give all = tt
all_map P Q g (x ∷ xs) give all = (give x all.0, all_map P Q g xs give all.1)

-- those that pass a test
all_passed : {X : Type 0} (P : X → Type 0) (t : X → Bool) (xs : List X) → AllByRecursion P xs → AllByRecursion P (filter t xs)
all_passed P t xs all = all_each (λ x. P x × (t x ≡ true)) P (filter t xs) (λ x h. h.0) (all_filtered P t xs all)

-- KINDS

-- in a file of proto2 each kind has a type number that may stand there
type_in_proto2 : (k : Kind) → has_type true (Some (code_of_kind k)) ≡ true
type_in_proto2 kind.Double = refl
type_in_proto2 kind.Float = refl
type_in_proto2 kind.Int64 = refl
type_in_proto2 kind.Uint64 = refl
type_in_proto2 kind.Int32 = refl
type_in_proto2 kind.Fixed64 = refl
type_in_proto2 kind.Fixed32 = refl
type_in_proto2 kind.Bool = refl
type_in_proto2 kind.Text = refl
type_in_proto2 kind.Bytes = refl
type_in_proto2 kind.Uint32 = refl
type_in_proto2 kind.Sfixed32 = refl
type_in_proto2 kind.Sfixed64 = refl
type_in_proto2 kind.Sint32 = refl
type_in_proto2 kind.Sint64 = refl
type_in_proto2 (kind.Enum e) = refl
type_in_proto2 (kind.Message m) = refl
type_in_proto2 (kind.Group m) = refl
type_in_proto2 (kind.ClosedEnum e) = refl

-- and in any file a kind of proto3
type_of_proto3 : (two : Bool) (k : Kind) → is_of_proto2 k ≡ false → has_type two (Some (code_of_kind k)) ≡ true
type_of_proto3 two (kind.Group m) three = absurd (false≢true (sym three))
type_of_proto3 two (kind.ClosedEnum e) three = refl
type_of_proto3 two (kind.Enum e) three = refl
type_of_proto3 two (kind.Message m) three = refl
type_of_proto3 two kind.Double three = refl
type_of_proto3 two kind.Float three = refl
type_of_proto3 two kind.Int64 three = refl
type_of_proto3 two kind.Uint64 three = refl
type_of_proto3 two kind.Int32 three = refl
type_of_proto3 two kind.Fixed64 three = refl
type_of_proto3 two kind.Fixed32 three = refl
type_of_proto3 two kind.Bool three = refl
type_of_proto3 two kind.Text three = refl
type_of_proto3 two kind.Bytes three = refl
type_of_proto3 two kind.Uint32 three = refl
type_of_proto3 two kind.Sfixed32 three = refl
type_of_proto3 two kind.Sfixed64 three = refl
type_of_proto3 two kind.Sint32 three = refl
type_of_proto3 two kind.Sint64 three = refl

kind_type : (two : Bool) (s : Shape) (k : Kind) → MayStandIn two s k → has_type two (Some (code_of_kind k)) ≡ true
kind_type true s k may = type_in_proto2 k
kind_type false s k may = type_of_proto3 false k may

field_type : (two : Bool) (s : Shape) (k : Kind) → MayStandIn two s k → has_type two (Some (code_of_field s k)) ≡ true
field_type two (shape.Map key) k may = refl
field_type two shape.Implicit k may = kind_type two shape.Implicit k may
field_type two shape.Explicit k may = kind_type two shape.Explicit k may
field_type two (shape.OneofMember o) k may = kind_type two (shape.OneofMember o) k may
field_type two (shape.List packed) k may = kind_type two (shape.List packed) k may

-- FIELDS

first_named : (f : FieldView) → AreWords (names_of_field f) → IsNamed f.name
first_named f words = by f.shape words
  where
    by : (s : Shape) → AreWords (names_of_field (record f { shape = s })) → IsNamed f.name
    by (shape.Map key) h = word_named f.name h.0
    by shape.Implicit h = word_named f.name h.0
    by shape.Explicit h = word_named f.name h.0
    by (shape.OneofMember o) h = word_named f.name h.0
    by (shape.List packed) h = word_named f.name h.0

-- what the rules of a pool say of a field in a file that is of proto2 or not
record IsRight (two : Bool) (f : FieldView) : Type 0 where
  words : AreWords (names_of_field f)
  key : HasKeyKind f.shape
  value : MayBeValue f.shape f.kind
  stands : MayStandIn two f.shape f.kind

fields_silent : (two : Bool) (ts : Types) (scope : List ℕ) (synthetic : ℕ) (fs : List FieldView) → AllByRecursion (IsRight two) fs →
    AllByRecursion (IsSilentField two) (declared_fields two ts scope synthetic fs)
fields_silent two ts scope synthetic [] all = tt
fields_silent two ts scope synthetic (f ∷ fs) all = (
  (first_named f all.0.words, field_type two f.shape f.kind all.0.stands),
  fields_silent two ts scope (if is_optional_view two f then synthetic + 1 else synthetic) fs all.1,
)

made_named : (two : Bool) (fs : List FieldView) → AllByRecursion IsNamed (synthetic_names two fs)
made_named two fs = by (filter (is_optional_view two) fs)
  where
    by : (gs : List FieldView) → AllByRecursion IsNamed (map (λ (g : FieldView). 95 ∷ g.name) gs)
    by [] = tt
    by (g ∷ gs) = (λ e. cc, by gs)

-- ENTRIES

abbrev IsSilentOption : Bool → Option DeclaredMessage → Type 0
IsSilentOption two None = ⊤
IsSilentOption two (Some m) = IsSilentMessage two m

entry_silent : (two : Bool) (ts : Types) (name : List ℕ) (key k : Kind) → IsNamed (entry_name name) → IsTrue (is_key_kind key) → is_of_proto2 k ≡ false →
    IsSilentMessage two (entry_message ts name key k)
entry_silent two ts name key k named is_key three = (
  record { named = named; fields = ((λ e. cc, type_of_proto3 two key (key_plain key is_key)), ((λ e. cc, type_of_proto3 two k three), tt)); oneofs = tt; enums = tt },
  tt,
)

entry_option : (two : Bool) (ts : Types) (f : FieldView) → IsRight two f → IsSilentOption two (entry_of_field ts f)
entry_option two ts f right = by f.shape right.words right.key right.value
  where
    by : (s : Shape) → AreWords (names_of_field (record f { shape = s })) → HasKeyKind s → MayBeValue s f.kind →
        IsSilentOption two (entry_of_field ts (record f { shape = s }))
    by (shape.Map key) words is_key value = entry_silent two ts f.name key f.kind (word_named (entry_name f.name) words.1.0) is_key value
    by shape.Implicit words is_key value = tt
    by shape.Explicit words is_key value = tt
    by (shape.OneofMember o) words is_key value = tt
    by (shape.List packed) words is_key value = tt

entries_silent : (two : Bool) (ts : Types) (fs : List FieldView) → AllByRecursion (IsRight two) fs →
    AllByRecursion (IsSilentMessage two) (filter_map (entry_of_field ts) fs)
entries_silent two ts [] all = tt
entries_silent two ts (f ∷ fs) all = by (entry_of_field ts f) (entry_option two ts f all.0) (entries_silent two ts fs all.1)
  where
    by : (o : Option DeclaredMessage) → IsSilentOption two o → AllByRecursion (IsSilentMessage two) (filter_map (entry_of_field ts) fs) →
        AllByRecursion (IsSilentMessage two) (cons_option o (filter_map (entry_of_field ts) fs))
    by None here rest = rest
    by (Some m) here rest = (here, rest)

-- MESSAGES AND FILES

listed_silent : (two : Bool) (ms : List DeclaredMessage) → AllByRecursion (IsSilentMessage two) ms → AreSilentMessages two (messages_of ms)
listed_silent two [] all = tt
listed_silent two (m ∷ ms) all = (all.0, listed_silent two ms all.1)

module _ (ts : Types) (pool : IsPool ts) where
  enum_silent : (e : EnumView) → EnumIsOfWords e → IsSilentEnum (declared_enum e)
  enum_silent e words = (word_named e.name words.0, values e.values words.1)
    where
      values : (vs : List (List ℕ × ℤ)) → AreWords (map (λ u. u.0) vs) → AllByRecursion (λ v. IsNamed v.0) vs
      values [] all = tt
      values (v ∷ vs) all = (word_named v.0 all.0, values vs all.1)

  enums_silent : (t : EnumView → Bool) → AllByRecursion IsSilentEnum (map declared_enum (filter t ts.enums))
  enums_silent t = all_map EnumIsOfWords IsSilentEnum declared_enum (filter t ts.enums) enum_silent (all_passed EnumIsOfWords t ts.enums pool.names.enum_words)

  words_of : (m : ℕ × MessageView) → Stands ts m → MessageIsOfWords m.1
  words_of m there = all_at MessageIsOfWords ts.messages m.0 m.1 pool.names.message_words there

  rights : (m : ℕ × MessageView) → Stands ts m → AllByRecursion (IsRight (Two ts m)) m.1.fields
  rights m there = all_of m.1.fields (λ j g at. record {
    words = all_at (λ f. AreWords (names_of_field f)) m.1.fields j g (words_of m there).1 at;
    key = rule_at (λ t f. HasKeyKind f.shape) ts pool.fields.shapes.keys m there j g at;
    value = rule_at (λ t f. MayBeValue f.shape f.kind) ts pool.fields.shapes.values m there j g at;
    stands = stands_in ts pool m there j g at;
  })
    where
      all_of : (fs : List FieldView) → ((j : ℕ) (g : FieldView) → slice_get fs j ≡ Some g → IsRight (Two ts m) g) → AllByRecursion (IsRight (Two ts m)) fs
      all_of [] each = tt
      all_of (f ∷ fs) each = (each 0 f refl, all_of fs (λ j g at. each (suc j) g at))

  head_silent : (m : ℕ × MessageView) → Stands ts m → IsSilentHead (Two ts m) (declared_head ts m.0 m.1)
  head_silent m there = let words = words_of m there in record {
    named = word_named m.1.name words.0;
    fields = fields_silent (Two ts m) ts (name_at (message_names ts) m.0) (length m.1.oneofs) m.1.fields (rights m there);
    oneofs = all_append IsNamed m.1.oneofs (synthetic_names (Two ts m) m.1.fields) (words_named m.1.oneofs words.2) (made_named (Two ts m) m.1.fields);
    enums = enums_silent (λ e. is_parent m.0 e.parent);
  }

  -- a message in a file that is of proto2 or not
  abbrev Filed : Bool → ℕ × MessageView → Type 0
  Filed two m = Stands ts m × (Two ts m ≡ two)

  message_silent : (two : Bool) (levels : ℕ) (m : ℕ × MessageView) → Filed two m → IsSilentMessage two (declared_message levels ts m)
  message_silent two zero m filed = (subst (λ b. IsSilentHead b (declared_head ts m.0 m.1)) filed.1 (head_silent m filed.0), tt)
  message_silent two (suc levels) m filed = (
    subst (λ b. IsSilentHead b (declared_head ts m.0 m.1)) filed.1 (head_silent m filed.0),
    listed_silent two (map (declared_message levels ts) (messages_in ts m.0) ++ filter_map (entry_of_field ts) m.1.fields)
        (all_append (IsSilentMessage two) (map (declared_message levels ts) (messages_in ts m.0)) (filter_map (entry_of_field ts) m.1.fields)
        (all_map (λ c. Stands ts c × (parent_of ts.messages c.0 ≡ Some m.0)) (IsSilentMessage two) (declared_message levels ts) (messages_in ts m.0)
        (λ c child. message_silent two levels c (child.0, sym (ap (is_proto2 ts.files) (share ts pool m.0 c.0 m.1 c.1 (deeper child.1 itself) filed.0 child.0)) ∙ filed.1)) (children ts pool m))
        (subst (λ b. AllByRecursion (IsSilentMessage b) (filter_map (entry_of_field ts) m.1.fields)) filed.1 (entries_silent (Two ts m) ts m.1.fields (rights m filed.0)))),
  )

  file_silent : (i : ℕ) (f : FileView) → slice_get ts.files i ≡ Some f → IsSilentFile (declared_file ts (i, f))
  file_silent i f there = record {
    named = all_at (λ (g : FileView). g.name ≢ []) ts.files i f pool.files.named there;
    messages = listed_silent f.proto2 (map (declared_message (length ts.messages) ts) (outermost_messages ts i))
        (all_map (Outermost ts pool i) (IsSilentMessage f.proto2) (declared_message (length ts.messages) ts) (outermost_messages ts i)
        (λ m outer. message_silent f.proto2 (length ts.messages) m (outer.0, ap (is_proto2 ts.files) outer.1 ∙ ap proto2_of there)) (outermost ts pool i));
    enums = enums_silent (λ e. (i == e.file) && is_outermost e.parent);
    services = tt;
  }

  pub declared_silent : set_causes (set_body (decls_of ts)) ≡ []
  declared_silent = silent_set (decls_of ts)
      (all_map (λ (e : ℕ × FileView). slice_get ts.files e.0 ≡ Some e.1) IsSilentFile (declared_file ts) (enumerate_from 0 ts.files) (λ e there. file_silent e.0 e.1 there)
      (all_numbered ts.files 0 ts.files (λ j. let e : j ≡ 0 + j = omega arith in ap (slice_get ts.files) e)))
