-- The full names of the declarations of a pool's types, in another order: those of its messages with those of their fields, oneofs and
-- entries, and those of its enums with their values.
use Rattle.std.proofs.Common.{◌≡◌, ℕ, ◌+◌, ◌<◌, ◌≤◌, List, [], ◌∷◌, ◌++◌, Bool, true, false, not, cond, map, length, refl, sym, ap, ◌∙◌, arith}
use Rattle.std.specs.Prelude.{ℤ, if◌then◌else◌, filter_map}
use Rattle.std.specs.List.{flat_map, enumerate_from, cons_option}
use Rattle.std.proofs.lemmas.List.{append_assoc, append-nil, length-append}
use Rattle.pb_schema.specs.declared.types.Shape.{Shape}
use Rattle.pb_schema.specs.declared.types.Shape.TheVariants as shape
use Rattle.pb_schema.specs.Names.{in_scope, entry_name, message_name, declared_by_enum}
use Rattle.pb_schema.specs.Types.{FieldView, MessageView, EnumView, Types, is_proto2}
use Rattle.pb_schema.specs.Rules.{IsPool}
use Rattle.pb_schema.proofs.NameLemmas.{scope_of-names}
use Rattle.pb_declarations.specs.Decls.{MessageHead, message, DeclaredMessages, messages_of}
use Rattle.pb_link_names.specs.Declarations.{a_field, a_oneof, a_value, Declaration, is_named, is_synthetic, full_name, fields_of, oneofs_of, head_row, messages_declared, enum_declared, declarations}
use Rattle.pb_link_rules.specs.Rules.{key_name, value_name}
use Rattle.pb_link.specs.ToDecls.{numbered, declared_fields, declared_head, declared_enum, is_optional_view, synthetic_names, entry_of_field, decls_of}
use Rattle.pb_link.proofs.FlatLemmas.{Stands, before}
use Rattle.pb_link.proofs.EnumWholeLemmas.{numbered_enums}
use Rattle.pb_link.proofs.DeclaredOneofLemmas.{real_oneof, made_oneof}
use Rattle.pb_link.proofs.ReorderLemmas.{IsReordered, nothing, onward, reordered_same, reordered_is, reordered_append, reordered_turn, reordered_inner}
use Rattle.pb_link.proofs.EachDeclaredLemmas.{Name, Scope, entries_of, called, named, tell}

-- the full name of a declaration that has one
abbrev pub names_at : Declaration → List (List ℕ)
names_at d = if is_named d.item then full_name d ∷ [] else []

abbrev pub names_of : List Declaration → List (List ℕ)
names_of ds = flat_map names_at ds

-- the full name of a field of a scope, of its entry message, and of what the entry message declares
abbrev pub field_names : List ℕ → FieldView → List (List ℕ)
field_names scope f = in_scope scope f.name ∷ []

abbrev pub entry_by_shape : List ℕ → List ℕ → Shape → List (List ℕ)
entry_by_shape scope name (shape.Map key) = in_scope scope (entry_name name) ∷ in_scope (in_scope scope (entry_name name)) key_name ∷ in_scope (in_scope scope (entry_name name)) value_name ∷ []
entry_by_shape scope name shape.Implicit = []
entry_by_shape scope name shape.Explicit = []
entry_by_shape scope name (shape.OneofMember o) = []
entry_by_shape scope name (shape.List packed) = []

abbrev pub entry_names : List ℕ → FieldView → List (List ℕ)
entry_names scope f = entry_by_shape scope f.name f.shape

-- the names of what a message declares, by its full name
abbrev pub message_own : List ℕ → MessageView → List (List ℕ)
message_own name t = name ∷ (flat_map (field_names name) t.fields ++ map (in_scope name) t.oneofs)

abbrev pub message_all : List ℕ → MessageView → List (List ℕ)
message_all name t = message_own name t ++ flat_map (entry_names name) t.fields

abbrev pub of_message : Types → ℕ × MessageView → List (List ℕ)
of_message ts m = message_all (message_name ts.files ts.messages m.1) m.1

abbrev pub of_enum : Types → ℕ × EnumView → List (List ℕ)
of_enum ts e = declared_by_enum ts.files ts.messages e.1

pub flat_append : {X Y : Type 0} (g : X → List Y) (xs ys : List X) → flat_map g (xs ++ ys) ≡ flat_map g xs ++ flat_map g ys
flat_append g [] ys = refl
flat_append g (x ∷ xs) ys = ap (λ l. g x ++ l) (flat_append g xs ys) ∙ sym (append_assoc (g x) (flat_map g xs) (flat_map g ys))

-- PARTS

fields_names : (two : Bool) (ts : Types) (file place : ℕ) (name : List ℕ) (head : MessageHead) (k s : ℕ) (fs : List FieldView) → names_of (map (λ e. record { file = file; parent = place; scope = name; item = a_field head e.0 e.1 }) (enumerate_from k (declared_fields two ts name s fs))) ≡ flat_map (field_names name) fs
fields_names two ts file place name head k s [] = refl
fields_names two ts file place name head k s (f ∷ fs) = ap (λ l. in_scope name f.name ∷ l) (fields_names two ts file place name head (k + 1) (cond (is_optional_view two f) (s + 1) s) fs)

abbrev oneofs_from : ℕ → ℕ → List ℕ → MessageHead → ℕ → List (List ℕ) → List Declaration
oneofs_from file place name head k xs = map (λ e. record { file = file; parent = place; scope = name; item = a_oneof head e.0 e.1 }) (enumerate_from k xs)

-- synthetic ones have no names
no_names : (file place : ℕ) (name : List ℕ) (head : MessageHead) (k : ℕ) (ys : List (List ℕ)) → ((i : ℕ) → k ≤ i → i < k + length ys → is_synthetic head i ≡ true) → names_of (oneofs_from file place name head k ys) ≡ []
no_names file place name head k [] made = refl
no_names file place name head k (y ∷ ys) made =
    ap (λ b. cond (not b) (in_scope name y ∷ []) [] ++ names_of (oneofs_from file place name head (k + 1) ys)) (made k (omega arith) (omega arith))
    ∙ no_names file place name head (k + 1) ys (λ i low high. made i (omega (arith, low)) (omega (arith, high)))

oneof_names : (file place : ℕ) (name : List ℕ) (head : MessageHead) (k : ℕ) (xs ys : List (List ℕ)) → ((i : ℕ) → i < k + length xs → is_synthetic head i ≡ false) → ((i : ℕ) → k + length xs ≤ i → i < k + length xs + length ys → is_synthetic head i ≡ true) → names_of (oneofs_from file place name head k (xs ++ ys)) ≡ map (in_scope name) xs
oneof_names file place name head k [] ys real made = no_names file place name head k ys (λ i low high. made i (omega (arith, low)) (omega (arith, high)))
oneof_names file place name head k (x ∷ xs) ys real made =
    ap (λ b. cond (not b) (in_scope name x ∷ []) [] ++ names_of (oneofs_from file place name head (k + 1) (xs ++ ys))) (real k (omega arith))
    ∙ ap (λ l. in_scope name x ∷ l) (oneof_names file place name head (k + 1) xs ys (λ i less. real i (omega (arith, less))) (λ i low high. made i (omega (arith, low)) (omega (arith, high))))

values_names : (file place : ℕ) (scope : List ℕ) (e : EnumView) (k : ℕ) (vs : List (List ℕ × ℤ)) → names_of (map (λ v. record { file = file; parent = place; scope = scope; item = a_value (declared_enum e) v.0 v.1 }) (enumerate_from k vs)) ≡ map (in_scope scope) (map (λ v. v.0) vs)
values_names file place scope e k [] = refl
values_names file place scope e k (v ∷ vs) = ap (λ l. in_scope scope v.0 ∷ l) (values_names file place scope e (k + 1) vs)

entries_names : (ts : Types) (file place : ℕ) (name : List ℕ) (at : ℕ) (fs : List FieldView) → names_of (messages_declared file place name at (messages_of (filter_map (entry_of_field ts) fs))) ≡ flat_map (entry_names name) fs
entries_names ts file place name at [] = refl
entries_names ts file place name at (f ∷ fs) = by f.shape at (λ p. entries_names ts file place name p fs)
  where
    by : (s : Shape) (at : ℕ) → ((p : ℕ) → names_of (messages_declared file place name p (messages_of (filter_map (entry_of_field ts) fs))) ≡ flat_map (entry_names name) fs) → names_of (messages_declared file place name at (messages_of (cons_option (entry_of_field ts (record f { shape = s })) (filter_map (entry_of_field ts) fs)))) ≡ entry_by_shape name f.name s ++ flat_map (entry_names name) fs
    by (shape.Map key) at rest = ap (λ l. entry_by_shape name f.name (shape.Map key) ++ l) (rest (at + 3))
    by shape.Implicit at rest = rest at
    by shape.Explicit at rest = rest at
    by (shape.OneofMember o) at rest = rest at
    by (shape.List packed) at rest = rest at

-- ALL OF THEM

abbrev Tells : Types → List Declaration → List (ℕ × MessageView) → List (ℕ × EnumView) → Type 0
Tells ts ds ms es = IsReordered (names_of ds) (flat_map (of_message ts) ms ++ flat_map (of_enum ts) es)

join : (ts : Types) (xs ys : List Declaration) (ms ns : List (ℕ × MessageView)) (es fs : List (ℕ × EnumView)) → Tells ts xs ms es → Tells ts ys ns fs → Tells ts (xs ++ ys) (ms ++ ns) (es ++ fs)
join ts xs ys ms ns es fs first second =
    let M = flat_map (of_message ts) ms in
    let N = flat_map (of_message ts) ns in
    let E = flat_map (of_enum ts) es in
    let F = flat_map (of_enum ts) fs in
    onward (reordered_is (names_of (xs ++ ys)) (names_of xs ++ names_of ys) (flat_append names_at xs ys))
    (onward (reordered_append (names_of xs) (M ++ E) (names_of ys) (N ++ F) first second)
    (onward (reordered_inner M E N F)
    (reordered_is ((M ++ N) ++ (E ++ F)) (flat_map (of_message ts) (ms ++ ns) ++ flat_map (of_enum ts) (es ++ fs)) (ap (λ l. l ++ (E ++ F)) (sym (flat_append (of_message ts) ms ns)) ∙ ap (λ l. flat_map (of_message ts) (ms ++ ns) ++ l) (sym (flat_append (of_enum ts) es fs))))))

-- what comes after a message's own names is before those of what is in it
around : {X : Type 0} (own m e entries f : List X) → IsReordered ((own ++ ((m ++ e) ++ entries)) ++ f) (((own ++ entries) ++ m) ++ (e ++ f))
around own m e entries f =
    onward (reordered_append (own ++ ((m ++ e) ++ entries)) (own ++ (entries ++ (m ++ e))) f f (reordered_append own own ((m ++ e) ++ entries) (entries ++ (m ++ e)) (reordered_same own) (reordered_turn (m ++ e) entries)) (reordered_same f))
    (reordered_is ((own ++ (entries ++ (m ++ e))) ++ f) (((own ++ entries) ++ m) ++ (e ++ f))
    (ap (λ l. l ++ f) (sym (append_assoc own entries (m ++ e)) ∙ sym (append_assoc (own ++ entries) m e)) ∙ append_assoc ((own ++ entries) ++ m) e f))

module _ (ts : Types) (pool : IsPool ts) where
  head_names : (m : ℕ × MessageView) → Stands ts m → (parent place : ℕ) (inner : DeclaredMessages) → names_of (head_row m.1.file parent (Scope ts m.1.file m.1.parent) (Name ts m.0) place (message (declared_head ts m.0 m.1) inner)) ≡ message_own (message_name ts.files ts.messages m.1) m.1
  head_names m there parent place inner =
      let name = Name ts m.0 in
      let head = declared_head ts m.0 m.1 in
      ap (λ n. n ∷ names_of (fields_of m.1.file place name head head.fields ++ oneofs_of m.1.file place name head head.oneofs)) (named ts pool m there)
      ∙ ap (λ l. name ∷ l) (flat_append names_at (fields_of m.1.file place name head head.fields) (oneofs_of m.1.file place name head head.oneofs)
      ∙ ap (λ l. l ++ names_of (oneofs_of m.1.file place name head head.oneofs)) (fields_names (is_proto2 ts.files m.1.file) ts m.1.file place name head 0 (length m.1.oneofs) m.1.fields)
      ∙ ap (λ l. flat_map (field_names name) m.1.fields ++ l) (oneof_names m.1.file place name head 0 m.1.oneofs (synthetic_names (is_proto2 ts.files m.1.file) m.1.fields)
      (λ i less. real_oneof ts pool m there i (omega (arith, less)))
      (λ i low high. let size = length-append m.1.oneofs (synthetic_names (is_proto2 ts.files m.1.file) m.1.fields) in made_oneof ts pool m there i (omega (arith, low)) (omega (arith, high, size)))))
      ∙ ap (λ n. message_own n m.1) (called ts pool m there)

  enum_names : (e : ℕ × EnumView) (parent place : ℕ) → names_of (enum_declared e.1.file parent (Scope ts e.1.file e.1.parent) place (declared_enum e.1)) ≡ of_enum ts e
  enum_names e parent place =
      let scope = Scope ts e.1.file e.1.parent in
      ap (λ l. in_scope scope e.1.name ∷ l) (values_names e.1.file place scope e.1 0 e.1.values)
      ∙ ap (λ s. in_scope s e.1.name ∷ map (in_scope s) (map (λ v. v.0) e.1.values)) (sym (scope_of-names ts.files ts.messages e.1.file e.1.parent (λ i p less is. before ts pool i p is)))

  message_names_are : (m : ℕ × MessageView) → Stands ts m → (parent place at : ℕ) (inner : DeclaredMessages) (nested enums : List Declaration) (ms : List (ℕ × MessageView)) (es fs : List (ℕ × EnumView)) → Tells ts nested ms es → Tells ts enums [] fs →
      Tells ts ((head_row m.1.file parent (Scope ts m.1.file m.1.parent) (Name ts m.0) place (message (declared_head ts m.0 m.1) inner) ++ (nested ++ messages_declared m.1.file place (Name ts m.0) at (entries_of ts m))) ++ enums) (m ∷ ms) (es ++ fs)
  message_names_are m there parent place at inner nested enums ms es fs inside last =
      let H = head_row m.1.file parent (Scope ts m.1.file m.1.parent) (Name ts m.0) place (message (declared_head ts m.0 m.1) inner) in
      let K = messages_declared m.1.file place (Name ts m.0) at (entries_of ts m) in
      let name = message_name ts.files ts.messages m.1 in
      let own = message_own name m.1 in
      let entries = flat_map (entry_names name) m.1.fields in
      let M = flat_map (of_message ts) ms in
      let E = flat_map (of_enum ts) es in
      let F = flat_map (of_enum ts) fs in
      onward (reordered_is (names_of ((H ++ (nested ++ K)) ++ enums)) ((own ++ (names_of nested ++ entries)) ++ names_of enums)
      (flat_append names_at (H ++ (nested ++ K)) enums
      ∙ ap (λ l. l ++ names_of enums) (flat_append names_at H (nested ++ K)
      ∙ ap (λ l. l ++ names_of (nested ++ K)) (head_names m there parent place inner)
      ∙ ap (λ l. own ++ l) (flat_append names_at nested K ∙ ap (λ l. names_of nested ++ l) (entries_names ts m.1.file place (Name ts m.0) at m.1.fields ∙ ap (λ n. flat_map (entry_names n) m.1.fields) (called ts pool m there))))))
      (onward (reordered_append (own ++ (names_of nested ++ entries)) (own ++ ((M ++ E) ++ entries)) (names_of enums) F
      (reordered_append own own (names_of nested ++ entries) ((M ++ E) ++ entries) (reordered_same own) (reordered_append (names_of nested) (M ++ E) entries entries inside (reordered_same entries))) last)
      (onward (around own M E entries F)
      (reordered_is (((own ++ entries) ++ M) ++ (E ++ F)) (((own ++ entries) ++ M) ++ flat_map (of_enum ts) (es ++ fs)) (ap (λ l. ((own ++ entries) ++ M) ++ l) (sym (flat_append (of_enum ts) es fs))))))

  pub all_names : IsReordered (names_of (declarations (decls_of ts))) (flat_map (of_message ts) (numbered ts) ++ flat_map (of_enum ts) (numbered_enums ts))
  all_names = tell ts pool (Tells ts) (record {
    none = nothing;
    join = join ts;
    enum = λ e there parent place. reordered_is (names_of (enum_declared e.1.file parent (Scope ts e.1.file e.1.parent) place (declared_enum e.1))) (of_enum ts e ++ []) (enum_names e parent place ∙ sym (append-nil (of_enum ts e)));
    message = message_names_are;
    file = λ i f there place ds ms es rest. rest;
  })
