-- The full names of a pool's declarations differ, those in entry messages too.
use Rattle.std.proofs.Common.{◌≡◌, ℕ, ◌+◌, List, [], ◌∷◌, ◌++◌, map, refl, sym, ap, ◌∙◌}
use Rattle.std.specs.List.{flat_map, enumerate_from}
use Rattle.std.proofs.lemmas.List.{append_assoc, map-append}
use Rattle.pb_schema.specs.declared.types.Shape.{Shape}
use Rattle.pb_schema.specs.declared.types.Shape.TheVariants as shape
use Rattle.pb_schema.specs.Names.{in_scope, entry_name, names_of_field, message_name, declared_by_message, declared_by_enum, declared_names}
use Rattle.pb_schema.specs.Types.{FieldView, MessageView, EnumView, Types}
use Rattle.pb_schema.specs.Rules.{IsPool}
use Rattle.pb_link_names.specs.Declarations.{declarations}
use Rattle.pb_link_rules.specs.Rules.{key_name, value_name}
use Rattle.pb_link.specs.ToDecls.{numbered, decls_of}
use Rattle.pb_link.proofs.EnumWholeLemmas.{numbered_enums}
use Rattle.pb_link.proofs.ReorderLemmas.{IsReordered, onward, reordered_same, reordered_is, reordered_append, reordered_turn, reordered_parts}
use Rattle.pb_link.proofs.DeclaredNamesLemmas.{names_of, flat_append, field_names, entry_names, message_own, of_message, of_enum, all_names}

-- the full name of a field's entry message, if it is a map field
abbrev pub entry_alone : List ℕ → List ℕ → Shape → List (List ℕ)
entry_alone scope name (shape.Map key) = in_scope scope (entry_name name) ∷ []
entry_alone scope name shape.Implicit = []
entry_alone scope name shape.Explicit = []
entry_alone scope name (shape.OneofMember o) = []
entry_alone scope name (shape.List packed) = []

abbrev pub entry_full : List ℕ → FieldView → List (List ℕ)
entry_full scope f = entry_alone scope f.name f.shape

-- the names of what an entry message of a full name declares
abbrev pub parts_in : List ℕ → List (List ℕ)
parts_in entry = in_scope entry key_name ∷ in_scope entry value_name ∷ []

abbrev pub entries_in : Types → MessageView → List (List ℕ)
entries_in ts t = flat_map (entry_full (message_name ts.files ts.messages t)) t.fields

abbrev pub own_in : Types → MessageView → List (List ℕ)
own_in ts t = message_own (message_name ts.files ts.messages t) t

abbrev pub enum_in : Types → EnumView → List (List ℕ)
enum_in ts e = declared_by_enum ts.files ts.messages e

-- the full names of all entry messages
abbrev pub all_entries : Types → List (List ℕ)
all_entries ts = flat_map (entries_in ts) ts.messages

-- and all others, of messages, fields, oneofs, enums and values
abbrev pub all_others : Types → List (List ℕ)
all_others ts = flat_map (own_in ts) ts.messages ++ flat_map (enum_in ts) ts.enums

-- LISTS OF LISTS

flat_flat : {X Y Z : Type 0} (g : X → List Y) (h : Y → List Z) (xs : List X) → flat_map h (flat_map g xs) ≡ flat_map (λ x. flat_map h (g x)) xs
flat_flat g h [] = refl
flat_flat g h (x ∷ xs) = flat_append h (g x) (flat_map g xs) ∙ ap (λ l. flat_map h (g x) ++ l) (flat_flat g h xs)

flat_same : {X Y : Type 0} (g h : X → List Y) → ((x : X) → g x ≡ h x) → (xs : List X) → flat_map g xs ≡ flat_map h xs
flat_same g h same [] = refl
flat_same g h same (x ∷ xs) = ap (λ l. l ++ flat_map g xs) (same x) ∙ ap (λ l. h x ++ l) (flat_same g h same xs)

map_flat : {X Y Z : Type 0} (f : Y → Z) (g : X → List Y) (xs : List X) → map f (flat_map g xs) ≡ flat_map (λ x. map f (g x)) xs
map_flat f g [] = refl
map_flat f g (x ∷ xs) = map-append f (g x) (flat_map g xs) ∙ ap (λ l. map f (g x) ++ l) (map_flat f g xs)

flat_numbered : {X Y : Type 0} (g : X → List Y) (k : ℕ) (xs : List X) → flat_map (λ (m : ℕ × X). g m.1) (enumerate_from k xs) ≡ flat_map g xs
flat_numbered g k [] = refl
flat_numbered g k (x ∷ xs) = ap (λ l. g x ++ l) (flat_numbered g (k + 1) xs)

-- the last of three before the second
last_second : {X : Type 0} (a b c : List X) → IsReordered ((a ++ b) ++ c) ((a ++ c) ++ b)
last_second a b c =
    onward (reordered_is ((a ++ b) ++ c) (a ++ (b ++ c)) (append_assoc a b c))
    (onward (reordered_append a a (b ++ c) (c ++ b) (reordered_same a) (reordered_turn b c)) (reordered_is (a ++ (c ++ b)) ((a ++ c) ++ b) (sym (append_assoc a c b))))

-- ONE MESSAGE

-- a field's names: those that a pool knows, and those in its entry message
field_split : (scope : List ℕ) (f : FieldView) → entry_names scope f ≡ entry_full scope f ++ flat_map parts_in (entry_full scope f)
field_split scope f = by f.shape
  where
    by : (s : Shape) → entry_names scope (record f { shape = s }) ≡ entry_alone scope f.name s ++ flat_map parts_in (entry_alone scope f.name s)
    by (shape.Map key) = refl
    by shape.Implicit = refl
    by shape.Explicit = refl
    by (shape.OneofMember o) = refl
    by (shape.List packed) = refl

field_known : (scope : List ℕ) (f : FieldView) → map (in_scope scope) (names_of_field f) ≡ field_names scope f ++ entry_full scope f
field_known scope f = by f.shape
  where
    by : (s : Shape) → map (in_scope scope) (names_of_field (record f { shape = s })) ≡ in_scope scope f.name ∷ entry_alone scope f.name s
    by (shape.Map key) = refl
    by shape.Implicit = refl
    by shape.Explicit = refl
    by (shape.OneofMember o) = refl
    by (shape.List packed) = refl

-- what a pool knows of a message's names
known_split : (ts : Types) (t : MessageView) → IsReordered (declared_by_message ts.files ts.messages t) (own_in ts t ++ entries_in ts t)
known_split ts t =
    let name = message_name ts.files ts.messages t in
    let F = flat_map (field_names name) t.fields in
    let E = flat_map (entry_full name) t.fields in
    let O = map (in_scope name) t.oneofs in
    let all = flat_map (λ f. map (in_scope name) (names_of_field f)) t.fields in
    onward (reordered_is (declared_by_message ts.files ts.messages t) (name ∷ (all ++ O)) (ap (λ l. name ∷ l) (map-append (in_scope name) (flat_map names_of_field t.fields) t.oneofs ∙ ap (λ l. l ++ O) (map_flat (in_scope name) names_of_field t.fields))))
    (onward (reordered_append (name ∷ all) (name ∷ (F ++ E)) O O (reordered_append (name ∷ []) (name ∷ []) all (F ++ E) (reordered_same (name ∷ [])) (reordered_parts (λ f. map (in_scope name) (names_of_field f)) (field_names name) (entry_full name) t.fields (λ f. reordered_is (map (in_scope name) (names_of_field f)) (field_names name f ++ entry_full name f) (field_known name f)))) (reordered_same O))
    (last_second (name ∷ F) E O))

-- all names that a message declares
message_split : (ts : Types) (m : ℕ × MessageView) → IsReordered (of_message ts m) ((own_in ts m.1 ++ entries_in ts m.1) ++ flat_map parts_in (entries_in ts m.1))
message_split ts m =
    let name = message_name ts.files ts.messages m.1 in
    let E = flat_map (entry_full name) m.1.fields in
    onward (reordered_append (own_in ts m.1) (own_in ts m.1) (flat_map (entry_names name) m.1.fields) (E ++ flat_map parts_in E) (reordered_same (own_in ts m.1))
    (onward (reordered_parts (entry_names name) (entry_full name) (λ f. flat_map parts_in (entry_full name f)) m.1.fields (λ f. reordered_is (entry_names name f) (entry_full name f ++ flat_map parts_in (entry_full name f)) (field_split name f)))
    (reordered_is (E ++ flat_map (λ f. flat_map parts_in (entry_full name f)) m.1.fields) (E ++ flat_map parts_in E) (ap (λ l. E ++ l) (sym (flat_flat (entry_full name) parts_in m.1.fields))))))
    (reordered_is (own_in ts m.1 ++ (E ++ flat_map parts_in E)) ((own_in ts m.1 ++ E) ++ flat_map parts_in E) (sym (append_assoc (own_in ts m.1) E (flat_map parts_in E))))

-- ALL MESSAGES AND ENUMS

pub known_names : (ts : Types) → IsReordered (declared_names ts) (all_others ts ++ all_entries ts)
known_names ts =
    let D = flat_map (declared_by_message ts.files ts.messages) ts.messages in
    let O = flat_map (own_in ts) ts.messages in
    let E = all_entries ts in
    let U = flat_map (enum_in ts) ts.enums in
    onward (reordered_append D (O ++ E) U U (reordered_parts (declared_by_message ts.files ts.messages) (own_in ts) (entries_in ts) ts.messages (known_split ts)) (reordered_same U)) (last_second O E U)

pub names_split : (ts : Types) → IsPool ts → IsReordered (names_of (declarations (decls_of ts))) ((all_others ts ++ all_entries ts) ++ flat_map parts_in (all_entries ts))
names_split ts pool =
    let M = flat_map (of_message ts) (numbered ts) in
    let O = flat_map (own_in ts) ts.messages in
    let E = all_entries ts in
    let U = flat_map (enum_in ts) ts.enums in
    let P = flat_map parts_in E in
    onward (all_names ts pool)
    (onward (reordered_append M ((O ++ E) ++ P) (flat_map (of_enum ts) (numbered_enums ts)) U
    (onward (reordered_parts (of_message ts) (λ m. own_in ts m.1 ++ entries_in ts m.1) (λ m. flat_map parts_in (entries_in ts m.1)) (numbered ts) (message_split ts))
    (reordered_append (flat_map (λ (m : ℕ × MessageView). own_in ts m.1 ++ entries_in ts m.1) (numbered ts)) (O ++ E) (flat_map (λ (m : ℕ × MessageView). flat_map parts_in (entries_in ts m.1)) (numbered ts)) P
    (onward (reordered_is (flat_map (λ (m : ℕ × MessageView). own_in ts m.1 ++ entries_in ts m.1) (numbered ts)) (flat_map (λ t. own_in ts t ++ entries_in ts t) ts.messages) (flat_numbered (λ t. own_in ts t ++ entries_in ts t) 0 ts.messages))
    (reordered_parts (λ t. own_in ts t ++ entries_in ts t) (own_in ts) (entries_in ts) ts.messages (λ t. reordered_same (own_in ts t ++ entries_in ts t))))
    (reordered_is (flat_map (λ (m : ℕ × MessageView). flat_map parts_in (entries_in ts m.1)) (numbered ts)) P (flat_numbered (λ t. flat_map parts_in (entries_in ts t)) 0 ts.messages ∙ sym (flat_flat (entries_in ts) parts_in ts.messages)))))
    (reordered_is (flat_map (of_enum ts) (numbered_enums ts)) U (flat_numbered (enum_in ts) 0 ts.enums)))
    (onward (last_second (O ++ E) P U) (reordered_append ((O ++ E) ++ U) ((O ++ U) ++ E) P P (last_second O E U) (reordered_same P))))
