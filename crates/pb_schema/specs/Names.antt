-- Names: words, packages, and the full names of what files declare (language specification, "Identifiers", "Package"; descriptor.proto).
pub mod Set
pub mod Tree
pub mod Declared
use Rattle.std.specs.Prelude.{◌≢◌, ℕ, zero, suc, ◌-◌, List, [], ◌∷◌, ◌++◌, length, map, flat_map, codes, Bool, true}
use Rattle.std.specs.Prelude.{false, not, ◌&&◌, ◌||◌, ◌==◌, if◌then◌else◌, Option, Some, None, slice_get}
use Rattle.std.specs.List.{AllByRecursion, list_all}
use Rattle.std.specs.Char.{is_ascii_alphabetic, is_ascii_digit, is_ascii_lowercase}
use Rattle.pb_schema.specs.declared.types.Shape.{Shape}
use Rattle.pb_schema.specs.declared.types.Shape.TheVariants as shape
use Rattle.pb_schema.specs.Nesting.{parent_of}
use Rattle.pb_schema.specs.Types.{FieldView, MessageView, EnumView, FileView, Types}

-- a letter or `_`
abbrev pub begins_word : ℕ → Bool
begins_word c = is_ascii_alphabetic c || (c == 95)

abbrev pub continues_word : ℕ → Bool
continues_word c = begins_word c || is_ascii_digit c

-- a letter or `_`, and then letters, digits and `_`
abbrev pub is_word : List ℕ → Bool
is_word [] = false
is_word (c ∷ cs) = begins_word c && list_all continues_word cs

abbrev pub onto_first : ℕ → List (List ℕ) → List (List ℕ)
onto_first c [] = (c ∷ []) ∷ []
onto_first c (s ∷ ss) = (c ∷ s) ∷ ss

abbrev pub onto_parts : Bool → ℕ → List (List ℕ) → List (List ℕ)
onto_parts true c ps = [] ∷ ps
onto_parts false c ps = onto_first c ps

-- the parts between dots
abbrev pub parts_of : List ℕ → List (List ℕ)
parts_of [] = [] ∷ []
parts_of (c ∷ cs) = onto_parts (c == 46) c (parts_of cs)

-- empty, or words joined by dots
abbrev pub is_package : List ℕ → Bool
is_package [] = true
is_package (c ∷ cs) = list_all is_word (parts_of (c ∷ cs))

-- the byte may be at the start of a word of a package's name, or after it
abbrev pub may_stand : Bool → ℕ → Bool
may_stand at_start c = if c == 46 then not at_start else (if at_start then begins_word c else continues_word c)

abbrev pub with_front : Bool → List ℕ → List (List ℕ) → List (List ℕ)
with_front true front fronts = front ∷ fronts
with_front false front fronts = fronts

-- the prefixes of a name that end before a dot, where the name is a prefix that was read and the rest
abbrev pub fronts_from : List ℕ → List ℕ → List (List ℕ)
fronts_from front [] = []
fronts_from front (c ∷ cs) = with_front (c == 46) front (fronts_from (front ++ c ∷ []) cs)

-- the packages that a package's name makes: `a.b` makes `a` and `a.b`
abbrev pub packages_of : List ℕ → List (List ℕ)
packages_of [] = []
packages_of (c ∷ cs) = (c ∷ cs) ∷ fronts_from [] (c ∷ cs)

-- a name in a scope
abbrev pub in_scope : List ℕ → List ℕ → List ℕ
in_scope [] name = name
in_scope (c ∷ cs) name = (c ∷ cs) ++ 46 ∷ name

-- the letter, made upper case where it is raised
abbrev pub raised : Bool → ℕ → ℕ
raised raise c = if raise && is_ascii_lowercase c then c - 32 else c

abbrev pub unless_line : Bool → ℕ → List ℕ → List ℕ
unless_line true c cs = cs
unless_line false c cs = c ∷ cs

-- the name without `_`, with each letter that is first or after a `_` made upper case
abbrev pub camel_case : Bool → List ℕ → List ℕ
camel_case raise [] = []
camel_case raise (c ∷ cs) = unless_line (c == 95) (raised raise c) (camel_case (c == 95) cs)

-- the name of a map field's entry message
abbrev pub entry_name : List ℕ → List ℕ
entry_name name = camel_case true name ++ codes "Entry"

-- the simple names that a field declares: its own, and that of a map field's entry message
abbrev pub names_of_field : FieldView → List (List ℕ)
names_of_field f = by_shape f.shape f.name
  where
    by_shape : Shape → List ℕ → List (List ℕ)
    by_shape (shape.Map key) name = name ∷ entry_name name ∷ []
    by_shape shape.Implicit name = name ∷ []
    by_shape shape.Explicit name = name ∷ []
    by_shape (shape.OneofMember o) name = name ∷ []
    by_shape (shape.List packed) name = name ∷ []

abbrev pub package_of : List FileView → ℕ → List ℕ
package_of files i = of_file (slice_get files i)
  where
    of_file : Option FileView → List ℕ
    of_file None = []
    of_file (Some f) = f.package_name

-- the full name of what is there
abbrev pub name_in : List ℕ → Option MessageView → List ℕ
name_in scope None = []
name_in scope (Some t) = in_scope scope t.name

abbrev pub file_at : List MessageView → ℕ → ℕ
file_at ms m = of_message (slice_get ms m)
  where
    of_message : Option MessageView → ℕ
    of_message None = 0
    of_message (Some t) = t.file

-- the name at an index; an index out of range has none
abbrev pub name_at : List (List ℕ) → ℕ → List ℕ
name_at names i = of_name (slice_get names i)
  where
    of_name : Option (List ℕ) → List ℕ
    of_name None = []
    of_name (Some name) = name

-- the scope of what is declared in a message, or outside messages, where the messages have these full names
abbrev pub scope_by_names : List FileView → List (List ℕ) → ℕ → Option ℕ → List ℕ
scope_by_names files names file None = package_of files file
scope_by_names files names file (Some p) = name_at names p

-- the full name of an enum, where the messages have these
abbrev pub enum_name_by : List FileView → List (List ℕ) → EnumView → List ℕ
enum_name_by files names t = in_scope (scope_by_names files names t.file t.parent) t.name

-- The scope of what is declared outside messages, its file's package, or in a message, the message's full name. Messages nest at most so
-- many levels; what nests in itself has no name.
abbrev pub scope_within : ℕ → List FileView → List MessageView → ℕ → Option ℕ → List ℕ
scope_within levels files ms file None = package_of files file
scope_within zero files ms file (Some p) = []
scope_within (suc levels) files ms file (Some p) = name_in (scope_within levels files ms (file_at ms p) (parent_of ms p)) (slice_get ms p)

abbrev pub scope_of : List FileView → List MessageView → ℕ → Option ℕ → List ℕ
scope_of files ms file parent = scope_within (length ms) files ms file parent

-- full names, without a leading dot
abbrev pub message_name : List FileView → List MessageView → MessageView → List ℕ
message_name files ms t = in_scope (scope_of files ms t.file t.parent) t.name

abbrev pub enum_name : List FileView → List MessageView → EnumView → List ℕ
enum_name files ms e = in_scope (scope_of files ms e.file e.parent) e.name

abbrev pub message_names : Types → List (List ℕ)
message_names ts = map (message_name ts.files ts.messages) ts.messages

abbrev pub enum_names : Types → List (List ℕ)
enum_names ts = map (enum_name ts.files ts.messages) ts.enums

-- the simple names of what a message declares directly, its types aside
abbrev pub names_in_message : MessageView → List (List ℕ)
names_in_message t = flat_map names_of_field t.fields ++ t.oneofs

-- the values of an enum are in the scope around it
abbrev pub names_of_enum : EnumView → List (List ℕ)
names_of_enum e = e.name ∷ map (λ v. v.0) e.values

-- the full names of what a message declares, itself first, and of what an enum declares
abbrev pub declared_by_message : List FileView → List MessageView → MessageView → List (List ℕ)
declared_by_message files ms t = message_name files ms t ∷ map (in_scope (message_name files ms t)) (names_in_message t)

abbrev pub declared_by_enum : List FileView → List MessageView → EnumView → List (List ℕ)
declared_by_enum files ms e = map (in_scope (scope_of files ms e.file e.parent)) (names_of_enum e)

-- the full names of all that is declared
abbrev pub declared_names : Types → List (List ℕ)
declared_names ts =
    flat_map (declared_by_message ts.files ts.messages) ts.messages ++ flat_map (declared_by_enum ts.files ts.messages) ts.enums

-- no name is there twice
abbrev pub AllDiffer : {X : Type 0} → List X → Type 0
AllDiffer [] = Unit {0}
AllDiffer (x ∷ xs) = AllByRecursion (λ y. x ≢ y) xs × AllDiffer xs
