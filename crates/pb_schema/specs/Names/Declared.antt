-- Names that are declared one after another, each a word in a scope.
use Rattle.std.specs.Prelude.{◌≡◌, ◌↔◌, ℕ, List, [], ◌∷◌, ◌++◌, map, length, flat_map, IsTrue, Option, Some, None, slice_get, option_and_then, Contains}
use Rattle.std.specs.List.{AllZip}
use Rattle.pb_schema.specs.declared.names.declared.Declarations.{Declarations}
use Rattle.pb_schema.specs.Types.{MessageView, EnumView, FileView}
use Rattle.pb_schema.specs.Nesting.{ParentsStandBefore}
use Rattle.pb_schema.specs.Names.{in_scope, names_in_message, message_name, declared_by_message, declared_by_enum, AllDiffer}
use Rattle.pb_schema.specs.Names.Tree.{IsTree, IsInTree, scope_name, full_names_of, Keeps, ArePackages}
use Rattle.pb_schema.specs.Rules.{AreWords, MessageNamesAreWords, EnumNamesAreWords}

-- these names were added
pub record IsDeclared (names : List (List ℕ)) (d : Declarations) : Type 0 where
  pub members : (x : List ℕ) → Contains (full_names_of d.tree) x ↔ Contains names x
  pub differ : IsTrue d.differ ↔ AllDiffer names

-- these names are added
pub record Added (names : List (List ℕ)) (old new : Declarations) : Type 0 where
  pub tree : IsTree new.tree
  pub kept : Keeps (full_names_of old.tree) (full_names_of new.tree)
  pub declared : (before : List (List ℕ)) → IsDeclared before old → IsDeclared (before ++ names) new

pub record MayAdd (scope : Option ℕ) (names : List (List ℕ)) (d : Declarations) : Type 0 where
  pub tree : IsTree d.tree
  pub in_tree : IsInTree d.tree scope
  pub words : AreWords names

-- the full name of a word in a scope
abbrev pub named_in : Declarations → Option ℕ → List ℕ → List ℕ
named_in d scope word = in_scope (scope_name (full_names_of d.tree) scope) word

abbrev pub Adds : Option ℕ → List (List ℕ) → Declarations → Declarations → Type 0
Adds scope words old new = MayAdd scope words old → Added (map (named_in old scope) words) old new

-- the name has the index
pub record AddedAt (names : List (List ℕ)) (name : List ℕ) (old new : Declarations) (i : ℕ) : Type 0 where
  pub added : Added names old new
  pub at_index : slice_get (full_names_of new.tree) i ≡ Some name

abbrev pub AddsOne : Option ℕ → List ℕ → Declarations → Declarations → ℕ → Type 0
AddsOne scope word old new i = MayAdd scope (word ∷ []) old → AddedAt (named_in old scope word ∷ []) (named_in old scope word) old new i

abbrev pub names_by_message : List ℕ → MessageView → List (List ℕ)
names_by_message name t = name ∷ map (in_scope name) (names_in_message t)

abbrev pub AddsMessage : Option ℕ → MessageView → Declarations → Declarations → ℕ → Type 0
AddsMessage scope t old new i =
    MayAdd scope (t.name ∷ names_in_message t) old → AddedAt (names_by_message (named_in old scope t.name) t) (named_in old scope t.name) old new i

-- the scope of what is declared in a file or in a message
abbrev pub scope_id : List (Option ℕ) → List ℕ → ℕ → Option ℕ → Option ℕ
scope_id packages messages file None = option_and_then (λ s. s) (slice_get packages file)
scope_id packages messages file (Some p) = slice_get messages p

-- the indexes of names
abbrev pub HaveNames : List (List ℕ) → List ℕ → List (List ℕ) → Type 0
HaveNames full indexes names = AllZip (λ i name. slice_get full i ≡ Some name) indexes names

pub record MayAddMessages (files : List FileView) (scopes : List (Option ℕ)) (ms : List MessageView) (d : Declarations) : Type 0 where
  pub tree : IsTree d.tree
  pub packages : ArePackages (full_names_of d.tree) scopes files
  pub words : MessageNamesAreWords ms
  pub parents : ParentsStandBefore ms (length ms)

pub record MessagesAdded (files : List FileView) (ms : List MessageView) (indexes : List ℕ) (old new : Declarations) : Type 0 where
  pub added : Added (flat_map (declared_by_message files ms) ms) old new
  pub names : HaveNames (full_names_of new.tree) indexes (map (message_name files ms) ms)

abbrev pub AddsMessages : List (Option ℕ) → List MessageView → List ℕ → Declarations → Declarations → Type 0
AddsMessages packages ms indexes old new =
    (files : List FileView) → MayAddMessages files packages ms old → MessagesAdded files ms indexes old new

pub record MayAddEnums (files : List FileView) (ms : List MessageView) (scopes : List (Option ℕ)) (indexes : List ℕ) (es : List EnumView)
    (d : Declarations) : Type 0 where
  pub tree : IsTree d.tree
  pub packages : ArePackages (full_names_of d.tree) scopes files
  pub messages : HaveNames (full_names_of d.tree) indexes (map (message_name files ms) ms)
  pub words : EnumNamesAreWords es
  pub parents : ParentsStandBefore ms (length ms)

abbrev pub AddsEnums : List (Option ℕ) → List ℕ → List EnumView → Declarations → Declarations → Type 0
AddsEnums packages messages es old new =
    (files : List FileView) (ms : List MessageView) → MayAddEnums files ms packages messages es old → Added (flat_map (declared_by_enum files ms) es) old new
