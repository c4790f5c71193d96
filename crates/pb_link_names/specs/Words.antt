-- Names as paths of words, in a tree.
use Rattle.std.specs.Prelude.{◌≡◌, ◌<◌, ◌≤◌, ℕ, List, [], ◌∷◌, ◌++◌, length, Bool, true, ◌==◌, ◌||◌, Option, Some, None, if◌then◌else◌, is_some, option_and_then, slice_get, take, drop}
use Rattle.pb_link_names.specs.Firsts.{first_at}
use Rattle.pb_declarations.specs.Decls.{DeclaredFile}
use Rattle.pb_link_names.specs.Declarations.{Declaration, full_name}
use Rattle.pb_link_names.specs.TypeRefs.{file_in}
use Rattle.pb_link_names.specs.Lookup.{every_file, is_taken}
use Rattle.pb_link_names.specs.declared.firsts.Firsts.{Firsts}
use Rattle.pb_link_names.specs.declared.words.Words.{Words}

abbrev pub child_in : Option Firsts → List ℕ → Option ℕ
child_in None word = None
child_in (Some words) word = first_at words word

-- the node of a word in a node
abbrev pub child_of : Words → ℕ → List ℕ → Option ℕ
child_of t node word = child_in (slice_get t.inside.items node) word

abbrev pub child_if : Words → Option ℕ → List ℕ → Option ℕ
child_if t None word = None
child_if t (Some node) word = child_of t node word

-- Where the bytes lead from a node and a word that was begun in it: to a node, and the word that they begin in it.
abbrev pub reach : Words → ℕ → List ℕ → List ℕ → Option (ℕ × List ℕ)
reach t node word [] = Some (node, word)
reach t node word (c ∷ cs) = if c == 46 then option_and_then (λ next. reach t next [] cs) (child_of t node word) else reach t node (word ++ c ∷ []) cs

abbrev pub end_of : Words → Option (ℕ × List ℕ) → Option ℕ
end_of t None = None
end_of t (Some e) = child_of t e.0 e.1

-- the node of a name
abbrev pub node_of : Words → List ℕ → Option ℕ
node_of t name = end_of t (reach t 0 [] name)

-- the node of a scope
abbrev pub scope_node : Words → List ℕ → Option ℕ
scope_node t [] = Some 0
scope_node t (c ∷ cs) = node_of t (c ∷ cs)

-- there is no tree: nothing is known of any name
abbrev pub is_off : Words → Bool
is_off t = length t.inside.items == 0

-- a name that begins with the word may be in the scope
abbrev pub may_hold : Words → List ℕ → List ℕ → Bool
may_hold t word scope = is_off t || is_some (child_if t (scope_node t scope) word)

-- the name is in the tree, if there is one
abbrev pub knows : Words → List ℕ → Bool
knows t name = is_off t || is_some (node_of t name)

-- each word in a node has a node
pub record IsTree (t : Words) : Type 0 where
  pub within : (node child : ℕ) (word : List ℕ) → child_of t node word ≡ Some child → child < length t.inside.items

-- all that was there is there
pub record Keeps (old new : Words) : Type 0 where
  pub children : (node child : ℕ) (word : List ℕ) → child_of old node word ≡ Some child → child_of new node word ≡ Some child
  pub more : length old.inside.items ≤ length new.inside.items

-- a word in a node was added
pub record AddsWord (old new : Words) (node : ℕ) (word : List ℕ) (child : ℕ) : Type 0 where
  pub tree : IsTree new
  pub kept : Keeps old new
  pub there : child_of new node word ≡ Some child

-- a name was added
pub record AddsName (name : List ℕ) (old new : Words) : Type 0 where
  pub tree : IsTree new
  pub kept : Keeps old new
  pub there : is_some (node_of new name) ≡ true

abbrev pub begun : Option ℕ → List ℕ → Option (ℕ × List ℕ)
begun None word = None
begun (Some node) word = Some (node, word)

-- how far a walk along a name is before an index: in a node, if there is one, and in a word that begins at `start`
pub record IsAt (t : Words) (name : List ℕ) (index : ℕ) (node : Option ℕ) (start : ℕ) : Type 0 where
  pub within : start ≤ index
  pub reached : reach t 0 [] (take index name) ≡ begun node (drop start (take index name))

-- how far the adding of a name is
pub record IsAdding (t : Words) (name : List ℕ) (index node start : ℕ) : Type 0 where
  pub tree : IsTree t
  pub within : node < length t.inside.items
  pub at : IsAt t name index (Some node) start

-- a scope of a length is pushed where a name that begins with the word may be in its node
abbrev pub PushesScope : Words → Option ℕ → List ℕ → ℕ → List ℕ → List ℕ → Type 0
PushesScope t node word len old new = new ≡ (if is_off t || is_some (child_if t node word) then old ++ len ∷ [] else old)

-- what a declaration names: a file its package, any other by its full name
abbrev pub named_by : Option DeclaredFile → Declaration → List ℕ
named_by None d = full_name d
named_by (Some f) d = f.package_name

abbrev pub written_name : Declaration → List ℕ
written_name d = named_by (file_in d.item) d

-- the tree knows the names of what is declared, and of the packages
abbrev pub AreWords : List Declaration → Words → Type 0
AreWords ds t = (name : List ℕ) → is_taken ds every_file name ≡ true → knows t name ≡ true
