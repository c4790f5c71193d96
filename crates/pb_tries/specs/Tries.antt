-- Names as paths of bytes.
use Rattle.std.specs.Prelude.{◌≡◌, ◌≤◌, ◌<◌, ◌+◌, ◌⊎◌, ℕ, suc, List, [], ◌∷◌, ◌++◌, length, Bool, ◌==◌, ◌&&◌, Option, Some, option_and_then, slice_get}
use Rattle.std.specs.List.{slice_index_or, position_from}
use Rattle.pb_tries.specs.declared.trie.NameTrie.{NameTrie}

-- the edge leads from the node by the byte
abbrev pub is_edge : ℕ → ℕ → ℕ × ℕ → Bool
is_edge node byte e = (e.0 == node) && (e.1 == byte)

-- the child of a node by a byte: the first edge leads to node 1, the second to node 2
abbrev pub child_of : List (ℕ × ℕ) → ℕ → ℕ → Option ℕ
child_of es node byte = position_from (is_edge node byte) 1 es

-- the node that a name leads to from a node
abbrev pub node_from : List (ℕ × ℕ) → ℕ → List ℕ → Option ℕ
node_from es node [] = Some node
node_from es node (c ∷ cs) = option_and_then (λ child. node_from es child cs) (child_of es node c)

-- a node up to a bound that is a child of the parent, or 0; no later node up to the bound is one
pub record IsNewest (es : List (ℕ × ℕ)) (parent bound newest : ℕ) : Type 0 where
  pub within : newest ≤ bound
  pub own : (i : ℕ) (e : ℕ × ℕ) → newest ≡ i + 1 → slice_get es i ≡ Some e → e.0 ≡ parent
  pub last : (i : ℕ) (e : ℕ × ℕ) → slice_get es i ≡ Some e → e.0 ≡ parent → i < bound → i < newest

-- The edges differ, each parent is an earlier node, and the children of each node are linked, from the newest to the oldest.
pub record IsTrie (t : NameTrie) : Type 0 where
  pub newest_size : length t.newest.items ≡ suc (length t.edges.items)
  pub older_size : length t.older.items ≡ suc (length t.edges.items)
  pub differ : (i j : ℕ) (e : ℕ × ℕ) → slice_get t.edges.items i ≡ Some e → slice_get t.edges.items j ≡ Some e → i ≡ j
  pub lower : (i : ℕ) (e : ℕ × ℕ) → slice_get t.edges.items i ≡ Some e → e.0 ≤ i
  pub newest_child : (n : ℕ) → IsNewest t.edges.items n (length t.edges.items) (slice_index_or t.newest.items n 0)
  pub older_child : (i : ℕ) (e : ℕ × ℕ) → slice_get t.edges.items i ≡ Some e → IsNewest t.edges.items e.0 i (slice_index_or t.older.items (i + 1) 0)

-- the edges are the same, or one more
abbrev pub GrowsBy : ℕ × ℕ → List (ℕ × ℕ) → List (ℕ × ℕ) → Type 0
GrowsBy e old new = (new ≡ old) ⊎ (new ≡ old ++ e ∷ [])

-- the child by the byte is there
pub record ByteAdded (old new : NameTrie) (node byte child : ℕ) : Type 0 where
  pub trie : IsTrie new
  pub grown : GrowsBy (node, byte) old.edges.items new.edges.items
  pub there : child_of new.edges.items node byte ≡ Some child

-- the node of a name
abbrev pub node_of : NameTrie → List ℕ → Option ℕ
node_of t name = node_from t.edges.items 0 name

-- the node that was added last
abbrev pub last_node : NameTrie → ℕ
last_node t = length t.edges.items
