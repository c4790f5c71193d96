-- for names as paths of bytes: children, nodes of names, and a trie that grows by a node
pub mod TrieLemmas
