-- for lists that contain an element
pub mod ContainsLemmas
-- for `Reach`: bits and a list that tell what is reached along a graph
pub mod ReachLemmas
-- for `FlatGraph`: one more list is laid after the others
pub mod FlatLemmas
-- for `is_acyclic`: what a walk has on its path, what it leaves, and that it ends
pub mod CycleLemmas
