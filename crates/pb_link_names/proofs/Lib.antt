-- ---- all that files declare, in one row
-- for the loops that put all that files declare in one row
pub mod RowLemmas
-- for what a message stands for, part by part
pub mod ViewLemmas
-- for the row: the parts of a declaration come after it, and what is around one stands before it
pub mod BehindLemmas
-- ---- the rules that rest on a message or an enum alone
-- for marks, by the index of what they speak of
pub mod MarkLemmas
-- for reserved ranges, sorted: they overlap, and hold a number, exactly where the ranges as given do
pub mod ReservedLemmas
-- for the members of oneofs, counted, and the rules of them
pub mod OneofCountLemmas
-- ---- tables: what is seen and looked up
-- for tests that some element passes
pub mod AnyLemmas
-- for tables of first places
pub mod FirstsLemmas
-- for imports as graphs, and what a file sees along them
pub mod GraphLemmas
-- for the walk that numbers components, and for files that no import leads back to
pub mod ComponentLemmas
-- for sets of names, and the packages that files make
pub mod NameSetsLemmas
-- for scopes that pass a test, and the first part of a name
pub mod ScopeSteps
-- for the places of full names
pub mod PlacesLemmas
-- for names as paths of words, and the scopes in which a name may be
pub mod WordLemmas
