-- ---- the least fault
-- the walk over all declarations in order tells the least fault of all
pub mod FirstLemmas
-- and exactly that one, since there is one world for each list of files
pub mod ExactLemmas
-- for the judge of one declaration: what it tests is all that can fail there
pub mod JudgeLemmas
-- for a walk over the declarations, from one on to the end
pub mod WalkLemmas
-- for `verdict`: whether the rules hold of files
pub mod VerdictLemmas
-- and what the walk tells is the least fault, of a declaration and a file that are there
pub mod FaultLemmas
-- for what stands at the places of a world: the parts of messages and enums, and each declaration's file
pub mod ThereLemmas
-- ---- tables: what the rules look up, place by place
-- for what is reached by imports, which can be tested: so there is a world for each list of files
pub mod WorldLemmas
-- for what stands at a place of a list, and the first that passes a test
pub mod PlacedLemmas
-- for where files stand in the row
pub mod FileRowLemmas
-- for what names come to, by place
pub mod NamesLemmas
-- for the fields that use a type
pub mod UseLemmas
-- for entry messages and the rules of map fields
pub mod MapLemmas
-- for `first_fault`: what the tables tell at a place holds of the declaration there
pub mod TableLemmas
-- for `first_cycle`: where imports have no cycle no file reaches itself
pub mod CycleLemmas
