-- ---- worked out by the rules
-- short words for declarations
mod Samples
-- small files with what their rules and names come to
mod Rows
-- small files of proto2
mod Proto2Rows
-- ---- linking: the least fault, or a pool
-- for `link`: it answers what the walk tells
pub mod LinkLemmas
-- for the law that files make one pool, or have one fault
pub mod OnePool
-- for types by their declarations: they are those of declared messages and enums
pub mod TypeLemmas
-- for the row's order: declarations nest, and no file stands in one
pub mod NestLemmas
-- ---- each rule of a pool, where no rule of linking fails: so linked declarations are a pool
-- files
pub mod FileLemmas
-- first values of enums, numbers of fields, and packed lists
pub mod FieldLemmas
-- what a file sees is within what it reaches by imports
pub mod SeenLemmas
-- numbers and file names differ, shapes go with kinds
pub mod MemberLemmas
-- a field that uses an entry is its map field, and the entry has a key and a value
pub mod EntryLemmas
-- the types of fields are in the pool and seen, keys are of key kinds
pub mod KindLemmas
-- members name oneofs, and oneofs have members
pub mod OneofLemmas
-- names are words
pub mod WordLemmas
-- types have files, and what is declared in a message stands in the file of that message
pub mod IndexLemmas
-- declarations stand by file, and so do the message types
pub mod OrderLemmas
-- full names are those of declarations
pub mod ScopeLemmas
-- types come after their parents, enums in declaration order
pub mod FollowLemmas
-- for names beside the places of what has them
pub mod PlacedLemmas
-- full names differ, and none is a package's
pub mod NameLemmas
-- what stands in a file goes with its syntax
pub mod SyntaxLemmas
-- all of them together: a pool
pub mod PoolLemmas
-- ---- the pool of what is declared
-- for the loops that make its parts
pub mod PartLemmas
-- for its types, read off the row
pub mod ReadLemmas
-- ---- whether files link, and with types resolved
-- for `resolve`: what the names came to, taken in declaration order, resolves the files
pub mod ResolvedLemmas
-- for messages that are resolved: they stand in each other as deep as before
pub mod ResolvedNestLemmas
-- for maps of enums in files that are read leniently, which become lists of their entries
pub mod EnumMapLemmas
-- for the loops that resolve declarations
pub mod ResolvingLemmas
-- for the law that resolved files have their type numbers and full type names
pub mod TypedLemmas
-- ---- the declarations of a pool: what is made
-- for full names, which are ASCII
pub mod AsciiLemmas
-- for how few fields and oneofs a message has
pub mod CountLemmas
-- for `to_decls`: each field of a pool has a declaration
pub mod DeclarableLemmas
-- for the loops that make declarations of types
pub mod DeclaredLemmas
-- for messages and enums, put into their places one by one
pub mod NestedLemmas
-- ---- they stand in the pool's order
-- what is in a message stands in one run after it
pub mod ForestLemmas
-- going through the files and the messages outside others in each, that is the order of all messages
pub mod FlatLemmas
-- and so is going through the files and the messages in each
pub mod WholeLemmas
-- the declarations declare the messages in it
pub mod HeadLemmas
-- they make the files again
pub mod DeclaredFileLemmas
-- the order of enums is one order
pub mod EnumOrderLemmas
-- going through the files, and the enums of each message after those in the messages in it, is that order
pub mod EnumWholeLemmas
-- the declarations declare the enums in it
pub mod EnumHeadLemmas
-- ---- they meet the rules of linking
-- what holds of each declared message, enum and file holds of all that they declare
pub mod EachItemLemmas
-- the rule of oneofs: real ones first, then one for each optional field
pub mod DeclaredOneofLemmas
-- for the rules that rest on one declaration
pub mod OwnRules
-- those rules
pub mod DeclaredRulesLemmas
-- for lists in another order, whose elements differ in both
pub mod ReorderLemmas
-- for what all of them declare, part by part
pub mod EachDeclaredLemmas
-- their full names, in another order
pub mod DeclaredNamesLemmas
-- full names differ, those in entry messages too
pub mod NamesDifferLemmas
-- and none is a package's
pub mod NamesApartLemmas
-- for what each is declared from
pub mod FromLemmas
-- for the rows of messages and enums, which stand in the pool's order
pub mod TypeRowsLemmas
-- for the entry message of each map field, which is there
pub mod EntryThereLemmas
-- for a type that is seen: its full name finds it, and has one place
pub mod OneNameLemmas
-- where the types stand, and that their full names are found there
pub mod DeclaredLookupLemmas
-- where the fields and entry messages of a message stand
pub mod InMessageLemmas
-- for what the types of fields mean
pub mod TypeCaseLemmas
-- for the rule of which declarations use entry messages
pub mod UsedRightlyLemmas
-- the rule of map entries
pub mod MapRuleLemmas
-- each entry is used by its map field alone
pub mod EntryUseLemmas
-- the rules of names
pub mod NameRuleLemmas
-- for `to_decls`: written as a set, they show no cause
pub mod SilentDeclaredLemmas
-- the rules of type names
pub mod TypeRuleLemmas
-- the rules of syntax
pub mod SyntaxRuleLemmas
-- ---- they make the pool again
-- for the worlds of the declarations: what a file sees
pub mod DeclaredSightLemmas
-- for the worlds of the declarations: the syntax of a file
pub mod DeclaredSyntaxLemmas
-- for lists that stand at a place of another list
pub mod CutLemmas
-- for the rows of messages: how many messages and enums stand there
pub mod RowCountLemmas
-- for each place among the declarations: a message, an enum, or neither
pub mod DeclaredPlaces
-- for going through the declarations, place by place, beside the pool
pub mod DeclaredWalkLemmas
-- for those of one message
pub mod DeclaredMessageWalk
-- each place holds what it should
pub mod DeclaredPlaceLemmas
-- for the shapes of fields, and the oneofs of messages: they are the pool's
pub mod ShapeAgainLemmas
-- for fields: they mean what they do in the pool
pub mod FieldAgainLemmas
-- the declarations make the pool again
pub mod PoolAgainLemmas
-- ---- they link
-- for files: no message and no enum names one
pub mod FileRowLemmas
-- the rules of imports hold
pub mod DeclaredImportLemmas
-- all rules hold: the declarations link
pub mod DeclaredPoolLemmas
