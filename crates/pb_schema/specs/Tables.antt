-- Tables for look-ups.
pub mod Numbers
pub mod Members
pub mod Names
pub mod Values
pub use Rattle.pb_schema.specs.Tables.Numbers.{IsNumbered, IsNumberTable}
pub use Rattle.pb_schema.specs.Tables.Members.{IsMemberTable}
pub use Rattle.pb_schema.specs.Tables.Names.{IsNameTable, place_of, field_named}
pub use Rattle.pb_schema.specs.Tables.Values.{or_first, IsNoted, AreFirstsOf, AreMarksOf, IsValueTable}
use Rattle.std.specs.Prelude.{◌≡◌, ℕ, length, List, [], ◌∷◌, Option, Vec}
use Rattle.std.specs.declared.alloc.Global.{Global}
use Rattle.pb_names.specs.NameSets.{NameSet}
use Rattle.pb_names.specs.NameSets.{names_in}
use Rattle.pb_schema.specs.declared.tables.Tables.{Tables}
use Rattle.pb_schema.specs.declared.tables.numbers.NumberTable.{NumberTable}
use Rattle.pb_schema.specs.declared.tables.values.ValueTable.{ValueTable}
use Rattle.pb_schema.specs.Types.{MessageView, EnumView, Types}
use Rattle.pb_schema.specs.Names.{message_names, enum_names}

-- a table for each part
abbrev pub HaveTables : {T X : Type 0} → (T → X → Type 0) → List T → List X → Type 0
HaveTables P [] [] = Unit {0}
HaveTables P [] (x ∷ xs) = ⊥
HaveTables P (t ∷ ts) [] = ⊥
HaveTables P (t ∷ ts) (x ∷ xs) = P t x × HaveTables P ts xs

abbrev pub AreNumberTables : List MessageView → List NumberTable → Type 0
AreNumberTables ts tables = HaveTables (λ t n. IsNumberTable t.fields n.rising.items) ts tables

abbrev pub AreMemberTables : List MessageView → List (Vec (Vec ℕ Global) Global) → Type 0
AreMemberTables ts tables = HaveTables (λ t v. IsMemberTable (length t.oneofs) t.fields v.items) ts tables

abbrev pub AreNameTables : List MessageView → List (Option NameSet) → Type 0
AreNameTables ts tables = HaveTables (λ t n. IsNameTable t.fields n) ts tables

abbrev pub AreValueTables : List EnumView → List ValueTable → Type 0
AreValueTables es tables = HaveTables (λ e v. IsValueTable e.values v) es tables

-- the tables of a pool: the full names of messages and enums in their order, the numbers, the oneofs' members and the names of the fields of
-- each message, and the numbers of the values of each enum
pub record HasTables (ts : Types) (t : Tables) : Type 0 where
  pub messages : names_in t.messages ≡ message_names ts
  pub enums : names_in t.enums ≡ enum_names ts
  pub numbers : AreNumberTables ts.messages t.numbers.items
  pub members : AreMemberTables ts.messages t.members.items
  pub names : AreNameTables ts.messages t.names.items
  pub values : AreValueTables ts.enums t.values.items
