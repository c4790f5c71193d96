-- The rules of names: words, full names that differ, and packages apart from them (language specification, proto3, "Identifiers").
use Rattle.std.specs.Prelude.{ℕ, List, IsTrue, Contains}
use Rattle.std.specs.List.{AllByRecursion}
use Rattle.pb_schema.specs.Types.{MessageView, EnumView, Types}
use Rattle.pb_schema.specs.Names.{is_word, names_of_field, names_of_enum, declared_names, packages_of, AllDiffer}

abbrev pub AreWords : List (List ℕ) → Type 0
AreWords names = AllByRecursion (λ name. IsTrue (is_word name)) names

-- the names of a message, its fields, the entry messages of its map fields, and its oneofs
abbrev pub MessageIsOfWords : MessageView → Type 0
MessageIsOfWords t = IsTrue (is_word t.name) × AllByRecursion (λ f. AreWords (names_of_field f)) t.fields × AreWords t.oneofs

abbrev pub MessageNamesAreWords : List MessageView → Type 0
MessageNamesAreWords ms = AllByRecursion MessageIsOfWords ms

abbrev pub EnumIsOfWords : EnumView → Type 0
EnumIsOfWords e = AreWords (names_of_enum e)

abbrev pub EnumNamesAreWords : List EnumView → Type 0
EnumNamesAreWords es = AllByRecursion EnumIsOfWords es

abbrev pub FullNamesDiffer : Types → Type 0
FullNamesDiffer ts = AllDiffer (declared_names ts)

-- no package that this one makes is among the names
abbrev pub IsFree : List (List ℕ) → List ℕ → Type 0
IsFree names package_name = AllByRecursion (λ p. ¬ Contains names p) (packages_of package_name)

-- no package has the full name of a declaration
abbrev pub PackagesAreFree : Types → Type 0
PackagesAreFree ts = AllByRecursion (λ f. IsFree (declared_names ts) f.package_name) ts.files

pub record NameRules (ts : Types) : Type 0 where
  pub message_words : MessageNamesAreWords ts.messages
  pub enum_words : EnumNamesAreWords ts.enums
  pub names_differ : FullNamesDiffer ts
  pub packages_free : PackagesAreFree ts
