-- The rules of files (language specification, proto3, "Importing Definitions", "Package").
use Rattle.std.specs.Prelude.{◌≢◌, ℕ, ◌^◌, ◌<◌, List, [], length, map, IsTrue}
use Rattle.std.specs.List.{AllByRecursion}
use Rattle.pb_schema.specs.Types.{FileView}
use Rattle.pb_schema.specs.Names.{is_package, AllDiffer}
use Rattle.pb_schema.specs.Imports.{Reaches}

abbrev pub FilesAreNamed : List FileView → Type 0
FilesAreNamed files = AllByRecursion (λ f. f.name ≢ []) files

abbrev pub FileNamesDiffer : List FileView → Type 0
FileNamesDiffer files = AllDiffer (map (λ f. f.name) files)

abbrev pub PackagesAreWords : List FileView → Type 0
PackagesAreWords files = AllByRecursion (λ f. IsTrue (is_package f.package_name)) files

-- at most 2 ^ 31 - 1 a file
abbrev pub ImportsAreFew : List FileView → Type 0
ImportsAreFew files = AllByRecursion (λ f. length f.imports < 2 ^ 31) files

abbrev pub ImportsNameFiles : List FileView → Type 0
ImportsNameFiles files = AllByRecursion (λ f. AllByRecursion (λ j. j < length files) f.imports) files

abbrev pub NoFileReachesItself : List FileView → Type 0
NoFileReachesItself files = (i : ℕ) → ¬ Reaches files i i

pub record FileRules (files : List FileView) : Type 0 where
  pub named : FilesAreNamed files
  pub names_differ : FileNamesDiffer files
  pub packages : PackagesAreWords files
  pub few_imports : ImportsAreFew files
  pub imports_name_files : ImportsNameFiles files
  pub no_cycle : NoFileReachesItself files
