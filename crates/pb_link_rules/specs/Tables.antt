-- What the rules that rest on all declarations come to, by place.
use Rattle.std.specs.Prelude.{◌≡◌, ◌==◌, ℕ, List, map, Bool, true, false, not, Option, Some, None, position}
use Rattle.std.specs.List.{enumerate_from, slice_index_or}
use Rattle.pb_link_rules.specs.declared.cause.LinkCause.{LinkCause}
use Rattle.pb_link_rules.specs.declared.cause.LinkCause.TheVariants as cause
use Rattle.pb_declarations.specs.Decls.{DeclaredFile}
use Rattle.pb_link_names.specs.declared.declaration.Declaration.{Declaration as DeclarationValue}
use Rattle.pb_link_names.specs.declared.found.TypeNames.{TypeNames}
use Rattle.pb_link_names.specs.declared.found.TypeNames.TheVariants as type_names
use Rattle.pb_link_rules.specs.declared.names.Names.{Names}
use Rattle.pb_link_rules.specs.declared.names.At.{At}
use Rattle.pb_link_names.specs.declared.imports.Imports.{Imports}
use Rattle.pb_link_names.specs.Declarations.{Declaration}
use Rattle.pb_link_names.specs.Graphs.{AreImports}
use Rattle.pb_link_rules.specs.Rules.{World, lookups}
use Rattle.pb_link_rules.specs.Link.{holds, IsWorldOf}
use Rattle.pb_link_names.specs.View.{declaration_view, type_names_view}

-- whether the rule of a cause holds, by place
abbrev pub holds_table : World → LinkCause → List Bool
holds_table w c = map (λ e. holds w e.0 e.1 c) (enumerate_from 0 w.declared)

-- the first place at which the rule of cycles fails, whatever files these imports and this row are of
abbrev pub TellsFirstCycle : Imports → List DeclarationValue → Option ℕ → Type 0
TellsFirstCycle m row first = (files : List DeclaredFile) (w : World) → AreImports files m → IsWorldOf files w → w.declared ≡ map declaration_view row
    → first ≡ position not (holds_table w cause.ImportCycle)

-- what the rules of files come to
pub record AreFileTables (w : World) (firsts imports : List Bool) (cycle : Option ℕ) : Type 0 where
  pub file_is_first : firsts ≡ holds_table w cause.TwoFiles
  pub imports_are_there : imports ≡ holds_table w cause.MissingImport
  -- the first place at which the rule of cycles fails; later ones are not asked
  pub first_cycle : cycle ≡ position not (holds_table w cause.ImportCycle)

-- what the rule of free names and the type names come to
pub record AreNameTables (w : World) (free : List Bool) (names : List TypeNames) : Type 0 where
  pub is_free : free ≡ holds_table w cause.NameTaken
  pub found : map type_names_view names ≡ map (lookups w) w.declared

pub record AreNamesOf (w : World) (n : Names) : Type 0 where
  pub of_files : AreFileTables w n.file_is_first.items n.imports_are_there.items n.first_cycle
  pub of_names : AreNameTables w n.is_free.items n.found.items

-- all tables of a judge: those of names, and whether the rules of map fields hold, by place
pub record AreTablesOf (w : World) (ds : List Declaration) (n : Names) (map_marks : List Bool) : Type 0 where
  pub declared : w.declared ≡ ds
  pub names : AreNamesOf w n
  pub maps : map_marks ≡ holds_table w cause.BadMap

-- what the tables hold at a place
pub record TellsAt (w : World) (place : ℕ) (d : Declaration) (a : At) : Type 0 where
  pub file_is_first : a.file_is_first ≡ holds w place d cause.TwoFiles
  pub imports_are_there : a.imports_are_there ≡ holds w place d cause.MissingImport
  pub reaches_no_cycle : a.reaches_no_cycle ≡ holds w place d cause.ImportCycle
  pub is_free : a.is_free ≡ holds w place d cause.NameTaken
  pub is_map_right : a.is_map_right ≡ holds w place d cause.BadMap
  pub found : type_names_view a.found ≡ lookups w d

abbrev pub is_elsewhere : Option ℕ → ℕ → Bool
is_elsewhere None place = true
is_elsewhere (Some first) place = not (first == place)

-- the entries of the tables at a place
abbrev pub at_place : Names → List Bool → ℕ → At
at_place n map_marks place = record {
  file_is_first = slice_index_or n.file_is_first.items place false;
  imports_are_there = slice_index_or n.imports_are_there.items place false;
  reaches_no_cycle = is_elsewhere n.first_cycle place;
  is_free = slice_index_or n.is_free.items place false;
  is_map_right = slice_index_or map_marks place false;
  found = slice_index_or n.found.items place type_names.None;
}
