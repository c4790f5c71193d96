-- What the rules of files and of free names come to, by place; and when type names may be looked up.
use Rattle.std.specs.Prelude.{ℕ, List, ◌&&◌, ◌||◌, length, take, Bool, true, false, not, nat_lt, nat_le, ◌==◌, ◌^◌, Option, Some, None}
use Rattle.std.specs.List.{list_any, list_all, slice_index_or}
use Rattle.std.specs.Option.{option_map_or}
use Rattle.pb_declarations.specs.Decls.{DeclaredFile}
use Rattle.pb_link_names.specs.Declarations.{Declaration, declarations, is_named, full_name, has_name}
use Rattle.pb_link_names.specs.Lookup.{every_file, is_package_name}
use Rattle.pb_link_rules.specs.Rules.{is_import_index}
use Rattle.pb_graphs.specs.Flat.{lists_of}
use Rattle.pb_graphs.specs.Reach.{next_of}
use Rattle.pb_link_names.specs.Graphs.{AreImports, LeadToFiles, KnowsSight}
use Rattle.pb_link_names.specs.Scene.{IsScene}
use Rattle.pb_link_names.specs.declared.imports.Imports.{Imports}
use Rattle.pb_link_names.specs.declared.scene.Scene.{Scene}
use Rattle.pb_link_names.specs.TypeRefs.{file_in}

-- type names of these files may be looked up, once a file is looked at
pub record IsReady (files : List DeclaredFile) (m : Imports) (s : Scene) : Type 0 where
  pub imports : AreImports files m
  pub lead : LeadToFiles m
  pub sight : KnowsSight m s.sight
  pub scene : IsScene (declarations files) s

-- RULES, by place
-- a file is marked as the first of its name; at what is no file that is true
abbrev pub is_marked_first : Imports → Declaration → Bool
is_marked_first m d = option_map_or (λ f. slice_index_or m.are_first.items d.file false) (file_in d.item) true

-- the imports of a file are right; `found` of them name files
abbrev pub are_right_imports : ℕ → DeclaredFile → Bool
are_right_imports found f = nat_lt (length f.imports) (2 ^ 31) && (found == length f.imports) && list_all (is_import_index f) f.public_indexes

abbrev pub are_imports_there : Imports → Declaration → Bool
are_imports_there m d = option_map_or (are_right_imports (length (next_of (lists_of m.all) d.file))) (file_in d.item) true

abbrev pub is_free_name : List Declaration → ℕ × Declaration → Bool
is_free_name ds e =
    not (is_named e.1.item) || (not (list_any (has_name (full_name e.1)) (take e.0 ds)) && not (is_package_name ds every_file (full_name e.1)))

-- the first place of a name is no earlier one
abbrev pub is_not_before : ℕ → Option ℕ → Bool
is_not_before place None = true
is_not_before place (Some first) = nat_le place first
