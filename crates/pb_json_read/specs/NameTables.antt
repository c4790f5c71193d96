-- Tables of names, by which one look-up finds what a walk along fields, or along the values of an enum, finds.
use Rattle.std.specs.Prelude.{◌≡◌, ℕ, ℤ, List, Option, None, Some, IfSome, Vec, if◌then◌else◌}
use Rattle.std.specs.BTreeMap.{BTreeMap, get, get_by}
use Rattle.std.specs.Cmp.Lexicographic.{slice_cmp}
use Rattle.std.specs.List.{position_from}
use Rattle.std.specs.Option.{option_or}
use Rattle.std.specs.Ordering.{nat_cmp}
use Rattle.std.specs.declared.alloc.Global.{Global}
use Rattle.pb_schema.specs.EnumValues.{enum_values}
use Rattle.pb_schema.specs.Types.{FieldView, Types, message_fields}
use Rattle.pb_json.specs.Given.{NamesGiven, name_given}
use Rattle.pb_json.specs.JsonNames.{json_name}
use Rattle.pb_json_read.specs.declared.name_table.Naming.{Naming}
use Rattle.pb_json_read.specs.declared.name_table.Naming.TheVariants.{Given, Declared, InJson}
use Rattle.pb_json_read.specs.Names.{is_given}

-- names, each with an index
abbrev pub NameTable : Type 0
NameTable = BTreeMap (Vec ℕ Global) ℕ

-- the index that a table has for a name
abbrev pub place_in : NameTable → List ℕ → Option ℕ
place_in t name = get_by (λ k. slice_cmp nat_cmp name k.items) t

-- the index, where it is that of the name
abbrev pub place_if : Option (List ℕ) → ℕ → List ℕ → Option ℕ
place_if own i name = if is_given own name then Some i else None

-- the index of the first thing that has the name
abbrev pub first_named : {X : Type 0} → (X → Option (List ℕ)) → List X → List ℕ → Option ℕ
first_named name_of xs name = position_from (λ x. is_given (name_of x) name) 0 xs

-- the name of a sort that a field of the message type at an index has
abbrev pub name_by : Naming → NamesGiven → ℕ → FieldView → Option (List ℕ)
name_by Given names m f = name_given names m f.number
name_by Declared names m f = Some f.name
name_by InJson names m f = Some (json_name names m f)

-- the index of the first field that is given the name, or is declared by it, or else has it in JSON
abbrev pub place_meant : NamesGiven → ℕ → List FieldView → List ℕ → Option ℕ
place_meant names m fs name =
    option_or (first_named (name_by Given names m) fs name) (option_or (first_named (name_by Declared names m) fs name)
    (first_named (name_by InJson names m) fs name))

abbrev pub IsFieldTable : NamesGiven → ℕ → List FieldView → NameTable → Type 0
IsFieldTable names m fs t = (name : List ℕ) → place_in t name ≡ place_meant names m fs name

abbrev pub value_name : List ℕ × ℤ → Option (List ℕ)
value_name v = Some v.0

abbrev pub IsValueTable : List (List ℕ × ℤ) → NameTable → Type 0
IsValueTable values t = (name : List ℕ) → place_in t name ≡ first_named value_name values name

-- tables of some message types of a pool, each under the type's index
abbrev pub AreFieldTables : Types → NamesGiven → BTreeMap ℕ NameTable → Type 0
AreFieldTables pool names ts = (m : ℕ) → IfSome (get nat_cmp ts m) (IsFieldTable names m (message_fields pool m))

-- tables of some enums of a pool, each under the enum's index
abbrev pub AreValueTables : Types → BTreeMap ℕ NameTable → Type 0
AreValueTables pool ts = (e : ℕ) → IfSome (get nat_cmp ts e) (IsValueTable (enum_values pool e))
