-- When declarations link, and what is reported where they don't: the first rule that fails, by file, declaration and cause.
use Rattle.std.specs.Prelude.{◌≡◌, ℕ, ◌+◌, ◌<◌, ◌≤◌, ◌⊎◌, List, [], ◌∷◌, Bool, true, not, ◌&&◌, Option, Some, None, IsFalse, find, slice_get}
use Rattle.pb_declarations.specs.Decls.{DeclaredFile}
use Rattle.pb_link_rules.specs.declared.cause.LinkCause.{LinkCause}
use Rattle.pb_link_rules.specs.declared.cause.LinkCause.TheVariants as cause
use Rattle.pb_link_rules.specs.CauseName.{cause_number}
use Rattle.pb_link_names.specs.Sees.{IsSightOf}
use Rattle.pb_link_names.specs.Declarations.{Item, a_file, a_message, a_field, a_oneof, an_enum, a_value, a_service, a_method, Declaration, declarations}
use Rattle.pb_link_names.specs.Lookup.{not_found, not_visible, not_a_type}
use Rattle.pb_link_rules.specs.Rules.{World, file_name_is_first, imports_are_there, reaches_no_cycle, name_is_right, name_is_free}
use Rattle.pb_link_rules.specs.Rules.{is_looked_up, is_field_number, is_map_right, is_packed_right, begins_right, is_type_right}
use Rattle.pb_link_rules.specs.Rules.{is_two, is_marked_optional, is_enum_right, passes, is_message, lookups}
use Rattle.pb_link_names.specs.MarkRules.{number_is_free, is_not_reserved, is_oneof_right, ranges_are_right}
use Rattle.std.specs.List.{list_all}

-- the rule of a cause holds of the declaration at a place
abbrev pub holds : World → ℕ → Declaration → LinkCause → Bool
holds w place d c = by_cause c
  where
    of_file : (DeclaredFile → Bool) → Item → Bool
    of_file rule (a_file f) = rule f
    of_file rule (a_message head inner) = true
    of_file rule (a_field head i f) = true
    of_file rule (a_oneof head i name) = true
    of_file rule (an_enum e) = true
    of_file rule (a_value e i v) = true
    of_file rule (a_service s) = true
    of_file rule (a_method m) = true

    number : Item → Bool
    number (a_field head i f) = is_field_number f.number
    number (a_file f) = true
    number (a_message head inner) = true
    number (a_oneof head i name) = true
    number (an_enum e) = true
    number (a_value e i v) = true
    number (a_service s) = true
    number (a_method m) = true

    packed : Item → Bool
    packed (a_field head i f) = is_packed_right w d f
    packed (a_file f) = true
    packed (a_message head inner) = true
    packed (a_oneof head i name) = true
    packed (an_enum e) = true
    packed (a_value e i v) = true
    packed (a_service s) = true
    packed (a_method m) = true

    zero_first : Item → Bool
    zero_first (an_enum e) = begins_right (is_two w.files d.file) e
    zero_first (a_file f) = true
    zero_first (a_message head inner) = true
    zero_first (a_field head i f) = true
    zero_first (a_oneof head i name) = true
    zero_first (a_value e i v) = true
    zero_first (a_service s) = true
    zero_first (a_method m) = true

    kind : Item → Bool
    kind (a_field head i f) = is_type_right w d f
    kind (a_method m) = list_all (passes w is_message) (lookups w d)
    kind (a_file f) = true
    kind (a_message head inner) = true
    kind (a_oneof head i name) = true
    kind (an_enum e) = true
    kind (a_value e i v) = true
    kind (a_service s) = true

    open_enum : Item → Bool
    open_enum (a_field head i f) = is_enum_right w d
    open_enum (a_file f) = true
    open_enum (a_message head inner) = true
    open_enum (a_oneof head i name) = true
    open_enum (an_enum e) = true
    open_enum (a_value e i v) = true
    open_enum (a_service s) = true
    open_enum (a_method m) = true

    by_cause : LinkCause → Bool
    by_cause cause.TwoFiles = of_file (file_name_is_first w place) d.item
    by_cause cause.MissingImport = of_file (imports_are_there w) d.item
    by_cause cause.ImportCycle = of_file (λ f. reaches_no_cycle w d) d.item
    by_cause cause.BadName = name_is_right d.item
    by_cause cause.NameTaken = name_is_free w place d
    by_cause cause.NotFound = is_looked_up not_found w d
    by_cause cause.NotVisible = is_looked_up not_visible w d
    by_cause cause.NotAType = is_looked_up not_a_type w d
    by_cause cause.BadNumber = number d.item
    by_cause cause.NumberTaken = number_is_free d.item
    by_cause cause.Reserved = is_not_reserved d.item
    by_cause cause.BadOneof = not (is_marked_optional d.item && is_two w.files d.file) && is_oneof_right d.item
    by_cause cause.BadMap = is_map_right w place d
    by_cause cause.BadPacked = packed d.item
    by_cause cause.BadEnum = zero_first d.item
    by_cause cause.KindMismatch = kind d.item
    by_cause cause.BadRange = ranges_are_right d.item
    by_cause cause.ClosedEnum = open_enum d.item

-- the rule of the cause fails at a place
abbrev pub Fails : World → ℕ → LinkCause → Type 0
Fails w place c = (d : Declaration) × (slice_get w.declared place ≡ Some d) × IsFalse (holds w place d c)

-- no rule fails anywhere
abbrev pub NothingFails : World → Type 0
NothingFails w = (place : ℕ) (c : LinkCause) → ¬ Fails w place c

-- the rule fails there, and no rule fails before, nor one of a lesser cause there
pub record FailsFirst (w : World) (place : ℕ) (c : LinkCause) : Type 0 where
  pub fails : Fails w place c
  pub first : (p : ℕ) (e : LinkCause) → Fails w p e → (place < p) ⊎ ((place ≡ p) × (cause_number c ≤ cause_number e))

pub record IsWorldOf (files : List DeclaredFile) (w : World) : Type 0 where
  pub declared : w.declared ≡ declarations files
  pub sight : IsSightOf files w.sight
  pub in_files : w.files ≡ files

-- the causes by their numbers
abbrev pub all_causes : List LinkCause
all_causes =
    cause.TwoFiles ∷ cause.MissingImport ∷ cause.ImportCycle ∷ cause.BadName ∷ cause.NameTaken ∷ cause.NotFound ∷ cause.NotVisible
    ∷ cause.NotAType ∷ cause.BadNumber ∷ cause.NumberTaken ∷ cause.Reserved ∷ cause.BadOneof ∷ cause.BadMap ∷ cause.BadPacked
    ∷ cause.BadEnum ∷ cause.KindMismatch ∷ cause.BadRange ∷ cause.ClosedEnum ∷ []

-- the least cause of a rule that fails at a place
abbrev pub first_cause : World → ℕ → Declaration → Option LinkCause
first_cause w place d = find (λ c. not (holds w place d c)) all_causes

abbrev pub or_later : ℕ → Option LinkCause → Option (ℕ × LinkCause) → Option (ℕ × LinkCause)
or_later place None later = later
or_later place (Some c) later = Some (place, c)

-- the first of these declarations, which begin at a place, for which `judge` gives a cause
abbrev pub first_told : (ℕ → Declaration → Option LinkCause) → ℕ → List Declaration → Option (ℕ × LinkCause)
first_told judge place [] = None
first_told judge place (d ∷ ds) = or_later place (judge place d) (first_told judge (place + 1) ds)

-- the first at which a rule fails, with the least cause there
abbrev pub first_fault : World → ℕ → List Declaration → Option (ℕ × LinkCause)
first_fault w place ds = first_told (first_cause w) place ds

-- LINKING: every rule holds; or the least fault
abbrev pub LinkOk : List DeclaredFile → Type 0
LinkOk files = (w : World) × IsWorldOf files w × NothingFails w

abbrev pub LinkFirst : List DeclaredFile → ℕ → LinkCause → Type 0
LinkFirst files place c = (w : World) × IsWorldOf files w × FailsFirst w place c
