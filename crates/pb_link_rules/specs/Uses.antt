-- Which fields use a type.
use Rattle.std.specs.Prelude.{◌≡◌, ◌<◌, ℕ, List, [], ◌∷◌, length, Bool, true, false, ◌==◌, ◌&&◌, if◌then◌else◌, Option, Some, None, slice_get}
use Rattle.std.specs.List.{slice_index_or}
use Rattle.std.specs.Str.{bytes_eq}
use Rattle.pb_schema.specs.Names.{entry_name}
use Rattle.pb_declarations.specs.Decls.{DeclaredField}
use Rattle.pb_link_names.specs.Declarations.{Item, a_file, a_message, a_field, a_oneof, an_enum, a_value, a_service, a_method, Declaration}
use Rattle.pb_link_names.specs.Lookup.{Found}
use Rattle.pb_link_rules.specs.Rules.{place_found}
use Rattle.pb_link_rules.specs.declared.rules.uses.Users.{Users}
use Rattle.pb_link_rules.specs.declared.rules.uses.Users.TheVariants as users

-- the field, of a declaration of one
abbrev pub field_in : Item → Option DeclaredField
field_in (a_file f) = None
field_in (a_message head inner) = None
field_in (a_field head i f) = Some f
field_in (a_oneof head i name) = None
field_in (an_enum e) = None
field_in (a_value e i v) = None
field_in (a_service s) = None
field_in (a_method m) = None

-- the name, of a message
abbrev pub message_name_in : Item → Option (List ℕ)
message_name_in (a_file f) = None
message_name_in (a_message head inner) = Some head.name
message_name_in (a_field head i f) = None
message_name_in (a_oneof head i name) = None
message_name_in (an_enum e) = None
message_name_in (a_value e i v) = None
message_name_in (a_service s) = None
message_name_in (a_method m) = None

-- a field is repeated and gives a message its name
abbrev pub gives : Option DeclaredField → Option (List ℕ) → Bool
gives None name = false
gives (Some f) None = false
gives (Some f) (Some name) = f.is_repeated && bytes_eq (entry_name f.name) name

-- the place of the type that a field uses
abbrev pub target_by : Bool → List Found → Option ℕ
target_by false fs = None
target_by true [] = None
target_by true (f ∷ []) = place_found f
target_by true (f ∷ g ∷ fs) = None

abbrev pub is_target : ℕ → Option ℕ → Bool
is_target p None = false
is_target p (Some q) = p == q

abbrev pub with_user : Users → ℕ → Users
with_user users.None place = users.One place
with_user (users.One first) place = users.Many
with_user users.Many place = users.Many

abbrev pub users_at : List Users → ℕ → Users
users_at all p = slice_index_or all p users.None

-- the place of a user is noted at its target
pub record AddsUser (place : ℕ) (target : Option ℕ) (old new : List Users) : Type 0 where
  pub size : length new ≡ length old
  pub each : (p : ℕ) → p < length old → users_at new p ≡ (if is_target p target then with_user (users_at old p) place else users_at old p)

-- how many some declarations are: none, the one at a place, or more
abbrev pub Sums : List Declaration → Users → List Declaration → Type 0
Sums ds users.None of = of ≡ []
Sums ds (users.One place) of = (d : Declaration) × (slice_get ds place ≡ Some d) × (of ≡ d ∷ [])
Sums ds users.Many of = (d : Declaration) × (e : Declaration) × (rest : List Declaration) × (of ≡ d ∷ e ∷ rest)
