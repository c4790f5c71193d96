-- The oneofs of a message, by index.
use Rattle.std.specs.Prelude.{◌≡◌, ℕ, ℤ, pos, negsuc, ◌<◌, nat_lt, List, length, Bool, false, ◌&&◌, if◌then◌else◌, Option, Some, None}
use Rattle.std.specs.List.{slice_index_or, list_any}
use Rattle.pb_declarations.specs.Decls.{DeclaredField, MessageHead}
use Rattle.pb_link_names.specs.Declarations.{is_member_of}
use Rattle.pb_link_names.specs.MarkRules.{how_many}
use Rattle.pb_link_names.specs.declared.marks.oneofs.Oneofs.{Oneofs}

abbrev pub index_below : ℕ → Option ℤ → Option ℕ
index_below n None = None
index_below n (Some (pos i)) = if nat_lt i n then Some i else None
index_below n (Some (negsuc i)) = None

-- the index of a field's oneof, if it is below the number of oneofs
abbrev pub oneof_place : ℕ → DeclaredField → Option ℕ
oneof_place oneofs f = index_below oneofs f.oneof

-- for each of the oneofs, how many of these fields are its members, and whether one of them is optional
pub record AreCounted (fields : List DeclaredField) (oneofs : ℕ) (counts : List ℕ) (marks : List Bool) : Type 0 where
  pub size : length counts ≡ oneofs
  pub marks_size : length marks ≡ oneofs
  pub counted : (o : ℕ) → o < oneofs → slice_index_or counts o 0 ≡ how_many (is_member_of o) fields
  pub marked : (o : ℕ) → o < oneofs → slice_index_or marks o false ≡ list_any (λ f. f.is_optional && is_member_of o f) fields

abbrev pub AreOneofsOf : MessageHead → Oneofs → Type 0
AreOneofsOf head o = AreCounted head.fields (length head.oneofs) o.members.items o.are_synthetic.items
