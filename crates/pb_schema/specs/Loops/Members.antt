-- Bits that say which oneofs have members; lists of the oneofs' members.
use Rattle.std.specs.Prelude.{◌≡◌, ◌<◌, ◌↔◌, ◌⊎◌, ℕ, List, [], ◌∷◌, ◌++◌, length, Bool, false, IsTrue, if◌then◌else◌, Some, option_map, Vec, slice_get}
use Rattle.std.specs.declared.alloc.Global.{Global}
use Rattle.pb_schema.specs.Oneofs.{is_member}
use Rattle.std.specs.List.{slice_index_or}
use Rattle.pb_schema.specs.declared.types.Shape.{Shape}
use Rattle.pb_schema.specs.Types.{FieldView}
use Rattle.pb_schema.specs.Rules.{IsMemberOf, HasMember}

-- the bit of the oneof that the shape is a member of is set too
pub record NotesMember (s : Shape) (old new : List Bool) : Type 0 where
  pub size : length new ≡ length old
  pub exact : (o : ℕ) → o < length old → IsTrue (slice_index_or new o false) ↔ (IsTrue (slice_index_or old o false) ⊎ IsMemberOf o s)

-- a bit for each of this many oneofs says whether a field is a member
pub record AreMembers (oneofs : ℕ) (fs : List FieldView) (bits : List Bool) : Type 0 where
  pub size : length bits ≡ oneofs
  pub exact : (o : ℕ) → o < oneofs → IsTrue (slice_index_or bits o false) ↔ HasMember o fs

-- the number of the field is appended to the members of its oneof, where there is such a oneof
pub record AddsMember (f : FieldView) (old new : List (Vec ℕ Global)) : Type 0 where
  pub size : length new ≡ length old
  pub exact : (o : ℕ) (ns : List ℕ) → option_map (λ v. v.items) (slice_get old o) ≡ Some ns
      → option_map (λ v. v.items) (slice_get new o) ≡ Some (if is_member o f.shape then ns ++ f.number ∷ [] else ns)
