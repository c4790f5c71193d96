-- The table of the members of oneofs.
use Rattle.std.specs.Prelude.{◌≡◌, ◌<◌, ℕ, length, List, Some, option_map, slice_get, Vec}
use Rattle.std.specs.declared.alloc.Global.{Global}
use Rattle.pb_schema.specs.Types.{FieldView}
use Rattle.pb_schema.specs.Oneofs.{member_numbers}

-- the numbers of the members of each of this many oneofs, as the fields declare them
pub record IsMemberTable (oneofs : ℕ) (fs : List FieldView) (table : List (Vec ℕ Global)) : Type 0 where
  pub size : length table ≡ oneofs
  pub exact : (o : ℕ) → o < oneofs → option_map (λ v. v.items) (slice_get table o) ≡ Some (member_numbers o fs)
