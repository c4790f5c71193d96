-- Files in which the paths of a table have the bytes that it gives.
use Rattle.std.specs.Prelude.{ℕ, List, Bool, Option, None, Some, find, option_map}
use Rattle.std.specs.Str.{bytes_eq}
use Rattle.pb_wire.specs.declared.memory.MemInput.{MemInput}
use Rattle.pbtool_files.specs.FileMap.{FileMap}
use Rattle.pbtool_layers.specs.declared.overlay.Given.{Given}
use Rattle.pbtool_layers.specs.declared.overlay.OverlayInput.{OverlayInput}
use Rattle.pbtool_layers.specs.declared.overlay.OverlayInput.TheVariants as input

-- the bytes that the table gives to a path, by its first row of the path
abbrev pub given_at : List Given → List ℕ → Option (List ℕ)
given_at table path = option_map (λ g. g.bytes.now) (find (λ g. bytes_eq g.path.now path) table)

abbrev pub or_else : Option (List ℕ) → Option (List ℕ) → Option (List ℕ)
or_else (Some bytes) other = Some bytes
or_else None other = other

-- the map with the table over it
abbrev pub map_over : List Given → FileMap → FileMap
map_over table map path = or_else (given_at table path) (map path)

abbrev pub contents_over : List Given → Option FileMap → Option FileMap
contents_over table = option_map (map_over table)

-- WHAT IS LEFT OF AN INPUT, AND HOW OFTEN IT FAILED

module _ {A : Type 0} where
  abbrev pub left_of : (A → Option (List ℕ)) → (MemInput → Option (List ℕ)) → OverlayInput A → Option (List ℕ)
  left_of of_file of_given (input.File a) = of_file a
  left_of of_file of_given (input.Given b) = of_given b

  abbrev pub failures_of : (A → ℕ) → (MemInput → ℕ) → OverlayInput A → ℕ
  failures_of of_file of_given (input.File a) = of_file a
  failures_of of_file of_given (input.Given b) = of_given b

  abbrev pub is_steady_of : (A → Bool) → (MemInput → Bool) → OverlayInput A → Bool
  is_steady_of of_file of_given (input.File a) = of_file a
  is_steady_of of_file of_given (input.Given b) = of_given b
