-- The files that are built in: the path of each, its size in bytes, and the checksum of its bytes (RFC 1950, Adler-32).
use Rattle.std.specs.Prelude.{ℕ, List, [], ◌∷◌, ◌+◌, ◌*◌, ◌%◌, codes, length}
use Rattle.pbtool_layers.specs.declared.overlay.Given.{Given}
use Rattle.pbtool_layers.specs.declared.well_known.Source.{Source}

pub record Summary : Type 0 where
  pub path : List ℕ
  pub size : ℕ
  pub checksum : ℕ

-- the sum of the bytes, and the sum of these sums
abbrev pub checksum_from : ℕ → ℕ → List ℕ → ℕ
checksum_from a b [] = b * 65536 + a
checksum_from a b (x ∷ xs) = checksum_from ((a + x) % 65521) ((b + (a + x)) % 65521) xs

abbrev pub checksum_of : List ℕ → ℕ
checksum_of = checksum_from 1 0

abbrev pub summary : List ℕ → List ℕ → Summary
summary path bytes = record { path = path; size = length bytes; checksum = checksum_of bytes }

abbrev pub summary_of : Given → Summary
summary_of g = summary g.path.now g.bytes.now

abbrev pub source_summary : Source → Summary
source_summary s = summary s.path.now s.text.now

abbrev pub file : List ℕ → ℕ → ℕ → Summary
file path size checksum = record { path = path; size = size; checksum = checksum }

abbrev pub built_in : List Summary
built_in =
    file (codes "<built-in>/google/protobuf/any.proto") 102 414523835
    ∷ file (codes "<built-in>/google/protobuf/api.proto") 603 3663317730
    ∷ file (codes "<built-in>/google/protobuf/descriptor.proto") 6658 3972372047
    ∷ file (codes "<built-in>/google/protobuf/duration.proto") 105 2029527549
    ∷ file (codes "<built-in>/google/protobuf/empty.proto") 61 2612073890
    ∷ file (codes "<built-in>/google/protobuf/field_mask.proto") 95 1143677057
    ∷ file (codes "<built-in>/google/protobuf/source_context.proto") 94 855449725
    ∷ file (codes "<built-in>/google/protobuf/struct.proto") 393 4187651574
    ∷ file (codes "<built-in>/google/protobuf/timestamp.proto") 106 2727682667
    ∷ file (codes "<built-in>/google/protobuf/type.proto") 1501 4291146769
    ∷ file (codes "<built-in>/google/protobuf/wrappers.proto") 428 1057851896
    ∷ []
