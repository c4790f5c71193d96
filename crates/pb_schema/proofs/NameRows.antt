-- Worked rows of names.
use Rattle.std.proofs.Common.{◌≡◌, [], ◌∷◌, pos, true, false, Some, None, refl}
use Rattle.std.specs.Prelude.{codes}
use Rattle.pb_schema.specs.Types.{FileView, MessageView}
use Rattle.pb_schema.specs.Names.{is_word, is_package, packages_of, in_scope, entry_name, declared_by_enum}

words : (is_word (codes "_a1") ≡ true) × (is_word (codes "1a") ≡ false) × (is_word (codes "a.b") ≡ false) × (is_word [] ≡ false)
words = (refl, refl, refl, refl)

package_names : (is_package [] ≡ true) × (is_package (codes "a.b") ≡ true) × (is_package (codes "a..b") ≡ false) × (is_package (codes ".a") ≡ false) × (is_package (codes "a.") ≡ false)
package_names = (refl, refl, refl, refl, refl)

-- each prefix of a package's name is a package
packages : packages_of (codes "a.b.c") ≡ codes "a.b.c" ∷ codes "a" ∷ codes "a.b" ∷ []
packages = refl

entry_names : (entry_name (codes "my_map") ≡ codes "MyMapEntry") × (entry_name (codes "a1_b_C") ≡ codes "A1BCEntry") × (entry_name (codes "__x") ≡ codes "XEntry")
entry_names = (refl, refl, refl)

names_in_scopes : (in_scope [] (codes "M") ≡ codes "M") × (in_scope (codes "a.b") (codes "M") ≡ codes "a.b.M")
names_in_scopes = (refl, refl)

abbrev a_file : FileView
a_file = record { name = codes "f.proto"; package_name = codes "p"; imports = []; proto2 = false }

abbrev a_message : MessageView
a_message = record { name = codes "M"; file = 0; parent = None; fields = []; oneofs = [] }

-- a value is in the scope around its enum: beside the enum, not inside it
values_beside_enums : declared_by_enum (a_file ∷ []) (a_message ∷ []) (record { name = codes "E"; file = 0; parent = None; values = (codes "V", pos 0) ∷ [] }) ≡ codes "p.E" ∷ codes "p.V" ∷ []
values_beside_enums = refl

values_in_messages : declared_by_enum (a_file ∷ []) (a_message ∷ []) (record { name = codes "E"; file = 0; parent = Some 0; values = (codes "V", pos 0) ∷ [] }) ≡ codes "p.M.E" ∷ codes "p.M.V" ∷ []
values_in_messages = refl
