-- Which bytes are a set of files that is read leniently, and why others are not: all as in strict reading, of the set without its parts.
use Rattle.std.specs.Prelude.{◌≡◌, ⊤, ℕ, List, [], slice_get, Some}
use Rattle.pb_wire.specs.Limits.{Bounds}
use Rattle.pb_wire.specs.Fault.{fault}
use Rattle.pb_wire.specs.Grammar.{HasFault}
use Rattle.pb_schema.specs.Context.{a_message, schema_of}
use Rattle.pb_value.specs.Data.{Message}
use Rattle.pb_declarations.specs.Decls.{DeclaredFile}
use Rattle.pb_descr_message.specs.declared.error.DescrError.{DescrError}
use Rattle.pb_descr_message.specs.declared.error.DescrError.TheVariants as descr
use Rattle.pb_descr_message.specs.Pool.{the_set, descriptor_types}
use Rattle.pb_descr_message.specs.Reading.{files_in}
use Rattle.pb_descr_message.specs.Causes.{set_causes}
use Rattle.pb_descr_message.specs.Sets.{IsSetText}
use Rattle.pb_descr_message.specs.Without.{without_parts}
use Rattle.pb_descr_message.specs.Omitted.{OmittedView, omitted_in}

-- bytes are a text of a set that without its parts shows no cause and has these files, and these are its parts
pub record IsLenientSetOf (limits : Bounds) (b : List ℕ) (files : List DeclaredFile) (omitted : List OmittedView) : Type 0 where
  pub set : Message
  pub text : IsSetText limits b set
  pub silent : set_causes (without_parts set) ≡ []
  pub declared : files ≡ files_in (without_parts set)
  pub left_out : omitted ≡ omitted_in set

-- bytes are not the text of a set, or are that of one whose first cause without its parts is reported, or there is no memory
abbrev pub IsUnreadLeniently : Bounds → List ℕ → DescrError → Type 0
IsUnreadLeniently limits b (descr.Fault byte path cause) = HasFault (schema_of descriptor_types) (a_message the_set) limits b (fault byte path.items cause)
IsUnreadLeniently limits b (descr.Decl file cause) =
    (set : Message) × IsSetText limits b set × (slice_get (set_causes (without_parts set)) 0 ≡ Some (file, cause))
IsUnreadLeniently limits b descr.Memory = ⊤
