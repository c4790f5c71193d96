-- Which types the descriptor set in a file makes, by how it is read, and why it makes none: it is not there, is no set, or does not link.
use Rattle.std.specs.Prelude.{◌≡◌, ℕ, List, [], Option, None, Some, slice_get}
use Rattle.pb_wire.specs.Fault.{Fault}
use Rattle.pb_wire.specs.Grammar.{HasFault}
use Rattle.pb_wire.specs.Limits.{full}
use Rattle.pb_schema.specs.Context.{a_message, schema_of}
use Rattle.pb_schema.specs.Names.{message_names}
use Rattle.pb_schema.specs.Tables.{place_of}
use Rattle.pb_schema.specs.Types.{Types}
use Rattle.pb_value.specs.Data.{Message}
use Rattle.pb_declarations.specs.Decls.{DeclaredFile}
use Rattle.pb_descr_message.specs.Causes.{set_causes}
use Rattle.pb_descr_message.specs.Lenient.{IsUnreadLeniently}
use Rattle.pb_descr_message.specs.Omitted.{OmittedView, omitted_in}
use Rattle.pb_descr_message.specs.Pool.{descriptor_types, the_set}
use Rattle.pb_descr_message.specs.Reading.{files_in}
use Rattle.pb_descr_message.specs.Sets.{IsSetText, IsUnread}
use Rattle.pb_descr_message.specs.Without.{without_parts}
use Rattle.pb_descr_message.specs.declared.cause.DeclCause.{DeclCause}
use Rattle.pb_descr_message.specs.declared.error.DescrError.{DescrError}
use Rattle.pb_link.specs.Linking.{Links}
use Rattle.pb_link_rules.specs.Faults.{LinkFault}
use Rattle.pb_link_rules.specs.declared.cause.LinkCause.{LinkCause}
use Rattle.pbtool_files.specs.Answer.{Answer, refused, device_failed}
use Rattle.pbtool_files.specs.Report.{set_fault_line, set_cause_line, link_line, type_line}
use Rattle.pbtool_files.specs.declared.set_file.Reading.{Reading}
use Rattle.pbtool_files.specs.declared.set_file.Reading.TheVariants.{Strict, Lenient}

-- the set that is read: lenient reading takes its parts away
abbrev pub set_by : Reading → Message → Message
set_by Strict set = set
set_by Lenient set = without_parts set

-- what reading leaves out of it
abbrev pub omitted_by : Reading → Message → List OmittedView
omitted_by Strict set = []
omitted_by Lenient set = omitted_in set

-- bytes are a text of a set that, as it is read, shows no cause and has these files, and this of it is left out
pub record IsSetBy (reading : Reading) (b : List ℕ) (files : List DeclaredFile) (omitted : List OmittedView) : Type 0 where
  pub set : Message
  pub text : IsSetText full b set
  pub silent : set_causes (set_by reading set) ≡ []
  pub declared : files ≡ files_in (set_by reading set)
  pub left_out : omitted ≡ omitted_by reading set

-- why bytes are not read
abbrev pub IsUnreadBy : Reading → List ℕ → DescrError → Type 0
IsUnreadBy Strict b = IsUnread full b
IsUnreadBy Lenient b = IsUnreadLeniently full b

-- the bytes of a set make these types, and this of it is left out
pub record HasPool (reading : Reading) (b : List ℕ) (pool : Types) (omitted : List OmittedView) : Type 0 where
  pub files : List DeclaredFile
  pub is_set : IsSetBy reading b files omitted
  pub links : Links files pool

-- they make these types, of which one has the name
pub record HasType (reading : Reading) (name b : List ℕ) (pool : Types) (m : ℕ) : Type 0 where
  pub omitted : List OmittedView
  pub makes : HasPool reading b pool omitted
  pub named : place_of name (message_names pool) ≡ Some m

-- what is answered where the file at the path of a set makes no types
pub data NoPool (reading : Reading) (path : List ℕ) (content : Option (List ℕ)) (answer : Answer) : Type 0 where
  no_file : content ≡ None → answer ≡ device_failed path → NoPool reading path content answer
  no_text :
      {b : List ℕ} {f : Fault} → content ≡ Some b → HasFault (schema_of descriptor_types) (a_message the_set) full b f
      → answer ≡ refused (set_fault_line f) → NoPool reading path content answer
  no_set :
      {b : List ℕ} {set : Message} {i : ℕ} {c : DeclCause} → content ≡ Some b → IsSetText full b set
      → slice_get (set_causes (set_by reading set)) 0 ≡ Some (i, c) → answer ≡ refused (set_cause_line i c) → NoPool reading path content answer
  no_links :
      {b file full_name : List ℕ} {files : List DeclaredFile} {omitted : List OmittedView} {c : LinkCause} → content ≡ Some b
      → IsSetBy reading b files omitted → LinkFault files file full_name c → answer ≡ refused (link_line file full_name c)
      → NoPool reading path content answer

-- what is answered where there is no type of the name
pub data NoType (reading : Reading) (name path : List ℕ) (content : Option (List ℕ)) (answer : Answer) : Type 0 where
  no_pool : NoPool reading path content answer → NoType reading name path content answer
  no_name :
      {b : List ℕ} {pool : Types} {omitted : List OmittedView} → content ≡ Some b → HasPool reading b pool omitted
      → place_of name (message_names pool) ≡ None → answer ≡ refused (type_line name) → NoType reading name path content answer
