-- How declarations are resolved from the types found for all type names, in declaration order, and what of that list is left after each.
-- Words for the contracts of private functions; no public contract rests on them.
use Rattle.std.specs.Prelude.{List, [], ◌∷◌, length, drop, map, Option, None}
use Rattle.pb_declarations.specs.Decls.{DeclaredField, DeclaredEnum, MessageHead, DeclaredMessage, message, DeclaredMessages}
use Rattle.pb_declarations.specs.Decls.{no_messages, more_messages, DeclaredMethod, DeclaredService, DeclaredFile}
use Rattle.pb_link_names.specs.Declarations.{Declaration}
use Rattle.pb_link_names.specs.Lookup.{Found}
use Rattle.pb_link.specs.Resolved.{type_at, field_of_type, method_of_types}
use Rattle.pb_link_names.specs.View.{type_names_view}
use Rattle.pb_link.specs.declared.resolving.upcoming.Upcoming.{Upcoming}

-- the types found for the names of the declarations that come next
abbrev pub coming : Upcoming → List (List Found)
coming u = map type_names_view u.rest.now

-- those of the next declaration
abbrev pub names_here : List (List Found) → List Found
names_here [] = []
names_here (n ∷ ns) = n

-- the types that the first name and the second one mean
abbrev pub first_type : List Declaration → List Found → Option Declaration
first_type ds [] = None
first_type ds (r ∷ rs) = type_at ds r

abbrev pub second_type : List Declaration → List Found → Option Declaration
second_type ds [] = None
second_type ds (q ∷ rs) = first_type ds rs

-- EACH OF A LIST IN TURN: its resolved form, and what of the list of found types is left after it

abbrev pub each_read : {A X Z : Type 0} → (List A → X → Z) → (X → List A → List A) → List A → List X → List Z
each_read read behind ns [] = []
each_read read behind ns (x ∷ xs) = read ns x ∷ each_read read behind (behind x ns) xs

abbrev pub each_behind : {A X : Type 0} → (X → List A → List A) → List X → List A → List A
each_behind behind [] ns = ns
each_behind behind (x ∷ xs) ns = each_behind behind xs (behind x ns)

-- WHAT IS LEFT AFTER A DECLARATION

abbrev pub behind_one : {A X : Type 0} → X → List A → List A
behind_one x ns = drop 1 ns

abbrev pub behind_enum : {A : Type 0} → DeclaredEnum → List A → List A
behind_enum e ns = drop (length e.values) (drop 1 ns)

-- after a message itself, its fields and its oneofs
abbrev pub behind_head : {A : Type 0} → MessageHead → List A → List A
behind_head head ns = drop (length head.oneofs) (each_behind behind_one head.fields (drop 1 ns))

abbrev mutual
  pub behind_message : {A : Type 0} → DeclaredMessage → List A → List A
  behind_message (message head inner) ns = each_behind behind_enum head.enums (behind_messages inner (behind_head head ns))

  pub behind_messages : {A : Type 0} → DeclaredMessages → List A → List A
  behind_messages no_messages ns = ns
  behind_messages (more_messages m ms) ns = behind_messages ms (behind_message m ns)

abbrev pub behind_service : {A : Type 0} → DeclaredService → List A → List A
behind_service s ns = each_behind behind_one s.methods (drop 1 ns)

-- after the messages and enums of a file
abbrev pub behind_types : {A : Type 0} → DeclaredFile → List A → List A
behind_types f ns = each_behind behind_enum f.enums (behind_messages f.messages (drop 1 ns))

abbrev pub behind_file : {A : Type 0} → DeclaredFile → List A → List A
behind_file f ns = each_behind behind_service f.services (behind_types f ns)

-- THE RESOLVED DECLARATIONS

abbrev pub field_read : List Declaration → List (List Found) → DeclaredField → DeclaredField
field_read ds ns f = field_of_type f (first_type ds (names_here ns))

abbrev pub fields_read : List Declaration → List (List Found) → List DeclaredField → List DeclaredField
fields_read ds ns fs = each_read (field_read ds) behind_one ns fs

abbrev pub head_read : List Declaration → List (List Found) → MessageHead → MessageHead
head_read ds ns head = record head { fields = fields_read ds (drop 1 ns) head.fields }

abbrev mutual
  pub message_read : List Declaration → List (List Found) → DeclaredMessage → DeclaredMessage
  message_read ds ns (message head inner) = message (head_read ds ns head) (messages_read ds (behind_head head ns) inner)

  pub messages_read : List Declaration → List (List Found) → DeclaredMessages → DeclaredMessages
  messages_read ds ns no_messages = no_messages
  messages_read ds ns (more_messages m ms) = more_messages (message_read ds ns m) (messages_read ds (behind_message m ns) ms)

abbrev pub method_read : List Declaration → List (List Found) → DeclaredMethod → DeclaredMethod
method_read ds ns m = method_of_types m (first_type ds (names_here ns)) (second_type ds (names_here ns))

abbrev pub methods_read : List Declaration → List (List Found) → List DeclaredMethod → List DeclaredMethod
methods_read ds ns ms = each_read (method_read ds) behind_one ns ms

abbrev pub service_read : List Declaration → List (List Found) → DeclaredService → DeclaredService
service_read ds ns s = record s { methods = methods_read ds (drop 1 ns) s.methods }

abbrev pub services_read : List Declaration → List (List Found) → List DeclaredService → List DeclaredService
services_read ds ns ss = each_read (service_read ds) behind_service ns ss

abbrev pub file_read : List Declaration → List (List Found) → DeclaredFile → DeclaredFile
file_read ds ns f = record f { messages = messages_read ds (drop 1 ns) f.messages; services = services_read ds (behind_types f ns) f.services }

abbrev pub files_read : List Declaration → List (List Found) → List DeclaredFile → List DeclaredFile
files_read ds ns fs = each_read (file_read ds) behind_file ns fs
