-- What the type names of all declarations came to, taken in declaration order, resolves them as looking up each in its scope does.
use Rattle.std.proofs.Common.{◌≡◌, ℕ, ◌+◌, List, [], ◌∷◌, ◌++◌, length, map, drop, refl, sym, ap, ◌∙◌, append_assoc, append-nil, Option, Some, None}
use Rattle.std.specs.Prelude.{option_and_then}
use Rattle.std.specs.List.{enumerate_from}
use Rattle.std.proofs.lemmas.List.{map-append}
use Rattle.pb_schema.specs.Names.{in_scope}
use Rattle.pb_declarations.specs.Decls.{DeclaredField, DeclaredEnum, MessageHead, DeclaredMessage, message, DeclaredMessages, no_messages, more_messages, DeclaredMethod, DeclaredService, DeclaredFile}
use Rattle.pb_link_names.specs.Declarations.{Declaration, a_field, a_oneof, a_value, fields_of, oneofs_of, enum_declared, enums_declared, head_row, message_declared, messages_declared, methods_of, service_declared, services_declared, file_declared, files_declared, declarations}
use Rattle.pb_link_names.specs.Lookup.{Found}
use Rattle.pb_link_rules.specs.Rules.{World, lookups, lookups_if}
use Rattle.pb_link_rules.specs.Link.{IsWorldOf}
use Rattle.pb_link_rules.proofs.ExactLemmas.{one_world}
use Rattle.pb_link.specs.Resolved.{type_meant, field_of_type, resolved_field, resolved_head, resolved_message, resolved_messages, resolved_method, resolved_service, resolved_file, resolved_files, Resolves}
use Rattle.pb_link.specs.Resolving.{first_type, each_behind, behind_one, behind_enum, behind_head, behind_message, behind_messages, behind_service, behind_types, behind_file, fields_read, head_read, message_read, messages_read, methods_read, services_read, file_read, files_read}

-- THE ROW IN PARTS

two : {D A : Type 0} (h : D → A) (xs ys : List D) (more : List A) → map h (xs ++ ys) ++ more ≡ map h xs ++ (map h ys ++ more)
two h xs ys more = ap (λ l. l ++ more) (map-append h xs ys) ∙ append_assoc (map h xs) (map h ys) more

three : {D A : Type 0} (h : D → A) (xs ys zs : List D) (more : List A) → map h (xs ++ ys ++ zs) ++ more ≡ map h xs ++ (map h ys ++ (map h zs ++ more))
three h xs ys zs more = two h (xs ++ ys) zs more ∙ two h xs ys (map h zs ++ more)

-- WHAT IS LEFT BEHIND DECLARATIONS

left_each : {X D A : Type 0} (h : D → A) (g : ℕ × X → D) (i : ℕ) (xs : List X) (more : List A) → each_behind behind_one xs (map h (map g (enumerate_from i xs)) ++ more) ≡ more
left_each h g i [] more = refl
left_each h g i (x ∷ xs) more = left_each h g (i + 1) xs more

left_dropped : {X D A : Type 0} (h : D → A) (g : ℕ × X → D) (i : ℕ) (xs : List X) (more : List A) → drop (length xs) (map h (map g (enumerate_from i xs)) ++ more) ≡ more
left_dropped h g i [] more = refl
left_dropped h g i (x ∷ xs) more = left_dropped h g (i + 1) xs more

left_methods : {A : Type 0} (h : Declaration → A) (file place : ℕ) (name : List ℕ) (ms : List DeclaredMethod) (more : List A) → each_behind behind_one ms (map h (methods_of file place name ms) ++ more) ≡ more
left_methods h file place name [] more = refl
left_methods h file place name (m ∷ ms) more = left_methods h file place name ms more

left_enums : {A : Type 0} (h : Declaration → A) (file parent : ℕ) (scope : List ℕ) (place : ℕ) (es : List DeclaredEnum) (more : List A) → each_behind behind_enum es (map h (enums_declared file parent scope place es) ++ more) ≡ more
left_enums h file parent scope place [] more = refl
left_enums h file parent scope place (e ∷ es) more =
    let own : List Declaration = enum_declared file parent scope place e in
    let rest : List Declaration = enums_declared file parent scope (place + length own) es in
    ap (λ ns. each_behind behind_enum es (behind_enum e ns)) (two h own rest more)
    ∙ ap (each_behind behind_enum es) (left_dropped h (λ v. record { file = file; parent = place; scope = scope; item = a_value e v.0 v.1 }) 0 e.values (map h rest ++ more))
    ∙ left_enums h file parent scope (place + length own) es more

left_head : {A : Type 0} (h : Declaration → A) (file parent : ℕ) (scope name : List ℕ) (place : ℕ) (head : MessageHead) (inner : DeclaredMessages) (more : List A) → behind_head head (map h (head_row file parent scope name place (message head inner)) ++ more) ≡ more
left_head h file parent scope name place head inner more =
    let fields : List Declaration = fields_of file place name head head.fields in
    let oneofs : List Declaration = oneofs_of file place name head head.oneofs in
    ap (λ ns. drop (length head.oneofs) (each_behind behind_one head.fields ns)) (two h fields oneofs more)
    ∙ ap (drop (length head.oneofs)) (left_each h (λ e. record { file = file; parent = place; scope = name; item = a_field head e.0 e.1 }) 0 head.fields (map h oneofs ++ more))
    ∙ left_dropped h (λ e. record { file = file; parent = place; scope = name; item = a_oneof head e.0 e.1 }) 0 head.oneofs more

mutual
  left_message : {A : Type 0} (h : Declaration → A) (file parent : ℕ) (scope : List ℕ) (place : ℕ) (m : DeclaredMessage) (more : List A) → behind_message m (map h (message_declared file parent scope place m) ++ more) ≡ more
  left_message h file parent scope place (message head inner) more =
      let name = in_scope scope head.name in
      let own : List Declaration = head_row file parent scope name place (message head inner) in
      let nested : List Declaration = messages_declared file place name (place + length own) inner in
      let enums : List Declaration = enums_declared file place name (place + length own + length nested) head.enums in
      ap (λ ns. each_behind behind_enum head.enums (behind_messages inner (behind_head head ns))) (three h own nested enums more)
      ∙ ap (λ ns. each_behind behind_enum head.enums (behind_messages inner ns)) (left_head h file parent scope name place head inner (map h nested ++ (map h enums ++ more)))
      ∙ ap (each_behind behind_enum head.enums) (left_messages h file place name (place + length own) inner (map h enums ++ more))
      ∙ left_enums h file place name (place + length own + length nested) head.enums more

  left_messages : {A : Type 0} (h : Declaration → A) (file parent : ℕ) (scope : List ℕ) (place : ℕ) (ms : DeclaredMessages) (more : List A) → behind_messages ms (map h (messages_declared file parent scope place ms) ++ more) ≡ more
  left_messages h file parent scope place no_messages more = refl
  left_messages h file parent scope place (more_messages m ms) more =
      let own : List Declaration = message_declared file parent scope place m in
      let rest : List Declaration = messages_declared file parent scope (place + length own) ms in
      ap (λ ns. behind_messages ms (behind_message m ns)) (two h own rest more)
      ∙ ap (behind_messages ms) (left_message h file parent scope place m (map h rest ++ more))
      ∙ left_messages h file parent scope (place + length own) ms more

left_services : {A : Type 0} (h : Declaration → A) (file parent : ℕ) (scope : List ℕ) (place : ℕ) (ss : List DeclaredService) (more : List A) → each_behind behind_service ss (map h (services_declared file parent scope place ss) ++ more) ≡ more
left_services h file parent scope place [] more = refl
left_services h file parent scope place (s ∷ ss) more =
    let own : List Declaration = service_declared file parent scope place s in
    let rest : List Declaration = services_declared file parent scope (place + length own) ss in
    ap (λ ns. each_behind behind_service ss (behind_service s ns)) (two h own rest more)
    ∙ ap (each_behind behind_service ss) (left_methods h file place (in_scope scope s.name) s.methods (map h rest ++ more))
    ∙ left_services h file parent scope (place + length own) ss more

-- the declarations of a file, itself aside
abbrev messages_in : ℕ → ℕ → DeclaredFile → List Declaration
messages_in file place f = messages_declared file place f.package_name (place + 1) f.messages

abbrev enums_in : ℕ → ℕ → DeclaredFile → List Declaration
enums_in file place f = enums_declared file place f.package_name (place + 1 + length (messages_in file place f)) f.enums

abbrev services_in : ℕ → ℕ → DeclaredFile → List Declaration
services_in file place f = services_declared file place f.package_name (place + 1 + length (messages_in file place f) + length (enums_in file place f)) f.services

left_types : {A : Type 0} (h : Declaration → A) (file place : ℕ) (f : DeclaredFile) (more : List A) → behind_types f (map h (file_declared file place f) ++ more) ≡ map h (services_in file place f) ++ more
left_types h file place f more =
    ap (λ ns. each_behind behind_enum f.enums (behind_messages f.messages ns)) (three h (messages_in file place f) (enums_in file place f) (services_in file place f) more)
    ∙ ap (each_behind behind_enum f.enums) (left_messages h file place f.package_name (place + 1) f.messages (map h (enums_in file place f) ++ (map h (services_in file place f) ++ more)))
    ∙ left_enums h file place f.package_name (place + 1 + length (messages_in file place f)) f.enums (map h (services_in file place f) ++ more)

left_file : {A : Type 0} (h : Declaration → A) (file place : ℕ) (f : DeclaredFile) (more : List A) → behind_file f (map h (file_declared file place f) ++ more) ≡ more
left_file h file place f more =
    ap (each_behind behind_service f.services) (left_types h file place f more)
    ∙ left_services h file place f.package_name (place + 1 + length (messages_in file place f) + length (enums_in file place f)) f.services more

-- WHAT DECLARATIONS COME TO

first_meant : (w : World) (d : Declaration) (o : Option (List ℕ)) → first_type w.declared (lookups_if w d o) ≡ option_and_then (type_meant w d.file d.scope) o
first_meant w d None = refl
first_meant w d (Some name) = refl

fields_there : (w : World) (file parent : ℕ) (scope : List ℕ) (head : MessageHead) (i : ℕ) (fs : List DeclaredField) (more : List (List Found)) → fields_read w.declared (map (lookups w) (map (λ e. record { file = file; parent = parent; scope = scope; item = a_field head e.0 e.1 }) (enumerate_from i fs)) ++ more) fs ≡ map (resolved_field w file scope) fs
fields_there w file parent scope head i [] more = refl
fields_there w file parent scope head i (f ∷ fs) more = λ j.
    field_of_type f (first_meant w (record { file = file; parent = parent; scope = scope; item = a_field head i f }) f.type_name j)
    ∷ fields_there w file parent scope head (i + 1) fs more j

head_there : (w : World) (file parent : ℕ) (scope name : List ℕ) (place : ℕ) (head : MessageHead) (inner : DeclaredMessages) (more : List (List Found)) → head_read w.declared (map (lookups w) (head_row file parent scope name place (message head inner)) ++ more) head ≡ resolved_head w file name head
head_there w file parent scope name place head inner more =
    let fields : List Declaration = fields_of file place name head head.fields in
    let oneofs : List Declaration = oneofs_of file place name head head.oneofs in
    ap (λ fs. record head { fields = fs })
    (ap (λ ns. fields_read w.declared ns head.fields) (two (lookups w) fields oneofs more) ∙ fields_there w file place name head 0 head.fields (map (lookups w) oneofs ++ more))

mutual
  message_there : (w : World) (file parent : ℕ) (scope : List ℕ) (place : ℕ) (m : DeclaredMessage) (more : List (List Found)) → message_read w.declared (map (lookups w) (message_declared file parent scope place m) ++ more) m ≡ resolved_message w file scope m
  message_there w file parent scope place (message head inner) more =
      let name = in_scope scope head.name in
      let own : List Declaration = head_row file parent scope name place (message head inner) in
      let nested : List Declaration = messages_declared file place name (place + length own) inner in
      let enums : List Declaration = enums_declared file place name (place + length own + length nested) head.enums in
      let behind : List (List Found) = map (lookups w) nested ++ (map (lookups w) enums ++ more) in
      ap (λ ns. message (head_read w.declared ns head) (messages_read w.declared (behind_head head ns) inner)) (three (lookups w) own nested enums more)
      ∙ ap (λ h. message h (messages_read w.declared (behind_head head (map (lookups w) own ++ behind)) inner)) (head_there w file parent scope name place head inner behind)
      ∙ ap (λ ns. message (resolved_head w file name head) (messages_read w.declared ns inner)) (left_head (lookups w) file parent scope name place head inner behind)
      ∙ ap (message (resolved_head w file name head)) (messages_there w file place name (place + length own) inner (map (lookups w) enums ++ more))

  messages_there : (w : World) (file parent : ℕ) (scope : List ℕ) (place : ℕ) (ms : DeclaredMessages) (more : List (List Found)) → messages_read w.declared (map (lookups w) (messages_declared file parent scope place ms) ++ more) ms ≡ resolved_messages w file scope ms
  messages_there w file parent scope place no_messages more = refl
  messages_there w file parent scope place (more_messages m ms) more =
      let own : List Declaration = message_declared file parent scope place m in
      let rest : List Declaration = messages_declared file parent scope (place + length own) ms in
      ap (λ ns. more_messages (message_read w.declared ns m) (messages_read w.declared (behind_message m ns) ms)) (two (lookups w) own rest more)
      ∙ ap (λ r. more_messages r (messages_read w.declared (behind_message m (map (lookups w) own ++ (map (lookups w) rest ++ more))) ms)) (message_there w file parent scope place m (map (lookups w) rest ++ more))
      ∙ ap (λ ns. more_messages (resolved_message w file scope m) (messages_read w.declared ns ms)) (left_message (lookups w) file parent scope place m (map (lookups w) rest ++ more))
      ∙ ap (more_messages (resolved_message w file scope m)) (messages_there w file parent scope (place + length own) ms more)

methods_there : (w : World) (file place : ℕ) (name : List ℕ) (ms : List DeclaredMethod) (more : List (List Found)) → methods_read w.declared (map (lookups w) (methods_of file place name ms) ++ more) ms ≡ map (resolved_method w file name) ms
methods_there w file place name [] more = refl
methods_there w file place name (m ∷ ms) more = ap (λ rs. resolved_method w file name m ∷ rs) (methods_there w file place name ms more)

services_there : (w : World) (file parent : ℕ) (scope : List ℕ) (place : ℕ) (ss : List DeclaredService) (more : List (List Found)) → services_read w.declared (map (lookups w) (services_declared file parent scope place ss) ++ more) ss ≡ map (resolved_service w file scope) ss
services_there w file parent scope place [] more = refl
services_there w file parent scope place (s ∷ ss) more =
    let own : List Declaration = service_declared file parent scope place s in
    let rest : List Declaration = services_declared file parent scope (place + length own) ss in
    let behind : List (List Found) = map (lookups w) rest ++ more in
    ap (λ ns. services_read w.declared ns (s ∷ ss)) (two (lookups w) own rest more)
    ∙ ap (λ ms. record s { methods = ms } ∷ services_read w.declared (behind_service s (map (lookups w) own ++ behind)) ss) (methods_there w file place (in_scope scope s.name) s.methods behind)
    ∙ ap (λ ns. resolved_service w file scope s ∷ services_read w.declared ns ss) (left_methods (lookups w) file place (in_scope scope s.name) s.methods behind)
    ∙ ap (λ rs. resolved_service w file scope s ∷ rs) (services_there w file parent scope (place + length own) ss more)

file_there : (w : World) (file place : ℕ) (f : DeclaredFile) (more : List (List Found)) → file_read w.declared (map (lookups w) (file_declared file place f) ++ more) f ≡ resolved_file w file f
file_there w file place f more = λ j. record f {
  messages = messages j;
  services = services j;
}
  where
    messages : messages_read w.declared (drop 1 (map (lookups w) (file_declared file place f) ++ more)) f.messages ≡ resolved_messages w file f.package_name f.messages
    messages =
        ap (λ ns. messages_read w.declared ns f.messages) (three (lookups w) (messages_in file place f) (enums_in file place f) (services_in file place f) more)
        ∙ messages_there w file place f.package_name (place + 1) f.messages (map (lookups w) (enums_in file place f) ++ (map (lookups w) (services_in file place f) ++ more))

    services : services_read w.declared (behind_types f (map (lookups w) (file_declared file place f) ++ more)) f.services ≡ map (resolved_service w file f.package_name) f.services
    services =
        ap (λ ns. services_read w.declared ns f.services) (left_types (lookups w) file place f more)
        ∙ services_there w file place f.package_name (place + 1 + length (messages_in file place f) + length (enums_in file place f)) f.services more

files_there : (w : World) (file place : ℕ) (fs : List DeclaredFile) (more : List (List Found)) → files_read w.declared (map (lookups w) (files_declared file place fs) ++ more) fs ≡ map (λ e. resolved_file w e.0 e.1) (enumerate_from file fs)
files_there w file place [] more = refl
files_there w file place (f ∷ fs) more =
    let own : List Declaration = file_declared file place f in
    let rest : List Declaration = files_declared (file + 1) (place + length own) fs in
    let behind : List (List Found) = map (lookups w) rest ++ more in
    ap (λ ns. files_read w.declared ns (f ∷ fs)) (two (lookups w) own rest more)
    ∙ ap (λ r. r ∷ files_read w.declared (behind_file f (map (lookups w) own ++ behind)) fs) (file_there w file place f behind)
    ∙ ap (λ ns. resolved_file w file f ∷ files_read w.declared ns fs) (left_file (lookups w) file place f behind)
    ∙ ap (λ rs. resolved_file w file f ∷ rs) (files_there w (file + 1) (place + length own) fs more)

-- what the type names came to resolves the files
pub files_resolved : (files : List DeclaredFile) (w : World) → IsWorldOf files w → (ds : List Declaration) → ds ≡ w.declared → (names : List (List Found)) → names ≡ map (lookups w) w.declared → files_read ds names files ≡ resolved_files w files
files_resolved files w world ds same names are =
    ap (λ l. files_read l names files) same
    ∙ ap (λ ns. files_read w.declared ns files) (are ∙ ap (map (lookups w)) world.declared ∙ sym (append-nil (map (lookups w) (declarations files))))
    ∙ files_there w 0 0 files []

-- there is one answer
pub resolved_same : (files answer other : List DeclaredFile) (w : World) → IsWorldOf files w → answer ≡ resolved_files w files → Resolves files other → answer ≡ other
resolved_same files answer other w world made r = made ∙ ap (λ v. resolved_files v files) (one_world files w r.world world r.is_world) ∙ sym r.resolved
