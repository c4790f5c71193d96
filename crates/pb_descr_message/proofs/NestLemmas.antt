-- What messages are written as is little deeper than they are declared in each other.
use Rattle.std.proofs.Common.{◌≡◌, ℕ, ℤ, pos, zero, suc, ◌+◌, ◌<◌, ◌≤◌, max, List, [], ◌∷◌, ◌++◌, map, length, get_or, take, Bool, true, false, Option, Some, None, ap, sym, ◌∙◌, subst, arith}
use Rattle.std.proofs.lemmas.List.{take_more, map-append}
use Rattle.std.specs.List.{AllByRecursion}
use Rattle.pb_value.specs.Data.{Datum, levels_of, datums_of, datums_depth, Holding, Fields, fields_depth, message_depth}
use Rattle.pb_declarations.specs.declared.decl.TypeCode.{TypeCode}
use Rattle.pb_declarations.specs.Decls.{DeclaredField, DeclaredEnum, DeclaredMessage, message, DeclaredMessages, no_messages, more_messages, messages_of, DeclaredMethod, DeclaredService, DeclaredFile}
use Rattle.pb_declarations.specs.TypeNumbers.{number_of_type}
use Rattle.pb_descr_message.specs.Writing.{with_field, fields_with, a_text, a_number, a_mark, a_list, a_message, options_with, optional, packed_options, field_contents, field_body, range_body, value_body, text_datum, int_datum, enum_contents, enum_body, oneof_body, message_contents, message_body, message_bodies, method_contents, method_body, service_contents, service_body, package_text, syntax_text, file_contents, file_body, set_body}
use Rattle.pb_declarations.specs.Nests.{nests, all_nest}
use Rattle.pb_descr_message.proofs.DepthLemmas.{option_depth, list_depth}

-- ---- what stands in a message, each no deeper than a bound

field_within : (n k : ℕ) (o : Option Holding) (fs : Fields) → option_depth o ≤ k → fields_depth fs ≤ k → fields_depth (with_field n o fs) ≤ k
field_within n k None fs a b = b
field_within n k (Some h) fs a b = omega (arith, a, b)

fields_within : (k : ℕ) (es : List (ℕ × Option Holding)) → AllByRecursion (λ e. option_depth e.1 ≤ k) es → fields_depth (fields_with es) ≤ k
fields_within k [] h = omega arith
fields_within k (e ∷ es) h = field_within e.0 k e.1 (fields_with es) h.0 (fields_within k es h.1)

message_within : (k : ℕ) (es : List (ℕ × Option Holding)) → AllByRecursion (λ e. option_depth e.1 ≤ k) es → levels_of (a_message es) ≤ suc k
message_within k es h = let within = fields_within k es h in omega arith

datums_within : (k : ℕ) (ds : List Datum) → AllByRecursion (λ d. levels_of d ≤ k) ds → datums_depth (datums_of ds) ≤ k
datums_within k [] h = omega arith
datums_within k (d ∷ ds) h = let first = h.0 in let rest = datums_within k ds h.1 in omega arith

each_within : {X : Type 0} (w : X → Datum) (k : ℕ) → ((x : X) → levels_of (w x) ≤ k) → (xs : List X) → AllByRecursion (λ d. levels_of d ≤ k) (map w xs)
each_within w k h [] = tt
each_within w k h (x ∷ xs) = (h x, each_within w k h xs)

list_within : {X : Type 0} (w : X → Datum) (k : ℕ) → ((x : X) → levels_of (w x) ≤ k) → (xs : List X) → option_depth (a_list (map w xs)) ≤ k
list_within w k h xs = let same = list_depth (map w xs) in let all = datums_within k (map w xs) (each_within w k h xs) in omega arith

mark_within : (k : ℕ) (b : Bool) → option_depth (a_mark b) ≤ k
mark_within k true = omega arith
mark_within k false = omega arith

code_within : (k : ℕ) (o : Option TypeCode) → option_depth (optional (λ c. a_number (pos (number_of_type c))) o) ≤ k
code_within k (Some c) = omega arith
code_within k None = omega arith

text_within : (k : ℕ) (o : Option (List ℕ)) → option_depth (optional a_text o) ≤ k
text_within k (Some s) = omega arith
text_within k None = omega arith

number_within : (k : ℕ) (o : Option ℤ) → option_depth (optional a_number o) ≤ k
number_within k (Some z) = omega arith
number_within k None = omega arith

package_within : (k : ℕ) (p : List ℕ) → option_depth (package_text p) ≤ k
package_within k [] = omega arith
package_within k (c ∷ cs) = omega arith

syntax_within : (k : ℕ) (two : Bool) → option_depth (syntax_text two) ≤ k
syntax_within k true = omega arith
syntax_within k false = omega arith

packed_within : (k : ℕ) (o : Option Bool) → 1 ≤ k → option_depth (optional packed_options o) ≤ k
packed_within k (Some b) h = omega (arith, h)
packed_within k None h = omega arith

options_within : (n k : ℕ) (b : Bool) → 1 ≤ k → option_depth (options_with n b) ≤ k
options_within n k true h = omega (arith, h)
options_within n k false h = omega arith

loosely : (k d : ℕ) → d ≤ 2 → d ≤ k + 2
loosely k d h = omega arith

-- ---- declarations

field_levels : (f : DeclaredField) → levels_of (field_body f) ≤ 2
field_levels f =
    message_within 1 (field_contents f)
    (omega arith, (omega arith, (omega arith, (code_within 1 f.type_code, (text_within 1 f.type_name, (packed_within 1 f.packed (omega arith), (number_within 1 f.oneof, (mark_within 1 f.is_optional, tt))))))))

enum_levels : (e : DeclaredEnum) → levels_of (enum_body e) ≤ 2
enum_levels e =
    message_within 1 (enum_contents e)
    (omega arith, (list_within value_body 1 (λ v. omega arith) e.values, (options_within 2 1 e.allows_alias (omega arith), (list_within range_body 1 (λ r. omega arith) e.reserved, (list_within text_datum 1 (λ s. omega arith) e.reserved_names, tt)))))

method_levels : (m : DeclaredMethod) → levels_of (method_body m) ≤ 1
method_levels m = message_within 0 (method_contents m) (omega arith, (omega arith, (omega arith, (mark_within 0 m.client_streams, (mark_within 0 m.server_streams, tt)))))

service_levels : (s : DeclaredService) → levels_of (service_body s) ≤ 2
service_levels s = message_within 1 (service_contents s) (omega arith, (list_within method_body 1 method_levels s.methods, tt))

mutual
  message_levels : (m : DeclaredMessage) → levels_of (message_body m) ≤ nests m + 2
  message_levels (message head inner) =
      let own : levels_of (message_body (message head inner)) ≤ suc (all_nest inner + 2) =
      message_within (all_nest inner + 2) (message_contents head (message_bodies inner))
      (omega arith, (loosely (all_nest inner) _ (list_within field_body 2 field_levels head.fields), (inner_levels inner, (loosely (all_nest inner) _ (list_within enum_body 2 enum_levels head.enums), (options_within 7 (all_nest inner + 2) head.is_entry (omega arith), (list_within oneof_body (all_nest inner + 2) (λ n. omega arith) head.oneofs, (list_within range_body (all_nest inner + 2) (λ r. omega arith) head.reserved, (list_within text_datum (all_nest inner + 2) (λ s. omega arith) head.reserved_names, tt)))))))) in
      omega arith

  inner_levels : (ms : DeclaredMessages) → option_depth (a_list (message_bodies ms)) ≤ all_nest ms + 2
  inner_levels no_messages = omega arith
  inner_levels (more_messages m ms) =
      let first = message_levels m in
      let rest = inner_levels ms in
      let same = list_depth (message_bodies ms) in
      omega arith

-- a file whose messages stand in each other so deep
file_levels : (f : DeclaredFile) (k : ℕ) → all_nest f.messages ≤ k → levels_of (file_body f) ≤ k + 3
file_levels f k within =
    let inner = inner_levels f.messages in
    let own : levels_of (file_body f) ≤ suc (k + 2) =
    message_within (k + 2) (file_contents f)
    (omega arith, (package_within (k + 2) f.package_name, (list_within text_datum (k + 2) (λ s. omega arith) f.imports, (omega arith, (loosely k _ (list_within enum_body 2 enum_levels f.enums), (loosely k _ (list_within service_body 2 service_levels f.services), (list_within int_datum (k + 2) (λ z. omega arith) f.public_indexes, (syntax_within (k + 2) f.is_proto2, tt)))))))) in
    omega arith

-- A set whose files declare messages that stand in each other so deep nests three levels deeper at most.
pub set_levels : (fs : List DeclaredFile) (k : ℕ) → AllByRecursion (λ f. all_nest f.messages ≤ k) fs → message_depth (set_body fs) ≤ k + 3
set_levels fs k h =
    let all = datums_within (k + 3) (map file_body fs) (each fs h) in
    let same = list_depth (map file_body fs) in
    let own : fields_depth (fields_with ((1, a_list (map file_body fs)) ∷ [])) ≤ k + 3 = fields_within (k + 3) ((1, a_list (map file_body fs)) ∷ []) (omega arith, tt) in
    omega arith
  where
    each : (gs : List DeclaredFile) → AllByRecursion (λ f. all_nest f.messages ≤ k) gs → AllByRecursion (λ d. levels_of d ≤ k + 3) (map file_body gs)
    each [] h = tt
    each (g ∷ gs) h = (file_levels g k h.0, each gs h.1)

-- what holds of each element before an index, and of the element there, holds of each up to it
pub taken_and_next :
    {X Y : Type 0} (P : Y → Type 0) (view : X → Y) (xs : List X) (i : ℕ) (x : X) → i < length xs → x ≡ get_or xs i x → AllByRecursion P (map view (take i xs)) → P (view x) → AllByRecursion P (map view (take (i + 1) xs))
taken_and_next P view [] i x within is all p = absurd (omega (arith, within))
taken_and_next P view (y ∷ ys) zero x within is all p = (subst (λ z. P (view z)) is p, tt)
taken_and_next P view (y ∷ ys) (suc i) x within is all p =
    let more : suc (i + 1) ≡ suc i + 1 = omega arith in
    subst (λ k. AllByRecursion P (map view (take k (y ∷ ys)))) more (all.0, taken_and_next P view ys i x (omega (arith, within)) is all.1 p)

-- what is written of the elements before an index, and then of the one there, is what is written of those up to it
pub written_next :
    {V D X Y : Type 0} (see : V → D) (write : Y → D) (view : X → Y) (xs : List X) (i : ℕ) (x : X) (old new : List V) (v : V) → i < length xs → x ≡ get_or xs i x → new ≡ old ++ v ∷ [] → see v ≡ write (view x) → map see old ≡ map write (map view (take i xs)) → map see new ≡ map write (map view (take (i + 1) xs))
written_next see write view xs i x old new v within is pushed seen written =
    let taken : take (i + 1) xs ≡ take i xs ++ x ∷ [] = take_more xs i x within ∙ ap (λ z. take i xs ++ z ∷ []) (sym is) in
    let more = ap (λ zs. map write (map view zs)) taken ∙ ap (map write) (map-append view (take i xs) (x ∷ [])) ∙ map-append write (map view (take i xs)) (view x ∷ []) in
    ap (map see) pushed ∙ map-append see old (v ∷ []) ∙ ap (λ ds. ds ++ see v ∷ []) written ∙ ap (λ d. map write (map view (take i xs)) ++ d ∷ []) seen ∙ sym more

-- where each message of a list has this many levels, so has the list
pub nest_each : (k : ℕ) (ms : List DeclaredMessage) → AllByRecursion (λ m. nests m ≤ k) ms → all_nest (messages_of ms) ≤ k
nest_each k [] all = omega arith
nest_each k (m ∷ ms) all = let first = all.0 in let rest = nest_each k ms all.1 in omega (arith, first, rest)
