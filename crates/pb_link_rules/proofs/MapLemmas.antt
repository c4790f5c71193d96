-- Entry messages, their parts, and the rules of map fields.
use Rattle.std.proofs.Common.{◌≡◌, ℕ, suc, ◌+◌, ◌<◌, List, [], ◌∷◌, ◌++◌, map, take, length, get_or, Bool, true, false, ◌||◌, ◌&&◌, ◌==◌, refl, sym, ap, ◌∙◌, arith, Option, Some, None}
use Rattle.std.specs.Prelude.{slice_get}
use Rattle.std.specs.List.{list_all, enumerate_from}
use Rattle.std.specs.Option.{option_map_or}
use Rattle.std.proofs.Math.Bool.{and-true}
use Rattle.std.proofs.lemmas.List.{length-map}
use Rattle.std.proofs.lemmas.Option.{slice_get_within, get_or_from_slice_get}
use Rattle.std.proofs.lemmas.Bool.Decides.{nat_tests}
use Rattle.pb_schema.specs.Names.{in_scope}
use Rattle.pb_declarations.specs.Decls.{DeclaredField, MessageHead, DeclaredMessage, message, DeclaredMessages, DeclaredFile, messages_of, inner_of}
use Rattle.pb_declarations.specs.View.{message_view, field_view, enum_view}
use Rattle.pb_declarations.specs.declared.decl.MessageDecl.{MessageDecl, out-MessageDecl}
use Rattle.std.specs.Prelude.{string_bytes}
use Rattle.pb_declarations.specs.declared.decl.FieldDecl.{FieldDecl}
use Rattle.pb_link_names.specs.Sees.{Sight}
use Rattle.pb_link_rules.specs.Judging.{world_of}
use Rattle.pb_link_names.specs.declared.found.TypeNames.{TypeNames}
use Rattle.pb_link_names.specs.declared.found.TypeNames.TheVariants as type_names
use Rattle.pb_link_rules.specs.declared.cause.LinkCause.TheVariants as cause
use Rattle.pb_link_names.specs.Declarations.{Item, a_file, a_message, a_field, a_oneof, an_enum, a_value, a_service, a_method, Declaration, head_of, item_of_message, full_name}
use Rattle.pb_link_names.specs.Lookup.{looked_up}
use Rattle.pb_link_rules.specs.Rules.{World, lookups, lookups_if, lookup_at, passes, is_not_entry, is_no_entry, is_used_rightly, has_nothing_inside, has_key_and_value, are_key_and_value, has_one_use, is_map_right}
use Rattle.pb_link_rules.specs.Link.{holds, IsWorldOf}
use Rattle.pb_link_names.specs.View.{type_names_view}
use Rattle.pb_link_rules.specs.Maps.{are_right_parts, right_parts, is_right_entry, are_plain, names_of_place, entry_rule, map_rule}
use Rattle.pb_link_names.proofs.ViewLemmas.{inner_of-view, fields_of-view, enums_of-view, oneofs_of-view}
use Rattle.pb_declarations.proofs.ViewLemmas.{message_view-parts}
use Rattle.pb_link_rules.proofs.ThereLemmas.{field_there}
use Rattle.pb_link_names.proofs.RowLemmas.{grown}
use Rattle.pb_link_rules.proofs.UseLemmas.{told_at}
use Rattle.pb_link_names.proofs.MarkLemmas.{marks_at}
use Rattle.pb_link_rules.proofs.TableLemmas.{of_world}
use Rattle.pb_schema.proofs.LookupLemmas.{get_viewed}

-- NOTHING INSIDE
some_long : (n : ℕ) → (suc n == 0) ≡ false
some_long n = grind (arith, nat_tests)

nothing_in : (head : MessageHead) (ms : List DeclaredMessage) → has_nothing_inside head (messages_of ms) ≡ ((length ms == 0) && (length head.enums == 0) && (length head.oneofs == 0))
nothing_in head [] = refl
nothing_in head (m ∷ ms) = sym (ap (λ b. b && (length head.enums == 0) && (length head.oneofs == 0)) (some_long (length ms)))

bare_message : (m : MessageDecl) → has_nothing_inside (head_of (message_view m)) (inner_of (message_view m)) ≡ ((length (out-MessageDecl m).messages.items == 0) && (length (out-MessageDecl m).enums.items == 0) && (length (out-MessageDecl m).oneofs.items == 0))
bare_message m =
    let head : MessageHead = head_of (message_view m) in
    let d = out-MessageDecl m in
    ap (has_nothing_inside head) (sym (inner_of-view m))
    ∙ nothing_in head (map message_view d.messages.items)
    ∙ ap (λ n. (n == 0) && (length head.enums == 0) && (length head.oneofs == 0)) (length-map d.messages.items message_view)
    ∙ ap (λ n. (length d.messages.items == 0) && (n == 0) && (length head.oneofs == 0)) (ap length (sym (enums_of-view m)) ∙ length-map d.enums.items enum_view)
    ∙ ap (λ n. (length d.messages.items == 0) && (length d.enums.items == 0) && (n == 0)) (ap length (sym (oneofs_of-view m)) ∙ length-map d.oneofs.items string_bytes)

pub bare_right : (m : MessageDecl) (no_messages no_enums no_oneofs b : Bool) → no_messages ≡ (length (out-MessageDecl m).messages.items == 0) → no_enums ≡ (length (out-MessageDecl m).enums.items == 0) → no_oneofs ≡ (length (out-MessageDecl m).oneofs.items == 0) → b ≡ (no_messages && no_enums && no_oneofs) → b ≡ has_nothing_inside (head_of (message_view m)) (inner_of (message_view m))
bare_right m no_messages no_enums no_oneofs b messages_is enums_is oneofs_is is =
    let d = out-MessageDecl m in
    is ∙ ap (λ x. x && no_enums && no_oneofs) messages_is
    ∙ ap (λ x. (length d.messages.items == 0) && x && no_oneofs) enums_is
    ∙ ap (λ x. (length d.messages.items == 0) && (length d.enums.items == 0) && x) oneofs_is
    ∙ sym (bare_message m)

-- PARTS
-- fields that are not two are no key and value
pub not_two : (fs : List DeclaredField) (first second : Bool) → (length fs ≡ 2 → ⊥) → false ≡ right_parts fs first second
not_two [] first second other = refl
not_two (f ∷ []) first second other = refl
not_two (f ∷ g ∷ []) first second other = absurd (other refl)
not_two (f ∷ g ∷ h ∷ fs) first second other = refl

parts_right : (w : World) (entry : Declaration) (fs : List DeclaredField) (a b : Bool) → ((f : DeclaredField) → slice_get fs 0 ≡ Some f → a ≡ option_map_or (is_no_entry w entry) f.type_name true) → ((f : DeclaredField) → slice_get fs 1 ≡ Some f → b ≡ option_map_or (is_no_entry w entry) f.type_name true) → right_parts fs a b ≡ has_key_and_value w entry fs
parts_right w entry [] a b first second = refl
parts_right w entry (f ∷ []) a b first second = refl
parts_right w entry (f ∷ g ∷ []) a b first second =
    ap (λ x. are_right_parts f g x || are_right_parts g f a) (second g refl) ∙ ap (λ x. are_key_and_value w entry f g || are_right_parts g f x) (first f refl)
parts_right w entry (f ∷ g ∷ h ∷ fs) a b first second = refl

plain_name : (w : World) (entry d : Declaration) (o : Option (List ℕ)) → d.file ≡ entry.file → d.scope ≡ full_name entry → list_all (passes w is_not_entry) (lookups_if w d o) ≡ option_map_or (is_no_entry w entry) o true
plain_name w entry d None file scope = refl
plain_name w entry d (Some name) file scope =
    and-true (passes w is_not_entry (lookup_at w d name))
    ∙ ap (λ x. passes w is_not_entry (looked_up w.declared (w.sight.sees x) d.scope name)) file ∙ ap (λ x. passes w is_not_entry (looked_up w.declared (w.sight.sees entry.file) x name)) scope

-- what is reported of what stands at a place
told_there : (w : World) (all : List TypeNames) (k : ℕ) (d : Declaration) → map type_names_view all ≡ map (lookups w) w.declared → slice_get w.declared k ≡ Some d → type_names_view (names_of_place all k) ≡ lookups w d
told_there w all k d told at =
    told_at type_names_view (lookups w) all w.declared k d type_names.None told (slice_get_within w.declared k d at) (sym (get_or_from_slice_get w.declared k d d at))

-- a field of an entry names no entry
pub plain_field : (files : List DeclaredFile) (w : World) → IsWorldOf files w → (all : List TypeNames) → map type_names_view all ≡ map (lookups w) w.declared → (k file parent : ℕ) (scope : List ℕ) (head : MessageHead) (inner : DeclaredMessages) → slice_get w.declared k ≡ Some (record { file = file; parent = parent; scope = scope; item = a_message head inner }) → (j n : ℕ) → n ≡ k + 1 + j → (f : DeclaredField) → slice_get head.fields j ≡ Some f → are_plain w (names_of_place all n) ≡ option_map_or (is_no_entry w (record { file = file; parent = parent; scope = scope; item = a_message head inner })) f.type_name true
plain_field files w world all told k file parent scope head inner there j n same f at =
    let d : Declaration = record { file = file; parent = k; scope = in_scope scope head.name; item = a_field head j f } in
    let here = field_there files w world k file parent scope head inner there j f at in
    ap (λ m. are_plain w (names_of_place all m)) same
    ∙ ap (list_all (passes w is_not_entry)) (told_there w all (k + 1 + j) d told here)
    ∙ plain_name w (record { file = file; parent = parent; scope = scope; item = a_message head inner }) d f.type_name refl refl

-- what a row tells of names that were found is what a world of that row tells
pub plain_here : (w : World) (ds : List Declaration) (names at : TypeNames) (b : Bool) → w.declared ≡ ds → ((fs : List DeclaredFile) (s : Sight) → b ≡ list_all (passes (world_of fs ds s) is_not_entry) (type_names_view names)) → names ≡ at → b ≡ are_plain w at
plain_here w ds names at b is all same = of_world w.files ds (λ v. b ≡ are_plain v names) (all w.files) w refl is ∙ ap (are_plain w) same

pub entry_right : (w : World) (all : List TypeNames) (place : ℕ) (m : MessageDecl) (fields : List FieldDecl) (is_used parts bare b : Bool) → fields ≡ (out-MessageDecl m).fields.items → parts ≡ right_parts (map field_view fields) (are_plain w (names_of_place all (place + 1))) (are_plain w (names_of_place all (place + 2))) → bare ≡ has_nothing_inside (head_of (message_view m)) (inner_of (message_view m)) → b ≡ is_right_entry (out-MessageDecl m).map_entry is_used parts bare → b ≡ entry_rule w all place (message_view m) is_used
entry_right w all place m fields is_used parts bare b fields_is parts_is bare_is is =
    let head : MessageHead = head_of (message_view m) in
    let flagged : (out-MessageDecl m).map_entry ≡ head.is_entry = ap (λ t. (head_of t).is_entry) (sym (message_view-parts m)) in
    let first = are_plain w (names_of_place all (place + 1)) in
    let second = are_plain w (names_of_place all (place + 2)) in
    is ∙ ap (λ x. is_right_entry x is_used parts bare) flagged
    ∙ ap (λ x. is_right_entry head.is_entry is_used x bare) (parts_is ∙ ap (λ fs. right_parts fs first second) (ap (map field_view) fields_is ∙ fields_of-view m))
    ∙ ap (λ x. is_right_entry head.is_entry is_used (right_parts head.fields first second) x) bare_is

-- THE RULE AT A PLACE
rule_right : (files : List DeclaredFile) (w : World) → IsWorldOf files w → (all : List TypeNames) → map type_names_view all ≡ map (lookups w) w.declared → (k file parent : ℕ) (scope : List ℕ) (i : Item) → slice_get w.declared k ≡ Some (record { file = file; parent = parent; scope = scope; item = i }) → map_rule w all k (record { file = file; parent = parent; scope = scope; item = i }) (has_one_use w k (record { file = file; parent = parent; scope = scope; item = i })) i ≡ is_map_right w k (record { file = file; parent = parent; scope = scope; item = i })
rule_right files w world all told k file parent scope (a_message head inner) there =
    let e : Declaration = record { file = file; parent = parent; scope = scope; item = a_message head inner } in
    let one : k + 1 ≡ k + 1 + 0 = omega arith in
    let two : k + 2 ≡ k + 1 + 1 = omega arith in
    ap (λ b. is_right_entry head.is_entry (has_one_use w k e) b (has_nothing_inside head inner)) (parts_right w e head.fields (are_plain w (names_of_place all (k + 1))) (are_plain w (names_of_place all (k + 2))) (plain_field files w world all told k file parent scope head inner there 0 (k + 1) one) (plain_field files w world all told k file parent scope head inner there 1 (k + 2) two))
rule_right files w world all told k file parent scope (a_field head i f) there =
    let d : Declaration = record { file = file; parent = parent; scope = scope; item = a_field head i f } in
    ap (list_all (is_used_rightly w d)) (told_there w all k d told there)
rule_right files w world all told k file parent scope (a_method m) there =
    ap (list_all (passes w is_not_entry)) (told_there w all k (record { file = file; parent = parent; scope = scope; item = a_method m }) told there)
rule_right files w world all told k file parent scope (a_file f) there = refl
rule_right files w world all told k file parent scope (a_oneof head i name) there = refl
rule_right files w world all told k file parent scope (an_enum e) there = refl
rule_right files w world all told k file parent scope (a_value e i v) there = refl
rule_right files w world all told k file parent scope (a_service s) there = refl

pub marks_more : {X : Type 0} (files : List DeclaredFile) (w : World) → IsWorldOf files w → (view : X → Declaration) (row : List X) (all : List TypeNames) (used : List Bool) (i : ℕ) (x : X) (held now : List Bool) (u b : Bool) → w.declared ≡ map view row → map type_names_view all ≡ map (lookups w) w.declared → used ≡ map (λ e. has_one_use w e.0 e.1) (enumerate_from 0 w.declared) → i < length row → x ≡ get_or row i x → held ≡ map (λ e. holds w e.0 e.1 cause.BadMap) (enumerate_from 0 (map view (take i row))) → u ≡ get_or used i false → b ≡ map_rule w all i (view x) u (view x).item → now ≡ held ++ b ∷ [] → now ≡ map (λ e. holds w e.0 e.1 cause.BadMap) (enumerate_from 0 (map view (take (i + 1) row)))
marks_more files w world view row all used i x held now u b row_is told uses less is was used_at rule pushed =
    let at : slice_get w.declared i ≡ Some (view x) = ap (λ l. slice_get l i) row_is ∙ get_viewed view row i x less is in
    let once : u ≡ has_one_use w i (view x) = used_at ∙ marks_at (λ e. has_one_use w e.0 e.1) view row used i x false (uses ∙ ap (λ ds. map (λ e. has_one_use w e.0 e.1) (enumerate_from 0 ds)) row_is) less is in
    grown (λ e. holds w e.0 e.1 cause.BadMap) view row i x [] held now less is was
    (pushed ∙ ap (λ c. held ++ c ∷ []) (rule ∙ ap (λ c. map_rule w all i (view x) c (view x).item) once ∙ rule_right files w world all told i (view x).file (view x).parent (view x).scope (view x).item at))

pub entry_item : (w : World) (all : List TypeNames) (place : ℕ) (d : Declaration) (u : Bool) (t : DeclaredMessage) → entry_rule w all place t u ≡ map_rule w all place d u (item_of_message t)
entry_item w all place d u (message head inner) = refl
