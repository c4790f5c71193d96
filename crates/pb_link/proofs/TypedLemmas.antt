-- Where no rule fails, resolved declarations have their type numbers and full type names.
use Rattle.std.proofs.Common.{◌≡◌, ℕ, suc, pos, ◌+◌, arith, List, [], ◌∷◌, ◌++◌, Bool, true, false, not, ◌||◌, length, map, refl, sym, ap, ◌∙◌, subst, Option, Some, None}
use Rattle.std.specs.Prelude.{is_some, slice_get}
use Rattle.std.specs.List.{AllByRecursion, enumerate_from}
use Rattle.std.proofs.lemmas.Bool.{false≢true}
use Rattle.pb_schema.specs.Names.{in_scope}
use Rattle.pb_declarations.specs.declared.decl.TypeCode.{TypeCode}
use Rattle.pb_declarations.specs.Decls.{DeclaredField, MessageHead, DeclaredMessage, message, DeclaredMessages, no_messages, more_messages, DeclaredMethod, DeclaredService, DeclaredFile}
use Rattle.pb_link_rules.specs.declared.cause.LinkCause.TheVariants as cause
use Rattle.pb_link_names.specs.Declarations.{Item, a_file, a_message, a_field, a_oneof, an_enum, a_value, a_service, a_method, Declaration, is_type, fields_of, oneofs_of, enums_declared, head_row, message_declared, messages_declared, methods_of, service_declared, services_declared, file_declared, files_declared, declarations}
use Rattle.pb_link_names.specs.Lookup.{Found, found, not_found, not_visible, not_a_type, looked_up}
use Rattle.pb_link_rules.specs.Rules.{World, is_looked_up, is_same_fault, place_found}
use Rattle.pb_link_rules.specs.Link.{holds, NothingFails}
use Rattle.pb_link.specs.Resolved.{type_at, type_meant, full_name_or, code_of_item, code_or, resolved_field, resolved_message, resolved_messages, resolved_method, resolved_service, resolved_file, Resolves, IsFullName, IsTyped, IsTypedMethod, AreTyped, AreAllTyped, IsTypedFile}
use Rattle.pb_link.proofs.KindLemmas.{IsFound, found_type}
use Rattle.pb_link_rules.proofs.ThereLemmas.{place_holds}

-- the rules that speak of the types of a declaration hold
pub record TypesHold (w : World) (d : Declaration) : Type 0 where
  pub found : is_looked_up not_found w d ≡ true
  pub visible : is_looked_up not_visible w d ≡ true
  pub a_type : is_looked_up not_a_type w d ≡ true
  pub kind : holds w 0 d cause.KindMismatch ≡ true

all_hold : (w : World) → NothingFails w → AllByRecursion (TypesHold w) w.declared
all_hold w nothing = from w.declared 0 (λ k d there. ap (slice_get w.declared) (zero_plus k) ∙ there)
  where
    zero_plus : (k : ℕ) → 0 + k ≡ k
    zero_plus k = omega arith

    shift : (i k : ℕ) → i + 1 + k ≡ i + suc k
    shift i k = omega arith

    plus_zero : (i : ℕ) → i + 0 ≡ i
    plus_zero i = omega arith

    from : (ds : List Declaration) (i : ℕ) → ((k : ℕ) (d : Declaration) → slice_get ds k ≡ Some d → slice_get w.declared (i + k) ≡ Some d) → AllByRecursion (TypesHold w) ds
    from [] i there = tt
    from (d ∷ ds) i there =
        let at : slice_get w.declared i ≡ Some d = ap (slice_get w.declared) (sym (plus_zero i)) ∙ there 0 d refl in (
          record {
            found = place_holds w nothing i d cause.NotFound at;
            visible = place_holds w nothing i d cause.NotVisible at;
            a_type = place_holds w nothing i d cause.NotAType at;
            kind = place_holds w nothing i d cause.KindMismatch at;
          },
          from ds (i + 1) (λ k e same. ap (slice_get w.declared) (shift i k) ∙ there (suc k) e same),
        )

left_all : {X : Type 0} (P : X → Type 0) (xs ys : List X) → AllByRecursion P (xs ++ ys) → AllByRecursion P xs
left_all P [] ys all = tt
left_all P (x ∷ xs) ys all = (all.0, left_all P xs ys all.1)

right_all : {X : Type 0} (P : X → Type 0) (xs ys : List X) → AllByRecursion P (xs ++ ys) → AllByRecursion P ys
right_all P [] ys all = all
right_all P (x ∷ xs) ys all = right_all P xs ys all.1

-- NAMES

abbrev pub IsAnswered : Found → Type 0
IsAnswered r = (not (is_same_fault not_found r) ≡ true) × (not (is_same_fault not_visible r) ≡ true) × (not (is_same_fault not_a_type r) ≡ true)

-- what was found, where no fault was
pub data IsPlaced (r : Found) : Type 0 where
  placed : (p : ℕ) → r ≡ found p → IsPlaced r

answered : (r : Found) → IsAnswered r → IsPlaced r
answered (found p) h = placed p refl
answered not_found h = absurd (false≢true h.0)
answered not_visible h = absurd (false≢true h.1)
answered not_a_type h = absurd (false≢true h.2)

-- a name that was found means a type, by its full name
pub record MeansType (w : World) (file : ℕ) (scope name : List ℕ) : Type 0 where
  pub place : ℕ
  pub looked : looked_up w.declared (w.sight.sees file) scope name ≡ found place
  pub meant : Declaration
  pub there : slice_get w.declared place ≡ Some meant
  pub is_type : is_type meant.item ≡ true

-- a field that has this type name and nothing else
abbrev only_name : List ℕ → DeclaredField
only_name name = record { name = []; number = pos 0; is_repeated = false; type_code = None; type_name = Some name; packed = None; oneof = None; is_optional = false }

means : (w : World) (file : ℕ) (scope name : List ℕ) → IsPlaced (looked_up w.declared (w.sight.sees file) scope name) → MeansType w file scope name
means w file scope name (placed p is) =
    let at : IsFound w file p = found_type w file scope (only_name name) p (ap place_found is) in
    record { place = p; looked = is; meant = at.declared; there = at.there; is_type = at.is_type }

meant_is : (w : World) (file : ℕ) (scope name : List ℕ) (t : MeansType w file scope name) → type_meant w file scope name ≡ Some t.meant
meant_is w file scope name t = ap (type_at w.declared) t.looked ∙ t.there

full : (w : World) (file : ℕ) (scope name : List ℕ) → MeansType w file scope name → IsFullName w.declared (full_name_or name (type_meant w file scope name))
full w file scope name t = record { place = t.place; meant = t.meant; there = t.there; is_type = t.is_type; named = ap (full_name_or name) (meant_is w file scope name t) }

one_answered : (r : Found) → not (is_same_fault not_found r || false) ≡ true → not (is_same_fault not_visible r || false) ≡ true → not (is_same_fault not_a_type r || false) ≡ true → IsPlaced r
one_answered (found p) a b c = placed p refl
one_answered not_found a b c = absurd (false≢true a)
one_answered not_visible a b c = absurd (false≢true b)
one_answered not_a_type a b c = absurd (false≢true c)

neither : (a b : Bool) → not (a || (b || false)) ≡ true → (not a ≡ true) × (not b ≡ true)
neither true b h = absurd (false≢true h)
neither false true h = absurd (false≢true h)
neither false false h = (refl, refl)

-- FIELDS AND METHODS

code_of_type : (it : Item) → is_type it ≡ true → is_some (code_of_item it) ≡ true
code_of_type (a_message head inner) h = refl
code_of_type (an_enum e) h = refl
code_of_type (a_file f) h = absurd (false≢true h)
code_of_type (a_field head i f) h = absurd (false≢true h)
code_of_type (a_oneof head i name) h = absurd (false≢true h)
code_of_type (a_value e i v) h = absurd (false≢true h)
code_of_type (a_service s) h = absurd (false≢true h)
code_of_type (a_method m) h = absurd (false≢true h)

code_there : (c : Option TypeCode) (d : Declaration) → is_type d.item ≡ true → is_some (code_or c (Some d)) ≡ true
code_there (Some c) d h = refl
code_there None d h = code_of_type d.item h

abbrev field_at : ℕ → ℕ → List ℕ → MessageHead → ℕ → DeclaredField → Declaration
field_at file parent scope head i f = record { file = file; parent = parent; scope = scope; item = a_field head i f }

typed_field : (w : World) (file parent : ℕ) (scope : List ℕ) (head : MessageHead) (i : ℕ) (f : DeclaredField) → TypesHold w (field_at file parent scope head i f) → IsTyped w.declared (resolved_field w file scope f)
typed_field w file parent scope head i f h = by f.type_name f.type_code h
  where
    by : (o : Option (List ℕ)) (c : Option TypeCode) → TypesHold w (field_at file parent scope head i (record f { type_name = o; type_code = c })) → IsTyped w.declared (resolved_field w file scope (record f { type_name = o; type_code = c }))
    by None None h = absurd (false≢true h.kind)
    by None (Some c) h = record { numbered = refl; named = tt }
    by (Some n) c h =
        let t = means w file scope n (one_answered (looked_up w.declared (w.sight.sees file) scope n) h.found h.visible h.a_type) in
        record { numbered = ap (λ d. is_some (code_or c d)) (meant_is w file scope n t) ∙ code_there c t.meant t.is_type; named = full w file scope n t }

typed_method : (w : World) (file place : ℕ) (name : List ℕ) (m : DeclaredMethod) → TypesHold w (record { file = file; parent = place; scope = name; item = a_method m }) → IsTypedMethod w.declared (resolved_method w file name m)
typed_method w file place name m h =
    let input = looked_up w.declared (w.sight.sees file) name m.input in
    let output = looked_up w.declared (w.sight.sees file) name m.output in
    let found_both = neither (is_same_fault not_found input) (is_same_fault not_found output) h.found in
    let visible_both = neither (is_same_fault not_visible input) (is_same_fault not_visible output) h.visible in
    let type_both = neither (is_same_fault not_a_type input) (is_same_fault not_a_type output) h.a_type in
    record {
      input = full w file name m.input (means w file name m.input (answered input (found_both.0, visible_both.0, type_both.0)));
      output = full w file name m.output (means w file name m.output (answered output (found_both.1, visible_both.1, type_both.1)));
    }

-- WHOLE FILES

fields_typed : (w : World) (file parent : ℕ) (scope : List ℕ) (head : MessageHead) (i : ℕ) (fs : List DeclaredField) → AllByRecursion (TypesHold w) (map (λ e. record { file = file; parent = parent; scope = scope; item = a_field head e.0 e.1 }) (enumerate_from i fs)) → AllByRecursion (IsTyped w.declared) (map (resolved_field w file scope) fs)
fields_typed w file parent scope head i [] all = tt
fields_typed w file parent scope head i (f ∷ fs) all = (typed_field w file parent scope head i f all.0, fields_typed w file parent scope head (i + 1) fs all.1)

mutual
  message_typed : (w : World) (file parent : ℕ) (scope : List ℕ) (place : ℕ) (m : DeclaredMessage) → AllByRecursion (TypesHold w) (message_declared file parent scope place m) → AreTyped w.declared (resolved_message w file scope m)
  message_typed w file parent scope place (message head inner) all =
      let name = in_scope scope head.name in
      let own : List Declaration = head_row file parent scope name place (message head inner) in
      let nested : List Declaration = messages_declared file place name (place + length own) inner in
      let enums : List Declaration = enums_declared file place name (place + length own + length nested) head.enums in
      let front = left_all (TypesHold w) (own ++ nested) enums all in (
        fields_typed w file place name head 0 head.fields (left_all (TypesHold w) (fields_of file place name head head.fields) (oneofs_of file place name head head.oneofs) (left_all (TypesHold w) own nested front).1),
        messages_typed w file place name (place + length own) inner (right_all (TypesHold w) own nested front),
      )

  messages_typed : (w : World) (file parent : ℕ) (scope : List ℕ) (place : ℕ) (ms : DeclaredMessages) → AllByRecursion (TypesHold w) (messages_declared file parent scope place ms) → AreAllTyped w.declared (resolved_messages w file scope ms)
  messages_typed w file parent scope place no_messages all = tt
  messages_typed w file parent scope place (more_messages m ms) all =
      let own : List Declaration = message_declared file parent scope place m in
      let rest : List Declaration = messages_declared file parent scope (place + length own) ms in
      (message_typed w file parent scope place m (left_all (TypesHold w) own rest all), messages_typed w file parent scope (place + length own) ms (right_all (TypesHold w) own rest all))

methods_typed : (w : World) (file place : ℕ) (name : List ℕ) (ms : List DeclaredMethod) → AllByRecursion (TypesHold w) (methods_of file place name ms) → AllByRecursion (IsTypedMethod w.declared) (map (resolved_method w file name) ms)
methods_typed w file place name [] all = tt
methods_typed w file place name (m ∷ ms) all = (typed_method w file place name m all.0, methods_typed w file place name ms all.1)

services_typed : (w : World) (file parent : ℕ) (scope : List ℕ) (place : ℕ) (ss : List DeclaredService) → AllByRecursion (TypesHold w) (services_declared file parent scope place ss) → AllByRecursion (λ s. AllByRecursion (IsTypedMethod w.declared) s.methods) (map (resolved_service w file scope) ss)
services_typed w file parent scope place [] all = tt
services_typed w file parent scope place (s ∷ ss) all =
    let own : List Declaration = service_declared file parent scope place s in
    let rest : List Declaration = services_declared file parent scope (place + length own) ss in
    (methods_typed w file place (in_scope scope s.name) s.methods (left_all (TypesHold w) own rest all).1, services_typed w file parent scope (place + length own) ss (right_all (TypesHold w) own rest all))

file_typed : (w : World) (file place : ℕ) (f : DeclaredFile) → AllByRecursion (TypesHold w) (file_declared file place f) → IsTypedFile w.declared (resolved_file w file f)
file_typed w file place f all =
    let messages : List Declaration = messages_declared file place f.package_name (place + 1) f.messages in
    let enums : List Declaration = enums_declared file place f.package_name (place + 1 + length messages) f.enums in
    let services : List Declaration = services_declared file place f.package_name (place + 1 + length messages + length enums) f.services in
    record {
      messages = messages_typed w file place f.package_name (place + 1) f.messages (left_all (TypesHold w) messages enums (left_all (TypesHold w) (messages ++ enums) services all.1));
      services = services_typed w file place f.package_name (place + 1 + length messages + length enums) f.services (right_all (TypesHold w) (messages ++ enums) services all.1);
    }

files_typed : (w : World) (file place : ℕ) (fs : List DeclaredFile) → AllByRecursion (TypesHold w) (files_declared file place fs) → AllByRecursion (IsTypedFile w.declared) (map (λ e. resolved_file w e.0 e.1) (enumerate_from file fs))
files_typed w file place [] all = tt
files_typed w file place (f ∷ fs) all =
    let own : List Declaration = file_declared file place f in
    let rest : List Declaration = files_declared (file + 1) (place + length own) fs in
    (file_typed w file place f (left_all (TypesHold w) own rest all), files_typed w (file + 1) (place + length own) fs (right_all (TypesHold w) own rest all))

pub resolved_typed : (files answer : List DeclaredFile) → Resolves files answer → AllByRecursion (IsTypedFile (declarations files)) answer
resolved_typed files answer r =
    let w = r.world in
    let all : AllByRecursion (TypesHold w) (declarations files) = subst (AllByRecursion (TypesHold w)) r.is_world.declared (all_hold w r.holds) in
    let typed : AllByRecursion (IsTypedFile w.declared) answer = subst (AllByRecursion (IsTypedFile w.declared)) (sym r.resolved) (files_typed w 0 0 files all) in
    subst (λ ds. AllByRecursion (IsTypedFile ds) answer) r.is_world.declared typed
