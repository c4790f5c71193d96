-- Where no rule fails, a field that uses an entry is its map field, and the entry has a key and a value.
use Rattle.std.proofs.Common.{◌≡◌, ℕ, List, [], ◌∷◌, Bool, true, false, not, ◌&&◌, ◌||◌, ◌==◌, refl, sym, ap, ◌∙◌, subst, arith, Option, Some, None}
use Rattle.std.specs.Prelude.{slice_get, option_and_then, if◌then◌else◌, find, cond}
use Rattle.std.specs.Option.{option_map_or}
use Rattle.std.specs.Str.{bytes_eq}
use Rattle.std.proofs.lemmas.Bool.{false≢true}
use Rattle.std.proofs.lemmas.Bool.Decides.{nat_tests}
use Rattle.std.proofs.lemmas.Option.{none-some}
use Rattle.std.proofs.lemmas.Slice.Eq.{bytes_eq-Decides}
use Rattle.pb_declarations.specs.Decls.{DeclaredField, MessageHead, DeclaredMessages}
use Rattle.pb_link_rules.specs.declared.cause.LinkCause.TheVariants as cause
use Rattle.pb_link_names.specs.Declarations.{Item, a_message, a_field, Declaration, full_name}
use Rattle.pb_link_names.specs.Lookup.{Found, found, not_found, not_visible, not_a_type, looked_up}
use Rattle.pb_link_rules.specs.Rules.{World, uses, is_found_at, is_used_rightly, is_map_field, has_one_use, has_key_and_value, has_nothing_inside, are_key_and_value, is_part, is_value_part, is_group, is_key_code, is_no_entry, key_name, value_name, place_found, is_entry}
use Rattle.pb_link_rules.specs.Link.{holds, NothingFails}
use Rattle.pb_link.specs.PoolOf.{entry_of, entry_declared, entry_by_item, part_named}
use Rattle.pb_link_rules.proofs.ThereLemmas.{some_same, and_left, and_right, place_holds}

-- a field uses an entry
pub record UsesEntry (w : World) (d : Declaration) (head : MessageHead) (name : List ℕ) : Type 0 where
  pub place : ℕ
  pub entry : Declaration
  pub inner : DeclaredMessages
  pub there : slice_get w.declared place ≡ Some entry
  pub item : entry.item ≡ a_message head inner
  pub is_entry : head.is_entry ≡ true
  pub full : name ≡ full_name entry
  pub is_map : is_map_field entry d ≡ true
  pub used : uses w place d ≡ true

pair_of : {A B : Type 0} (a c : A) (b d : B) → ◌≡◌ {A = Option (A × B)} (Some (a, b)) (Some (c, d)) → (a ≡ c) × (b ≡ d)
pair_of {A = A} {B = B} a c b d h = let p : A × B = (a, b) in let q : A × B = (c, d) in let e : p ≡ q = some_same p q h in (ap (λ x. x.0) e, ap (λ x. x.1) e)

abbrev pub told_if : Bool → MessageHead → List ℕ → Option (MessageHead × List ℕ)
told_if b head name = if b then Some (head, name) else None

-- the field, with another type name
abbrev field_with : ℕ → ℕ → List ℕ → MessageHead → ℕ → DeclaredField → Option (List ℕ) → Declaration
field_with file parent scope around j f name = record { file = file; parent = parent; scope = scope; item = a_field around j (record f { type_name = name }) }

-- whether it is a map field does not hang on its type name
pub entry_used : (w : World) → NothingFails w → (k file parent : ℕ) (scope : List ℕ) (around : MessageHead) (j : ℕ) (f : DeclaredField) → slice_get w.declared k ≡ Some (record { file = file; parent = parent; scope = scope; item = a_field around j f }) → (head : MessageHead) (name : List ℕ) → entry_of w file scope f ≡ Some (head, name) → UsesEntry w (record { file = file; parent = parent; scope = scope; item = a_field around j f }) head name
entry_used w nothing k file parent scope around j f there head name told = by_name f.type_name (place_holds w nothing k (record { file = file; parent = parent; scope = scope; item = a_field around j f }) cause.BadMap there) told
  where
    same_place : (q : ℕ) → ((q == q) || false) ≡ true
    same_place q = grind (arith, nat_tests)

    by_mark : (o : Option (List ℕ)) (q efile eparent : ℕ) (escope : List ℕ) (h : MessageHead) (inner : DeclaredMessages) → slice_get w.declared q ≡ Some (record { file = efile; parent = eparent; scope = escope; item = a_message h inner }) → (b : Bool) → h.is_entry ≡ b → told_if b h (full_name (record { file = efile; parent = eparent; scope = escope; item = a_message h inner })) ≡ Some (head, name) → (not b || is_map_field (record { file = efile; parent = eparent; scope = escope; item = a_message h inner }) (field_with file parent scope around j f o)) ≡ true → uses w q (field_with file parent scope around j f o) ≡ true → UsesEntry w (field_with file parent scope around j f o) head name
    by_mark o q efile eparent escope h inner at false is gives right used = absurd (none-some (head, name) gives)
    by_mark o q efile eparent escope h inner at true is gives right used =
        let same = pair_of h head (full_name (record { file = efile; parent = eparent; scope = escope; item = a_message h inner })) name gives in
        record { place = q; entry = record { file = efile; parent = eparent; scope = escope; item = a_message h inner }; inner = inner; there = at; item = ap (λ x. a_message x inner) same.0; is_entry = ap (λ x. x.is_entry) (sym same.0) ∙ is; full = sym same.1; is_map = right; used = used }

    by_item : (o : Option (List ℕ)) (q efile eparent : ℕ) (escope : List ℕ) (it : Item) → slice_get w.declared q ≡ Some (record { file = efile; parent = eparent; scope = escope; item = it }) → entry_by_item (record { file = efile; parent = eparent; scope = escope; item = it }) it ≡ Some (head, name) → (not (is_entry it) || is_map_field (record { file = efile; parent = eparent; scope = escope; item = it }) (field_with file parent scope around j f o)) ≡ true → uses w q (field_with file parent scope around j f o) ≡ true → UsesEntry w (field_with file parent scope around j f o) head name
    by_item o q efile eparent escope (a_message h inner) at gives right used = by_mark o q efile eparent escope h inner at h.is_entry refl gives right used
    by_item o q efile eparent escope it at gives right used = absurd (none-some (head, name) gives)

    by_declaration : (o : Option (List ℕ)) (q : ℕ) (e : Option Declaration) → slice_get w.declared q ≡ e → option_and_then entry_declared e ≡ Some (head, name) → option_map_or (λ e. not (is_entry e.item) || is_map_field e (field_with file parent scope around j f o)) e true ≡ true → uses w q (field_with file parent scope around j f o) ≡ true → UsesEntry w (field_with file parent scope around j f o) head name
    by_declaration o q None at gives right used = absurd (none-some (head, name) gives)
    by_declaration o q (Some e) at gives right used = by_item o q e.file e.parent e.scope e.item at gives right used

    by_found : (o : Option (List ℕ)) (r : Found) → is_used_rightly w (field_with file parent scope around j f o) r ≡ true → option_and_then (λ place. option_and_then entry_declared (slice_get w.declared place)) (place_found r) ≡ Some (head, name) → ((q : ℕ) → r ≡ found q → uses w q (field_with file parent scope around j f o) ≡ true) → UsesEntry w (field_with file parent scope around j f o) head name
    by_found o (found q) right gives used = by_declaration o q (slice_get w.declared q) refl gives right (used q refl)
    by_found o not_found right gives used = absurd (none-some (head, name) gives)
    by_found o not_visible right gives used = absurd (none-some (head, name) gives)
    by_found o not_a_type right gives used = absurd (none-some (head, name) gives)

    by_name : (o : Option (List ℕ)) → holds w k (field_with file parent scope around j f o) cause.BadMap ≡ true → entry_of w file scope (record f { type_name = o }) ≡ Some (head, name) → UsesEntry w (field_with file parent scope around j f o) head name
    by_name None right gives = absurd (none-some (head, name) gives)
    by_name (Some n) right gives = by_found (Some n) (looked_up w.declared (w.sight.sees file) scope n) (and_left (is_used_rightly w (field_with file parent scope around j f (Some n)) (looked_up w.declared (w.sight.sees file) scope n)) true right) gives (λ q is. ap (λ r. is_found_at q r || false) is ∙ same_place q)

-- THE PARTS OF AN ENTRY

pub record HasParts (w : World) (entry : Declaration) (head : MessageHead) : Type 0 where
  pub key : DeclaredField
  pub value : DeclaredField
  pub key_found : part_named key_name head ≡ Some key
  pub value_found : part_named value_name head ≡ Some value
  pub key_kind : option_map_or is_key_code key.type_code false ≡ true
  pub value_type : option_map_or (is_no_entry w entry) value.type_name true ≡ true
  pub value_single : is_group value.type_code ≡ false
  pub value_index : ℕ
  pub value_there : slice_get head.fields value_index ≡ Some value

part_name : (name : List ℕ) (n : ℕ) (f : DeclaredField) → is_part name n f ≡ true → bytes_eq name f.name ≡ true
part_name name n f h = and_left (bytes_eq name f.name) _ (and_left (bytes_eq name f.name && _) _ (and_left (bytes_eq name f.name && _ && _) _ h))

pub other_name : (f : DeclaredField) (a b : List ℕ) → bytes_eq a b ≡ false → bytes_eq b f.name ≡ true → bytes_eq a f.name ≡ false
other_name f a b apart same = subst (λ x. bytes_eq a x ≡ false) ((bytes_eq-Decides b f.name).0 same) apart

first_found : (t : DeclaredField → Bool) (f g : DeclaredField) → t f ≡ true → find t (f ∷ g ∷ []) ≡ Some f
first_found t f g h = ap (λ b. cond b (Some f) (find t (g ∷ []))) h

second_found : (t : DeclaredField → Bool) (f g : DeclaredField) → t f ≡ false → t g ≡ true → find t (f ∷ g ∷ []) ≡ Some g
second_found t f g h i = ap (λ b. cond b (Some f) (find t (g ∷ []))) h ∙ ap (λ b. cond b (Some g) None) i

pub entry_parts : (w : World) (entry : Declaration) (head : MessageHead) → has_key_and_value w entry head.fields ≡ true → HasParts w entry head
entry_parts w entry head h = by_fields head.fields h
  where
    kv_key : (k v : DeclaredField) → are_key_and_value w entry k v ≡ true → bytes_eq key_name k.name ≡ true
    kv_key k v h = part_name key_name 1 k (and_left (is_part key_name 1 k) _ (and_left (is_part key_name 1 k && _) _ (and_left (is_part key_name 1 k && _ && _) _ h)))

    kv_value : (k v : DeclaredField) → are_key_and_value w entry k v ≡ true → bytes_eq value_name v.name ≡ true
    kv_value k v h = part_name value_name 2 v (and_left (is_part value_name 2 v) (not (is_group v.type_code)) (and_right (is_part key_name 1 k) (is_value_part v) (and_left (is_part key_name 1 k && is_value_part v) _ (and_left (is_part key_name 1 k && is_value_part v && _) _ h))))

    turned : (b : Bool) → not b ≡ true → b ≡ false
    turned true h = absurd (false≢true h)
    turned false h = refl

    kv_single : (k v : DeclaredField) → are_key_and_value w entry k v ≡ true → is_group v.type_code ≡ false
    kv_single k v h = turned (is_group v.type_code) (and_right (is_part value_name 2 v) (not (is_group v.type_code)) (and_right (is_part key_name 1 k) (is_value_part v) (and_left (is_part key_name 1 k && is_value_part v) _ (and_left (is_part key_name 1 k && is_value_part v && _) _ h))))

    kv_code : (k v : DeclaredField) → are_key_and_value w entry k v ≡ true → option_map_or is_key_code k.type_code false ≡ true
    kv_code k v h = and_right (is_part key_name 1 k && is_value_part v) (option_map_or is_key_code k.type_code false) (and_left (is_part key_name 1 k && is_value_part v && option_map_or is_key_code k.type_code false) _ h)

    kv_type : (k v : DeclaredField) → are_key_and_value w entry k v ≡ true → option_map_or (is_no_entry w entry) v.type_name true ≡ true
    kv_type k v h = and_right (is_part key_name 1 k && is_value_part v && option_map_or is_key_code k.type_code false) (option_map_or (is_no_entry w entry) v.type_name true) h

    either : (f g : DeclaredField) (a b : Bool) → are_key_and_value w entry f g ≡ a → are_key_and_value w entry g f ≡ b → (a || b) ≡ true → HasParts w entry (record head { fields = f ∷ g ∷ [] })
    either f g true b first second h = record {
      key = f;
      value = g;
      key_found = first_found (λ x. bytes_eq key_name x.name) f g (kv_key f g first);
      value_found = second_found (λ x. bytes_eq value_name x.name) f g (other_name f value_name key_name refl (kv_key f g first)) (kv_value f g first);
      key_kind = kv_code f g first;
      value_type = kv_type f g first;
      value_single = kv_single f g first;
      value_index = 1;
      value_there = refl;
    }
    either f g false true first second h = record {
      key = g;
      value = f;
      key_found = second_found (λ x. bytes_eq key_name x.name) f g (other_name f key_name value_name refl (kv_value g f second)) (kv_key g f second);
      value_found = first_found (λ x. bytes_eq value_name x.name) f g (kv_value g f second);
      key_kind = kv_code g f second;
      value_type = kv_type g f second;
      value_single = kv_single g f second;
      value_index = 0;
      value_there = refl;
    }
    either f g false false first second h = absurd (false≢true h)

    by_fields : (fs : List DeclaredField) → has_key_and_value w entry fs ≡ true → HasParts w entry (record head { fields = fs })
    by_fields [] h = absurd (false≢true h)
    by_fields (f ∷ []) h = absurd (false≢true h)
    by_fields (f ∷ g ∷ []) h = either f g (are_key_and_value w entry f g) (are_key_and_value w entry g f) refl refl h
    by_fields (f ∷ g ∷ e ∷ fs) h = absurd (false≢true h)

-- what the rule of maps says of an entry
pub record IsRightEntry (w : World) (place : ℕ) (entry : Declaration) (head : MessageHead) (inner : DeclaredMessages) : Type 0 where
  pub one_use : has_one_use w place entry ≡ true
  pub two : has_key_and_value w entry head.fields ≡ true
  pub parts : HasParts w entry head
  pub nothing_inside : has_nothing_inside head inner ≡ true

pub right_entry : (w : World) → NothingFails w → (q : ℕ) (e : Declaration) (head : MessageHead) (inner : DeclaredMessages) → slice_get w.declared q ≡ Some e → e.item ≡ a_message head inner → head.is_entry ≡ true → IsRightEntry w q e head inner
right_entry w nothing q e head inner there item is = record {
  one_use = and_left (has_one_use w q e) _ (and_left (has_one_use w q e && _) _ all);
  two = and_right (has_one_use w q e) (has_key_and_value w e head.fields) (and_left (has_one_use w q e && has_key_and_value w e head.fields) _ all);
  parts = entry_parts w e head (and_right (has_one_use w q e) (has_key_and_value w e head.fields) (and_left (has_one_use w q e && has_key_and_value w e head.fields) _ all));
  nothing_inside = and_right (has_one_use w q e && has_key_and_value w e head.fields) (has_nothing_inside head inner) all;
}
  where
    with_item : (it : Item) → it ≡ a_message head inner → holds w q (record e { item = it }) cause.BadMap ≡ true → (not head.is_entry || (has_one_use w q (record e { item = it }) && has_key_and_value w (record e { item = it }) head.fields && has_nothing_inside head inner)) ≡ true
    with_item it same h = subst (λ x. holds w q (record e { item = x }) cause.BadMap ≡ true → (not head.is_entry || (has_one_use w q (record e { item = x }) && has_key_and_value w (record e { item = x }) head.fields && has_nothing_inside head inner)) ≡ true) (sym same) (λ r. r) h

    all : (has_one_use w q e && has_key_and_value w e head.fields && has_nothing_inside head inner) ≡ true
    all = subst (λ b. (not b || (has_one_use w q e && has_key_and_value w e head.fields && has_nothing_inside head inner)) ≡ true) is (with_item e.item item (place_holds w nothing q e cause.BadMap there))
