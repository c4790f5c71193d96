-- What is read off the row of linked declarations are the types of the pool.
use Rattle.std.proofs.Common.{◌≡◌, ℕ, zero, suc, ◌+◌, ◌⊎◌, inl, inr, List, [], ◌∷◌, Bool, true, false, ◌||◌, ◌==◌, length, map, take, drop, refl, sym, ap, ◌∙◌, subst, arith, Option, Some, None, add-zero}
use Rattle.std.specs.Prelude.{slice_get, filter, filter_map, cond, if◌then◌else◌, option_and_then, option_map, find}
use Rattle.std.specs.List.{cons_option}
use Rattle.std.specs.Option.{option_map_or}
use Rattle.std.specs.Str.{bytes_eq}
use Rattle.std.proofs.lemmas.Bool.{false≢true}
use Rattle.std.proofs.lemmas.Bool.Decides.{nat_tests}
use Rattle.std.proofs.lemmas.Option.{none-some, slice_get-map}
use Rattle.pb_schema.specs.declared.types.Kind.{Kind}
use Rattle.pb_schema.specs.declared.types.Kind.TheVariants as kind
use Rattle.pb_schema.specs.declared.types.FileInfo.{FileInfo}
use Rattle.pb_schema.specs.declared.types.MessageType.{MessageType}
use Rattle.pb_schema.specs.declared.types.EnumType.{EnumType}
use Rattle.pb_schema.specs.Names.{in_scope}
use Rattle.pb_schema.specs.View.{file_view, message_view, enum_view, types_of}
use Rattle.pb_declarations.specs.Decls.{DeclaredField, MessageHead, DeclaredMessages, DeclaredFile}
use Rattle.pb_link_names.specs.Sees.{files_of}
use Rattle.pb_link_names.specs.Declarations.{Item, a_file, a_message, a_field, a_oneof, an_enum, a_value, a_service, a_method, Declaration}
use Rattle.pb_link_names.specs.Lookup.{Found, found, not_found, not_visible, not_a_type, looked_up}
use Rattle.pb_link_rules.specs.Rules.{World, item_of, lookups, uses, is_found_at, is_enum, is_message, is_field, place_found, has_key_and_value, key_name, value_name, is_message_type, is_two, is_group}
use Rattle.pb_link_rules.specs.Link.{NothingFails, IsWorldOf}
use Rattle.pb_link.specs.PoolOf.{message_index, enum_index, kind_at, kind_by_item, kind_declared, enum_kind, parent_type, parent_by_item, type_place, kind_by_place, kind_of_field, part_named, entry_declared, entry_by_item, with_kind, field_by_entry, field_type, message_of_head, message_type, message_by_item, enum_type, enum_by_item, pool_of, grouped}
use Rattle.pb_link_names.specs.View.{declaration_view, type_names_view}
use Rattle.pb_declarations.specs.View.{file_view as declared_file_view}
use Rattle.pb_link.specs.Pools.{kind_here, kinds_from, one_if, first_place, place_named, kind_of_number, kind_read, fields_of_entry, entry_read, parts_read, map_field, field_by_fields, field_by_place, fields_read, message_of_kind, parent_read, message_part, enum_part, messages_read, enums_read, is_read_two}
use Rattle.pb_link.specs.declared.pools.tables.Tables.{Tables}
use Rattle.pb_link_rules.proofs.ThereLemmas.{some_same, and_left, field_there}
use Rattle.pb_link.proofs.EntryLemmas.{UsesEntry, entry_used, HasParts, IsRightEntry, right_entry, other_name}
use Rattle.pb_link.proofs.KindLemmas.{same_file}

-- what the tables hold
pub record AreTables (w : World) (t : Tables) : Type 0 where
  pub declared : w.declared ≡ map declaration_view t.row.now
  pub found : map type_names_view t.found.now ≡ map (lookups w) w.declared
  pub kinds : t.kinds.items ≡ kinds_from w.files 0 0 w.declared
  pub files : map declared_file_view t.files.now ≡ w.files

zero_plus : (n : ℕ) → 0 + n ≡ n
zero_plus n = omega arith

-- KINDS

one_if_plus : {X : Type 0} (b : Bool) (n : ℕ) (x : X) (xs : List X) → one_if b n + length xs ≡ n + length (cond b (x ∷ xs) xs)
one_if_plus true n x xs = omega arith
one_if_plus false n x xs = refl

kinds_get : (fs : List DeclaredFile) (m e : ℕ) (ds : List Declaration) (p : ℕ) (d : Declaration) → slice_get ds p ≡ Some d → slice_get (kinds_from fs m e ds) p ≡ Some (kind_here (is_two fs d.file) (m + length (filter (λ x. is_message_type x.item) (take p ds))) (e + length (filter (λ x. is_enum x.item) (take p ds))) d.item)
kinds_get fs m e [] p d there = absurd (none-some d there)
kinds_get fs m e (x ∷ ds) zero d there =
    let no_messages : m ≡ m + 0 = sym (add-zero m) in
    let no_enums : e ≡ e + 0 = sym (add-zero e) in
    λ i. Some (kind_here (is_two fs (some_same x d there i).file) (no_messages i) (no_enums i) (some_same x d there i).item)
kinds_get fs m e (x ∷ ds) (suc p) d there =
    kinds_get fs (one_if (is_message_type x.item) m) (one_if (is_enum x.item) e) ds p d there
    ∙ λ i. Some (kind_here (is_two fs d.file) (one_if_plus (is_message_type x.item) m x (filter (λ x. is_message_type x.item) (take p ds)) i) (one_if_plus (is_enum x.item) e x (filter (λ x. is_enum x.item) (take p ds)) i) d.item)

kinds_past : (fs : List DeclaredFile) (m e : ℕ) (ds : List Declaration) (p : ℕ) → slice_get ds p ≡ None → slice_get (kinds_from fs m e ds) p ≡ None
kinds_past fs m e [] p past = refl
kinds_past fs m e (x ∷ ds) zero past = absurd (none-some x (sym past))
kinds_past fs m e (x ∷ ds) (suc p) past = kinds_past fs (one_if (is_message_type x.item) m) (one_if (is_enum x.item) e) ds p past

kind_by_here : (w : World) (file p : ℕ) (it : Item) → kind_here (is_two w.files file) (0 + message_index w p) (0 + enum_index w p) it ≡ kind_by_item w file p it
kind_by_here w file p (a_message head inner) = λ i. kind.Message (record { 0 = zero_plus (message_index w p) i })
kind_by_here w file p (an_enum e) = ap (enum_kind (is_two w.files file)) (zero_plus (enum_index w p))
kind_by_here w file p (a_file f) = refl
kind_by_here w file p (a_field head i f) = refl
kind_by_here w file p (a_oneof head i name) = refl
kind_by_here w file p (a_value e i v) = refl
kind_by_here w file p (a_service s) = refl
kind_by_here w file p (a_method m) = refl

-- the kinds of the table are those of the pool
kind_there : (w : World) (t : Tables) → AreTables w t → (p : ℕ) → option_map_or (λ k. k) (slice_get t.kinds.items p) kind.Bool ≡ kind_at w p
kind_there w t tables p = ap (λ ks. option_map_or (λ k. k) (slice_get ks p) kind.Bool) tables.kinds ∙ by_declared (slice_get w.declared p) refl
  where
    by_declared : (o : Option Declaration) → slice_get w.declared p ≡ o → option_map_or (λ k. k) (slice_get (kinds_from w.files 0 0 w.declared) p) kind.Bool ≡ kind_at w p
    by_declared None there = ap (λ o. option_map_or (λ k. k) o kind.Bool) (kinds_past w.files 0 0 w.declared p there) ∙ sym (ap (kind_declared w p) there)
    by_declared (Some d) there = ap (λ o. option_map_or (λ k. k) o kind.Bool) (kinds_get w.files 0 0 w.declared p d there) ∙ kind_by_here w d.file p d.item ∙ sym (ap (kind_declared w p) there)

parent_by_kind : (w : World) (file p : ℕ) (it : Item) → message_of_kind (kind_by_item w file p it) ≡ parent_by_item w p (Some it)
parent_by_kind w file p (a_message head inner) = refl
parent_by_kind w file p (an_enum e) = no_parent (is_two w.files file) (enum_index w p)
  where
    no_parent : (b : Bool) (n : ℕ) → message_of_kind (enum_kind b n) ≡ None
    no_parent true n = refl
    no_parent false n = refl
parent_by_kind w file p (a_file f) = refl
parent_by_kind w file p (a_field head i f) = refl
parent_by_kind w file p (a_oneof head i name) = refl
parent_by_kind w file p (a_value e i v) = refl
parent_by_kind w file p (a_service s) = refl
parent_by_kind w file p (a_method m) = refl

parent_there : (w : World) (t : Tables) → AreTables w t → (p : ℕ) → parent_read t p ≡ parent_type w p
parent_there w t tables p = ap (λ ks. option_and_then message_of_kind (slice_get ks p)) tables.kinds ∙ by_declared (slice_get w.declared p) refl
  where
    by_declared : (o : Option Declaration) → slice_get w.declared p ≡ o → option_and_then message_of_kind (slice_get (kinds_from w.files 0 0 w.declared) p) ≡ parent_type w p
    by_declared None there = ap (option_and_then message_of_kind) (kinds_past w.files 0 0 w.declared p there) ∙ sym (ap (λ o. parent_by_item w p (item_of o)) there)
    by_declared (Some d) there = ap (option_and_then message_of_kind) (kinds_get w.files 0 0 w.declared p d there) ∙ ap message_of_kind (kind_by_here w d.file p d.item) ∙ parent_by_kind w d.file p d.item ∙ sym (ap (λ o. parent_by_item w p (item_of o)) there)

-- TYPE NAMES

get_dropped : {X : Type 0} (n : ℕ) (xs : List X) (i : ℕ) → slice_get (drop n xs) i ≡ slice_get xs (n + i)
get_dropped zero xs i = ap (slice_get xs) (sym (zero_plus i))
get_dropped (suc n) [] i = refl
get_dropped (suc n) (x ∷ xs) i = get_dropped n xs i ∙ ap (slice_get (x ∷ xs)) (move n i)
  where
    move : (n i : ℕ) → suc (n + i) ≡ suc n + i
    move n i = omega arith

then_map : {X Y Z : Type 0} (f : X → Y) (g : Y → Option Z) (o : Option X) → option_and_then (λ x. g (f x)) o ≡ option_and_then g (option_map f o)
then_map f g None = refl
then_map f g (Some x) = refl

names_there : (w : World) (t : Tables) → AreTables w t → (q i : ℕ) (d : Declaration) → slice_get w.declared (q + 1 + i) ≡ Some d → place_named (drop (q + 1) t.found.now) i ≡ first_place (lookups w d)
names_there w t tables q i d there =
    ap (option_and_then (λ n. first_place (type_names_view n))) (get_dropped (q + 1) t.found.now i)
    ∙ then_map type_names_view first_place (slice_get t.found.now (q + 1 + i))
    ∙ ap (option_and_then first_place) (sym (slice_get-map type_names_view t.found.now (q + 1 + i)) ∙ ap (λ xs. slice_get xs (q + 1 + i)) tables.found ∙ slice_get-map (lookups w) w.declared (q + 1 + i) ∙ ap (option_map (lookups w)) there)

type_read : (w : World) (file parent : ℕ) (scope : List ℕ) (head : MessageHead) (j : ℕ) (f : DeclaredField) → first_place (lookups w (record { file = file; parent = parent; scope = scope; item = a_field head j f })) ≡ type_place w file scope f
type_read w file parent scope head j f = by_name f.type_name
  where
    by_name : (o : Option (List ℕ)) → first_place (lookups w (record { file = file; parent = parent; scope = scope; item = a_field head j (record f { type_name = o }) })) ≡ type_place w file scope (record f { type_name = o })
    by_name None = refl
    by_name (Some name) = refl

kind_is : (w : World) (t : Tables) → AreTables w t → (file : ℕ) (scope : List ℕ) (f : DeclaredField) → kind_read t (type_place w file scope f) f.type_code ≡ kind_of_field w file scope f
kind_is w t tables file scope f = by_place (type_place w file scope f)
  where
    by_place : (o : Option ℕ) → kind_read t o f.type_code ≡ kind_by_place w f o
    by_place None = refl
    by_place (Some p) = ap (grouped (is_group f.type_code)) (kind_there w t tables p)

-- ENTRIES

-- the key is first and the value second, or the other way round
two_parts : (f g k v : DeclaredField) → find (λ x. bytes_eq key_name x.name) (f ∷ g ∷ []) ≡ Some k → find (λ x. bytes_eq value_name x.name) (f ∷ g ∷ []) ≡ Some v → ((bytes_eq key_name f.name ≡ true) × (k ≡ f) × (v ≡ g)) ⊎ ((bytes_eq key_name f.name ≡ false) × (k ≡ g) × (v ≡ f))
two_parts f g k v key value = by_first (bytes_eq key_name f.name) refl key
  where
    value_second : (b : Bool) → bytes_eq value_name f.name ≡ false → cond (bytes_eq value_name f.name) (Some f) (cond b (Some g) None) ≡ Some v → v ≡ g
    value_second true other at = sym (some_same g v (sym (ap (λ c. cond c (Some f) (Some g)) other) ∙ at))
    value_second false other at = absurd (none-some v (sym (ap (λ c. cond c (Some f) None) other) ∙ at))

    value_first : (b : Bool) → bytes_eq value_name g.name ≡ false → cond b (Some f) (cond (bytes_eq value_name g.name) (Some g) None) ≡ Some v → v ≡ f
    value_first true other at = sym (some_same f v at)
    value_first false other at = absurd (none-some v (sym (ap (λ c. cond c (Some g) None) other) ∙ at))

    by_second : (b : Bool) → bytes_eq key_name g.name ≡ b → cond b (Some g) None ≡ Some k → (bytes_eq key_name g.name ≡ true) × (k ≡ g)
    by_second true is at = (is, sym (some_same g k at))
    by_second false is at = absurd (none-some k at)

    by_first : (b : Bool) → bytes_eq key_name f.name ≡ b → cond b (Some f) (cond (bytes_eq key_name g.name) (Some g) None) ≡ Some k → ((b ≡ true) × (k ≡ f) × (v ≡ g)) ⊎ ((b ≡ false) × (k ≡ g) × (v ≡ f))
    by_first true is at = inl (refl, sym (some_same f k at), value_second (bytes_eq value_name g.name) (other_name f value_name key_name refl is) value)
    by_first false is at =
        let second = by_second (bytes_eq key_name g.name) refl at in
        inr (refl, second.1, value_first (bytes_eq value_name f.name) (other_name g value_name key_name refl second.0) value)

-- the kinds of an entry's key and value
abbrev kinds_of_entry : World → ℕ → List ℕ → Option DeclaredField → Option DeclaredField → Kind × Kind
kinds_of_entry w file scope key value = (option_map_or (λ k. kind_of_number k.type_code) key kind.Bool, option_map_or (kind_of_field w file scope) value kind.Bool)

parts_are : (files : List DeclaredFile) (w : World) → IsWorldOf files w → (t : Tables) → AreTables w t → (p file parent : ℕ) (scope : List ℕ) (h : MessageHead) (inner : DeclaredMessages) → slice_get w.declared p ≡ Some (record { file = file; parent = parent; scope = scope; item = a_message h inner }) → has_key_and_value w (record { file = file; parent = parent; scope = scope; item = a_message h inner }) h.fields ≡ true → HasParts w (record { file = file; parent = parent; scope = scope; item = a_message h inner }) h → parts_read t (drop (p + 1) t.found.now) h.fields ≡ kinds_of_entry w file (in_scope scope h.name) (part_named key_name h) (part_named value_name h)
parts_are files w world t tables p file parent scope h inner there two parts = by_fields h.fields refl two
  where
    value_kind : (j : ℕ) (g : DeclaredField) → slice_get h.fields j ≡ Some g → kind_read t (place_named (drop (p + 1) t.found.now) j) g.type_code ≡ kind_of_field w file (in_scope scope h.name) g
    value_kind j g at =
        ap (λ o. kind_read t o g.type_code) (names_there w t tables p j (record { file = file; parent = p; scope = in_scope scope h.name; item = a_field h j g }) (field_there files w world p file parent scope h inner there j g at) ∙ type_read w file p (in_scope scope h.name) h j g)
        ∙ kind_is w t tables file (in_scope scope h.name) g

    by_order : (f g : DeclaredField) → h.fields ≡ f ∷ g ∷ [] → ((bytes_eq key_name f.name ≡ true) × (parts.key ≡ f) × (parts.value ≡ g)) ⊎ ((bytes_eq key_name f.name ≡ false) × (parts.key ≡ g) × (parts.value ≡ f)) → parts_read t (drop (p + 1) t.found.now) (f ∷ g ∷ []) ≡ kinds_of_entry w file (in_scope scope h.name) (Some parts.key) (Some parts.value)
    by_order f g is (inl (first, key, value)) =
        ap (λ c. if c then (kind_of_number f.type_code, kind_read t (place_named (drop (p + 1) t.found.now) 1) g.type_code) else (kind_of_number g.type_code, kind_read t (place_named (drop (p + 1) t.found.now) 0) f.type_code)) first
        ∙ λ i. (kind_of_number (sym key i).type_code, (value_kind 1 g (ap (λ fs. slice_get fs 1) is) ∙ ap (kind_of_field w file (in_scope scope h.name)) (sym value)) i)
    by_order f g is (inr (second, key, value)) =
        ap (λ c. if c then (kind_of_number f.type_code, kind_read t (place_named (drop (p + 1) t.found.now) 1) g.type_code) else (kind_of_number g.type_code, kind_read t (place_named (drop (p + 1) t.found.now) 0) f.type_code)) second
        ∙ λ i. (kind_of_number (sym key i).type_code, (value_kind 0 f (ap (λ fs. slice_get fs 0) is) ∙ ap (kind_of_field w file (in_scope scope h.name)) (sym value)) i)

    by_fields : (fs : List DeclaredField) → h.fields ≡ fs → has_key_and_value w (record { file = file; parent = parent; scope = scope; item = a_message h inner }) fs ≡ true → parts_read t (drop (p + 1) t.found.now) h.fields ≡ kinds_of_entry w file (in_scope scope h.name) (part_named key_name h) (part_named value_name h)
    by_fields [] is two = absurd (false≢true two)
    by_fields (f ∷ []) is two = absurd (false≢true two)
    by_fields (f ∷ g ∷ []) is two =
        ap (parts_read t (drop (p + 1) t.found.now)) is
        ∙ by_order f g is (two_parts f g parts.key parts.value (sym (ap (find (λ x. bytes_eq key_name x.name)) is) ∙ parts.key_found) (sym (ap (find (λ x. bytes_eq value_name x.name)) is) ∙ parts.value_found))
        ∙ λ i. kinds_of_entry w file (in_scope scope h.name) (sym parts.key_found i) (sym parts.value_found i)
    by_fields (f ∷ g ∷ e ∷ fs) is two = absurd (false≢true two)

-- the entry that a field uses stands at the place that was found
used_place : (w : World) (file parent : ℕ) (scope : List ℕ) (head : MessageHead) (j : ℕ) (f : DeclaredField) (a p : ℕ) → uses w a (record { file = file; parent = parent; scope = scope; item = a_field head j f }) ≡ true → type_place w file scope f ≡ Some p → a ≡ p
used_place w file parent scope head j f a p = by_name f.type_name
  where
    eq_of : (a b : ℕ) → ((a == b) || false) ≡ true → a ≡ b
    eq_of a b e = grind (arith, nat_tests)

    by_found : (r : Found) → (is_found_at a r || false) ≡ true → place_found r ≡ Some p → a ≡ p
    by_found (found q) used at = eq_of a q used ∙ some_same q p at
    by_found not_found used at = absurd (none-some p at)
    by_found not_visible used at = absurd (none-some p at)
    by_found not_a_type used at = absurd (none-some p at)

    by_name : (o : Option (List ℕ)) → uses w a (record { file = file; parent = parent; scope = scope; item = a_field head j (record f { type_name = o }) }) ≡ true → type_place w file scope (record f { type_name = o }) ≡ Some p → a ≡ p
    by_name None used at = absurd (none-some p at)
    by_name (Some name) used at = by_found (looked_up w.declared (w.sight.sees file) scope name) used at

-- FIELDS

entry_there : (w : World) (t : Tables) → AreTables w t → (p : ℕ) → entry_read t p ≡ option_and_then (λ d. fields_of_entry d.item) (slice_get w.declared p)
entry_there w t tables p =
    then_map declaration_view (λ d. fields_of_entry d.item) (slice_get t.row.now p)
    ∙ ap (option_and_then (λ d. fields_of_entry d.item)) (sym (slice_get-map declaration_view t.row.now p) ∙ ap (λ ds. slice_get ds p) (sym tables.declared))

field_is : (files : List DeclaredFile) (w : World) → IsWorldOf files w → NothingFails w → (t : Tables) → AreTables w t → (q file parent : ℕ) (scope : List ℕ) (head : MessageHead) (j : ℕ) (f : DeclaredField) → slice_get w.declared q ≡ Some (record { file = file; parent = parent; scope = scope; item = a_field head j f }) → field_by_place (is_two w.files file) t f (type_place w file scope f) ≡ field_type w file scope f
field_is files w world nothing t tables q file parent scope head j f there = by_place (type_place w file scope f) refl
  where
    eq_of : (a b : ℕ) → (a == b) ≡ true → a ≡ b
    eq_of a b e = grind (arith, nat_tests)

    plain : (p : ℕ) → type_place w file scope f ≡ Some p → with_kind (is_two w.files file) f (kind_read t (Some p) f.type_code) ≡ with_kind (is_two w.files file) f (kind_of_field w file scope f)
    plain p is = ap (with_kind (is_two w.files file) f) (ap (grouped (is_group f.type_code)) (kind_there w t tables p) ∙ sym (ap (kind_by_place w f) is))

    by_used : (p : ℕ) (e : Declaration) (h : MessageHead) (inner : DeclaredMessages) → type_place w file scope f ≡ Some p → slice_get w.declared p ≡ Some e → e.item ≡ a_message h inner → (h2 : MessageHead) (name : List ℕ) → UsesEntry w (record { file = file; parent = parent; scope = scope; item = a_field head j f }) h2 name → e.file ≡ file
    by_used p e h inner is at item h2 name u =
        let same : u.place ≡ p = used_place w file parent scope head j f u.place p u.used is in
        let entry : u.entry ≡ e = some_same u.entry e (sym u.there ∙ ap (slice_get w.declared) same ∙ at) in
        ap (λ x. x.file) (sym entry)
        ∙ sym (same_file files w world q u.place (record { file = file; parent = parent; scope = scope; item = a_field head j f }) u.entry there u.there (λ g is. false≢true (sym (ap is_field is))) (λ g is. false≢true (ap is_message (sym is ∙ u.item))) (eq_of parent u.entry.parent (and_left (parent == u.entry.parent) _ u.is_map)))

    by_mark : (p efile eparent : ℕ) (escope : List ℕ) (h : MessageHead) (inner : DeclaredMessages) (b : Bool) → h.is_entry ≡ b → type_place w file scope f ≡ Some p → slice_get w.declared p ≡ Some (record { file = efile; parent = eparent; scope = escope; item = a_message h inner }) → field_by_fields (is_two w.files file) t p f (if b then Some h.fields else None) ≡ field_by_entry w file scope f (if b then Some (h, in_scope escope h.name) else None)
    by_mark p efile eparent escope h inner false mark is at = plain p is
    by_mark p efile eparent escope h inner true mark is at =
        let e : Declaration = record { file = efile; parent = eparent; scope = escope; item = a_message h inner } in
        let told = ap (λ o. option_and_then (λ place. option_and_then entry_declared (slice_get w.declared place)) o) is ∙ ap (λ o. option_and_then entry_declared o) at ∙ ap (λ b. if b then Some (h, in_scope escope h.name) else None) mark in
        let same : efile ≡ file = by_used p e h inner is at refl h (in_scope escope h.name) (entry_used w nothing q file parent scope head j f there h (in_scope escope h.name) told) in
        let entry : IsRightEntry w p e h inner = right_entry w nothing p e h inner at refl mark in
        ap (map_field f) (parts_are files w world t tables p efile eparent escope h inner at entry.two entry.parts ∙ ap (λ n. kinds_of_entry w n (in_scope escope h.name) (part_named key_name h) (part_named value_name h)) same)

    by_item : (p efile eparent : ℕ) (escope : List ℕ) (it : Item) → type_place w file scope f ≡ Some p → slice_get w.declared p ≡ Some (record { file = efile; parent = eparent; scope = escope; item = it }) → field_by_fields (is_two w.files file) t p f (fields_of_entry it) ≡ field_by_entry w file scope f (entry_by_item (record { file = efile; parent = eparent; scope = escope; item = it }) it)
    by_item p efile eparent escope (a_message h inner) is at = by_mark p efile eparent escope h inner h.is_entry refl is at
    by_item p efile eparent escope (a_file g) is at = plain p is
    by_item p efile eparent escope (a_field x i g) is at = plain p is
    by_item p efile eparent escope (a_oneof x i g) is at = plain p is
    by_item p efile eparent escope (an_enum e) is at = plain p is
    by_item p efile eparent escope (a_value e i v) is at = plain p is
    by_item p efile eparent escope (a_service s) is at = plain p is
    by_item p efile eparent escope (a_method m) is at = plain p is

    by_declared : (p : ℕ) (o : Option Declaration) → type_place w file scope f ≡ Some p → slice_get w.declared p ≡ o → field_by_fields (is_two w.files file) t p f (option_and_then (λ d. fields_of_entry d.item) o) ≡ field_by_entry w file scope f (option_and_then entry_declared o)
    by_declared p None is at = plain p is
    by_declared p (Some d) is at = by_item p d.file d.parent d.scope d.item is at

    by_place : (o : Option ℕ) → type_place w file scope f ≡ o → field_by_place (is_two w.files file) t f o ≡ field_by_entry w file scope f (option_and_then (λ place. option_and_then entry_declared (slice_get w.declared place)) o)
    by_place None is = ap (with_kind (is_two w.files file) f) (sym (ap (kind_by_place w f) is))
    by_place (Some p) is = ap (field_by_fields (is_two w.files file) t p f) (entry_there w t tables p) ∙ by_declared p (slice_get w.declared p) is refl

fields_are : (files : List DeclaredFile) (w : World) → IsWorldOf files w → NothingFails w → (t : Tables) → AreTables w t → (k file : ℕ) (scope : List ℕ) (head : MessageHead) (i : ℕ) (fs : List DeclaredField) → ((j : ℕ) (f : DeclaredField) → slice_get fs j ≡ Some f → slice_get w.declared (k + 1 + (i + j)) ≡ Some (record { file = file; parent = k; scope = scope; item = a_field head (i + j) f })) → fields_read (is_two w.files file) t (drop (k + 1) t.found.now) i fs ≡ map (field_type w file scope) fs
fields_are files w world nothing t tables k file scope head i [] each = refl
fields_are files w world nothing t tables k file scope head i (f ∷ fs) each =
    let here : slice_get w.declared (k + 1 + i) ≡ Some (record { file = file; parent = k; scope = scope; item = a_field head i f }) = ap (λ n. slice_get w.declared (k + 1 + n)) (sym (add-zero i)) ∙ each 0 f refl ∙ λ z. Some (record { file = file; parent = k; scope = scope; item = a_field head (add-zero i z) f }) in
    let own : field_by_place (is_two w.files file) t f (place_named (drop (k + 1) t.found.now) i) ≡ field_type w file scope f = ap (field_by_place (is_two w.files file) t f) (names_there w t tables k i (record { file = file; parent = k; scope = scope; item = a_field head i f }) here ∙ type_read w file k scope head i f) ∙ field_is files w world nothing t tables (k + 1 + i) file k scope head i f here in
    let rest = fields_are files w world nothing t tables k file scope head (i + 1) fs (λ j g at. subst (λ n. slice_get w.declared (k + 1 + n) ≡ Some (record { file = file; parent = k; scope = scope; item = a_field head n g })) (omega arith) (each (suc j) g at)) in
    λ z. own z ∷ rest z

-- TYPES

message_is : (files : List DeclaredFile) (w : World) → IsWorldOf files w → NothingFails w → (t : Tables) → AreTables w t → (k file parent : ℕ) (scope : List ℕ) (it : Item) → slice_get w.declared k ≡ Some (record { file = file; parent = parent; scope = scope; item = it }) → message_part t k (record { file = file; parent = parent; scope = scope; item = it }) it ≡ message_by_item w (record { file = file; parent = parent; scope = scope; item = it }) it
message_is files w world nothing t tables k file parent scope (a_message head inner) there =
    let name = in_scope scope head.name in
    let fields : fields_read (is_read_two t file) t (drop (k + 1) t.found.now) 0 head.fields ≡ map (field_type w file name) head.fields =
    ap (λ fs. fields_read (is_two fs file) t (drop (k + 1) t.found.now) 0 head.fields) tables.files ∙ fields_are files w world nothing t tables k file name head 0 head.fields (λ j f at. subst (λ n. slice_get w.declared (k + 1 + n) ≡ Some (record { file = file; parent = k; scope = name; item = a_field head n f })) (sym (zero_plus j)) (field_there files w world k file parent scope head inner there j f at)) in
    λ i. if head.is_entry then None else Some (record (message_of_head w (record { file = file; parent = parent; scope = scope; item = a_message head inner }) head) { parent = parent_there w t tables parent i; fields = fields i })
message_is files w world nothing t tables k file parent scope (a_file f) there = refl
message_is files w world nothing t tables k file parent scope (a_field x i f) there = refl
message_is files w world nothing t tables k file parent scope (a_oneof x i f) there = refl
message_is files w world nothing t tables k file parent scope (an_enum e) there = refl
message_is files w world nothing t tables k file parent scope (a_value e i v) there = refl
message_is files w world nothing t tables k file parent scope (a_service s) there = refl
message_is files w world nothing t tables k file parent scope (a_method m) there = refl

enum_is : (w : World) (t : Tables) → AreTables w t → (file parent : ℕ) (scope : List ℕ) (it : Item) → enum_part t (record { file = file; parent = parent; scope = scope; item = it }) it ≡ enum_by_item w (record { file = file; parent = parent; scope = scope; item = it }) it
enum_is w t tables file parent scope (an_enum e) = λ i. Some (record { name = e.name; file = file; parent = parent_there w t tables parent i; values = e.values })
enum_is w t tables file parent scope (a_file f) = refl
enum_is w t tables file parent scope (a_message head inner) = refl
enum_is w t tables file parent scope (a_field x i f) = refl
enum_is w t tables file parent scope (a_oneof x i f) = refl
enum_is w t tables file parent scope (a_value e i v) = refl
enum_is w t tables file parent scope (a_service s) = refl
enum_is w t tables file parent scope (a_method m) = refl

messages_are : (files : List DeclaredFile) (w : World) → IsWorldOf files w → NothingFails w → (t : Tables) → AreTables w t → (k : ℕ) (ds : List Declaration) → ((j : ℕ) (d : Declaration) → slice_get ds j ≡ Some d → slice_get w.declared (k + j) ≡ Some d) → messages_read t k ds ≡ filter_map (message_type w) ds
messages_are files w world nothing t tables k [] each = refl
messages_are files w world nothing t tables k (d ∷ ds) each =
    let own : message_part t k d d.item ≡ message_by_item w d d.item = message_is files w world nothing t tables k d.file d.parent d.scope d.item (ap (slice_get w.declared) (sym (add-zero k)) ∙ each 0 d refl) in
    let rest = messages_are files w world nothing t tables (k + 1) ds (λ j e at. ap (slice_get w.declared) (omega arith) ∙ each (suc j) e at) in
    λ i. cons_option (own i) (rest i)

enums_are : (w : World) (t : Tables) → AreTables w t → (ds : List Declaration) → enums_read t ds ≡ filter_map (enum_type w) ds
enums_are w t tables [] = refl
enums_are w t tables (d ∷ ds) =
    let own : enum_part t d d.item ≡ enum_by_item w d d.item = enum_is w t tables d.file d.parent d.scope d.item in
    let rest = enums_are w t tables ds in
    λ i. cons_option (own i) (rest i)

-- THE POOL

pub pool_read : (all : List DeclaredFile) (w : World) → IsWorldOf all w → NothingFails w → (t : Tables) → w.declared ≡ map declaration_view t.row.now → map type_names_view t.found.now ≡ map (lookups w) w.declared → t.kinds.items ≡ kinds_from (map declared_file_view t.files.now) 0 0 (map declaration_view t.row.now) → map declared_file_view t.files.now ≡ all → (files : List FileInfo) (messages : List MessageType) (enums : List EnumType) → map file_view files ≡ files_of all → map message_view messages ≡ messages_read t 0 (map declaration_view t.row.now) → map enum_view enums ≡ enums_read t (map declaration_view t.row.now) → types_of files messages enums ≡ pool_of all w
pool_read all w world nothing t declared found_is kinds listed files messages enums files_is messages_is enums_is =
    let in_files : map declared_file_view t.files.now ≡ w.files = listed ∙ sym world.in_files in
    let tables : AreTables w t = record { declared = declared; found = found_is; kinds = kinds ∙ ap (λ fs. kinds_from fs 0 0 (map declaration_view t.row.now)) in_files ∙ ap (kinds_from w.files 0 0) (sym declared); files = in_files } in
    let same_messages = messages_is ∙ ap (messages_read t 0) (sym declared) ∙ messages_are all w world nothing t tables 0 w.declared (λ j d at. ap (slice_get w.declared) (zero_plus j) ∙ at) in
    let same_enums = enums_is ∙ ap (enums_read t) (sym declared) ∙ enums_are w t tables w.declared in
    λ i. record { files = files_is i; messages = same_messages i; enums = same_enums i }
