-- Each full name of a pool is that of a named declaration, which no other one has, and no package's.
use Rattle.std.proofs.Common.{◌≡◌, ℕ, ℤ, pos, negsuc, zero, suc, ◌+◌, ◌<◌, ◌≤◌, ◌⊎◌, inl, inr, ⊎_elim, List, [], ◌∷◌, ◌++◌, Bool, true, false, not, ◌&&◌, ◌||◌, ◌==◌, map, length, refl, sym, ap, ◌∙◌, subst, arith, Option, Some, None, Contains}
use Rattle.std.specs.Prelude.{slice_get, filter, filter_map, flat_map, if◌then◌else◌, cond, take}
use Rattle.std.specs.List.{AllByRecursion, list_any}
use Rattle.std.specs.Option.{option_map_or}
use Rattle.std.specs.Str.{bytes_eq}
use Rattle.std.proofs.lemmas.Bool.{false≢true}
use Rattle.std.proofs.lemmas.Bool.Decides.{nat_tests}
use Rattle.std.proofs.lemmas.Option.{none-some}
use Rattle.std.proofs.lemmas.Cmp.{nat_list_eq_equiv}
use Rattle.std.proofs.lemmas.Map.Views.{list_any-from_Contains}
use Rattle.std.proofs.lemmas.Slice.Eq.{bytes_eq-Decides}
use Rattle.pb_schema.specs.declared.types.Kind.{Kind}
use Rattle.pb_schema.specs.declared.types.Kind.TheVariants as kind
use Rattle.pb_schema.specs.Types.{MessageView, EnumView}
use Rattle.pb_schema.specs.Names.{in_scope, entry_name, names_of_field, names_in_message, scope_of, declared_by_message, declared_by_enum, declared_names, packages_of}
use Rattle.pb_schema.specs.Rules.{PackagesAreFree, IsFree, FullNamesDiffer}
use Rattle.pb_declarations.specs.Decls.{DeclaredField, DeclaredEnum, MessageHead, DeclaredMessages, DeclaredFile}
use Rattle.pb_link_rules.specs.declared.cause.LinkCause.TheVariants as cause
use Rattle.pb_link_names.specs.Sees.{file_of, files_of}
use Rattle.pb_link_names.specs.Declarations.{Item, a_file, a_message, a_field, a_oneof, an_enum, a_value, a_service, a_method, Declaration, full_name, has_name, is_named, is_synthetic}
use Rattle.pb_link_names.specs.Lookup.{makes_package, is_package_name, every_file}
use Rattle.pb_link_rules.specs.Rules.{World, is_message, is_enum, is_field, uses, has_one_use, is_one_map_field, is_two}
use Rattle.pb_link_rules.specs.Link.{NothingFails, IsWorldOf}
use Rattle.pb_link.specs.PoolOf.{message_type, message_by_item, enum_type, enum_by_item, message_of_head, message_index, parent_type, parent_by_item, field_type, field_by_entry, entry_of, kind_of_field, list_shape, singular_shape, number_of, real_oneofs, pool_of}
use Rattle.pb_link_names.proofs.BehindLemmas.{StandsBehind, scope_in}
use Rattle.pb_link_rules.proofs.ThereLemmas.{some_same, and_left, and_right, not_both, none_before, place_holds, all_mapped, field_there, oneof_there, value_there}
use Rattle.pb_link.proofs.TypeLemmas.{unless_entry}
use Rattle.pb_link.proofs.EntryLemmas.{UsesEntry, entry_used, right_entry}
use Rattle.pb_link.proofs.KindLemmas.{stands_behind}
use Rattle.pb_link.proofs.OneofLemmas.{any_at, any_of}
use Rattle.pb_link.proofs.MemberLemmas.{file_at, file_stands}
use Rattle.pb_link.proofs.WordLemmas.{entry_name_is}
use Rattle.pb_link.proofs.IndexLemmas.{MayHoldType, message_in, enum_in, holds_types}
use Rattle.pb_link.proofs.ScopeLemmas.{ParentBelow, item_around, type_there, scope_right}
use Rattle.pb_link.proofs.NestLemmas.{get-less, le_split, le_or_less}
use Rattle.pb_link.proofs.PlacedLemmas.{ArePlaced, placed_one, placed_append, placed_mapped, placed_each, placed_flat, placed_types, placed_kept, place_of_name, placed_differ}

-- a named declaration at a place has the full name
pub record IsNamedAt (w : World) (place : ℕ) (name : List ℕ) : Type 0 where
  pub declared : Declaration
  pub there : slice_get w.declared place ≡ Some declared
  pub named : is_named declared.item ≡ true
  pub full : full_name declared ≡ name

-- SCOPES

parent_within : (files : List DeclaredFile) (w : World) → NothingFails w → (k : ℕ) (d : Declaration) (h : StandsBehind 0 w.declared k d) → MayHoldType h.1.item → ParentBelow w d.parent (length (pool_of files w).messages)
parent_within files w nothing k d h may q is = by_item h.1.item refl may (sym (item_around w k d h) ∙ is)
  where
    zero_plus : (n : ℕ) → 0 + n ≡ n
    zero_plus n = omega arith

    by_item : (it : Item) → h.1.item ≡ it → MayHoldType it → parent_by_item w d.parent (Some it) ≡ Some q → q < length (pool_of files w).messages
    by_item (a_message head inner) same may is =
        subst (λ n. n < length (pool_of files w).messages) (ap (message_index w) (sym (h.4.0 ∙ zero_plus h.0)) ∙ some_same (message_index w d.parent) q is)
        (get-less (pool_of files w).messages (message_index w h.0) (message_of_head w h.1 head) (type_there files w h.0 h.1 head inner h.3 same (holds_types w nothing h.0 h.1 head inner h.3 same may)))
    by_item (a_file f) same may is = absurd (none-some q is)
    by_item (a_field x i g) same may is = absurd may
    by_item (a_oneof x i g) same may is = absurd may
    by_item (an_enum e) same may is = absurd may
    by_item (a_value e i v) same may is = absurd may
    by_item (a_service s) same may is = absurd may
    by_item (a_method m) same may is = absurd may

-- the scope of a type is the declared one
pub scope_of_type : (files : List DeclaredFile) (w : World) → IsWorldOf files w → NothingFails w → (k : ℕ) (d : Declaration) → slice_get w.declared k ≡ Some d → (h : StandsBehind 0 w.declared k d) → MayHoldType h.1.item → scope_of (files_of files) (pool_of files w).messages d.file (parent_type w d.parent) ≡ d.scope
scope_of_type files w world nothing k d there h may = scope_right files w world nothing (length (pool_of files w).messages) k d there h may (parent_within files w nothing k d h may)

message_scope_is : (files : List DeclaredFile) (w : World) → IsWorldOf files w → NothingFails w → (k file parent : ℕ) (scope : List ℕ) (head : MessageHead) (inner : DeclaredMessages) → slice_get w.declared k ≡ Some (record { file = file; parent = parent; scope = scope; item = a_message head inner }) → scope_of (files_of files) (pool_of files w).messages file (parent_type w parent) ≡ scope
message_scope_is files w world nothing k file parent scope head inner there =
    let d : Declaration = record { file = file; parent = parent; scope = scope; item = a_message head inner } in
    let h = stands_behind files w world k d there (λ f is. false≢true (sym (ap is_message is))) in
    scope_of_type files w world nothing k d there h (message_in head inner h.1.item h.4.1.item)

enum_scope_is : (files : List DeclaredFile) (w : World) → IsWorldOf files w → NothingFails w → (k file parent : ℕ) (scope : List ℕ) (e : DeclaredEnum) → slice_get w.declared k ≡ Some (record { file = file; parent = parent; scope = scope; item = an_enum e }) → scope_of (files_of files) (pool_of files w).messages file (parent_type w parent) ≡ scope
enum_scope_is files w world nothing k file parent scope e there =
    let d : Declaration = record { file = file; parent = parent; scope = scope; item = an_enum e } in
    let h = stands_behind files w world k d there (λ f is. false≢true (sym (ap is_enum is))) in
    scope_of_type files w world nothing k d there h (enum_in e h.1.item h.4.1.item)

-- what has one parent has one scope
same_scope : (files : List DeclaredFile) (w : World) → IsWorldOf files w → (k l : ℕ) (d e : Declaration) → slice_get w.declared k ≡ Some d → slice_get w.declared l ≡ Some e → ((f : DeclaredFile) → d.item ≡ a_file f → ⊥) → ((f : DeclaredFile) → e.item ≡ a_file f → ⊥) → d.parent ≡ e.parent → d.scope ≡ e.scope
same_scope files w world k l d e at_d at_e no_d no_e same =
    let of_d = stands_behind files w world k d at_d no_d in
    let of_e = stands_behind files w world l e at_e no_e in
    let places : of_d.0 ≡ of_e.0 = omega (arith, of_d.4.0, of_e.4.0, same) in
    let around : of_d.1 ≡ of_e.1 = some_same of_d.1 of_e.1 (sym of_d.3 ∙ ap (slice_get w.declared) places ∙ of_e.3) in
    of_d.4.1.scope ∙ ap (λ o. scope_in o) around ∙ sym of_e.4.1.scope

-- NAMES

plain_names : (two : Bool) (f : DeclaredField) (k : Kind) (b : Bool) → names_of_field (record { name = f.name; number = number_of f.number; kind = k; shape = if b then list_shape two k f else singular_shape two k f }) ≡ f.name ∷ []
plain_names two f k true = refl
plain_names two f k false = by_mark f.is_optional f.oneof
  where
    by_mark : (b : Bool) (o : Option ℤ) → names_of_field (record { name = f.name; number = number_of f.number; kind = k; shape = singular_shape two k (record f { is_optional = b; oneof = o }) }) ≡ f.name ∷ []
    by_mark true o = refl
    by_mark false (Some (pos o)) = refl
    by_mark false (Some (negsuc o)) = kinds two k
      where
        kinds : (b : Bool) (v : Kind) → names_of_field (record { name = f.name; number = number_of f.number; kind = k; shape = singular_shape b v (record f { is_optional = false; oneof = Some (negsuc o) }) }) ≡ f.name ∷ []
        kinds true v = refl
        kinds false (kind.Message m) = refl
        kinds false (kind.Group m) = refl
        kinds false v = refl
    by_mark false None = kinds two k
      where
        kinds : (b : Bool) (v : Kind) → names_of_field (record { name = f.name; number = number_of f.number; kind = k; shape = singular_shape b v (record f { is_optional = false; oneof = None }) }) ≡ f.name ∷ []
        kinds true v = refl
        kinds false (kind.Message m) = refl
        kinds false (kind.Group m) = refl
        kinds false v = refl

entry_full : (e : Declaration) (h : MessageHead) (inner : DeclaredMessages) (scope : List ℕ) → e.item ≡ a_message h inner → e.scope ≡ scope → full_name e ≡ in_scope scope h.name
entry_full e h inner scope is same = subst (λ x. full_name (record e { item = x }) ≡ in_scope e.scope h.name) (sym is) refl ∙ ap (λ s. in_scope s h.name) same

eq_of : (a b : ℕ) → (a == b) ≡ true → a ≡ b
eq_of a b e = grind (arith, nat_tests)

-- the name that a map field gives its entry is the entry's
entry_named : (files : List DeclaredFile) (w : World) → IsWorldOf files w → (k file parent : ℕ) (scope : List ℕ) (head : MessageHead) (j : ℕ) (f : DeclaredField) → slice_get w.declared k ≡ Some (record { file = file; parent = parent; scope = scope; item = a_field head j f }) → (h : MessageHead) (name : List ℕ) → (u : UsesEntry w (record { file = file; parent = parent; scope = scope; item = a_field head j f }) h name) → IsNamedAt w u.place (in_scope scope (entry_name f.name))
entry_named files w world k file parent scope head j f there h name u =
    let d : Declaration = record { file = file; parent = parent; scope = scope; item = a_field head j f } in
    let same : u.entry.scope ≡ scope = sym (same_scope files w world k u.place d u.entry there u.there (λ g is. false≢true (sym (ap is_field is))) (λ g is. false≢true (ap is_message (sym is ∙ u.item))) (eq_of parent u.entry.parent (and_left (parent == u.entry.parent) _ u.is_map))) in
    let named : entry_name f.name ≡ h.name = entry_name_is head h u.inner j f u.entry.item u.item (and_right (parent == u.entry.parent) _ u.is_map) in
    record { declared = u.entry; there = u.there; named = subst (λ x. is_named x ≡ true) (sym u.item) refl; full = entry_full u.entry h u.inner scope u.item same ∙ ap (in_scope scope) (sym named) }

-- WHOSE NAMES: a place is of one class, and of one message type or enum

abbrev class_of : Item → ℕ
class_of (a_message head inner) = if head.is_entry then 3 else 0
class_of (a_field head i f) = 1
class_of (a_oneof head i name) = 2
class_of (an_enum e) = 4
class_of (a_value e i v) = 5
class_of (a_file f) = 6
class_of (a_service s) = 6
class_of (a_method m) = 6

-- a message type and an enum are their own, anything else is of what is around it
abbrev owner_of : ℕ → ℕ → Item → ℕ
owner_of place parent (a_message head inner) = if head.is_entry then parent else place
owner_of place parent (an_enum e) = place
owner_of place parent (a_field head i f) = parent
owner_of place parent (a_oneof head i name) = parent
owner_of place parent (a_value e i v) = parent
owner_of place parent (a_file f) = parent
owner_of place parent (a_service s) = parent
owner_of place parent (a_method m) = parent

abbrev class_at : World → ℕ → ℕ
class_at w p = option_map_or (λ d. class_of d.item) (slice_get w.declared p) 6

abbrev owner_at : World → ℕ → ℕ
owner_at w p = option_map_or (λ d. owner_of p d.parent d.item) (slice_get w.declared p) 0

record IsOf (w : World) (c o p : ℕ) : Type 0 where
  pub class : class_at w p ≡ c
  pub owner : owner_at w p ≡ o

is_of : (w : World) (p : ℕ) (d : Declaration) → slice_get w.declared p ≡ Some d → IsOf w (class_of d.item) (owner_of p d.parent d.item) p
is_of w p d there = record { class = ap (λ o. option_map_or (λ x. class_of x.item) o 6) there; owner = ap (λ o. option_map_or (λ x. owner_of p x.parent x.item) o 0) there }

-- the entry at a place is used by the field at another
record IsEntryOf (w : World) (q p : ℕ) : Type 0 where
  pub entry : Declaration
  pub field : Declaration
  pub at_field : slice_get w.declared q ≡ Some field
  pub one_use : has_one_use w p entry ≡ true
  pub used : uses w p field ≡ true

one_passes : {X : Type 0} (t : X → Bool) (xs : List X) (a : ℕ) (x : X) → slice_get xs a ≡ Some x → t x ≡ true → 1 ≤ length (filter t xs)
one_passes t [] a x there passes = absurd (none-some x there)
one_passes t (z ∷ zs) zero x there passes = subst (λ b. 1 ≤ length (cond b (z ∷ filter t zs) (filter t zs))) (sym (ap t (some_same z x there) ∙ passes)) (omega arith)
one_passes t (z ∷ zs) (suc a) x there passes = step (t z) (one_passes t zs a x there passes)
  where
    step : (b : Bool) → 1 ≤ length (filter t zs) → 1 ≤ length (cond b (z ∷ filter t zs) (filter t zs))
    step true h = omega arith
    step false h = h

two_pass : {X : Type 0} (t : X → Bool) (xs : List X) (a b : ℕ) (x y : X) → a < b → slice_get xs a ≡ Some x → slice_get xs b ≡ Some y → t x ≡ true → t y ≡ true → 2 ≤ length (filter t xs)
two_pass t [] a b x y less one two first second = absurd (none-some x one)
two_pass t (z ∷ zs) a zero x y less one two first second = absurd (omega (arith, less))
two_pass t (z ∷ zs) zero (suc b) x y less one two first second = subst (λ c. 2 ≤ length (cond c (z ∷ filter t zs) (filter t zs))) (sym (ap t (some_same z x one) ∙ first)) (omega (arith, one_passes t zs b y two second))
two_pass t (z ∷ zs) (suc a) (suc b) x y less one two first second = step (t z) (two_pass t zs a b x y (omega (arith, less)) one two first second)
  where
    step : (c : Bool) → 2 ≤ length (filter t zs) → 2 ≤ length (cond c (z ∷ filter t zs) (filter t zs))
    step true h = omega (arith, h)
    step false h = h

one_of_map : (entry : Declaration) (ds : List Declaration) → is_one_map_field entry ds ≡ true → length ds ≡ 1
one_of_map entry [] h = absurd (false≢true h)
one_of_map entry (d ∷ []) h = refl
one_of_map entry (d ∷ e ∷ ds) h = absurd (false≢true h)

-- an entry is of one field
one_user : (w : World) (p q r : ℕ) → IsEntryOf w q p → IsEntryOf w r p → q ≡ r
one_user w p q r first second = ⊎_elim
    (λ h. ⊎_elim (λ e. e) (λ less. absurd (omega (arith, single, two_pass (uses w p) w.declared q r first.field second.field less first.at_field second.at_field first.used second.used))) (le_split q r h))
    (λ less. absurd (omega (arith, single, two_pass (uses w p) w.declared r q second.field first.field less second.at_field first.at_field second.used first.used)))
    (le_or_less q r)
  where
    single : length (filter (uses w p) w.declared) ≡ 1
    single = one_of_map first.entry (filter (uses w p) w.declared) first.one_use

-- a field's own place, and that of its entry
abbrev Serves : World → ℕ → ℕ → ℕ → Type 0
Serves w k q p = (owner_at w p ≡ k) × (((q ≡ p) × (class_at w p ≡ 1)) ⊎ ((class_at w p ≡ 3) × IsEntryOf w q p))

serves_one : (w : World) (k q r p : ℕ) → Serves w k q p → Serves w k r p → q ≡ r
serves_one w k q r p first second = ⊎_elim
    (λ own. ⊎_elim (λ other. omega (arith, own.0, other.0)) (λ other. absurd (omega (arith, own.1, other.0))) second.1)
    (λ own. ⊎_elim (λ other. absurd (omega (arith, own.0, other.1))) (λ other. one_user w p q r own.1 other.1) second.1)
    first.1

-- THE NAMES OF TYPES

field_names : (files : List DeclaredFile) (w : World) → IsWorldOf files w → NothingFails w → (q file k : ℕ) (scope : List ℕ) (head : MessageHead) (j : ℕ) (f : DeclaredField) → slice_get w.declared q ≡ Some (record { file = file; parent = k; scope = scope; item = a_field head j f }) → ArePlaced (λ p n. IsNamedAt w p (in_scope scope n)) (Serves w k q) (names_of_field (field_type w file scope f))
field_names files w world nothing q file k scope head j f there = by_entry (entry_of w file scope f) refl
    (placed_one (λ p n. IsNamedAt w p (in_scope scope n)) (Serves w k q) q f.name
    (record { declared = record { file = file; parent = k; scope = scope; item = a_field head j f }; there = there; named = refl; full = refl })
    (let own = is_of w q (record { file = file; parent = k; scope = scope; item = a_field head j f }) there in (own.owner, inl (refl, own.class))))
  where
    by_uses : (h : MessageHead) (name : List ℕ) → UsesEntry w (record { file = file; parent = k; scope = scope; item = a_field head j f }) h name → ArePlaced (λ p n. IsNamedAt w p (in_scope scope n)) (λ p. Serves w k q p × (class_at w p ≡ 3)) (entry_name f.name ∷ [])
    by_uses h name u =
        let own = is_of w u.place u.entry u.there in
        let entry : class_at w u.place ≡ 3 = own.class ∙ ap class_of u.item ∙ ap (λ b. if b then 3 else 0) u.is_entry in
        let owner : owner_at w u.place ≡ k = own.owner ∙ ap (owner_of u.place u.entry.parent) u.item ∙ ap (λ b. if b then u.entry.parent else u.place) u.is_entry ∙ sym (eq_of k u.entry.parent (and_left (k == u.entry.parent) _ u.is_map)) in
        placed_one (λ p n. IsNamedAt w p (in_scope scope n)) (λ p. Serves w k q p × (class_at w p ≡ 3)) u.place (entry_name f.name)
        (entry_named files w world q file k scope head j f there h name u)
        ((owner, inr (entry, record { entry = u.entry; field = record { file = file; parent = k; scope = scope; item = a_field head j f }; at_field = there; one_use = (right_entry w nothing u.place u.entry h u.inner u.there u.item u.is_entry).one_use; used = u.used })), entry)

    own_class : (p : ℕ) → p ≡ q → class_at w p ≡ 1
    own_class p same = ap (class_at w) same ∙ (is_of w q (record { file = file; parent = k; scope = scope; item = a_field head j f }) there).class

    by_entry : (o : Option (MessageHead × List ℕ)) → entry_of w file scope f ≡ o → ArePlaced (λ p n. IsNamedAt w p (in_scope scope n)) (Serves w k q) (f.name ∷ []) → ArePlaced (λ p n. IsNamedAt w p (in_scope scope n)) (Serves w k q) (names_of_field (field_by_entry w file scope f o))
    by_entry None none own = subst (ArePlaced (λ p n. IsNamedAt w p (in_scope scope n)) (Serves w k q)) (sym (plain_names (is_two w.files file) f (kind_of_field w file scope f) f.is_repeated)) own
    by_entry (Some (h, name)) uses own = placed_append (λ p n. IsNamedAt w p (in_scope scope n)) (λ p. p ≡ q) (λ p. Serves w k q p × (class_at w p ≡ 3)) (Serves w k q)
        (λ p same entry. omega (arith, own_class p same, entry.1))
        (λ p same. let here = is_of w q (record { file = file; parent = k; scope = scope; item = a_field head j f }) there in (ap (owner_at w) same ∙ here.owner, inl (sym same, own_class p same)))
        (λ p entry. entry.0)
        (f.name ∷ []) (entry_name f.name ∷ [])
        (placed_one (λ p n. IsNamedAt w p (in_scope scope n)) (λ p. p ≡ q) q f.name (record { declared = record { file = file; parent = k; scope = scope; item = a_field head j f }; there = there; named = refl; full = refl }) refl)
        (by_uses h name (entry_used w nothing q file k scope head j f there h name uses))

oneof_names : (files : List DeclaredFile) (w : World) → IsWorldOf files w → (k file parent : ℕ) (scope : List ℕ) (head : MessageHead) (inner : DeclaredMessages) → slice_get w.declared k ≡ Some (record { file = file; parent = parent; scope = scope; item = a_message head inner }) → ArePlaced (λ p n. IsNamedAt w p (in_scope (in_scope scope head.name) n)) (λ p. (i : ℕ) × ((p ≡ k + 1 + (length head.fields + i)) × IsOf w 2 k p)) (real_oneofs head)
oneof_names files w world k file parent scope head inner there = placed_kept (λ p n. IsNamedAt w p (in_scope (in_scope scope head.name) n)) (λ i p. (p ≡ k + 1 + (length head.fields + i)) × IsOf w 2 k p) (λ i j p first second. omega (arith, first.0, second.0)) (λ e. not (is_synthetic head e.0)) 0 head.oneofs each
  where
    each : (i m : ℕ) (name : List ℕ) → m ≡ 0 + i → slice_get head.oneofs i ≡ Some name → not (is_synthetic head m) ≡ true → ArePlaced (λ p n. IsNamedAt w p (in_scope (in_scope scope head.name) n)) (λ p. (p ≡ k + 1 + (length head.fields + i)) × IsOf w 2 k p) (name ∷ [])
    each i m name same at real =
        let here = oneof_there files w world k file parent scope head inner there i name at in
        let d : Declaration = record { file = file; parent = k; scope = in_scope scope head.name; item = a_oneof head i name } in
        let index : m ≡ i = omega (arith, same) in
        placed_one (λ p n. IsNamedAt w p (in_scope (in_scope scope head.name) n)) (λ p. (p ≡ k + 1 + (length head.fields + i)) × IsOf w 2 k p) (k + 1 + (length head.fields + i)) name
        (record { declared = d; there = here; named = ap (λ n. not (is_synthetic head n)) (sym index) ∙ real; full = refl })
        (refl, is_of w (k + 1 + (length head.fields + i)) d here)

-- a place of a message type's names, and one of an enum's
abbrev pub OfMessage : World → ℕ → ℕ → Type 0
OfMessage w k p = (owner_at w p ≡ k) × (class_at w p < 4)

abbrev pub OfEnum : World → ℕ → ℕ → Type 0
OfEnum w k p = (owner_at w p ≡ k) × (4 ≤ class_at w p)

message_names : (files : List DeclaredFile) (w : World) → IsWorldOf files w → NothingFails w → (k file parent : ℕ) (scope : List ℕ) (head : MessageHead) (inner : DeclaredMessages) → slice_get w.declared k ≡ Some (record { file = file; parent = parent; scope = scope; item = a_message head inner }) → head.is_entry ≡ false → ArePlaced (IsNamedAt w) (OfMessage w k) (declared_by_message (files_of files) (pool_of files w).messages (message_of_head w (record { file = file; parent = parent; scope = scope; item = a_message head inner }) head))
message_names files w world nothing k file parent scope head inner there plain =
    let name = in_scope scope head.name in
    let d : Declaration = record { file = file; parent = parent; scope = scope; item = a_message head inner } in
    let t : MessageView = message_of_head w d head in
    let here = is_of w k d there in
    let class : class_at w k ≡ 0 = here.class ∙ ap (λ b. if b then 3 else 0) plain in
    let owner : owner_at w k ≡ k = here.owner ∙ ap (λ b. if b then parent else k) plain in
    subst (λ n. ArePlaced (IsNamedAt w) (OfMessage w k) (n ∷ map (in_scope n) (names_in_message t))) (sym (ap (λ s. in_scope s head.name) (message_scope_is files w world nothing k file parent scope head inner there)))
    (placed_append (IsNamedAt w) (λ p. p ≡ k) (λ p. OfMessage w k p × (1 ≤ class_at w p)) (OfMessage w k)
    (λ p same part. omega (arith, ap (class_at w) same, class, part.1))
    (λ p same. (ap (owner_at w) same ∙ owner, omega (arith, ap (class_at w) same, class)))
    (λ p part. part.0)
    (name ∷ []) (map (in_scope name) (names_in_message t))
    (placed_one (IsNamedAt w) (λ p. p ≡ k) k name (record { declared = d; there = there; named = refl; full = refl }) refl)
    (placed_mapped (IsNamedAt w) (λ p. OfMessage w k p × (1 ≤ class_at w p)) (in_scope name) (names_in_message t) (parts name)))
  where
    of_field : (p : ℕ) → ((j : ℕ) × Serves w k (k + 1 + j) p) → OfMessage w k p × ((class_at w p ≡ 1) ⊎ (class_at w p ≡ 3))
    of_field p h = ⊎_elim
        (λ own. ((h.1.0, omega (arith, own.1)), inl own.1))
        (λ entry. ((h.1.0, omega (arith, entry.0)), inr entry.0))
        h.1.1

    parts : (name : List ℕ) → ArePlaced (λ p n. IsNamedAt w p (in_scope (in_scope scope head.name) n)) (λ p. OfMessage w k p × (1 ≤ class_at w p)) (flat_map names_of_field (map (field_type w file (in_scope scope head.name)) head.fields) ++ real_oneofs head)
    parts name =
        placed_append (λ p n. IsNamedAt w p (in_scope (in_scope scope head.name) n)) (λ p. (j : ℕ) × Serves w k (k + 1 + j) p) (λ p. (i : ℕ) × ((p ≡ k + 1 + (length head.fields + i)) × IsOf w 2 k p)) (λ p. OfMessage w k p × (1 ≤ class_at w p))
        (λ p field oneof. ⊎_elim (λ c. omega (arith, c, oneof.1.1.class)) (λ c. omega (arith, c, oneof.1.1.class)) (of_field p field).1)
        (λ p field. ((of_field p field).0, ⊎_elim (λ c. omega (arith, c)) (λ c. omega (arith, c)) (of_field p field).1))
        (λ p oneof. ((oneof.1.1.owner, omega (arith, oneof.1.1.class)), omega (arith, oneof.1.1.class)))
        (flat_map names_of_field (map (field_type w file (in_scope scope head.name)) head.fields)) (real_oneofs head)
        (placed_flat (λ p n. IsNamedAt w p (in_scope (in_scope scope head.name) n)) (λ j. Serves w k (k + 1 + j)) (λ i j p first second. omega (arith, serves_one w k (k + 1 + i) (k + 1 + j) p first second)) names_of_field (field_type w file (in_scope scope head.name)) head.fields
        (λ j f at. field_names files w world nothing (k + 1 + j) file k (in_scope scope head.name) head j f (field_there files w world k file parent scope head inner there j f at)))
        (oneof_names files w world k file parent scope head inner there)

enum_names : (files : List DeclaredFile) (w : World) → IsWorldOf files w → NothingFails w → (k file parent : ℕ) (scope : List ℕ) (e : DeclaredEnum) → slice_get w.declared k ≡ Some (record { file = file; parent = parent; scope = scope; item = an_enum e }) → ArePlaced (IsNamedAt w) (OfEnum w k) (map (in_scope (scope_of (files_of files) (pool_of files w).messages file (parent_type w parent))) (e.name ∷ map (λ v. v.0) e.values))
enum_names files w world nothing k file parent scope e there =
    let d : Declaration = record { file = file; parent = parent; scope = scope; item = an_enum e } in
    let here = is_of w k d there in
    subst (λ s. ArePlaced (IsNamedAt w) (OfEnum w k) (map (in_scope s) (e.name ∷ map (λ v. v.0) e.values))) (sym (enum_scope_is files w world nothing k file parent scope e there))
    (placed_append (IsNamedAt w) (λ p. p ≡ k) (λ p. (j : ℕ) × ((p ≡ k + 1 + j) × IsOf w 5 k p)) (OfEnum w k)
    (λ p same value. omega (arith, ap (class_at w) same, here.class, value.1.1.class))
    (λ p same. (ap (owner_at w) same ∙ here.owner, omega (arith, ap (class_at w) same, here.class)))
    (λ p value. (value.1.1.owner, omega (arith, value.1.1.class)))
    (in_scope scope e.name ∷ []) (map (in_scope scope) (map (λ v. v.0) e.values))
    (placed_one (IsNamedAt w) (λ p. p ≡ k) k (in_scope scope e.name) (record { declared = d; there = there; named = refl; full = refl }) refl)
    (placed_mapped (IsNamedAt w) (λ p. (j : ℕ) × ((p ≡ k + 1 + j) × IsOf w 5 k p)) (in_scope scope) (map (λ v. v.0) e.values) values))
  where
    each : (j : ℕ) (v : List ℕ × ℤ) → slice_get e.values j ≡ Some v → ArePlaced (λ p n. IsNamedAt w p (in_scope scope n)) (λ p. (p ≡ k + 1 + j) × IsOf w 5 k p) (v.0 ∷ [])
    each j v at =
        let there_value = value_there files w world k file parent scope e there j v at in
        let d : Declaration = record { file = file; parent = k; scope = scope; item = a_value e j v } in
        placed_one (λ p n. IsNamedAt w p (in_scope scope n)) (λ p. (p ≡ k + 1 + j) × IsOf w 5 k p) (k + 1 + j) v.0 (record { declared = d; there = there_value; named = refl; full = refl }) (refl, is_of w (k + 1 + j) d there_value)

    values : ArePlaced (λ p n. IsNamedAt w p (in_scope scope n)) (λ p. (j : ℕ) × ((p ≡ k + 1 + j) × IsOf w 5 k p)) (map (λ v. v.0) e.values)
    values = placed_each (λ p n. IsNamedAt w p (in_scope scope n)) (λ j p. (p ≡ k + 1 + j) × IsOf w 5 k p) (λ i j p first second. omega (arith, first.0, second.0)) (λ v. v.0) e.values each

-- THE POOL'S NAMES

all_message_names : (files : List DeclaredFile) (w : World) → IsWorldOf files w → NothingFails w → ArePlaced (IsNamedAt w) (λ p. (k : ℕ) × OfMessage w k p) (flat_map (declared_by_message (files_of files) (pool_of files w).messages) (filter_map (message_type w) w.declared))
all_message_names files w world nothing = placed_types (IsNamedAt w) (OfMessage w) (λ i j p first second. sym first.0 ∙ second.0) (declared_by_message (files_of files) (pool_of files w).messages) (message_type w) w.declared (λ k d t there made. by_item k d.file d.parent d.scope d.item t there made)
  where
    by_item : (k file parent : ℕ) (scope : List ℕ) (it : Item) (t : MessageView) → slice_get w.declared k ≡ Some (record { file = file; parent = parent; scope = scope; item = it }) → message_by_item w (record { file = file; parent = parent; scope = scope; item = it }) it ≡ Some t → ArePlaced (IsNamedAt w) (OfMessage w k) (declared_by_message (files_of files) (pool_of files w).messages t)
    by_item k file parent scope (a_message head inner) t there made =
        let made_of = unless_entry head.is_entry (message_of_head w (record { file = file; parent = parent; scope = scope; item = a_message head inner }) head) t made in
        subst (λ x. ArePlaced (IsNamedAt w) (OfMessage w k) (declared_by_message (files_of files) (pool_of files w).messages x)) made_of.0 (message_names files w world nothing k file parent scope head inner there made_of.1)
    by_item k file parent scope it t there made = absurd (none-some t made)

all_enum_names : (files : List DeclaredFile) (w : World) → IsWorldOf files w → NothingFails w → ArePlaced (IsNamedAt w) (λ p. (k : ℕ) × OfEnum w k p) (flat_map (declared_by_enum (files_of files) (pool_of files w).messages) (filter_map (enum_type w) w.declared))
all_enum_names files w world nothing = placed_types (IsNamedAt w) (OfEnum w) (λ i j p first second. sym first.0 ∙ second.0) (declared_by_enum (files_of files) (pool_of files w).messages) (enum_type w) w.declared (λ k d t there made. by_item k d.file d.parent d.scope d.item t there made)
  where
    by_item : (k file parent : ℕ) (scope : List ℕ) (it : Item) (t : EnumView) → slice_get w.declared k ≡ Some (record { file = file; parent = parent; scope = scope; item = it }) → enum_by_item w (record { file = file; parent = parent; scope = scope; item = it }) it ≡ Some t → ArePlaced (IsNamedAt w) (OfEnum w k) (declared_by_enum (files_of files) (pool_of files w).messages t)
    by_item k file parent scope (an_enum e) t there made = subst (λ x. ArePlaced (IsNamedAt w) (OfEnum w k) (declared_by_enum (files_of files) (pool_of files w).messages x)) (some_same _ t made) (enum_names files w world nothing k file parent scope e there)
    by_item k file parent scope it t there made = absurd (none-some t made)

-- each full name is that of a named declaration, and no declaration has two
names_placed : (files : List DeclaredFile) (w : World) → IsWorldOf files w → NothingFails w → ArePlaced (IsNamedAt w) (λ p. Unit {0}) (declared_names (pool_of files w))
names_placed files w world nothing =
    let ts = pool_of files w in
    placed_append (IsNamedAt w) (λ p. (k : ℕ) × OfMessage w k p) (λ p. (k : ℕ) × OfEnum w k p) (λ p. Unit {0})
    (λ p m e. omega (arith, m.1.1, e.1.1)) (λ p m. tt) (λ p e. tt)
    (flat_map (declared_by_message ts.files ts.messages) ts.messages) (flat_map (declared_by_enum ts.files ts.messages) ts.enums)
    (all_message_names files w world nothing) (all_enum_names files w world nothing)

-- NAMES DIFFER

first_part : (named a b : Bool) → named ≡ true → (not named || (a && b)) ≡ true → a ≡ true
first_part true a b is h = and_left a b h
first_part false a b is h = absurd (false≢true is)

second_part : (named a b : Bool) → named ≡ true → (not named || (a && b)) ≡ true → b ≡ true
second_part true a b is h = and_right a b h
second_part false a b is h = absurd (false≢true is)

both_true : (a b : Bool) → a ≡ true → b ≡ true → (a && b) ≡ true
both_true true b h i = i
both_true false b h i = absurd (false≢true h)

-- a name that an earlier declaration has is taken
earlier_taken : (w : World) → NothingFails w → (p q : ℕ) (name : List ℕ) → IsNamedAt w p name → IsNamedAt w q name → p < q → ⊥
earlier_taken w nothing p q name first second less =
    none_before (has_name (full_name second.declared)) w.declared p q first.declared
    (first_part (is_named second.declared.item) (not (list_any (has_name (full_name second.declared)) (take q w.declared))) (not (is_package_name w.declared every_file (full_name second.declared))) second.named (place_holds w nothing q second.declared cause.NameTaken second.there))
    less first.there
    (both_true (is_named first.declared.item) (bytes_eq (full_name second.declared) (full_name first.declared)) first.named ((bytes_eq-Decides (full_name second.declared) (full_name first.declared)).1 (second.full ∙ sym first.full)))

one_place : (w : World) → NothingFails w → (p q : ℕ) (name : List ℕ) → IsNamedAt w p name → IsNamedAt w q name → p ≡ q
one_place w nothing p q name first second = ⊎_elim
    (λ h. ⊎_elim (λ e. e) (λ less. absurd (earlier_taken w nothing p q name first second less)) (le_split p q h))
    (λ less. absurd (earlier_taken w nothing q p name second first less))
    (le_or_less p q)

pub names_differ : (files : List DeclaredFile) (w : World) → IsWorldOf files w → NothingFails w → FullNamesDiffer (pool_of files w)
names_differ files w world nothing = placed_differ (IsNamedAt w) (λ p. Unit {0}) (one_place w nothing) (declared_names (pool_of files w)) (names_placed files w world nothing)

-- PACKAGES

all_by_index : {X : Type 0} (P : X → Type 0) (xs : List X) → ((i : ℕ) (x : X) → slice_get xs i ≡ Some x → P x) → AllByRecursion P xs
all_by_index P [] each = tt
all_by_index P (x ∷ xs) each = (each 0 x refl, all_by_index P xs (λ i y there. each (suc i) y there))

-- no named declaration has the name of a package
package_apart : (files : List DeclaredFile) (w : World) → IsWorldOf files w → NothingFails w → (i : ℕ) (f : DeclaredFile) → slice_get files i ≡ Some f → (j : ℕ) (p : List ℕ) → slice_get (packages_of f.package_name) j ≡ Some p → (q : ℕ) → IsNamedAt w q p → ⊥
package_apart files w world nothing i f at j p among q u =
    let stands = file_stands 0 0 files i f at in
    let there : slice_get w.declared stands.0 ≡ Some (file_at stands.1.0 stands.1.1 f) = ap (λ ds. slice_get ds stands.0) world.declared ∙ stands.1.2 in
    let made : list_any (bytes_eq (full_name u.declared)) (packages_of f.package_name) ≡ true = any_of (bytes_eq (full_name u.declared)) (packages_of f.package_name) j p among ((bytes_eq-Decides (full_name u.declared) p).1 u.full) in
    not_both (is_package_name w.declared every_file (full_name u.declared))
    (second_part (is_named u.declared.item) (not (list_any (has_name (full_name u.declared)) (take q w.declared))) (not (is_package_name w.declared every_file (full_name u.declared))) u.named (place_holds w nothing q u.declared cause.NameTaken u.there))
    (any_of (λ d. every_file d.file && makes_package (full_name u.declared) d.item) w.declared stands.0 (file_at stands.1.0 stands.1.1 f) there made)

pub packages_free : (files : List DeclaredFile) (w : World) → IsWorldOf files w → NothingFails w → PackagesAreFree (pool_of files w)
packages_free files w world nothing = all_mapped (λ f. IsFree (declared_names (pool_of files w)) f.package_name) (file_of files) files (λ i f at. all_by_index (λ p. ¬ Contains (declared_names (pool_of files w)) p) (packages_of f.package_name) (λ j p among contained. apart i f at j p among (any_at (bytes_eq p) (declared_names (pool_of files w)) (list_any-from_Contains nat_list_eq_equiv p (declared_names (pool_of files w)) contained))))
  where
    apart : (i : ℕ) (f : DeclaredFile) → slice_get files i ≡ Some f → (j : ℕ) (p : List ℕ) → slice_get (packages_of f.package_name) j ≡ Some p → ((k : ℕ) × (n : List ℕ) × (slice_get (declared_names (pool_of files w)) k ≡ Some n) × (bytes_eq p n ≡ true)) → ⊥
    apart i f at j p among (k, n, there, same) =
        let named = place_of_name (IsNamedAt w) (λ q. Unit {0}) (declared_names (pool_of files w)) (names_placed files w world nothing) k n there in
        package_apart files w world nothing i f at j p among named.0 (subst (IsNamedAt w named.0) (sym ((bytes_eq-Decides p n).0 same)) named.1)
