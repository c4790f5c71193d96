-- The full names of a pool's types are those of their declarations.
use Rattle.std.proofs.Common.{◌≡◌, ℕ, zero, suc, ◌+◌, ◌<◌, ⊎_elim, List, [], ◌∷◌, Bool, true, false, not, map, length, refl, sym, ap, ◌∙◌, subst, arith, Option, Some, None}
use Rattle.std.specs.Prelude.{slice_get, filter, take, cond, if◌then◌else◌}
use Rattle.std.proofs.lemmas.Bool.{false≢true}
use Rattle.std.proofs.lemmas.Option.{none-some}
use Rattle.pb_schema.specs.Types.{FileView, MessageView}
use Rattle.pb_schema.specs.Nesting.{parent_of}
use Rattle.pb_schema.specs.Names.{in_scope, package_of, name_in, file_at, scope_within}
use Rattle.pb_declarations.specs.Decls.{MessageHead, DeclaredMessages, DeclaredFile}
use Rattle.pb_link_names.specs.Sees.{file_of, files_of}
use Rattle.pb_link_names.specs.Declarations.{Item, a_file, a_message, a_field, a_oneof, an_enum, a_value, a_service, a_method, Declaration}
use Rattle.pb_link_rules.specs.Rules.{World, item_of, is_message, is_message_type}
use Rattle.pb_link_rules.specs.Link.{NothingFails, IsWorldOf}
use Rattle.pb_link.specs.PoolOf.{message_type, message_of_head, message_index, parent_type, parent_by_item, pool_of}
use Rattle.pb_link_names.proofs.BehindLemmas.{StandsBehind, MayStandIn, scope_in}
use Rattle.pb_link_rules.proofs.ThereLemmas.{built, some_same}
use Rattle.pb_link.proofs.KindLemmas.{stands_behind, index_there, is_a_message}
use Rattle.pb_link.proofs.IndexLemmas.{MayHoldType, message_in, holds_types}

-- an index after an element that passes is greater
pub count_less : {X : Type 0} (t : X → Bool) (xs : List X) (q p : ℕ) (x : X) → q < p → slice_get xs q ≡ Some x → t x ≡ true → length (filter t (take q xs)) < length (filter t (take p xs))
count_less t [] q p x less there passes = absurd (none-some x there)
count_less t (z ∷ zs) q zero x less there passes = absurd (omega (arith, less))
count_less t (z ∷ zs) zero (suc p) x less there passes = subst (λ b. 0 < length (cond b (z ∷ filter t (take p zs)) (filter t (take p zs)))) (sym (ap t (some_same z x there) ∙ passes)) (omega arith)
count_less t (z ∷ zs) (suc q) (suc p) x less there passes = step (t z) (count_less t zs q p x (omega (arith, less)) there passes)
  where
    step : (b : Bool) → length (filter t (take q zs)) < length (filter t (take p zs)) → length (cond b (z ∷ filter t (take q zs)) (filter t (take q zs))) < length (cond b (z ∷ filter t (take p zs)) (filter t (take p zs)))
    step true h = omega (arith, h)
    step false h = h

-- the type of a message, at its index
pub type_there : (files : List DeclaredFile) (w : World) (q : ℕ) (d : Declaration) (head : MessageHead) (inner : DeclaredMessages) → slice_get w.declared q ≡ Some d → d.item ≡ a_message head inner → head.is_entry ≡ false → slice_get (pool_of files w).messages (message_index w q) ≡ Some (message_of_head w d head)
type_there files w q d head inner there is plain = index_there (λ x. is_message_type x.item) (message_type w) (is_a_message w) w.declared q d (message_of_head w d head) there (made d.item is)
  where
    made : (it : Item) → it ≡ a_message head inner → message_type w (record d { item = it }) ≡ Some (message_of_head w (record d { item = it }) head)
    made it same = subst (λ x. message_type w (record d { item = x }) ≡ Some (message_of_head w (record d { item = x }) head)) (sym same) (ap (λ b. if b then None else Some (message_of_head w (record d { item = a_message head inner }) head)) plain)

get_map : {X Y : Type 0} (g : X → Y) (xs : List X) (i : ℕ) (x : X) → slice_get xs i ≡ Some x → slice_get (map g xs) i ≡ Some (g x)
get_map g [] i x h = absurd (none-some x h)
get_map g (y ∷ xs) zero x h = ap (λ z. Some (g z)) (some_same y x h)
get_map g (y ∷ xs) (suc i) x h = get_map g xs i x h

package_there : (files : List DeclaredFile) (i : ℕ) (f : DeclaredFile) → slice_get files i ≡ Some f → package_of (files_of files) i ≡ f.package_name
package_there files i f there = by_file (slice_get (files_of files) i) refl (get_map (file_of files) files i f there)
  where
    by_file : (o : Option FileView) → slice_get (files_of files) i ≡ o → o ≡ Some (file_of files f) → package_of (files_of files) i ≡ f.package_name
    by_file None is same = absurd (none-some (file_of files f) same)
    by_file (Some v) is same = subst (λ x. package_of_file x ≡ f.package_name) (sym (is ∙ same)) refl
      where
        package_of_file : Option FileView → List ℕ
        package_of_file None = []
        package_of_file (Some v) = v.package_name

-- SCOPES

-- the file at a place is of the list
pub file_is : (files : List DeclaredFile) (w : World) → IsWorldOf files w → (p : ℕ) (o : Declaration) (f : DeclaredFile) → slice_get w.declared p ≡ Some o → o.item ≡ a_file f → slice_get files o.file ≡ Some f
file_is files w world p o f there is = ⊎_elim (λ of. of.2 ∙ ap Some (name_of (sym of.1 ∙ is))) (λ h. absurd (no_place h.1.item (subst (λ x. MayStandIn x h.1.item) is h.4.1.item))) ((built files w world).around p o there)
  where
    name_of : {g : DeclaredFile} → a_file g ≡ a_file f → g ≡ f
    name_of e = cc

    no_place : (it : Item) → MayStandIn (a_file f) it → ⊥
    no_place (a_file g) h = h
    no_place (a_message head inner) h = h
    no_place (a_field x i g) h = h
    no_place (a_oneof x i g) h = h
    no_place (an_enum e) h = h
    no_place (a_value e i v) h = h
    no_place (a_service s) h = h
    no_place (a_method m) h = h

-- the parent's index is below a number
abbrev pub ParentBelow : World → ℕ → ℕ → Type 0
ParentBelow w place n = (q : ℕ) → parent_type w place ≡ Some q → q < n

scope_none : (files : List FileView) (ms : List MessageView) (n file : ℕ) → scope_within n files ms file None ≡ package_of files file
scope_none files ms zero file = refl
scope_none files ms (suc n) file = refl

-- the scope at a message's index is the message's name in its own scope
scope_some : (files : List FileView) (ms : List MessageView) (n file p : ℕ) (t : MessageView) → slice_get ms p ≡ Some t → scope_within (suc n) files ms file (Some p) ≡ in_scope (scope_within n files ms t.file t.parent) t.name
scope_some files ms n file p t there =
    ap (λ o. name_in (scope_within n files ms (file_at ms p) (parent_of ms p)) o) there
    ∙ ap (λ i. in_scope (scope_within n files ms i (parent_of ms p)) t.name) (file_there (slice_get ms p) refl there)
    ∙ ap (λ o. in_scope (scope_within n files ms t.file o) t.name) (parent_there there)
  where
    file_there : (o : Option MessageView) → slice_get ms p ≡ o → o ≡ Some t → file_at ms p ≡ t.file
    file_there o is same = ap (λ x. file_from x) (is ∙ same)
      where
        file_from : Option MessageView → ℕ
        file_from None = 0
        file_from (Some u) = u.file

    parent_there : slice_get ms p ≡ Some t → parent_of ms p ≡ t.parent
    parent_there h = ap (λ x. parent_from x) h
      where
        parent_from : Option MessageView → Option ℕ
        parent_from None = None
        parent_from (Some u) = u.parent

zero_plus : (n : ℕ) → 0 + n ≡ n
zero_plus n = omega arith

-- what the parent of a declaration stands at
pub item_around : (w : World) (k : ℕ) (d : Declaration) (h : StandsBehind 0 w.declared k d) → parent_type w d.parent ≡ parent_by_item w d.parent (Some h.1.item)
item_around w k d h = ap (λ o. parent_by_item w d.parent (item_of o)) (ap (slice_get w.declared) (h.4.0 ∙ zero_plus h.0) ∙ h.3)

-- the parent of a message's parent has a lesser index
parent_less : (files : List DeclaredFile) (w : World) → NothingFails w → (p : ℕ) (o : Declaration) → slice_get w.declared p ≡ Some o → (h : StandsBehind 0 w.declared p o) → MayHoldType h.1.item → ParentBelow w o.parent (message_index w p)
parent_less files w nothing p o there h may q is = by_item h.1.item refl may (sym (item_around w p o h) ∙ is)
  where
    by_item : (it : Item) → h.1.item ≡ it → MayHoldType it → parent_by_item w o.parent (Some it) ≡ Some q → q < message_index w p
    by_item (a_message head inner) same may is =
        let plain = holds_types w nothing h.0 h.1 head inner h.3 same may in
        let passes : is_message_type h.1.item ≡ true = ap is_message_type same ∙ ap not plain in
        let less : message_index w h.0 < message_index w p = count_less (λ x. is_message_type x.item) w.declared h.0 p h.1 h.2 h.3 passes in
        let at : message_index w h.0 ≡ q = ap (message_index w) (sym (h.4.0 ∙ zero_plus h.0)) ∙ some_same (message_index w o.parent) q is in
        subst (λ n. n < message_index w p) at less
    by_item (a_file f) same may is = absurd (none-some q is)
    by_item (a_field x i g) same may is = absurd may
    by_item (a_oneof x i g) same may is = absurd may
    by_item (an_enum e) same may is = absurd may
    by_item (a_value e i v) same may is = absurd may
    by_item (a_service s) same may is = absurd may
    by_item (a_method m) same may is = absurd may

scope_in_file : (o : Declaration) (f : DeclaredFile) → o.item ≡ a_file f → scope_in o ≡ f.package_name
scope_in_file o f is = subst (λ x. scope_in (record o { item = x }) ≡ f.package_name) (sym is) refl

scope_in_message : (o : Declaration) (head : MessageHead) (inner : DeclaredMessages) → o.item ≡ a_message head inner → scope_in o ≡ in_scope o.scope head.name
scope_in_message o head inner is = subst (λ x. scope_in (record o { item = x }) ≡ in_scope o.scope head.name) (sym is) refl

file_scope : (files : List DeclaredFile) (w : World) → IsWorldOf files w → (n k : ℕ) (d : Declaration) (h : StandsBehind 0 w.declared k d) (f : DeclaredFile) → h.1.item ≡ a_file f → scope_within n (files_of files) (pool_of files w).messages d.file None ≡ d.scope
file_scope files w world n k d h f is =
    scope_none (files_of files) (pool_of files w).messages n d.file
    ∙ package_there files d.file f (ap (slice_get files) h.4.1.file ∙ file_is files w world h.0 h.1 f h.3 is)
    ∙ sym (scope_in_file h.1 f is) ∙ sym h.4.1.scope

message_scope : (files : List DeclaredFile) (w : World) → NothingFails w → (m k : ℕ) (d : Declaration) (h : StandsBehind 0 w.declared k d) (head : MessageHead) (inner : DeclaredMessages) → h.1.item ≡ a_message head inner → head.is_entry ≡ false → scope_within m (files_of files) (pool_of files w).messages h.1.file (parent_type w h.1.parent) ≡ h.1.scope → scope_within (suc m) (files_of files) (pool_of files w).messages d.file (Some (message_index w d.parent)) ≡ d.scope
message_scope files w nothing m k d h head inner is plain again =
    let ms = (pool_of files w).messages in
    let t : MessageView = message_of_head w h.1 head in
    scope_some (files_of files) ms m d.file (message_index w d.parent) t (ap (λ p. slice_get ms (message_index w p)) (h.4.0 ∙ zero_plus h.0) ∙ type_there files w h.0 h.1 head inner h.3 is plain)
    ∙ ap (λ s. in_scope s head.name) again
    ∙ sym (scope_in_message h.1 head inner is) ∙ sym h.4.1.scope

-- the scope of what stands in a file or a message is the declared one
pub scope_right : (files : List DeclaredFile) (w : World) → IsWorldOf files w → NothingFails w → (n k : ℕ) (d : Declaration) → slice_get w.declared k ≡ Some d → (h : StandsBehind 0 w.declared k d) → MayHoldType h.1.item → ParentBelow w d.parent n → scope_within n (files_of files) (pool_of files w).messages d.file (parent_type w d.parent) ≡ d.scope
scope_right files w world nothing zero k d there h may below = ap (scope_within 0 (files_of files) (pool_of files w).messages d.file) (item_around w k d h) ∙ by_item h.1.item refl may (λ q is. below q (item_around w k d h ∙ is))
  where
    by_item : (it : Item) → h.1.item ≡ it → MayHoldType it → ((q : ℕ) → parent_by_item w d.parent (Some it) ≡ Some q → q < 0) → scope_within 0 (files_of files) (pool_of files w).messages d.file (parent_by_item w d.parent (Some it)) ≡ d.scope
    by_item (a_file f) same may below = file_scope files w world 0 k d h f same
    by_item (a_message head inner) same may below = absurd (omega (arith, below (message_index w d.parent) refl))
    by_item (a_field x i g) same may below = absurd may
    by_item (a_oneof x i g) same may below = absurd may
    by_item (an_enum e) same may below = absurd may
    by_item (a_value e i v) same may below = absurd may
    by_item (a_service s) same may below = absurd may
    by_item (a_method m) same may below = absurd may
scope_right files w world nothing (suc n) k d there h may below =
    ap (scope_within (suc n) (files_of files) (pool_of files w).messages d.file) (item_around w k d h)
    ∙ by_item h.1.item refl may (λ q is. below q (item_around w k d h ∙ is)) (λ around holds less. scope_right files w world nothing n h.0 h.1 h.3 around holds less)
  where
    by_item : (it : Item) → h.1.item ≡ it → MayHoldType it → ((q : ℕ) → parent_by_item w d.parent (Some it) ≡ Some q → q < suc n) → ((around : StandsBehind 0 w.declared h.0 h.1) → MayHoldType around.1.item → ParentBelow w h.1.parent n → scope_within n (files_of files) (pool_of files w).messages h.1.file (parent_type w h.1.parent) ≡ h.1.scope) → scope_within (suc n) (files_of files) (pool_of files w).messages d.file (parent_by_item w d.parent (Some it)) ≡ d.scope
    by_item (a_file f) same may below again = file_scope files w world (suc n) k d h f same
    by_item (a_message head inner) same may below again =
        let around = stands_behind files w world h.0 h.1 h.3 (λ f is. false≢true (sym (ap is_message (sym same ∙ is)))) in
        let holds = message_in head inner around.1.item (subst (λ x. MayStandIn x around.1.item) same around.4.1.item) in
        let at : message_index w d.parent ≡ message_index w h.0 = ap (message_index w) (h.4.0 ∙ zero_plus h.0) in
        let less : ParentBelow w h.1.parent n = λ q is. omega (arith, at, parent_less files w nothing h.0 h.1 h.3 around holds q is, below (message_index w d.parent) refl) in
        message_scope files w nothing n k d h head inner same (holds_types w nothing h.0 h.1 head inner h.3 same may) (again around holds less)
    by_item (a_field x i g) same may below again = absurd may
    by_item (a_oneof x i g) same may below again = absurd may
    by_item (an_enum e) same may below again = absurd may
    by_item (a_value e i v) same may below again = absurd may
    by_item (a_service s) same may below again = absurd may
    by_item (a_method m) same may below again = absurd may
