-- Where no rule fails, message types come after their parents and enums in declaration order.
use Rattle.std.proofs.Common.{◌≡◌, ℕ, zero, suc, ◌+◌, ◌<◌, ◌≤◌, ◌⊎◌, inl, inr, ⊎_elim, List, [], ◌∷◌, Bool, true, false, not, length, refl, sym, ap, ◌∙◌, subst, arith, Option, Some, None}
use Rattle.std.specs.Prelude.{slice_get, filter, filter_map, cond, take, option_and_then, is_some, if◌then◌else◌}
use Rattle.std.specs.List.{cons_option}
use Rattle.std.proofs.lemmas.Bool.{false≢true}
use Rattle.std.proofs.lemmas.Option.{none-some}
use Rattle.pb_schema.specs.Types.{MessageView, EnumView}
use Rattle.pb_schema.specs.Nesting.{parent_of, IsWithin, itself, deeper}
use Rattle.pb_schema.specs.Rules.{FollowsParent, EnumsStandInOrder, StandsBefore, EndsNoLater}
use Rattle.pb_declarations.specs.Decls.{DeclaredEnum, MessageHead, DeclaredMessages, DeclaredFile}
use Rattle.pb_link_names.specs.Declarations.{Item, a_file, a_message, a_field, a_oneof, an_enum, a_value, a_service, a_method, Declaration}
use Rattle.pb_link_rules.specs.Rules.{World, item_of, is_message, is_message_type}
use Rattle.pb_link_rules.specs.Link.{NothingFails, IsWorldOf}
use Rattle.pb_link.specs.PoolOf.{message_type, message_by_item, message_of_head, message_index, enum_type, enum_by_item, parent_type, parent_by_item, pool_of}
use Rattle.pb_link_names.proofs.BehindLemmas.{StandsBehind, MayStandIn}
use Rattle.pb_link_rules.proofs.ThereLemmas.{some_same}
use Rattle.pb_link.proofs.KindLemmas.{stands_behind, is_a_message}
use Rattle.pb_link.proofs.IndexLemmas.{MayHoldType, message_in, enum_in, holds_types}
use Rattle.pb_link.proofs.OrderLemmas.{in_order, pairs_of, declared_by_file}
use Rattle.pb_link.proofs.ScopeLemmas.{count_less, type_there}
use Rattle.pb_link.proofs.NestLemmas.{is_file, rank, nested, get-less, le_split, le_or_less}

-- LISTS

get_below : {X : Type 0} (xs : List X) (i : ℕ) → i < length xs → (x : X) × (slice_get xs i ≡ Some x)
get_below [] i less = absurd (omega (arith, less))
get_below (x ∷ xs) zero less = (x, refl)
get_below (x ∷ xs) (suc i) less = get_below xs i (omega (arith, less))

-- what a list gives at an index is that of an element, after as many that pass
abbrev GivenAt : {X Y : Type 0} → (X → Bool) → (X → Option Y) → List X → ℕ → Y → Type 0
GivenAt {X = X} t h xs i y = (p : ℕ) × (x : X) × (slice_get xs p ≡ Some x) × (h x ≡ Some y) × (length (filter t (take p xs)) ≡ i)

given_at : {X Y : Type 0} (t : X → Bool) (h : X → Option Y) → ((x : X) → t x ≡ is_some (h x)) → (xs : List X) (i : ℕ) (y : Y) → slice_get (filter_map h xs) i ≡ Some y → GivenAt t h xs i y
given_at t h agree [] i y there = absurd (none-some y there)
given_at {Y = Y} t h agree (z ∷ zs) i y there = by_given (λ j at. given_at t h agree zs j y at) (h z) refl i there
  where
    passed : t z ≡ true → (i : ℕ) → GivenAt t h zs i y → GivenAt t h (z ∷ zs) (suc i) y
    passed same i at = (suc at.0, at.1, at.2, at.3, ap (λ b. length (cond b (z ∷ filter t (take at.0 zs)) (filter t (take at.0 zs)))) same ∙ ap suc at.4)

    left : t z ≡ false → (i : ℕ) → GivenAt t h zs i y → GivenAt t h (z ∷ zs) i y
    left same i at = (suc at.0, at.1, at.2, at.3, ap (λ b. length (cond b (z ∷ filter t (take at.0 zs)) (filter t (take at.0 zs)))) same ∙ at.4)

    by_given : ((j : ℕ) → slice_get (filter_map h zs) j ≡ Some y → GivenAt t h zs j y) → (o : Option Y) → h z ≡ o → (i : ℕ) → slice_get (cons_option o (filter_map h zs)) i ≡ Some y → GivenAt t h (z ∷ zs) i y
    by_given again None is i there = left (agree z ∙ ap is_some is) i (again i there)
    by_given again (Some v) is zero there = (0, z, refl, is ∙ there, refl)
    by_given again (Some v) is (suc i) there = passed (agree z ∙ ap is_some is) i (again i there)

-- TYPES AND WHAT IS AROUND THEM

-- a message, no entry, stands at a place
record IsTypeAt (w : World) (k : ℕ) : Type 0 where
  pub declared : Declaration
  pub head : MessageHead
  pub inner : DeclaredMessages
  pub there : slice_get w.declared k ≡ Some declared
  pub item : declared.item ≡ a_message head inner
  pub plain : head.is_entry ≡ false

record IsFileAt (w : World) (k : ℕ) : Type 0 where
  pub declared : Declaration
  pub there : slice_get w.declared k ≡ Some declared
  pub item : is_file declared.item ≡ true

-- a file, or a message that is no entry, stands around a declaration, and before it
record IsAround (w : World) (k : ℕ) (d : Declaration) : Type 0 where
  pub before : d.parent < k
  pub file : (o : Declaration) → slice_get w.declared d.parent ≡ Some o → d.file ≡ o.file
  pub holder : IsFileAt w d.parent ⊎ IsTypeAt w d.parent

passes_type : (w : World) (k : ℕ) (at : IsTypeAt w k) → is_message_type at.declared.item ≡ true
passes_type w k at = ap is_message_type at.item ∙ ap not at.plain

-- the index of a later message is greater
index_less : (w : World) (q k : ℕ) → IsTypeAt w q → q < k → message_index w q < message_index w k
index_less w q k at less = count_less (λ x. is_message_type x.item) w.declared q k at.declared less at.there (passes_type w q at)

index_before : (w : World) (q k : ℕ) → IsTypeAt w k → message_index w q < message_index w k → q < k
index_before w q k at less = ⊎_elim
    (λ h. ⊎_elim (λ e. absurd (omega (arith, less, ap (message_index w) e))) (λ l. absurd (omega (arith, less, index_less w k q at l))) (le_split k q h))
    (λ l. l)
    (le_or_less k q)

no_clash : (w : World) (k : ℕ) → IsFileAt w k → IsTypeAt w k → ⊥
no_clash w k f t = false≢true (sym (ap is_file t.item) ∙ ap (λ d. is_file d.item) (some_same t.declared f.declared (sym t.there ∙ f.there)) ∙ f.item)

around_of : (w : World) → NothingFails w → (k : ℕ) (d : Declaration) → (h : StandsBehind 0 w.declared k d) → MayHoldType h.1.item → IsAround w k d
around_of w nothing k d h may = record {
  before = omega (arith, at, h.2);
  file = λ o there. h.4.1.file ∙ ap (λ x. x.file) (some_same h.1 o (sym h.3 ∙ ap (slice_get w.declared) (sym at) ∙ there));
  holder = by_item h.1.item refl may;
}
  where
    at : d.parent ≡ h.0
    at = h.4.0 ∙ omega arith

    here : slice_get w.declared d.parent ≡ Some h.1
    here = ap (slice_get w.declared) at ∙ h.3

    by_item : (it : Item) → h.1.item ≡ it → MayHoldType it → IsFileAt w d.parent ⊎ IsTypeAt w d.parent
    by_item (a_file f) is may = inl (record { declared = h.1; there = here; item = ap is_file is })
    by_item (a_message head inner) is may = inr (record { declared = h.1; head = head; inner = inner; there = here; item = is; plain = holds_types w nothing h.0 h.1 head inner h.3 is may })
    by_item (a_field x i g) is may = absurd may
    by_item (a_oneof x i g) is may = absurd may
    by_item (an_enum e) is may = absurd may
    by_item (a_value e i v) is may = absurd may
    by_item (a_service s) is may = absurd may
    by_item (a_method m) is may = absurd may

around_message : (files : List DeclaredFile) (w : World) → IsWorldOf files w → NothingFails w → (k : ℕ) (at : IsTypeAt w k) → IsAround w k at.declared
around_message files w world nothing k at =
    let h = stands_behind files w world k at.declared at.there (λ f is. false≢true (ap is_file (sym at.item ∙ is))) in
    around_of w nothing k at.declared h (message_in at.head at.inner h.1.item (subst (λ x. MayStandIn x h.1.item) at.item h.4.1.item))

around_enum : (files : List DeclaredFile) (w : World) → IsWorldOf files w → NothingFails w → (k : ℕ) (d : Declaration) (e : DeclaredEnum) → slice_get w.declared k ≡ Some d → d.item ≡ an_enum e → IsAround w k d
around_enum files w world nothing k d e there is =
    let h = stands_behind files w world k d there (λ f at. false≢true (ap is_file (sym is ∙ at))) in
    around_of w nothing k d h (enum_in e h.1.item (subst (λ x. MayStandIn x h.1.item) is h.4.1.item))

-- the parent's index
parent_in_file : (w : World) (k : ℕ) → IsFileAt w k → parent_type w k ≡ None
parent_in_file w k at = ap (λ o. parent_by_item w k (item_of o)) at.there ∙ by_item at.declared.item at.item
  where
    by_item : (it : Item) → is_file it ≡ true → parent_by_item w k (Some it) ≡ None
    by_item (a_file f) is = refl
    by_item (a_message head inner) is = absurd (false≢true is)
    by_item (a_field x i g) is = absurd (false≢true is)
    by_item (a_oneof x i g) is = absurd (false≢true is)
    by_item (an_enum e) is = absurd (false≢true is)
    by_item (a_value e i v) is = absurd (false≢true is)
    by_item (a_service s) is = absurd (false≢true is)
    by_item (a_method m) is = absurd (false≢true is)

parent_in_type : (w : World) (k : ℕ) → IsTypeAt w k → parent_type w k ≡ Some (message_index w k)
parent_in_type w k at = ap (λ o. parent_by_item w k (item_of o)) at.there ∙ ap (λ x. parent_by_item w k (Some x)) at.item

parent_is : (files : List DeclaredFile) (w : World) (k : ℕ) (at : IsTypeAt w k) → parent_of (pool_of files w).messages (message_index w k) ≡ parent_type w at.declared.parent
parent_is files w k at = ap (λ o. option_and_then (λ t. t.parent) o) (type_there files w k at.declared at.head at.inner at.there at.item at.plain)

-- the message type at an index is declared at a place
type_at : (files : List DeclaredFile) (w : World) (i : ℕ) (t : MessageView) → slice_get (pool_of files w).messages i ≡ Some t → (k : ℕ) × IsTypeAt w k × (message_index w k ≡ i)
type_at files w i t there =
    let at = given_at (λ x. is_message_type x.item) (message_type w) (is_a_message w) w.declared i t there in
    (at.0, by_item at.0 at.1 at.1.item refl at.2 at.3, at.4)
  where
    by_mark : (b : Bool) (m u : MessageView) → (if b then None else Some m) ≡ Some u → b ≡ false
    by_mark true m u made = absurd (none-some u made)
    by_mark false m u made = refl

    by_item : (k : ℕ) (d : Declaration) (it : Item) → d.item ≡ it → slice_get w.declared k ≡ Some d → message_by_item w d it ≡ Some t → IsTypeAt w k
    by_item k d (a_message head inner) is at made = record { declared = d; head = head; inner = inner; there = at; item = is; plain = by_mark head.is_entry (message_of_head w d head) t made }
    by_item k d (a_file f) is at made = absurd (none-some t made)
    by_item k d (a_field x i g) is at made = absurd (none-some t made)
    by_item k d (a_oneof x i g) is at made = absurd (none-some t made)
    by_item k d (an_enum e) is at made = absurd (none-some t made)
    by_item k d (a_value e i v) is at made = absurd (none-some t made)
    by_item k d (a_service s) is at made = absurd (none-some t made)
    by_item k d (a_method m) is at made = absurd (none-some t made)

-- MESSAGES

-- a message type between a declaration and the message around it is within that message
within : (files : List DeclaredFile) (w : World) → IsWorldOf files w → NothingFails w → (k : ℕ) (d : Declaration) → slice_get w.declared k ≡ Some d → IsTypeAt w d.parent → (n l : ℕ) → l < n → IsTypeAt w l → d.parent ≤ l → l < k → IsWithin (pool_of files w).messages (message_index w d.parent) (message_index w l)
within files w world nothing k d there holder zero l below at from less = absurd (omega (arith, below))
within files w world nothing k d there holder (suc n) l below at from less = ⊎_elim
    (λ e. subst (λ x. IsWithin (pool_of files w).messages (message_index w d.parent) (message_index w x)) e itself)
    (λ more. inside more (around_message files w world nothing l at) (λ p. within files w world nothing k d there holder n p))
    (le_split d.parent l from)
  where
    no_file_between : (p : ℕ) → IsFileAt w p → d.parent ≤ p → p < k → ⊥
    no_file_between p f from less = ⊎_elim
        (λ e. no_clash w p f (subst (IsTypeAt w) e holder))
        (λ more. false≢true (sym ((nested files w world).between k p d f.declared there f.there less (omega (arith, more))).1 ∙ f.item))
        (le_split d.parent p from)

    inside : d.parent < l → IsAround w l at.declared → ((p : ℕ) → p < n → IsTypeAt w p → d.parent ≤ p → p < k → IsWithin (pool_of files w).messages (message_index w d.parent) (message_index w p)) → IsWithin (pool_of files w).messages (message_index w d.parent) (message_index w l)
    inside more around again =
        let parent_from = ((nested files w world).between k l d at.declared there at.there less (omega (arith, more))).0 in
        ⊎_elim
        (λ f. absurd (no_file_between at.declared.parent f parent_from (omega (arith, around.before, less))))
        (λ t. deeper (parent_is files w l at ∙ parent_in_type w at.declared.parent t) (again at.declared.parent (omega (arith, around.before, below)) t parent_from (omega (arith, around.before, less))))
        around.holder

-- what the parent at an index is
record HasParent (w : World) (i p : ℕ) : Type 0 where
  pub place : ℕ
  pub at : IsTypeAt w place
  pub index : message_index w place ≡ i
  pub holder : IsTypeAt w at.declared.parent
  pub parent : message_index w at.declared.parent ≡ p
  pub before : at.declared.parent < place

has_parent : (files : List DeclaredFile) (w : World) → IsWorldOf files w → NothingFails w → (i p : ℕ) → parent_of (pool_of files w).messages i ≡ Some p → HasParent w i p
has_parent files w world nothing i p is = by_type (slice_get (pool_of files w).messages i) refl is
  where
    by_holder : (k : ℕ) (at : IsTypeAt w k) → message_index w k ≡ i → IsAround w k at.declared → parent_type w at.declared.parent ≡ Some p → HasParent w i p
    by_holder k at index around is = ⊎_elim
        (λ f. absurd (none-some p (sym (parent_in_file w at.declared.parent f) ∙ is)))
        (λ t. record { place = k; at = at; index = index; holder = t; parent = some_same (message_index w at.declared.parent) p (sym (parent_in_type w at.declared.parent t) ∙ is); before = around.before })
        around.holder

    by_type : (o : Option MessageView) → slice_get (pool_of files w).messages i ≡ o → option_and_then (λ t. t.parent) o ≡ Some p → HasParent w i p
    by_type None there is = absurd (none-some p is)
    by_type (Some t) there is =
        let at = type_at files w i t there in
        by_holder at.0 at.1 at.2 (around_message files w world nothing at.0 at.1)
        (sym (parent_is files w at.0 at.1) ∙ ap (parent_of (pool_of files w).messages) at.2 ∙ ap (λ o. option_and_then (λ t. t.parent) o) there ∙ is)

parent_less : (files : List DeclaredFile) (w : World) → IsWorldOf files w → NothingFails w → (i p : ℕ) → parent_of (pool_of files w).messages i ≡ Some p → p < i
parent_less files w world nothing i p is =
    let h = has_parent files w world nothing i p is in
    omega (arith, h.parent, h.index, index_less w h.at.declared.parent h.place h.holder h.before)

pub follow : (files : List DeclaredFile) (w : World) → IsWorldOf files w → NothingFails w → (i : ℕ) → FollowsParent (pool_of files w).messages i
follow files w world nothing i p is = by_index i refl
  where
    before : (j : ℕ) → suc j ≡ i → (l : ℕ) (at : IsTypeAt w l) → message_index w l ≡ j → IsWithin (pool_of files w).messages p j
    before j next l at index =
        let g = has_parent files w world nothing i p is in
        let from : g.at.declared.parent ≤ l = ⊎_elim (λ e. e) (λ less. absurd (omega (arith, index_less w l g.at.declared.parent at less, index, next, g.index, index_less w g.at.declared.parent g.place g.holder g.before))) (le_or_less g.at.declared.parent l) in
        let less : l < g.place = index_before w l g.place g.at (omega (arith, index, next, g.index)) in
        subst (λ n. IsWithin (pool_of files w).messages n j) g.parent
        (subst (IsWithin (pool_of files w).messages (message_index w g.at.declared.parent)) index
        (within files w world nothing g.place g.at.declared g.at.there g.holder (suc l) l (omega arith) at from less))

    by_index : (n : ℕ) → n ≡ i → (j : ℕ) × (j + 1 ≡ i) × IsWithin (pool_of files w).messages p j
    by_index zero e = absurd (omega (arith, e, parent_less files w world nothing i p is))
    by_index (suc j) e =
        let g = has_parent files w world nothing i p is in
        let here = get-less (pool_of files w).messages (message_index w g.place) _ (type_there files w g.place g.at.declared g.at.head g.at.inner g.at.there g.at.item g.at.plain) in
        let t = get_below (pool_of files w).messages j (omega (arith, e, g.index, here)) in
        let at = type_at files w j t.0 t.1 in
        (j, omega (arith, e), before j e at.0 at.1 at.2)

-- ENUMS

-- a message after an enum, whose parent stands before the enum, stands in a declaration around the enum's parent
parent_around : (files : List DeclaredFile) (w : World) → IsWorldOf files w → (k x : ℕ) (d m : Declaration) → slice_get w.declared k ≡ Some d → slice_get w.declared x ≡ Some m → rank d.item ≡ 1 → rank m.item ≡ 0 → k < x → m.parent < k → m.parent < d.parent
parent_around files w world k x d m at_d at_m enum message later before = ⊎_elim
    (λ e. absurd (omega (arith, (nested files w world).ranked x k m d at_m at_d later e, enum, message)))
    (λ less. less)
    (le_split m.parent d.parent ((nested files w world).between x k m d at_m at_d later (omega (arith, before))).0)

within_le : (files : List DeclaredFile) (w : World) → IsWorldOf files w → NothingFails w → (p m : ℕ) → IsWithin (pool_of files w).messages p m → p ≤ m
within_le files w world nothing p m itself = omega arith
within_le files w world nothing p m (deeper {q = q} is rest) = omega (arith, parent_less files w world nothing m q is, within_le files w world nothing p q rest)

-- an enum at a place
record IsEnumAt (w : World) (k : ℕ) (d : Declaration) : Type 0 where
  pub entry : DeclaredEnum
  pub there : slice_get w.declared k ≡ Some d
  pub item : d.item ≡ an_enum entry

no_type : (w : World) (k : ℕ) (d : Declaration) → IsEnumAt w k d → IsTypeAt w k → ⊥
no_type w k d e t = false≢true (sym (ap is_message e.item) ∙ ap (λ x. is_message x.item) (some_same d t.declared (sym e.there ∙ t.there)) ∙ ap is_message t.item)

no_file : (w : World) (k : ℕ) (d : Declaration) → IsEnumAt w k d → IsFileAt w k → ⊥
no_file w k d e f = false≢true (sym (ap is_file e.item) ∙ ap (λ x. is_file x.item) (some_same d f.declared (sym e.there ∙ f.there)) ∙ f.item)

rank_of_enum : (w : World) (k : ℕ) (d : Declaration) → IsEnumAt w k d → rank d.item ≡ 1
rank_of_enum w k d e = ap rank e.item

rank_of_type : (w : World) (k : ℕ) (at : IsTypeAt w k) → rank at.declared.item ≡ 0
rank_of_type w k at = ap rank at.item

-- a message after an enum is not within the message around the enum
not_within : (files : List DeclaredFile) (w : World) → IsWorldOf files w → NothingFails w → (k : ℕ) (d : Declaration) → IsEnumAt w k d → IsTypeAt w d.parent → d.parent < k → (m : ℕ) → IsWithin (pool_of files w).messages (message_index w d.parent) m → (x : ℕ) → IsTypeAt w x → message_index w x ≡ m → k < x → ⊥
not_within files w world nothing k d e holder before m itself x at index later = omega (arith, index, index_less w d.parent x holder (omega (arith, before, later)))
not_within files w world nothing k d e holder before m (deeper {q = q} is rest) x at index later = by_holder (around_message files w world nothing x at).holder (λ y. not_within files w world nothing k d e holder before q rest y)
  where
    parent : parent_type w at.declared.parent ≡ Some q
    parent = sym (parent_is files w x at) ∙ ap (parent_of (pool_of files w).messages) index ∙ is

    by_place : ((y : ℕ) → IsTypeAt w y → message_index w y ≡ q → k < y → ⊥) → (t : IsTypeAt w at.declared.parent) → message_index w at.declared.parent ≡ q → (at.declared.parent ≤ k) ⊎ (k < at.declared.parent) → ⊥
    by_place again t same (inr later) = again at.declared.parent t same later
    by_place again t same (inl h) = ⊎_elim
        (λ clash. no_type w k d e (subst (IsTypeAt w) clash t))
        (λ less.
        let up = parent_around files w world k x d at.declared e.there at.there (rank_of_enum w k d e) (rank_of_type w x at) later less in
        omega (arith, same, index_less w at.declared.parent d.parent t up, within_le files w world nothing (message_index w d.parent) q rest))
        (le_split at.declared.parent k h)

    by_holder : IsFileAt w at.declared.parent ⊎ IsTypeAt w at.declared.parent → ((y : ℕ) → IsTypeAt w y → message_index w y ≡ q → k < y → ⊥) → ⊥
    by_holder (inl f) again = none-some q (sym (parent_in_file w at.declared.parent f) ∙ parent)
    by_holder (inr t) again = by_place again t (some_same (message_index w at.declared.parent) q (sym (parent_in_type w at.declared.parent t) ∙ parent)) (le_or_less at.declared.parent k)

-- after an enum outside messages stands no message of its file
no_message_behind : (files : List DeclaredFile) (w : World) → IsWorldOf files w → NothingFails w → (k : ℕ) (d : Declaration) → IsEnumAt w k d → IsFileAt w d.parent → d.parent < k → (n x : ℕ) → x < n → (at : IsTypeAt w x) → at.declared.file ≡ d.file → k < x → ⊥
no_message_behind files w world nothing k d e holder before zero x below at same later = omega (arith, below)
no_message_behind files w world nothing k d e holder before (suc n) x below at same later = by_place (λ y. no_message_behind files w world nothing k d e holder before n y) (le_or_less at.declared.parent k)
  where
    behind : ((y : ℕ) → y < n → (t : IsTypeAt w y) → t.declared.file ≡ d.file → k < y → ⊥) → k < at.declared.parent → IsFileAt w at.declared.parent ⊎ IsTypeAt w at.declared.parent → ⊥
    behind again later (inl f) = omega (arith, (nested files w world).files at.declared.parent k f.declared d f.there e.there later f.item, same, (around_message files w world nothing x at).file f.declared f.there)
    behind again later (inr t) = again at.declared.parent (omega (arith, (around_message files w world nothing x at).before, below)) t (sym ((around_message files w world nothing x at).file t.declared t.there) ∙ same) later

    by_place : ((y : ℕ) → y < n → (t : IsTypeAt w y) → t.declared.file ≡ d.file → k < y → ⊥) → (at.declared.parent ≤ k) ⊎ (k < at.declared.parent) → ⊥
    by_place again (inr later) = behind again later (around_message files w world nothing x at).holder
    by_place again (inl h) = ⊎_elim
        (λ clash. ⊎_elim (λ f. no_file w k d e (subst (IsFileAt w) clash f)) (λ t. no_type w k d e (subst (IsTypeAt w) clash t)) (around_message files w world nothing x at).holder)
        (λ less.
        let up = parent_around files w world k x d at.declared e.there at.there (rank_of_enum w k d e) (rank_of_type w x at) later less in
        false≢true (sym ((nested files w world).between x d.parent at.declared holder.declared at.there holder.there (omega (arith, before, later)) (omega (arith, up))).1 ∙ holder.item))
        (le_split at.declared.parent k h)

-- of two enums of a file the messages around the first end no later than those around the second
ends_no_later : (files : List DeclaredFile) (w : World) → IsWorldOf files w → NothingFails w → (k l : ℕ) (a b : Declaration) → IsEnumAt w k a → IsEnumAt w l b → k < l → a.file ≡ b.file → EndsNoLater (pool_of files w).messages (parent_type w a.parent) (parent_type w b.parent)
ends_no_later files w world nothing k l a b one two less same = by_second around_b.holder
  where
    around_a : IsAround w k a
    around_a = around_enum files w world nothing k a one.entry one.there one.item

    around_b : IsAround w l b
    around_b = around_enum files w world nothing l b two.entry two.there two.item

    -- an enum outside messages comes after no message that holds an enum
    first_in_file : IsFileAt w a.parent → a.parent < k → (t : IsTypeAt w b.parent) → b.file ≡ t.declared.file → b.parent < l → (b.parent ≤ k) ⊎ (k < b.parent) → ⊥
    first_in_file f before t of_b below (inr later) = no_message_behind files w world nothing k a one f before (suc b.parent) b.parent (omega arith) t (sym of_b ∙ sym same) later
    first_in_file f before t of_b below (inl h) = ⊎_elim
        (λ clash. no_type w k a one (subst (IsTypeAt w) clash t))
        (λ earlier. ⊎_elim
        (λ clash. no_clash w a.parent f (subst (IsTypeAt w) clash t))
        (λ up. false≢true (sym ((nested files w world).between l a.parent b f.declared two.there f.there (omega (arith, before, less)) (omega (arith, up))).1 ∙ f.item))
        (le_split b.parent a.parent ((nested files w world).between l k b a two.there one.there less (omega (arith, earlier))).0))
        (le_split b.parent k h)

    both : (s : IsTypeAt w a.parent) → a.parent < k → (t : IsTypeAt w b.parent) → b.parent < l → (b.parent ≤ k) ⊎ (k < b.parent) → EndsNoLater (pool_of files w).messages (Some (message_index w a.parent)) (Some (message_index w b.parent))
    both s before t below (inr later) = inr (index_less w a.parent b.parent s (omega (arith, before, later)), λ in_first. not_within files w world nothing k a one s before (message_index w b.parent) in_first b.parent t refl later)
    both s before t below (inl h) = ⊎_elim
        (λ clash. absurd (no_type w k a one (subst (IsTypeAt w) clash t)))
        (λ earlier. inl (within files w world nothing l b two.there t (suc a.parent) a.parent (omega arith) s ((nested files w world).between l k b a two.there one.there less (omega (arith, earlier))).0 (omega (arith, before, less))))
        (le_split b.parent k h)

    by_first : (t : IsTypeAt w b.parent) → IsFileAt w a.parent ⊎ IsTypeAt w a.parent → EndsNoLater (pool_of files w).messages (parent_type w a.parent) (Some (message_index w b.parent))
    by_first t (inl f) = absurd (first_in_file f (around_enum files w world nothing k a one.entry one.there one.item).before t ((around_enum files w world nothing l b two.entry two.there two.item).file t.declared t.there) (around_enum files w world nothing l b two.entry two.there two.item).before (le_or_less b.parent k))
    by_first t (inr s) = subst (λ o. EndsNoLater (pool_of files w).messages o (Some (message_index w b.parent))) (sym (parent_in_type w a.parent s))
        (both s (around_enum files w world nothing k a one.entry one.there one.item).before t (around_enum files w world nothing l b two.entry two.there two.item).before (le_or_less b.parent k))

    by_second : IsFileAt w b.parent ⊎ IsTypeAt w b.parent → EndsNoLater (pool_of files w).messages (parent_type w a.parent) (parent_type w b.parent)
    by_second (inl f) = subst (EndsNoLater (pool_of files w).messages (parent_type w a.parent)) (sym (parent_in_file w b.parent f)) tt
    by_second (inr t) = subst (EndsNoLater (pool_of files w).messages (parent_type w a.parent)) (sym (parent_in_type w b.parent t)) (by_first t (around_enum files w world nothing k a one.entry one.there one.item).holder)

-- the enum of an enum type
record IsEnumOf (w : World) (d : Declaration) (t : EnumView) : Type 0 where
  pub entry : DeclaredEnum
  pub item : d.item ≡ an_enum entry
  pub file : t.file ≡ d.file
  pub parent : t.parent ≡ parent_type w d.parent

enum_of : (w : World) (d : Declaration) (t : EnumView) → enum_type w d ≡ Some t → IsEnumOf w d t
enum_of w d t made = by_item d.item refl made
  where
    by_item : (it : Item) → d.item ≡ it → enum_by_item w d it ≡ Some t → IsEnumOf w d t
    by_item (an_enum e) is made = let same = some_same _ t made in record { entry = e; item = is; file = ap (λ x. x.file) (sym same); parent = ap (λ x. x.parent) (sym same) }
    by_item (a_file f) is made = absurd (none-some t made)
    by_item (a_message head inner) is made = absurd (none-some t made)
    by_item (a_field x i g) is made = absurd (none-some t made)
    by_item (a_oneof x i g) is made = absurd (none-some t made)
    by_item (a_value e i v) is made = absurd (none-some t made)
    by_item (a_service s) is made = absurd (none-some t made)
    by_item (a_method m) is made = absurd (none-some t made)

pub enums_in_order : (files : List DeclaredFile) (w : World) → IsWorldOf files w → NothingFails w → EnumsStandInOrder (pool_of files w).messages (pool_of files w).enums
enums_in_order files w world nothing = in_order (StandsBefore (pool_of files w).messages) (pool_of files w).enums (pairs_of (StandsBefore (pool_of files w).messages) (enum_type w) w.declared each)
  where
    stand : (k l : ℕ) (a b : Declaration) (y z : EnumView) → k < l → slice_get w.declared k ≡ Some a → slice_get w.declared l ≡ Some b → IsEnumOf w a y → IsEnumOf w b z → (a.file ≡ b.file) ⊎ (a.file < b.file) → StandsBefore (pool_of files w).messages y z
    stand k l a b y z less first second one two (inr rise) = inl (omega (arith, one.file, two.file, rise))
    stand k l a b y z less first second one two (inl same) = inr (
      one.file ∙ same ∙ sym two.file,
      subst (λ o. EndsNoLater (pool_of files w).messages o z.parent) (sym one.parent)
          (subst (EndsNoLater (pool_of files w).messages (parent_type w a.parent)) (sym two.parent)
          (ends_no_later files w world nothing k l a b (record { entry = one.entry; there = first; item = one.item }) (record { entry = two.entry; there = second; item = two.item }) less same)),
    )

    each : (k l : ℕ) (a b : Declaration) (y z : EnumView) → k < l → slice_get w.declared k ≡ Some a → slice_get w.declared l ≡ Some b → enum_type w a ≡ Some y → enum_type w b ≡ Some z → StandsBefore (pool_of files w).messages y z
    each k l a b y z less first second one two = stand k l a b y z less first second (enum_of w a y one) (enum_of w b z two) (le_split a.file b.file (declared_by_file files w world k l a b less first second))
