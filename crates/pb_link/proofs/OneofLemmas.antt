-- Where no rule fails: members name oneofs, and oneofs have members.
use Rattle.std.proofs.Common.{◌≡◌, ℕ, ℤ, pos, negsuc, zero, suc, ◌+◌, ◌<◌, ◌≤◌, inl, inr, List, [], ◌∷◌, Bool, true, false, not, ◌&&◌, ◌||◌, ◌==◌, map, length, refl, sym, ap, ◌∙◌, subst, arith, Option, Some, None, add-zero}
use Rattle.std.specs.Prelude.{slice_get, filter, nat_lt, if◌then◌else◌, cond, take}
use Rattle.std.specs.List.{AllByRecursion, list_any, enumerate_from}
use Rattle.std.proofs.lemmas.Bool.{false≢true}
use Rattle.std.proofs.lemmas.Bool.Decides.{nat_tests, Decides-int_eq}
use Rattle.std.proofs.lemmas.Option.{none-some}
use Rattle.std.proofs.lemmas.List.{length-map}
use Rattle.pb_schema.specs.declared.types.Kind.{Kind}
use Rattle.pb_schema.specs.declared.types.Kind.TheVariants as kind
use Rattle.pb_schema.specs.Names.{in_scope}
use Rattle.pb_schema.specs.Types.{FieldView}
use Rattle.pb_schema.specs.Rules.{MembersNameOneofs, NamesOneof, OneofsHaveMembers, HasMember, IsMemberOf, EachOneofHasMember}
use Rattle.pb_declarations.specs.Decls.{DeclaredField, MessageHead, DeclaredMessages, DeclaredFile}
use Rattle.pb_link_rules.specs.declared.cause.LinkCause.TheVariants as cause
use Rattle.pb_link_names.specs.Declarations.{Item, a_file, a_message, a_field, a_oneof, is_member_of, is_synthetic}
use Rattle.pb_link_rules.specs.Rules.{World, gives_name, is_two}
use Rattle.pb_link_names.specs.MarkRules.{oneof_of_field_is_right, oneof_is_right, how_many, members_with, same_oneof}
use Rattle.pb_link_rules.specs.Link.{NothingFails, IsWorldOf}
use Rattle.pb_link.specs.PoolOf.{field_type, field_by_entry, entry_of, kind_of_field, list_shape, singular_shape, real_oneofs, pool_of}
use Rattle.pb_link_rules.proofs.ThereLemmas.{some_same, and_left, and_right, place_holds, all_mapped, field_there, oneof_there}
use Rattle.pb_link.proofs.TypeLemmas.{each_message}
use Rattle.pb_link.proofs.EntryLemmas.{entry_used}

-- LISTS

pub any_at : {X : Type 0} (t : X → Bool) (xs : List X) → list_any t xs ≡ true → (i : ℕ) × (x : X) × (slice_get xs i ≡ Some x) × (t x ≡ true)
any_at t [] h = absurd (false≢true h)
any_at t (x ∷ xs) h = first_or_later t x xs (t x) refl (any_at t xs) h
  where
    first_or_later : {X : Type 0} (t : X → Bool) (x : X) (xs : List X) (b : Bool) → t x ≡ b → (list_any t xs ≡ true → (i : ℕ) × (x : X) × (slice_get xs i ≡ Some x) × (t x ≡ true)) → (b || list_any t xs) ≡ true → (i : ℕ) × (y : X) × (slice_get (x ∷ xs) i ≡ Some y) × (t y ≡ true)
    first_or_later t x xs true same later h = (0, x, refl, same)
    first_or_later t x xs false same later h = let at = later h in (suc at.0, at.1, at.2, at.3)

pub any_of : {X : Type 0} (t : X → Bool) (xs : List X) (i : ℕ) (x : X) → slice_get xs i ≡ Some x → t x ≡ true → list_any t xs ≡ true
any_of t [] i x there passes = absurd (none-some x there)
any_of t (y ∷ xs) zero x there passes = ap (λ b. b || list_any t xs) (ap t (some_same y x there) ∙ passes)
any_of t (y ∷ xs) (suc i) x there passes = later (t y) (any_of t xs i x there passes)
  where
    later : (b : Bool) → list_any t xs ≡ true → (b || list_any t xs) ≡ true
    later true h = refl
    later false h = h

one_counts : (t : DeclaredField → Bool) (xs : List DeclaredField) (i : ℕ) (x : DeclaredField) → slice_get xs i ≡ Some x → t x ≡ true → 1 ≤ how_many t xs
one_counts t [] i x there passes = absurd (none-some x there)
one_counts t (y ∷ xs) zero x there passes = subst (λ b. 1 ≤ (if b then 1 else 0) + how_many t xs) (sym (ap t (some_same y x there) ∙ passes)) (omega arith)
one_counts t (y ∷ xs) (suc i) x there passes = omega (arith, one_counts t xs i x there passes)

two_count : (t : DeclaredField → Bool) (xs : List DeclaredField) (i j : ℕ) (x y : DeclaredField) → (i ≡ j → ⊥) → slice_get xs i ≡ Some x → slice_get xs j ≡ Some y → t x ≡ true → t y ≡ true → 2 ≤ how_many t xs
two_count t [] i j x y apart first second passes too = absurd (none-some x first)
two_count t (z ∷ xs) zero zero x y apart first second passes too = absurd (apart refl)
two_count t (z ∷ xs) zero (suc j) x y apart first second passes too = subst (λ b. 2 ≤ (if b then 1 else 0) + how_many t xs) (sym (ap t (some_same z x first) ∙ passes)) (omega (arith, one_counts t xs j y second too))
two_count t (z ∷ xs) (suc i) zero x y apart first second passes too = subst (λ b. 2 ≤ (if b then 1 else 0) + how_many t xs) (sym (ap t (some_same z y second) ∙ too)) (omega (arith, one_counts t xs i x first passes))
two_count t (z ∷ xs) (suc i) (suc j) x y apart first second passes too = omega (arith, two_count t xs i j x y (λ e. apart (ap suc e)) first second passes too)

get_enumerated : {X : Type 0} (n : ℕ) (xs : List X) (j : ℕ) (x : X) → slice_get xs j ≡ Some x → (e : ℕ × X) × (slice_get (enumerate_from n xs) j ≡ Some e) × (e.0 ≡ n + j) × (e.1 ≡ x)
get_enumerated n [] j x h = absurd (none-some x h)
get_enumerated n (y ∷ xs) zero x h = ((n, y), refl, sym (add-zero n), some_same y x h)
get_enumerated n (y ∷ xs) (suc j) x h = let at = get_enumerated (n + 1) xs j x h in (at.0, at.1, at.2 ∙ omega arith, at.3)

pub enumerated_get : {X : Type 0} (n : ℕ) (xs : List X) (j : ℕ) (e : ℕ × X) → slice_get (enumerate_from n xs) j ≡ Some e → (e.0 ≡ n + j) × (slice_get xs j ≡ Some e.1)
enumerated_get n [] j e h = absurd (none-some e h)
enumerated_get {X = X} n (y ∷ xs) zero e h = let p : ℕ × X = (n, y) in let same : p ≡ e = some_same p e h in (ap (λ q. q.0) (sym same) ∙ sym (add-zero n), ap (λ q. Some q.1) same)
enumerated_get n (y ∷ xs) (suc j) e h = let at = enumerated_get (n + 1) xs j e h in (at.0 ∙ omega arith, at.1)

-- where nothing before an element is marked, it stands at its index among those that are not
unmarked_front : {Y : Type 0} (t : Y → Bool) (es : List Y) (o : ℕ) (e : Y) → slice_get es o ≡ Some e → t e ≡ false → list_any t (take o es) ≡ false → o < length (filter (λ x. not (t x)) es)
unmarked_front t [] o e there plain none = absurd (none-some e there)
unmarked_front t (z ∷ es) zero e there plain none = subst (λ b. 0 < length (cond (not b) (z ∷ filter (λ x. not (t x)) es) (filter (λ x. not (t x)) es))) (sym (ap t (some_same z e there) ∙ plain)) (omega arith)
unmarked_front t (z ∷ es) (suc o) e there plain none = step (t z) none (unmarked_front t es o e there plain)
  where
    step : (b : Bool) → (b || list_any t (take o es)) ≡ false → (list_any t (take o es) ≡ false → o < length (filter (λ x. not (t x)) es)) → suc o < length (cond (not b) (z ∷ filter (λ x. not (t x)) es) (filter (λ x. not (t x)) es))
    step true h rest = absurd (false≢true (sym h))
    step false h rest = omega (arith, rest h)

abbrev Unmarked : {Y : Type 0} → (Y → Bool) → List Y → ℕ → Type 0
Unmarked {Y = Y} t es o = (e : Y) × (slice_get es o ≡ Some e) × (t e ≡ false)

some_unmarked : {Y : Type 0} (t : Y → Bool) (es : List Y) → 0 < length (filter (λ x. not (t x)) es) → (i : ℕ) × Unmarked t es i
some_unmarked t [] h = absurd (omega (arith, h))
some_unmarked t (z ∷ es) h = step t z es (t z) refl (some_unmarked t es) h
  where
    step : {Y : Type 0} (t : Y → Bool) (z : Y) (es : List Y) (b : Bool) → t z ≡ b → (0 < length (filter (λ x. not (t x)) es) → (i : ℕ) × Unmarked t es i) → 0 < length (cond (not b) (z ∷ filter (λ x. not (t x)) es) (filter (λ x. not (t x)) es)) → (i : ℕ) × Unmarked t (z ∷ es) i
    step t z es true same later h = let at = later h in (suc at.0, at.1)
    step t z es false same later h = (0, (z, refl, same))

-- where no unmarked element comes after a marked one, those are the front
unmarked_at : {Y : Type 0} (t : Y → Bool) (es : List Y) (o : ℕ) → ((i : ℕ) (e : Y) → slice_get es i ≡ Some e → t e ≡ false → list_any t (take i es) ≡ false) → o < length (filter (λ x. not (t x)) es) → Unmarked t es o
unmarked_at t [] o first h = absurd (omega (arith, h))
unmarked_at {Y = Y} t (z ∷ es) o first h = step (t z) refl o (λ p less. unmarked_at t es p (λ i e there plain. or_false (t z) (list_any t (take i es)) (first (suc i) e there plain)) less) h
  where
    or_false : (a b : Bool) → (a || b) ≡ false → b ≡ false
    or_false true b h = absurd (false≢true (sym h))
    or_false false b h = h

    or_first : (a b : Bool) → (a || b) ≡ false → a ≡ false
    or_first true b h = absurd (false≢true (sym h))
    or_first false b h = refl

    step : (b : Bool) → t z ≡ b → (o : ℕ) → ((p : ℕ) → p < length (filter (λ x. not (t x)) es) → Unmarked t es p) → o < length (cond (not b) (z ∷ filter (λ x. not (t x)) es) (filter (λ x. not (t x)) es)) → Unmarked t (z ∷ es) o
    step true same o later h =
        let at = some_unmarked t es (omega (arith, h)) in
        absurd (false≢true (sym (or_first (t z) (list_any t (take at.0 es)) (first (suc at.0) at.1.0 at.1.1 at.1.2)) ∙ same))
    step false same zero later h = (z, refl, same)
    step false same (suc o) later h = later o (omega (arith, h))

get_within : {X : Type 0} (xs : List X) (i : ℕ) → i < length xs → (x : X) × (slice_get xs i ≡ Some x)
get_within [] i h = absurd (omega (arith, h))
get_within (x ∷ xs) zero h = (x, refl)
get_within (x ∷ xs) (suc i) h = get_within xs i (omega (arith, h))

-- ONE MESSAGE

-- what the rules of oneofs say in a message
pub record OneofsAreRight (head : MessageHead) : Type 0 where
  pub of_field : (j : ℕ) (f : DeclaredField) → slice_get head.fields j ≡ Some f → oneof_of_field_is_right head f ≡ true
  pub of_oneof : (o : ℕ) (name : List ℕ) → slice_get head.oneofs o ≡ Some name → oneof_is_right head o ≡ true

pub oneofs_right : (files : List DeclaredFile) (w : World) → IsWorldOf files w → NothingFails w → (k file parent : ℕ) (scope : List ℕ) (head : MessageHead) (inner : DeclaredMessages) → slice_get w.declared k ≡ Some (record { file = file; parent = parent; scope = scope; item = a_message head inner }) → OneofsAreRight head
oneofs_right files w world nothing k file parent scope head inner there = record {
  of_field = λ j f at. and_right (not (f.is_optional && is_two w.files file)) (oneof_of_field_is_right head f) (place_holds w nothing (k + 1 + j) (record { file = file; parent = k; scope = in_scope scope head.name; item = a_field head j f }) cause.BadOneof (field_there files w world k file parent scope head inner there j f at));
  of_oneof = λ o name at. place_holds w nothing (k + 1 + (length head.fields + o)) (record { file = file; parent = k; scope = in_scope scope head.name; item = a_oneof head o name }) cause.BadOneof (oneof_there files w world k file parent scope head inner there o name at);
}

member_is : (o : ℕ) (f : DeclaredField) → is_member_of o f ≡ true → f.oneof ≡ Some (pos o)
member_is o f h = by_oneof f.oneof h
  where
    eq_of : (a b : ℕ) → (a == b) ≡ true → a ≡ b
    eq_of a b e = grind (arith, nat_tests)

    by_oneof : (i : Option ℤ) → is_member_of o (record f { oneof = i }) ≡ true → i ≡ Some (pos o)
    by_oneof None h = absurd (false≢true h)
    by_oneof (Some (pos i)) h = ap (λ n. Some (pos n)) (eq_of i o h)
    by_oneof (Some (negsuc i)) h = absurd (false≢true h)

same_of : (o : ℕ) (g f : DeclaredField) → g.oneof ≡ Some (pos o) → f.oneof ≡ Some (pos o) → same_oneof g.oneof f.oneof ≡ true
same_of o g f a b = ap (λ x. same_oneof x f.oneof) a ∙ ap (λ x. same_oneof (Some (pos o)) x) b ∙ (Decides-int_eq (pos o) (pos o)).1 refl

-- the oneof of a member that is not optional is not synthetic
not_synthetic : (head : MessageHead) → OneofsAreRight head → (j : ℕ) (f : DeclaredField) (o : ℕ) → slice_get head.fields j ≡ Some f → f.is_optional ≡ false → f.oneof ≡ Some (pos o) → is_synthetic head o ≡ false
not_synthetic head right j f o at plain is = by_test (is_synthetic head o) refl
  where
    one_only : (b : Bool) (n : ℕ) → b ≡ true → (not b || (n == 1)) ≡ true → n ≡ 1
    one_only true n e h = eq_of n 1 h
      where
        eq_of : (a b : ℕ) → (a == b) ≡ true → a ≡ b
        eq_of a b e = grind (arith, nat_tests)
    one_only false n e h = absurd (false≢true e)

    by_test : (b : Bool) → is_synthetic head o ≡ b → b ≡ false
    by_test false h = refl
    by_test true h =
        let found = any_at (λ g. g.is_optional && is_member_of o g) head.fields h in
        let g = found.1 in
        let optional : g.is_optional ≡ true = and_left g.is_optional (is_member_of o g) found.3 in
        let member : g.oneof ≡ Some (pos o) = member_is o g (and_right g.is_optional (is_member_of o g) found.3) in
        let one : members_with head g ≡ 1 = one_only g.is_optional (members_with head g) optional (and_right _ (not g.is_optional || (members_with head g == 1)) (right.of_field found.0 g found.2)) in
        let apart : found.0 ≡ j → ⊥ = λ e. false≢true (sym plain ∙ ap (λ x. x.is_optional) (some_same f g (sym at ∙ ap (slice_get head.fields) (sym e) ∙ found.2)) ∙ optional) in
        let two : 2 ≤ members_with head g = two_count (λ x. same_oneof g.oneof x.oneof) head.fields found.0 j g f apart found.2 at (same_of o g g member member) (same_of o g f member is) in
        absurd (omega (arith, one, two))

-- the oneof of a field is declared, and the field is not repeated
pub record HasOneof (head : MessageHead) (f : DeclaredField) (o : ℕ) : Type 0 where
  pub declared : o < length head.oneofs
  pub single : f.is_repeated ≡ false

has_oneof : (head : MessageHead) → (f : DeclaredField) (o : ℕ) → f.oneof ≡ Some (pos o) → oneof_of_field_is_right head f ≡ true → HasOneof head f o
has_oneof head f o is right = by_oneof f.oneof is right
  where
    turned : (b : Bool) → not b ≡ true → b ≡ false
    turned true h = absurd (false≢true h)
    turned false h = refl

    below : (a b : ℕ) → nat_lt a b ≡ true → a < b
    below a b e = grind (arith, nat_tests)

    by_oneof : (i : Option ℤ) → i ≡ Some (pos o) → oneof_of_field_is_right head (record f { oneof = i }) ≡ true → HasOneof head f o
    by_oneof None e h = absurd (none-some (pos o) e)
    by_oneof (Some (pos i)) e h =
        let both = and_left (nat_lt i (length head.oneofs) && not f.is_repeated) _ h in
        record { declared = subst (λ n. n < length head.oneofs) (index (some_same (pos i) (pos o) e)) (below i (length head.oneofs) (and_left (nat_lt i (length head.oneofs)) (not f.is_repeated) both)); single = turned f.is_repeated (and_right (nat_lt i (length head.oneofs)) (not f.is_repeated) both) }
      where
        index : pos i ≡ pos o → i ≡ o
        index e = ap (λ z. natural z) e
          where
            natural : ℤ → ℕ
            natural (pos n) = n
            natural (negsuc n) = 0
    by_oneof (Some (negsuc i)) e h = absurd (false≢true (ap is_natural (some_same (negsuc i) (pos o) e)))
      where
        is_natural : ℤ → Bool
        is_natural (pos n) = true
        is_natural (negsuc n) = false

no_marks_before : (head : MessageHead) (o : ℕ) → oneof_is_right head o ≡ true → is_synthetic head o ≡ false → list_any (λ e. is_synthetic head e.0) (take o (enumerate_from 0 head.oneofs)) ≡ false
no_marks_before head o right plain = turned (list_any (λ e. is_synthetic head e.0) (take o (enumerate_from 0 head.oneofs))) (subst (λ b. (b || not (list_any (λ e. is_synthetic head e.0) (take o (enumerate_from 0 head.oneofs)))) ≡ true) plain (and_right (list_any (is_member_of o) head.fields) _ right))
  where
    turned : (b : Bool) → not b ≡ true → b ≡ false
    turned true h = absurd (false≢true h)
    turned false h = refl

zero_plus : (n : ℕ) → 0 + n ≡ n
zero_plus n = omega arith

-- a member's oneof is real, and stands at its index among the real ones
pub real_index : (head : MessageHead) → OneofsAreRight head → (j : ℕ) (f : DeclaredField) (o : ℕ) → slice_get head.fields j ≡ Some f → f.is_optional ≡ false → f.oneof ≡ Some (pos o) → o < length (real_oneofs head)
real_index head right j f o at plain is =
    let has = has_oneof head f o is (right.of_field j f at) in
    let named = get_within head.oneofs o has.declared in
    let e = get_enumerated 0 head.oneofs o named.0 named.1 in
    let real = not_synthetic head right j f o at plain is in
    subst (λ n. o < n) (sym (length-map (filter (λ x. not (is_synthetic head x.0)) (enumerate_from 0 head.oneofs)) (λ x. x.1)))
    (unmarked_front (λ x. is_synthetic head x.0) (enumerate_from 0 head.oneofs) o e.0 e.1 (ap (is_synthetic head) (e.2 ∙ zero_plus o) ∙ real) (no_marks_before head o (right.of_oneof o named.0 named.1) real))

-- each oneof that is left has a member that is not optional
pub real_member : (head : MessageHead) → OneofsAreRight head → (o : ℕ) → o < length (real_oneofs head) → (j : ℕ) × (f : DeclaredField) × (slice_get head.fields j ≡ Some f) × (f.is_optional ≡ false) × (f.oneof ≡ Some (pos o)) × (f.is_repeated ≡ false)
real_member head right o less =
    let es = enumerate_from 0 head.oneofs in
    let found = unmarked_at (λ x. is_synthetic head x.0) es o
    (λ i e there plain.
    let back = enumerated_get 0 head.oneofs i e there in
    no_marks_before head i (right.of_oneof i e.1 back.1) (ap (is_synthetic head) (sym (back.0 ∙ zero_plus i)) ∙ plain))
    (subst (λ n. o < n) (length-map (filter (λ x. not (is_synthetic head x.0)) es) (λ x. x.1)) less) in
    let back = enumerated_get 0 head.oneofs o found.0 found.1 in
    let real : is_synthetic head o ≡ false = ap (is_synthetic head) (sym (back.0 ∙ zero_plus o)) ∙ found.2 in
    let member = any_at (is_member_of o) head.fields (and_left (list_any (is_member_of o) head.fields) _ (right.of_oneof o found.0.1 back.1)) in
    let f = member.1 in
    let is = member_is o f member.3 in
    (member.0, f, member.2, not_optional f member.0 member.2 real member.3, is, (has_oneof head f o is (right.of_field member.0 f member.2)).single)
  where
    not_optional : (f : DeclaredField) (j : ℕ) → slice_get head.fields j ≡ Some f → is_synthetic head o ≡ false → is_member_of o f ≡ true → f.is_optional ≡ false
    not_optional f j at real member = by_mark f.is_optional refl
      where
        by_mark : (b : Bool) → f.is_optional ≡ b → b ≡ false
        by_mark false h = refl
        by_mark true h = absurd (false≢true (sym real ∙ any_of (λ g. g.is_optional && is_member_of o g) head.fields j f at (ap (λ b. b && is_member_of o f) h ∙ member)))

-- THE TYPES

oneof_of_shape : (two : Bool) (head : MessageHead) → OneofsAreRight head → (j : ℕ) (f : DeclaredField) → slice_get head.fields j ≡ Some f → (k : Kind) → NamesOneof (length (real_oneofs head)) (if f.is_repeated then list_shape two k f else singular_shape two k f)
oneof_of_shape two head right j f at k = by_list f.is_repeated
  where
    by_mark : (b : Bool) (o : Option ℤ) → f.is_optional ≡ b → f.oneof ≡ o → NamesOneof (length (real_oneofs head)) (singular_shape two k (record f { is_optional = b; oneof = o }))
    by_mark true o plain is = tt
    by_mark false (Some (pos o)) plain is = real_index head right j f o at plain is
    by_mark false (Some (negsuc o)) plain is = by_kind two k
      where
        by_kind : (b : Bool) (v : Kind) → NamesOneof (length (real_oneofs head)) (singular_shape b v (record f { is_optional = false; oneof = Some (negsuc o) }))
        by_kind true v = tt
        by_kind false (kind.Message m) = tt
        by_kind false (kind.Group m) = tt
        by_kind false v = tt
    by_mark false None plain is = by_kind two k
      where
        by_kind : (b : Bool) (v : Kind) → NamesOneof (length (real_oneofs head)) (singular_shape b v (record f { is_optional = false; oneof = None }))
        by_kind true v = tt
        by_kind false (kind.Message m) = tt
        by_kind false (kind.Group m) = tt
        by_kind false v = tt

    by_list : (b : Bool) → NamesOneof (length (real_oneofs head)) (if b then list_shape two k f else singular_shape two k f)
    by_list true = tt
    by_list false = by_mark f.is_optional f.oneof refl refl

shape_names_oneof : (w : World) (file : ℕ) (scope : List ℕ) (head : MessageHead) → OneofsAreRight head → (j : ℕ) (f : DeclaredField) → slice_get head.fields j ≡ Some f → (o : Option (MessageHead × List ℕ)) → NamesOneof (length (real_oneofs head)) (field_by_entry w file scope f o).shape
shape_names_oneof w file scope head right j f at None = oneof_of_shape (is_two w.files file) head right j f at (kind_of_field w file scope f)
shape_names_oneof w file scope head right j f at (Some (h, name)) = tt

pub members_name_oneofs : (files : List DeclaredFile) (w : World) → IsWorldOf files w → NothingFails w → MembersNameOneofs (pool_of files w).messages
members_name_oneofs files w world nothing = each_message w (λ t. AllByRecursion (λ f. NamesOneof (length t.oneofs) f.shape) t.fields) (λ k file parent scope head inner there plain. all_mapped (λ f. NamesOneof (length (real_oneofs head)) f.shape) (field_type w file (in_scope scope head.name)) head.fields (λ j f at. shape_names_oneof w file (in_scope scope head.name) head (oneofs_right files w world nothing k file parent scope head inner there) j f at (entry_of w file (in_scope scope head.name) f)))

has_member_at : (o : ℕ) (g : DeclaredField → FieldView) (fs : List DeclaredField) (j : ℕ) (f : DeclaredField) → slice_get fs j ≡ Some f → IsMemberOf o (g f).shape → HasMember o (map g fs)
has_member_at o g [] j f at is = absurd (none-some f at)
has_member_at o g (x ∷ fs) zero f at is = inl (subst (λ y. IsMemberOf o (g y).shape) (sym (some_same x f at)) is)
has_member_at o g (x ∷ fs) (suc j) f at is = inr (has_member_at o g fs j f at is)

-- a member of a oneof uses no entry
repeated_of : (head : MessageHead) (j : ℕ) (f : DeclaredField) (it : Item) → gives_name (a_field head j f) it ≡ true → f.is_repeated ≡ true
repeated_of head j f (a_message e inner) h = and_left f.is_repeated _ h
repeated_of head j f (a_file g) h = absurd (false≢true h)
repeated_of head j f it h = absurd (false≢true h)

member_shape : (two : Bool) (f : DeclaredField) (o : ℕ) (k : Kind) → f.is_optional ≡ false → f.oneof ≡ Some (pos o) → f.is_repeated ≡ false → IsMemberOf o (if f.is_repeated then list_shape two k f else singular_shape two k f)
member_shape two f o k plain is single =
    subst (λ b. IsMemberOf o (if b then list_shape two k f else singular_shape two k f)) (sym single)
    (subst (λ b. IsMemberOf o (singular_shape two k (record f { is_optional = b }))) (sym plain)
    (subst (λ i. IsMemberOf o (singular_shape two k (record f { is_optional = false; oneof = i }))) (sym is) refl))

pub oneofs_have_members : (files : List DeclaredFile) (w : World) → IsWorldOf files w → NothingFails w → OneofsHaveMembers (pool_of files w).messages
oneofs_have_members files w world nothing = each_message w EachOneofHasMember (λ k file parent scope head inner there plain o less. of_message k file parent scope head inner there o less)
  where
    of_message : (k file parent : ℕ) (scope : List ℕ) (head : MessageHead) (inner : DeclaredMessages) → slice_get w.declared k ≡ Some (record { file = file; parent = parent; scope = scope; item = a_message head inner }) → (o : ℕ) → o < length (real_oneofs head) → HasMember o (map (field_type w file (in_scope scope head.name)) head.fields)
    of_message k file parent scope head inner there o less =
        let name = in_scope scope head.name in
        let m = real_member head (oneofs_right files w world nothing k file parent scope head inner there) o less in
        let at = field_there files w world k file parent scope head inner there m.0 m.1 m.2 in
        has_member_at o (field_type w file name) head.fields m.0 m.1 m.2 (by_entry k file scope head m.0 m.1 o at m.3 m.4 m.5 (entry_of w file name m.1) refl)
      where
        by_entry : (k file : ℕ) (scope : List ℕ) (head : MessageHead) (j : ℕ) (f : DeclaredField) (o : ℕ) → slice_get w.declared (k + 1 + j) ≡ Some (record { file = file; parent = k; scope = in_scope scope head.name; item = a_field head j f }) → f.is_optional ≡ false → f.oneof ≡ Some (pos o) → f.is_repeated ≡ false → (e : Option (MessageHead × List ℕ)) → entry_of w file (in_scope scope head.name) f ≡ e → IsMemberOf o (field_by_entry w file (in_scope scope head.name) f e).shape
        by_entry k file scope head j f o at plain is single None none = member_shape (is_two w.files file) f o (kind_of_field w file (in_scope scope head.name) f) plain is single
        by_entry k file scope head j f o at plain is single (Some (h, name)) uses =
            let u = entry_used w nothing (k + 1 + j) file k (in_scope scope head.name) head j f at h name uses in
            absurd (false≢true (sym single ∙ repeated_of head j f u.entry.item (and_right (k == u.entry.parent) _ u.is_map)))
