-- Names as paths of words.
use Rattle.std.proofs.Common.{rules, Vec, Global, vec_len, ◌≡◌, ◌≢◌, ℕ, zero, suc, ◌+◌, ◌<◌, ◌≤◌, ◌⊎◌, inl, inr, ⊎_elim, List, [], ◌∷◌, ◌++◌, map, length, take, drop, get_or, set, Bool, true, false, not, ◌||◌, ◌&&◌, ◌==◌, cond, refl, sym, ap, ◌∙◌, subst, arith, Contains, Option, Some, None, append_assoc, append-nil}
use Rattle.std.specs.Prelude.{find, reverse, is_some, option_and_then, slice_get}
use Rattle.std.specs.List.{filter, list_any, prefix_len}
use Rattle.std.specs.Option.{option_or}
use Rattle.std.specs.Cmp.{unsigned_Decides}
use Rattle.std.specs.Str.{bytes_eq}
use Rattle.std.proofs.lemmas.Bool.{false≢true, cases_eq}
use Rattle.std.proofs.lemmas.Option.{none-some, slice_get_within}
use Rattle.std.proofs.lemmas.List.{reverse-append, map-append, take_more, take_all}
use Rattle.std.proofs.lemmas.List.Folds.{find-append}
use Rattle.std.proofs.lemmas.Slice.Eq.{bytes_eq-Decides}
use Rattle.std.proofs.lemmas.List.Elements.{Contains-append_cases}
use Rattle.pb_graphs.proofs.ContainsLemmas.{Contains-one, Contains-none}
use Rattle.pb_schema.specs.Names.{in_scope, packages_of, fronts_from, with_front}
use Rattle.pb_link_names.specs.Declarations.{Item, a_file, a_message, a_field, a_oneof, an_enum, a_value, a_service, a_method, Declaration, is_named, full_name, has_name, is_type, holds_names}
use Rattle.pb_link_names.specs.Lookup.{Seen, every_file, type_named, makes_package, is_package_name, can_hold, is_taken, has_dot, first_part, scopes_from, decides}
use Rattle.pb_link_names.specs.Firsts.{first_at}
use Rattle.pb_link_names.specs.TypeRefs.{file_in}
use Rattle.pb_link_names.specs.Scopes.{scopes_to}
use Rattle.pb_link_names.specs.Words.{child_in, child_of, child_if, reach, end_of, node_of, scope_node, is_off, may_hold, knows, IsTree, Keeps, AddsWord, AddsName, begun, IsAt, IsAdding, PushesScope, named_by, written_name, AreWords}
use Rattle.pb_link_names.specs.declared.firsts.Firsts.{Firsts}
use Rattle.pb_link_names.specs.declared.words.Words.{Words}
use Rattle.pb_link_names.proofs.AnyLemmas.{or_cases, or_first, or_second, and_cases, any_there, there_any}
use Rattle.pb_link_names.proofs.NameSetsLemmas.{fronts_more}
use Rattle.pb_link_names.proofs.FirstsLemmas.{position_from-first}
use Rattle.pb_link_names.proofs.PlacesLemmas.{any_position}

some_same : {A : Type 0} (a b : A) → Some a ≡ Some b → a ≡ b
some_same a b h = cc

-- THE LAST OF SOME SCOPES THAT PASSES
abbrev pub found_last : (List ℕ → Bool) → List (List ℕ) → Option (List ℕ)
found_last t [] = None
found_last t (x ∷ xs) = option_or (found_last t xs) (cond (t x) (Some x) None)

pub found_push : (t : List ℕ → Bool) (xs : List (List ℕ)) (x : List ℕ) → found_last t (xs ++ x ∷ []) ≡ cond (t x) (Some x) (found_last t xs)
found_push t [] x = refl
found_push t (y ∷ ys) x = ap (λ o. option_or o (cond (t y) (Some y) None)) (found_push t ys x) ∙ by (t x)
  where
    by : (b : Bool) → option_or (cond b (Some x) (found_last t ys)) (cond (t y) (Some y) None) ≡ cond b (Some x) (option_or (found_last t ys) (cond (t y) (Some y) None))
    by true = refl
    by false = refl

fails_too : (t p : Bool) → (t ≡ true → p ≡ true) → p ≡ false → t ≡ false
fails_too false p narrower fails = refl
fails_too true p narrower fails = absurd (false≢true (sym fails ∙ narrower refl))

or_none : {X : Type 0} (o : Option X) → option_or o None ≡ o
or_none None = refl
or_none (Some x) = refl

found_filter : (t p : List ℕ → Bool) → ((s : List ℕ) → t s ≡ true → p s ≡ true) → (xs : List (List ℕ)) → found_last t (filter p xs) ≡ found_last t xs
found_filter t p narrower [] = refl
found_filter t p narrower (x ∷ xs) = by (found_filter t p narrower xs) (p x) refl
  where
    by : found_last t (filter p xs) ≡ found_last t xs → (b : Bool) → p x ≡ b → found_last t (cond b (x ∷ filter p xs) (filter p xs)) ≡ option_or (found_last t xs) (cond (t x) (Some x) None)
    by onward true is = ap (λ o. option_or o (cond (t x) (Some x) None)) onward
    by onward false is = onward ∙ sym (or_none (found_last t xs)) ∙ ap (λ b. option_or (found_last t xs) (cond b (Some x) None)) (sym (fails_too (t x) (p x) (narrower x) is))

find_reverse : (t : List ℕ → Bool) (xs : List (List ℕ)) → find t (reverse xs) ≡ found_last t xs
find_reverse t [] = refl
find_reverse t (x ∷ xs) =
    ap (find t) (reverse-append (x ∷ []) xs) ∙ find-append t (reverse xs) (x ∷ []) ∙ ap (λ o. option_or o (cond (t x) (Some x) None)) (find_reverse t xs)

scopes_reverse : (s : List ℕ) → scopes_from s ≡ reverse (scopes_to s)
scopes_reverse [] = refl
scopes_reverse (c ∷ cs) =
    sym (reverse-append ([] ∷ []) (fronts_from [] (c ∷ cs) ++ (c ∷ cs) ∷ []) ∙ ap (λ l. l ++ [] ∷ []) (reverse-append (fronts_from [] (c ∷ cs)) ((c ∷ cs) ∷ [])))

-- the scopes that may pass are enough
pub scopes_enough : (t p : List ℕ → Bool) (s : List ℕ) (xs : List (List ℕ)) → ((r : List ℕ) → t r ≡ true → p r ≡ true) → xs ≡ filter p (scopes_to s) → find t (scopes_from s) ≡ found_last t xs
scopes_enough t p s xs narrower e =
    ap (find t) (scopes_reverse s) ∙ find_reverse t (scopes_to s) ∙ sym (found_filter t p narrower (scopes_to s)) ∙ ap (found_last t) (sym e)

-- one scope of some, taken from the end
pub scope_popped : (t : List ℕ → Bool) (scope : List ℕ) (all rest : List ℕ) (n : ℕ) → all ≡ rest ++ n ∷ [] → found_last t (map (λ k. take k scope) all) ≡ cond (t (take n scope)) (Some (take n scope)) (found_last t (map (λ k. take k scope) rest))
scope_popped t scope all rest n e =
    ap (λ l. found_last t (map (λ k. take k scope) l)) e ∙ ap (found_last t) (map-append (λ k. take k scope) rest (n ∷ [])) ∙ found_push t (map (λ k. take k scope) rest) (take n scope)

-- REACHING
pub reach_append : (t : Words) (n : ℕ) (w xs ys : List ℕ) → reach t n w (xs ++ ys) ≡ option_and_then (λ e. reach t e.0 e.1 ys) (reach t n w xs)
reach_append t n w [] ys = refl
reach_append t n w (c ∷ xs) ys = by (λ k. reach_append t k [] xs ys) (reach_append t n (w ++ c ∷ []) xs ys) (c == 46)
  where
    on : ((k : ℕ) → reach t k [] (xs ++ ys) ≡ option_and_then (λ e. reach t e.0 e.1 ys) (reach t k [] xs)) → (o : Option ℕ) → option_and_then (λ next. reach t next [] (xs ++ ys)) o ≡ option_and_then (λ e. reach t e.0 e.1 ys) (option_and_then (λ next. reach t next [] xs) o)
    on word None = refl
    on word (Some k) = word k

    by : ((k : ℕ) → reach t k [] (xs ++ ys) ≡ option_and_then (λ e. reach t e.0 e.1 ys) (reach t k [] xs)) → reach t n (w ++ c ∷ []) (xs ++ ys) ≡ option_and_then (λ e. reach t e.0 e.1 ys) (reach t n (w ++ c ∷ []) xs) → (b : Bool) → cond b (option_and_then (λ next. reach t next [] (xs ++ ys)) (child_of t n w)) (reach t n (w ++ c ∷ []) (xs ++ ys)) ≡ option_and_then (λ e. reach t e.0 e.1 ys) (cond b (option_and_then (λ next. reach t next [] xs) (child_of t n w)) (reach t n (w ++ c ∷ []) xs))
    by word letter true = on word (child_of t n w)
    by word letter false = letter

pub reach_kept : (old new : Words) → Keeps old new → (n : ℕ) (w cs : List ℕ) (e : ℕ × List ℕ) → reach old n w cs ≡ Some e → reach new n w cs ≡ Some e
reach_kept old new kept n w [] e h = h
reach_kept old new kept n w (c ∷ cs) e h = by (λ k. reach_kept old new kept k [] cs e) (reach_kept old new kept n (w ++ c ∷ []) cs e) (c == 46) h
  where
    on : ((k : ℕ) → reach old k [] cs ≡ Some e → reach new k [] cs ≡ Some e) → (o : Option ℕ) → child_of old n w ≡ o → option_and_then (λ next. reach old next [] cs) o ≡ Some e → option_and_then (λ next. reach new next [] cs) (child_of new n w) ≡ Some e
    on word None is h = absurd (none-some e h)
    on word (Some k) is h = ap (option_and_then (λ next. reach new next [] cs)) (kept.children n k w is) ∙ word k h

    by : ((k : ℕ) → reach old k [] cs ≡ Some e → reach new k [] cs ≡ Some e) → (reach old n (w ++ c ∷ []) cs ≡ Some e → reach new n (w ++ c ∷ []) cs ≡ Some e) → (b : Bool) → cond b (option_and_then (λ next. reach old next [] cs) (child_of old n w)) (reach old n (w ++ c ∷ []) cs) ≡ Some e → cond b (option_and_then (λ next. reach new next [] cs) (child_of new n w)) (reach new n (w ++ c ∷ []) cs) ≡ Some e
    by word letter true h = on word (child_of old n w) refl h
    by word letter false h = letter h

pub kept_all : (t : Words) → Keeps t t
kept_all t = record { children = λ node child word h. h; more = omega arith }

pub kept_on : (a b c : Words) → Keeps a b → Keeps b c → Keeps a c
kept_on a b c first onward = record { children = λ n k w h. onward.children n k w (first.children n k w h); more = omega (arith, first.more, onward.more) }

-- one byte more of a name
drop_push : (l : List ℕ) (k : ℕ) (c : ℕ) → k ≤ length l → drop k (l ++ c ∷ []) ≡ drop k l ++ c ∷ []
drop_push l zero c h = refl
drop_push [] (suc k) c h = absurd (omega (arith, h))
drop_push (d ∷ l) (suc k) c h = drop_push l k c (omega (arith, h))

drop_all : (l : List ℕ) (k : ℕ) → length l ≤ k → drop k l ≡ []
drop_all [] zero h = refl
drop_all [] (suc k) h = refl
drop_all (d ∷ l) zero h = absurd (omega (arith, h))
drop_all (d ∷ l) (suc k) h = drop_all l k (omega (arith, h))

length_take : (l : List ℕ) (k : ℕ) → k ≤ length l → length (take k l) ≡ k
length_take l zero h = refl
length_take [] (suc k) h = absurd (omega (arith, h))
length_take (d ∷ l) (suc k) h = ap suc (length_take l k (omega (arith, h)))

more_reached : (t : Words) (name : List ℕ) (i : ℕ) → i < length name → reach t 0 [] (take (i + 1) name) ≡ option_and_then (λ e. reach t e.0 e.1 (get_or name i 0 ∷ [])) (reach t 0 [] (take i name))
more_reached t name i h = ap (reach t 0 []) (take_more name i 0 h) ∙ reach_append t 0 [] (take i name) (get_or name i 0 ∷ [])

one_more : (name : List ℕ) (i start : ℕ) → i < length name → start ≤ i → drop start (take (i + 1) name) ≡ drop start (take i name) ++ get_or name i 0 ∷ []
one_more name i start h within = ap (drop start) (take_more name i 0 h) ∙ drop_push (take i name) start (get_or name i 0) (omega (arith, within, h, length_take name i (omega (arith, h))))

pub at_letter : (t : Words) (name : List ℕ) (i : ℕ) (node : Option ℕ) (start : ℕ) → i < length name → (get_or name i 0 == 46) ≡ false → IsAt t name i node start → IsAt t name (i + 1) node start
at_letter t name i node start h other at = record {
  within = omega (arith, at.within);
  reached = more_reached t name i h ∙ ap (option_and_then (λ e. reach t e.0 e.1 (get_or name i 0 ∷ []))) at.reached ∙ on node ∙ ap (begun node) (sym (one_more name i start h at.within));
}
  where
    on : (o : Option ℕ) → option_and_then (λ e. reach t e.0 e.1 (get_or name i 0 ∷ [])) (begun o (drop start (take i name))) ≡ begun o (drop start (take i name) ++ get_or name i 0 ∷ [])
    on None = refl
    on (Some n) = ap (λ b. cond b (option_and_then (λ next. Some (next, [])) (child_of t n (drop start (take i name)))) (Some (n, drop start (take i name) ++ get_or name i 0 ∷ []))) other

pub at_dot : (t : Words) (name : List ℕ) (i : ℕ) (node : Option ℕ) (start : ℕ) → i < length name → get_or name i 0 ≡ 46 → IsAt t name i node start → IsAt t name (i + 1) (child_if t node (drop start (take i name))) (i + 1)
at_dot t name i node start h dot at = record {
  within = omega arith;
  reached = more_reached t name i h ∙ ap (option_and_then (λ e. reach t e.0 e.1 (get_or name i 0 ∷ []))) at.reached ∙ ap (λ c. option_and_then (λ (e : ℕ × List ℕ). reach t e.0 e.1 (c ∷ [])) (begun node (drop start (take i name)))) dot ∙ on node ∙ ap (begun (child_if t node (drop start (take i name)))) (sym (drop_all (take (i + 1) name) (i + 1) (omega (arith, length_take name (i + 1) (omega (arith, h))))));
}
  where
    ends : (o : Option ℕ) → option_and_then (λ next. Some (next, [])) o ≡ begun o []
    ends None = refl
    ends (Some n) = refl

    on : (o : Option ℕ) → option_and_then (λ e. reach t e.0 e.1 (46 ∷ [])) (begun o (drop start (take i name))) ≡ begun (child_if t o (drop start (take i name))) []
    on None = refl
    on (Some n) = ends (child_of t n (drop start (take i name)))

-- the node of what was read
pub at_node : (t : Words) (name : List ℕ) (i : ℕ) (node : Option ℕ) (start : ℕ) → IsAt t name i node start → child_if t node (drop start (take i name)) ≡ node_of t (take i name)
at_node t name i node start at = sym (ap (end_of t) at.reached ∙ on node)
  where
    on : (o : Option ℕ) → end_of t (begun o (drop start (take i name))) ≡ child_if t o (drop start (take i name))
    on None = refl
    on (Some n) = refl

pub at_start : (t : Words) (name : List ℕ) → IsAt t name 0 (Some 0) 0
at_start t name = record { within = omega arith; reached = refl }

pub at_kept : (old new : Words) (name : List ℕ) (i node start : ℕ) → Keeps old new → IsAt old name i (Some node) start → IsAt new name i (Some node) start
at_kept old new name i node start kept at = record { within = at.within; reached = reach_kept old new kept 0 [] (take i name) (node, drop start (take i name)) at.reached }

-- ADDING
set_here : (xs : List Firsts) (node : ℕ) (f e : Firsts) → node < length xs → slice_get (set xs node f ++ e ∷ []) node ≡ Some f
set_here [] node f e h = absurd (omega (arith, h))
set_here (x ∷ xs) zero f e h = refl
set_here (x ∷ xs) (suc node) f e h = set_here xs node f e (omega (arith, h))

set_other : (xs : List Firsts) (node n : ℕ) (f e : Firsts) → n ≢ node → n < length xs → slice_get (set xs node f ++ e ∷ []) n ≡ slice_get xs n
set_other [] node n f e other h = absurd (omega (arith, h))
set_other (x ∷ xs) zero zero f e other h = absurd (other refl)
set_other (x ∷ xs) zero (suc n) f e other h = before xs n (omega (arith, h))
  where
    before : (xs : List Firsts) (n : ℕ) → n < length xs → slice_get (xs ++ e ∷ []) n ≡ slice_get xs n
    before [] n h = absurd (omega (arith, h))
    before (x ∷ xs) zero h = refl
    before (x ∷ xs) (suc n) h = before xs n (omega (arith, h))
set_other (x ∷ xs) (suc node) zero f e other h = refl
set_other (x ∷ xs) (suc node) (suc n) f e other h = set_other xs node n f e (λ same. other (ap suc same)) (omega (arith, h))

set_length : (xs : List Firsts) (node : ℕ) (f e : Firsts) → length (set xs node f ++ e ∷ []) ≡ length xs + 1
set_length [] node f e = refl
set_length (x ∷ xs) zero f e = omega (arith, pushed xs)
  where
    pushed : (xs : List Firsts) → length (xs ++ e ∷ []) ≡ length xs + 1
    pushed [] = refl
    pushed (x ∷ xs) = omega (arith, pushed xs)
set_length (x ∷ xs) (suc node) f e = omega (arith, set_length xs node f e)

set_past : (xs : List Firsts) (node n : ℕ) (f e : Firsts) (w : List ℕ) → ((v : List ℕ) → first_at e v ≡ None) → length xs ≤ n → node < length xs → child_in (slice_get (set xs node f ++ e ∷ []) n) w ≡ None
set_past [] node n f e w none h less = absurd (omega (arith, less))
set_past (x ∷ xs) node zero f e w none h less = absurd (omega (arith, h))
set_past (x ∷ xs) zero (suc n) f e w none h less = pushed xs n (omega (arith, h))
  where
    nothing : (n : ℕ) → child_in (slice_get [] n) w ≡ None
    nothing zero = refl
    nothing (suc n) = refl

    pushed : (xs : List Firsts) (n : ℕ) → length xs ≤ n → child_in (slice_get (xs ++ e ∷ []) n) w ≡ None
    pushed [] zero h = none w
    pushed [] (suc n) h = nothing n
    pushed (x ∷ xs) zero h = absurd (omega (arith, h))
    pushed (x ∷ xs) (suc n) h = pushed xs n (omega (arith, h))
set_past (x ∷ xs) (suc node) (suc n) f e w none h less = set_past xs node n f e w none (omega (arith, h)) (omega (arith, less))

pub child_added : (old new : Words) (node : ℕ) (word : List ℕ) (child : ℕ) (f g e : Firsts) → IsTree old → child_of old node word ≡ None → slice_get old.inside.items node ≡ Some f → child ≡ length old.inside.items → ((other : List ℕ) → first_at g other ≡ cond (bytes_eq other word) (Some child) (first_at f other)) → ((w : List ℕ) → first_at e w ≡ None) → new.inside.items ≡ set old.inside.items node g ++ e ∷ [] → AddsWord old new node word child
child_added old new node word child f g e tree is_new there at put empty items = record {
  tree = record { within = within };
  kept = record { children = children; more = omega (arith, size) };
  there = here word ∙ put word ∙ ap (λ b. cond b (Some child) (first_at f word)) ((bytes_eq-Decides word word).1 refl);
}
  where
    less : node < length old.inside.items
    less = slice_get_within old.inside.items node f there

    size : length new.inside.items ≡ length old.inside.items + 1
    size = ap length items ∙ set_length old.inside.items node g e

    here : (w : List ℕ) → child_of new node w ≡ first_at g w
    here w = ap (λ l. child_in (slice_get l node) w) items ∙ ap (λ o. child_in o w) (set_here old.inside.items node g e less)

    was : (w : List ℕ) → child_of old node w ≡ first_at f w
    was w = ap (λ o. child_in o w) there

    apart : (n : ℕ) (w : List ℕ) → n ≢ node → n < length old.inside.items → child_of new n w ≡ child_of old n w
    apart n w other h = ap (λ l. child_in (slice_get l n) w) items ∙ ap (λ o. child_in o w) (set_other old.inside.items node n g e other h)

    past : (n : ℕ) (w : List ℕ) → length old.inside.items ≤ n → child_of new n w ≡ None
    past n w h = ap (λ l. child_in (slice_get l n) w) items ∙ set_past old.inside.items node n g e w empty h less

    old_within : (n k : ℕ) (w : List ℕ) → child_of old n w ≡ Some k → n < length old.inside.items
    old_within n k w h = by (slice_get old.inside.items n) refl h
      where
        by : (o : Option Firsts) → slice_get old.inside.items n ≡ o → child_in o w ≡ Some k → n < length old.inside.items
        by None is h = absurd (none-some k h)
        by (Some x) is h = slice_get_within old.inside.items n x is

    children : (n k : ℕ) (w : List ℕ) → child_of old n w ≡ Some k → child_of new n w ≡ Some k
    children n k w h = ⊎_elim
        (λ same. ap (λ m. child_of new m w) same ∙ here w ∙ put w ∙ by (bytes_eq w word) refl (sym (was w) ∙ ap (λ m. child_of old m w) (sym same) ∙ h))
        (λ other. apart n w other (old_within n k w h) ∙ h)
        (cases_eq n node)
      where
        by : (b : Bool) → bytes_eq w word ≡ b → first_at f w ≡ Some k → cond b (Some child) (first_at f w) ≡ Some k
        by true same h = absurd (none-some k (sym is_new ∙ ap (child_of old node) (sym ((bytes_eq-Decides w word).0 same)) ∙ was w ∙ h))
        by false same h = h

    within : (n k : ℕ) (w : List ℕ) → child_of new n w ≡ Some k → k < length new.inside.items
    within n k w h = ⊎_elim
        (λ same. by_word (bytes_eq w word) (sym (put w) ∙ sym (here w) ∙ ap (λ m. child_of new m w) (sym same) ∙ h))
        (λ other. ⊎_elim (λ short. omega (arith, size, tree.within n k w (sym (apart n w other short) ∙ h))) (λ long. absurd (none-some k (sym (past n w long) ∙ h))) (split n (length old.inside.items)))
        (cases_eq n node)
      where
        split : (a b : ℕ) → (a < b) ⊎ (b ≤ a)
        split zero zero = inr (omega arith)
        split zero (suc b) = inl (omega arith)
        split (suc a) zero = inr (omega arith)
        split (suc a) (suc b) = ⊎_elim (λ s. inl (omega (arith, s))) (λ l. inr (omega (arith, l))) (split a b)

        by_word : (b : Bool) → cond b (Some child) (first_at f w) ≡ Some k → k < length new.inside.items
        by_word true h = omega (arith, at, size, some_same child k h)
        by_word false h = omega (arith, size, tree.within node k w (was w ∙ h))

pub adding_start : (t : Words) (name : List ℕ) → IsTree t → 0 < length t.inside.items → IsAdding t name 0 0 0
adding_start t name tree on = record { tree = tree; within = on; at = at_start t name }

pub adding_letter : (t : Words) (name : List ℕ) (i node start : ℕ) → i < length name → (get_or name i 0 == 46) ≡ false → IsAdding t name i node start → IsAdding t name (i + 1) node start
adding_letter t name i node start h other adding = record { tree = adding.tree; within = adding.within; at = at_letter t name i (Some node) start h other adding.at }

pub adding_dot : (old new : Words) (name : List ℕ) (i node start child : ℕ) → i < length name → get_or name i 0 ≡ 46 → IsAdding old name i node start → AddsWord old new node (drop start (take i name)) child → IsAdding new name (i + 1) child (i + 1)
adding_dot old new name i node start child h dot adding adds = record {
  tree = adds.tree;
  within = adds.tree.within node child (drop start (take i name)) adds.there;
  at = subst (λ o. IsAt new name (i + 1) o (i + 1)) adds.there (at_dot new name i (Some node) start h dot (at_kept old new name i node start adds.kept adding.at));
}

pub name_added : (first old new : Words) (name : List ℕ) (i node start child : ℕ) → length name ≤ i → Keeps first old → IsAdding old name i node start → AddsWord old new node (drop start (take (length name) name)) child → AddsName name first new
name_added first old new name i node start child all kept adding adds = record {
  tree = adds.tree;
  kept = kept_on first old new kept adds.kept;
  there = ap is_some (ap (node_of new) (sym (take_all i name all)) ∙ sym (at_node new name i (Some node) start (at_kept old new name i node start adds.kept adding.at)) ∙ ap (λ l. child_of new node (drop start l)) (take_all i name all ∙ sym (take_all (length name) name (omega arith))) ∙ adds.there);
}

-- LOOKING
filter_push : (p : List ℕ → Bool) (xs : List (List ℕ)) (x : List ℕ) → filter p (xs ++ x ∷ []) ≡ cond (p x) (filter p xs ++ x ∷ []) (filter p xs)
filter_push p [] x = refl
filter_push p (y ∷ ys) x = by (filter_push p ys x) (p y)
  where
    out : (b : Bool) → y ∷ cond b (filter p ys ++ x ∷ []) (filter p ys) ≡ cond b (y ∷ filter p ys ++ x ∷ []) (y ∷ filter p ys)
    out true = refl
    out false = refl

    by : filter p (ys ++ x ∷ []) ≡ cond (p x) (filter p ys ++ x ∷ []) (filter p ys) → (b : Bool) → cond b (y ∷ filter p (ys ++ x ∷ [])) (filter p (ys ++ x ∷ [])) ≡ cond (p x) (cond b (y ∷ filter p ys) (filter p ys) ++ x ∷ []) (cond b (y ∷ filter p ys) (filter p ys))
    by onward true = ap (λ l. y ∷ l) onward ∙ out (p x)
    by onward false = onward

-- one scope more is pushed, or not
pushed : (t : Words) (word scope : List ℕ) (node : Option ℕ) (len : ℕ) (old new : List ℕ) (xs : List (List ℕ)) → node ≡ scope_node t (take len scope) → map (λ n. take n scope) old ≡ filter (may_hold t word) xs → PushesScope t node word len old new → map (λ n. take n scope) new ≡ filter (may_hold t word) (xs ++ take len scope ∷ [])
pushed t word scope node len old new xs at are pushes =
    ap (map (λ n. take n scope)) pushes ∙ by (is_off t || is_some (child_if t node word)) refl ∙ sym (filter_push (may_hold t word) xs (take len scope))
  where
    same : (is_off t || is_some (child_if t node word)) ≡ may_hold t word (take len scope)
    same = ap (λ o. is_off t || is_some (child_if t o word)) at

    by : (b : Bool) → (is_off t || is_some (child_if t node word)) ≡ b → map (λ n. take n scope) (cond b (old ++ len ∷ []) old) ≡ cond (may_hold t word (take len scope)) (filter (may_hold t word) xs ++ take len scope ∷ []) (filter (may_hold t word) xs)
    by true is = map-append (λ n. take n scope) old (len ∷ []) ∙ ap (λ l. l ++ take len scope ∷ []) are ∙ ap (λ b. cond b (filter (may_hold t word) xs ++ take len scope ∷ []) (filter (may_hold t word) xs)) (sym is ∙ same)
    by false is = are ∙ ap (λ b. cond b (filter (may_hold t word) xs ++ take len scope ∷ []) (filter (may_hold t word) xs)) (sym is ∙ same)

-- the scopes before an index that are pushed
pub record ArePushed (t : Words) (word scope : List ℕ) (i : ℕ) (node : Option ℕ) (start : ℕ) (lens : List ℕ) : Type 0 where
  pub at : IsAt t scope i node start
  pub exact : map (λ n. take n scope) lens ≡ filter (may_hold t word) ([] ∷ fronts_from [] (take i scope))

pub pushed_first : (t : Words) (word scope old new : List ℕ) → old ≡ [] → PushesScope t (Some 0) word 0 old new → ArePushed t word scope 0 (Some 0) 0 new
pushed_first t word scope old new none pushes = record {
  at = at_start t scope;
  exact = pushed t word scope (Some 0) 0 old new [] refl (ap (map (λ n. take n scope)) none) pushes;
}

not_same : (a b : ℕ) → a ≢ b → (a == b) ≡ false
not_same a b other = by (a == b) refl
  where
    by : (c : Bool) → (a == b) ≡ c → c ≡ false
    by true is = absurd (other ((unsigned_Decides a b).0 is))
    by false is = refl

scope_at : (t : Words) (scope : List ℕ) (i : ℕ) (node : Option ℕ) → i < length scope → node ≡ node_of t (take i scope) → cond (i == 0) (Some 0) node ≡ scope_node t (take i scope)
scope_at t [] i node h e = absurd (omega (arith, h))
scope_at t (c ∷ cs) zero node h e = refl
scope_at t (c ∷ cs) (suc i) node h e = ap (λ b. cond b (Some 0) node) (not_same (suc i) 0 (λ same. omega (arith, same))) ∙ e

pub pushed_dot : (t : Words) (word scope : List ℕ) (i : ℕ) (node next : Option ℕ) (start begin : ℕ) (old new : List ℕ) → i < length scope → get_or scope i 0 ≡ 46 → next ≡ node_of t (take i scope) → IsAt t scope (i + 1) next begin → ArePushed t word scope i node start old → PushesScope t (cond (i == 0) (Some 0) next) word i old new → ArePushed t word scope (i + 1) next begin new
pushed_dot t word scope i node next start begin old new h dot is at are pushes = record {
  at = at;
  exact = pushed t word scope (cond (i == 0) (Some 0) next) i old new ([] ∷ fronts_from [] (take i scope)) (scope_at t scope i next h is) are.exact pushes ∙ ap (λ l. filter (may_hold t word) ([] ∷ l)) (sym (fronts_more scope i h ∙ ap (λ c. fronts_from [] (take i scope) ++ with_front (c == 46) (take i scope) []) dot));
}

pub pushed_letter : (t : Words) (word scope : List ℕ) (i : ℕ) (node next : Option ℕ) (start begin : ℕ) (old new : List ℕ) → i < length scope → (get_or scope i 0 == 46) ≡ false → IsAt t scope (i + 1) next begin → ArePushed t word scope i node start old → new ≡ old → ArePushed t word scope (i + 1) next begin new
pushed_letter t word scope i node next start begin old new h other at are same = record {
  at = at;
  exact = ap (map (λ n. take n scope)) same ∙ are.exact ∙ ap (λ l. filter (may_hold t word) ([] ∷ l)) (sym (fronts_more scope i h ∙ ap (λ b. fronts_from [] (take i scope) ++ with_front b (take i scope) []) other ∙ append-nil (fronts_from [] (take i scope))));
}

dot_or_not : (b : Bool) → (b ≡ true) ⊎ (b ≡ false)
dot_or_not true = inl refl
dot_or_not false = inr refl

-- a byte more of the scope
pub pushed_byte : (t : Words) (word scope : List ℕ) (i : ℕ) (node next : Option ℕ) (start begin : ℕ) (old new : List ℕ) → i < length scope → IsAt t scope (i + 1) next begin → (get_or scope i 0 ≡ 46 → next ≡ node_of t (take i scope)) → ArePushed t word scope i node start old → (get_or scope i 0 ≡ 46 → PushesScope t (cond (i == 0) (Some 0) next) word i old new) → ((get_or scope i 0 == 46) ≡ false → new ≡ old) → ArePushed t word scope (i + 1) next begin new
pushed_byte t word scope i node next start begin old new h at is are dot other = ⊎_elim
    (λ yes. let c = (unsigned_Decides (get_or scope i 0) 46).0 yes in pushed_dot t word scope i node next start begin old new h c (is c) at are (dot c))
    (λ no. pushed_letter t word scope i node next start begin old new h no at are (other no))
    (dot_or_not (get_or scope i 0 == 46))

-- the scope itself is last
pub pushed_all : (t : Words) (word scope : List ℕ) (i : ℕ) (node : Option ℕ) (start : ℕ) (old new : List ℕ) → length scope ≤ i → ArePushed t word scope i node start old → (0 < length scope → PushesScope t (child_if t node (drop start (take (length scope) scope))) word (length scope) old new) → (length scope ≡ 0 → new ≡ old) → map (λ n. take n scope) new ≡ filter (may_hold t word) (scopes_to scope)
pushed_all t word [] i node start old new h are some none = ap (map (λ n. take n [])) (none refl) ∙ are.exact ∙ ap (λ l. filter (may_hold t word) ([] ∷ fronts_from [] l)) (take_all i [] h)
pushed_all t word (c ∷ cs) i node start old new h are some none =
    let s = c ∷ cs in
    let whole : take i s ≡ s = take_all i s h in
    let full : take (length s) s ≡ s = take_all (length s) s (omega arith) in
    let is : child_if t node (drop start (take (length s) s)) ≡ node_of t s = ap (λ l. child_if t node (drop start l)) (full ∙ sym whole) ∙ at_node t s i node start are.at ∙ ap (node_of t) whole in
    pushed t word s (child_if t node (drop start (take (length s) s))) (length s) old new ([] ∷ fronts_from [] s) (is ∙ ap (scope_node t) (sym full)) (are.exact ∙ ap (λ l. filter (may_hold t word) ([] ∷ fronts_from [] l)) whole) (some (omega arith))
    ∙ ap (λ l. filter (may_hold t word) ([] ∷ (fronts_from [] s ++ l ∷ []))) full

-- WHAT IS KNOWN
first_cons : (c : ℕ) (cs : List ℕ) → first_part (c ∷ cs) ≡ cond (not (c == 46)) (c ∷ first_part cs) []
first_cons c cs = by (c == 46)
  where
    one : (n : ℕ) → 1 + n ≡ suc n
    one n = omega arith

    by : (b : Bool) → take (cond (not b) (1 + prefix_len (λ x. not (x == 46)) cs) 0) (c ∷ cs) ≡ cond (not b) (c ∷ first_part cs) []
    by true = refl
    by false = ap (λ n. take n (c ∷ cs)) (one (prefix_len (λ x. not (x == 46)) cs))

first_child : (t : Words) (n : ℕ) (w cs : List ℕ) → is_some (end_of t (reach t n w cs)) ≡ true → is_some (child_of t n (w ++ first_part cs)) ≡ true
first_child t n w [] h = subst (λ l. is_some (child_of t n l) ≡ true) (sym (append-nil w)) h
first_child t n w (c ∷ cs) h = subst (λ l. is_some (child_of t n (w ++ l)) ≡ true) (sym (first_cons c cs)) (by (first_child t n (w ++ c ∷ []) cs) (c == 46) h)
  where
    on : (o : Option ℕ) → is_some (end_of t (option_and_then (λ next. reach t next [] cs) o)) ≡ true → is_some o ≡ true
    on None h = h
    on (Some k) h = refl

    by : (is_some (end_of t (reach t n (w ++ c ∷ []) cs)) ≡ true → is_some (child_of t n (w ++ c ∷ [] ++ first_part cs)) ≡ true) → (b : Bool) → is_some (end_of t (cond b (option_and_then (λ next. reach t next [] cs) (child_of t n w)) (reach t n (w ++ c ∷ []) cs))) ≡ true → is_some (child_of t n (w ++ cond (not b) (c ∷ first_part cs) [])) ≡ true
    by letter true h = subst (λ l. is_some (child_of t n l) ≡ true) (sym (append-nil w)) (on (child_of t n w) h)
    by letter false h = subst (λ l. is_some (child_of t n l) ≡ true) (append_assoc w (c ∷ []) (first_part cs)) (letter h)

held_in : (t : Words) (scope name : List ℕ) → is_some (node_of t (in_scope scope name)) ≡ true → is_some (child_if t (scope_node t scope) (first_part name)) ≡ true
held_in t [] name h = first_child t 0 [] name h
held_in t (c ∷ cs) name h = by (reach t 0 [] (c ∷ cs)) (subst (λ o. is_some (end_of t o) ≡ true) (reach_append t 0 [] (c ∷ cs) (46 ∷ name)) h)
  where
    on : (k : Option ℕ) → is_some (end_of t (option_and_then (λ next. reach t next [] name) k)) ≡ true → is_some (child_if t k (first_part name)) ≡ true
    on None h = h
    on (Some k) h = first_child t k [] name h

    by : (o : Option (ℕ × List ℕ)) → is_some (end_of t (option_and_then (λ e. reach t e.0 e.1 (46 ∷ name)) o)) ≡ true → is_some (child_if t (end_of t o) (first_part name)) ≡ true
    by None h = h
    by (Some e) h = on (child_of t e.0 e.1) h

outer_there : (t : Words) (outer rest : List ℕ) → is_some (node_of t (outer ++ 46 ∷ rest)) ≡ true → is_some (node_of t outer) ≡ true
outer_there t outer rest h = by (reach t 0 [] outer) (subst (λ o. is_some (end_of t o) ≡ true) (reach_append t 0 [] outer (46 ∷ rest)) h)
  where
    on : (k : Option ℕ) → is_some (end_of t (option_and_then (λ next. reach t next [] rest) k)) ≡ true → is_some k ≡ true
    on None h = h
    on (Some k) h = refl

    by : (o : Option (ℕ × List ℕ)) → is_some (end_of t (option_and_then (λ e. reach t e.0 e.1 (46 ∷ rest)) o)) ≡ true → is_some (end_of t o) ≡ true
    by None h = h
    by (Some e) h = on (child_of t e.0 e.1) h

may_in : (t : Words) (scope name : List ℕ) → knows t (in_scope scope name) ≡ true → may_hold t (first_part name) scope ≡ true
may_in t scope name h = ⊎_elim
    (λ off. or_first (is_off t) (is_some (child_if t (scope_node t scope) (first_part name))) off)
    (λ there. or_second (is_off t) (is_some (child_if t (scope_node t scope) (first_part name))) (held_in t scope name there))
    (or_cases (is_off t) (is_some (node_of t (in_scope scope name))) h)

any_wider : {X : Type 0} (t u : X → Bool) → ((x : X) → t x ≡ true → u x ≡ true) → (xs : List X) → list_any t xs ≡ true → list_any u xs ≡ true
any_wider t u wider xs h = let at = any_there t xs h in there_any u xs at.0 at.1 (wider at.0 at.2)

package_taken : (ds : List Declaration) (sees : Seen) (name : List ℕ) → is_package_name ds sees name ≡ true → is_taken ds every_file name ≡ true
package_taken ds sees name h =
    or_first (is_package_name ds every_file name) (list_any (λ d. every_file d.file && has_name name d) ds)
    (any_wider (λ d. sees d.file && makes_package name d.item) (λ d. every_file d.file && makes_package name d.item) (λ d is. (and_cases (sees d.file) (makes_package name d.item) is).1) ds h)

declared_taken : (ds : List Declaration) (name : List ℕ) (t : Declaration → Bool) → ((d : Declaration) → t d ≡ true → has_name name d ≡ true) → list_any t ds ≡ true → is_taken ds every_file name ≡ true
declared_taken ds name t named h =
    or_second (is_package_name ds every_file name) (list_any (λ d. every_file d.file && has_name name d) ds)
    (any_wider t (λ d. every_file d.file && has_name name d) named ds h)

pub seen_taken : (ds : List Declaration) (sees : Seen) (name : List ℕ) → is_taken ds sees name ≡ true → is_taken ds every_file name ≡ true
seen_taken ds sees name h = ⊎_elim
    (package_taken ds sees name)
    (declared_taken ds name (λ d. sees d.file && has_name name d) (λ d is. (and_cases (sees d.file) (has_name name d) is).1))
    (or_cases (is_package_name ds sees name) (list_any (λ d. sees d.file && has_name name d) ds) h)

holder_taken : (ds : List Declaration) (sees : Seen) (name : List ℕ) → can_hold ds sees name ≡ true → is_taken ds every_file name ≡ true
holder_taken ds sees name h = ⊎_elim
    (package_taken ds sees name)
    (declared_taken ds name (λ d. holds_names d.item && sees d.file && has_name name d) (λ d is. (and_cases (holds_names d.item && sees d.file) (has_name name d) is).1))
    (or_cases (is_package_name ds sees name) (list_any (λ d. holds_names d.item && sees d.file && has_name name d) ds) h)

type_taken : (ds : List Declaration) (sees : Seen) (name : List ℕ) → is_some (type_named ds sees name) ≡ true → is_taken ds every_file name ≡ true
type_taken ds sees name h =
    let t = λ (d : Declaration). is_type d.item && sees d.file && has_name name d in
    declared_taken ds name t (λ d is. (and_cases (is_type d.item && sees d.file) (has_name name d) is).1)
    (any_position t 0 ds ∙ ap is_some (position_from-first t ds) ∙ h)

first_twice : (name : List ℕ) → first_part (first_part name) ≡ first_part name
first_twice [] = refl
first_twice (c ∷ cs) = ap first_part (first_cons c cs) ∙ by (first_twice cs) (c == 46) refl ∙ sym (first_cons c cs)
  where
    by : first_part (first_part cs) ≡ first_part cs → (b : Bool) → (c == 46) ≡ b → first_part (cond (not b) (c ∷ first_part cs) []) ≡ cond (not b) (c ∷ first_part cs) []
    by onward true is = refl
    by onward false is = first_cons c (first_part cs) ∙ ap (λ b. cond (not b) (c ∷ first_part (first_part cs)) []) is ∙ ap (λ l. c ∷ l) onward

-- a scope that decides may hold the name
pub decides_may : (ds : List Declaration) (sees : Seen) (t : Words) (name : List ℕ) → AreWords ds t → (scope : List ℕ) → decides ds sees name scope ≡ true → may_hold t (first_part name) scope ≡ true
decides_may ds sees t name are scope h = by (has_dot name) h
  where
    by : (b : Bool) → cond b (can_hold ds sees (in_scope scope (first_part name))) (is_some (type_named ds sees (in_scope scope name))) ≡ true → may_hold t (first_part name) scope ≡ true
    by true h = subst (λ w. may_hold t w scope ≡ true) (first_twice name) (may_in t scope (first_part name) (are (in_scope scope (first_part name)) (holder_taken ds sees (in_scope scope (first_part name)) h)))
    by false h = may_in t scope name (are (in_scope scope name) (type_taken ds sees (in_scope scope name) h))

-- a scope in which the name is taken may hold it
pub taken_may : (ds : List Declaration) (sees : Seen) (t : Words) (name : List ℕ) → AreWords ds t → (scope : List ℕ) → is_taken ds sees (in_scope scope name) ≡ true → may_hold t (first_part name) scope ≡ true
taken_may ds sees t name are scope h = may_in t scope name (are (in_scope scope name) (seen_taken ds sees (in_scope scope name) h))

-- THE TREE OF A ROW
fronts_split : (name read cs : List ℕ) → list_any (bytes_eq name) (fronts_from read cs) ≡ true → (rest : List ℕ) × (read ++ cs ≡ name ++ 46 ∷ rest)
fronts_split name read [] h = absurd (false≢true h)
fronts_split name read (c ∷ cs) h = by (fronts_split name (read ++ c ∷ []) cs) (c == 46) refl h
  where
    Onward : Type 0
    Onward = list_any (bytes_eq name) (fronts_from (read ++ c ∷ []) cs) ≡ true → (rest : List ℕ) × (read ++ c ∷ [] ++ cs ≡ name ++ 46 ∷ rest)

    moved : (rest : List ℕ) × (read ++ c ∷ [] ++ cs ≡ name ++ 46 ∷ rest) → (rest : List ℕ) × (read ++ c ∷ cs ≡ name ++ 46 ∷ rest)
    moved at = (at.0, sym (append_assoc read (c ∷ []) cs) ∙ at.1)

    by : Onward → (b : Bool) → (c == 46) ≡ b → list_any (bytes_eq name) (with_front b read (fronts_from (read ++ c ∷ []) cs)) ≡ true → (rest : List ℕ) × (read ++ c ∷ cs ≡ name ++ 46 ∷ rest)
    by onward true dot h = ⊎_elim
        (λ same. (cs, ap (λ d. read ++ d ∷ cs) ((unsigned_Decides c 46).0 dot) ∙ ap (λ l. l ++ 46 ∷ cs) (sym ((bytes_eq-Decides name read).0 same))))
        (λ later. moved (onward later))
        (or_cases (bytes_eq name read) (list_any (bytes_eq name) (fronts_from (read ++ c ∷ []) cs)) h)
    by onward false dot h = moved (onward h)

package_there : (t : Words) (p name : List ℕ) → is_some (node_of t p) ≡ true → list_any (bytes_eq name) (packages_of p) ≡ true → is_some (node_of t name) ≡ true
package_there t [] name there h = absurd (false≢true h)
package_there t (c ∷ cs) name there h = ⊎_elim
    (λ same. subst (λ l. is_some (node_of t l) ≡ true) (sym ((bytes_eq-Decides name (c ∷ cs)).0 same)) there)
    (λ read. let at = fronts_split name [] (c ∷ cs) read in outer_there t name at.0 (subst (λ l. is_some (node_of t l) ≡ true) at.1 there))
    (or_cases (bytes_eq name (c ∷ cs)) (list_any (bytes_eq name) (fronts_from [] (c ∷ cs))) h)

no_file : (i : Item) → is_named i ≡ true → file_in i ≡ None
no_file (a_file f) h = absurd (false≢true h)
no_file (a_message head inner) h = refl
no_file (a_field head i f) h = refl
no_file (a_oneof head i name) h = refl
no_file (an_enum e) h = refl
no_file (a_value e i v) h = refl
no_file (a_service s) h = refl
no_file (a_method m) h = refl

made_there : (t : Words) (d : Declaration) (name : List ℕ) (i : Item) → is_some (node_of t (named_by (file_in i) d)) ≡ true → makes_package name i ≡ true → is_some (node_of t name) ≡ true
made_there t d name (a_file f) there h = package_there t f.package_name name there h
made_there t d name (a_message head inner) there h = absurd (false≢true h)
made_there t d name (a_field head i f) there h = absurd (false≢true h)
made_there t d name (a_oneof head i o) there h = absurd (false≢true h)
made_there t d name (an_enum e) there h = absurd (false≢true h)
made_there t d name (a_value e i v) there h = absurd (false≢true h)
made_there t d name (a_service s) there h = absurd (false≢true h)
made_there t d name (a_method m) there h = absurd (false≢true h)

pub words_off : (ds : List Declaration) (t : Words) → t.inside.items ≡ [] → AreWords ds t
words_off ds t none name h = or_first (is_off t) (is_some (node_of t name)) (ap (λ l. length l == 0) none)

-- all that is written was added
abbrev pub AreThere : List Declaration → Words → Type 0
AreThere ds t = (d : Declaration) → Contains ds d → is_some (node_of t (written_name d)) ≡ true

pub words_are : (ds : List Declaration) (t : Words) → AreThere ds t → AreWords ds t
words_are ds t there name h = or_second (is_off t) (is_some (node_of t name)) (⊎_elim
    (λ made. let at = any_there (λ d. every_file d.file && makes_package name d.item) ds made in made_there t at.0 name at.0.item (there at.0 at.1) at.2)
    (λ declared. let at = any_there (λ d. every_file d.file && has_name name d) ds declared in
    let both = and_cases (is_named at.0.item) (bytes_eq name (full_name at.0)) at.2 in
    subst (λ l. is_some (node_of t l) ≡ true) (ap (λ o. named_by o at.0) (no_file at.0.item both.0) ∙ sym ((bytes_eq-Decides name (full_name at.0)).0 both.1)) (there at.0 at.1))
    (or_cases (is_package_name ds every_file name) (list_any (λ d. every_file d.file && has_name name d) ds) h))

name_kept : (old new : Words) (name : List ℕ) → Keeps old new → is_some (node_of old name) ≡ true → is_some (node_of new name) ≡ true
name_kept old new name kept h = by (reach old 0 [] name) refl h
  where
    on : (e : ℕ × List ℕ) (o : Option ℕ) → child_of old e.0 e.1 ≡ o → is_some o ≡ true → is_some (child_of new e.0 e.1) ≡ true
    on e None is h = absurd (false≢true h)
    on e (Some k) is h = ap is_some (kept.children e.0 k e.1 is)

    by : (o : Option (ℕ × List ℕ)) → reach old 0 [] name ≡ o → is_some (end_of old o) ≡ true → is_some (node_of new name) ≡ true
    by None is h = absurd (false≢true h)
    by (Some e) is h = subst (λ o. is_some (end_of new o) ≡ true) (sym (reach_kept old new kept 0 [] name e is)) (on e (child_of old e.0 e.1) refl h)

pub there_more : (ds : List Declaration) (d : Declaration) (old new : Words) → AreThere ds old → AddsName (written_name d) old new → AreThere (ds ++ d ∷ []) new
there_more ds d old new there adds e among = ⊎_elim
    (λ before. name_kept old new (written_name e) adds.kept (there e before))
    (λ last. subst (λ x. is_some (node_of new (written_name x)) ≡ true) (Contains-one d e last) adds.there)
    (Contains-append_cases ds (d ∷ []) e among)

-- FOR CALLERS
pub not_dot : (c : ℕ) → c ≢ 46 → (c == 46) ≡ false
not_dot c other = not_same c 46 other

pub root_tree : (t : Words) (e : Firsts) → ((w : List ℕ) → first_at e w ≡ None) → t.inside.items ≡ e ∷ [] → IsTree t
root_tree t e none items = record { within = λ node child w h. absurd (none-some child (sym (empty node w) ∙ h)) }
  where
    nothing : (n : ℕ) (w : List ℕ) → child_in (slice_get [] n) w ≡ None
    nothing zero w = refl
    nothing (suc n) w = refl

    at : (n : ℕ) (w : List ℕ) → child_in (slice_get (e ∷ []) n) w ≡ None
    at zero w = none w
    at (suc n) w = nothing n w

    empty : (n : ℕ) (w : List ℕ) → child_of t n w ≡ None
    empty n w = ap (λ l. child_in (slice_get l n) w) items ∙ at n w

pub none_there : (t : Words) → AreThere [] t
none_there t d among = Contains-none d among

pub none_found : (t : List ℕ → Bool) (scope lens : List ℕ) → length lens ≡ 0 → found_last t (map (λ n. take n scope) lens) ≡ None
none_found t scope [] h = refl
none_found t scope (n ∷ lens) h = absurd (omega (arith, h))

pub none_left : (v : Vec ℕ Global) → vec_len v ≡ 0 → length v.items ≡ 0
none_left v h = search rules
