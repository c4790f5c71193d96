-- Lists laid one after the other: one more leaves those before it as they are.
use Rattle.std.proofs.Common.{◌≡◌, ℕ, zero, suc, ◌+◌, ◌-◌, ◌≤◌, ◌<◌, List, [], ◌∷◌, ◌++◌, length, take, drop, get_or, refl, ap, sym, subst, ◌∙◌, arith, length-append, append-nil, append_assoc, length-drop}
use Rattle.std.specs.List.{AllByRecursion}
use Rattle.std.proofs.lemmas.List.{take_all, take-append-le, drop-append-le, drop_all, take_more}
use Rattle.pb_graphs.specs.declared.flat.FlatGraph.{FlatGraph}
use Rattle.pb_graphs.specs.Reach.{next_of}
use Rattle.pb_graphs.specs.Flat.{part_of, parts_of, behind_parts, open_list, IsLaid, Grows}

-- these places lie in a list of such a length
abbrev AreWithin : ℕ → List ℕ → Type 0
AreWithin size ends = AllByRecursion (λ end. end ≤ size) ends

-- MORE TARGETS
part_kept : (targets more : List ℕ) (start end : ℕ) → start ≤ length targets → end ≤ length targets → part_of (targets ++ more) start end ≡ part_of targets start end
part_kept targets more start end begins ends =
    ap (take (end - start)) (drop-append-le start targets more begins)
    ∙ take-append-le (end - start) (drop start targets) more (let e = length-drop start targets in omega (arith, e, begins, ends))

parts_kept : (targets more : List ℕ) (start : ℕ) (ends : List ℕ) → start ≤ length targets → AreWithin (length targets) ends → parts_of (targets ++ more) start ends ≡ parts_of targets start ends
parts_kept targets more start [] begins within = refl
parts_kept targets more start (end ∷ ends) begins within =
    ap (λ l. l ∷ parts_of (targets ++ more) end ends) (part_kept targets more start end begins within.0)
    ∙ ap (λ l. part_of targets start end ∷ l) (parts_kept targets more end ends within.0 within.1)

behind_more : (targets more : List ℕ) (start : ℕ) (ends : List ℕ) → start ≤ length targets → AreWithin (length targets) ends → behind_parts (targets ++ more) start ends ≡ behind_parts targets start ends ++ more
behind_more targets more start [] begins within = drop-append-le start targets more begins
behind_more targets more start (end ∷ ends) begins within = behind_more targets more end ends within.0 within.1

within_more : (size more : ℕ) (ends : List ℕ) → size ≤ more → AreWithin size ends → AreWithin more ends
within_more size more [] less within = tt
within_more size more (end ∷ ends) less within = (let w = within.0 in omega (arith, less, w), within_more size more ends less within.1)

pub grows : (old new : FlatGraph) (more : List ℕ) → IsLaid old → new.targets.items ≡ old.targets.items ++ more → new.ends.items ≡ old.ends.items → Grows more old new
grows old new more laid put same = record {
  lists = ap (λ t. parts_of t 0 new.ends.items) put ∙ ap (parts_of (old.targets.items ++ more) 0) same ∙ parts_kept old.targets.items more 0 old.ends.items (omega arith) laid;
  grown = ap (λ t. behind_parts t 0 new.ends.items) put ∙ ap (behind_parts (old.targets.items ++ more) 0) same ∙ behind_more old.targets.items more 0 old.ends.items (omega arith) laid;
  laid = λ was. subst (AreWithin (length new.targets.items)) (sym same) (within_more (length old.targets.items) (length new.targets.items) old.ends.items (omega (arith, ap length put, length-append old.targets.items more)) was);
}

pub grows_none : (f : FlatGraph) → Grows [] f f
grows_none f = record { lists = refl; grown = sym (append-nil (open_list f)); laid = λ was. was }

pub grows_append : (xs ys : List ℕ) (a b c : FlatGraph) → Grows xs a b → Grows ys b c → Grows (xs ++ ys) a c
grows_append xs ys a b c first then = record {
  lists = then.lists ∙ first.lists;
  grown = then.grown ∙ ap (λ l. l ++ ys) first.grown ∙ append_assoc (open_list a) xs ys;
  laid = λ was. then.laid (first.laid was);
}

-- ONE LIST MORE
whole : (targets : List ℕ) (start : ℕ) → part_of targets start (length targets) ≡ drop start targets
whole targets start = take_all (length targets - start) (drop start targets) (let e = length-drop start targets in omega (arith, e))

pub parts_end : (targets : List ℕ) (start : ℕ) (ends : List ℕ) → parts_of targets start (ends ++ length targets ∷ []) ≡ parts_of targets start ends ++ behind_parts targets start ends ∷ []
parts_end targets start [] = ap (λ l. l ∷ []) (whole targets start)
parts_end targets start (end ∷ ends) = ap (λ l. part_of targets start end ∷ l) (parts_end targets end ends)

pub none_behind : (targets : List ℕ) (start : ℕ) (ends : List ℕ) → behind_parts targets start (ends ++ length targets ∷ []) ≡ []
none_behind targets start [] = drop_all (length targets) targets (omega arith)
none_behind targets start (end ∷ ends) = none_behind targets end ends

pub within_end : (size : ℕ) (ends : List ℕ) → AreWithin size ends → AreWithin size (ends ++ size ∷ [])
within_end size [] within = (omega arith, tt)
within_end size (end ∷ ends) within = (within.0, within_end size ends within.1)

-- THE LIST AT AN INDEX
pub part_at : (targets : List ℕ) (start : ℕ) (ends : List ℕ) (i : ℕ) → i < length ends → next_of (parts_of targets start ends) i ≡ part_of targets (get_or (start ∷ ends) i 0) (get_or ends i 0)
part_at targets start [] i h = absurd (omega (arith, h))
part_at targets start (end ∷ ends) zero h = refl
part_at targets start (end ∷ ends) (suc i) h = part_at targets end ends i (omega (arith, h))

pub none_past : (targets : List ℕ) (start : ℕ) (ends : List ℕ) (i : ℕ) → length ends ≤ i → next_of (parts_of targets start ends) i ≡ []
none_past targets start [] i h = refl
none_past targets start (end ∷ ends) zero h = absurd (omega (arith, h))
none_past targets start (end ∷ ends) (suc i) h = none_past targets end ends i (omega (arith, h))

pub as_many : (targets : List ℕ) (start : ℕ) (ends : List ℕ) → length (parts_of targets start ends) ≡ length ends
as_many targets start [] = refl
as_many targets start (end ∷ ends) = let e = as_many targets end ends in omega (arith, e)

list_at : (lists : List (List ℕ)) (i : ℕ) → next_of lists i ≡ get_or lists i []
list_at [] i = refl
list_at (l ∷ ls) zero = refl
list_at (l ∷ ls) (suc i) = list_at ls i

-- the first lists and the next one are one more of the first
pub lists_next : (lists : List (List ℕ)) (i : ℕ) → i < length lists → take i lists ++ next_of lists i ∷ [] ≡ take (i + 1) lists
lists_next lists i h = ap (λ l. take i lists ++ l ∷ []) (list_at lists i) ∙ sym (take_more lists i [] h)
