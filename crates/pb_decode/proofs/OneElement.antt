-- Where the elements of a list end, and one that is not whole begins, is one place.
use Rattle.std.proofs.Common.{◌≡◌, ◌≢◌, ℕ, zero, suc, ◌<◌, ◌≤◌, List, [], ◌++◌, length, sym, ap, ◌∙◌, subst, arith, Option, Some, None, refl}
use Rattle.std.specs.Prelude.{MatchOption}
use Rattle.pb_wire.specs.declared.fault.Cause.TheVariants.{Truncated, PastEnd, VarintTooLong}
use Rattle.pb_wire.specs.Fault.{Fault, fault, Place, Moves, window, VarintFault, FixedFault, input_end}
use Rattle.pb_wire.specs.Schema.{Element, a_varint, four_bytes, eight_bytes}
use Rattle.pb_wire.specs.Sound.{IsElement, varint_element, four_element, eight_element, AreElements, no_elements, element}
use Rattle.pb_wire.specs.Grammar.{ElementFault}
use Rattle.pb_wire.proofs.Unique.{same_varint, same_front}
use Rattle.pb_wire.proofs.Places.{moves_from, same_place_by, same_place, moves_split, moved_nothing}
use Rattle.pb_wire.proofs.Tokens.{varint_not_both, fixed_not_both}

same_element : {e : Element} (a b x y : List ℕ) → IsElement e a → IsElement e b → a ++ x ≡ b ++ y → a ≡ b
same_element a b x y (varint_element v) (varint_element w) e = (same_varint a b x y v w e).0
same_element a b x y (four_element n) (four_element m) e = (same_front a b x y (n ∙ sym m) e).0
same_element a b x y (eight_element n) (eight_element m) e = (same_front a b x y (n ∙ sym m) e).0

not_whole : (e : Element) (p q : Place) (f : Fault) (first : List ℕ) → ElementFault e p f → IsElement e first → Moves p first q → ⊥
not_whole a_varint p q f first h (varint_element v) m = varint_not_both h (first, v, m)
not_whole four_bytes p q f first h (four_element n) m = fixed_not_both h (first, n, m)
not_whole eight_bytes p q f first h (eight_element n) m = fixed_not_both h (first, n, m)

pub one_front :
    (e : Element) {p q r : Place} (f g : Fault) (a b : List ℕ) → AreElements e a → AreElements e b → Moves p a q → Moves p b r → ElementFault e q f → ElementFault e r g → q ≡ r
one_front e f g a b no_elements no_elements m n h k = same_place a m n
one_front e {p = p} {q = q} {r = r} f g a b no_elements (element {first = first} {others = others} i os is) m n h k =
    let parts = moves_split {p = p} {r = r} first others (rw is at n) in
    absurd (not_whole e q parts.0 f first h i (moves_from first (moved_nothing m) parts.1))
one_front e {p = p} {q = q} {r = r} f g a b (element {first = first} {others = others} i os is) no_elements m n h k =
    let parts = moves_split {p = p} {r = q} first others (rw is at m) in
    absurd (not_whole e r parts.0 g first k i (moves_from first (moved_nothing n) parts.1))
one_front e {p = p} {q = q} {r = r} f g a b (element {first = x} {others = xs} i os is) (element {first = y} {others = ys} j us js) m n h k =
    let one = moves_split {p = p} {r = q} x xs (rw is at m) in
    let two = moves_split {p = p} {r = r} y ys (rw js at n) in
    let same : x ≡ y = same_element x y one.0.rest two.0.rest i j (sym one.1.given ∙ two.1.given) in
    let mid : one.0 ≡ two.0 = same_place_by x y same one.1 two.1 in
    one_front e {p = one.0} f g xs ys os us one.2 (moves_from ys (sym mid) two.2) h k

-- NOT AT A KNOWN END: what is cut short has bytes before it
window_none : (at : ℕ) (known : Option ℕ) (rest : List ℕ) → known ≡ Some 0 → length (window (record { at = at; known = known; rest = rest })) ≡ 0
window_none at None rest is = absurd (cc)
window_none at (Some zero) rest is = refl
window_none at (Some (suc n)) rest is = absurd (cc)

pub varint_open : (u : Place) → VarintFault u (fault (input_end u) [] Truncated) → u.known ≢ Some 0
varint_open u (VarintFault.too_long size high is) = let e : Truncated ≡ VarintTooLong = ap (λ (f : Fault). f.cause) is in absurd (cc)
varint_open u (VarintFault.past_end size high known is) = let e : Truncated ≡ PastEnd = ap (λ (f : Fault). f.cause) is in absurd (cc)
varint_open u (VarintFault.cut_short size high open_end is) = λ end. open_end (end ∙ ap (λ (n : ℕ). Some n) (sym (window_none u.at u.known u.rest end)))

fixed_open : (n : ℕ) (u : Place) → 0 < n → FixedFault n u (fault (input_end u) [] Truncated) → u.known ≢ Some 0
fixed_open n u some (FixedFault.past_end beyond is) = let e : Truncated ≡ PastEnd = ap (λ (f : Fault). f.cause) is in absurd (cc)
fixed_open n u some (FixedFault.cut_short within short is) = λ end. let low : n ≤ 0 = subst (λ (z : Option ℕ). MatchOption z (Unit {0}) (λ (e : ℕ). n ≤ e)) end within in absurd (omega (arith, low, some))

pub element_open : (e : Element) (u : Place) → ElementFault e u (fault (input_end u) [] Truncated) → u.known ≢ Some 0
element_open a_varint u h = varint_open u h
element_open four_bytes u h = fixed_open 4 u (omega arith) h
element_open eight_bytes u h = fixed_open 8 u (omega arith) h
