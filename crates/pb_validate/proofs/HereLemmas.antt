-- Lengths, payloads and elements at an index of the bytes.
use Rattle.std.proofs.Common.{◌≡◌, ℕ, ◌+◌, ◌-◌, ◌≤◌, List, length, take, drop, refl, sym, ap, subst, ◌∙◌, arith, length-drop, Option, Some, ◌++◌, append_assoc}
use Rattle.std.proofs.lemmas.List.{length-take-le, append-nil}
use Rattle.pb_wire.specs.Record.{len}
use Rattle.pb_wire.specs.Spell.{Body}
use Rattle.pb_wire.specs.Fault.{Place, Leads, Moves, HasLength}
use Rattle.pb_wire.specs.Scan.{here, given_at}
use Rattle.pb_wire.specs.Grammar.{payload_at}
use Rattle.pb_wire.specs.Schema.{Element}
use Rattle.pb_wire.specs.Sound.{IsElement, AreElements, no_elements, element}
use Rattle.pb_wire.proofs.HereLemmas.{here_passed}
use Rattle.pb_wire.proofs.ScanLemmas.{moves_passed}
use Rattle.pb_wire.proofs.ReadingLemmas.{moves_both}

-- ---- payloads

-- a length and its bytes
pub payload_leads :
    (b : List ℕ) (at start size : ℕ) (to : Option ℕ) → HasLength (here b at to) size (here b start to) → start + size ≤ length b
    → (k : ℕ) → Leads (Body k (len (take size (drop start b)))) (here b at to) (here b (start + size) to)
payload_leads b at start size to h within k =
    let given : size ≤ length (drop start b) = let e = length-drop start b in omega (arith, e, within) in
    let n : length (take size (drop start b)) ≡ size = length-take-le size (drop start b) given in
    let read = h.length_is in
    let moves = subst (λ (q : Place). Moves (here b start to) (take size (drop start b)) q) (here_passed b start size to)
    (moves_passed (here b start to) size given h.within) in
    (read.0 ++ take size (drop start b), (rw n h.small, read.0, rw n read.1, refl), moves_both read.0 (take size (drop start b)) read.2 moves)

pub payload_between :
    (b : List ℕ) (at start end : ℕ) (to : Option ℕ) → HasLength (here b at to) (end - start) (here b start to) → start ≤ end → end ≤ length b
    → (k : ℕ) → Leads (Body k (len (take (end - start) (drop start b)))) (here b at to) (here b end to)
payload_between b at start end to h rises within k =
    let e : start + (end - start) ≡ end = omega arith in
    subst (λ (n : ℕ). Leads (Body k (len (take (end - start) (drop start b)))) (here b at to) (here b n to)) e
    (payload_leads b at start (end - start) to h (omega arith) k)

-- the place of a payload, whose end is known
pub payload_here : (b : List ℕ) (start size : ℕ) (to : Option ℕ) → payload_at (here b start to) size ≡ here b start (Some (start + size))
payload_here b start size to =
    let e : size ≡ start + size - start = omega arith in ap (λ (n : ℕ). given_at start (Some n) (drop start b)) e

-- ---- elements

pub push_element : {e : Element} (front first : List ℕ) → AreElements e front → IsElement e first → AreElements e (front ++ first)
push_element front first no_elements s = element s no_elements (sym (append-nil first))
push_element front first (element {first = a} {others} x xs is) s =
    element x (push_element others first xs s) (ap (λ (z : List ℕ). z ++ first) is ∙ append_assoc a others first)

pub elements_more :
    {e : Element} {p q r : Place} (front : List ℕ) → AreElements e front → Moves p front q → Leads (IsElement e) q r
    → (more : List ℕ) × AreElements e more × Moves p more r
elements_more front whole moves next =
    (front ++ next.0, push_element front next.0 whole next.1, moves_both front next.0 moves next.2)
