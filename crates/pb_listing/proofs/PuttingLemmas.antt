-- A text that is put part by part, of things that stand no deeper than lines may.
use Rattle.std.proofs.Common.{◌≡◌, ℕ, ◌+◌, ◌≤◌, max, List, [], ◌++◌, Option, refl, sym, ap, ◌∙◌, subst, append_assoc, append-nil, arith}
use Rattle.std.specs.Prelude.{true}
use Rattle.pb_output.specs.declared.sink.Sink.{Sink}
use Rattle.pb_output.specs.Sink.{Puts}
use Rattle.pb_output.proofs.SinkLemmas.{puts_lost, puts_none, puts_then}

-- of a whole text a front was put and the rest is left, of what stands at a level with so many levels below
pub record IsLeft {D : Type 0} (written : D → Option (List ℕ)) (failures : D → ℕ) (old new : D) (a b : Sink) (level below : ℕ) (rest whole : List ℕ) : Type 0 where
  pub within : level + below ≤ 101
  pub front : List ℕ
  pub joined : front ++ rest ≡ whole
  pub put : Puts written failures old new a b front

module _ {D : Type 0} {written : D → Option (List ℕ)} {failures : D → ℕ} where
  pub left_start : {d : D} {a : Sink} (level below : ℕ) (whole : List ℕ) → level + below ≤ 101 → IsLeft written failures d d a a level below whole whole
  left_start level below whole within = record { within = within; front = []; joined = refl; put = puts_none }

  -- a part is put
  pub left_more :
      {d0 d1 d2 : D} {a b c : Sink} {level below : ℕ} {rest whole : List ℕ} (part_below rest_below : ℕ) (part after : List ℕ)
      → IsLeft written failures d0 d1 a b level below rest whole → below ≡ max part_below rest_below → rest ≡ part ++ after
      → (level + part_below ≤ 101 → Puts written failures d1 d2 b c part) → IsLeft written failures d0 d2 a c level rest_below after whole
  left_more {level = level} part_below rest_below part after h deep e put =
      let within = h.within in record {
        within = omega (arith, within, deep);
        front = h.front ++ part;
        joined = append_assoc h.front part after ∙ ap (λ (l : List ℕ). h.front ++ l) (sym e) ∙ h.joined;
        put = puts_then h.put (put (omega (arith, within, deep)));
      }

  -- the device failed before the rest
  pub left_lost :
      {d0 d1 : D} {a b : Sink} {level below : ℕ} {rest whole : List ℕ} → IsLeft written failures d0 d1 a b level below rest whole → b.failed ≡ true
      → Puts written failures d0 d1 a b whole
  left_lost {d0} {d1} {a} {b} h broken = subst (Puts written failures d0 d1 a b) h.joined (puts_then h.put (puts_lost broken))

  -- nothing is left
  pub left_none :
      {d0 d1 : D} {a b : Sink} {level below : ℕ} {rest whole : List ℕ} → IsLeft written failures d0 d1 a b level below rest whole → rest ≡ []
      → Puts written failures d0 d1 a b whole
  left_none {d0} {d1} {a} {b} h none = subst (Puts written failures d0 d1 a b) (sym (append-nil h.front) ∙ ap (λ (l : List ℕ). h.front ++ l) (sym none) ∙ h.joined) h.put
