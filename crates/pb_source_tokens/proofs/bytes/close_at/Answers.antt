use Rattle.std.proofs.Common.{◌≡◌, ℕ, zero, suc, ◌+◌, ◌-◌, ◌<◌, ◌≤◌, List, length, take, get_or, false, subst, arith}
use Rattle.pb_source_tokens.specs.Tokens.{has_close}
use Rattle.pb_source_tokens.proofs.CommentLemmas.{no_close_more}
use Rattle.pb_source_tokens.proofs.bytes.close_at.Goals as goal
use Rattle.pb_source_tokens.proofs.bytes.close_at.Goals.{else-bytes-i-eq42-via-then-bytes-i-eq42+else-bytes-i-eq47, else-bytes-i-eq42-via-else-bytes-i-eq42}

back : (j : ℕ) → j ≡ suc j - 1
back j = omega arith

step : (bs : List ℕ) (i : ℕ) → 1 ≤ i → i < length bs → has_close (take i bs) ≡ false → (get_or bs (i - 1) 0 ≡ 42 → get_or bs i 0 ≡ 47 → ⊥) → has_close (take (i + 1) bs) ≡ false
step bs zero l k h f = absurd (omega arith)
step bs (suc j) l k h f = rw (Rattle.std.proofs.Common.add-one) (no_close_more bs j k h (λ x y. f (subst (λ m. get_or bs m 0 ≡ 42) (back j) x) y))

pub loop-i-preserved : goal.loop-i-preserved
loop-i-preserved c =
    step c.args.bytes.now c.loop-i.i c.loop-i.auto.i c.loop-i-test.true c.loop-i.invariant
    (elim c.else-bytes-i-eq42.branch [
      | else-bytes-i-eq42-via-then-bytes-i-eq42+else-bytes-i-eq47 w ↦ λ x y. w.if-bytes-i-eq47.false y
      | else-bytes-i-eq42-via-else-bytes-i-eq42 w ↦ λ x y. w.if-bytes-i-eq42.false x
    ])
