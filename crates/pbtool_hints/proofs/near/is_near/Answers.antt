use Rattle.std.proofs.Common.{ℕ, map, subst, IsTrue}
use Rattle.std.specs.Char.{to_ascii_lowercase}
use Rattle.pbtool_hints.specs.Near.{DifferInOnePlace}
use Rattle.pbtool_hints.proofs.NearLemmas.{Share, near_by, shared}
use Rattle.pbtool_hints.proofs.near.is_near.Goals as goal

pub returns : goal.returns
returns c =
    let h : Share (map to_ascii_lowercase c.args.wanted.now) (map to_ascii_lowercase c.args.name.now) c.shared_prefix-before.result c.shared_suffix-after.result =
    shared _ _ _ _ c.shared_suffix-after.ensures.within_left c.shared_suffix-after.ensures.within_right
    c.shared_prefix-before.ensures.alike c.shared_prefix-before.ensures.longest
    c.shared_suffix-after.ensures.alike c.shared_suffix-after.ensures.longest in
    let by = near_by c.most_wrong.result c.args.wanted.now c.args.name.now c.shared_prefix-before.result c.shared_suffix-after.result h in
    let few = c.are_few.ensures in
    let Differ : ℕ → Type 0 = λ m. DifferInOnePlace m (map to_ascii_lowercase c.args.wanted.now) (map to_ascii_lowercase c.args.name.now) in
    subst (λ (m : ℕ). (IsTrue c.are_few.result → Differ m) × (Differ m → IsTrue c.are_few.result)) c.most_wrong.ensures
    ((λ t. by.0 (c.are_few.ensures.0 t)), (λ d. c.are_few.ensures.1 (by.1 d)))
