use Rattle.std.proofs.Common.{◌≡◌, ℤ, String, Global, true, of_z, rules, string_bytes, subst, to_z, w32, arith}
use Rattle.pb_schema.specs.Closed.{declares}
use Rattle.pb_schema.proofs.LookupLemmas.{get_viewed}
use Rattle.pb_compat.proofs.LostValueLemmas.{listed_declared}
use Rattle.pb_compat.proofs.samples.number_not_held.Goals as goal

pub returns-then-not-holds_number-clause-declared : goal.returns-then-not-holds_number-clause-declared
returns-then-not-holds_number-clause-declared c =
    let pool = c.args.pool.now in
    let e = c.args.entry.0 in
    let x = c.value-item.result in
    let same : x.1 ≡ to_z w32 (of_z w32 x.1) = search rules in
    let at = get_viewed (λ (v : String Global × ℤ). (string_bytes v.0, v.1)) c.values_of-values.result.now c.loop-value.value-index x (omega (arith, c.loop-value-test.true)) c.value-item.is in
    subst (λ (z : ℤ). declares pool e z ≡ true) same (listed_declared pool e _ c.loop-value.value-index (string_bytes x.0, x.1) c.values_of-values.ensures.values at)
