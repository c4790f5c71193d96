use Rattle.std.proofs.Common.{◌≡◌, ◌≤◌, List, ℕ, ℤ, Some, length, take, drop, ap, sym, ◌∙◌, arith, ◌-◌, rules, to_z, of_z, w32}
use Rattle.std.proofs.lemmas.List.{take_rest}
use Rattle.pb_json_scalars.specs.Clock.{fraction_len, fraction_nanos, instant_of, offset}
use Rattle.pb_json_scalars.proofs.ClockLemmas.{timestamp_at}
use Rattle.pb_json_scalars.proofs.times.read_timestamp.Goals as goal

pub returns : goal.returns
returns c =
    let s = c.args.characters.now in
    let days = c.in_ok-days.days in
    let second = c.in_ok-second.second in
    let long : 20 ≤ length s = omega arith in
    let same : days ≡ to_z w32 (of_z w32 days) = search rules in
    let rest : List ℕ = take (length s - 19) (drop 19 s) in
    c.instant_of.ensures ∙ ap (λ (z : ℤ). instant_of (Some z) (Some second) (fraction_nanos rest) (offset (drop (fraction_len rest) rest))) (sym same)
    ∙ ap (λ (l : List ℕ). instant_of (Some days) (Some second) (fraction_nanos l) (offset (drop (fraction_len l) l))) (take_rest s 19)
    ∙ timestamp_at s days second c.in_ok-days.ensures c.in_ok-second.ensures long c.if-characters-ne84.false
