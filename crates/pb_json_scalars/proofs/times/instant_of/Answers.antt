use Rattle.std.proofs.Common.{◌≡◌, ℕ, ℤ, Some, drop, ap, ap₂, sym, ◌∙◌, pos, ◌+ℤ◌, ◌-ℤ◌, ◌*ℤ◌, rules, to_z, of_z, w32, w64}
use Rattle.std.proofs.lemmas.List.{take_rest}
use Rattle.pb_json_scalars.specs.Clock.{fraction_len, fraction_nanos, instant, offset}
use Rattle.pb_json_scalars.proofs.ClockLemmas.{instant_at}
use Rattle.pb_json_scalars.proofs.times.instant_of.Goals as goal

pub returns : goal.returns
returns c =
    let rest = c.args.rest.now in
    let days = c.args.days in
    let ahead = c.in_ok-ahead.ahead in
    let found : Some ahead ≡ offset (drop (fraction_len rest) rest) =
    c.in_ok-ahead.ensures ∙ ap offset (take_rest rest c.fraction_len.result) ∙ ap (λ (n : ℕ). offset (drop n rest)) c.fraction_len.ensures.is in
    let same_days : days ≡ to_z w32 (of_z w32 days) = search rules in
    let same_ahead : ahead ≡ to_z w32 (of_z w32 ahead) = search rules in
    let seconds : c.seconds_of.result ≡ days *ℤ pos 86_400 +ℤ pos c.args.second -ℤ ahead =
    c.seconds_of.ensures ∙ ap₂ (λ (x y : ℤ). x *ℤ pos 86_400 +ℤ pos c.args.second -ℤ y) (sym same_days) (sym same_ahead) in
    let same_seconds : c.seconds_of.result ≡ to_z w64 (of_z w64 c.seconds_of.result) = search rules in
    c.instant.ensures ∙ ap (λ (z : ℤ). instant z c.in_ok-nanos.nanos) (sym same_seconds ∙ seconds)
    ∙ instant_at days ahead c.args.second c.in_ok-nanos.nanos (fraction_nanos rest) (offset (drop (fraction_len rest) rest)) c.in_ok-nanos.ensures.is found
