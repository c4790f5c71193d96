-- The bytes that are held are the canonical ones.
use Rattle.std.proofs.Common.{◌≡◌, ◌<◌, ◌^◌, List, ℕ, length, ap, subst, ◌∙◌}
use Rattle.pb_encode.specs.Encoding.{bytes_of}
use Rattle.pb_c_message.specs.Holds.{message_held}
use Rattle.pb_c_answers.specs.Reporting.{IsLaid}
use Rattle.pb_c.proofs.message.encode.encode_own.Goals as goal

pub returns-in-Some-clause-written : goal.returns-in-Some-clause-written
returns-in-Some-clause-written c = λ done.
    let pool = c.own.inside.pool.value in let m = c.own.inside.message_type.0 in let seen = c.own.view_is in
    let there : message_held pool m c.own.inside.held ≡ c.args.own.now = cc in
    let rules = rw c.deref.ensures at c.messages-types.ensures.rules in
    let same : c.in-Some.bytes.now ≡ bytes_of c.args.own.now = c.in-Some.ensures.written pool m rules c.own.invariant.1 ∙ ap bytes_of there in
    let canonical = c.in-Some.ensures.canonical pool m c.own.invariant.1 in
    (subst (λ (b : List ℕ). length b < 2 ^ 31) same canonical.small, subst (λ (b : List ℕ). IsLaid b c.args.out.now c.write_out.new.out c.write_out.new.size) same c.write_out.ensures)
