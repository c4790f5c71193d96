-- The bytes that are held are the canonical ones, and fields that are held are those of the message.
use Rattle.std.proofs.Common.{◌≡◌, length, ap, sym, subst, arith, ◌∙◌}
use Rattle.pb_encode.specs.Encoding.{bytes_of}
use Rattle.pb_encode.specs.Sizes.{capped}
use Rattle.pb_c_message.specs.Holds.{IsHeld, message_held}
use Rattle.pb_c_message.specs.declared.held.Held.TheVariants as held
use Rattle.pb_c_message.proofs.Canonical.{written_of_value}
use Rattle.pb_c.proofs.message.encode.count_own.Goals as goal

pub returns-in-Bytes-clause-counted : goal.returns-in-Bytes-clause-counted
returns-in-Bytes-clause-counted c =
    let pool = c.own.inside.pool.value in let m = c.own.inside.message_type.0 in let b = c.in-Bytes.bytes in let seen = c.own.view_is in
    let there : message_held pool m c.own.inside.held ≡ c.args.own.now = cc in
    let is : c.own.inside.held ≡ held.Bytes b = sym c.replace.ensures.value ∙ c.in-Bytes.is in
    let rules = rw c.deref.ensures at c.messages-types.ensures.rules in
    let canonical = subst (IsHeld pool m) is c.own.invariant.1 in
    let same : length b.items ≡ length (bytes_of c.args.own.now) =
    ap length (written_of_value pool m b.items rules canonical ∙ ap bytes_of (sym (ap (message_held pool m) is) ∙ there)) in
    let count = c.len-count.ensures in let size = b.ok in let small = canonical.small in
    omega (arith, count, size, same, small)

pub returns-in-Fields-clause-counted : goal.returns-in-Fields-clause-counted
returns-in-Fields-clause-counted c =
    let pool = c.own.inside.pool.value in let m = c.own.inside.message_type.0 in let b = c.in-Fields.body in let seen = c.own.view_is in
    let there : message_held pool m c.own.inside.held ≡ c.args.own.now = cc in
    let is : c.own.inside.held ≡ held.Fields b = sym c.replace.ensures.value ∙ c.in-Fields.is in
    let deref = c.deref-in-Fields.ensures in let made = c.from_well_formed-message.ensures in
    let held_is : message_held pool m (held.Fields b) ≡ c.args.own.now = sym (ap (message_held pool m) is) ∙ there in
    let same : c.from_well_formed-message.result ≡ c.args.own.now = cc in
    c.encoded_len-count.ensures.exact ∙ ap (λ v. capped (length (bytes_of v))) same
