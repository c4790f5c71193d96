use Rattle.std.proofs.Common.{◌≡◌, ℕ, length, take, refl, sym, ap, ◌∙◌}
use Rattle.std.specs.Prelude.{true}
use Rattle.pb_wire.specs.declared.fault.WireFault.{WireFault}
use Rattle.pb_wire.specs.Varint.{shortest}
use Rattle.pb_canonical.proofs.SplitLemmas.{taken_split}
use Rattle.pb_canonical.proofs.SameLemmas.{varint_given, varint_below, only_varint, only_within, only_front, found_parts}
use Rattle.pb_canonical.proofs.first.long_varint_first.Goals as goal

pub returns-in_default-clause-complete : goal.returns-in_default-clause-complete
returns-in_default-clause-complete c = λ n s r e.
    let b = c.args.bytes.now in c.in_default.not-Ok (n, length (shortest n)) (c.read_varint.ensures.only n (length (shortest n)) (only_within n b s e) (only_varint n b s r e))

pub returns-then-is_shortest-clause-complete : goal.returns-then-is_shortest-clause-complete
returns-then-is_shortest-clause-complete c = λ n s r e.
    let b = c.args.bytes.now in
    let same = (c.is_shortest.ensures c.in-Ok.number c.in-Ok.ensures.found).0 c.if-is_shortest.true in
    varint_given _ n b _ s (varint_below _ _ c.in-Ok.ensures.found) r (taken_split b c.in-Ok.number c.in-Ok.size (take c.in-Ok.size b) same refl refl) e

pub returns-else-is_shortest-clause-complete : goal.returns-else-is_shortest-clause-complete
returns-else-is_shortest-clause-complete c = λ n s r e.
    let b = c.args.bytes.now in
    let parts = found_parts WireFault c.in-Ok.number c.in-Ok.size n (length (shortest n)) (c.in-Ok.ensures.only n (length (shortest n)) (only_within n b s e) (only_varint n b s r e)) in
    let same : take c.in-Ok.size b ≡ shortest c.in-Ok.number = ap (λ (i : ℕ). take i b) parts.1 ∙ only_front n b s e ∙ ap shortest (sym parts.0) in
    let yes : c.is_shortest.result ≡ true = (c.is_shortest.ensures c.in-Ok.number c.in-Ok.ensures.found).1 same in
    absurd (cc)
