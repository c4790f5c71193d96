use Rattle.std.proofs.Common.{◌≡◌, true, arith}
use Rattle.pb_wire.proofs.Tokens.{varint_not_both}
use Rattle.pbtool_explain.proofs.FindLemmas.{tag_of, tag_read}
use Rattle.pbtool_explain.proofs.find.step_tag.Goals as goal

pub returns-in_err-tag-clause-none : goal.returns-in_err-tag-clause-none
returns-in_err-tag-clause-none c = rw c.from_residual.ensures (λ at w q has no_end. varint_not_both (c.in_err-tag.ensures.none at).1 has.tag)

pub returns-then-is_step_tag-clause-found : goal.returns-then-is_step_tag-clause-found
returns-then-is_step_tag-clause-found c =
    let is = c.is_step_tag.ensures.0 c.if-is_step_tag.true in
    let read = c.in_ok-tag.ensures.found in
    (read.0, read.1, is.3, is.4, λ at. tag_of is.0 is.1 is.2 is.3 (read.2 at))

pub returns-else-is_step_tag-clause-none : goal.returns-else-is_step_tag-clause-none
returns-else-is_step_tag-clause-none c = λ at w q has no_end.
    let read = c.in_ok-tag.ensures.found in
    let parts = tag_read at c.in_ok-tag.size c.in_ok-tag.tag c.args.number w q c.args.rest.now (read.2 at) has in
    let yes : c.is_step_tag.result ≡ true =
    c.is_step_tag.ensures.1 (parts.0, parts.1, parts.2, omega (arith, parts.3, parts.4), λ e. no_end (omega (arith, parts.3, e))) in
    absurd (cc)
