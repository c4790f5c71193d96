use Rattle.std.proofs.Common.{◌≤◌, ◌+◌, ◌∙◌, ap, sym, drop, length, subst}
use Rattle.pb_source_tokens.specs.Texts.{units_len, escape_len}
use Rattle.pb_source_tokens.proofs.TextSteps.{units_escape, room_after, units_on, tail_from}
use Rattle.pb_source_tokens.proofs.text.units_len.Goals as goal

pub loop-at-preserved : goal.loop-at-preserved
loop-at-preserved c =
    let bs = c.args.bytes.now in
    let at = c.loop-at.at in
    let n = c.escape_len-len.result in
    let w : n ≤ length (drop (at + 1) bs) = subst (λ t. n ≤ length t) (tail_from bs at) c.escape_len-len.ensures.within in
    record {
      within = room_after bs at n c.loop-at-test.true w;
      read = units_on c.args.quote at n bs (units_len c.args.quote bs) c.loop-at.invariant.read (units_escape c.args.quote at n bs c.loop-at-test.true (sym c.is_plain.ensures ∙ c.if-is_plain.false) c.if-bytes-at-ne92.false c.if-len-eq0.false
          (c.escape_len-len.ensures.is ∙ ap escape_len (tail_from bs at)) w);
    }
