use Rattle.std.proofs.Common.{◌≤◌, ◌++◌, ◌∙◌, ap, sym, length, subst}
use Rattle.pb_source_tokens.specs.Texts.{escape_len, escape_meaning}
use Rattle.pb_source_tokens.proofs.TextSteps.{room_after, tail_from}
use Rattle.pb_source_tokens.proofs.TextMeaning.{meant_on}
use Rattle.pb_source_tokens.proofs.meaning.push_units.Goals as goal

pub loop-at-preserved : goal.loop-at-preserved
loop-at-preserved c =
    let bs = c.args.bytes.now in
    let at = c.loop-at.at in
    let n = c.escape_len-len.result in
    record {
      within = room_after bs at n c.loop-at-test.true (subst (λ t. n ≤ length t) (tail_from bs at) c.escape_len-len.ensures.within);
      read = meant_on c.args.quote at n bs _ c.loop-at.into.items _ c.loop-at-test.true (sym c.is_plain.ensures ∙ c.if-is_plain.false) c.if-bytes-at-ne92.false c.if-len-eq0.false
          (c.escape_len-len.ensures.is ∙ ap escape_len (tail_from bs at)) c.loop-at.invariant.read (c.in_ok-push_escape.ensures ∙ ap (λ t. c.loop-at.into.items ++ escape_meaning t) (tail_from bs at));
    }
