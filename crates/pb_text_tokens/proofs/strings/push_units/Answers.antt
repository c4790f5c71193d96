use Rattle.std.proofs.Common.{sym}
use Rattle.pb_text_tokens.proofs.StringLemmas.{meant_on, room_at}
use Rattle.pb_text_tokens.proofs.strings.push_units.Goals as goal

pub loop-at-preserved : goal.loop-at-preserved
loop-at-preserved c = record {
  within = room_at c.args.bytes.now c.loop-at.at c.in-Pass.len c.loop-at.invariant.within c.in-Pass.ensures.within.1;
  read = meant_on c.args.quote c.loop-at.at c.in-Pass.len c.args.bytes.now _ c.loop-at.into.items _ c.loop-at-test.true c.in-Pass.ensures.within.0 (sym c.in-Pass.ensures.is)
      c.loop-at.invariant.read c.in_ok-push_unit.ensures;
}
