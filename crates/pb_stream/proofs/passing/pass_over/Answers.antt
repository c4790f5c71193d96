use Rattle.std.proofs.Common.{rules}
use Rattle.pb_stream.proofs.SpanLemmas.{takes_more}
use Rattle.pb_stream.proofs.passing.pass_over.Goals as goal

pub passing-preserved : goal.passing-preserved
passing-preserved g c = record {
  in_range = search rules;
  taken = takes_more _ _ _ _ _ _ c.passing.invariant.taken c.in_ok-taken.ensures.count c.in_ok-taken.ensures.bytes.0;
  kept = search rules;
  steady = search rules;
}
