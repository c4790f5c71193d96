use Rattle.std.proofs.Common.{map, false}
use Rattle.std.specs.Prelude.{string_bytes}
use Rattle.std.specs.List.{slice_index_or}
use Rattle.pb_link.specs.Pools.{real_from}
use Rattle.pb_link.proofs.PartLemmas.{real_more}
use Rattle.pb_link.proofs.pools.types.real_names.Goals as goal

pub loop-index-preserved : goal.loop-index-preserved
loop-index-preserved c = λ head says. real_more string_bytes head c.args.all.now c.loop-index.index c.index-all-index.result (slice_index_or c.args.are_synthetic.now c.loop-index.index false) (map string_bytes c.loop-index.names.items) (map string_bytes c.add_oneof.new.names.items) (real_from head 0 (map string_bytes c.args.all.now)) c.loop-index-test.true c.index-all-index.is (says c.loop-index.index c.loop-index-test.true) (c.loop-index.invariant head says) c.in_ok-add_oneof.ensures
