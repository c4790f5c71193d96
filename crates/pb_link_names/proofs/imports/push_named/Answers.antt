use Rattle.std.proofs.Common.{◌∙◌, ap}
use Rattle.std.specs.Prelude.{string_bytes}
use Rattle.pb_link_names.specs.Firsts.{first_at}
use Rattle.pb_graphs.proofs.FlatLemmas.{grows_none}
use Rattle.pb_link_names.proofs.GraphLemmas.{named_more}
use Rattle.pb_link_names.proofs.imports.push_named.Goals as goal

pub loop-name-preserved : goal.loop-name-preserved
loop-name-preserved c =
    named_more (first_at c.args.firsts.now) string_bytes c.args.names.now c.loop-name.name-index c.name-item.result c.args.graph.now c.loop-name.graph c.push_target.new.graph c.get.result c.loop-name-test.true c.name-item.is
    (c.get.ensures ∙ ap (first_at c.args.firsts.now) (c.as_bytes.ensures.value ∙ c.as_str.ensures.value)) c.loop-name.invariant c.in_ok-push_target.ensures

pub loop-name-init : goal.loop-name-init
loop-name-init c = grows_none c.args.graph.now

pub push_target-requires : goal.push_target-requires
push_target-requires c = c.loop-name.invariant.laid c.requires
