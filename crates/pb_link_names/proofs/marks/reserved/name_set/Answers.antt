use Rattle.std.proofs.Common.{string_bytes, ◌∙◌}
use Rattle.pb_link_names.specs.NameSets.{is_in_set}
use Rattle.pb_link_names.proofs.NameSetsLemmas.{name_added}
use Rattle.pb_link_names.proofs.ReservedLemmas.{names_more}
use Rattle.pb_link_names.proofs.marks.reserved.name_set.Goals as goal

pub loop-name-preserved : goal.loop-name-preserved
loop-name-preserved c = λ name.
    names_more string_bytes c.args.names.now c.loop-name.name-index c.name-item.result c.as_bytes.result.now name (is_in_set c.loop-name.set name) (is_in_set c.add_copy.new.self name) c.loop-name-test.true c.name-item.is (c.as_bytes.ensures.value ∙ c.as_str.ensures.value) (name_added c.loop-name.set c.add_copy.new.self c.as_bytes.result.now c.in_ok-add_copy.ensures.names name) (c.loop-name.invariant name)
