-- The group that is opened is the innermost part.
use Rattle.std.proofs.Common.{ℕ, refl, sym, subst}
use Rattle.pb_wire.specs.Fault.{HasTag}
use Rattle.pb_wire.specs.Scan.{passed}
use Rattle.pb_decode_parts.specs.Open.PartView.{part_view}
use Rattle.pb_decode.specs.Reader.{state_view, parents_view, here}
use Rattle.pb_decode.proofs.EndedLemmas.{has_reached}
use Rattle.pb_decode.proofs.LengthSteps.{entered}
use Rattle.pb_decode.proofs.WholeRecords.{tag_can}
use Rattle.pb_decode.proofs.reader.state.State.enter_group.Goals as goal

pub target_of-meant-requires : goal.target_of-meant-requires
target_of-meant-requires c = let at_tag = c.requires.at_tag.1 in tag_can (state_view c.args.self.now) c.requires.at_tag.0 at_tag.rules at_tag.reading.reads at_tag.step

pub returns-clause-reads : goal.returns-clause-reads
returns-clause-reads c =
    λ m depth levels base p0 rest begun has.
    let s = state_view c.args.self.now in
    let at_tag = c.requires.at_tag.1 in
    entered c.enter.new.self c.open_group-parent.new.part c.open_group-parent.new.scope c.open_group-parent.result (parents_view c.args.self.now.parents.items) (passed (here s rest) c.args.tag.size)
    c.in_ok-enter.ensures.parents c.in_ok-enter.ensures.part.0 c.in_ok-enter.ensures.part.1 c.in_ok-enter.ensures.at.1 (sym c.in_ok-enter.ensures.at.0)
    (c.open_group-parent.ensures c.args.by.now.pool.now m depth levels base p0 (here s rest) (passed (here s rest) c.args.tag.size) (parents_view c.args.self.now.parents.items) at_tag.rules
    (tag_can s rest at_tag.rules begun at_tag.step) c.target_of-meant.ensures
    (has_reached s rest (parents_view c.args.self.now.parents.items) (part_view c.args.self.now.part) begun at_tag.step refl refl) c.requires.level
    (subst (λ (z : ℕ). HasTag (here s rest) c.args.tag.number z (passed (here s rest) c.args.tag.size)) c.requires.start has))
