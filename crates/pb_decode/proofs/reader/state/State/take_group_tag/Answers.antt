-- After the tag the group is open, or the reader is in what holds it.
use Rattle.std.proofs.Common.{ℕ, refl, sym, ◌∙◌, subst}
use Rattle.pb_wire.specs.Fault.{HasTag}
use Rattle.pb_wire.specs.Scan.{passed}
use Rattle.pb_decode_parts.specs.Open.Openings.{innermost_group}
use Rattle.pb_decode.specs.Reader.{state_view, here}
use Rattle.pb_decode.proofs.EndedLemmas.{ends_group}
use Rattle.pb_decode.proofs.reader.state.State.take_group_tag.Goals as goal

pub returns-in_ok-enter_group-clause-taken : goal.returns-in_ok-enter_group-clause-taken
returns-in_ok-enter_group-clause-taken c =
    λ m depth levels base p0 begun. c.in_ok-enter_group.ensures.reads m depth levels base p0 c.args.bytes.now begun c.requires.at_tag.there

pub returns-in_ok-close_innermost-clause-taken : goal.returns-in_ok-close_innermost-clause-taken
returns-in_ok-close_innermost-clause-taken c =
    λ m depth levels base p0 begun.
    let s = state_view c.args.self.now in
    c.in_ok-close_innermost.ensures.closes m depth levels base p0 c.args.bytes.now begun
    (ends_group (innermost_group s.parents) (here s c.args.bytes.now) c.args.tag.number c.args.tag.size (sym c.innermost.ensures.group ∙ c.in-Ok.ensures.ends refl)
    (subst (λ (z : ℕ). HasTag (here s c.args.bytes.now) c.args.tag.number z (passed (here s c.args.bytes.now) c.args.tag.size)) c.if-tag-eq4.true c.requires.at_tag.there))
