-- The list is a whole record, and the part goes on to its own end.
use Rattle.std.proofs.Common.{refl}
use Rattle.pb_decode_parts.specs.declared.tokens.step.Step.TheVariants.{Tag}
use Rattle.pb_decode.specs.Reader.{state_view}
use Rattle.pb_decode.proofs.EndedLemmas.{list_ended}
use Rattle.pb_decode.proofs.reader.state.State.end_list.Goals as goal

pub returns-clause-taken : goal.returns-clause-taken
returns-clause-taken c =
    λ pool m depth levels kind base p0 rest ok begun is end.
    list_ended (state_view c.args.self.now) (state_view (record { at = c.args.self.now.at; part = c.args.self.now.part; scope = c.count_one.new.scope; parents = c.args.self.now.parents; step = Tag })) rest c.args.number kind c.args.outer ok begun is end refl refl refl refl
    c.in_ok-count_one.ensures.more
