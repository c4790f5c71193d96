-- What is not taken is held.
use Rattle.std.proofs.Common.{◌∙◌}
use Rattle.std.proofs.lemmas.Result.{err_from_is_err_and}
use Rattle.pb_decode.specs.Reader.{state_view}
use Rattle.pb_decode.proofs.PushLemmas.{held_rest, held_after}
use Rattle.pb_decode.proofs.push.take_front.Goals as goal

pub returns-in_err-size-clause-refused : goal.returns-in_err-size-clause-refused
returns-in_err-size-clause-refused c =
    λ m depth levels base p0 begun.
    let p = err_from_is_err_and c.from_residual.result c.from_residual.ensures.1 in
    rw (p.1, p.2) (c.in_err-size.ensures.refused m depth levels base p0 begun)

pub returns-clause-taken : goal.returns-clause-taken
returns-clause-taken c =
    λ m depth levels base p0 begun.
    held_rest c.args.pool.now m depth levels base p0 (state_view c.take_all.new.self) c.in_ok-size.size c.args.bytes.now c.extend_from_slice.new.self.items
    (c.in_ok-extend_from_slice.ensures.items ∙ held_after c.in_ok-size.size c.args.reading.now.held.items c.args.bytes.now c.requires.none_held) (c.in_ok-size.ensures.taken m depth levels base p0 begun)
