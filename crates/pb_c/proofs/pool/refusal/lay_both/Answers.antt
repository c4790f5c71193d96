-- The second text comes after the first.
use Rattle.pb_c_answers.proofs.Laid.{laid_behind}
use Rattle.pb_c.proofs.pool.refusal.lay_both.Goals as goal

pub returns : goal.returns
returns c =
    laid_behind c.args.first.now c.args.second.now c.args.buffer.now c.min-size.result c.lay_over.new.buffer c.lay_over-2.new.buffer c.min-size.ensures c.lay_over.ensures c.lay_over-2.ensures
