-- Messages of one type are equal exactly where their canonical bytes are.
use Rattle.std.proofs.Common.{rules}
use Rattle.pb_c.proofs.Copies.{decided_by_bytes}
use Rattle.pb_c.proofs.message.equal.are_equal.Goals as goal

pub returns-clause-decided : goal.returns-clause-decided
returns-clause-decided c =
    let alike = c.are_alike.ensures.0 (search (rules, c.if-not-are_alike.false)) in
    let pool = c.pool.ensures in let is_pool = c.messages-types.ensures.rules in
    decided_by_bytes c.args.message.now c.args.other.now (rw pool at is_pool) c.body-well_formed.ensures.well_formed c.body-other_well_formed.ensures.well_formed
    alike.0 alike.1 c.have_same_bytes.result c.have_same_bytes.ensures.decided c.have_same_bytes.ensures.small
