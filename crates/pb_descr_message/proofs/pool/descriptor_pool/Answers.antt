use Rattle.std.proofs.Common.{subst, sym}
use Rattle.pb_schema.specs.Rules.{IsPool}
use Rattle.pb_descr_message.proofs.PoolRules.{parts_are_pool}
use Rattle.pb_descr_message.proofs.pool.descriptor_pool.Goals as goal

-- the types meet every rule
pub from_known_parts-requires : goal.from_known_parts-requires
from_known_parts-requires c =
    parts_are_pool c.in_ok-files.files.items c.in_ok-file.file c.in_ok-messages.messages.items c.new.result.items c.in_ok-files.ensures.items c.in_ok-file.ensures c.in_ok-messages.ensures c.new.ensures.items

pub returns-clause-rules : goal.returns-clause-rules
returns-clause-rules c =
    subst IsPool (sym c.in_ok-pool.ensures)
    (parts_are_pool c.in_ok-files.files.items c.in_ok-file.file c.in_ok-messages.messages.items c.new.result.items c.in_ok-files.ensures.items c.in_ok-file.ensures c.in_ok-messages.ensures c.new.ensures.items)
