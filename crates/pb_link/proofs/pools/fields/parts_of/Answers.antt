use Rattle.std.proofs.Common.{rules}
use Rattle.pb_link.proofs.PartLemmas.{key_first, key_second}
use Rattle.pb_link.proofs.pools.fields.parts_of.Goals as goal

pub returns-then-is_key : goal.returns-then-is_key
returns-then-is_key c = key_first c.args.tables.now c.args.names.now c.args.entry.now c.index-entry-0.result c.index-entry-1.result c.kind_of_number.result c.kind.result c.if-entry-ne2.false c.index-entry-0.is c.index-entry-1.is (search rules) (search rules) (search rules)

pub returns-else-is_key : goal.returns-else-is_key
returns-else-is_key c = key_second c.args.tables.now c.args.names.now c.args.entry.now c.index-entry-0.result c.index-entry-1.result c.kind_of_number-else-is_key.result c.kind-else-is_key.result c.if-entry-ne2.false c.index-entry-0.is c.index-entry-1.is (search rules) (search rules) (search rules)
