-- The order of map keys in code.
use Rattle.std.specs.declared.cmp.Ordering.{Ordering}
use Rattle.pb_value.specs.declared.body.MapKey.{MapKey}
use Rattle.pb_value.specs.contracts.body.MapKeyOrd.TheImpl as key_ord

abbrev pub map_key_cmp : MapKey → MapKey → Ordering
map_key_cmp = (key_ord.ghosts).cmp
