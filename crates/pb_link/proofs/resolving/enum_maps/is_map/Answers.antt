use Rattle.std.proofs.Common.{rules}
use Rattle.pb_link.proofs.EnumMapLemmas.{is_map_parts}
use Rattle.pb_link.proofs.resolving.enum_maps.is_map.Goals as goal

pub returns-then-message : goal.returns-then-message
returns-then-message c = search (rules, is_map_parts)
