use Rattle.pb_link_rules.proofs.MapLemmas.{entry_right}
use Rattle.pb_link_rules.proofs.rules.maps.is_right_message.Goals as goal

pub returns : goal.returns
returns c w e = entry_right w c.args.found.now c.args.place c.args.message.now c.deref.result.now c.args.is_used c.has_parts-has_parts.result c.has_nothing_inside-is_bare.result c.is_right_entry.result c.deref.ensures.value (c.has_parts-has_parts.ensures w e) c.has_nothing_inside-is_bare.ensures c.is_right_entry.ensures
