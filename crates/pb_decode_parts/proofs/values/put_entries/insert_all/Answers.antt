-- One by one or by way of a map of their own, the entries are the same.
use Rattle.std.proofs.Common.{rules, ap, ◌∙◌}
use Rattle.std.proofs.lemmas.Result.{on_ok_weaker}
use Rattle.std.specs.BTreeMap.{IsFromIterResult}
use Rattle.pb_value.specs.KeyOrder.{map_key_cmp}
use Rattle.pb_value.specs.View.{entries_view}
use Rattle.pb_decode_parts.proofs.MapPuts.{views_each, own_map, all_put}
use Rattle.pb_decode_parts.proofs.values.put_entries.insert_all.Goals as goal

pub returns-then-len-lt-MANY : goal.returns-then-len-lt-MANY
returns-then-len-lt-MANY c = on_ok_weaker c.insert_each.result (λ put. ap entries_view put ∙ views_each c.args.entries.items c.args.map.now.entries c.requires) c.insert_each.ensures

pub returns : goal.returns
returns c =
    let own : IsFromIterResult map_key_cmp c.args.entries.items c.in_ok-more.more = search rules in
    all_put c.args.map.now c.append.new.self c.args.entries.items c.requires c.len-len.ensures.ordered
    (own_map c.args.map.now c.in_ok-more.more c.append.new.self c.args.entries.items own c.in_ok-append.ensures.inserts_all)
