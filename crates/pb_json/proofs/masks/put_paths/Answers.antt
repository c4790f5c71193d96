use Rattle.std.proofs.Common.{[], refl}
use Rattle.pb_json.proofs.NameLemmas.{letters_joined}
use Rattle.pb_json.proofs.PathLemmas.{next_path}
use Rattle.pb_output.proofs.SinkLemmas.{puts_none, puts_then}
use Rattle.pb_json.proofs.masks.put_paths.Goals as goal

pub loop-value-init : goal.loop-value-init
loop-value-init g c = ([], refl, puts_none)

pub loop-value-preserved : goal.loop-value-preserved
loop-value-preserved g c =
    let before = c.loop-value.invariant in
    let below = rw c.deref-value-items.ensures.value at c.loop-value-test.true in
    let item = rw c.deref-value-items.ensures.value at c.value-item.is in
    let next = next_path c.loop-value.is_first c.args.values.now.items c.loop-value.value-index c.value-item.result below item in
    (_, letters_joined before.0 _ _ _ _ before.1 next, puts_then before.2 (puts_then c.put_separator.ensures (rw c.string_of.ensures at c.put_camel_bytes.ensures)))
