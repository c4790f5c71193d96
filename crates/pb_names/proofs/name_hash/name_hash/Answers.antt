use Rattle.std.proofs.Common.{sym, ◌∙◌, ap}
use Rattle.std.proofs.lemmas.List.Sums.{fold_more}
use Rattle.pb_names.specs.NameHash.{with_byte}
use Rattle.pb_names.proofs.name_hash.name_hash.Goals as goal

pub loop-byte-preserved : goal.loop-byte-preserved
unfolding with_byte
loop-byte-preserved c = ap (λ h. with_byte h c.from.result) c.loop-byte.invariant ∙ ap (with_byte _) c.from.ensures ∙ sym (fold_more with_byte 0 c.args.name.now c.loop-byte.byte-index _ c.loop-byte-test.true)
