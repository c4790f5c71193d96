use Rattle.std.proofs.Common.{◌≡◌}
use Rattle.pb_value.specs.View.{entries_view}
use Rattle.pb_place.specs.Ask.{nth_key}
use Rattle.pb_place.proofs.asking.nth_key.Given as goal

abbrev pub invariant-loop-key : goal.invariant-loop-key
invariant-loop-key l = nth_key (entries_view l.entries.entries) l.index ≡ nth_key (entries_view l.key-iterator) l.left
