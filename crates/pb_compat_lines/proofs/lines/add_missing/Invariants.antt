use Rattle.std.proofs.Common.{◌≡◌, ◌++◌}
use Rattle.pb_compat_lines.specs.Lines.{missing_below, lacks_below}
use Rattle.pb_compat_lines.proofs.lines.add_missing.Given as goal

abbrev pub invariant-loop-index : goal.invariant-loop-index
invariant-loop-index l = record {
  text : l.text.items ≡ l.initial.text.items ++ missing_below l.prefix l.old l.new l.index;
  lacks : l.some_lack ≡ lacks_below l.old l.new l.index;
}
