use Rattle.std.proofs.Common.{◌≡◌, ◌++◌, negsuc, take, drop}
use Rattle.pb_link_names.proofs.ReservedLemmas.{raised}
use Rattle.pb_link_names.proofs.marks.reserved.raise_ends.Given as goal

abbrev pub invariant-loop-span : goal.invariant-loop-span
invariant-loop-span l = raised (negsuc 9223372036854775807) l.initial.spans ≡ take l.span-index l.spans ++ raised l.end (drop l.span-index l.spans)
