use Rattle.std.proofs.Common.{◌≡◌, ◌-◌, ◌≤◌, true, ℕ, List, Option, length, vec_len}
use Rattle.std.specs.Io.KnownBytes.{Consumes}
use Rattle.pbtool_files.proofs.pieces.read_on.Given as goal

abbrev pub invariant-reading : goal.invariant-reading
invariant-reading g l = record {
  in_range : length l.bytes.items ≤ l.limit;
  taken :
      (x : Option (List ℕ)) → Consumes x (g.I.Input.left l.initial.input) l.initial.bytes.items → Consumes x (g.I.Input.left l.input) l.bytes.items;
  kept : g.I.Input.failures l.input ≡ g.I.Input.failures l.initial.input;
  steady : g.I.Input.is_steady l.initial.input ≡ true → g.I.Input.is_steady l.input ≡ true;
}

abbrev pub decreases-reading : goal.decreases-reading
decreases-reading g l = l.limit - vec_len l.bytes
