use Rattle.std.proofs.Common.{◌≡◌, drop}
use Rattle.std.specs.Prelude.{false}
use Rattle.pb_json.specs.Masks.{is_path_from}
use Rattle.pb_json.proofs.masks.is_path_from.Given as goal

abbrev pub invariant-loop-byte : goal.invariant-loop-byte
invariant-loop-byte l = is_path_from false l.path ≡ is_path_from l.is_after (drop l.byte-index l.path)
