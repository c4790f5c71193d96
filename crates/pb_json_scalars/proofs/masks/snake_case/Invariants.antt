use Rattle.std.proofs.Common.{◌≡◌, ◌++◌, drop}
use Rattle.pb_json_scalars.specs.Paths.{snake_case}
use Rattle.pb_json_scalars.proofs.masks.snake_case.Given as goal

abbrev pub invariant-loop-byte : goal.invariant-loop-byte
invariant-loop-byte l = l.snake.items ++ snake_case (drop l.byte-index l.name) ≡ snake_case l.name
