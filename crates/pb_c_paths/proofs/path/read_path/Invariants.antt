use Rattle.std.proofs.Common.{◌≡◌, drop}
use Rattle.pb_c_paths.specs.Path.{path_read, read_on, read_view}
use Rattle.pb_c_paths.proofs.path.read_path.Given as goal

-- the path comes to what its rest comes to, after what was read of it
abbrev pub invariant-loop-at : goal.invariant-loop-at
invariant-loop-at l = path_read l.pool l.message_type l.path ≡ read_on l.pool l.at (read_view l.read) (drop l.at l.path)
