-- The steps so far are laid over the front of the buffer, and the rest of it is as it was.
use Rattle.std.proofs.Common.{◌≡◌, length, take, drop, map}
use Rattle.pb_c_answers.specs.Reporting.{told_step}
use Rattle.pb_c_answers.proofs.reporting.lay_path.Given as goal

abbrev pub invariant-loop-i : goal.invariant-loop-i
invariant-loop-i l = record {
  laid : take l.i l.buffer ≡ map told_step (take l.i l.path);
  rest : drop l.i l.buffer ≡ drop l.i l.initial.buffer;
  long : length l.buffer ≡ length l.initial.buffer;
}
