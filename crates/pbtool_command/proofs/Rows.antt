-- Worked rows: frames one after another, and what is answered when the stream is over.
use Rattle.std.proofs.Common.{◌≡◌, ℕ, List, [], ◌++◌, refl}
use Rattle.std.specs.Prelude.{codes}
use Rattle.std.specs.Fmt.{digits}
use Rattle.pb_wire.specs.Fault.{Fault, fault}
use Rattle.pb_wire.specs.declared.fault.Cause.TheVariants.{Truncated}
use Rattle.pbtool_files.specs.Answer.{done, stopped}
use Rattle.pbtool_command.specs.AllFrames.{Passed, and_refused, and_shown, concluded, none_passed}
use Rattle.pbtool_command.specs.FramesAnswer.{bad_bytes, frame_line}

-- the third frame, which begins after 12 bytes
a_line : frame_line 2 12 5 ≡ codes "frame 2 at 12 size 5\n"
unfolding digits
a_line = refl

-- a frame of 5 bytes, and one of 7
abbrev two : Passed
two = and_shown (and_shown none_passed 5 (codes "a\n")) 7 (codes "b\n")

two_shown : two ≡ record { count = 2; refused = 0; offset = 12; text = codes "a\nb\n"; lines = [] }
two_shown = refl

abbrev cut : Fault
cut = fault 3 [] Truncated

abbrev report : List ℕ
report = codes "frame 2 byte 3 path - cause Truncated\n"

one_refused : and_refused two 4 (bad_bytes cut) ≡ record { count = 3; refused = 1; offset = 16; text = codes "a\nb\n"; lines = report }
unfolding digits
one_refused = refl

none_refused : concluded two ≡ done (codes "a\nb\n")
none_refused = refl

reported : concluded (and_refused two 4 (bad_bytes cut)) ≡ stopped (codes "a\nb\n") (report ++ codes "frames refused 1 of 3\n")
unfolding digits
reported = refl
