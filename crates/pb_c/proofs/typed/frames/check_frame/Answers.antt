-- The frame that is found is the only one, and where one is found the bytes are nothing else.
use Rattle.std.proofs.Common.{refl, subst, sym}
use Rattle.pb_c.specs.Typed.Frames.{IsFramed, IsNoFrame, IsPart}
use Rattle.pb_c.proofs.FrameLaws.{no_fault, no_part}
use Rattle.pb_c.proofs.typed.frames.check_frame.Goals as goal

pub returns-in-Some-find_frame-clause-accepted : goal.returns-in-Some-find_frame-clause-accepted
returns-in-Some-find_frame-clause-accepted c within r framed =
    let same = c.in-Some-find_frame.ensures.found r (subst (λ m. IsFramed c.args.input.pool.now m c.args.input.limits c.args.input.bytes.now r) (sym c.in-Some.ensures.found.0) framed) in
    (refl, cc)

pub returns-in-Some-find_frame-clause-parted : goal.returns-in-Some-find_frame-clause-parted
returns-in-Some-find_frame-clause-parted c within part =
    absurd
    (no_part c.args.input.pool.now c.in-Some.message_type.0 c.args.input.limits c.args.input.bytes.now c.in-Some-find_frame.found c.in-Some-find_frame.ensures.framed
    (subst (λ m. IsPart c.args.input.pool.now m c.args.input.limits c.args.input.bytes.now) (sym c.in-Some.ensures.found.0) part))

pub returns-in-Some-find_frame-clause-refused : goal.returns-in-Some-find_frame-clause-refused
returns-in-Some-find_frame-clause-refused c within f none =
    absurd
    (no_fault c.args.input.pool.now c.in-Some.message_type.0 c.args.input.limits c.args.input.bytes.now c.in-Some-find_frame.found c.in-Some-find_frame.ensures.framed f
    (subst (λ m. IsNoFrame c.args.input.pool.now m c.args.input.limits c.args.input.bytes.now f) (sym c.in-Some.ensures.found.0) none))

pub tell_no_frame-answer-requires-clause-no_frame : goal.tell_no_frame-answer-requires-clause-no_frame
tell_no_frame-answer-requires-clause-no_frame c r framed = let some = c.find_frame.ensures.found r framed in absurd cc

pub returns-clause-accepted : goal.returns-clause-accepted
returns-clause-accepted c within r framed =
    let some = c.find_frame.ensures.found r (subst (λ m. IsFramed c.args.input.pool.now m c.args.input.limits c.args.input.bytes.now r) (sym c.in-Some.ensures.found.0) framed) in
    absurd cc

pub returns-clause-parted : goal.returns-clause-parted
returns-clause-parted c within part =
    c.tell_no_frame-answer.ensures.parted (subst (λ m. IsPart c.args.input.pool.now m c.args.input.limits c.args.input.bytes.now) (sym c.in-Some.ensures.found.0) part)

pub returns-clause-refused : goal.returns-clause-refused
returns-clause-refused c within f none =
    c.tell_no_frame-answer.ensures.refused f (subst (λ m. IsNoFrame c.args.input.pool.now m c.args.input.limits c.args.input.bytes.now f) (sym c.in-Some.ensures.found.0) none)
