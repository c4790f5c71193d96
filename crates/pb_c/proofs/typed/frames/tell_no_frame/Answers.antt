-- The input holds the bytes, and what is reported of them is reported of it.
use Rattle.std.proofs.Common.{◌≡◌, ◌++◌, [], Some, length, inl, inr, refl, subst, sym}
use Rattle.pb_decode.specs.FromDevice.{IsNoFault}
use Rattle.pb_stream.specs.Frame.{FrameFault}
use Rattle.pb_c_answers.specs.Reporting.{Tells}
use Rattle.pb_c.specs.Typed.Frames.{AnswersFault}
use Rattle.pb_c_answers.proofs.Refusals.{fault_of, no_fault_of, the_fault_of}
use Rattle.pb_c.proofs.typed.frames.tell_no_frame.Goals as goal

pub unreachable-requires : goal.unreachable-requires
unreachable-requires c =
    let same : c.new-input.result.left.now ≡ c.args.bytes.now = cc in
    let frame = rw (c.in-Ok-Some.field-0-is, same) at c.in-Ok-Some.ensures.message in
    absurd
    (c.requires.no_frame (record { begin = length frame.front; end = length (frame.front ++ frame.text) })
    (record { value = c.in-Ok-Some.field-0-0.body; rest = c.read_delimited.new.input.left.now; frame = frame; begins = refl; ends = refl }))

pub returns-clause-fault : goal.returns-clause-fault
returns-clause-fault c is =
    let same : c.new-input.result.left.now ≡ c.args.bytes.now = cc in
    let fault = rw same at c.in-Err.ensures.fault in
    elim
    (fault_of c.in-Err.error (λ f. FrameFault c.args.pool.now c.args.message_type.0 c.args.limits c.args.bytes.now f)
    (AnswersFault c.tell_frame_error.result (λ f. Tells f c.tell_frame_error.new.fault c.args.path.now c.tell_frame_error.new.path))
    (c.tell_frame_error.result ≡ 14) fault c.tell_frame_error.ensures.told) [
      | inl h ↦ elim h.2 [ inl cut ↦ absurd cc | inr told ↦ (h.0, record { fault = h.1; settled = told.0 }, told.2) ]
      | inr memory ↦ absurd cc
    ]

pub returns-clause-parted : goal.returns-clause-parted
returns-clause-parted c part =
    let same : c.new-input.result.left.now ≡ c.args.bytes.now = cc in
    elim part [
      | inl none ↦
          let empty : Some c.new-input.result.left.now ≡ Some [] = cc in
          inr
          (no_fault_of c.in-Err.error (AnswersFault c.tell_frame_error.result (λ f. Tells f c.tell_frame_error.new.fault c.args.path.now c.tell_frame_error.new.path))
          (c.tell_frame_error.result ≡ 14) (subst IsNoFault (sym (c.in-Err.ensures.ended empty)) tt) c.tell_frame_error.ensures.told)
      | inr h ↦
          elim
          (the_fault_of c.in-Err.error h.0 (AnswersFault c.tell_frame_error.result (λ f. Tells f c.tell_frame_error.new.fault c.args.path.now c.tell_frame_error.new.path))
          (c.tell_frame_error.result ≡ 14) (c.in-Err.ensures.refused h.0 (rw same h.1)) c.tell_frame_error.ensures.told) [
            | inl told ↦ elim told [ inl cut ↦ inl cut.1 | inr whole ↦ absurd (whole.0 h.2) ]
            | inr memory ↦ inr memory
          ]
    ]

pub returns-clause-refused : goal.returns-clause-refused
returns-clause-refused c f none =
    let same : c.new-input.result.left.now ≡ c.args.bytes.now = cc in
    elim
    (the_fault_of c.in-Err.error f (AnswersFault c.tell_frame_error.result (λ f. Tells f c.tell_frame_error.new.fault c.args.path.now c.tell_frame_error.new.path))
    (c.tell_frame_error.result ≡ 14) (c.in-Err.ensures.refused f (rw same none.fault)) c.tell_frame_error.ensures.told) [
      | inl told ↦ elim told [ inl cut ↦ absurd (none.settled cut.0) | inr whole ↦ inl (whole.1, whole.2) ]
      | inr memory ↦ inr memory
    ]
