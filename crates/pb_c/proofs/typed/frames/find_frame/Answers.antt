-- What follows the length is the text of the frame, if there is one.
use Rattle.std.proofs.Common.{◌≡◌, ◌≤◌, ◌+◌, ◌-◌, ◌++◌, ◌∙◌, ap, arith, length, refl, subst, sym, take, Some}
use Rattle.std.specs.Prelude.{IfOk}
use Rattle.pb_wire.specs.Varint.{IsVarint}
use Rattle.pb_value.specs.Derives.{Text}
use Rattle.pb_c.specs.declared.typed.frames.FrameReport.{FrameReport}
use Rattle.pb_c.proofs.Lengths.{begin_and_size, end_of, fits_behind, framed, length_read, same_place, text_behind}
use Rattle.pb_c.proofs.typed.frames.find_frame.Goals as goal
use Rattle.pb_c.proofs.typed.frames.find_frame.Goals.{in-Ok-validate, in-Err}

pub returns-in_default-clause-found : goal.returns-in_default-clause-found
returns-in_default-clause-found c r is =
    let h = is.frame in
    let read = length_read c.args.bytes.now h.front h.text is.rest c.read_varint.result h.joined h.counted c.read_varint.ensures.only in
    absurd cc

pub returns-then-size-bytes-clause-found : goal.returns-then-size-bytes-clause-found
returns-then-size-bytes-clause-found c r is =
    let h = is.frame in
    let read = length_read c.args.bytes.now h.front h.text is.rest c.read_varint.result h.joined h.counted c.read_varint.ensures.only in
    let parts = begin_and_size c.read_varint.result c.in-Ok.size c.in-Ok.begin (length h.text) (length h.front) c.in-Ok.is read in
    let fits = fits_behind c.args.bytes.now h.front h.text is.rest c.in-Ok.begin c.in-Ok.size h.joined parts in
    absurd (omega (arith, fits, c.if-size-bytes.true))

pub returns-clause-framed : goal.returns-clause-framed
returns-clause-framed c =
    let bytes = c.args.bytes.now in let begin = c.in-Ok.begin in let size = c.in-Ok.size in
    let within = subst (λ r. IfOk r (λ found. found.1 ≤ length bytes)) c.in-Ok.is c.read_varint.ensures.within in
    let counted = subst (λ r. IfOk r (λ found. IsVarint found.0 (take found.1 bytes))) c.in-Ok.is c.read_varint.ensures.found in
    let fits : size ≤ length bytes - begin = omega (arith, c.if-size-bytes.false) in
    elim c.match-validate.branch [
      | in-Ok-validate w ↦
          let text = w.in-Ok-validate.ensures.ok in
          rw w.result-is
          (framed c.args.pool.now c.args.message_type.0 c.args.limits bytes begin size (begin + size) text.0 within fits refl counted text.1)
      | in-Err w ↦ rw w.result-is tt
    ]

pub returns-clause-found : goal.returns-clause-found
returns-clause-found c r is =
    let bytes = c.args.bytes.now in let begin = c.in-Ok.begin in let size = c.in-Ok.size in
    let h = is.frame in
    let read = length_read bytes h.front h.text is.rest c.read_varint.result h.joined h.counted c.read_varint.ensures.only in
    let parts = begin_and_size c.read_varint.result size begin (length h.text) (length h.front) c.in-Ok.is read in
    elim c.match-validate.branch [
      | in-Ok-validate w ↦
          let begins = parts.1 in
          let ends = end_of h.front h.text begin size parts in
          let placed : ◌≡◌ {A = FrameReport} (record { begin = begin; end = begin + size }) (record { begin = length h.front; end = length (h.front ++ h.text) }) = cc in
          w.result-is ∙ ap (λ p. Some p) (same_place (record { begin = begin; end = begin + size }) r (length h.front) (length (h.front ++ h.text)) placed is.begins is.ends)
      | in-Err w ↦
          let accepted = w.in-Err.ensures.accepted is.value
          (subst (λ b. Text c.args.pool.now c.args.message_type.0 c.args.limits b is.value)
          (sym (text_behind bytes h.front h.text is.rest begin size (begin + size) h.joined parts refl)) h.derives) in
          absurd cc
    ]
