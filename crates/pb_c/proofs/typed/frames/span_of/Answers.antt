-- The varint that is read is the only one that the bytes begin with.
use Rattle.std.proofs.Common.{arith, drop, length, refl, sym, take}
use Rattle.std.proofs.lemmas.List.{take-append-drop}
use Rattle.pb_c.proofs.Lengths.{begin_and_size, varint_read}
use Rattle.pb_c.proofs.typed.frames.span_of.Goals as goal

pub returns-in-Ok : goal.returns-in-Ok
returns-in-Ok c =
    let bytes = c.args.bytes.now in let size = c.in-Ok.size in let begin = c.in-Ok.begin in
    record {
      counted = λ n front begins.
          let read = varint_read bytes front begins.1.0 n c.read_varint.result begins.1.1 begins.0 c.read_varint.ensures.only in
          let parts = begin_and_size c.read_varint.result size begin n (length front) c.in-Ok.is read in
          let sized = parts.0 in let begun = parts.1 in let sum = c.saturating_add.ensures in
          (begun, omega (arith, sized, begun, sum));
      unread = λ none. absurd (none size (take begin bytes) (c.in-Ok.ensures.found, (drop begin bytes, sym (take-append-drop begin bytes))));
    }

pub returns-in-Err : goal.returns-in-Err
returns-in-Err c =
    record {
      counted = λ n front begins.
          let read = varint_read c.args.bytes.now front begins.1.0 n c.read_varint.result begins.1.1 begins.0 c.read_varint.ensures.only in
          absurd (cc);
      unread = λ none. (refl, refl);
    }
