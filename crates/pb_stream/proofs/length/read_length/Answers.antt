use Rattle.std.proofs.Common.{◌≡◌, length, take, sym, arith}
use Rattle.std.proofs.lemmas.List.{length-take-le}
use Rattle.pb_stream.proofs.LengthLemmas.{varint_taken, in_frame, length_refused, length_too_large}
use Rattle.pb_stream.proofs.length.read_length.Goals as goal

pub returns-in-Err-clause-fault : goal.returns-in-Err-clause-fault
returns-in-Err-clause-fault g c =
    let size : length (take c.in-Ok.taken c.take_varint.new.bytes) ≡ c.in-Ok.taken = length-take-le _ _ (omega (arith, c.in-Ok.ensures.within)) in
    length_refused _ _ _ _ _ _ _ (omega (arith, size, c.in-Ok.ensures.within)) (omega (arith, size)) c.in-Ok.ensures.taken c.in-Ok.ensures.ends c.in-Err.ensures.fault c.new.ensures.items

pub returns-in-Err-clause-within : goal.returns-in-Err-clause-within
returns-in-Err-clause-within g c =
    let size : length (take c.in-Ok.taken c.take_varint.new.bytes) ≡ c.in-Ok.taken = length-take-le _ _ (omega (arith, c.in-Ok.ensures.within)) in
    (_, c.in-Ok.ensures.taken, in_frame _ _ _ (omega (arith, size, c.in-Ok.ensures.within)) c.in-Ok.ensures.ends)

pub returns-in-Ok-read_varint-clause-fault : goal.returns-in-Ok-read_varint-clause-fault
returns-in-Ok-read_varint-clause-fault g c =
    let all = varint_taken _ _ _ _ c.in-Ok.ensures.ends c.in-Ok-read_varint.ensures.within c.in-Ok-read_varint.ensures.found in
    length_too_large _ _ _ _ _ _ c.in-Ok.ensures.taken all.1 (omega arith) c.new-in-Ok-read_varint.ensures.items

pub returns-in-Ok-read_varint-clause-within : goal.returns-in-Ok-read_varint-clause-within
returns-in-Ok-read_varint-clause-within g c =
    let size : length (take c.in-Ok.taken c.take_varint.new.bytes) ≡ c.in-Ok.taken = length-take-le _ _ (omega (arith, c.in-Ok.ensures.within)) in
    (_, c.in-Ok.ensures.taken, in_frame _ _ _ (omega (arith, size, c.in-Ok.ensures.within)) c.in-Ok.ensures.ends)

pub returns-in-Ok-2-clause-length : goal.returns-in-Ok-2-clause-length
returns-in-Ok-2-clause-length g c =
    let all = varint_taken _ _ _ _ c.in-Ok.ensures.ends c.in-Ok-read_varint.ensures.within c.in-Ok-read_varint.ensures.found in
    (_, all.1, sym all.0, c.in-Ok.ensures.taken)
