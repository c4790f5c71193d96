use Rattle.std.proofs.Common.{rules, ◌≡◌, ap, ◌∙◌, length}
use Rattle.std.specs.Io.KnownBytes.{Appends}
use Rattle.pb_wire.specs.Varint.{shortest}
use Rattle.pb_encode.specs.Encoding.{bytes_of}
use Rattle.pb_stream.proofs.WritingLemmas.{cut_in_frame}
use Rattle.pb_stream.proofs.writing.write_delimited.Goals as goal

pub returns-in-Err-Device-clause-refused : goal.returns-in-Err-Device-clause-refused
returns-in-Err-Device-clause-refused g c =
    let size : c.from.result ≡ length (bytes_of c.args.message.now) = cc (ap (λ m. length (bytes_of m)) c.in_ok-plan.ensures.made) in
    let kept : g.O.Output.failures c.write_all.new.output ≡ g.O.Output.failures c.args.output.now = search rules in
    let out : Appends (g.O.Output.written c.args.output.now) (g.O.Output.written c.write_all.new.output) c.as_slice.result.now = search rules in
    let shortest_is = c.put_varint-front.ensures.shortest ∙ ap shortest size in
    (c.in_ok-plan.ensures.fits, cut_in_frame g.O.Output.written g.O.Output.failures c.args.output.now c.write_all.new.output c.write_to.new.output _ _ _ _ _ _ c.in_ok-plan.ensures.made c.in-Err-Device.field-0-is (c.as_slice.ensures ∙ shortest_is) (c.as_slice-in-Err-Device.ensures ∙ shortest_is) kept out c.in-Err-Device.ensures.failed)
