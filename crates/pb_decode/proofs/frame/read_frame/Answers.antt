-- All bytes of the frame come with the first read, or the others are read after them.
use Rattle.std.proofs.Common.{◌≡◌, ℕ, take, length, subst, arith}
use Rattle.std.proofs.lemmas.List.{length-take, length-take-le}
use Rattle.pb_decode.specs.FromDevice.{TellsFailures}
use Rattle.pb_decode.proofs.InFrame.{text_frame, rest_text}
use Rattle.pb_decode.proofs.frame.read_frame.Goals as goal

pub returns-in-Some-clause-value : goal.returns-in-Some-clause-value
returns-in-Some-clause-value g c =
    let all : length (take c.in_ok-count.count c.read_first.new.buffer) ≡ c.args.size = c.in-Some.ensures.all in
    text_frame (g.I.Input.left c.args.input.now) (g.I.Input.left c.read_first.new.input) c.args.size (take c.in_ok-count.count c.read_first.new.buffer) c.in-Some.message.body all c.in_ok-count.ensures.given c.in-Some.ensures.text

pub returns-in-Some-clause-rest : goal.returns-in-Some-clause-rest
returns-in-Some-clause-rest g c =
    let all : length (take c.in_ok-count.count c.read_first.new.buffer) ≡ c.args.size = c.in-Some.ensures.all in
    rest_text (g.I.Input.left c.args.input.now) (g.I.Input.left c.read_first.new.input) c.args.size (take c.in_ok-count.count c.read_first.new.buffer) all c.in_ok-count.ensures.given

pub read_in_pieces-requires-clause-count : goal.read_in_pieces-requires-clause-count
read_in_pieces-requires-clause-count g c =
    let size = length-take c.in_ok-count.count c.read_first.new.buffer in let count = c.in_ok-count.ensures.count in omega (arith, size, count)

pub read_in_pieces-requires-clause-ends : goal.read_in_pieces-requires-clause-ends
read_in_pieces-requires-clause-ends g c =
    λ none some.
    let fits = c.in_ok-count.ensures.fits in
    let size : length (take c.in_ok-count.count c.read_first.new.buffer) ≡ c.in_ok-count.count = length-take-le c.in_ok-count.count c.read_first.new.buffer (omega (arith, fits)) in
    c.in_ok-count.ensures.ends (omega (arith, none, size)) some

pub returns-in-None-clause-value : goal.returns-in-None-clause-value
returns-in-None-clause-value g c = c.read_in_pieces.ensures.value (g.I.Input.left c.args.input.now) c.in_ok-count.ensures.given

pub returns-in-None-clause-rest : goal.returns-in-None-clause-rest
returns-in-None-clause-rest g c = c.read_in_pieces.ensures.rest (g.I.Input.left c.args.input.now) c.in_ok-count.ensures.given

pub returns-in-None-clause-fault : goal.returns-in-None-clause-fault
returns-in-None-clause-fault g c = c.read_in_pieces.ensures.fault (g.I.Input.left c.args.input.now) c.in_ok-count.ensures.given

pub returns-in-None-clause-most : goal.returns-in-None-clause-most
returns-in-None-clause-most g c = c.read_in_pieces.ensures.most (g.I.Input.left c.args.input.now) c.in_ok-count.ensures.given

pub returns-in-None-clause-failures : goal.returns-in-None-clause-failures
returns-in-None-clause-failures g c = subst (λ (z : ℕ). TellsFailures c.read_in_pieces.result z (g.I.Input.failures c.read_in_pieces.new.input)) c.in_ok-count.ensures.failures c.read_in_pieces.ensures.failures
