-- The first bytes are taken, and then those that the input gives after them.
use Rattle.std.proofs.Common.{◌≡◌, ◌-◌, ◌<◌, ℕ, length, refl, arith, inl, inr, ◌⊎◌, ⊎_elim, zero, suc}
use Rattle.std.proofs.lemmas.Result.{err_from_is_err_and}
use Rattle.pb_decode.specs.Reader.Start.{further, ReportedFrom}
use Rattle.pb_decode.specs.Loops.{ReportedOf}
use Rattle.pb_decode.proofs.DeviceLemmas.{reads_front, reads_more, reported_after, takes_after, if_refused_weaker, if_fault_refused}
use Rattle.pb_decode.proofs.frame.take_frame.Goals as goal

end_or_all : (size : ℕ) (E : Type 0) → (0 < size → E) → (0 ≡ size) ⊎ E
end_or_all zero E h = inl refl
end_or_all (suc n) E h = inr (h (omega arith))

pub returns-in_err-take_onward-clause-fault : goal.returns-in_err-take_onward-clause-fault
returns-in_err-take_onward-clause-fault g c =
    λ x o given took.
    let p = err_from_is_err_and c.from_residual.result c.from_residual.ensures.1 in
    rw (p.1, p.2)
    (if_fault_refused c.in_err-take_onward.field-0.0 (ReportedFrom c.args.pool.now (further o c.args.first.now)) (ReportedOf c.args.pool.now o x (g.I.Input.left c.args.input.now) c.args.size)
    (λ f reported. record { bytes = c.args.first.now; few = c.requires.count; given = given; reported = reported }) (c.in_err-take_onward.ensures.fault o took))

pub returns-in_err-take_onward-clause-taken : goal.returns-in_err-take_onward-clause-taken
returns-in_err-take_onward-clause-taken g c = λ x given. (c.args.first.now, c.requires.count, given)

pub returns-then-count-eq0-clause-read : goal.returns-then-count-eq0-clause-read
returns-then-count-eq0-clause-read g c =
    λ x given.
    let none = c.if-count-eq0.true in
    reads_front x (g.I.Input.left c.args.input.now) c.args.first.now (omega (arith, none)) given c.in_ok-take_onward.ensures.took

pub returns-then-count-eq0-clause-ends : goal.returns-then-count-eq0-clause-ends
returns-then-count-eq0-clause-ends g c =
    let none = c.if-count-eq0.true in
    end_or_all c.args.size _ (c.requires.ends (omega (arith, none)))

pub returns-then-count-eq0-clause-taken : goal.returns-then-count-eq0-clause-taken
returns-then-count-eq0-clause-taken g c = λ x given. (c.args.first.now, c.requires.count, given)

pub read_pieces-requires-clause-took : goal.read_pieces-requires-clause-took
read_pieces-requires-clause-took g c = (
  further c.requires.took.0 c.args.first.now,
  c.in_ok-take_onward.ensures.took c.requires.took.0 c.requires.took.1,
)

pub returns-in_err-more-clause-fault : goal.returns-in_err-more-clause-fault
returns-in_err-more-clause-fault g c =
    λ x o given took.
    let p = err_from_is_err_and c.from_residual-in_err-more.result c.from_residual-in_err-more.ensures.1 in
    let count = c.requires.count in
    rw (p.1, p.2)
    (if_refused_weaker c.in_err-more.field-0.0 _ (ReportedOf c.args.pool.now o x (g.I.Input.left c.read_pieces.new.input) c.args.size)
    (λ f (reported : ReportedOf c.args.pool.now (further o c.args.first.now) (g.I.Input.left c.args.input.now) (g.I.Input.left c.read_pieces.new.input) (c.args.size - length c.args.first.now) f).
    reported_after o f x (g.I.Input.left c.args.input.now) (g.I.Input.left c.read_pieces.new.input) c.args.first.now (omega (arith, count)) given reported)
    (c.in_err-more.ensures.fault (further o c.args.first.now) (c.in_ok-take_onward.ensures.took o took)))

pub returns-in_err-more-clause-taken : goal.returns-in_err-more-clause-taken
returns-in_err-more-clause-taken g c =
    λ x given.
    let count = c.requires.count in
    takes_after x (g.I.Input.left c.args.input.now) (g.I.Input.left c.read_pieces.new.input) c.args.first.now (omega (arith, count)) given c.in_err-more.ensures.taken

pub returns-clause-read : goal.returns-clause-read
returns-clause-read g c =
    λ x given.
    reads_more refl (reads_front x (g.I.Input.left c.args.input.now) c.args.first.now refl given c.in_ok-take_onward.ensures.took) c.in_ok-more.ensures.read

pub returns-clause-ends : goal.returns-clause-ends
returns-clause-ends g c =
    let count = c.requires.count in
    ⊎_elim (λ (all : c.in_ok-more.more ≡ c.args.size - length c.args.first.now). inl (omega (arith, count, all))) (λ ended. inr ended) c.in_ok-more.ensures.ends

pub returns-clause-taken : goal.returns-clause-taken
returns-clause-taken g c =
    λ x given.
    let count = c.requires.count in
    takes_after x (g.I.Input.left c.args.input.now) (g.I.Input.left c.read_pieces.new.input) c.args.first.now (omega (arith, count)) given c.in_ok-more.ensures.taken
