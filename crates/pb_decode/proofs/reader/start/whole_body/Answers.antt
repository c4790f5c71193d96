-- Nothing is open but the message, which ends here, or the input ends too early.
use Rattle.std.proofs.Common.{◌≡◌, ℕ, ◌+◌, length, refl, sym, subst}
use Rattle.std.proofs.lemmas.Result.{IfErr-weaker}
use Rattle.pb_wire.specs.Fault.{fault}
use Rattle.pb_wire.specs.declared.fault.Cause.TheVariants.{Truncated}
use Rattle.pb_value.specs.declared.body.Body.{Body}
use Rattle.pb_value.specs.Data.{Message}
use Rattle.pb_value.specs.View.{body_view}
use Rattle.pb_value.specs.WellFormed.{IsWellFormed}
use Rattle.pb_decode.specs.declared.error.DecodeError.{DecodeError}
use Rattle.pb_decode_parts.specs.Open.Parents.{message_part}
use Rattle.pb_decode_parts.specs.Open.PartView.{part_view}
use Rattle.pb_decode.specs.Reader.{state_view, path_here, IfFault}
use Rattle.pb_decode.specs.Reader.Start.{BadFrom, IsWhole}
use Rattle.pb_decode.proofs.ReaderLemmas.{if_fault_weaker}
use Rattle.pb_decode.proofs.Outcomes.{ok_weaker}
use Rattle.pb_decode.proofs.StartLemmas.{is_message, whole_there, well_formed_over, cut_over}
use Rattle.pb_decode.proofs.reader.start.whole_body.Goals as goal

pub returns-then-not-is_over-clause-fault : goal.returns-then-not-is_over-clause-fault
returns-then-not-is_over-clause-fault c =
    λ o took.
    if_fault_weaker c.cut_short.result (λ f. f ≡ fault (c.args.reading.reader.at + length c.args.reading.held.items) (path_here (state_view c.args.reading.reader)) Truncated) (BadFrom c.args.pool.now o)
    (λ f is. subst (BadFrom c.args.pool.now o) (sym is) (cut_over o (state_view c.args.reading.reader) c.args.reading.held.items (c.if-not-is_over.ensures.goes_on refl) took))
    c.cut_short.ensures

pub returns-clause-well_formed : goal.returns-clause-well_formed
returns-clause-well_formed c =
    λ o took.
    ok_weaker c.body_of.result (λ (v : Body). (k : ℕ) × (part_view c.args.reading.reader.part ≡ message_part k (body_view v))) (λ (v : Body). IsWellFormed c.args.pool.now o.kind (body_view v))
    (λ v is. well_formed_over o (state_view c.args.reading.reader) c.args.reading.held.items is.0 (body_view v) c.requires.rules (c.if-not-is_over.ensures.over refl) is.1 took) c.body_of.ensures.message

pub returns-clause-whole : goal.returns-clause-whole
returns-clause-whole c =
    λ o took.
    ok_weaker c.body_of.result (λ (v : Body). (k : ℕ) × (part_view c.args.reading.reader.part ≡ message_part k (body_view v))) (λ (v : Body). IsWhole c.args.pool.now o (body_view v))
    (λ v is. whole_there o (state_view c.args.reading.reader) c.args.reading.held.items is.0 (body_view v) (c.if-not-is_over.ensures.over refl) is.1 took) c.body_of.ensures.message

pub returns-clause-fault : goal.returns-clause-fault
returns-clause-fault c =
    λ o took.
    let top = is_message o (state_view c.args.reading.reader) c.args.reading.held.items (c.if-not-is_over.ensures.over refl) took in
    IfErr-weaker c.body_of.result (λ (e : DecodeError). (k : ℕ) (v : Message) → part_view c.args.reading.reader.part ≡ message_part k v → ⊥) (λ (e : DecodeError). IfFault e (BadFrom c.args.pool.now o))
    (λ e never. absurd (never o.kind top.0 top.1)) c.body_of.ensures.other
