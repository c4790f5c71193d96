-- The part says what the record is for.
use Rattle.std.proofs.Common.{◌≡◌, ℕ, Option, subst, sym}
use Rattle.std.specs.Prelude.{IfNone}
use Rattle.pb_decode.specs.declared.reader.state.State.{State as StateKept}
use Rattle.pb_decode.specs.Reader.{state_view}
use Rattle.pb_decode.specs.Reader.Steps.{IsAtLengthTag}
use Rattle.pb_decode.proofs.WholeRecords.{tag_can}
use Rattle.pb_decode.proofs.reader.state.State.take_length_record.Goals as goal

pub target_of-target-requires : goal.target_of-target-requires
target_of-target-requires c = tag_can (state_view c.args.self.now) c.args.bytes.now c.requires.at_tag.rules c.requires.at_tag.reading.reads c.requires.at_tag.step

pub take_bytes_record-requires-clause-at : goal.take_bytes_record-requires-clause-at
take_bytes_record-requires-clause-at c = record { at_tag = c.requires.at_tag; bytes = c.requires.bytes; means = c.target_of-target.ensures }

pub take_inner-requires : goal.take_inner-requires
take_inner-requires c = record { at_tag = c.requires.at_tag; bytes = c.requires.bytes; means = c.target_of-target.ensures }

pub take_opening-requires : goal.take_opening-requires
take_opening-requires c =
    let same : c.take_inner.new.self ≡ c.args.self.now = subst (λ (z : Option ℕ). IfNone z (c.take_inner.new.self ≡ c.args.self.now)) c.in-None.is c.in_ok-size.ensures.none in
    subst (λ (z : StateKept). IsAtLengthTag c.args.by.now.pool.now z c.args.bytes.now c.args.tag c.target_of-target.result) (sym same)
    (record { at_tag = c.requires.at_tag; bytes = c.requires.bytes; means = c.target_of-target.ensures })
