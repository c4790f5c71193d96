use Rattle.std.proofs.Common.{◌∙◌, ℕ, List, ap, drop_of_length-le, sym}
use Rattle.pb_wire.specs.Unknown.{records_of}
use Rattle.pb_wire.specs.declared.unknown.Unknown.{Unknown}
use Rattle.pb_listing.specs.Listing.{unknown_lines}
use Rattle.pb_listing.proofs.ListingLemmas.{unknown_next}
use Rattle.pb_listing.proofs.PuttingLemmas.{left_lost, left_more, left_none, left_start}
use Rattle.pb_listing.proofs.unknown.put_unknown.Goals as goal

pub loop-number-preserved : goal.loop-number-preserved
loop-number-preserved g c = λ within.
    let next = unknown_next c.args.level c.args.records.now c.loop-number.number-index c.loop-number-item.result c.loop-number-test.true c.loop-number-item.is in
    left_more _ _ _ _ (c.loop-number.invariant within) next.1 next.0 c.put_unknown_record.ensures

pub returns-then-has_failed : goal.returns-then-has_failed
returns-then-has_failed g c = λ within. left_lost (c.loop-number.invariant within) (sym c.has_failed.ensures ∙ c.if-has_failed.true)

pub loop-number-init : goal.loop-number-init
loop-number-init g c = λ within. left_start _ _ _ within

pub returns : goal.returns
returns g c = λ within.
    left_none (c.loop-number.invariant within)
    (ap (λ (xs : List (ℕ × Unknown)). unknown_lines c.args.level (records_of xs)) (drop_of_length-le c.args.records.now c.loop-number-test.false))
