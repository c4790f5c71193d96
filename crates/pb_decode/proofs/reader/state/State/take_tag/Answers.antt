-- A tag is taken whole, or refused, or it is cut, or there is none.
use Rattle.std.proofs.Common.{◌≡◌, ◌≢◌, ◌⊎◌, [], ℕ, Option, Some, None, refl, subst, arith}
use Rattle.std.proofs.lemmas.Result.{err_from_is_err_and}
use Rattle.pb_wire.specs.Fault.{Place, fault, input_end, HasTag, TagFault, VarintFault}
use Rattle.pb_wire.specs.declared.fault.Cause.TheVariants.{Truncated}
use Rattle.pb_wire.specs.Scan.{passed}
use Rattle.pb_decode_parts.proofs.TokenReports.{tag_reported}
use Rattle.pb_decode.specs.Reader.{state_view, left_of, path_here}
use Rattle.pb_decode.proofs.ReaderLemmas.{fault_reported}
use Rattle.pb_decode.proofs.EndedLemmas.{has_reached}
use Rattle.pb_decode.proofs.TagTaken.{light, tag_long, at_own_left, cut_tag, stops_at_tag, tag_short, refused_at_tag}
use Rattle.pb_decode.proofs.WaitLemmas.{end_waits, tag_waits}
use Rattle.pb_decode.proofs.reader.state.State.take_tag.Goals as goal

pub returns-then-is_spent-clause-taken : goal.returns-then-is_spent-clause-taken
returns-then-is_spent-clause-taken c =
    λ m depth levels base p0 begun. (
      begun,
      stops_at_tag (state_view c.args.self.now) c.args.bytes.now begun c.requires.step c.requires.goes_on
          (subst (λ (z : Option ℕ). (c.args.bytes.now ≡ []) ⊎ (z ≡ Some 0)) c.left.ensures c.if-is_spent.ensures),
    )

pub advance_past_tag-requires-clause-at_tag : goal.advance_past_tag-requires-clause-at_tag
advance_past_tag-requires-clause-at_tag c =
    let tag = at_own_left (λ (p : Place). HasTag p c.in-Whole.parts.number c.in-Whole.parts.wire_type (passed p c.in-Whole.size)) (state_view c.args.self.now) c.left-2.result c.args.bytes.now c.left-2.ensures (c.in-Whole.ensures c.args.self.now.at).1 in
    (c.args.bytes.now, record { rules = c.requires.can.rules; reading = c.requires.can.reading; step = c.requires.step; within = (c.in-Whole.ensures c.args.self.now.at).0; there = tag })

pub advance_past_tag-requires-clause-known : goal.advance_past_tag-requires-clause-known
advance_past_tag-requires-clause-known c = (c.in-Whole.ensures c.args.self.now.at).1.type

pub returns-in_err-advance_past_tag-in-Whole-clause-refused : goal.returns-in_err-advance_past_tag-in-Whole-clause-refused
returns-in_err-advance_past_tag-in-Whole-clause-refused c =
    λ m depth levels base p0 begun.
    let tag = at_own_left (λ (p : Place). HasTag p c.in-Whole.parts.number c.in-Whole.parts.wire_type (passed p c.in-Whole.size)) (state_view c.args.self.now) c.left-2.result c.args.bytes.now c.left-2.ensures (c.in-Whole.ensures c.args.self.now.at).1 in
    let p = err_from_is_err_and c.from_residual.result c.from_residual.ensures.1 in
    rw (p.1, p.2) (c.in_err-advance_past_tag-in-Whole.ensures.refused m depth levels base p0 c.args.bytes.now begun tag)

pub returns-in_ok-advance_past_tag-in-Whole-clause-passes : goal.returns-in_ok-advance_past_tag-in-Whole-clause-passes
returns-in_ok-advance_past_tag-in-Whole-clause-passes c =
    let there = c.in-Whole.ensures c.args.self.now.at in
    let some = tag_long _ c.in-Whole.size there.1 in
    let small = light c.advance_past_tag.new.self.step in
    (there.0, c.in_ok-advance_past_tag-in-Whole.ensures.at, omega (arith, some, small))

pub returns-in_ok-advance_past_tag-in-Whole-clause-taken : goal.returns-in_ok-advance_past_tag-in-Whole-clause-taken
returns-in_ok-advance_past_tag-in-Whole-clause-taken c =
    λ m depth levels base p0 begun.
    let tag = at_own_left (λ (p : Place). HasTag p c.in-Whole.parts.number c.in-Whole.parts.wire_type (passed p c.in-Whole.size)) (state_view c.args.self.now) c.left-2.result c.args.bytes.now c.left-2.ensures (c.in-Whole.ensures c.args.self.now.at).1 in
    c.in_ok-advance_past_tag-in-Whole.ensures.reads m depth levels base p0 c.args.bytes.now begun tag

pub returns-in-Short-clause-taken : goal.returns-in-Short-clause-taken
returns-in-Short-clause-taken c =
    λ m depth levels base p0 begun.
    let s = state_view c.args.self.now in
    let open_end : left_of s ≢ Some 0 = subst (λ (z : Option ℕ). z ≢ Some 0) c.left.ensures c.if-is_spent.ensures.1 in
    let cut = at_own_left (λ (p : Place). VarintFault p (fault (input_end p) [] Truncated)) s c.left-2.result c.args.bytes.now c.left-2.ensures (cut_tag None (c.in-Short.ensures c.args.self.now.at None)) in
    (begun, tag_short s c.args.bytes.now begun c.requires.step open_end c.if-is_spent.ensures.0 cut)

pub returns-in-Fault-clause-refused : goal.returns-in-Fault-clause-refused
returns-in-Fault-clause-refused c =
    λ m depth levels base p0 begun.
    let s = state_view c.args.self.now in
    let open_end : left_of s ≢ Some 0 = subst (λ (z : Option ℕ). z ≢ Some 0) c.left.ensures c.if-is_spent.ensures.1 in
    let bad = at_own_left (λ (p : Place). (c.in-Fault.cause ≢ Truncated) × ((innermost : Option ℕ) → TagFault innermost p (fault c.args.self.now.at [] c.in-Fault.cause))) s c.left-2.result c.args.bytes.now c.left-2.ensures (c.in-Fault.ensures c.args.self.now.at) in
    fault_reported c.fault_at.result (fault c.args.self.now.at (path_here s) c.in-Fault.cause) c.fault_at.ensures
    (refused_at_tag s c.in-Fault.cause c.requires.step bad.0
    (tag_reported c.in-Fault.cause (has_reached s c.args.bytes.now s.parents s.now begun c.requires.step refl refl) open_end c.if-is_spent.ensures.0 bad.1))

pub returns-then-is_spent-clause-waits : goal.returns-then-is_spent-clause-waits
returns-then-is_spent-clause-waits c =
    end_waits (state_view c.args.self.now) c.args.bytes.now c.requires.step c.requires.goes_on (subst (λ (z : Option ℕ). (c.args.bytes.now ≡ []) ⊎ (z ≡ Some 0)) c.left.ensures c.if-is_spent.ensures)

pub returns-in-Short-clause-waits : goal.returns-in-Short-clause-waits
returns-in-Short-clause-waits c =
    let s = state_view c.args.self.now in
    tag_waits s c.args.bytes.now c.requires.step
    (at_own_left (λ (p : Place). VarintFault p (fault (input_end p) [] Truncated)) s c.left-2.result c.args.bytes.now c.left-2.ensures (cut_tag None (c.in-Short.ensures c.args.self.now.at None)))
