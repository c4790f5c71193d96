-- What is reported of the element is reported of the input.
use Rattle.std.proofs.Common.{ℕ, ◌+◌, Option, ◌∙◌, refl, sym, subst, arith}
use Rattle.pb_wire.specs.Fault.{fault}
use Rattle.pb_wire.specs.Scan.{given_at, passed}
use Rattle.pb_wire.specs.declared.scan.Scanned.TheVariants as token
use Rattle.pb_decode_parts.specs.declared.tokens.step.Step.{Step}
use Rattle.pb_decode_parts.specs.Tokens.Numbers.{TellsNumber}
use Rattle.pb_decode_parts.specs.Tokens.After.{After}
use Rattle.pb_decode_parts.specs.Tokens.Number.{IsNumberType}
use Rattle.pb_decode_parts.specs.Open.PartView.{part_view}
use Rattle.pb_decode.specs.Reader.{state_view, here, path_here}
use Rattle.pb_decode.proofs.ReaderLemmas.{fault_reported}
use Rattle.pb_decode_parts.proofs.NumberTokens.{size_some}
use Rattle.pb_decode_whole.proofs.ListHolds.{list_can_hold}
use Rattle.pb_decode.proofs.ElementLemmas.{list_types, element_short, element_refused, after_reads}
use Rattle.pb_decode.proofs.WaitLemmas.{element_waits}
use Rattle.pb_decode.proofs.reader.state.State.take_element.Goals as goal

pub number_at-requires : goal.number_at-requires
number_at-requires c =
    subst IsNumberType (sym c.wire_type.ensures)
    (list_types (state_view c.args.self.now) c.args.bytes.now c.args.number c.args.kind c.requires.step.0 c.requires.can.reading.reads c.requires.step.1)

pub put_element-requires : goal.put_element-requires
put_element-requires c =
    let from = c.requires.can.reading in
    list_can_hold c.args.number c.args.kind c.requires.step.0 c.requires.can.rules
    (subst (λ (z : Step). After c.args.by.now.pool.now from.m from.depth from.levels from.base from.p0 (state_view c.args.self.now).parents z (state_view c.args.self.now).now (state_view c.args.self.now).scope (here (state_view c.args.self.now) c.args.bytes.now)) c.requires.step.1 from.reads)

pub overflow_cast-self : goal.overflow_cast-self
overflow_cast-self c =
    let within = (c.in-Whole.ensures 0).1 in
    let small = c.requires.can.reading.small in
    omega (arith, within, small)

pub overflow_add-self : goal.overflow_add-self
overflow_add-self c =
    let within = (c.in-Whole.ensures 0).1 in
    let small = c.requires.can.reading.small in
    omega (arith, within, small)

pub returns-in_ok-put_element-in-Whole-clause-passes : goal.returns-in_ok-put_element-in-Whole-clause-passes
returns-in_ok-put_element-in-Whole-clause-passes c =
    let reported = c.in-Whole.ensures c.args.self.now.at in
    let some = size_some c.in-Whole.value (given_at c.args.self.now.at c.left.result c.args.bytes.now) c.in-Whole.size reported.2 in
    (reported.1, refl, omega (arith, some))

pub returns-in_ok-put_element-in-Whole-clause-taken : goal.returns-in_ok-put_element-in-Whole-clause-taken
returns-in_ok-put_element-in-Whole-clause-taken c =
    λ m depth levels base p0 begun.
    let s = state_view c.args.self.now in
    let reported = subst (λ (z : Option ℕ). TellsNumber c.wire_type.result (given_at c.args.self.now.at z c.args.bytes.now) (token.Whole c.in-Whole.value c.in-Whole.size)) c.left.ensures (c.in-Whole.ensures c.args.self.now.at) in
    let w = passed (here s c.args.bytes.now) c.in-Whole.size in
    after_reads s (record { at = s.at + c.in-Whole.size; now = part_view c.put_element.new.part; scope = s.scope; parents = s.parents; next = s.next }) c.in-Whole.size c.args.bytes.now refl refl
    (subst (λ (z : Step). After c.args.by.now.pool.now m depth levels base p0 s.parents z (part_view c.put_element.new.part) s.scope w) (sym c.requires.step.1)
    (c.in_ok-put_element-in-Whole.ensures m depth levels c.requires.step.0 base p0 (here s c.args.bytes.now) w s.parents s.scope
    (subst (λ (z : Step). After c.args.by.now.pool.now m depth levels base p0 s.parents z s.now s.scope (here s c.args.bytes.now)) c.requires.step.1 begun) (reported.0 ∙ c.wire_type.ensures) reported.2))

pub returns-in-Short-clause-taken : goal.returns-in-Short-clause-taken
returns-in-Short-clause-taken c =
    λ m depth levels base p0 begun.
    let reported = subst (λ (z : Option ℕ). TellsNumber c.wire_type.result (given_at c.args.self.now.at z c.args.bytes.now) token.Short) c.left.ensures (c.in-Short.ensures c.args.self.now.at) in (
      begun,
      element_short (state_view c.args.self.now) c.args.bytes.now c.args.number c.args.kind c.requires.step.0 begun c.requires.step.1 c.requires.goes_on
          (subst (λ (z : ℕ). TellsNumber z (here (state_view c.args.self.now) c.args.bytes.now) token.Short) c.wire_type.ensures reported),
    )

pub returns-in-Fault-clause-refused : goal.returns-in-Fault-clause-refused
returns-in-Fault-clause-refused c =
    λ m depth levels base p0 begun.
    let reported = subst (λ (z : Option ℕ). TellsNumber c.wire_type.result (given_at c.args.self.now.at z c.args.bytes.now) (token.Fault c.in-Fault.cause)) c.left.ensures (c.in-Fault.ensures c.args.self.now.at) in
    let same = subst (λ (z : ℕ). TellsNumber z (here (state_view c.args.self.now) c.args.bytes.now) (token.Fault c.in-Fault.cause)) c.wire_type.ensures reported in
    fault_reported c.fault_at.result (fault c.args.self.now.at (path_here (state_view c.args.self.now)) c.in-Fault.cause) c.fault_at.ensures
    (element_refused (state_view c.args.self.now) c.args.bytes.now c.args.number c.args.kind c.requires.step.0 c.in-Fault.cause begun c.requires.step.1 c.requires.goes_on same.0 same.1)

pub returns-in-Short-clause-waits : goal.returns-in-Short-clause-waits
returns-in-Short-clause-waits c =
    let reported = subst (λ (z : Option ℕ). TellsNumber c.wire_type.result (given_at c.args.self.now.at z c.args.bytes.now) token.Short) c.left.ensures (c.in-Short.ensures c.args.self.now.at) in
    element_waits (state_view c.args.self.now) c.args.bytes.now c.args.number c.args.kind c.requires.step.0 c.requires.step.1
    (subst (λ (z : ℕ). TellsNumber z (here (state_view c.args.self.now) c.args.bytes.now) token.Short) c.wire_type.ensures reported)
