-- What is reported of the number is reported of the input.
use Rattle.std.proofs.Common.{ℕ, ◌+◌, Option, Some, ◌∙◌, refl, sym, ap, subst, arith}
use Rattle.pb_wire.specs.Fault.{fault}
use Rattle.pb_wire.specs.Scan.{given_at, passed}
use Rattle.pb_wire.specs.declared.scan.Scanned.TheVariants as token
use Rattle.pb_decode_parts.specs.Tokens.Numbers.{TellsNumber}
use Rattle.pb_decode_parts.specs.declared.tokens.step.Step.TheVariants.{Tag}
use Rattle.pb_decode_parts.specs.Open.Parents.{Scope, Reached}
use Rattle.pb_decode_parts.specs.Open.PartView.{part_view, scope_view}
use Rattle.pb_decode_parts.specs.Tokens.After.{tag}
use Rattle.pb_decode.specs.Reader.{state_view, here, path_here}
use Rattle.pb_decode.proofs.ReaderLemmas.{number_short, number_refused, reached_reads, fault_reported}
use Rattle.pb_decode_parts.proofs.NumberTokens.{size_some}
use Rattle.pb_decode.proofs.ReaderSafe.{awaited_can, awaited_few}
use Rattle.pb_decode.proofs.WaitLemmas.{number_waits}
use Rattle.pb_decode.proofs.reader.state.State.take_number.Goals as goal

pub put_number-requires-clause-can : goal.put_number-requires-clause-can
put_number-requires-clause-can c = awaited_can (tag c.args.number c.args.wire_type c.args.target) c.requires.can.rules c.requires.can.reading.reads c.requires.step

pub count_one-requires : goal.count_one-requires
count_one-requires c =
    let few = awaited_few (tag c.args.number c.args.wire_type c.args.target) c.args.number c.requires.can.reading.reads c.requires.step in
    let small = c.requires.can.reading.small in
    omega (arith, few, small)

pub overflow_cast-self : goal.overflow_cast-self
overflow_cast-self c =
    let within = (c.in-Whole.ensures 0).1 in
    let small = c.requires.can.reading.small in
    omega (arith, within, small)

pub overflow_add-self : goal.overflow_add-self
overflow_add-self c =
    let within = (c.in-Whole.ensures 0).1 in
    let small = c.requires.can.reading.small in
    omega (arith, within, small)

pub returns-in_ok-count_one-in-Whole-clause-passes : goal.returns-in_ok-count_one-in-Whole-clause-passes
returns-in_ok-count_one-in-Whole-clause-passes c =
    let reported = c.in-Whole.ensures c.args.self.now.at in
    let some = size_some c.in-Whole.value (given_at c.args.self.now.at c.left.result c.args.bytes.now) c.in-Whole.size reported.2 in
    (reported.1, refl, omega (arith, some))

pub returns-in_ok-count_one-in-Whole-clause-taken : goal.returns-in_ok-count_one-in-Whole-clause-taken
returns-in_ok-count_one-in-Whole-clause-taken c =
    λ m depth levels base p0 begun.
    let s = state_view c.args.self.now in
    let reported = subst (λ (z : Option ℕ). TellsNumber c.args.wire_type (given_at c.args.self.now.at z c.args.bytes.now) (token.Whole c.in-Whole.value c.in-Whole.size)) c.left.ensures (c.in-Whole.ensures c.args.self.now.at) in
    let w = passed (here s c.args.bytes.now) c.in-Whole.size in
    reached_reads s
    (record { at = s.at + c.in-Whole.size; now = part_view c.put_number.new.part; scope = scope_view c.count_one.new.scope; parents = s.parents; next = Tag })
    c.in-Whole.size c.args.bytes.now refl c.in_ok-count_one-in-Whole.ensures.same_end refl
    (subst (λ (z : Scope). Reached c.args.by.now.pool.now m depth levels base p0 s.parents (part_view c.put_number.new.part) z w) (sym c.in_ok-count_one-in-Whole.ensures.more)
    (c.in_ok-put_number-in-Whole.ensures m depth levels base p0 (here s c.args.bytes.now) w s.parents s.scope s.next begun
    (c.requires.step ∙ ap (λ (z : ℕ). Some (tag c.args.number z c.args.target)) (sym reported.0)) reported.2))

pub returns-in-Short-clause-taken : goal.returns-in-Short-clause-taken
returns-in-Short-clause-taken c =
    λ m depth levels base p0 begun.
    let reported = subst (λ (z : Option ℕ). TellsNumber c.args.wire_type (given_at c.args.self.now.at z c.args.bytes.now) token.Short) c.left.ensures (c.in-Short.ensures c.args.self.now.at) in
    (begun, number_short (state_view c.args.self.now) c.args.bytes.now (tag c.args.number c.args.wire_type c.args.target) begun c.requires.step reported)

pub returns-in-Fault-clause-refused : goal.returns-in-Fault-clause-refused
returns-in-Fault-clause-refused c =
    λ m depth levels base p0 begun.
    let reported = subst (λ (z : Option ℕ). TellsNumber c.args.wire_type (given_at c.args.self.now.at z c.args.bytes.now) (token.Fault c.in-Fault.cause)) c.left.ensures (c.in-Fault.ensures c.args.self.now.at) in
    fault_reported c.fault_at.result (fault c.args.self.now.at (path_here (state_view c.args.self.now)) c.in-Fault.cause) c.fault_at.ensures
    (number_refused (state_view c.args.self.now) c.args.bytes.now (tag c.args.number c.args.wire_type c.args.target) c.in-Fault.cause begun c.requires.step reported.0 reported.1)

pub returns-in-Short-clause-waits : goal.returns-in-Short-clause-waits
returns-in-Short-clause-waits c =
    let reported = subst (λ (z : Option ℕ). TellsNumber c.args.wire_type (given_at c.args.self.now.at z c.args.bytes.now) token.Short) c.left.ensures (c.in-Short.ensures c.args.self.now.at) in
    number_waits (state_view c.args.self.now) c.args.bytes.now (tag c.args.number c.args.wire_type c.args.target) c.requires.number c.requires.step reported
