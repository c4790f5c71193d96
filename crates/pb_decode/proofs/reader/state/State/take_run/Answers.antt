-- The elements go into the part of their list.
use Rattle.std.proofs.Common.{◌+◌, ℕ, Option, refl, sym, subst}
use Rattle.pb_wire.specs.Scan.{given_at, passed}
use Rattle.pb_decode_parts.specs.declared.tokens.step.Step.{Step}
use Rattle.pb_decode_parts.specs.declared.tokens.step.Step.TheVariants.{Elements}
use Rattle.pb_decode_parts.specs.Open.Parents.{Part}
use Rattle.pb_decode_parts.specs.Values.Run.{put_run}
use Rattle.pb_decode_parts.specs.Open.PartView.{part_view, scope_view}
use Rattle.pb_decode_parts.specs.Tokens.After.{After}
use Rattle.pb_decode.specs.Reader.{state_view, parents_view, here}
use Rattle.pb_decode.proofs.ElementLemmas.{list_types, after_reads}
use Rattle.pb_decode.proofs.reader.state.State.take_run.Goals as goal

pub read_run-requires : goal.read_run-requires
read_run-requires c = list_types (state_view c.args.self.now) c.args.bytes.now c.args.number c.args.kind c.requires.step.0 c.requires.can.reading.reads c.requires.step.1

pub returns-clause-taken : goal.returns-clause-taken
returns-clause-taken c =
    λ m depth levels base p0 begun.
    let there = subst (λ (z : Step). After c.args.by.now.pool.now m depth levels base p0 (parents_view c.args.self.now.parents.items) z (part_view c.args.self.now.part) (scope_view c.args.self.now.scope) (here (state_view c.args.self.now) c.args.bytes.now)) c.requires.step.1 begun in
    let given = subst (λ (z : Option ℕ). After c.args.by.now.pool.now m depth levels base p0 (parents_view c.args.self.now.parents.items) (Elements c.args.number c.args.kind c.requires.step.0) (part_view c.args.self.now.part) (scope_view c.args.self.now.scope) (given_at c.args.self.now.at z c.args.bytes.now)) (sym c.left.ensures) there in
    let put = c.in_ok-run.ensures.put m depth levels c.args.self.now.at c.requires.step.0 base p0 (parents_view c.args.self.now.parents.items) (scope_view c.args.self.now.scope) (part_view c.args.self.now.part) given in
    let back = subst (λ (z : Option ℕ). After c.args.by.now.pool.now m depth levels base p0 (parents_view c.args.self.now.parents.items) (Elements c.args.number c.args.kind c.requires.step.0) (put_run c.args.number c.in_ok-run.run' (part_view c.args.self.now.part)) (scope_view c.args.self.now.scope) (passed (given_at c.args.self.now.at z c.args.bytes.now) c.in_ok-run.size)) c.left.ensures put in
    after_reads (state_view c.args.self.now)
    (record { at = c.args.self.now.at + c.in_ok-run.size; now = part_view c.put_run.new.part; scope = scope_view c.args.self.now.scope; parents = parents_view c.args.self.now.parents.items; next = c.args.self.now.step })
    c.in_ok-run.size c.args.bytes.now refl refl
    (subst (λ (z : Step). After c.args.by.now.pool.now m depth levels base p0 (parents_view c.args.self.now.parents.items) z (part_view c.put_run.new.part) (scope_view c.args.self.now.scope) (passed (here (state_view c.args.self.now) c.args.bytes.now) c.in_ok-run.size)) (sym c.requires.step.1)
    (subst (λ (z : Part). After c.args.by.now.pool.now m depth levels base p0 (parents_view c.args.self.now.parents.items) (Elements c.args.number c.args.kind c.requires.step.0) z (scope_view c.args.self.now.scope) (passed (here (state_view c.args.self.now) c.args.bytes.now) c.in_ok-run.size)) (sym c.in_ok-put_run.ensures) back))
