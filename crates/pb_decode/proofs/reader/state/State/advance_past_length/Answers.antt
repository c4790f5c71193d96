-- What is opened is the innermost part, or elements or a payload come next in the same part.
use Rattle.std.proofs.Common.{refl, sym, ap, subst, ◌∙◌, ◌+◌, ℕ, arith}
use Rattle.pb_wire.specs.Grammar.{payload_at}
use Rattle.pb_decode_parts.specs.declared.open.target.Target.{Target}
use Rattle.pb_decode_parts.specs.declared.tokens.step.Step.TheVariants as step
use Rattle.pb_decode_parts.specs.Open.PartView.{part_view, scope_view}
use Rattle.pb_decode_parts.specs.Tokens.After.{After}
use Rattle.pb_decode.specs.Reader.{parents_view, weight}
use Rattle.pb_decode.proofs.LengthSteps.{entered, after_here}
use Rattle.pb_decode.proofs.reader.state.State.advance_past_length.Goals as goal

pub returns-in_ok-enter-in-Message-clause-reads : goal.returns-in_ok-enter-in-Message-clause-reads
returns-in_ok-enter-in-Message-clause-reads c =
    λ pool m depth levels base p0 u t ok can begun l at.
    let enters = c.in_ok-enter-in-Message.ensures in
    entered c.enter.new.self c.open_message-parent.new.part c.open_message-parent.new.scope c.open_message-parent.result (parents_view c.args.self.now.parents.items) (payload_at t c.args.size) enters.parents enters.part.0 enters.part.1 enters.at.1 (at ∙ sym enters.at.0)
    (c.open_message-parent.ensures pool m depth levels c.args.size base p0 u t (parents_view c.args.self.now.parents.items) ok can (subst (λ (z : Target). After pool m depth levels base p0 (parents_view c.args.self.now.parents.items) (step.Length c.args.number z) (part_view c.args.self.now.part) (scope_view c.args.self.now.scope) u) c.in-Message.is begun) l (ap (λ (z : ℕ). z + c.args.size) (sym at)))

pub returns-in_ok-enter-in-Entry-clause-reads : goal.returns-in_ok-enter-in-Entry-clause-reads
returns-in_ok-enter-in-Entry-clause-reads c =
    λ pool m depth levels base p0 u t ok can begun l at.
    let enters = c.in_ok-enter-in-Entry.ensures in
    entered c.enter-in-Entry.new.self c.open_entry-parent.new.part c.open_entry-parent.new.scope c.open_entry-parent.result (parents_view c.args.self.now.parents.items) (payload_at t c.args.size) enters.parents enters.part.0 enters.part.1 enters.at.1 (at ∙ sym enters.at.0)
    (c.open_entry-parent.ensures pool m depth levels c.args.size base p0 u t (parents_view c.args.self.now.parents.items) ok can (subst (λ (z : Target). After pool m depth levels base p0 (parents_view c.args.self.now.parents.items) (step.Length c.args.number z) (part_view c.args.self.now.part) (scope_view c.args.self.now.scope) u) c.in-Entry.is begun) l (ap (λ (z : ℕ). z + c.args.size) (sym at)))

pub returns-in-Packed-clause-at : goal.returns-in-Packed-clause-at
returns-in-Packed-clause-at c = let light = ap weight c.begin_list-self.ensures.step in (refl, omega (arith, light))

pub returns-in-Packed-clause-reads : goal.returns-in-Packed-clause-reads
returns-in-Packed-clause-reads c =
    λ pool m depth levels base p0 u t ok can begun l at.
    after_here _ _ (payload_at t c.args.size) (c.begin_list-self.ensures.after pool m depth levels c.args.size base p0 u t (parents_view c.args.self.now.parents.items) (part_view c.args.self.now.part) (subst (λ (z : Target). After pool m depth levels base p0 (parents_view c.args.self.now.parents.items) (step.Length c.args.number z) (part_view c.args.self.now.part) (scope_view c.args.self.now.scope) u) c.in-Packed.is begun) l (ap (λ (z : ℕ). z + c.args.size) (sym at))) at refl
