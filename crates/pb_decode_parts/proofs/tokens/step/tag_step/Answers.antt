-- After the tag its value or length comes next, unless that would open one level too many.
use Rattle.std.proofs.Common.{◌≡◌, ℕ, Some, refl, sym, ap, ◌∙◌, subst, arith}
use Rattle.pb_decode_parts.specs.declared.tokens.step.Step.TheVariants as step
use Rattle.pb_decode_parts.specs.Tokens.After.{tag, HasLevelFor}
use Rattle.pb_decode_parts.proofs.AfterLemmas.{after_tag}
use Rattle.pb_decode_parts.proofs.DeepLemmas.{too_deep_reported}
use Rattle.pb_decode_parts.proofs.tokens.step.tag_step.Goals as goal

pub returns-then-not-has_level-clause-too_deep : goal.returns-then-not-has_level-clause-too_deep
returns-then-not-has_level-clause-too_deep c =
    λ m depth levels base p0 q u parents scope s depth_left has.
    let deep = c.if-not-has_level.ensures.deep refl in
    too_deep_reported c.args.number c.args.wire_type c.target_of-target.result s has c.target_of-target.ensures deep.0 c.requires.no_start (depth_left ∙ deep.1)

pub returns-in-0-clause-goes_on : goal.returns-in-0-clause-goes_on
returns-in-0-clause-goes_on c =
    λ m depth levels base p0 q u parents scope s depth_left has.
    after_tag (step.Varint c.args.number c.target_of-target.result) (tag c.args.number c.args.wire_type c.target_of-target.result) s (ap (λ (z : ℕ). Some (tag c.args.number z c.target_of-target.result)) (sym c.in-0.is)) has c.target_of-target.ensures
    (subst (λ (z : ℕ). HasLevelFor z c.target_of-target.result) (sym depth_left) (c.if-not-has_level.ensures.depth_left refl))

pub returns-in-1-clause-goes_on : goal.returns-in-1-clause-goes_on
returns-in-1-clause-goes_on c =
    λ m depth levels base p0 q u parents scope s depth_left has.
    after_tag (step.I64 c.args.number c.target_of-target.result) (tag c.args.number c.args.wire_type c.target_of-target.result) s (ap (λ (z : ℕ). Some (tag c.args.number z c.target_of-target.result)) (sym c.in-1.is)) has c.target_of-target.ensures
    (subst (λ (z : ℕ). HasLevelFor z c.target_of-target.result) (sym depth_left) (c.if-not-has_level.ensures.depth_left refl))

pub returns-in-2-clause-goes_on : goal.returns-in-2-clause-goes_on
returns-in-2-clause-goes_on c =
    λ m depth levels base p0 q u parents scope s depth_left has.
    after_tag (step.Length c.args.number c.target_of-target.result) (tag c.args.number c.args.wire_type c.target_of-target.result) s (ap (λ (z : ℕ). Some (tag c.args.number z c.target_of-target.result)) (sym c.in-2.is)) has c.target_of-target.ensures
    (subst (λ (z : ℕ). HasLevelFor z c.target_of-target.result) (sym depth_left) (c.if-not-has_level.ensures.depth_left refl))

pub returns-in_default-clause-goes_on : goal.returns-in_default-clause-goes_on
returns-in_default-clause-goes_on c =
    λ m depth levels base p0 q u parents scope s depth_left has.
    let five : c.args.wire_type ≡ 5 = omega (arith, c.requires.known, c.requires.no_start, c.requires.no_end) in
    after_tag (step.I32 c.args.number c.target_of-target.result) (tag c.args.number c.args.wire_type c.target_of-target.result) s (ap (λ (z : ℕ). Some (tag c.args.number z c.target_of-target.result)) (sym five)) has c.target_of-target.ensures
    (subst (λ (z : ℕ). HasLevelFor z c.target_of-target.result) (sym depth_left) (c.if-not-has_level.ensures.depth_left refl))
