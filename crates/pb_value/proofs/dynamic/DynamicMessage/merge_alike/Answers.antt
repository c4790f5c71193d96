use Rattle.std.proofs.Common.{sym, ap, subst}
use Rattle.pb_wire.specs.Limits.{full}
use Rattle.pb_schema.specs.Rules.{IsPool}
use Rattle.pb_value.specs.Dynamic.{Dynamic}
use Rattle.pb_value.specs.Derives.{Text}
use Rattle.pb_value.specs.View.{body_view}
use Rattle.pb_value.specs.WellFormed.{IsWellFormed}
use Rattle.pb_value.proofs.MergedWell.{merged_is_well_formed}
use Rattle.pb_value.proofs.JoinedTexts.{merged_text}
use Rattle.pb_value.proofs.MergeInPlace.{over_within, merged_dynamic, alike_well}
use Rattle.pb_value.proofs.dynamic.DynamicMessage.merge_alike.Goals as goal

pub merge_body-requires-clause-rules : goal.merge_body-requires-clause-rules
merge_body-requires-clause-rules c = subst (λ (d : Dynamic). IsPool d.pool) (sym c.self.view_is) c.requires.rules

pub invariant_of-result : goal.invariant_of-result
invariant_of-result c =
    let made = over_within c.self.inside.pool.now c.self.inside.kind.0 (body_view c.self.inside.body) (body_view c.other.inside.body) (body_view c.merge_body.new.message) c.in_ok-merge_body.ensures.ok c.other.invariant.1.depth in
    let seen = merged_dynamic c.args.self c.args.other c.self.inside.pool.now c.self.inside.kind.0 (body_view c.self.inside.body) (body_view c.other.inside.body) (body_view c.merge_body.new.message)
    c.self.view_is (ap (λ (d : Dynamic). d.body) c.other.view_is) made in
    let own = subst (λ (d : Dynamic). IsWellFormed d.pool d.kind d.body) c.self.view_is c.self.invariant.1 in
    let other = alike_well c.args.self c.args.other c.requires.alike (subst (λ (d : Dynamic). IsWellFormed d.pool d.kind d.body) c.other.view_is c.other.invariant.1) in
    (c.self.invariant.0, subst (λ (d : Dynamic). IsWellFormed d.pool d.kind d.body) (sym seen) (merged_is_well_formed c.args.self.pool c.requires.rules c.args.self.kind c.args.self.body c.args.other.body own other))

pub returns-clause-merged : goal.returns-clause-merged
returns-clause-merged c =
    merged_dynamic c.args.self c.args.other c.self.inside.pool.now c.self.inside.kind.0 (body_view c.self.inside.body) (body_view c.other.inside.body) (body_view c.merge_body.new.message)
    c.self.view_is (ap (λ (d : Dynamic). d.body) c.other.view_is)
    (over_within c.self.inside.pool.now c.self.inside.kind.0 (body_view c.self.inside.body) (body_view c.other.inside.body) (body_view c.merge_body.new.message) c.in_ok-merge_body.ensures.ok c.other.invariant.1.depth)

pub returns-clause-text : goal.returns-clause-text
returns-clause-text c =
    λ small.
    let made = over_within c.self.inside.pool.now c.self.inside.kind.0 (body_view c.self.inside.body) (body_view c.other.inside.body) (body_view c.merge_body.new.message) c.in_ok-merge_body.ensures.ok c.other.invariant.1.depth in
    let seen = merged_dynamic c.args.self c.args.other c.self.inside.pool.now c.self.inside.kind.0 (body_view c.self.inside.body) (body_view c.other.inside.body) (body_view c.merge_body.new.message)
    c.self.view_is (ap (λ (d : Dynamic). d.body) c.other.view_is) made in
    let own = subst (λ (d : Dynamic). IsWellFormed d.pool d.kind d.body) c.self.view_is c.self.invariant.1 in
    let other = alike_well c.args.self c.args.other c.requires.alike (subst (λ (d : Dynamic). IsWellFormed d.pool d.kind d.body) c.other.view_is c.other.invariant.1) in
    subst (Text c.args.self.pool c.args.self.kind full _) (sym (ap (λ (d : Dynamic). d.body) seen)) (merged_text c.args.self.pool c.requires.rules c.args.self.kind c.args.self.body c.args.other.body own other small)
