use Rattle.std.proofs.Common.{◌↔◌, ℕ, Option, IfSome, refl, subst, sym, ◌∙◌}
use Rattle.pb_schema.specs.View.{types_of}
use Rattle.pb_schema.specs.Imports.{IsSeen}
use Rattle.pb_schema.specs.Rules.{TypeIsSeen}
use Rattle.pb_schema.proofs.RuleLemmas.{ok_iff, seen_by_file}
use Rattle.pb_schema.proofs.rules.fields.type_is_seen.Goals as goal

pub returns-in-Some-clause-seen : goal.returns-in-Some-clause-seen
returns-in-Some-clause-seen c =
    let ts = types_of c.args.files.now c.args.messages.now c.args.enums.now in
    let e = sym c.file_of_kind.ensures ∙ c.in-Some.is in
    ok_iff c.sees.result (subst (λ (o : Option ℕ). IfSome o (IsSeen ts.files c.args.file) ↔ TypeIsSeen ts c.args.file c.args.kind) e (seen_by_file ts c.args.file c.args.kind)) c.sees.ensures.seen

pub returns-in-None-clause-seen : goal.returns-in-None-clause-seen
returns-in-None-clause-seen c =
    let ts = types_of c.args.files.now c.args.messages.now c.args.enums.now in
    let e = sym c.file_of_kind.ensures ∙ c.in-None.is in
    (λ _. (seen_by_file ts c.args.file c.args.kind).0 (subst (λ (o : Option ℕ). IfSome o (IsSeen ts.files c.args.file)) (sym e) tt), λ _. refl)
