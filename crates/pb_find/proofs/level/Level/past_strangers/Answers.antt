use Rattle.std.proofs.Common.{ap, sym}
use Rattle.pb_schema.specs.declared.types.Shape.{Shape}
use Rattle.pb_schema.specs.declared.types.Shape.TheVariants.{Implicit, OneofMember}
use Rattle.pb_find.specs.Found.{shares_oneof}
use Rattle.pb_find.specs.Walk.{ArePassed}
use Rattle.pb_find.proofs.PassingLemmas.{passes_by, shares_none}
use Rattle.pb_find.proofs.WalkLemmas.{some_more}
use Rattle.pb_find.proofs.level.Level.past_strangers.Goals as goal

pub returns-in_default-shape : goal.returns-in_default-shape
returns-in_default-shape c =
    some_more c.past_others-in_default-shape.result _ (λ end. ArePassed c.args.self.now c.in-Some.own.field.now.number Implicit c.args.at end) _
    (λ end h. (h.0, h.1, passes_by c.args.self.now c.in-Some.own Implicit h.0 c.in-Some.is (shares_none c.in-Some.own.field.now.shape c.in_default-shape.not-OneofMember) h.2))
    c.past_others-in_default-shape.ensures

pub returns : goal.returns
returns c =
    some_more c.past_fellows.result _ (λ end. ArePassed c.args.self.now c.in-Some.own.field.now.number (OneofMember c.in-OneofMember.oneof) c.args.at end) _
    (λ end h. (
      h.0,
      h.1,
      passes_by c.args.self.now c.in-Some.own (OneofMember c.in-OneofMember.oneof) h.0 c.in-Some.is (λ g. ap (λ (s : Shape). shares_oneof s g) (sym c.in-OneofMember.is)) h.2,
    ))
    c.past_fellows.ensures
