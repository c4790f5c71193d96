use Rattle.std.proofs.Common.{◌<◌, All, subst}
use Rattle.std.proofs.lemmas.Bool.{false≢true}
use Rattle.pb_graphs.specs.Flat.{lists_of}
use Rattle.pb_link_names.specs.Components.{number_of}
use Rattle.pb_link_names.proofs.ComponentLemmas.{not_back}
use Rattle.pb_link_rules.proofs.cycles.is_cyclic.Goals as goal

pub returns-then-are_below-clause-exact : goal.returns-then-are_below-clause-exact
returns-then-are_below-clause-exact c =
    let numbers = c.args.numbers.now in
    let file = c.args.file in
    let bounded = subst (λ b. All (λ k. number_of numbers k < b) c.next.result.now) c.number_of-number.ensures (c.are_below.ensures.0 c.if-are_below.true) in
    let below = subst (All (λ k. number_of numbers k < number_of numbers file)) c.next.ensures.exact bounded in (
      λ h. absurd (false≢true h),
      λ way. absurd (not_back (lists_of c.args.imports.now.all) numbers file c.requires.numbers below way),
    )
