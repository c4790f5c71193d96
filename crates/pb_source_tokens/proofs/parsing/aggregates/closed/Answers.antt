use Rattle.std.proofs.Common.{rules, arith, ◌≡◌, ◌+◌, ◌<◌, length, reverse, [], ◌∷◌, List, refl, ap, sym, ◌∙◌, Some, None, if◌then◌else◌}
use Rattle.std.proofs.lemmas.List.{length-reverse}
use Rattle.pb_source_tokens.specs.declared.bracket.Bracket.{Bracket}
use Rattle.pb_source_tokens.specs.declared.bracket.Bracket.TheVariants.{Curly}
use Rattle.pb_source_tokens.proofs.AggregateSteps.{starts, goes_on, refuses, refuses_end, ends}
use Rattle.pb_source_tokens.proofs.parsing.aggregates.closed.Goals as goal

some_open : (bs : List Bracket) → 0 < length bs → 0 < length (reverse bs)
some_open bs l = let e = length-reverse bs in omega arith

none_open : (bs : List Bracket) → length bs ≡ 0 → reverse bs ≡ []
none_open [] l = refl
none_open (b ∷ bs) l = absurd (omega arith)

pub loop-next-init : goal.loop-next-init
loop-next-init c = rw (c.in_ok-push.ensures.items, c.new-brackets.ensures.items) (starts c.args.symbols.now c.args.at (Curly ∷ []) c.requires)

pub returns-in_default-clause-read : goal.returns-in_default-clause-read
returns-in_default-clause-read c =
    let l : 0 < length c.loop-next.brackets.items = search rules in
    refuses_end c.args.symbols.now c.args.at (Curly ∷ []) c.loop-next.here _ c.loop-next.invariant (some_open _ l) c.in_default.ensures.none

pub returns-then-not-ok-clause-read : goal.returns-then-not-ok-clause-read
returns-then-not-ok-clause-read c =
    let l : 0 < length c.loop-next.brackets.items = search rules in
    refuses c.args.symbols.now c.args.at (Curly ∷ []) c.loop-next.here _ _ _ c.loop-next.invariant (some_open _ l) c.in-Some.ensures.found.1
    (c.in_ok-ok.ensures ∙ ap (λ b. if b then Some (reverse c.advance.new.brackets.items) else None) c.if-not-ok.true)

pub loop-next-preserved : goal.loop-next-preserved
loop-next-preserved c =
    goes_on c.args.symbols.now c.args.at (Curly ∷ []) c.loop-next.here (c.loop-next.here + 1) _ _ _ c.loop-next.invariant (omega arith) c.in-Some.ensures.found.0 c.in-Some.ensures.found.1
    (c.in_ok-ok.ensures ∙ ap (λ b. if b then Some (reverse c.advance.new.brackets.items) else None) c.if-not-ok.false)

pub returns-clause-read : goal.returns-clause-read
returns-clause-read c =
    let l : length c.loop-next.brackets.items ≡ 0 = search rules in
    ends c.args.symbols.now c.args.at (Curly ∷ []) c.loop-next.here _ c.loop-next.invariant (none_open _ l)
