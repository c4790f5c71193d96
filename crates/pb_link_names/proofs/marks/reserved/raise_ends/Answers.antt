use Rattle.std.proofs.Common.{negsuc, ◌∙◌, ap, sym, subst, arith}
use Rattle.std.specs.List.{list_any}
use Rattle.std.proofs.lemmas.Int.{ints}
use Rattle.pb_link_names.specs.MarkRules.{is_in_message_range}
use Rattle.pb_link_names.specs.Reserved.{Rises}
use Rattle.pb_link_names.proofs.ReservedLemmas.{raised, raised_all, starts_raised, ends_raised, same_raised}
use Rattle.pb_link_names.proofs.marks.reserved.raise_ends.Goals as goal

pub returns-clause-starts : goal.returns-clause-starts
returns-clause-starts c =
    let e = raised_all (raised (negsuc 9223372036854775807) c.args.spans.now) c.loop-span.spans c.loop-span.span-index _ (omega arith) c.loop-span.invariant in
    subst (Rises (λ s. s.0)) (sym e) (starts_raised (negsuc 9223372036854775807) c.args.spans.now c.requires)

pub returns-clause-ends : goal.returns-clause-ends
returns-clause-ends c =
    let e = raised_all (raised (negsuc 9223372036854775807) c.args.spans.now) c.loop-span.spans c.loop-span.span-index _ (omega arith) c.loop-span.invariant in
    subst (Rises (λ s. s.1)) (sym e) (ends_raised (negsuc 9223372036854775807) c.args.spans.now)

pub returns-clause-same : goal.returns-clause-same
returns-clause-same c = λ n fits.
    let e = raised_all (raised (negsuc 9223372036854775807) c.args.spans.now) c.loop-span.spans c.loop-span.span-index _ (omega arith) c.loop-span.invariant in
    ap (list_any (is_in_message_range n)) e ∙ same_raised n (negsuc 9223372036854775807) c.args.spans.now (omega (arith, ints, fits)) c.requires
