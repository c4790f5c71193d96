-- What is not taken is held on.
use Rattle.std.proofs.Common.{List, ℕ, ◌∙◌, ap, drop, sym, subst}
use Rattle.std.proofs.lemmas.Result.{err_from_is_err_and}
use Rattle.pb_decode.specs.Reader.{state_view, Reads, Stops}
use Rattle.pb_decode.proofs.PushLemmas.{held_rest, held_all}
use Rattle.pb_decode.proofs.push.take_held.Goals as goal

pub returns-in_err-size-clause-refused : goal.returns-in_err-size-clause-refused
returns-in_err-size-clause-refused c =
    λ m depth levels base p0 begun.
    let p = err_from_is_err_and c.from_residual.result c.from_residual.ensures.1 in
    rw (p.1, p.2) (c.in_err-size.ensures.refused m depth levels base p0 (subst (Reads c.args.pool.now m depth levels base p0 (state_view c.args.reading.now.reader)) (sym c.deref.ensures.value) begun))

pub returns-then-size-eq0-clause-taken : goal.returns-then-size-eq0-clause-taken
returns-then-size-eq0-clause-taken c =
    λ m depth levels base p0 begun.
    subst (λ (z : List ℕ). Reads c.args.pool.now m depth levels base p0 (state_view c.take_all.new.self) z × Stops c.args.pool.now m depth p0 (state_view c.take_all.new.self) z) c.deref.ensures.value
    (held_all c.args.pool.now m depth levels base p0 (state_view c.take_all.new.self) c.in_ok-size.size c.deref.result.now c.if-size-eq0.true
    (c.in_ok-size.ensures.taken m depth levels base p0 (subst (Reads c.args.pool.now m depth levels base p0 (state_view c.args.reading.now.reader)) (sym c.deref.ensures.value) begun)))

pub returns-clause-taken : goal.returns-clause-taken
returns-clause-taken c =
    λ m depth levels base p0 begun.
    held_rest c.args.pool.now m depth levels base p0 (state_view c.take_all.new.self) c.in_ok-size.size c.args.reading.now.held.items c.in_ok-rest.rest.items (c.in_ok-rest.ensures ∙ ap (drop c.in_ok-size.size) c.deref-2.ensures.value)
    (subst (λ (z : List ℕ). Reads c.args.pool.now m depth levels base p0 (state_view c.take_all.new.self) (drop c.in_ok-size.size z) × Stops c.args.pool.now m depth p0 (state_view c.take_all.new.self) (drop c.in_ok-size.size z)) c.deref.ensures.value
    (c.in_ok-size.ensures.taken m depth levels base p0 (subst (Reads c.args.pool.now m depth levels base p0 (state_view c.args.reading.now.reader)) (sym c.deref.ensures.value) begun)))
