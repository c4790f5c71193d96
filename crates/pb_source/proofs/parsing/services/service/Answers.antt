use Rattle.std.proofs.Common.{ℕ, List, map, refl, ap, sym, Ok}
use Rattle.std.proofs.lemmas.Result.{err_from_is_err_and}
use Rattle.pb_declarations.specs.Decls.{DeclaredService}
use Rattle.pb_declarations.specs.View.{method_view}
use Rattle.pb_source_tokens.specs.Readers.Forms.{Outcome}
use Rattle.pb_source_tokens.specs.Readers.Given.{symbols_from}
use Rattle.pb_source_tokens.proofs.UntilSteps.{before_map, fails_before}
use Rattle.pb_source.specs.Meaning.{those_said}
use Rattle.pb_source.specs.Readers.Lines.{service_reader}
use Rattle.pb_source.proofs.parsing.services.service.Goals as goal

pub returns-in_err-methods-clause-read : goal.returns-in_err-methods-clause-read
unfolding service_reader
returns-in_err-methods-clause-read c =
    let p = err_from_is_err_and c.from_residual-in_err-methods.result c.from_residual-in_err-methods.ensures.1 in
    rw (p.1, p.2) (λ n l. fails_before those_said c.args.symbols.now _ _ _
    (λ x k. rw (c.in_ok-after.ensures.read, c.in_ok-name.ensures.read, c.in_ok-after-2.ensures.read, k) refl) (c.in_err-methods.ensures.read n l))

pub returns-clause-read : goal.returns-clause-read
unfolding service_reader
returns-clause-read c = λ n l.
    let m = before_map those_said _ _ _ (c.in_ok-methods.ensures.read n l) in
    let named : List ℕ → Outcome DeclaredService = λ nm. Ok (record { name = nm; methods = map method_view c.in_ok-methods.methods.items }, symbols_from c.args.symbols.now c.in_ok-methods.after) in
    rw (c.in_ok-after.ensures.read, c.in_ok-name.ensures.read, c.in_ok-after-2.ensures.read, m.1, m.2) (ap named (sym c.in_ok-name-2.ensures.ok))
