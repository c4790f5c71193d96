use Rattle.std.proofs.Common.{◌+◌, subst, arith, length}
use Rattle.pb_text_tree.specs.Grammar.{Next, ScalarBy}
use Rattle.pb_text_tree.specs.Seen.{text_of}
use Rattle.pb_text_tree.specs.Steps.{Answers}
use Rattle.pb_text_tree.specs.View.{scalar_view}
use Rattle.pb_text_tree.proofs.StepLemmas.{further_than}
use Rattle.pb_text_tree.proofs.source.Source.scalar.Goals as goal

pub returns-in-Quoted-clause-read : goal.returns-in-Quoted-clause-read
returns-in-Quoted-clause-read c =
    let x = text_of c.args.self.now in
    subst (λ (t : Next). Answers scalar_view (λ o. ScalarBy x c.args.at t o) c.strings.result) c.in-Quoted.ensures.is c.strings.ensures.read

pub returns-in-Mark-clause-read : goal.returns-in-Mark-clause-read
returns-in-Mark-clause-read c =
    let x = text_of c.args.self.now in
    subst (λ (t : Next). Answers scalar_view (λ o. ScalarBy x c.args.at t o) c.mark_scalar.result) c.in-Mark.ensures.is c.mark_scalar.ensures.read

pub returns-in-Word-clause-read : goal.returns-in-Word-clause-read
returns-in-Word-clause-read c =
    let x = text_of c.args.self.now in
    subst (λ (t : Next). Answers scalar_view (λ o. ScalarBy x c.args.at t o) c.plain.result) c.in-Word.ensures.is c.plain.ensures.read

pub returns-in-Number-clause-read : goal.returns-in-Number-clause-read
returns-in-Number-clause-read c =
    let x = text_of c.args.self.now in
    subst (λ (t : Next). Answers scalar_view (λ o. ScalarBy x c.args.at t o) c.plain-in-Number.result) c.in-Number.ensures.is c.plain-in-Number.ensures.read

pub returns-in-End-clause-read : goal.returns-in-End-clause-read
returns-in-End-clause-read c =
    let x = text_of c.args.self.now in
    subst (λ (t : Next). Answers scalar_view (λ o. ScalarBy x c.args.at t o) c.plain-in-End.result) c.in-End.ensures.is c.plain-in-End.ensures.read

pub returns-in-Quoted-clause-within : goal.returns-in-Quoted-clause-within
returns-in-Quoted-clause-within c = further_than c.strings.result c.args.at (c.args.at + 1) (length c.args.self.now.tokens.now) (omega arith) c.strings.ensures.within
