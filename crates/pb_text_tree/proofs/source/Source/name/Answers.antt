use Rattle.std.proofs.Common.{◌+◌, ap, Ok, Err, inr, refl, subst}
use Rattle.pb_text_tree.specs.Grammar.{NameBy, Next}
use Rattle.pb_text_tree.specs.Seen.{text_of}
use Rattle.pb_text_tree.specs.Steps.{Answers}
use Rattle.pb_text_tree.specs.Tree.{word}
use Rattle.pb_text_tree.specs.View.{name_view}
use Rattle.pb_text_tree.proofs.source.Source.name.Goals as goal

pub returns-in-Word-clause-read : goal.returns-in-Word-clause-read
returns-in-Word-clause-read c =
    let x = text_of c.args.self.now in
    subst (λ (t : Next). NameBy x c.args.at t (Ok (word c.in-Word.word.now, c.args.at + 1))) c.in-Word.ensures.is refl

pub returns-in-Number-clause-read : goal.returns-in-Number-clause-read
returns-in-Number-clause-read c =
    let x = text_of c.args.self.now in
    subst (λ (t : Next). Answers name_view (λ o. NameBy x c.args.at t o) c.number_name.result) c.in-Number.ensures.is c.number_name.ensures.read

pub returns-in-Mark-clause-read : goal.returns-in-Mark-clause-read
returns-in-Mark-clause-read c =
    let x = text_of c.args.self.now in
    subst (λ (t : Next). Answers name_view (λ o. NameBy x c.args.at t o) c.mark_name.result) c.in-Mark.ensures.is c.mark_name.ensures.read

pub returns-in-Quoted-clause-read : goal.returns-in-Quoted-clause-read
returns-in-Quoted-clause-read c =
    let x = text_of c.args.self.now in
    inr (subst (λ (t : Next). NameBy x c.args.at t (Err c.unexpected.result)) c.in-Quoted.ensures.is (ap Err c.unexpected.ensures))

pub returns-in-End-clause-read : goal.returns-in-End-clause-read
returns-in-End-clause-read c =
    let x = text_of c.args.self.now in
    inr (subst (λ (t : Next). NameBy x c.args.at t (Err c.unexpected-in-End.result)) c.in-End.ensures.is (ap Err c.unexpected-in-End.ensures))
