use Rattle.std.proofs.Common.{ℕ, subst, sym, arith, take, drop, []}
use Rattle.std.proofs.lemmas.Result.{err_from_is_err_and}
use Rattle.pb_wire.specs.Fault.{fault, Place, Leads}
use Rattle.pb_wire.specs.Record.{len}
use Rattle.pb_wire.specs.Spell.{Body}
use Rattle.pb_wire.specs.Grammar.{BadElements}
use Rattle.pb_validate.specs.Contexts.{element_view}
use Rattle.pb_validate.specs.Payloads.{ListFault}
use Rattle.pb_wire.specs.Scan.{here}
use Rattle.pb_validate.proofs.HereLemmas.{payload_leads, payload_here}
use Rattle.pb_validate.proofs.JudgeLemmas.{both_ok, err_map}
use Rattle.pb_validate.proofs.payload.list_end.Goals as goal

pub returns-in_err-size-clause-fault : goal.returns-in_err-size-clause-fault
returns-in_err-size-clause-fault c =
    let p = err_from_is_err_and c.from_residual.result c.from_residual.ensures.1 in rw (p.1, p.2) (ListFault.a_length c.in_err-size.ensures.fault)

pub returns-clause-ok : goal.returns-clause-ok
returns-clause-ok c =
    both_ok c.elements_end.result _ _ _
    (λ end w whole. (
      _,
      whole,
      subst (λ (z : ℕ). (k : ℕ) → Leads (Body k (len (take c.in_ok-size.size (drop c.in_ok-size.start c.args.bytes.now)))) (here c.args.bytes.now c.args.at c.args.to) (here c.args.bytes.now z c.args.to)) (sym w.0)
          (payload_leads c.args.bytes.now c.args.at c.in_ok-size.start c.in_ok-size.size c.args.to c.in_ok-size.ensures.ok (omega (arith, w))),
    ))
    c.elements_end.ensures.within c.elements_end.ensures.ok

pub returns-clause-fault : goal.returns-clause-fault
returns-clause-fault c =
    err_map c.elements_end.result _ _
    (λ e bad. ListFault.elements c.in_ok-size.ensures.ok
    (subst (λ (p : Place). BadElements (element_view c.args.element) p (fault e.byte [] e.cause)) (sym (payload_here c.args.bytes.now c.in_ok-size.start c.in_ok-size.size c.args.to)) bad))
    c.elements_end.ensures.fault
