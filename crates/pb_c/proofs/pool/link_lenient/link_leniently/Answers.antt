-- The fault of bytes that are no set is the one that was reported.
use Rattle.std.proofs.Common.{◌≡◌, ⊎_elim, List, ℕ, refl}
use Rattle.pb_c.specs.PoolFault.{PoolFault, TellsBytes, TellsRefusal, TellsFault}
use Rattle.pb_c.proofs.AnswerNumbers.{set_kept}
use Rattle.pb_c.specs.SetPool.{LenientSetFails}
use Rattle.pb_c.proofs.LinkTelling.{lenient, told_together, unread}
use Rattle.pb_c.proofs.pool.link_lenient.link_leniently.Goals as goal

pub returns-in-Err-clause-made : goal.returns-in-Err-clause-made
returns-in-Err-clause-made c done =
    let kept = set_kept c.tell_set.result (c.tell_set.new.fault ≡ c.args.fault.now) c.in-Err.error
    (λ w. (text : List ℕ) → TellsRefusal w c.tell_set.result c.args.refusal.now c.tell_set.new.refusal text text) (λ w told. (told c.args.text.now).answer_is)
    c.tell_set.ensures.refusal (λ is. ((c.tell_set.ensures.memory is).0, (c.tell_set.ensures.memory is).1)) in
    absurd (kept.0 done)

pub returns-in-Err-clause-names : goal.returns-in-Err-clause-names
returns-in-Err-clause-names c done =
    let kept = set_kept c.tell_set.result (c.tell_set.new.fault ≡ c.args.fault.now) c.in-Err.error
    (λ w. (text : List ℕ) → TellsRefusal w c.tell_set.result c.args.refusal.now c.tell_set.new.refusal text text) (λ w told. (told c.args.text.now).answer_is)
    c.tell_set.ensures.refusal (λ is. ((c.tell_set.ensures.memory is).0, (c.tell_set.ensures.memory is).1)) in
    absurd (kept.0 done)

pub returns-in-Err-clause-left_out : goal.returns-in-Err-clause-left_out
returns-in-Err-clause-left_out c done =
    let kept = set_kept c.tell_set.result (c.tell_set.new.fault ≡ c.args.fault.now) c.in-Err.error
    (λ w. (text : List ℕ) → TellsRefusal w c.tell_set.result c.args.refusal.now c.tell_set.new.refusal text text) (λ w told. (told c.args.text.now).answer_is)
    c.tell_set.ensures.refusal (λ is. ((c.tell_set.ensures.memory is).0, (c.tell_set.ensures.memory is).1)) in
    absurd (kept.0 done)

pub returns-in-Err-clause-refused : goal.returns-in-Err-clause-refused
returns-in-Err-clause-refused c not_done not_memory =
    let a = c.args in let t = c.tell_set.new in
    let Both : PoolFault → Type 0 = λ w. TellsFault w c.tell_set.result a.fault.now t.fault a.path.now t.path a.refusal.now t.refusal a.text.now a.text.now in
    unread c.in-Err.error (LenientSetFails a.set.now) Both c.tell_set.result (lenient a.set.now c.in-Err.error c.in-Err.ensures.refused)
    (told_together c.in-Err.error (λ w. TellsBytes w a.fault.now t.fault a.path.now t.path) (λ w. (text : List ℕ) → TellsRefusal w c.tell_set.result a.refusal.now t.refusal text text) Both
    (λ w bytes refusal. record { bytes = bytes; refusal = refusal a.text.now }) c.tell_set.ensures.bytes c.tell_set.ensures.refusal)
    (λ is. (c.tell_set.ensures.memory is).0) not_memory

pub returns-in-Err-clause-untold : goal.returns-in-Err-clause-untold
returns-in-Err-clause-untold c =
    let Same : Type 0 = (c.tell_set.new.fault ≡ c.args.fault.now) × (c.tell_set.new.path ≡ c.args.path.now) × (c.tell_set.new.refusal ≡ c.args.refusal.now) × (c.args.text.now ≡ c.args.text.now) in
    let kept = set_kept c.tell_set.result Same c.in-Err.error
    (λ w. (text : List ℕ) → TellsRefusal w c.tell_set.result c.args.refusal.now c.tell_set.new.refusal text text) (λ w told. (told c.args.text.now).answer_is)
    c.tell_set.ensures.refusal (λ is. let m = c.tell_set.ensures.memory is in (m.0, (m.1, m.2, m.3, refl))) in
    ⊎_elim (λ done. absurd (kept.0 done)) (λ memory. kept.1 memory)
