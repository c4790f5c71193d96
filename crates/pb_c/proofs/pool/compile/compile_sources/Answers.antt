-- The fault of sources that are not parsed is the one that was reported.
use Rattle.std.proofs.Common.{rules, ◌≡◌, ⊎_elim, List, [], ℕ, refl, length}
use Rattle.pb_c.specs.PoolFault.{PoolFault, TellsRefusal}
use Rattle.pb_c.specs.SourcePool.{AreNamed}
use Rattle.pb_c.proofs.AnswerNumbers.{source_kept}
use Rattle.pb_c.proofs.LinkTelling.{unparsed}
use Rattle.pb_c.proofs.pool.compile.compile_sources.Goals as goal

pub returns-in-Err-clause-made : goal.returns-in-Err-clause-made
returns-in-Err-clause-made c done =
    let a = c.args in let t = c.tell_source in
    let kept = source_kept t.result (t.new.refusal ≡ a.refusal.now) c.in-Err.error
    (λ i byte c. (text : List ℕ) → TellsRefusal (PoolFault.in_source i byte c) t.result a.refusal.now t.new.refusal text text) (λ i byte c told. (told []).answer_is)
    t.ensures.told (λ is. t.ensures.memory is) in
    absurd (kept.0 done)

pub returns-in-Err-clause-no_names : goal.returns-in-Err-clause-no_names
returns-in-Err-clause-no_names c done =
    let a = c.args in let t = c.tell_source in
    let kept = source_kept t.result (t.new.refusal ≡ a.refusal.now) c.in-Err.error
    (λ i byte c. (text : List ℕ) → TellsRefusal (PoolFault.in_source i byte c) t.result a.refusal.now t.new.refusal text text) (λ i byte c told. (told []).answer_is)
    t.ensures.told (λ is. t.ensures.memory is) in
    absurd (kept.0 done)

pub returns-in-Err-clause-bad_name : goal.returns-in-Err-clause-bad_name
returns-in-Err-clause-bad_name c =
    let a = c.args in let t = c.tell_source in
    let kept = source_kept t.result (t.new.refusal ≡ a.refusal.now) c.in-Err.error
    (λ i byte c. (text : List ℕ) → TellsRefusal (PoolFault.in_source i byte c) t.result a.refusal.now t.new.refusal text text) (λ i byte c told. (told []).answer_is)
    t.ensures.told (λ is. t.ensures.memory is) in
    let sizes : length a.names.now ≡ length a.texts.now = search (rules, c.if-names-texts.false) in
    let named : AreNamed a.names.now a.texts.now = (sizes, c.are_names.ensures.0 (search (rules, c.if-not-are_names.false))) in
    (λ bad. absurd (kept.1 bad), λ not. absurd (not named))

pub returns-in-Err-clause-refused : goal.returns-in-Err-clause-refused
returns-in-Err-clause-refused c named not_done not_memory =
    let a = c.args in let t = c.tell_source in
    unparsed a.grammar a.names.now a.texts.now c.in-Err.error
    (λ i byte c. (text : List ℕ) → TellsRefusal (PoolFault.in_source i byte c) t.result a.refusal.now t.new.refusal text text)
    (λ w. TellsRefusal w t.result a.refusal.now t.new.refusal a.text.now a.text.now) t.result c.in-Err.ensures.refused t.ensures.told (λ i byte c told. told a.text.now)
    (λ is. (t.ensures.memory is).0) not_memory

pub returns-in-Err-clause-untold : goal.returns-in-Err-clause-untold
returns-in-Err-clause-untold c =
    let a = c.args in let t = c.tell_source in
    let kept = source_kept t.result (t.new.refusal ≡ a.refusal.now) c.in-Err.error
    (λ i byte c. (text : List ℕ) → TellsRefusal (PoolFault.in_source i byte c) t.result a.refusal.now t.new.refusal text text) (λ i byte c told. (told []).answer_is)
    t.ensures.told (λ is. t.ensures.memory is) in
    ⊎_elim (λ done. absurd (kept.0 done)) (⊎_elim (λ bad. absurd (kept.1 bad)) (λ memory. (kept.2 memory, refl)))
