use Rattle.std.proofs.Common.{◌≡◌, ◌≤◌, ℕ, List, length, ap, sym, subst, ◌∙◌, inr}
use Rattle.std.proofs.lemmas.Result.{err_from_is_err_and}
use Rattle.pb_declarations.specs.Decls.{DeclaredFile}
use Rattle.pb_declarations.specs.View.{file_view}
use Rattle.pb_source_tokens.specs.declared.fault.SourceCause.{SourceCause}
use Rattle.pb_source_tokens.specs.declared.fault.SourceFault.{SourceFault}
use Rattle.pb_source.specs.declared.reading.Reading.{Reading}
use Rattle.pb_source_tokens.specs.Language.{all_rules}
use Rattle.pb_source_tokens.specs.Readers.Given.{symbols_from, Fails}
use Rattle.pb_source.specs.Readers.Lines.{file_reader}
use Rattle.pb_source.specs.Source.{IsSourceIn, HasFaultIn}
use Rattle.pb_source.specs.Readers.Reported.{fault_at}
use Rattle.pb_source.proofs.SourceLaws.{ReadsAll}
use Rattle.pb_source.proofs.ParseLemmas.{Declared, Told, told_fault, told_nothing, told_only, token_told, declared, refusal_told}
use Rattle.pb_source.proofs.source.parse_by.Goals as goal

-- ---- size and UTF-8

text_told : (reading : Reading) (bytes : List ℕ) (e : SourceFault) → HasFaultIn reading bytes e.byte e.cause
    → ((place : ℕ) (c : SourceCause) → HasFaultIn reading bytes place c → (place ≡ e.byte) × (c ≡ e.cause))
    → ((name : List ℕ) (d : DeclaredFile) → IsSourceIn reading name bytes d → ⊥) → Told reading bytes e
text_told reading bytes e f o n = inr (record { fault = f; only = o; none = n })

pub returns-in_err-text-clause-fault : goal.returns-in_err-text-clause-fault
returns-in_err-text-clause-fault c =
    let p = err_from_is_err_and c.from_residual.result c.from_residual.ensures.1 in
    rw (p.1, p.2) (inr (c.in_err-text.ensures.fault c.args.reading))

pub returns-in_err-text-clause-accepted : goal.returns-in_err-text-clause-accepted
returns-in_err-text-clause-accepted c d s =
    let p = err_from_is_err_and c.from_residual.result c.from_residual.ensures.1 in
    rw (p.1, p.2) (absurd (c.in_err-text.ensures.no_source c.args.reading c.args.name.now d s))

pub returns-in_err-text-clause-refused : goal.returns-in_err-text-clause-refused
returns-in_err-text-clause-refused c place cause h =
    let p = err_from_is_err_and c.from_residual.result c.from_residual.ensures.1 in
    rw (p.1, p.2)
    (told_only c.args.reading c.args.source.now c.in_err-text.field-0.0 place cause h
    (text_told c.args.reading c.args.source.now c.in_err-text.field-0.0 (c.in_err-text.ensures.fault c.args.reading) (c.in_err-text.ensures.only_fault c.args.reading)
    (c.in_err-text.ensures.no_source c.args.reading)))

-- ---- tokens

token_fault : (c : goal.After-from_residual-in_err-symbols) → Told c.args.reading c.args.source.now c.in_err-symbols.field-0.0
token_fault c =
    token_told c.args.reading c.args.source.now c.in_ok-text.text.now c.in_ok-text.ensures.text c.in_ok-text.ensures.size c.in_ok-text.ensures.valid c.in_err-symbols.field-0.0 c.in_err-symbols.ensures.fault

pub returns-in_err-symbols-clause-fault : goal.returns-in_err-symbols-clause-fault
returns-in_err-symbols-clause-fault c =
    let p = err_from_is_err_and c.from_residual-in_err-symbols.result c.from_residual-in_err-symbols.ensures.1 in
    rw (p.1, p.2) (told_fault c.args.reading c.args.source.now c.in_err-symbols.field-0.0 (token_fault c))

pub returns-in_err-symbols-clause-accepted : goal.returns-in_err-symbols-clause-accepted
returns-in_err-symbols-clause-accepted c d s =
    let p = err_from_is_err_and c.from_residual-in_err-symbols.result c.from_residual-in_err-symbols.ensures.1 in
    rw (p.1, p.2) (told_nothing c.args.reading c.args.source.now c.in_err-symbols.field-0.0 c.args.name.now d s (token_fault c))

pub returns-in_err-symbols-clause-refused : goal.returns-in_err-symbols-clause-refused
returns-in_err-symbols-clause-refused c place cause h =
    let p = err_from_is_err_and c.from_residual-in_err-symbols.result c.from_residual-in_err-symbols.ensures.1 in
    rw (p.1, p.2) (told_only c.args.reading c.args.source.now c.in_err-symbols.field-0.0 place cause h (token_fault c))

-- ---- the declaration

declares : (c : goal.After-drop-symbols) → Declared c.args.reading c.args.name.now c.args.source.now (file_view c.in-Ok.decl)
declares c =
    let r = c.in-Ok.ensures.read in
    let ps = c.in_ok-symbols.symbols.items in
    let all : ReadsAll c.args.reading ps r.0 = subst (λ ps. ReadsAll c.args.reading ps r.0) c.deref.ensures.value r.2 in
    subst (Declared c.args.reading c.args.name.now c.args.source.now) (sym r.1)
    (declared c.args.reading c.args.source.now c.in_ok-text.text.now c.in_ok-text.ensures.text c.in_ok-text.ensures.size c.in_ok-text.ensures.valid c.args.name.now ps r.0 c.in_ok-symbols.ensures.symbols all)

pub returns-in-Ok-clause-source : goal.returns-in-Ok-clause-source
returns-in-Ok-clause-source c = let x = declares c in x.source

pub returns-in-Ok-clause-accepted : goal.returns-in-Ok-clause-accepted
returns-in-Ok-clause-accepted c d s = let x = declares c in x.only d s

pub returns-in-Ok-clause-refused : goal.returns-in-Ok-clause-refused
returns-in-Ok-clause-refused c place cause h = let x = declares c in x.none place cause h

-- ---- the fault of the grammar

tells : (c : goal.After-drop-symbols-2) → Told c.args.reading c.args.source.now c.fault_of.result
tells c =
    subst (Told c.args.reading c.args.source.now)
    (sym (c.fault_of.ensures ∙ ap (λ ps. fault_at ps (length c.args.source.now) c.in-Err.refusal) c.deref-in-Err.ensures.value))
    (refusal_told c.args.reading c.args.source.now c.in_ok-text.text.now c.in_ok-text.ensures.text c.in_ok-text.ensures.size c.in_ok-text.ensures.valid c.in_ok-symbols.symbols.items c.in-Err.refusal c.in_ok-symbols.ensures.symbols
    (subst (λ ps. (n : ℕ) → length ps ≤ n → Fails ps c.in-Err.refusal (file_reader c.args.reading n all_rules (symbols_from ps 0))) c.deref.ensures.value c.in-Err.ensures.refused))

pub returns-clause-fault : goal.returns-clause-fault
returns-clause-fault c = told_fault c.args.reading c.args.source.now c.fault_of.result (tells c)

pub returns-clause-accepted : goal.returns-clause-accepted
returns-clause-accepted c d s = told_nothing c.args.reading c.args.source.now c.fault_of.result c.args.name.now d s (tells c)

pub returns-clause-refused : goal.returns-clause-refused
returns-clause-refused c place cause h = told_only c.args.reading c.args.source.now c.fault_of.result place cause h (tells c)
