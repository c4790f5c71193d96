-- Bytes are a text of one tree, or have one fault.
use Rattle.std.proofs.Common.{◌≡◌, ℕ, List, Result, Ok, Err, inl, inr, refl, sym, ap, ◌∙◌, subst}
use Rattle.pb_text_tokens.specs.Tokens.{PlacedToken, AreTokens, HasFault as HasTokenFault}
use Rattle.pb_text_tokens.specs.declared.fault.TokenFault.{TokenFault}
use Rattle.pb_text_tokens.proofs.LexLemmas.{lexes_one}
use Rattle.std.specs.Prelude.{◌⊎◌}
use Rattle.pb_text_tokens.specs.Fault.{out_of_memory as no_memory}
use Rattle.pb_text_tree.specs.Fault.{fault_of, out_of_memory}
use Rattle.pb_text_tree.specs.Grammar.{Reads}
use Rattle.pb_text_tree.specs.Steps.{Read}
use Rattle.pb_text_tree.specs.Texts.{HasFaultWithin, IsTextWithin, text}
use Rattle.pb_text_tree.specs.Tree.{Fields}
use Rattle.pb_text_tree.specs.declared.fault.SyntaxFault.{SyntaxFault}
use Rattle.pb_text_tree.proofs.OneReading.{reads_single}
use Rattle.pb_text_tree.proofs.StepLemmas.{same_answer}

-- what bytes come to
abbrev pub Outcome : ℕ → List ℕ → Result Fields SyntaxFault → Type 0
Outcome levels bs (Ok fs) = IsTextWithin levels bs fs
Outcome levels bs (Err e) = HasFaultWithin levels bs e

tokens_same : (bs : List ℕ) (ts us : List PlacedToken) → AreTokens bs ts → AreTokens bs us → ts ≡ us
tokens_same bs ts us a b = let e = lexes_one a b in cc e

no_tokens : (bs : List ℕ) (ts : List PlacedToken) (f : TokenFault) → AreTokens bs ts → HasTokenFault bs f → ⊥
no_tokens bs ts f a h = let e = lexes_one a h in absurd (cc e)

fault_same : (bs : List ℕ) (f g : TokenFault) → HasTokenFault bs f → HasTokenFault bs g → f ≡ g
fault_same bs f g h i = let e = lexes_one h i in cc e

reads_same : (levels : ℕ) (bs : List ℕ) (ts us : List PlacedToken) (o p : Read Fields) → AreTokens bs ts → AreTokens bs us → Reads levels (text ts bs) o → Reads levels (text us bs) p → o ≡ p
reads_same levels bs ts us o p a b r s = reads_single levels (text ts bs) o p r (subst (λ t. Reads levels (text t bs) p) (sym (tokens_same bs ts us a b)) s)

first_same : (fs gs : Fields) (n m : ℕ) (o p : Read Fields) → o ≡ p → o ≡ Ok (fs, n) → p ≡ Ok (gs, m) → fs ≡ gs
first_same fs gs n m o p e f g = ap (λ k. k.0) (same_answer (fs, n) (gs, m) o p f g e)

pub outcome_single : (levels : ℕ) (bs : List ℕ) (o p : Result Fields SyntaxFault) → Outcome levels bs o → Outcome levels bs p → o ≡ p
unfolding IsTextWithin HasFaultWithin
outcome_single levels bs (Ok fs) (Ok gs) (ts, n, a, r) (us, m, b, s) = ap Ok (first_same fs gs n m (Ok (fs, n)) (Ok (gs, m)) (reads_same levels bs ts us _ _ a b r s) refl refl)
outcome_single levels bs (Ok fs) (Err e) (ts, n, a, r) (inl (f, h, k)) = absurd (no_tokens bs ts f a h)
outcome_single levels bs (Ok fs) (Err e) (ts, n, a, r) (inr (us, b, s)) = let q = reads_same levels bs ts us _ _ a b r s in absurd (cc q)
outcome_single levels bs (Err e) (Ok gs) (inl (f, h, k)) (us, m, b, s) = absurd (no_tokens bs us f b h)
outcome_single levels bs (Err e) (Ok gs) (inr (ts, a, r)) (us, m, b, s) = let q = reads_same levels bs ts us _ _ a b r s in absurd (cc q)
outcome_single levels bs (Err e) (Err d) (inl (f, h, k)) (inl (g, i, l)) = ap Err (k ∙ ap fault_of (fault_same bs f g h i) ∙ sym l)
outcome_single levels bs (Err e) (Err d) (inl (f, h, k)) (inr (us, b, s)) = absurd (no_tokens bs us f b h)
outcome_single levels bs (Err e) (Err d) (inr (ts, a, r)) (inl (g, i, l)) = absurd (no_tokens bs ts g a i)
outcome_single levels bs (Err e) (Err d) (inr (ts, a, r)) (inr (us, b, s)) = let q = reads_same levels bs ts us _ _ a b r s in cc q

-- what the call's answer says of every other
pub only_fields : (levels : ℕ) (bs : List ℕ) (fs gs : Fields) → IsTextWithin levels bs fs → IsTextWithin levels bs gs → fs ≡ gs
only_fields levels bs fs gs h k = let q = outcome_single levels bs (Ok fs) (Ok gs) h k in cc q

pub no_fault : (levels : ℕ) (bs : List ℕ) (fs : Fields) (e : SyntaxFault) → IsTextWithin levels bs fs → HasFaultWithin levels bs e → ⊥
no_fault levels bs fs e h k = let q = outcome_single levels bs (Ok fs) (Err e) h k in absurd (cc q)

pub only_fault : (levels : ℕ) (bs : List ℕ) (e d : SyntaxFault) → HasFaultWithin levels bs e → HasFaultWithin levels bs d → e ≡ d
only_fault levels bs e d h k = let q = outcome_single levels bs (Err e) (Err d) h k in cc q

pub err_accepted : (levels : ℕ) (bs : List ℕ) (e : SyntaxFault) (fs : Fields) → (e ≡ out_of_memory) ⊎ HasFaultWithin levels bs e → IsTextWithin levels bs fs → e ≡ out_of_memory
err_accepted levels bs e fs (inl m) h = m
err_accepted levels bs e fs (inr k) h = absurd (no_fault levels bs fs e h k)

pub err_refused : (levels : ℕ) (bs : List ℕ) (e d : SyntaxFault) → (e ≡ out_of_memory) ⊎ HasFaultWithin levels bs e → HasFaultWithin levels bs d → (e ≡ out_of_memory) ⊎ (e ≡ d)
err_refused levels bs e d (inl m) h = inl m
err_refused levels bs e d (inr k) h = inr (only_fault levels bs e d k h)

pub read_fields : (levels : ℕ) (bs : List ℕ) (ts : List PlacedToken) (fs : Fields) (n : ℕ) → AreTokens bs ts → Reads levels (text ts bs) (Ok (fs, n)) → IsTextWithin levels bs fs
unfolding IsTextWithin
read_fields levels bs ts fs n a r = (ts, n, a, r)

pub wrong_tokens : (levels : ℕ) (bs : List ℕ) (f : TokenFault) → HasTokenFault bs f → HasFaultWithin levels bs (fault_of f)
unfolding HasFaultWithin
wrong_tokens levels bs f h = inl (f, h, refl)

pub wrong_fields : (levels : ℕ) (bs : List ℕ) (ts : List PlacedToken) (e : SyntaxFault) → AreTokens bs ts → Reads levels (text ts bs) (Err e) → HasFaultWithin levels bs e
unfolding HasFaultWithin
wrong_fields levels bs ts e a r = inr (ts, a, r)

-- what a fault of the tokens is of the text
pub token_fault : (levels : ℕ) (bs : List ℕ) (f : TokenFault) → (f ≡ no_memory) ⊎ HasTokenFault bs f → (fault_of f ≡ out_of_memory) ⊎ HasFaultWithin levels bs (fault_of f)
token_fault levels bs f (inl m) = inl (ap fault_of m)
token_fault levels bs f (inr h) = inr (wrong_tokens levels bs f h)

-- and a fault of the fields
pub fields_fault : (levels : ℕ) (bs : List ℕ) (ts : List PlacedToken) (e : SyntaxFault) → AreTokens bs ts → (e ≡ out_of_memory) ⊎ Reads levels (text ts bs) (Err e)
    → (e ≡ out_of_memory) ⊎ HasFaultWithin levels bs e
fields_fault levels bs ts e a (inl m) = inl m
fields_fault levels bs ts e a (inr r) = inr (wrong_fields levels bs ts e a r)
