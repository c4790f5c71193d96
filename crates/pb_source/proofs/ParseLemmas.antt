-- What is reported of a source is its declaration, or its fault and no other.
use Rattle.std.proofs.Common.{◌≡◌, ℕ, zero, suc, ◌^◌, ◌-◌, ◌<◌, ◌≤◌, List, [], ◌∷◌, length, get_or, refl, ap, sym, ◌∙◌, subst, arith, ◌⊎◌, inl, inr, IsUtf8}
use Rattle.pb_declarations.specs.Decls.{DeclaredFile}
use Rattle.pb_source.specs.declared.reading.Reading.{Reading}
use Rattle.pb_source_tokens.specs.declared.fault.SourceCause.{SourceCause}
use Rattle.pb_source_tokens.specs.declared.fault.SourceFault.{SourceFault}
use Rattle.pb_source_tokens.specs.declared.refusal.Refusal.{Refusal}
use Rattle.pb_source_tokens.specs.declared.refusal.Refusal.TheVariants as refusal
use Rattle.pb_source_tokens.specs.declared.symbol.Placed.{Placed}
use Rattle.pb_source_tokens.specs.Fault.{fault, out_of_memory}
use Rattle.pb_source_tokens.specs.Tokens.{LexFault}
use Rattle.pb_source_tokens.specs.SymbolView.{symbols_of, HasSymbols}
use Rattle.pb_source_tokens.specs.Language.{all_rules}
use Rattle.pb_source_tokens.specs.Readers.Given.{symbols_from, Fails}
use Rattle.pb_source.specs.Meaning.{file_of}
use Rattle.pb_source.specs.Source.{place_in, IsSourceIn, HasFaultIn}
use Rattle.pb_source.specs.Readers.Lines.{file_reader}
use Rattle.pb_source.specs.Readers.Reported.{fault_at}
use Rattle.pb_source.proofs.OneFile.{Read}
use Rattle.pb_source.proofs.SourceLaws.{ReadsAll, is_source, only_source, no_fault, has_fault, only_fault, no_source, token_only, token_no_source}

-- ---- what is reported

-- the declaration of the bytes, which have no other, and no fault
pub record Declared (how : Reading) (name bytes : List ℕ) (d : DeclaredFile) : Type 0 where
  pub source : IsSourceIn how name bytes d
  pub only : (e : DeclaredFile) → IsSourceIn how name bytes e → d ≡ e
  pub none : (place : ℕ) (c : SourceCause) → HasFaultIn how bytes place c → ⊥

-- the fault of the bytes, which have no other, and declare nothing
pub record Faulty (how : Reading) (bytes : List ℕ) (e : SourceFault) : Type 0 where
  pub fault : HasFaultIn how bytes e.byte e.cause
  pub only : (place : ℕ) (c : SourceCause) → HasFaultIn how bytes place c → (place ≡ e.byte) × (c ≡ e.cause)
  pub none : (name : List ℕ) (d : DeclaredFile) → IsSourceIn how name bytes d → ⊥

abbrev pub Told : Reading → List ℕ → SourceFault → Type 0
Told how bytes e = (e ≡ out_of_memory) ⊎ Faulty how bytes e

module _ (how : Reading) (bytes : List ℕ) (e : SourceFault) where
  pub told_fault : Told how bytes e → (e ≡ out_of_memory) ⊎ HasFaultIn how bytes e.byte e.cause
  told_fault (inl m) = inl m
  told_fault (inr f) = inr f.fault

  pub told_nothing : (name : List ℕ) (d : DeclaredFile) → IsSourceIn how name bytes d → Told how bytes e → e ≡ out_of_memory
  told_nothing name d s (inl m) = m
  told_nothing name d s (inr f) = absurd (f.none name d s)

  pub told_only : (place : ℕ) (c : SourceCause) → HasFaultIn how bytes place c → Told how bytes e → (e ≡ fault place c) ⊎ (e ≡ out_of_memory)
  told_only place c h (inl m) = inr m
  told_only place c h (inr f) = let x = f.only place c h in inl (ap (λ p. fault p e.cause) (sym x.0) ∙ ap (λ c. fault place c) (sym x.1))

-- ---- by the parts of `parse`

module _ (how : Reading) (bytes t : List ℕ) (same : t ≡ bytes) (size : length bytes ≤ 2 ^ 31 - 1) (valid : IsUtf8 bytes) where
  pub token_told : (e : SourceFault) → (e ≡ out_of_memory) ⊎ LexFault t e.byte e.cause → Told how bytes e
  token_told e (inl m) = inl m
  token_told e (inr f) =
      let g : LexFault bytes e.byte e.cause = subst (λ t. LexFault t e.byte e.cause) same f in
      inr (record {
        fault = HasFaultIn.in_token size valid g;
        only = token_only how bytes size valid e.byte e.cause g;
        none = token_no_source how bytes e.byte e.cause g;
      })

  pub declared : (name : List ℕ) (ps : List Placed) (ss : Read) → HasSymbols t (symbols_of ps) → ReadsAll how ps ss → Declared how name bytes (file_of ss.0 name ss.1)
  declared name ps ss has r =
      let there : HasSymbols bytes (symbols_of ps) = subst (λ t. HasSymbols t (symbols_of ps)) same has in
      record {
        source = is_source how bytes size valid ps there name ss r;
        only = λ e s. sym (only_source how bytes size valid ps there name ss r e s);
        none = no_fault how bytes size valid ps there ss r;
      }

  pub refusal_told : (ps : List Placed) (r : Refusal) → HasSymbols t (symbols_of ps)
      → ((n : ℕ) → length ps ≤ n → Fails ps r (file_reader how n all_rules (symbols_from ps 0))) → Told how bytes (fault_at ps (length bytes) r)
  refusal_told ps refusal.Memory has h = inl refl
  refusal_told ps (refusal.At at rule) has h =
      let there : HasSymbols bytes (symbols_of ps) = subst (λ t. HasSymbols t (symbols_of ps)) same has in
      inr (record {
        fault = has_fault how bytes size valid ps there at rule h;
        only = only_fault how bytes size valid ps there at rule h;
        none = λ name d s. no_source how bytes size valid ps there name at rule h d s;
      })

-- ---- where a placed symbol stands

pub place_there : (ps : List Placed) (end k : ℕ) (d p : Placed) → k < length ps → p ≡ get_or ps k d → p.at ≡ place_in (symbols_of ps) end k
place_there [] end k d p l h = absurd (omega arith)
place_there (q ∷ ps) end zero d p l h = ap (λ p. p.at) h
place_there (q ∷ ps) end (suc k) d p l h = place_there ps end k d p (omega arith) h

pub place_past : (ps : List Placed) (end k : ℕ) → length ps ≤ k → end ≡ place_in (symbols_of ps) end k
place_past [] end k l = refl
place_past (q ∷ ps) end zero l = absurd (omega arith)
place_past (q ∷ ps) end (suc k) l = place_past ps end k (omega arith)
