-- Sources, one after another.
use Rattle.std.proofs.Common.{◌≡◌, ℕ, zero, suc, ◌+◌, ◌<◌, List, [], ◌∷◌, ◌++◌, length, take, get_or, sym, subst, arith}
use Rattle.std.specs.Prelude.{IsUtf8}
use Rattle.std.proofs.lemmas.List.{take_more}
use Rattle.pb_declarations.specs.Decls.{DeclaredFile}
use Rattle.pb_source.specs.Source.{IsSourceIn, HasFaultIn}
use Rattle.pb_source.specs.declared.reading.Reading.{Reading}
use Rattle.pb_source_tokens.specs.declared.fault.SourceCause.{SourceCause}
use Rattle.pb_c.specs.declared.pool.compile.Unparsed.{Unparsed}
use Rattle.pb_c.specs.declared.pool.compile.Unparsed.TheVariants.{Source, Memory}
use Rattle.pb_c.specs.SourcePool.{Bytes, AreNames, AreSources, SourceFails, IsUnparsed}

pub name_at : (names : List Bytes) (i : ℕ) (o : Bytes) → AreNames names → i < length names → IsUtf8 (get_or names i o).now
name_at [] i o all within = absurd (omega (arith, within))
name_at (name ∷ names) zero o all within = all.0
name_at (name ∷ names) (suc i) o all within = name_at names i o all.1 (omega (arith, within))

module _ (grammar : Reading) where
  -- sources with one more after them
  one_more : (names texts : List Bytes) (ds : List DeclaredFile) (name text : Bytes) (d : DeclaredFile) → AreSources grammar names texts ds → IsSourceIn grammar name.now text.now d
      → AreSources grammar (names ++ name ∷ []) (texts ++ text ∷ []) (ds ++ d ∷ [])
  one_more [] [] [] name text d are is = (is, tt)
  one_more [] [] (e ∷ ds) name text d are is = absurd are
  one_more [] (t ∷ texts) ds name text d are is = absurd are
  one_more (n ∷ names) [] ds name text d are is = absurd are
  one_more (n ∷ names) (t ∷ texts) [] name text d are is = absurd are
  one_more (n ∷ names) (t ∷ texts) (e ∷ ds) name text d are is = (are.0, one_more names texts ds name text d are.1 is)

  pub source_read : (names texts : List Bytes) (ds : List DeclaredFile) (i : ℕ) (o : Bytes) (d : DeclaredFile) → i < length names → i < length texts
      → AreSources grammar (take i names) (take i texts) ds → IsSourceIn grammar (get_or names i o).now (get_or texts i o).now d → AreSources grammar (take (i + 1) names) (take (i + 1) texts) (ds ++ d ∷ [])
  source_read names texts ds i o d within within' are is =
      subst (λ ns. AreSources grammar ns (take (i + 1) texts) (ds ++ d ∷ [])) (sym (take_more names i o within))
      (subst (λ ts. AreSources grammar (take i names ++ get_or names i o ∷ []) ts (ds ++ d ∷ [])) (sym (take_more texts i o within'))
      (one_more (take i names) (take i texts) ds (get_or names i o) (get_or texts i o) d are is))

  -- the first text that is no source, after those that are
  pub source_fails : (names texts : List Bytes) (ds : List DeclaredFile) (i : ℕ) (o : Bytes) (byte : ℕ) (c : SourceCause) → i < length names → i < length texts
      → AreSources grammar (take i names) (take i texts) ds → HasFaultIn grammar (get_or texts i o).now byte c → SourceFails grammar names texts i byte c
  source_fails [] texts ds i o byte c within within' are fault = absurd (omega (arith, within))
  source_fails (n ∷ names) [] ds i o byte c within within' are fault = absurd (omega (arith, within'))
  source_fails (n ∷ names) (t ∷ texts) ds zero o byte c within within' are fault = fault
  source_fails (n ∷ names) (t ∷ texts) [] (suc i) o byte c within within' are fault = absurd are
  source_fails (n ∷ names) (t ∷ texts) (d ∷ ds) (suc i) o byte c within within' are fault =
      ((d, are.0), source_fails names texts ds i o byte c (omega (arith, within)) (omega (arith, within')) are.1 fault)

  -- the fault of the text that is read next is that of the sources
  pub unparsed_at : (names texts : List Bytes) (ds : List DeclaredFile) (i : ℕ) (o : Bytes) (e : Unparsed) → i < length names → i < length texts
      → AreSources grammar (take i names) (take i texts) ds → IsUnparsed (λ j byte c. (j ≡ i) × HasFaultIn grammar (get_or texts i o).now byte c) e → IsUnparsed (SourceFails grammar names texts) e
  unparsed_at names texts ds i o (Source j byte c) within within' are fault =
      subst (λ k. SourceFails grammar names texts k byte c) (sym fault.0) (source_fails names texts ds i o byte c within within' are fault.1)
  unparsed_at names texts ds i o Memory within within' are fault = tt
