-- The answer for a fault is neither that of a pool nor that for out of memory.
use Rattle.std.proofs.Common.{◌≡◌, ◌≢◌, ℕ, ◌≤◌, refl, sym, ◌∙◌, arith}
use Rattle.std.specs.Prelude.{IfSome}
use Rattle.pb_wire.specs.Fault.{fault}
use Rattle.pb_descr_message.specs.CauseName.{number_of as decl_number}
use Rattle.pb_descr_message.specs.declared.cause.DeclCause.{DeclCause}
use Rattle.pb_descr_message.specs.declared.cause.DeclCause.TheVariants as decl
use Rattle.pb_descr_message.specs.declared.error.DescrError.{DescrError}
use Rattle.pb_descr_message.specs.declared.error.DescrError.TheVariants as descr
use Rattle.pb_link_rules.specs.CauseName.{cause_number}
use Rattle.pb_link_rules.specs.declared.cause.LinkCause.{LinkCause}
use Rattle.pb_link_rules.specs.declared.cause.LinkCause.TheVariants as link
use Rattle.pb_source_tokens.specs.CauseName.{number_of as source_number}
use Rattle.pb_source_tokens.specs.declared.fault.SourceCause.{SourceCause}
use Rattle.pb_source_tokens.specs.declared.fault.SourceCause.TheVariants as source
use Rattle.pb_c.specs.declared.pool.compile.Unparsed.{Unparsed}
use Rattle.pb_c.specs.declared.pool.compile.Unparsed.TheVariants.{Source, Memory}
use Rattle.pb_c.specs.PoolFault.{PoolFault, answer_of, set_fault}
use Rattle.pb_c.specs.SourcePool.{IsUnparsed}

pub decl_from : (c : DeclCause) → 50 ≤ decl_number c
decl_from decl.MissingName = omega arith
decl_from decl.BadLabel = omega arith
decl_from decl.BadTypeNumber = omega arith
decl_from decl.Extension = omega arith
decl_from decl.NotProto3 = omega arith
decl_from decl.Required = omega arith
decl_from decl.Group = omega arith
decl_from decl.DefaultValue = omega arith

source_from : (c : SourceCause) → 50 ≤ source_number c
source_from source.SourceTooLarge = omega arith
source_from source.BadUtf8 = omega arith
source_from source.BadToken = omega arith
source_from source.OpenComment = omega arith
source_from source.OpenText = omega arith
source_from source.Unexpected = omega arith
source_from source.NumberTooLarge = omega arith
source_from source.CustomOption = omega arith
source_from source.NotProto3 = omega arith
source_from source.NestedTooDeep = omega arith
source_from source.Memory = omega arith

pub link_from : (c : LinkCause) → 50 ≤ cause_number c
link_from link.TwoFiles = omega arith
link_from link.MissingImport = omega arith
link_from link.ImportCycle = omega arith
link_from link.BadName = omega arith
link_from link.NameTaken = omega arith
link_from link.NotFound = omega arith
link_from link.NotVisible = omega arith
link_from link.NotAType = omega arith
link_from link.BadNumber = omega arith
link_from link.NumberTaken = omega arith
link_from link.Reserved = omega arith
link_from link.BadOneof = omega arith
link_from link.BadMap = omega arith
link_from link.BadPacked = omega arith
link_from link.BadEnum = omega arith
link_from link.KindMismatch = omega arith
link_from link.BadRange = omega arith
link_from link.ClosedEnum = omega arith

apart : (n : ℕ) → 50 ≤ n → (n ≢ 0) × (n ≢ 14)
apart n large = (λ is. omega (arith, large, is), λ is. omega (arith, large, is))

pub answer_apart : (w : PoolFault) → (answer_of w ≢ 0) × (answer_of w ≢ 14)
answer_apart (PoolFault.in_bytes f) = (λ is. omega (arith, is), λ is. omega (arith, is))
answer_apart (PoolFault.in_file i c) = apart (decl_number c) (decl_from c)
answer_apart (PoolFault.in_source i byte c) = apart (source_number c) (source_from c)
answer_apart (PoolFault.in_link file name c) = apart (cause_number c) (link_from c)

module _ (answer : ℕ) (Same : Type 0) where
  pub fault_kept : (w : PoolFault) → answer ≡ answer_of w → (answer ≢ 0) × (answer ≡ 14 → Same)
  fault_kept w is = (λ done. (answer_apart w).0 (sym is ∙ done), λ memory. absurd ((answer_apart w).1 (sym is ∙ memory)))

  memory_kept : (answer ≡ 14) × Same → (answer ≢ 0) × (answer ≡ 14 → Same)
  memory_kept both = (λ done. omega (arith, both.0, done), λ memory. both.1)

  -- what is reported of a set that is not read is no pool, and where memory is out nothing is reported
  pub set_kept : (e : DescrError) (Told : PoolFault → Type 0) → ((w : PoolFault) → Told w → answer ≡ answer_of w) → IfSome (set_fault e) Told
      → (e ≡ descr.Memory → (answer ≡ 14) × Same) → (answer ≢ 0) × (answer ≡ 14 → Same)
  set_kept (descr.Fault byte path c) Told number told memory = let w = PoolFault.in_bytes (fault byte path.items c) in fault_kept w (number w told)
  set_kept (descr.Decl i c) Told number told memory = let w = PoolFault.in_file i c in fault_kept w (number w told)
  set_kept descr.Memory Told number told memory = memory_kept (memory refl)

  -- what is reported of sources that are not parsed is no pool and no name, and where memory is out nothing is reported
  pub source_kept : (e : Unparsed) (Told : ℕ → ℕ → SourceCause → Type 0) → ((i byte : ℕ) (c : SourceCause) → Told i byte c → answer ≡ source_number c) → IsUnparsed Told e
      → (e ≡ Memory → (answer ≡ 14) × Same) → (answer ≢ 0) × (answer ≢ 4) × (answer ≡ 14 → Same)
  source_kept (Source i byte c) Told number told memory =
      let is = number i byte c told in let from = source_from c in
      (λ e. omega (arith, is, from, e), λ e. omega (arith, is, from, e), λ e. absurd (omega (arith, is, from, e)))
  source_kept Memory Told number told memory =
      let both = memory refl in
      (λ e. omega (arith, both.0, e), λ e. omega (arith, both.0, e), λ e. both.1)
