-- Why declarations make no pool, and how it is reported.
use Rattle.std.specs.Prelude.{◌≡◌, ℕ, List, ◌++◌, length, Option, Some, None, string_bytes}
use Rattle.pb_wire.specs.Fault.{Fault, fault}
use Rattle.pb_descr_message.specs.CauseName.{number_of as decl_number}
use Rattle.pb_descr_message.specs.declared.cause.DeclCause.{DeclCause}
use Rattle.pb_descr_message.specs.declared.error.DescrError.{DescrError}
use Rattle.pb_descr_message.specs.declared.error.DescrError.TheVariants as descr
use Rattle.pb_link_rules.specs.CauseName.{cause_number}
use Rattle.pb_link_rules.specs.declared.cause.LinkCause.{LinkCause}
use Rattle.pb_link_rules.specs.declared.error.LinkError.{LinkError}
use Rattle.pb_link_rules.specs.declared.error.LinkError.TheVariants as link
use Rattle.pb_source_tokens.specs.CauseName.{number_of as source_number}
use Rattle.pb_source_tokens.specs.declared.fault.SourceCause.{SourceCause}
use Rattle.pb_c.specs.declared.pool.refusal.Refusal.{Refusal}
use Rattle.pb_c_answers.specs.declared.reporting.FaultReport.{FaultReport}
use Rattle.pb_c_answers.specs.declared.reporting.Step.{Step}
use Rattle.pb_c_answers.specs.Reporting.{Tells, laid_over}

-- The bytes of a set are no set; a file of it, by its index, is not read; a source, by its index, is none, at a byte; or the files do not link:
-- the name of the file, the full name of the declaration, and the cause.
pub data PoolFault : Type 0 where
  in_bytes : Fault → PoolFault
  in_file : ℕ → DeclCause → PoolFault
  in_source : ℕ → ℕ → SourceCause → PoolFault
  in_link : List ℕ → List ℕ → LinkCause → PoolFault

-- the number that is answered
abbrev pub answer_of : PoolFault → ℕ
answer_of (PoolFault.in_bytes f) = 13
answer_of (PoolFault.in_file i c) = decl_number c
answer_of (PoolFault.in_source i byte c) = source_number c
answer_of (PoolFault.in_link file name c) = cause_number c

-- the refusal then
abbrev pub refusal_of : Refusal → PoolFault → Refusal
refusal_of old (PoolFault.in_bytes f) = old
refusal_of old (PoolFault.in_file i c) = record { file = i; byte = 0; file_len = 0; name_len = 0 }
refusal_of old (PoolFault.in_source i byte c) = record { file = i; byte = byte; file_len = 0; name_len = 0 }
refusal_of old (PoolFault.in_link file name c) = record { file = 0; byte = 0; file_len = length file; name_len = length name }

-- the buffer of its string then
abbrev pub text_of : List ℕ → PoolFault → List ℕ
text_of old (PoolFault.in_bytes f) = old
text_of old (PoolFault.in_file i c) = old
text_of old (PoolFault.in_source i byte c) = old
text_of old (PoolFault.in_link file name c) = laid_over (file ++ name) old

-- The fault is answered, and reported by a refusal and its string.
pub record TellsRefusal (w : PoolFault) (answer : ℕ) (old new : Refusal) (old_text new_text : List ℕ) : Type 0 where
  pub answer_is : answer ≡ answer_of w
  pub refusal : new ≡ refusal_of old w
  pub text : new_text ≡ text_of old_text w

-- A fault of bytes is reported by its report and its path, which are as they were for any other.
abbrev pub TellsBytes : PoolFault → FaultReport → FaultReport → List Step → List Step → Type 0
TellsBytes (PoolFault.in_bytes f) old new old_path new_path = Tells f new old_path new_path
TellsBytes (PoolFault.in_file i c) old new old_path new_path = (new ≡ old) × (new_path ≡ old_path)
TellsBytes (PoolFault.in_source i byte c) old new old_path new_path = (new ≡ old) × (new_path ≡ old_path)
TellsBytes (PoolFault.in_link file name c) old new old_path new_path = (new ≡ old) × (new_path ≡ old_path)

-- The fault is answered, and reported in both ways.
pub record TellsFault
    (w : PoolFault) (answer : ℕ) (old new : FaultReport) (old_path new_path : List Step)
    (old_refusal new_refusal : Refusal) (old_text new_text : List ℕ) : Type 0 where
  pub bytes : TellsBytes w old new old_path new_path
  pub refusal : TellsRefusal w answer old_refusal new_refusal old_text new_text

-- what the errors of the library report; out of memory is none of it
abbrev pub set_fault : DescrError → Option PoolFault
set_fault (descr.Fault byte path cause) = Some (PoolFault.in_bytes (fault byte path.items cause))
set_fault (descr.Decl file cause) = Some (PoolFault.in_file file cause)
set_fault descr.Memory = None

abbrev pub link_fault : LinkError → Option PoolFault
link_fault (link.Fault file name cause) = Some (PoolFault.in_link (string_bytes file) (string_bytes name) cause)
link_fault link.Memory = None
