-- How many steps are reported of a fault.
use Rattle.std.proofs.Common.{◌≡◌, ◌≤◌, ◌+◌, ◌*◌, ℕ, List, [], length, ap, arith, refl}
use Rattle.pb_wire.specs.Fault.{Fault, fault, Place, VarintFault}
use Rattle.pb_wire.specs.Grammar.{HasFault}
use Rattle.pb_wire.specs.Limits.{Bounds, full}
use Rattle.pb_wire.specs.Reading.{IfRawFault}
use Rattle.pb_wire.specs.Schema.{blank}
use Rattle.pb_wire.specs.declared.fault.Cause.{Cause}
use Rattle.pb_wire.specs.declared.fault.RawError.{RawError}
use Rattle.pb_wire.specs.declared.fault.RawError.TheVariants as raw
use Rattle.pb_wire.proofs.PathBounds.{bounded, leveled, text_path}
use Rattle.pb_schema.specs.Types.{Types}
use Rattle.pb_schema.proofs.StepLemmas.{message_uses_levels, nests_once}
use Rattle.pb_declarations.specs.Decls.{DeclaredFile}
use Rattle.pb_descr_message.specs.Pool.{descriptor_types, the_set}
use Rattle.pb_descr_message.specs.Sets.{SetFault}
use Rattle.pb_decode.specs.Push.{IsFaultOf}
use Rattle.pb_stream.specs.Frame.{FrameFault}
use Rattle.pb_c.specs.PoolFault.{PoolFault, TellsBytes, answer_of}
use Rattle.pb_c.specs.SetPool.{FilesFail}
use Rattle.pb_c_answers.specs.Reporting.{Tells}
use Rattle.pb_c_answers.proofs.StepBounds.{of_path, of_message}
use Rattle.pb_c_answers.specs.declared.reporting.FaultReport.{FaultReport}
use Rattle.pb_c_answers.specs.declared.reporting.Step.{Step}
use Rattle.pb_c.proofs.AnswerNumbers.{decl_from, link_from}

-- of records
pub of_records :
    {limits : Bounds} {b : List ℕ} {f : Fault} {report : FaultReport} {old new : List Step}
    → HasFault blank tt limits b f → Tells f report old new → report.steps ≤ limits.depth + 1
of_records is tells = of_path (text_path _ (λ p g inner. leveled (λ c k d same. cc) inner) is) tells

no_steps : {f : Fault} {byte : ℕ} {c : Cause} {most : ℕ} → f ≡ fault byte [] c → length f.path ≤ most
no_steps is = let none = ap (λ (g : Fault). length g.path) is in omega (arith, none)

of_length : {p : Place} {f : Fault} {most : ℕ} → VarintFault p f → length f.path ≤ most
of_length (VarintFault.too_long a b is) = no_steps is
of_length (VarintFault.past_end a b c is) = no_steps is
of_length (VarintFault.cut_short a b c is) = no_steps is

frame_path : {pool : Types} {m : ℕ} {limits : Bounds} {b : List ℕ} {f : Fault} → FrameFault pool m limits b f → length f.path ≤ 2 * limits.depth + 1
frame_path (FrameFault.no_length some cut) = of_length cut
frame_path (FrameFault.too_large reads past is) = no_steps is
frame_path {pool = pool} {m = m} (FrameFault.in_text reads fits inner) = (bounded (nests_once pool) inner).plainly (message_uses_levels pool m)

-- of a frame
pub of_frame :
    {pool : Types} {m : ℕ} {limits : Bounds} {b : List ℕ} {f : Fault} {report : FaultReport} {old new : List Step}
    → FrameFault pool m limits b f → Tells f report old new → report.steps ≤ 2 * limits.depth + 1
of_frame is tells = of_path (frame_path is) tells

-- of a descriptor set
pub of_set :
    (AreFiles : List DeclaredFile → Type 0) (HasFault : SetFault → Type 0) (set : List ℕ)
    → ((f : Fault) → HasFault (SetFault.of_bytes f) → IsFaultOf descriptor_types the_set full set f)
    → (old new : FaultReport) (old_path new_path : List Step) (w : PoolFault)
    → FilesFail AreFiles HasFault w → answer_of w ≡ 13 → TellsBytes w old new old_path new_path → new.steps ≤ 201
of_set AreFiles HasFault set is_fault old new old_path new_path (PoolFault.in_bytes f) fails is told = of_message descriptor_types the_set (is_fault f fails) told
of_set AreFiles HasFault set is_fault old new old_path new_path (PoolFault.in_file i c) fails is told = let from = decl_from c in absurd (omega (arith, from, is))
of_set AreFiles HasFault set is_fault old new old_path new_path (PoolFault.in_source i byte c) fails is told = absurd fails
of_set AreFiles HasFault set is_fault old new old_path new_path (PoolFault.in_link file name c) fails is told =
    let from = link_from c in absurd (omega (arith, from, is))

-- of an error of the calls without a schema
pub of_raw_error :
    (limits : Bounds) (b : List ℕ) (report : FaultReport) (old new : List Step) (answer : ℕ) (e : RawError)
    → IfRawFault e (λ f. HasFault blank tt limits b f) → IfRawFault e (λ f. (answer ≡ 13) × Tells f report old new)
    → (e ≡ raw.Memory → answer ≡ 14) → answer ≡ 13 → report.steps ≤ limits.depth + 1
of_raw_error limits b report old new answer (raw.Fault byte path cause) fails told memory is = of_records fails told.1
of_raw_error limits b report old new answer raw.Memory fails told memory is = let other = memory refl in absurd (omega (arith, other, is))
