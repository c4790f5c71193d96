-- Failed reads of streams, as refusals report them.
use Rattle.std.specs.Prelude.{◌⊎◌}
use Rattle.std.proofs.Common.{◌≡◌, ◌≢◌, ◌∙◌, ℕ, List, true, false, Result, Ok, Err, IfErr, ap, inl, refl, sym}
use Rattle.std.specs.Borrow.{Bor}
use Rattle.pb_decode.specs.FromDevice.{TellsFailures}
use Rattle.pb_decode.specs.declared.error.DecodeError.{DecodeError}
use Rattle.pb_decode.specs.declared.error.DecodeError.TheVariants as decode
use Rattle.pb_json.specs.declared.error.JsonError.{JsonError}
use Rattle.pb_json.specs.declared.error.JsonError.TheVariants as json_error
use Rattle.pbtool_files.specs.Refusal.{KeepsFailures, names_device}
use Rattle.pbtool_files.specs.declared.report.Refusal.{Refusal}
use Rattle.pbtool_files.specs.declared.report.Refusal.TheVariants as refusal
use Rattle.pbtool_command.specs.PassingOn.{Concludes}
use Rattle.pbtool_command.specs.ReadFailures.{RefusalCounts}
use Rattle.pbtool_command.specs.Streaming.{IsToldOfFormless, IsToldOfFrame}

-- a refusal that names no device, where nothing failed
pub none_failed : (before after : ℕ) (e : Refusal) → after ≡ before → names_device e ≡ false → RefusalCounts before after e
none_failed before after e same none = (λ n. same, λ named. absurd (cc))

-- one that names a device, which failed
pub one_failed : (before after : ℕ) (e : Refusal) → after ≢ before → names_device e ≡ true → RefusalCounts before after e
one_failed before after e changed named = (λ none. absurd (cc), λ n. changed)

pub frame_counts :
    (A : Type 0) (before after index : ℕ) (path : Bor (List ℕ)) (error : DecodeError) (e : Refusal) → TellsFailures {A = A} (Err error) before after
    → IsToldOfFrame index path error e → RefusalCounts before after e
frame_counts A before after index path (decode.Fault byte steps cause) e counts is = none_failed before after e counts (ap names_device is)
frame_counts A before after index path decode.Device e counts is = one_failed before after e counts (ap names_device is)
frame_counts A before after index path decode.Memory e counts is = none_failed before after e counts (ap names_device is)
frame_counts A before after index path decode.Finished e counts is = none_failed before after e counts (ap names_device is)

pub formless_counts :
    (before after index : ℕ) (error : JsonError) (e : Refusal) → after ≡ before → IsToldOfFormless index error e → RefusalCounts before after e
formless_counts before after index (json_error.Refused x) e same is = none_failed before after e same (ap names_device is)
formless_counts before after index json_error.Memory e same is = none_failed before after e same (ap names_device is)
formless_counts before after index json_error.Output e same is = none_failed before after e same (ap names_device is)

pub memory_counts : (before after : ℕ) (e : Refusal) → after ≡ before → e ≡ refusal.Memory → RefusalCounts before after e
memory_counts before after e same is = none_failed before after e same (ap names_device is)

-- what reports the refused frames names no device
names_none : (lines : List ℕ) (refused count : ℕ) (e : Refusal) → Concludes lines refused count (Err e) → names_device e ≡ false
names_none lines refused count (refusal.Frames v r n) h = refl
names_none lines refused count e h = absurd h

pub concluded_none :
    (lines : List ℕ) (refused count : ℕ) (r : Result Unit Refusal) (P : Type 0) → Concludes lines refused count r
    → IfErr r (λ e. names_device e ≡ true → P)
concluded_none lines refused count (Ok u) P h = tt
concluded_none lines refused count (Err e) P h = λ named. let none = names_none lines refused count e h in absurd (cc)

-- an answer that leaves the count as it was
pub keeps_same :
    {F A : Type 0} (failures : F → ℕ) (old new : F) (r : Result A Refusal) → failures new ≡ failures old → KeepsFailures failures old new r
keeps_same failures old new (Ok x) same = same
keeps_same failures old new (Err e) same = λ none. same

-- a refusal that counts from a later point on, at which none had failed
pub counts_from : (start before after : ℕ) (e : Refusal) → before ≡ start → RefusalCounts before after e → RefusalCounts start after e
counts_from start before after e same counts = (λ none. counts.0 none ∙ same, λ named is. counts.1 named (is ∙ sym same))

-- an input failed, where this or something else may have
pub failed_input :
    {A : Type 0} (P Q : Type 0) (r : Result A Refusal) → IfErr r (λ e. names_device e ≡ true → P) → IfErr r (λ e. names_device e ≡ true → P ⊎ Q)
failed_input P Q (Ok x) h = tt
failed_input P Q (Err e) h = λ named. inl (h named)
