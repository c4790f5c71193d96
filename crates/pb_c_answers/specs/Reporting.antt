-- What a call reports to its caller.
use Rattle.std.specs.Prelude.{◌≡◌, ℕ, ◌<◌, ◌≤◌, ◌^◌, List, ◌++◌, length, take, drop, map}
use Rattle.pb_wire.specs.CauseName.{number_of}
use Rattle.pb_wire.specs.Fault.{Fault}
use Rattle.pb_wire.specs.Limits.{Bounds}
use Rattle.pb_wire.specs.declared.fault.PathStep.{PathStep}
use Rattle.pb_c_answers.specs.declared.reporting.FaultReport.{FaultReport}
use Rattle.pb_c_answers.specs.declared.reporting.Step.{Step}

abbrev pub bounds : ℕ → ℕ → Bounds
bounds bytes depth = record { bytes = bytes; depth = depth }

-- limits that a text may have
abbrev pub AreLimits : ℕ → ℕ → Type 0
AreLimits bytes depth = (bytes < 2 ^ 31) × (depth ≤ 100)

-- a list laid over the front of a buffer, as much of it as that holds
abbrev pub laid_over : {A : Type 0} → List A → List A → List A
laid_over xs buffer = take (length buffer) xs ++ drop (length xs) buffer

-- The list is written to the start of the buffer, as far as it fits, and its whole length is reported.
pub record IsLaid {A : Type 0} (xs old new : List A) (size : ℕ) : Type 0 where
  pub laid : new ≡ laid_over xs old
  pub whole : size ≡ length xs

abbrev pub told_step : PathStep → Step
told_step s = record { number = s.number; before = s.occurrence }

-- The report is of the fault, and its path is laid over the buffer.
pub record Tells (f : Fault) (report : FaultReport) (old new : List Step) : Type 0 where
  pub told : report ≡ record { byte = f.byte; steps = length f.path; cause = number_of f.cause }
  pub path : new ≡ laid_over (map told_step f.path) old
