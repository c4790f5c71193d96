-- Bytes that are judged while they are read.
use Rattle.std.proofs.Common.{◌≡◌, ℕ, ◌+◌, ◌≤◌, ◌⊎◌, List, ◌++◌, length, Bool, false, true, Option, Some, refl}
use Rattle.std.specs.Prelude.{Result, Ok, Err, Vec}
use Rattle.std.specs.Borrow.{Bor}
use Rattle.std.specs.declared.alloc.Global.{Global}
use Rattle.std.specs.Io.KnownBytes.{Consumes}
use Rattle.pb_wire.specs.Limits.{Bounds}
use Rattle.pb_wire.specs.declared.fault.RawError.{RawError}
use Rattle.pb_wire.specs.declared.fault.RawError.TheVariants as raw
use Rattle.pbtool_files.specs.Known.{IsReadFrom}
use Rattle.pbtool_files.specs.Refusal.{IsTold, Refuses, names_device}
use Rattle.pbtool_files.proofs.FirstPieces.{early_refuses, stop_refuses}
use Rattle.pbtool_files.proofs.RefusalLemmas.{refuses_map}
use Rattle.pbtool_files.specs.declared.report.Refusal.{Refusal}
use Rattle.pbtool_files.specs.declared.report.Refusal.TheVariants as refusal
use Rattle.pbtool_command.specs.RawAnswer.{RawAnswer, missing}
use Rattle.pbtool_command.specs.Steps.{Judges}
use Rattle.pbtool_command.specs.declared.command.RawForm.{RawForm}

no_true : false ≡ true → ⊥
no_true is = cc

-- a fault of the first bytes is reported for all
pub early_judges :
    {I : Type 0} (left : I → Option (List ℕ)) (is_steady : I → Bool) (input : I) (limits : Bounds) (path text : List ℕ) (new : Option (List ℕ)) (e : Refusal)
    → Consumes (left input) new text → length text ≤ limits.bytes + 1
    → ((form : RawForm) (path more : List ℕ) → Refuses (RawAnswer limits form path (Some (text ++ more))) e)
    → Judges limits path (IsReadFrom left is_steady input (limits.bytes + 1)) (Err e)
early_judges left is_steady input limits path text new e taken within refused = λ form.
    early_refuses left is_steady input (limits.bytes + 1) (RawAnswer limits form path) text new e taken within (refused form path)

-- memory ran out, or the input failed
pub stop_judges :
    {I : Type 0} (left : I → Option (List ℕ)) (is_steady : I → Bool) (input : I) (limits : Bounds) (path : Bor (List ℕ)) (e : Refusal)
    → (e ≡ refusal.Memory) ⊎ ((e ≡ refusal.Device path) × (is_steady input ≡ true → ⊥))
    → Judges limits path.now (IsReadFrom left is_steady input (limits.bytes + 1)) (Err e)
stop_judges left is_steady input limits path e stopped = λ form.
    stop_refuses left is_steady input (limits.bytes + 1) (RawAnswer limits form path.now) path e (missing refl refl) stopped

-- a fault of bytes, and memory that ran out, name no device
pub no_device_told : (e : RawError) (f : Refusal) → IsTold e f → names_device f ≡ true → ⊥
no_device_told (raw.Fault byte steps cause) f told names = no_true (rw told at names)
no_device_told raw.Memory f told names = no_true (rw told at names)

-- what holds of an input's bytes holds of the file's
pub judges_of :
    (limits : Bounds) (path : List ℕ) (P Q : Option (List ℕ) → Type 0) (r : Result (Vec ℕ Global) Refusal)
    → ((content : Option (List ℕ)) → P content → Q content) → Judges limits path P r → Judges limits path Q r
judges_of limits path P Q (Ok v) more h = (more (Some v.items) h.0, h.1)
judges_of limits path P Q (Err e) more h = λ form.
    refuses_map (λ a. (content : Option (List ℕ)) × P content × RawAnswer limits form path content a)
    (λ a. (content : Option (List ℕ)) × Q content × RawAnswer limits form path content a) e (λ a k. (k.0, more k.0 k.1, k.2)) (h form)
