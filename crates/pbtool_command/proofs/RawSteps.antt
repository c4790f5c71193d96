-- What `raw` comes to, from what its steps leave.
use Rattle.std.proofs.Common.{ℕ, List, Option, None, Some, refl, sym, subst}
use Rattle.std.specs.Prelude.{Result, Err}
use Rattle.pb_wire.specs.Record.{Record}
use Rattle.pb_wire.specs.Schema.{blank}
use Rattle.pb_wire.specs.Grammar.{HasFault, IsText}
use Rattle.pb_wire.specs.Reading.{IfRawFault}
use Rattle.pb_wire.specs.declared.fault.RawError.{RawError}
use Rattle.pb_wire.specs.declared.fault.RawError.TheVariants as raw
use Rattle.pb_wire.specs.Limits.{Bounds}
use Rattle.pbtool_command.specs.RawAnswer.{RawAnswer, ShownAnswer, faulty, shown}
use Rattle.pbtool_command.specs.declared.command.RawForm.{RawForm}
use Rattle.pbtool_files.specs.Refusal.{IsTold}
use Rattle.pbtool_command.specs.Steps.{Comes, IsNothing, Judges, NoFile}
use Rattle.pbtool_files.specs.declared.report.Refusal.{Refusal}
use Rattle.pbtool_command.proofs.Coming.{comes_map}

-- the bytes that were read are refused
pub told_judges :
    (limits : Bounds) (path : List ℕ) (P : Option (List ℕ) → Type 0) (e : RawError) (f : Refusal) (text : List ℕ) → IsTold e f → P (Some text)
    → IfRawFault e (HasFault blank tt limits text) → Judges limits path P (Err f)
told_judges limits path P (raw.Fault byte steps cause) f text told read fault = rw told (λ form. (Some text, read, faulty refl fault refl))
told_judges limits path P raw.Memory f text told read fault = rw told (λ form. tt)

-- their records are shown, and no file is written
pub shown_comes :
    (Out Cut : List ℕ → Type 0) (Saved : Option (List ℕ × List ℕ) → Type 0) (Unsaved : List ℕ → Type 0) (limits : Bounds) (form : RawForm)
    (path : List ℕ) (P : Option (List ℕ) → Type 0) (text : List ℕ) (rs : List Record) (r : Result Unit Refusal) → P (Some text)
    → IsText blank tt limits text rs → Saved None → Comes Out Cut NoFile (λ _. ⊥) (ShownAnswer form rs) IsNothing r
    → Comes Out Cut Saved Unsaved (λ a. (content : Option (List ℕ)) × P content × RawAnswer limits form path content a) IsNothing r
shown_comes Out Cut Saved Unsaved limits form path P text rs r read is_text saved h =
    comes_map Out Out Cut Cut NoFile Saved (λ _. ⊥) Unsaved (ShownAnswer form rs)
    (λ a. (content : Option (List ℕ)) × P content × RawAnswer limits form path content a) IsNothing IsNothing r (λ bytes sent. sent) (λ bytes cut. cut)
    (λ s none. subst Saved (sym none) saved) (λ device never. absurd never) (λ a is. (Some text, read, shown refl is_text is)) (λ bytes nothing. nothing) h
