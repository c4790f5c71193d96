-- What is known of records that were read.
use Rattle.std.proofs.Common.{◌≡◌, ℕ, ◌+◌, ◌<◌, ◌≤◌, List, length, take, Option, None, Some, refl, subst, arith}
use Rattle.std.specs.Prelude.{option_map}
use Rattle.std.proofs.lemmas.List.{length-take, take-take, take_all}
use Rattle.pb_wire.specs.Record.{Record}
use Rattle.pb_wire.specs.Fault.{Fault}
use Rattle.pb_wire.specs.Schema.{Schema, blank}
use Rattle.pb_wire.specs.Grammar.{IsText, HasFault, bad, bad_front, too_large}
use Rattle.pb_wire.specs.Limits.{Bounds}
use Rattle.pbtool_files.specs.Answer.{Answer, refused}
use Rattle.pbtool_command.specs.RawAnswer.{RawAnswer, ShownAnswer, missing, shown, faulty}
use Rattle.pbtool_command.specs.declared.command.RawForm.{RawForm}
use Rattle.pbtool_files.specs.Report.{fault_line}

-- the first bytes of a text within the limit are all of it
pub front_whole : (m : ℕ) (b : List ℕ) → length (take (m + 1) b) ≤ m → take (m + 1) b ≡ b
front_whole m b small =
    let size = length-take (m + 1) b in
    take_all (m + 1) b (omega (arith, size, small))

pub front_long : (m : ℕ) (b : List ℕ) → m < length (take (m + 1) b) → m < length b
front_long m b long = let size = length-take (m + 1) b in omega (arith, size, long)

text_whole : (limits : Bounds) (b : List ℕ) (rs : List Record) → IsText blank tt limits (take (limits.bytes + 1) b) rs → IsText blank tt limits b rs
text_whole limits b rs is_text = subst (λ (t : List ℕ). IsText blank tt limits t rs) (front_whole limits.bytes b is_text.size) is_text

pub fault_whole :
    (S : Schema) (c : S.Context) (limits : Bounds) (b : List ℕ) (f : Fault) → HasFault S c limits (take (limits.bytes + 1) b) f → HasFault S c limits b f
fault_whole S c limits b f (bad small h) =
    subst (λ (t : List ℕ). HasFault S c limits t f) (front_whole limits.bytes b small) (bad small h)
fault_whole S c limits b f (bad_front long h e) =
    let front = take-take limits.bytes (limits.bytes + 1) b (omega arith) in
    bad_front (front_long limits.bytes b long) (rw front at h) e
fault_whole S c limits b f (too_large long h e) =
    let front = take-take limits.bytes (limits.bytes + 1) b (omega arith) in
    too_large (front_long limits.bytes b long) (rw front at h) e

shown_whole :
    (limits : Bounds) (form : RawForm) (path : List ℕ) (a : Answer) (o : Option (List ℕ)) (t : List ℕ) (rs : List Record)
    → option_map (take (limits.bytes + 1)) o ≡ Some t → IsText blank tt limits t rs → ShownAnswer form rs a
    → RawAnswer limits form path o a
shown_whole limits form path a None t rs there is_text e = absurd (cc)
shown_whole limits form path a (Some b) t rs there is_text e =
    let front : t ≡ take (limits.bytes + 1) b = cc in
    shown refl (text_whole limits b rs (subst (λ (u : List ℕ). IsText blank tt limits u rs) front is_text)) e

faulty_whole :
    (limits : Bounds) (form : RawForm) (path : List ℕ) (a : Answer) (o : Option (List ℕ)) (t : List ℕ) (f : Fault)
    → option_map (take (limits.bytes + 1)) o ≡ Some t → HasFault blank tt limits t f → a ≡ refused (fault_line f)
    → RawAnswer limits form path o a
faulty_whole limits form path a None t f there has_fault e = absurd (cc)
faulty_whole limits form path a (Some b) t f there has_fault e =
    let front : t ≡ take (limits.bytes + 1) b = cc in
    faulty refl (fault_whole blank tt limits b f (subst (λ (u : List ℕ). HasFault blank tt limits u f) front has_fault)) e

pub none_whole : (n : ℕ) (o : Option (List ℕ)) → option_map (take n) o ≡ None → o ≡ None
none_whole n None nothing = refl
none_whole n (Some b) nothing = absurd (cc)

-- the answer over the first bytes, one more than the limit, is the answer over all of them
pub answer_whole :
    (limits : Bounds) (form : RawForm) (path : List ℕ) (o : Option (List ℕ)) (a : Answer)
    → RawAnswer limits form path (option_map (take (limits.bytes + 1)) o) a → RawAnswer limits form path o a
answer_whole limits form path o a (missing nothing e) = missing (none_whole (limits.bytes + 1) o nothing) e
answer_whole limits form path o a (shown {text} {records} there is_text e) = shown_whole limits form path a o text records there is_text e
answer_whole limits form path o a (faulty {text} {f} there has_fault e) = faulty_whole limits form path a o text f there has_fault e
