-- What comes of a file that is judged as a message, from what its steps leave.
use Rattle.std.proofs.Common.{◌≡◌, ◌⊎◌, ◌+◌, ℕ, List, Bool, true, Option, None, Some, take, inl, inr, refl, sym, subst}
use Rattle.std.specs.Borrow.{Bor}
use Rattle.std.specs.Prelude.{codes}
use Rattle.pb_wire.specs.Fault.{Fault}
use Rattle.pb_wire.specs.Grammar.{HasFault}
use Rattle.pb_wire.specs.Limits.{full}
use Rattle.pb_schema.specs.Context.{a_message, schema_of}
use Rattle.pb_schema.specs.Types.{Types}
use Rattle.pb_value.specs.Data.{Message}
use Rattle.pb_value.specs.Derives.{Text}
use Rattle.pb_value.specs.WellFormed.{IsWellFormed}
use Rattle.pbtool_files.specs.Answer.{Answer, device_failed, done, refused}
use Rattle.pbtool_files.specs.FileMap.{FileMap}
use Rattle.pbtool_files.specs.Known.{IsReadFrom, OfFiles, OfInput}
use Rattle.pbtool_files.specs.Refusal.{Refuses}
use Rattle.pbtool_files.specs.Report.{fault_line}
use Rattle.pbtool_files.specs.declared.report.Refusal.{Refusal}
use Rattle.pbtool_files.specs.declared.report.Refusal.TheVariants as refusal
use Rattle.pbtool_files.proofs.FirstPieces.{stop_refuses}
use Rattle.pbtool_command.specs.Answers.{FaultAt, TextAt}
use Rattle.pbtool_command.specs.MessageAnswer.{read}
use Rattle.pbtool_command.specs.Steps.{IsUnfit, MessageAt}
use Rattle.pbtool_command.specs.declared.form.Form.TheVariants.{Check}
use Rattle.pbtool_command.proofs.Judged.{fault_whole, front_whole, none_whole}

-- the first bytes of an input are those that were read
first_of : (text bytes : List ℕ) (n : ℕ) → Some text ≡ Some (take n bytes) → text ≡ take n bytes
first_of text bytes n is = cc

-- a message among the first bytes, one more than it may have, is all of them
message_whole : (pool : Types) (m : ℕ) (b : List ℕ) (v : Message) → Text pool m full (take (full.bytes + 1) b) v → Text pool m full b v
message_whole pool m b v t = subst (λ (x : List ℕ). Text pool m full x v) (front_whole full.bytes b t.size) t

module _ {I : Type 0} (left : I → Option (List ℕ)) (is_steady : I → Bool) (input : I) (pool : Types) (m : ℕ) where
  -- what was read is a message, and so is the input
  pub valid_of :
      (text : List ℕ) (v : Message) → IsReadFrom left is_steady input (full.bytes + 1) (Some text) → Text pool m full text v
      → OfInput left is_steady input (λ content. TextAt content pool m v)
  valid_of text v is_read valid = λ bytes steady is.
      let front : text ≡ take (full.bytes + 1) bytes = first_of text bytes (full.bytes + 1) (is_read bytes steady is) in
      (bytes, refl, message_whole pool m bytes v (subst (λ (x : List ℕ). Text pool m full x v) front valid))

  -- or it is none, or is not there
  pub unfit_of :
      (path : List ℕ) (content : Option (List ℕ)) (a : Answer) → IsReadFrom left is_steady input (full.bytes + 1) content → IsUnfit pool m path content a
      → (OfInput left is_steady input (λ content. content ≡ None) × (a ≡ device_failed path))
      ⊎ ((f : Fault) × OfInput left is_steady input (λ content. FaultAt content pool m f) × (a ≡ refused (fault_line f)))
  unfit_of path None a is_read unfit =
      inl ((λ bytes steady is. none_whole (full.bytes + 1) (Some bytes) (sym (is_read bytes steady is))), unfit)
  unfit_of path (Some text) a is_read (f, has_fault, is_told) =
      inr (
        f,
        (λ bytes steady is.
            let front : text ≡ take (full.bytes + 1) bytes = first_of text bytes (full.bytes + 1) (is_read bytes steady is) in (
              bytes,
              refl,
              fault_whole (schema_of pool) (a_message m) full bytes f
                  (subst (λ (x : List ℕ). HasFault (schema_of pool) (a_message m) full x f) front has_fault),
            )),
        is_told,
      )

  -- memory ran out, or the input failed
  pub stop_unfit :
      (path : Bor (List ℕ)) (e : Refusal) → (e ≡ refusal.Memory) ⊎ ((e ≡ refusal.Device path) × (is_steady input ≡ true → ⊥))
      → Refuses (λ a. (content : Option (List ℕ)) × IsReadFrom left is_steady input (full.bytes + 1) content × IsUnfit pool m path.now content a) e
  stop_unfit path e stopped = stop_refuses left is_steady input (full.bytes + 1) (IsUnfit pool m path.now) path e refl stopped

  -- after its first bytes
  pub stop_later :
      (mid : I) (path : Bor (List ℕ)) (e : Refusal) → (is_steady input ≡ true → is_steady mid ≡ true)
      → (e ≡ refusal.Memory) ⊎ ((e ≡ refusal.Device path) × (is_steady mid ≡ true → ⊥))
      → Refuses (λ a. (content : Option (List ℕ)) × IsReadFrom left is_steady input (full.bytes + 1) content × IsUnfit pool m path.now content a) e
  stop_later mid path e stays (inl is) = stop_unfit path e (inl is)
  stop_later mid path e stays (inr (is, failed)) = stop_unfit path e (inr (is, λ steady. failed (stays steady)))

-- the file is a message
pub judged_of :
    {F : Type 0} (contents : F → Option FileMap) (is_steady : F → Bool) (files : F) (pool : Types) (m : ℕ) (path : List ℕ) (v : Message) (a : Answer)
    → IsWellFormed pool m v → OfFiles contents is_steady files path (λ content. TextAt content pool m v) → a ≡ done (codes "ok\n")
    → MessageAt contents is_steady files Check pool m path a
judged_of contents is_steady files pool m path v a well held is = inr (read (well, held) is)
