-- What comes of the message of a file, from what its steps leave.
use Rattle.std.proofs.Common.{◌≡◌, ◌⊎◌, ◌+◌, ℕ, List, Bool, true, Option, None, Some, inl, inr, subst}
use Rattle.pb_wire.specs.Fault.{Fault}
use Rattle.pb_wire.specs.Limits.{full}
use Rattle.pb_schema.specs.Types.{Types}
use Rattle.pb_value.specs.Dynamic.{Dynamic}
use Rattle.pb_value.specs.WellFormed.{IsWellFormed}
use Rattle.pbtool_files.specs.Answer.{Answer, device_failed, refused}
use Rattle.pbtool_command.specs.Answers.{FaultAt, TextAt}
use Rattle.pbtool_files.specs.FileMap.{FileMap, IsOpened, KeepsMap}
use Rattle.pbtool_command.specs.MessageAnswer.{FormAnswer, faulty, read}
use Rattle.pbtool_files.specs.Report.{fault_line}
use Rattle.pbtool_files.specs.Known.{IsReadOf, OfFiles, OfInput}
use Rattle.pbtool_command.specs.Steps.{JsonOf, MessageAt, MessageOf}
use Rattle.pbtool_files.specs.SetFile.{HasType}
use Rattle.pbtool_command.specs.TypeAnswer.{missing, opened}
use Rattle.pbtool_command.specs.declared.command.Source.{Source}
use Rattle.pbtool_command.specs.declared.form.Form.{Form}
use Rattle.pbtool_command.specs.declared.form.Form.TheVariants as form
use Rattle.std.specs.Borrow.{Bor}
use Rattle.pb_json.specs.Given.{NamesGiven}
use Rattle.pb_json.specs.declared.form.Layout.{Layout}
use Rattle.pb_json_names.specs.Names.{AreNamesOf}
use Rattle.pbtool_files.proofs.KnownLemmas.{of_later, opened_of}
use Rattle.pbtool_command.proofs.Honest.{message_map}

-- why the message of an opened input is refused
pub refused_of :
    {F I : Type 0} (contents : F → Option FileMap) (is_steady : F → Bool) (files : F) (path : List ℕ) (left : I → Option (List ℕ)) (stays : I → Bool)
    (input : I) (pool : Types) (m : ℕ) (a : Answer)
    → OfFiles contents is_steady files path (λ content. IsOpened left content (Some input) × (stays input ≡ true))
    → (OfInput left stays input (λ content. content ≡ None) × (a ≡ device_failed path))
    ⊎ ((f : Fault) × OfInput left stays input (λ content. FaultAt content pool m f) × (a ≡ refused (fault_line f)))
    → (OfFiles contents is_steady files path (λ content. content ≡ None) × (a ≡ device_failed path))
    ⊎ ((f : Fault) × OfFiles contents is_steady files path (λ content. FaultAt content pool m f) × (a ≡ refused (fault_line f)))
refused_of contents is_steady files path left stays input pool m a there (inl h) =
    inl (opened_of contents is_steady files path left stays input (λ content. content ≡ None) there h.0, h.1)
refused_of contents is_steady files path left stays input pool m a there (inr h) =
    inr (h.0, opened_of contents is_steady files path left stays input (λ content. FaultAt content pool m h.0) there h.1, h.2)

-- from the message to the file that holds it
module _ {F : Type 0} (contents : F → Option FileMap) (is_steady : F → Bool) (old : F) (form : Form) (pool : Types) (m : ℕ) (path : List ℕ) where
  -- the file is not there, or its bytes are refused
  pub not_read :
      (a : Answer)
      → (OfFiles contents is_steady old path (λ content. content ≡ None) × (a ≡ device_failed path))
      ⊎ ((f : Fault) × OfFiles contents is_steady old path (λ content. FaultAt content pool m f) × (a ≡ refused (fault_line f)))
      → MessageAt contents is_steady old form pool m path a
  not_read a (inl h) = inl h
  not_read a (inr h) = inr (faulty h.1 h.2)

  -- something is made of the message
  pub made_of :
      (d : Dynamic) (a : Answer) → d.pool ≡ pool → d.kind ≡ m
      → IsWellFormed pool m d.body × OfFiles contents is_steady old path (λ content. TextAt content pool m d.body) → FormAnswer form d a
      → MessageAt contents is_steady old form pool m path a
  made_of d a of_pool of_kind h made =
      inr
      (read h
      (subst (λ (k : ℕ). FormAnswer form (record { pool = pool; kind = k; body = d.body }) a) of_kind
      (subst (λ (p : Types). FormAnswer form (record { pool = p; kind = d.kind; body = d.body }) a) of_pool made)))

-- from the file to the set that has its type
module _
    {F : Type 0} (contents : F → Option FileMap) (is_steady : F → Bool) (old mid : F) (form : Form) (s : Source) (set : List ℕ) (pool : Types) (m : ℕ)
    (is_read : IsReadOf contents is_steady old (full.bytes + 1) s.set.now (Some set)) (has : HasType s.reading s.type_name.now set pool m)
    (kept : KeepsMap (contents old) (contents mid)) (steady : is_steady old ≡ true → is_steady mid ≡ true) where
  pub message_of : (a : Answer) → MessageAt contents is_steady mid form pool m s.file.now a → MessageOf contents is_steady old form s a
  message_of a (inl h) = missing is_read has (of_later s.file.now (λ content. content ≡ None) kept steady h.0) h.1
  message_of a (inr h) =
      opened is_read has
      (message_map _ _ _ _ form pool m a (λ f known. of_later s.file.now (λ content. FaultAt content pool m f) kept steady known)
      (λ v known. (known.0, of_later s.file.now (λ content. TextAt content pool m v) kept steady known.1)) h)

-- the same of its JSON, with the names that the set gives
module _
    {F : Type 0} (contents : F → Option FileMap) (is_steady : F → Bool) (old mid : F) (layout : Layout) (s : Source) (set : List ℕ) (pool : Types) (m : ℕ)
    (names : Bor NamesGiven) (are : AreNamesOf pool set names.now) (is_read : IsReadOf contents is_steady old (full.bytes + 1) s.set.now (Some set))
    (has : HasType s.reading s.type_name.now set pool m) (kept : KeepsMap (contents old) (contents mid)) (steady : is_steady old ≡ true → is_steady mid ≡ true) where
  pub json_of : (a : Answer) → MessageAt contents is_steady mid (form.Json layout names) pool m s.file.now a → JsonOf contents is_steady old layout s a
  json_of a (inl h) = missing is_read has (of_later s.file.now (λ content. content ≡ None) kept steady h.0) h.1
  json_of a (inr h) =
      opened is_read has (
        names,
        (set, is_read, has, are),
        message_map _ _ _ _ (form.Json layout names) pool m a (λ f known. of_later s.file.now (λ content. FaultAt content pool m f) kept steady known)
            (λ v known. (known.0, of_later s.file.now (λ content. TextAt content pool m v) kept steady known.1)) h,
      )
