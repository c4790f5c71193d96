-- What is known of sources after some of them were read, and of all their bytes from the first ones.
use Rattle.std.proofs.Common.{◌≡◌, ◌+◌, ◌⊎◌, ℕ, List, [], ◌∷◌, Bool, true, Option, None, Some, take, refl, sym, ap, inl, inr, subst}
use Rattle.std.specs.Prelude.{IfSome, option_map}
use Rattle.pb_wire.specs.Limits.{full}
use Rattle.pb_declarations.specs.Decls.{DeclaredFile}
use Rattle.pb_source_tokens.specs.Fault.{out_of_memory}
use Rattle.pb_source_tokens.specs.declared.fault.SourceCause.{SourceCause}
use Rattle.pb_source_tokens.specs.declared.fault.SourceCause.TheVariants as cause
use Rattle.pb_source_tokens.specs.declared.fault.SourceFault.{SourceFault}
use Rattle.pb_source.specs.Source.{IsSourceIn, HasFaultIn, too_large, bad_utf8, in_token, in_syntax}
use Rattle.pb_source.specs.declared.reading.Reading.{Reading as SourceReading}
use Rattle.pbtool_files.specs.declared.set_file.Reading.{Reading}
use Rattle.pbtool_files.specs.declared.set_file.Reading.TheVariants.{Strict, Lenient}
use Rattle.pbtool_files.specs.Answer.{Answer, device_failed, refused}
use Rattle.pbtool_command.specs.CompileAnswer.{CompileAnswer, untaken, unlinked, too_large as set_too_large, compiled, told_of}
use Rattle.pbtool_files.specs.FileMap.{FileMap, IsHonest, IsOpened, KeepsMap}
use Rattle.pbtool_command.specs.Gathering.{Gathered, GathersUnder, HasTroubleAt, HasTroubleUnder, IsAbsentUnder, IsMissing, IsReached, DeclaresAt, DeclaresUnder, HasFaultBy, IsFaultyAt, IsSourceBy, Origin, Outcome, Places, Trouble, places}
use Rattle.pbtool_command.specs.Gathering.{given, imported, unread, faulty, path_under}
use Rattle.pbtool_command.specs.Reaching.{Moves, OpenFile}
use Rattle.pbtool_files.specs.Refusal.{Refuses}
use Rattle.pbtool_files.specs.Report.{source_line}
use Rattle.pbtool_files.specs.Known.{OfFiles}
use Rattle.pbtool_command.specs.Steps.{AbsentOf, CompileOf, DeclaredOf, Fails, GathersOf, IsAt, TroubleOf}
use Rattle.pbtool_files.specs.declared.report.Refusal.{Refusal}
use Rattle.pbtool_files.specs.declared.report.Refusal.TheVariants as refusal
use Rattle.pbtool_files.proofs.RefusalLemmas.{refuses_map}
use Rattle.pbtool_files.proofs.KnownLemmas.{first_read, none_opened, nothing_read, of_later, opened_of}
use Rattle.pbtool_command.proofs.GatheringLemmas.{gathers_map, moves_map}
use Rattle.pbtool_command.proofs.Judged.{front_long, front_whole, none_whole}

-- PATHS OF WHICH MORE IS KNOWN

module _ (IsAt At : List ℕ → Option (List ℕ) → Type 0) (none : (path : List ℕ) → IsAt path None → At path None) (name : List ℕ) where
  pub absent_map : (roots : List (List ℕ)) → IsAbsentUnder IsAt roots name → IsAbsentUnder At roots name
  absent_map [] h = h
  absent_map (root ∷ roots) h = (none (path_under root name) h.0, absent_map roots h.1)

  pub reached_map : (roots : List (List ℕ)) (path : List ℕ) → IsReached IsAt roots name path → IsReached At roots name path
  reached_map [] path h = h
  reached_map (root ∷ roots) path (inl is) = inl is
  reached_map (root ∷ roots) path (inr h) = inr (none (path_under root name) h.0, reached_map roots path h.1)

  missing_map : (roots : List (List ℕ)) (o : Origin) (t : Trouble) → IsMissing IsAt roots o name t → IsMissing At roots o name t
  missing_map [] o t h = absurd h
  missing_map (root ∷ roots) given (unread path) h = (h.0, absent_map (root ∷ roots) h.1)
  missing_map (root ∷ roots) given (faulty place c) h = absurd h
  missing_map (root ∷ roots) imported t h = absurd h

  pub declares_map :
      (p : Places) (f : DeclaredFile) → ((path : List ℕ) → DeclaresAt IsAt p.reading path name f → DeclaresAt At p.reading path name f)
      → DeclaresUnder IsAt p name f → DeclaresUnder At p name f
  declares_map p f source h = (h.0, reached_map p.roots h.0 h.1, source h.0 h.2)

  module _ (p : Places) (Fails Fail : List ℕ → Type 0) (fails : (path : List ℕ) → Fails path → Fail path)
      (fault : (path : List ℕ) (place : ℕ) (c : SourceCause) → IsFaultyAt IsAt p.reading path place c → IsFaultyAt At p.reading path place c) where
    at_map : (path : List ℕ) (t : Trouble) → HasTroubleAt IsAt p.reading path Fails t → HasTroubleAt At p.reading path Fail t
    at_map path (unread at) h = (h.0, fails path h.1)
    at_map path (faulty place c) h = fault path place c h

    pub trouble_map : (o : Origin) (t : Trouble) → HasTroubleUnder IsAt Fails p o name t → HasTroubleUnder At Fail p o name t
    trouble_map o t (inl h) = inl (h.0, reached_map p.roots h.0 h.1, at_map h.0 t h.2)
    trouble_map o t (inr h) = inr (missing_map p.roots o t h)

-- FILES THAT WERE OPENED IN BETWEEN

module _
    {F : Type 0} (contents : F → Option FileMap) (is_steady : F → Bool) (old mid : F) (kept : KeepsMap (contents old) (contents mid))
    (steady : is_steady old ≡ true → is_steady mid ≡ true) where
  pub at_later : (path : List ℕ) (content : Option (List ℕ)) → IsAt contents is_steady mid path content → IsAt contents is_steady old path content
  at_later path content = of_later path (λ o. content ≡ option_map (take (full.bytes + 1)) o) kept steady

  pub source_later :
      (reading : Reading) (path name : List ℕ) (f : DeclaredFile) → DeclaresAt (IsAt contents is_steady mid) reading path name f
      → DeclaresAt (IsAt contents is_steady old) reading path name f
  source_later reading path name f h = (h.0, at_later path (Some h.0) h.1, h.2)

  fault_later :
      (reading : Reading) (path : List ℕ) (place : ℕ) (c : SourceCause) → IsFaultyAt (IsAt contents is_steady mid) reading path place c
      → IsFaultyAt (IsAt contents is_steady old) reading path place c
  fault_later reading path place c h = (h.0, at_later path (Some h.0) h.1, h.2)

  fails_later : (path : List ℕ) → Fails contents is_steady mid path → Fails contents is_steady old path
  fails_later path = of_later path (λ o. ⊥) kept steady

  pub trouble_at_later :
      (reading : Reading) (path : List ℕ) (t : Trouble) → HasTroubleAt (IsAt contents is_steady mid) reading path (Fails contents is_steady mid) t
      → HasTroubleAt (IsAt contents is_steady old) reading path (Fails contents is_steady old) t
  trouble_at_later reading path (unread p) h = (h.0, fails_later path h.1)
  trouble_at_later reading path (faulty place c) h = fault_later reading path place c h

  pub absent_later : (roots : List (List ℕ)) (name : List ℕ) → AbsentOf contents is_steady mid roots name → AbsentOf contents is_steady old roots name
  absent_later roots name = absent_map (IsAt contents is_steady mid) (IsAt contents is_steady old) (λ path. at_later path None) name roots

  module _ (p : Places) where
    pub declared_later : (name : List ℕ) (f : DeclaredFile) → DeclaredOf contents is_steady mid p name f → DeclaredOf contents is_steady old p name f
    declared_later name f =
        declares_map (IsAt contents is_steady mid) (IsAt contents is_steady old) (λ path. at_later path None) name p f (λ path. source_later p.reading path name f)

    pub trouble_later :
        (o : Origin) (name : List ℕ) (t : Trouble) → TroubleOf contents is_steady mid p o name t → TroubleOf contents is_steady old p o name t
    trouble_later o name t =
        trouble_map (IsAt contents is_steady mid) (IsAt contents is_steady old) (λ path. at_later path None) name p (Fails contents is_steady mid)
        (Fails contents is_steady old) fails_later (fault_later p.reading) o t

    pub gathers_later :
        {o : Origin} {names : List (List ℕ)} {g : Gathered} {out : Outcome} → GathersOf contents is_steady mid p o names g out
        → GathersOf contents is_steady old p o names g out
    gathers_later = gathers_map _ _ _ _ _ _ (absent_later p.roots) declared_later trouble_later

    pub moves_later :
        {g h : Gathered} {s t : List OpenFile} → Moves (AbsentOf contents is_steady mid p.roots) (DeclaredOf contents is_steady mid p) g s h t
        → Moves (AbsentOf contents is_steady old p.roots) (DeclaredOf contents is_steady old p) g s h t
    moves_later = moves_map _ _ _ _ _ _ (absent_later p.roots) declared_later trouble_later

-- READING A SOURCE

-- the bytes are refused, unless memory ran out
pub told_fault :
    (reading : Reading) (name bytes : List ℕ) (e : SourceFault) (f : Refusal) → (e ≡ out_of_memory) ⊎ HasFaultBy reading bytes e.byte e.cause → (e.cause ≡ cause.Memory → f ≡ refusal.Memory)
    → Refuses (λ a. a ≡ refused (source_line name e.byte e.cause)) f
    → Refuses (λ a. (place : ℕ) × (c : SourceCause) × HasFaultBy reading bytes place c × (a ≡ refused (source_line name place c))) f
told_fault reading name bytes e f (inl memory) ran_out told = let is = ran_out (ap (λ (x : SourceFault). x.cause) memory) in rw is tt
told_fault reading name bytes e f (inr h) ran_out told =
    refuses_map (λ a. a ≡ refused (source_line name e.byte e.cause))
    (λ a. (place : ℕ) × (c : SourceCause) × HasFaultBy reading bytes place c × (a ≡ refused (source_line name place c))) f (λ a line. (e.byte, e.cause, h, line)) told

module _ {F : Type 0} (contents : F → Option FileMap) (is_steady : F → Bool) (old : F) (path : List ℕ) where
  -- what was opened is what is there
  pub opened_at :
      {I : Type 0} (left : I → Option (List ℕ)) (stays : I → Bool) (input : I)
      → IfSome (contents old) (λ map. IsOpened left (map path) (Some input)) → (is_steady old ≡ true → stays input ≡ true)
      → OfFiles contents is_steady old path (λ content. IsOpened left content (Some input) × (stays input ≡ true))
  opened_at left stays input opens steady = λ map honest. let told = honest.told in (rw told at opens, steady honest.steady)

  pub none_at :
      {I : Type 0} (left : I → Option (List ℕ)) → IfSome (contents old) (λ map. IsOpened left (map path) None) → IsAt contents is_steady old path None
  none_at left opens =
      nothing_read contents is_steady old path (full.bytes + 1)
      (λ map honest. let told = honest.told in none_opened left (map path) (rw told at opens))

  pub read_at :
      {I : Type 0} (left : I → Option (List ℕ)) (stays : I → Bool) (input : I) (bytes : List ℕ)
      → OfFiles contents is_steady old path (λ content. IsOpened left content (Some input) × (stays input ≡ true))
      → IfSome (left input) (λ all. bytes ≡ take (full.bytes + 1) all) → IsAt contents is_steady old path (Some bytes)
  read_at left stays input bytes opened first =
      opened_of contents is_steady old path left stays input (λ content. Some bytes ≡ option_map (take (full.bytes + 1)) content) opened
      (first_read left stays input (full.bytes + 1) bytes first)

  -- honest files don't fail
  pub fails_at :
      {I : Type 0} (left : I → Option (List ℕ)) (stays : I → Bool) (input : I)
      → OfFiles contents is_steady old path (λ content. IsOpened left content (Some input) × (stays input ≡ true)) → (stays input ≡ true → ⊥)
      → Fails contents is_steady old path
  fails_at left stays input opened never = λ map honest. never (opened map honest).1

  pub unsteady_fails : (is_steady old ≡ true → ⊥) → Fails contents is_steady old path
  unsteady_fails never = λ map honest. never honest.steady

module _
    {F : Type 0} (contents : F → Option FileMap) (is_steady : F → Bool) (files : F) (reading : Reading) (root name path : List ℕ)
    (is : path ≡ path_under root name) where
  abbrev At : List ℕ → Option (List ℕ) → Type 0
  At = IsAt contents is_steady files

  pub absent_read : At path None → At (path_under root name) None
  absent_read at = subst (λ (p : List ℕ). At p None) is at

  pub declared_read : (bytes : List ℕ) (f : DeclaredFile) → At path (Some bytes) → IsSourceBy reading name bytes f → DeclaresAt At reading (path_under root name) name f
  declared_read bytes f at source = (bytes, subst (λ (p : List ℕ). At p (Some bytes)) is at, source)

  pub faulty_read :
      (bytes : List ℕ) (f : Refusal) → At path (Some bytes)
      → Refuses (λ a. (place : ℕ) × (c : SourceCause) × HasFaultBy reading bytes place c × (a ≡ refused (source_line name place c))) f
      → Refuses (λ a. (t : Trouble) × HasTroubleAt At reading (path_under root name) (Fails contents is_steady files) t × (a ≡ told_of name t)) f
  faulty_read bytes f at told =
      refuses_map (λ a. (place : ℕ) × (c : SourceCause) × HasFaultBy reading bytes place c × (a ≡ refused (source_line name place c)))
      (λ a. (t : Trouble) × HasTroubleAt At reading (path_under root name) (Fails contents is_steady files) t × (a ≡ told_of name t)) f
      (λ a h. (faulty h.0 h.1, (bytes, subst (λ (p : List ℕ). At p (Some bytes)) is at, h.2), h.3)) told

  pub unread_told :
      Fails contents is_steady files path
      → (t : Trouble) × HasTroubleAt At reading (path_under root name) (Fails contents is_steady files) t × (device_failed path ≡ told_of name t)
  unread_told fails =
      (unread (path_under root name), (refl, subst (λ (p : List ℕ). Fails contents is_steady files p) is fails), ap device_failed is)

module _ {F : Type 0} (contents : F → Option FileMap) (is_steady : F → Bool) (files : F) (reading : Reading) (root : List ℕ) (others : List (List ℕ))
    (name : List ℕ) (f : Refusal)
  where
    abbrev ToldOf : Origin → Answer → Type 0
    ToldOf o a = (t : Trouble) × TroubleOf contents is_steady files (places reading (root ∷ others)) o name t × (a ≡ told_of name t)

    given_trouble :
        (t : Trouble) → TroubleOf contents is_steady files (places reading (root ∷ others)) imported name t
        → TroubleOf contents is_steady files (places reading (root ∷ others)) given name t
    given_trouble t (inl h) = inl h
    given_trouble t (inr h) = absurd h

    pub given_refuses : Refuses (ToldOf imported) f → Refuses (ToldOf given) f
    given_refuses = refuses_map (ToldOf imported) (ToldOf given) f (λ a h. (h.0, given_trouble h.0 h.1, h.2))

    -- no root has a given file
    pub missing_refuses :
        AbsentOf contents is_steady files (root ∷ others) name → Refuses (λ a. a ≡ told_of name (unread (path_under root name))) f → Refuses (ToldOf given) f
    missing_refuses absent =
        refuses_map (λ a. a ≡ told_of name (unread (path_under root name))) (ToldOf given) f
        (λ a told. (unread (path_under root name), inr (refl, absent), told))

-- ALL BYTES

module _ (grammar : SourceReading) where
  source_whole_in : (name b : List ℕ) (f : DeclaredFile) → IsSourceIn grammar name (take (full.bytes + 1) b) f → IsSourceIn grammar name b f
  source_whole_in name b f s = subst (λ (x : List ℕ). IsSourceIn grammar name x f) (front_whole full.bytes b s.size) s

  fault_whole_in : (b : List ℕ) (place : ℕ) (c : SourceCause) → HasFaultIn grammar (take (full.bytes + 1) b) place c → HasFaultIn grammar b place c
  fault_whole_in b place c (too_large long) = too_large (front_long full.bytes b long)
  fault_whole_in b place c (bad_utf8 small invalid) =
      subst (λ (x : List ℕ). HasFaultIn grammar x place c) (front_whole full.bytes b small) (bad_utf8 small invalid)
  fault_whole_in b place c (in_token small valid h) =
      subst (λ (x : List ℕ). HasFaultIn grammar x place c) (front_whole full.bytes b small) (in_token small valid h)
  fault_whole_in b place c (in_syntax small valid l r h) =
      subst (λ (x : List ℕ). HasFaultIn grammar x place c) (front_whole full.bytes b small) (in_syntax small valid l r h)

source_whole :
    (reading : Reading) (name b : List ℕ) (f : DeclaredFile) → IsSourceBy reading name (take (full.bytes + 1) b) f → IsSourceBy reading name b f
source_whole Strict name b f s = source_whole_in _ name b f s
source_whole Lenient name b f s = source_whole_in _ name b f s

fault_whole :
    (reading : Reading) (b : List ℕ) (place : ℕ) (c : SourceCause) → HasFaultBy reading (take (full.bytes + 1) b) place c → HasFaultBy reading b place c
fault_whole Strict b place c h = fault_whole_in _ b place c h
fault_whole Lenient b place c h = fault_whole_in _ b place c h

-- what was read of what is there says what it declares
declared_whole :
    (reading : Reading) (name read : List ℕ) (f : DeclaredFile) (o : Option (List ℕ)) → Some read ≡ option_map (take (full.bytes + 1)) o
    → IsSourceBy reading name read f → (b : List ℕ) × (Some b ≡ o) × IsSourceBy reading name b f
declared_whole reading name read f None e s = absurd (cc)
declared_whole reading name read f (Some b) e s =
    let front : read ≡ take (full.bytes + 1) b = cc in
    (b, refl, source_whole reading name b f (subst (λ (x : List ℕ). IsSourceBy reading name x f) front s))

faulty_whole :
    (reading : Reading) (read : List ℕ) (place : ℕ) (c : SourceCause) (o : Option (List ℕ)) → Some read ≡ option_map (take (full.bytes + 1)) o
    → HasFaultBy reading read place c → (b : List ℕ) × (Some b ≡ o) × HasFaultBy reading b place c
faulty_whole reading read place c None e h = absurd (cc)
faulty_whole reading read place c (Some b) e h =
    let front : read ≡ take (full.bytes + 1) b = cc in
    (b, refl, fault_whole reading b place c (subst (λ (x : List ℕ). HasFaultBy reading x place c) front h))

-- THE ANSWER

module _
    (IsAt At : List ℕ → Option (List ℕ) → Type 0) (Fails Fail : List ℕ → Type 0) (p : Places)
    (none : (path : List ℕ) → IsAt path None → At path None)
    (source : (path name : List ℕ) (f : DeclaredFile) → DeclaresAt IsAt p.reading path name f → DeclaresAt At p.reading path name f)
    (fault : (path : List ℕ) (place : ℕ) (c : SourceCause) → IsFaultyAt IsAt p.reading path place c → IsFaultyAt At p.reading path place c)
    (fails : (path : List ℕ) → Fails path → Fail path) where
  gathers_known :
      {o : Origin} {names : List (List ℕ)} {g : Gathered} {out : Outcome} → GathersUnder IsAt Fails p o names g out
      → GathersUnder At Fail p o names g out
  gathers_known =
      gathers_map _ _ _ _ _ _ (λ name. absent_map IsAt At none name p.roots) (λ name f. declares_map IsAt At none name p f (λ path. source path name f))
      (λ o name. trouble_map IsAt At none name p Fails Fail fails fault o)

  pub compile_map : (out : List ℕ) (names : List (List ℕ)) (a : Answer) → CompileAnswer IsAt Fails p out names a → CompileAnswer At Fail p out names a
  compile_map out names a (untaken g e) = untaken (gathers_known g) e
  compile_map out names a (unlinked g as_read l e) = unlinked (gathers_known g) as_read l e
  compile_map out names a (set_too_large g as_read r long e) = set_too_large (gathers_known g) as_read r long e
  compile_map out names a (compiled g as_read r small e) = compiled (gathers_known g) as_read r small e

module _
    {F : Type 0} (contents : F → Option FileMap) (is_steady : F → Bool) (files : F) (p : Places) (out : List ℕ) (names : List (List ℕ))
    (a : Answer) where
  -- over honest files
  pub compile_of_map :
      (map : FileMap) → IsHonest contents is_steady files map → CompileOf contents is_steady files p out names a
      → CompileAnswer (λ path content. content ≡ map path) (λ path. ⊥) p out names a
  compile_of_map map honest =
      compile_map _ _ _ _ p (λ path none. sym (none_whole (full.bytes + 1) (map path) (sym (none map honest))))
      (λ path name f h. declared_whole p.reading name h.0 f (map path) (h.1 map honest) h.2)
      (λ path place c h. faulty_whole p.reading h.0 place c (map path) (h.1 map honest) h.2) (λ path never. never map honest) out names a

  -- over any files
  pub compile_of_any : CompileOf contents is_steady files p out names a → CompileAnswer (λ path content. Unit {0}) (λ path. Unit {0}) p out names a
  compile_of_any =
      compile_map _ _ _ _ p (λ path none. tt) (λ path name f h. (h.0, tt, h.2)) (λ path place c h. (h.0, tt, h.2)) (λ path h. tt) out names a
