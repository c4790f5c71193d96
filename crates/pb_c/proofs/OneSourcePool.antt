-- Sources make one pool, or have one fault.
use Rattle.std.proofs.Common.{◌≡◌, ℕ, zero, suc, List, [], ◌∷◌, refl, ap, subst, sym, ◌∙◌}
use Rattle.pb_schema.specs.Types.{Types}
use Rattle.pb_declarations.specs.Decls.{DeclaredFile}
use Rattle.pb_source_tokens.specs.Fault.{fault}
use Rattle.pb_source_tokens.specs.declared.fault.SourceCause.{SourceCause}
use Rattle.pb_source_tokens.specs.declared.fault.SourceFault.{SourceFault}
use Rattle.pb_source.specs.declared.reading.Reading.{Reading}
use Rattle.pb_source.specs.declared.reading.Reading.TheVariants.{Strict, Lenient}
use Rattle.pb_source.specs.Source.{IsSourceIn, HasFaultIn}
use Rattle.pb_source.proofs.OneSource.{one_file_in}
use Rattle.pb_link.specs.Linking.{Links}
use Rattle.pb_link.proofs.EnumMapLemmas.{lists_same}
use Rattle.pb_link.proofs.OnePool.{one_pool}
use Rattle.pb_link_rules.specs.Faults.{LinkFault}
use Rattle.pb_c.specs.PoolFault.{PoolFault}
use Rattle.pb_c.specs.SourcePool.{Bytes, AreRead, AreSources, IsLinkedAs, SourceFails, SourcesFail, SourcesMake}
use Rattle.pb_c.proofs.OneSetPool.{of_files}

one_linked : (grammar : Reading) (parsed fs gs : List DeclaredFile) → IsLinkedAs grammar parsed fs → IsLinkedAs grammar parsed gs → fs ≡ gs
one_linked Strict parsed fs gs first second = first ∙ sym second
one_linked Lenient parsed fs gs first second = lists_same parsed fs gs first second

module _ (grammar : Reading) where
  -- a source has no fault
  sound : (name text : Bytes) (d : DeclaredFile) (byte : ℕ) (c : SourceCause) → IsSourceIn grammar name.now text.now d → HasFaultIn grammar text.now byte c → ⊥
  sound name text d byte c is has = (one_file_in grammar name.now text.now).not_both d (fault byte c) is has

  parsed : (names texts : List Bytes) (ds : List DeclaredFile) (i byte : ℕ) (c : SourceCause) → AreSources grammar names texts ds → SourceFails grammar names texts i byte c → ⊥
  parsed [] texts ds i byte c are fails = fails
  parsed (n ∷ names) [] ds i byte c are fails = fails
  parsed (n ∷ names) (t ∷ texts) [] i byte c are fails = are
  parsed (n ∷ names) (t ∷ texts) (d ∷ ds) zero byte c are fails = sound n t d byte c are.0 fails
  parsed (n ∷ names) (t ∷ texts) (d ∷ ds) (suc i) byte c are fails = parsed names texts ds i byte c are.1 fails.1

  one_list : (names texts : List Bytes) (ds es : List DeclaredFile) → AreSources grammar names texts ds → AreSources grammar names texts es → ds ≡ es
  one_list [] [] [] [] first second = refl
  one_list [] [] [] (e ∷ es) first second = absurd second
  one_list [] [] (d ∷ ds) es first second = absurd first
  one_list [] (t ∷ texts) ds es first second = absurd first
  one_list (n ∷ names) [] ds es first second = absurd first
  one_list (n ∷ names) (t ∷ texts) [] es first second = absurd first
  one_list (n ∷ names) (t ∷ texts) (d ∷ ds) [] first second = absurd second
  one_list (n ∷ names) (t ∷ texts) (d ∷ ds) (e ∷ es) first second =
      ap (λ x. x ∷ ds) ((one_file_in grammar n.now t.now).one_meaning d e first.0 second.0) ∙ ap (λ xs. e ∷ xs) (one_list names texts ds es first.1 second.1)

  one_reading : (names texts : List Bytes) (fs gs : List DeclaredFile) → AreRead grammar names texts fs → AreRead grammar names texts gs → fs ≡ gs
  one_reading names texts fs gs first second =
      let same : first.0 ≡ second.0 = one_list names texts first.0 second.0 first.1 second.1 in
      one_linked grammar second.0 fs gs (subst (λ parsed. IsLinkedAs grammar parsed fs) same first.2) second.2

  -- the fault of a source, as that of the source after it
  abbrev later : PoolFault → PoolFault
  later (PoolFault.in_bytes f) = PoolFault.in_bytes f
  later (PoolFault.in_file i c) = PoolFault.in_file i c
  later (PoolFault.in_source i byte c) = PoolFault.in_source (suc i) byte c
  later (PoolFault.in_link file name c) = PoolFault.in_link file name c

  one_first : (names texts : List Bytes) (i j byte place : ℕ) (c k : SourceCause) → SourceFails grammar names texts i byte c → SourceFails grammar names texts j place k
      → PoolFault.in_source i byte c ≡ PoolFault.in_source j place k
  one_first [] texts i j byte place c k first second = absurd first
  one_first (n ∷ names) [] i j byte place c k first second = absurd first
  one_first (n ∷ names) (t ∷ texts) zero zero byte place c k first second =
      ap (λ (e : SourceFault). PoolFault.in_source 0 e.byte e.cause) ((one_file_in grammar n.now t.now).one_fault (fault byte c) (fault place k) first second)
  one_first (n ∷ names) (t ∷ texts) zero (suc j) byte place c k first second = absurd (sound n t second.0.0 byte c second.0.1 first)
  one_first (n ∷ names) (t ∷ texts) (suc i) zero byte place c k first second = absurd (sound n t first.0.0 place k first.0.1 second)
  one_first (n ∷ names) (t ∷ texts) (suc i) (suc j) byte place c k first second = ap later (one_first names texts i j byte place c k first.1 second.1)

  module _ (names texts : List Bytes) where
    pub never_both : (ts : Types) (w : PoolFault) → SourcesMake grammar names texts ts → SourcesFail grammar names texts w → ⊥
    never_both ts (PoolFault.in_bytes f) makes fails = fails
    never_both ts (PoolFault.in_file i c) makes fails = fails
    never_both ts (PoolFault.in_source i byte c) makes fails = parsed names texts makes.are_read.0 i byte c makes.are_read.1 fails
    never_both ts (PoolFault.in_link file name c) makes fails =
        let same : fails.0 ≡ makes.files = one_reading names texts fails.0 makes.files fails.1 makes.are_read in
        (one_pool makes.files).not_both ts (file, name, c) makes.links (subst (λ files. LinkFault files file name c) same fails.2)

    pub one_types : (ts us : Types) → SourcesMake grammar names texts ts → SourcesMake grammar names texts us → ts ≡ us
    one_types ts us first second =
        let same : first.files ≡ second.files = one_reading names texts first.files second.files first.are_read second.are_read in
        (one_pool second.files).one_meaning ts us (subst (λ files. Links files ts) same first.links) second.links

    pub one_fault : (v w : PoolFault) → SourcesFail grammar names texts v → SourcesFail grammar names texts w → v ≡ w
    one_fault (PoolFault.in_bytes f) w first second = absurd first
    one_fault (PoolFault.in_file i c) w first second = absurd first
    one_fault (PoolFault.in_source i byte c) (PoolFault.in_bytes g) first second = absurd second
    one_fault (PoolFault.in_source i byte c) (PoolFault.in_file j d) first second = absurd second
    one_fault (PoolFault.in_source i byte c) (PoolFault.in_source j place d) first second = one_first names texts i j byte place c d first second
    one_fault (PoolFault.in_source i byte c) (PoolFault.in_link file name d) first second = absurd (parsed names texts second.1.0 i byte c second.1.1 first)
    one_fault (PoolFault.in_link file name c) (PoolFault.in_bytes g) first second = absurd second
    one_fault (PoolFault.in_link file name c) (PoolFault.in_file j d) first second = absurd second
    one_fault (PoolFault.in_link file name c) (PoolFault.in_source j place d) first second = absurd (parsed names texts first.1.0 j place d first.1.1 second)
    one_fault (PoolFault.in_link file name c) (PoolFault.in_link file' name' c') first second =
        let same : first.0 ≡ second.0 = one_reading names texts first.0 second.0 first.1 second.1 in
        ap of_files ((one_pool second.0).one_fault (file, name, c) (file', name', c') (subst (λ files. LinkFault files file name c) same first.2) second.2)
