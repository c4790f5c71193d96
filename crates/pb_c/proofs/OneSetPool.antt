-- The bytes of a set make one pool, or have one fault, however the set is read.
use Rattle.std.proofs.Common.{◌≡◌, List, ap, subst}
use Rattle.pb_schema.specs.Types.{Types}
use Rattle.pb_declarations.specs.Decls.{DeclaredFile}
use Rattle.pb_declarations.specs.One.{ExactlyOne}
use Rattle.pb_descr_message.specs.Sets.{SetFault}
use Rattle.pb_link.specs.Linking.{Links}
use Rattle.pb_link.proofs.OnePool.{one_pool}
use Rattle.pb_link_rules.specs.Faults.{LinkFault, ToldFault}
use Rattle.pb_c.specs.PoolFault.{PoolFault}
use Rattle.pb_c.specs.SetPool.{FilesFail, FilesMake}

abbrev of_set : SetFault → PoolFault
of_set (SetFault.of_bytes f) = PoolFault.in_bytes f
of_set (SetFault.of_file i c) = PoolFault.in_file i c

abbrev pub of_files : ToldFault → PoolFault
of_files t = PoolFault.in_link t.0 t.1 t.2

module _ (AreFiles : List DeclaredFile → Type 0) (HasFault : SetFault → Type 0) (reading : ExactlyOne AreFiles HasFault) where
  -- a set that is read has no fault of its own
  unread : (files : List DeclaredFile) → AreFiles files → (s : SetFault) → HasFault s → ⊥
  unread files is s fault = reading.not_both files s is fault

  pub never_both : (ts : Types) (w : PoolFault) → FilesMake AreFiles ts → FilesFail AreFiles HasFault w → ⊥
  never_both ts (PoolFault.in_bytes f) makes fails = unread makes.files makes.is_set (SetFault.of_bytes f) fails
  never_both ts (PoolFault.in_file i c) makes fails = unread makes.files makes.is_set (SetFault.of_file i c) fails
  never_both ts (PoolFault.in_source i byte c) makes fails = fails
  never_both ts (PoolFault.in_link file name c) makes fails =
      let same : fails.0 ≡ makes.files = reading.one_meaning fails.0 makes.files fails.1 makes.is_set in
      (one_pool makes.files).not_both ts (file, name, c) makes.links (subst (λ files. LinkFault files file name c) same fails.2)

  pub one_types : (ts us : Types) → FilesMake AreFiles ts → FilesMake AreFiles us → ts ≡ us
  one_types ts us first second =
      let same : first.files ≡ second.files = reading.one_meaning first.files second.files first.is_set second.is_set in
      (one_pool second.files).one_meaning ts us (subst (λ files. Links files ts) same first.links) second.links

  pub one_fault : (v w : PoolFault) → FilesFail AreFiles HasFault v → FilesFail AreFiles HasFault w → v ≡ w
  one_fault (PoolFault.in_bytes f) (PoolFault.in_bytes g) first second = ap of_set (reading.one_fault (SetFault.of_bytes f) (SetFault.of_bytes g) first second)
  one_fault (PoolFault.in_bytes f) (PoolFault.in_file i c) first second = ap of_set (reading.one_fault (SetFault.of_bytes f) (SetFault.of_file i c) first second)
  one_fault (PoolFault.in_bytes f) (PoolFault.in_source i byte c) first second = absurd second
  one_fault (PoolFault.in_bytes f) (PoolFault.in_link file name c) first second = absurd (unread second.0 second.1 (SetFault.of_bytes f) first)
  one_fault (PoolFault.in_file i c) (PoolFault.in_bytes g) first second = ap of_set (reading.one_fault (SetFault.of_file i c) (SetFault.of_bytes g) first second)
  one_fault (PoolFault.in_file i c) (PoolFault.in_file j d) first second = ap of_set (reading.one_fault (SetFault.of_file i c) (SetFault.of_file j d) first second)
  one_fault (PoolFault.in_file i c) (PoolFault.in_source j byte d) first second = absurd second
  one_fault (PoolFault.in_file i c) (PoolFault.in_link file name d) first second = absurd (unread second.0 second.1 (SetFault.of_file i c) first)
  one_fault (PoolFault.in_source i byte c) w first second = absurd first
  one_fault (PoolFault.in_link file name c) (PoolFault.in_bytes g) first second = absurd (unread first.0 first.1 (SetFault.of_bytes g) second)
  one_fault (PoolFault.in_link file name c) (PoolFault.in_file j d) first second = absurd (unread first.0 first.1 (SetFault.of_file j d) second)
  one_fault (PoolFault.in_link file name c) (PoolFault.in_source j byte d) first second = absurd second
  one_fault (PoolFault.in_link file name c) (PoolFault.in_link file' name' c') first second =
      let same : first.0 ≡ second.0 = reading.one_meaning first.0 second.0 first.1 second.1 in
      ap of_files ((one_pool second.0).one_fault (file, name, c) (file', name', c') (subst (λ files. LinkFault files file name c) same first.2) second.2)
