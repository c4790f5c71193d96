-- Bytes are read leniently as a set of one list of files, or have one fault or one first cause without the parts that are left out.
use Rattle.std.proofs.Common.{◌≡◌, ℕ, List, [], ◌∷◌, All, Some, refl, sym, ap, ◌∙◌, subst, ◌⊎◌, inl, inr}
use Rattle.std.specs.Prelude.{slice_get}
use Rattle.pb_wire.specs.Exact.{Exactly, IsSomeText}
use Rattle.pb_wire.specs.Fault.{Fault}
use Rattle.pb_wire.specs.Grammar.{HasFault}
use Rattle.pb_wire.specs.Limits.{full}
use Rattle.pb_wire.specs.Ranges.{IsByte}
use Rattle.pb_wire.proofs.ExactLemmas.{exactly}
use Rattle.pb_wire.proofs.Unique.{same_records}
use Rattle.pb_schema.specs.Context.{a_message, schema_of}
use Rattle.pb_value.specs.Data.{Message}
use Rattle.pb_value.specs.Value.{value}
use Rattle.pb_declarations.specs.Decls.{DeclaredFile}
use Rattle.pb_declarations.specs.One.{ExactlyOne}
use Rattle.pb_descr_message.specs.Causes.{set_causes}
use Rattle.pb_descr_message.specs.Omitted.{omitted_in}
use Rattle.pb_descr_message.specs.Pool.{the_set, descriptor_types}
use Rattle.pb_descr_message.specs.Reading.{files_in}
use Rattle.pb_descr_message.specs.Sets.{IsSetText, SetFault}
use Rattle.pb_descr_message.specs.Without.{without_parts}
use Rattle.pb_descr_message.specs.declared.cause.DeclCause.{DeclCause}
use Rattle.pb_descr_message.proofs.ReadLemmas.{silent_or_told, same_cause}
use Rattle.pb_c.specs.SetPool.{HasLenientFault, IsLenientSet}

module _ (b : List ℕ) (bytes : All IsByte b) where
  law : Exactly (IsSomeText (schema_of descriptor_types) (a_message the_set) full b) (HasFault (schema_of descriptor_types) (a_message the_set) full b)
  law = exactly (schema_of descriptor_types) (a_message the_set) full b bytes

  some_text : {set : Message} → IsSetText full b set → IsSomeText (schema_of descriptor_types) (a_message the_set) full b
  some_text t = (t.derives.records, record { size = t.size; spelled = t.derives.spelled; sound = t.derives.sound })

  -- bytes are the text of one set
  same_set : (s t : Message) → IsSetText full b s → IsSetText full b t → s ≡ t
  same_set s t h g =
      h.derives.valued ∙ ap (value descriptor_types the_set) (same_records h.derives.records g.derives.records b h.derives.spelled g.derives.spelled)
      ∙ sym g.derives.valued

  -- the set of a text shows no cause without its parts, or a first one
  by_causes : (set : Message) → IsSetText full b set → (cs : List (ℕ × DeclCause)) → set_causes (without_parts set) ≡ cs
      → ((files : List DeclaredFile) × IsLenientSet b files) ⊎ ((f : SetFault) × HasLenientFault b f)
  by_causes set t [] e = inl (files_in (without_parts set), (omitted_in set, record { set = set; text = t; silent = e; declared = refl; left_out = refl }))
  by_causes set t ((i, c) ∷ cs) e = inr (SetFault.of_file i c, (set, t, ap (λ cs. slice_get cs 0) e))

  some_answer : IsSomeText (schema_of descriptor_types) (a_message the_set) full b ⊎ ((f : Fault) × HasFault (schema_of descriptor_types) (a_message the_set) full b f)
      → ((files : List DeclaredFile) × IsLenientSet b files) ⊎ ((f : SetFault) × HasLenientFault b f)
  some_answer (inl (rs, t)) =
      let set = value descriptor_types the_set rs in
      by_causes set (record { size = t.size; derives = record { records = rs; spelled = t.spelled; sound = t.sound; valued = refl } }) (set_causes (without_parts set)) refl
  some_answer (inr (f, fails)) = inr (SetFault.of_bytes f, fails)

  never_both : (files : List DeclaredFile) (f : SetFault) → IsLenientSet b files → HasLenientFault b f → ⊥
  never_both files (SetFault.of_bytes f) (omitted, h) bad = law.not_both f bad (some_text h.text)
  never_both files (SetFault.of_file i c) (omitted, h) (set, t, told) =
      silent_or_told (without_parts set) i c (subst (λ s. set_causes (without_parts s) ≡ []) (same_set h.set set h.text t) h.silent) told

  same_fault : (f g : SetFault) → HasLenientFault b f → HasLenientFault b g → f ≡ g
  same_fault (SetFault.of_bytes f) (SetFault.of_bytes g) bad other = ap SetFault.of_bytes (law.one f g bad other)
  same_fault (SetFault.of_bytes f) (SetFault.of_file j d) bad (set, t, told) = absurd (law.not_both f bad (some_text t))
  same_fault (SetFault.of_file i c) (SetFault.of_bytes g) (set, t, told) bad = absurd (law.not_both g bad (some_text t))
  same_fault (SetFault.of_file i c) (SetFault.of_file j d) (set, t, told) (other, u, tells) =
      let e = subst (λ s. slice_get (set_causes (without_parts s)) 0 ≡ Some (j, d)) (same_set other set u t) tells in
      let same = same_cause i j c d (slice_get (set_causes (without_parts set)) 0) told e in
      λ k. SetFault.of_file (same.0 k) (same.1 k)

  same_files : (files more : List DeclaredFile) → IsLenientSet b files → IsLenientSet b more → files ≡ more
  same_files files more (omitted, h) (others, g) = h.declared ∙ ap (λ s. files_in (without_parts s)) (same_set h.set g.set h.text g.text) ∙ sym g.declared

  pub one_lenient_set : ExactlyOne (IsLenientSet b) (HasLenientFault b)
  one_lenient_set = record { either = some_answer law.either; not_both = never_both; one_meaning = same_files; one_fault = same_fault }
