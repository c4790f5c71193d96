-- Bytes are a set of one list of files, or have one fault or one first cause.
use Rattle.std.proofs.Common.{◌≡◌, ℕ, List, [], ◌∷◌, All, Some, refl, sym, ap, ◌∙◌, subst, ◌⊎◌, inl, inr}
use Rattle.std.specs.Prelude.{slice_get}
use Rattle.pb_wire.specs.Fault.{Fault}
use Rattle.pb_wire.specs.Grammar.{HasFault}
use Rattle.pb_wire.specs.Limits.{Bounds}
use Rattle.pb_wire.specs.Ranges.{IsByte}
use Rattle.pb_wire.specs.Exact.{Exactly, IsSomeText}
use Rattle.pb_wire.proofs.ExactLemmas.{exactly}
use Rattle.pb_wire.proofs.Unique.{same_records}
use Rattle.pb_schema.specs.Context.{a_message, schema_of}
use Rattle.pb_value.specs.Data.{Message}
use Rattle.pb_value.specs.Value.{value}
use Rattle.pb_descr_message.specs.declared.cause.DeclCause.{DeclCause}
use Rattle.pb_declarations.specs.Decls.{DeclaredFile}
use Rattle.pb_descr_message.specs.Pool.{the_set, descriptor_types}
use Rattle.pb_descr_message.specs.Reading.{files_in}
use Rattle.pb_descr_message.specs.Causes.{set_causes}
use Rattle.pb_descr_message.specs.Sets.{IsSetText, IsSetOf, SetFault, HasSetFault}
use Rattle.pb_declarations.specs.One.{ExactlyOne}
use Rattle.pb_descr_message.proofs.ReadLemmas.{silent_or_told, same_cause}

module _ (limits : Bounds) (b : List ℕ) (bytes : All IsByte b) where
  law : Exactly (IsSomeText (schema_of descriptor_types) (a_message the_set) limits b) (HasFault (schema_of descriptor_types) (a_message the_set) limits b)
  law = exactly (schema_of descriptor_types) (a_message the_set) limits b bytes

  some_text : {set : Message} → IsSetText limits b set → IsSomeText (schema_of descriptor_types) (a_message the_set) limits b
  some_text t = (t.derives.records, record { size = t.size; spelled = t.derives.spelled; sound = t.derives.sound })

  -- bytes are the text of one set
  same_set : (s t : Message) → IsSetText limits b s → IsSetText limits b t → s ≡ t
  same_set s t h g =
      h.derives.valued ∙ ap (value descriptor_types the_set) (same_records h.derives.records g.derives.records b h.derives.spelled g.derives.spelled)
      ∙ sym g.derives.valued

  -- the set of a text shows no cause, or a first one
  by_causes : (set : Message) → IsSetText limits b set → (cs : List (ℕ × DeclCause)) → set_causes set ≡ cs
      → ((files : List DeclaredFile) × IsSetOf limits b files) ⊎ ((f : SetFault) × HasSetFault limits b f)
  by_causes set t [] e = inl (files_in set, record { set = set; text = t; silent = e; declared = refl })
  by_causes set t ((i, c) ∷ cs) e = inr (SetFault.of_file i c, (set, t, ap (λ cs. slice_get cs 0) e))

  some_answer : IsSomeText (schema_of descriptor_types) (a_message the_set) limits b ⊎ ((f : Fault) × HasFault (schema_of descriptor_types) (a_message the_set) limits b f)
      → ((files : List DeclaredFile) × IsSetOf limits b files) ⊎ ((f : SetFault) × HasSetFault limits b f)
  some_answer (inl (rs, t)) =
      let set = value descriptor_types the_set rs in
      by_causes set (record { size = t.size; derives = record { records = rs; spelled = t.spelled; sound = t.sound; valued = refl } }) (set_causes set) refl
  some_answer (inr (f, bad)) = inr (SetFault.of_bytes f, bad)

  never_both : (files : List DeclaredFile) (f : SetFault) → IsSetOf limits b files → HasSetFault limits b f → ⊥
  never_both files (SetFault.of_bytes f) h bad = law.not_both f bad (some_text h.text)
  never_both files (SetFault.of_file i c) h (set, t, told) =
      silent_or_told set i c (subst (λ s. set_causes s ≡ []) (same_set h.set set h.text t) h.silent) told

  same_fault : (f g : SetFault) → HasSetFault limits b f → HasSetFault limits b g → f ≡ g
  same_fault (SetFault.of_bytes f) (SetFault.of_bytes g) bad other = ap SetFault.of_bytes (law.one f g bad other)
  same_fault (SetFault.of_bytes f) (SetFault.of_file j d) bad (set, t, told) = absurd (law.not_both f bad (some_text t))
  same_fault (SetFault.of_file i c) (SetFault.of_bytes g) (set, t, told) bad = absurd (law.not_both g bad (some_text t))
  same_fault (SetFault.of_file i c) (SetFault.of_file j d) (set, t, told) (other, u, tells) =
      let e = subst (λ s. slice_get (set_causes s) 0 ≡ Some (j, d)) (same_set other set u t) tells in
      let same = same_cause i j c d (slice_get (set_causes set) 0) told e in
      λ k. SetFault.of_file (same.0 k) (same.1 k)

  pub one_set : ExactlyOne (IsSetOf limits b) (HasSetFault limits b)
  one_set = record {
    either = some_answer law.either;
    not_both = never_both;
    one_meaning = λ v w h g. h.declared ∙ ap files_in (same_set h.set g.set h.text g.text) ∙ sym g.declared;
    one_fault = same_fault;
  }
