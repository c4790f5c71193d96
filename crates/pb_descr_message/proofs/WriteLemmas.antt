-- What a set is refused for, and that what was written is read back.
use Rattle.std.proofs.Common.{◌≡◌, ℕ, ◌<◌, ◌^◌, List, [], length, Bool, true, false, Some, refl, sym, ◌∙◌, subst, arith, inl, inr}
use Rattle.std.specs.Prelude.{nat_le}
use Rattle.std.proofs.lemmas.Bool.Decides.{nat_tests}
use Rattle.pb_wire.specs.Limits.{full}
use Rattle.pb_value.specs.Data.{message_depth}
use Rattle.pb_value.specs.Cause.{unless, message_cause, FailsWith}
use Rattle.pb_value.specs.WellFormed.{IsWellFormed}
use Rattle.pb_value.specs.declared.error.ValueError.TheVariants.{TooDeep}
use Rattle.pb_value.proofs.RoundTrip.{canonical_text}
use Rattle.pb_declarations.specs.Decls.{DeclaredFile}
use Rattle.pb_descr_message.specs.Pool.{the_set, descriptor_types}
use Rattle.pb_descr_message.specs.Causes.{set_causes}
use Rattle.pb_descr_message.specs.Writing.{set_body}
use Rattle.pb_descr_message.specs.Sets.{set_bytes, IsSetOf}
use Rattle.pb_descr_message.proofs.PoolRules.{descriptor_is_pool}
use Rattle.pb_descr_message.proofs.WrittenFits.{set_refused_by_depth}
use Rattle.pb_descr_message.proofs.RoundTrip.{set_back}

deeper : (n : ℕ) (b : Bool) → b ≡ nat_le n 100 → unless b TooDeep ≡ Some TooDeep → 100 < n
deeper n true is h = absurd (cc)
deeper n false is h = grind (arith, nat_tests)

-- a set that is refused as too deep is
pub told_deep : (files : List DeclaredFile) → FailsWith (message_cause descriptor_types the_set (set_body files)) TooDeep → 100 < message_depth (set_body files)
told_deep files (inl e) = absurd (cc)
told_deep files (inr e) = deeper (message_depth (set_body files)) (nat_le (message_depth (set_body files)) 100) refl (sym (set_refused_by_depth files) ∙ e)

-- the bytes of a set of files that show no cause are a set of these files
pub written_is_set :
    (files : List DeclaredFile) (b : List ℕ) → b ≡ set_bytes files → IsWellFormed descriptor_types the_set (set_body files) → length (set_bytes files) < 2 ^ 31 → set_causes (set_body files) ≡ [] → IsSetOf full b files
written_is_set files b bytes well_formed fits silent =
    subst (λ bs. IsSetOf full bs files) (sym bytes)
    (record { set = set_body files; text = canonical_text descriptor_types the_set (set_body files) descriptor_is_pool well_formed fits; silent = silent; declared = sym (set_back files) })
