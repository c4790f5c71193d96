-- Canonical bytes, and the message that they encode.
use Rattle.std.proofs.Common.{◌≡◌, ℕ, ◌<◌, ◌^◌, List, length, arith, ap, sym, subst, ◌∙◌}
use Rattle.pb_wire.specs.Inside.{records_spelled}
use Rattle.pb_wire.specs.Limits.{Bounds, full}
use Rattle.pb_wire.proofs.InsideLemmas.{records_spelled-AreRecords}
use Rattle.pb_schema.specs.Types.{Types}
use Rattle.pb_schema.specs.Rules.{IsPool}
use Rattle.pb_value.specs.Canon.{canon_bytes}
use Rattle.pb_value.specs.Data.{Message}
use Rattle.pb_value.specs.Derives.{Text}
use Rattle.pb_value.specs.Value.{value}
use Rattle.pb_value.proofs.RoundTrip.{canonical_text}
use Rattle.pb_canonical.specs.Canonical.{IsCanonical}

-- the message of bytes is the value of the records that they spell
pub text_value :
    (pool : Types) (m : ℕ) (limits : Bounds) (b : List ℕ) (v : Message) → length b < 2 ^ 31 → Text pool m limits b v → value pool m (records_spelled b) ≡ v
text_value pool m limits b v small text =
    let wide : length b < 2 ^ 64 = omega (arith, small) in
    ap (value pool m) (records_spelled-AreRecords text.derives.records b text.derives.spelled wide) ∙ sym text.derives.valued

-- canonical bytes are an encoding, within the greatest limits
pub full_text : (pool : Types) (m : ℕ) (b : List ℕ) → IsPool pool → (c : IsCanonical pool m b) → Text pool m full b c.message
full_text pool m b rules c =
    subst (λ (l : List ℕ). Text pool m full l c.message) (sym c.written) (canonical_text pool m c.message rules c.well_formed (subst (λ (l : List ℕ). length l < 2 ^ 31) c.written c.small))

-- so they are written of the value of the records that they spell
pub written_of_value :
    (pool : Types) (m : ℕ) (b : List ℕ) → IsPool pool → IsCanonical pool m b → b ≡ canon_bytes pool m (value pool m (records_spelled b))
written_of_value pool m b rules c =
    c.written ∙ ap (canon_bytes pool m) (sym (text_value pool m full b c.message c.small (full_text pool m b rules c)))
