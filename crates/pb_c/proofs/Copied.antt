-- Bytes that are the canonical bytes of their message.
use Rattle.std.proofs.Common.{◌≡◌, ℕ, ◌<◌, ◌^◌, List, length, arith, ap, sym, subst, ◌∙◌}
use Rattle.std.specs.Prelude.{All, Result, Ok, Err, IfOk, IfErr, MatchResult}
use Rattle.pb_wire.specs.Fault.{Fault}
use Rattle.pb_wire.specs.Inside.{records_spelled}
use Rattle.pb_wire.specs.Limits.{Bounds, full}
use Rattle.pb_wire.specs.Ranges.{IsByte}
use Rattle.pb_wire.proofs.Unique.{same_records}
use Rattle.pb_schema.specs.Types.{Types}
use Rattle.pb_schema.specs.Rules.{IsPool}
use Rattle.pb_value.specs.Data.{Message}
use Rattle.pb_value.specs.Dynamic.{Dynamic}
use Rattle.pb_value.specs.Value.{value}
use Rattle.pb_value.specs.Canon.{canon_bytes}
use Rattle.pb_value.specs.Derives.{Derives, Text}
use Rattle.pb_canonical.specs.Canonical.{IsCanonical}
use Rattle.pb_decode.specs.Push.{IsFaultOf}
use Rattle.pb_decode.proofs.DecodeLemmas.{exactly_value}
use Rattle.pb_c_message.proofs.Canonical.{full_text, text_value}
use Rattle.pb_c_message.specs.Holds.{message_of}

-- bytes have one value, whatever the limits
one_text : (pool : Types) (m : ℕ) (limits other : Bounds) (b : List ℕ) (v w : Message) → Text pool m limits b v → Text pool m other b w → v ≡ w
one_text pool m limits other b v w h g =
    h.derives.valued ∙ ap (value pool m) (same_records h.derives.records g.derives.records b h.derives.spelled g.derives.spelled) ∙ sym g.derives.valued

-- canonical bytes are the canonical bytes of each message that they are a text of
pub canonical_of :
    (pool : Types) (m : ℕ) (limits : Bounds) (b : List ℕ) (v : Message) → IsPool pool → IsCanonical pool m b → Text pool m limits b v
    → (b ≡ canon_bytes pool m v) × (length (canon_bytes pool m v) < 2 ^ 31)
canonical_of pool m limits b v rules c text =
    let same : b ≡ canon_bytes pool m v = c.written ∙ ap (canon_bytes pool m) (one_text pool m full limits b c.message v (full_text pool m b rules c) text) in
    (same, subst (λ (l : List ℕ). length l < 2 ^ 31) same c.small)

-- within the greatest limits they are a text
pub text_within :
    (pool : Types) (m : ℕ) (limits : Bounds) (b : List ℕ) → IsPool pool → IsCanonical pool m b → limits.bytes ≡ 0x7fff_ffff → limits.depth ≡ 100
    → (v : Message) × Text pool m limits b v
text_within pool m limits b rules c bytes depth =
    let text = full_text pool m b rules c in
    let size = text.size in
    (c.message, record { size = omega (arith, size, bytes); derives = subst (λ (d : ℕ). Derives pool m d b c.message) (sym depth) text.derives })

-- bytes that are a text have no fault
pub text_faultless :
    (pool : Types) (m : ℕ) (limits : Bounds) (b : List ℕ) (f : Fault) → All IsByte b → ((v : Message) × Text pool m limits b v) → ¬ IsFaultOf pool m limits b f
text_faultless pool m limits b f bytes text = λ fault. (exactly_value pool m limits b bytes).not_both f fault text

-- of canonical bytes that are held the message is that of each encoding that they are
pub held_text :
    (pool : Types) (m : ℕ) (limits : Bounds) (b : List ℕ) (d : Dynamic) (v : Message) → IsCanonical pool m b
    → d ≡ message_of pool m (value pool m (records_spelled b)) → Text pool m limits b v → d ≡ message_of pool m v
held_text pool m limits b d v c is text = is ∙ ap (message_of pool m) (text_value pool m limits b v c.small text)

-- what is so of the value that a call gives, and what is so where it gives none
pub ok_weaker : {A E : Type 0} (r : Result A E) (P Q : A → Type 0) → ((a : A) → P a → Q a) → IfOk r P → IfOk r Q
ok_weaker (Ok a) P Q so is = so a is
ok_weaker (Err e) P Q so is = tt

pub either_way : {A E : Type 0} (r : Result A E) (P : A → Type 0) (Q : E → Type 0) → IfOk r P → IfErr r Q → MatchResult r P Q
either_way (Ok a) P Q is other = is
either_way (Err e) P Q is other = other
