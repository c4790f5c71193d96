-- A frame goes out as its length and then its text.
use Rattle.std.proofs.Common.{◌≡◌, ℕ, ◌+◌, List, ◌++◌, length, take, refl, sym, subst, ◌∙◌, arith, length-append, Option}
use Rattle.std.proofs.Math.Seq.{take-append-add}
use Rattle.std.proofs.KnownBytes.{Appends-trans}
use Rattle.std.specs.Io.KnownBytes.{Appends}
use Rattle.pb_wire.specs.Varint.{shortest}
use Rattle.pb_wire.proofs.ShortestLemmas.{shortest-is_varint}
use Rattle.pb_schema.specs.Types.{Types}
use Rattle.pb_schema.specs.Rules.{IsPool}
use Rattle.pb_value.specs.Canon.{canon_bytes}
use Rattle.pb_value.proofs.RoundTrip.{canonical_text}
use Rattle.pb_value.specs.Dynamic.{Dynamic}
use Rattle.pb_encode.specs.Encoding.{bytes_of, IsCut}
use Rattle.pb_encode.specs.declared.error.EncodeError.{EncodeError}
use Rattle.pb_encode.specs.declared.error.EncodeError.TheVariants.{Device}
use Rattle.pb_stream.specs.Writing.{frame_of, WrittenIsFrame}

-- the device failed in the text
cut_in_text :
    {D : Type 0} (written : D → Option (List ℕ)) (failures : D → ℕ) (old middle new : D) (front text : List ℕ) (n : ℕ)
    → failures middle ≡ failures old → Appends (written old) (written middle) front → IsCut written failures middle new text (Device n)
    → IsCut written failures old new (front ++ text) (Device (length front + n))
cut_in_text written failures old middle new front text n kept out (failed, short, more) = (
  λ same. failed (same ∙ sym kept),
  omega (arith, length-append front text),
  subst (λ (z : List ℕ). Appends (written old) (written new) z) (sym (take-append-add front text n)) (Appends-trans _ _ _ front (take n text) out more),
)

-- the same of the text of a message, as the frame's front was written and is counted
pub cut_in_frame :
    {D : Type 0} (written : D → Option (List ℕ)) (failures : D → ℕ) (old middle new : D) (p m : Dynamic) (sent front : List ℕ) (e : EncodeError) (n : ℕ)
    → p ≡ m → e ≡ Device n → sent ≡ shortest (length (bytes_of m)) → front ≡ shortest (length (bytes_of m)) → failures middle ≡ failures old
    → Appends (written old) (written middle) sent → IsCut written failures middle new (bytes_of p) e
    → IsCut written failures old new (frame_of (bytes_of m)) (Device (length front + n))
cut_in_frame {D} written failures old middle new p m sent front e n same is_cut is_sent is_front kept out cut =
    subst (λ (z : List ℕ). IsCut written failures old new (frame_of (bytes_of m)) (Device (length z + n))) (sym is_front)
    (cut_in_text written failures old middle new (shortest (length (bytes_of m))) (bytes_of m) n kept
    (subst (λ (z : List ℕ). Appends (written old) (written middle) z) is_sent out)
    (subst (λ (z : Dynamic). IsCut written failures middle new (bytes_of z) (Device n)) same
    (subst (λ (z : EncodeError). IsCut written failures middle new (bytes_of p) z) is_cut cut)))

-- what is written is a frame
pub frame_written : (pool : Types) → IsPool pool → WrittenIsFrame pool
frame_written pool rules m v rest well small = record {
  front = shortest (length (canon_bytes pool m v));
  text = canon_bytes pool m v;
  joined = refl;
  counted = shortest-is_varint (length (canon_bytes pool m v)) (omega arith);
  derives = canonical_text pool m v rules well small;
}
