-- Bytes from position 0 up to a known end: a message, or its fault.
use Rattle.std.proofs.Common.{◌≡◌, ℕ, ◌+◌, ◌-◌, ◌≤◌, List, [], ◌++◌, take, drop, length, refl, sym, ap, ◌∙◌, subst, arith, append-nil, length-append, inl, inr, ◌⊎◌, Option, Some, None}
use Rattle.std.proofs.lemmas.List.{take_at, drop_at, take-append-drop, length-take-le}
use Rattle.std.specs.Prelude.{IfSome}
use Rattle.std.specs.Io.KnownBytes.{Consumes, IsAtEnd}
use Rattle.std.proofs.KnownBytes.{Consumes-whole}
use Rattle.pb_wire.specs.Spell.{AreRecords}
use Rattle.pb_wire.specs.Limits.{Bounds}
use Rattle.pb_wire.specs.Fault.{Fault, fault}
use Rattle.pb_wire.specs.Schema.{records}
use Rattle.pb_wire.specs.Exact.{IsRead, ending_at}
use Rattle.pb_wire.proofs.Places.{after, moves_after}
use Rattle.pb_wire.proofs.OneFault.{not_both, one_fault}
use Rattle.pb_wire.proofs.Longer.{bad_longer}
use Rattle.pb_wire.proofs.FaultBounds.{told as bad_reported}
use Rattle.pb_schema.specs.Types.{Types}
use Rattle.pb_schema.specs.Context.{a_message, schema_of}
use Rattle.pb_value.specs.Data.{Message}
use Rattle.pb_value.specs.Derives.{Text}
use Rattle.pb_decode.specs.Reader.Start.{starting, further, IsWhole, BadFrom}
use Rattle.pb_decode.specs.declared.error.DecodeError.{DecodeError}
use Rattle.pb_decode.specs.declared.error.DecodeError.TheVariants as error
use Rattle.pb_decode.specs.FromDevice.{IfRefused}
use Rattle.pb_decode.specs.Loops.{ReportedOf}
use Rattle.pb_decode.specs.Frame.{IsFrameOf, BadFrame, error_later}
use Rattle.pb_decode.proofs.PushLemmas.{no_bytes}
use Rattle.pb_decode.proofs.GivenLemmas.{never_cut}
use Rattle.pb_decode.proofs.LaterLemmas.{later, bad_later}

-- whole records up to the known end are all bytes, where no more are given
pub record IsAll (size : ℕ) (bytes front : List ℕ) : Type 0 where
  pub size_is : length bytes ≡ size
  pub same : front ≡ bytes

pub all_there : {pool : Types} {k depth : ℕ} {bytes : List ℕ} {v : Message} (size : ℕ) → length bytes ≤ size → (w : IsWhole pool (further (starting k depth [] (Some size)) bytes) v) → IsAll size bytes w.front
all_there {bytes = bytes} size few w = by_end w.over
  where
    by_end : (w.after.known ≡ Some 0) ⊎ ((w.after.known ≡ None) × (w.after.rest ≡ [])) → IsAll size bytes w.front
    by_end (inr ended) = absurd (let known = w.moves.known in let e : None ≡ Some (size - length w.front) = sym ended.0 ∙ known in cc)
    by_end (inl ended) =
        let e : Some 0 ≡ Some (size - length w.front) = sym ended ∙ w.moves.known in
        let none : 0 ≡ size - length w.front = cc in
        let within : length w.front ≤ size = w.moves.within in
        let whole = ap length w.moves.given ∙ length-append w.front w.after.rest in
        record {
          size_is = omega (arith, none, within, whole, few);
          same = sym (w.moves.given ∙ ap (λ (z : List ℕ). w.front ++ z) (no_bytes w.after.rest (omega (arith, none, within, whole, few))) ∙ append-nil w.front);
        }

-- THE VALUE
pub frame_left :
    {pool : Types} {k : ℕ} {limits : Bounds} (x y : Option (List ℕ)) (size : ℕ) (bytes : List ℕ) (v : Message) → size ≤ limits.bytes → length bytes ≤ size → Consumes x y bytes → IsWhole pool (further (starting k limits.depth [] (Some size)) bytes) v
    → IfSome x (λ left. IsFrameOf pool k limits size left v)
frame_left None y size bytes v fits few given w = tt
frame_left (Some left) None size bytes v fits few given w = absurd given
frame_left {pool} {k} {limits} (Some left) (Some rest) size bytes v fits few given w =
    let all = all_there size few w in
    let size_is = all.size_is in
    let whole = ap length given ∙ length-append bytes rest in
    let front : bytes ≡ take size left = sym (ap (take size) given ∙ take_at bytes rest size size_is) in
    record {
      given = omega (arith, whole, size_is);
      text =
          subst (λ (z : List ℕ). Text pool k limits z v) front
          (record { size = omega (arith, size_is, fits); derives = record { records = w.records; spelled = subst (AreRecords w.records) all.same w.spelled; sound = w.sound; valued = w.valued } });
    }

pub rest_left : {pool : Types} {k depth : ℕ} (x y : Option (List ℕ)) (size : ℕ) (bytes : List ℕ) (v : Message) → length bytes ≤ size → Consumes x y bytes → IsWhole pool (further (starting k depth [] (Some size)) bytes) v → IfSome x (λ left. y ≡ Some (drop size left))
rest_left None y size bytes v few given w = tt
rest_left (Some left) None size bytes v few given w = absurd given
rest_left (Some left) (Some rest) size bytes v few given w = ap (λ (z : List ℕ). Some z) (sym (ap (drop size) given ∙ drop_at bytes rest size (all_there size few w).size_is))

-- and where all bytes of the frame are given as an encoding
pub text_frame :
    {pool : Types} {k : ℕ} {limits : Bounds} (x y : Option (List ℕ)) (size : ℕ) (bytes : List ℕ) (v : Message) → length bytes ≡ size → Consumes x y bytes → Text pool k limits bytes v → IfSome x (λ left. IsFrameOf pool k limits size left v)
text_frame None y size bytes v all given t = tt
text_frame (Some left) None size bytes v all given t = absurd given
text_frame {pool} {k} {limits} (Some left) (Some rest) size bytes v all given t =
    let whole = ap length given ∙ length-append bytes rest in
    record {
      given = omega (arith, whole, all);
      text = subst (λ (z : List ℕ). Text pool k limits z v) (sym (ap (take size) given ∙ take_at bytes rest size all)) t;
    }

pub rest_text : (x y : Option (List ℕ)) (size : ℕ) (bytes : List ℕ) → length bytes ≡ size → Consumes x y bytes → IfSome x (λ left. y ≡ Some (drop size left))
rest_text None y size bytes all given = tt
rest_text (Some left) None size bytes all given = absurd given
rest_text (Some left) (Some rest) size bytes all given = ap (λ (z : List ℕ). Some z) (sym (ap (drop size) given ∙ drop_at bytes rest size all))

-- THE FAULT
pub reported_frame : {pool : Types} {k depth : ℕ} (x y : Option (List ℕ)) (size most : ℕ) (f : Fault) → ReportedOf pool (starting k depth [] (Some size)) x y most f → IfSome x (λ left. BadFrame pool k depth 0 size left f)
reported_frame None y size most f h = tt
reported_frame (Some left) None size most f h = absurd h.given
reported_frame {pool} {k} {depth} (Some left) (Some rest) size most f h = subst (λ (z : List ℕ). BadFrame pool k depth 0 size z f) (sym h.given) (bad_longer rest h.reported.bad h.reported.settled)

-- and where the input ended, or all bytes of the frame are given
pub bad_frame :
    (pool : Types) {k depth : ℕ} (x y : Option (List ℕ)) (size : ℕ) (bytes : List ℕ) (f : Fault) → (length bytes ≡ size) ⊎ IsAtEnd y → Consumes x y bytes → BadFrom pool (further (starting k depth [] (Some size)) bytes) f
    → IfSome x (λ left. BadFrame pool k depth 0 size left f)
bad_frame pool {k} {depth} x y size bytes f (inr ended) given bad = Consumes-whole x y bytes (λ left. BadFrame pool k depth 0 size left f) given ended bad
bad_frame pool None y size bytes f (inl all) given bad = tt
bad_frame pool (Some left) None size bytes f (inl all) given bad = absurd given
bad_frame pool {k} {depth} (Some left) (Some rest) size bytes f (inl all) given bad =
    subst (λ (z : List ℕ). BadFrame pool k depth 0 size z f) (sym given) (bad_longer rest bad (never_cut (record { left = size; known = refl; enough = omega (arith, all) }) bad))

-- where it is reported
pub low_byte : (pool : Types) {k depth size : ℕ} {bytes : List ℕ} (f : Fault) → BadFrom pool (further (starting k depth [] (Some size)) bytes) f → f.byte ≤ length bytes
low_byte pool {bytes = bytes} f bad = let high = (bad_reported bad).high in omega (arith, high)

-- FROM A LATER POSITION ON
pub refused_later : (start : ℕ) (e : DecodeError) (P Q : Fault → Type 0) → ((f : Fault) → P f → Q (later start f)) → IfRefused e P → IfRefused (error_later start e) Q
refused_later start (error.Fault byte path c) P Q h bad = h (fault byte path.items c) bad
refused_later start error.Memory P Q h bad = tt
refused_later start error.Device P Q h bad = tt
refused_later start error.Finished P Q h bad = bad

pub frame_later : (pool : Types) (k depth size start : ℕ) (x : Option (List ℕ)) (f : Fault) → IfSome x (λ left. BadFrame pool k depth 0 size left f) → IfSome x (λ left. BadFrame pool k depth start size left (later start f))
frame_later pool k depth size start None f bad = tt
frame_later pool k depth size start (Some left) f bad =
    let same : 0 + start ≡ start = omega arith in subst (λ (z : ℕ). BadFrame pool k depth z size left (later start f)) same (bad_later start bad)

-- ONE VALUE OR ONE FAULT
frame_read : {pool : Types} {k : ℕ} {limits : Bounds} {left : List ℕ} {v : Message} (start size : ℕ) → IsFrameOf pool k limits size left v → IsRead (schema_of pool) (records (a_message k)) limits.depth (ending_at start size left)
frame_read {left = left} start size h =
    let n : length (take size left) ≡ size = length-take-le size left h.given in (
      take size left,
      after (ending_at start size left) (take size left) (drop size left),
      (h.text.derives.records, h.text.derives.spelled, h.text.derives.sound),
      moves_after (ending_at start size left) (take size left) (drop size left) (sym (take-append-drop size left)) (let l : length (take size left) ≤ size = omega arith in l),
      inl (ap (λ (z : ℕ). Some z) (let none : size - length (take size left) ≡ 0 = omega arith in none)),
    )

pub frame_not_both : {pool : Types} {k : ℕ} {limits : Bounds} {start size : ℕ} {left : List ℕ} {v : Message} {f : Fault} → IsFrameOf pool k limits size left v → BadFrame pool k limits.depth start size left f → ⊥
frame_not_both {start = start} {size = size} h bad = not_both bad (frame_read start size h)

pub frame_one_fault : (pool : Types) {k depth start size : ℕ} {left : List ℕ} {f g : Fault} → BadFrame pool k depth start size left f → BadFrame pool k depth start size left g → f ≡ g
frame_one_fault pool bad other = one_fault bad other
