-- The length before a text.
use Rattle.std.proofs.Common.{◌≡◌, ◌≤◌, ◌+◌, ◌-◌, ◌++◌, ◌∙◌, ℕ, List, length, take, drop, Result, Ok, arith, ap, refl, sym, append_assoc, length-append}
use Rattle.std.proofs.lemmas.Grind.{common_steps}
use Rattle.std.proofs.lemmas.List.{take-append-drop}
use Rattle.pb_wire.specs.Limits.{Bounds}
use Rattle.pb_wire.specs.Varint.{IsVarint}
use Rattle.pb_schema.specs.Types.{Types}
use Rattle.pb_value.specs.Data.{Message}
use Rattle.pb_value.specs.Derives.{Text}
use Rattle.pb_c.specs.declared.typed.frames.FrameReport.{FrameReport}
use Rattle.pb_c.specs.Typed.Frames.{IsFramed}

-- what a reader of varints answers of it
pub length_read :
    {E : Type 0} (bytes front text rest : List ℕ) (r : Result (ℕ × ℕ) E) → bytes ≡ front ++ text ++ rest → IsVarint (length text) front
    → ((n size : ℕ) → size ≤ length bytes → IsVarint n (take size bytes) → r ≡ Ok (n, size)) → r ≡ Ok (length text, length front)
length_read bytes front text rest r joined counted only =
    let begins : take (length front) bytes ≡ front = grind (arith, common_steps) in
    let within : length front ≤ length bytes = grind (arith, common_steps) in
    only (length text) (length front) within (rw begins counted)

-- the same of a varint, whatever comes after it
pub varint_read :
    {E : Type 0} (bytes front rest : List ℕ) (n : ℕ) (r : Result (ℕ × ℕ) E) → bytes ≡ front ++ rest → IsVarint n front
    → ((k size : ℕ) → size ≤ length bytes → IsVarint k (take size bytes) → r ≡ Ok (k, size)) → r ≡ Ok (n, length front)
varint_read bytes front rest n r joined counted only =
    let begins : take (length front) bytes ≡ front = grind (arith, common_steps) in
    let within : length front ≤ length bytes = grind (arith, common_steps) in
    only n (length front) within (rw begins counted)

-- where the text begins and how long it is
pub begin_and_size : {E : Type 0} (r : Result (ℕ × ℕ) E) (size begin n k : ℕ) → r ≡ Ok (size, begin) → r ≡ Ok (n, k) → (size ≡ n) × (begin ≡ k)
begin_and_size r size begin n k is read =
    let same : ◌≡◌ {A = ℕ × ℕ} (size, begin) (n, k) = cc in
    (ap (λ p. p.0) same, ap (λ p. p.1) same)

-- the text fits into what follows its length
pub fits_behind :
    (bytes front text rest : List ℕ) (begin size : ℕ) → bytes ≡ front ++ text ++ rest → (size ≡ length text) × (begin ≡ length front)
    → size ≤ length bytes - begin
fits_behind bytes front text rest begin size joined (sized, begins) = grind (arith, common_steps)

-- the text is what follows its length
pub text_behind :
    (bytes front text rest : List ℕ) (begin size n : ℕ) → bytes ≡ front ++ text ++ rest → (size ≡ length text) × (begin ≡ length front) → n ≡ begin + size
    → take (n - begin) (drop begin bytes) ≡ text
text_behind bytes front text rest begin size n joined (sized, begins) ends = grind (arith, common_steps)

-- where it ends
pub end_of :
    (front text : List ℕ) (begin size : ℕ) → (size ≡ length text) × (begin ≡ length front) → begin + size ≡ length (front ++ text)
end_of front text begin size (sized, begins) = grind (arith, common_steps)

-- two places that begin and end alike
pub same_place :
    (placed r : FrameReport) (begin end : ℕ) → placed ≡ record { begin = begin; end = end } → r.begin ≡ begin → r.end ≡ end → placed ≡ r
same_place placed r begin end is begins ends = rw (is, sym begins, sym ends) refl

-- bytes that begin with a length and a text of as many bytes begin with a frame
pub framed :
    (pool : Types) (m : ℕ) (limits : Bounds) (bytes : List ℕ) (begin size n : ℕ) (v : Message) → begin ≤ length bytes → size ≤ length bytes - begin → n ≡ begin + size
    → IsVarint size (take begin bytes) → Text pool m limits (take (n - begin) (drop begin bytes)) v → IsFramed pool m limits bytes (record { begin = begin; end = n })
framed pool m limits bytes begin size n v within fits ends counted derives =
    let behind = drop begin bytes in
    let text = take (n - begin) behind in
    let sized : length text ≡ size = grind (arith, common_steps) in
    let fronted : length (take begin bytes) ≡ begin = grind (arith, common_steps) in
    record {
      value = v;
      rest = drop (n - begin) behind;
      frame = record {
        front = take begin bytes;
        text = text;
        joined = sym (take-append-drop begin bytes) ∙ ap (λ r. take begin bytes ++ r) (sym (take-append-drop (n - begin) behind))
            ∙ sym (append_assoc (take begin bytes) text (drop (n - begin) behind));
        counted = rw sized counted;
        derives = derives;
      };
      begins = sym fronted;
      ends = let whole = length-append (take begin bytes) text in omega (arith, whole, sized, fronted, ends);
    }
