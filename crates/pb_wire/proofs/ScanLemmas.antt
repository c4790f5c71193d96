-- What a varint of the bytes before a known end says of the place where they begin, and the wire types of numbers.
use Rattle.std.proofs.Common.{◌≡◌, ◌≢◌, ℕ, ◌<◌, ◌≤◌, List, [], length, take, refl, sym, ap, subst, ◌∙◌, arith, Option, Some, None, ⊎_elim, inl, inr, All}
use Rattle.std.proofs.lemmas.List.{take-append-drop, take-take, length-take, length-take-le}
use Rattle.pb_wire.specs.Varint.{IsVarint}
use Rattle.pb_wire.specs.Fault.{Fault, fault, Place, window, IsWithin, IsHigh, Moves, Reads, VarintFault, text_at}
use Rattle.pb_wire.specs.Scan.{given_at, passed, TellsVarint, IsNumberType}
use Rattle.pb_wire.specs.declared.fault.Cause.{Cause}
use Rattle.pb_wire.specs.declared.fault.Cause.TheVariants.{Truncated, PastEnd, VarintTooLong}
use Rattle.pb_wire.specs.declared.scan.Scanned.{Scanned}
use Rattle.pb_wire.specs.declared.scan.Scanned.TheVariants as scanned
use Rattle.pb_wire.proofs.Tokens.{known_is}

pub moves_passed : (p : Place) (n : ℕ) → n ≤ length p.rest → IsWithin p n → Moves p (take n p.rest) (passed p n)
moves_passed p n given within =
    let size : length (take n p.rest) ≡ n = length-take-le n p.rest given in
    record { given = sym (take-append-drop n p.rest); within = rw size within; at = rw size refl; known = rw size refl }

-- bytes of the window don't pass the known end
in_window : (at : ℕ) (known : Option ℕ) (b : List ℕ) (m n : ℕ) → window (given_at at known b) ≡ take m b → m ≤ length b → n ≤ m → IsWithin (given_at at known b) n
in_window at None b m n w given h = tt
in_window at (Some e) b m n w given h =
    let same : length (take e b) ≡ length (take m b) = ap length w in
    omega (arith, same, length-take e b, length-take-le m b given)

pub varint_whole :
    (at : ℕ) (known : Option ℕ) (b : List ℕ) (m size n : ℕ) → window (given_at at known b) ≡ take m b → m ≤ length b
    → size ≤ length (take m b) → IsVarint n (take size (take m b))
    → (size ≤ length b) × Reads (given_at at known b) n (passed (given_at at known b) size)
varint_whole at known b m size n w given taken is =
    let less : size ≤ m = omega (arith, taken, length-take-le m b given) in
    let within : size ≤ length b = omega (arith, less, given) in
    let front : take size (take m b) ≡ take size b = take-take size m b less in
    (within, (take size b, rw front at is, moves_passed (given_at at known b) size within (in_window at known b m size w given less)))

-- the bytes before the known end all have the high bit, and are too few
cut_parts : {w : List ℕ} {byte : ℕ} → VarintFault (text_at w) (fault byte [] Truncated) → (length w < 10) × All IsHigh w
cut_parts (VarintFault.too_long long high is) = let e : Truncated ≡ VarintTooLong = ap (λ (z : Fault). z.cause) is in absurd (cc)
cut_parts (VarintFault.past_end short high known is) = absurd (cc)
cut_parts (VarintFault.cut_short short high known is) = (short, high)

pub varint_cut :
    (at : ℕ) (known : Option ℕ) (b : List ℕ) (m byte : ℕ) (t : Scanned ℕ) → window (given_at at known b) ≡ take m b → m ≤ length b
    → VarintFault (text_at (take m b)) (fault byte [] Truncated) → (known ≡ Some m → t ≡ scanned.Fault PastEnd) → (known ≢ Some m → t ≡ scanned.Short)
    → TellsVarint (given_at at known b) t
varint_cut at known b m byte t w given bad past short =
    let parts = cut_parts bad in
    let size : length (window (given_at at known b)) ≡ m = ap length w ∙ length-take-le m b given in
    let few : length (window (given_at at known b)) < 10 = subst (λ (z : List ℕ). length z < 10) (sym w) parts.0 in
    let high : All IsHigh (window (given_at at known b)) = subst (λ (z : List ℕ). All IsHigh z) (sym w) parts.1 in
    ⊎_elim
    (λ (e : known ≡ Some m).
    rw (past e) (λ h. cc, VarintFault.past_end few high (e ∙ ap (λ (z : ℕ). Some z) (sym size)) refl))
    (λ (ne : known ≢ Some m).
    rw (short ne) (VarintFault.cut_short few high (λ h. ne (h ∙ ap (λ (z : ℕ). Some z) size)) refl))
    (known_is known m)

pub varint_refused :
    (at : ℕ) (known : Option ℕ) (b : List ℕ) (m byte : ℕ) (c : Cause) → window (given_at at known b) ≡ take m b
    → VarintFault (text_at (take m b)) (fault byte [] c) → c ≢ Truncated → (c ≢ Truncated) × VarintFault (given_at at known b) (fault at [] c)
varint_refused at known b m byte c w (VarintFault.too_long long high is) ne =
    let cause : c ≡ VarintTooLong = ap (λ (z : Fault). z.cause) is in (
      ne,
      VarintFault.too_long (subst (λ (z : List ℕ). 10 ≤ length z) (sym w) long) (subst (λ (z : List ℕ). All IsHigh (take 10 z)) (sym w) high)
          (ap (λ (z : Cause). fault at [] z) cause),
    )
varint_refused at known b m byte c w (VarintFault.past_end short high known_end is) ne = absurd (cc)
varint_refused at known b m byte c w (VarintFault.cut_short short high none is) ne = absurd (ne (ap (λ (z : Fault). z.cause) is))

-- a number that is no VARINT and no I64 is an I32
pub is_five : {w : ℕ} → IsNumberType w → w ≢ 0 → w ≢ 1 → w ≡ 5
is_five (inl h) not_varint not_I64 = absurd (not_varint h)
is_five (inr (inl h)) not_varint not_I64 = absurd (not_I64 h)
is_five (inr (inr h)) not_varint not_I64 = h
