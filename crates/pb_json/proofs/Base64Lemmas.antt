-- Bytes in base64, piece by piece.
use Rattle.std.proofs.Common.{◌≡◌, ℕ, ◌+◌, ◌-◌, ◌%◌, ◌≤◌, List, [], ◌++◌, length, take, drop, sym, ap, ap₂, ◌∙◌, arith, length-drop, length-take}
use Rattle.std.proofs.lemmas.List.{drop-take, take_all, take-append-drop, take-take}
use Rattle.base64.specs.Engines.{standard}
use Rattle.base64.specs.GeneralPurpose.{encode_of}
use Rattle.base64.proofs.EngineFacts.{encode_of-append, encode_of-nil}

pub encoded_none : encode_of standard [] ≡ []
encoded_none = encode_of-nil standard

take-parts : (i n : ℕ) (xs : List ℕ) → take (i + n) xs ≡ take i xs ++ take n (drop i xs)
take-parts i n xs =
    sym (take-append-drop i (take (i + n) xs)) ∙ ap₂ (λ a b. a ++ b) (take-take i (i + n) xs (omega arith)) (drop-take i n xs)

-- a prefix of whole groups, and then the next piece
pub encoded_more :
    (i j : ℕ) (xs : List ℕ) → i ≤ j → i ≤ length xs → i % 3 ≡ 0
    → encode_of standard (take j xs) ≡ encode_of standard (take i xs) ++ encode_of standard (take (j - i) (drop i xs))
encoded_more i j xs below within whole =
    let next : j ≡ i + (j - i) = omega arith in
    let size : length (take i xs) ≡ i = length-take i xs ∙ omega (arith, within) in
    let groups : length (take i xs) % 3 ≡ 0 = rw size whole in
    ap (λ (k : ℕ). encode_of standard (take k xs)) next ∙ ap (encode_of standard) (take-parts i (j - i) xs)
    ∙ encode_of-append standard (take i xs) (take (j - i) (drop i xs)) groups

-- all of what is left
pub rest_taken : (i : ℕ) (xs : List ℕ) → take (length xs - i) (drop i xs) ≡ drop i xs
rest_taken i xs = take_all (length xs - i) (drop i xs) (let e = length-drop i xs in omega (arith, e))

-- a prefix of whole groups, and then the rest
pub encoded_whole :
    (i : ℕ) (xs : List ℕ) → i ≤ length xs → i % 3 ≡ 0 → encode_of standard xs ≡ encode_of standard (take i xs) ++ encode_of standard (drop i xs)
encoded_whole i xs within whole =
    let size : length (take i xs) ≡ i = length-take i xs ∙ omega (arith, within) in
    let groups : length (take i xs) % 3 ≡ 0 = rw size whole in
    ap (encode_of standard) (sym (take-append-drop i xs)) ∙ encode_of-append standard (take i xs) (drop i xs) groups
