-- The name of an entry message is UTF-8 where the field's name is: no byte of a character beyond ASCII is dropped or raised.
use Rattle.std.proofs.Common.{◌≡◌, ℕ, suc, ◌-◌, ◌<◌, ◌≤◌, List, [], ◌∷◌, ◌++◌, length, get_or, codes, Bool, true, false, ◌&&◌, refl, ap, sym, ◌∙◌, subst, arith, lit<, append-nil, ◌⊎◌, inl, inr}
use Rattle.std.specs.Prelude.{if◌then◌else◌, ◌==◌}
use Rattle.std.specs.Char.{is_ascii_lowercase}
use Rattle.std.specs.Str.{IsUtf8}
use Rattle.std.proofs.Math.Utf8.{scalar, scalars, encode, encodes}
use Rattle.std.proofs.lemmas.Bool.{and_parts, cases_lt}
use Rattle.std.proofs.lemmas.Bool.Decides.{nat_tests}
use Rattle.std.proofs.lemmas.Str.{IsUtf8-nil, IsUtf8-append, IsUtf8-from_ascii, encode_ascii, inside_one}
use Rattle.std.proofs.lemmas.Str.Ascii.{IsAscii-nil, IsAscii-cons}
use Rattle.pb_schema.specs.Names.{raised, unless_line, camel_case, entry_name}

-- ---- bytes below 128

below_by : (b : Bool) (c : ℕ) → c < 128 → (if b then c - 32 else c) < 128
below_by true c l = omega arith
below_by false c l = l

ascii_put : (line : Bool) (b : ℕ) (bs : List ℕ) → b < 128 → IsUtf8 bs → IsUtf8 (unless_line line b bs)
ascii_put true b bs l u = u
ascii_put false b bs l u = IsUtf8-append (b ∷ []) bs (IsUtf8-from_ascii (b ∷ []) (IsAscii-cons b [] l IsAscii-nil)) u

-- ---- bytes from 128 on

no_small : (c : ℕ) → 128 ≤ c → is_ascii_lowercase c ≡ false
no_small c l = grind (arith, nat_tests)

no_line : (c : ℕ) → 128 ≤ c → (c == 95) ≡ false
no_line c l = grind (arith, nat_tests)

not_raised : (raise : Bool) (c : ℕ) → 128 ≤ c → raised raise c ≡ c
not_raised true c l = ap (λ b. if b then c - 32 else c) (no_small c l)
not_raised false c l = refl

one_kept : (raise : Bool) (c : ℕ) (bs : List ℕ) → 128 ≤ c → camel_case raise (c ∷ bs) ≡ c ∷ camel_case false bs
one_kept raise c bs l = ap (λ b. unless_line b (raised raise c) (camel_case b bs)) (no_line c l) ∙ ap (λ d. d ∷ camel_case false bs) (not_raised raise c l)

all_kept : (raise : Bool) (bs rest : List ℕ) → ((k : ℕ) → k < length bs → 128 ≤ get_or bs k 0) → (q : Bool) × (camel_case raise (bs ++ rest) ≡ bs ++ camel_case q rest)
all_kept raise [] rest h = (raise, refl)
all_kept raise (b ∷ bs) rest h =
    let x = all_kept false bs rest (λ k l. h (suc k) (omega arith)) in
    (x.0, one_kept raise b (bs ++ rest) (h 0 (omega arith)) ∙ ap (λ cs. b ∷ cs) x.1)

encode_high : (c : ℕ) → 128 ≤ c → (k : ℕ) → k < length (encode c) → 128 ≤ get_or (encode c) k 0
encode_high c h k l = by_size (cases_lt (get_or (encode c) k 0) 128)
  where
    by_size : (get_or (encode c) k 0 < 128) ⊎ (128 ≤ get_or (encode c) k 0) → 128 ≤ get_or (encode c) k 0
    by_size (inl s) = let e = inside_one c [] (encode c) k (sym (append-nil (encode c))) l s in absurd (omega arith)
    by_size (inr s) = s

-- ---- characters

one_utf8 : (c : ℕ) → scalar c ≡ true → IsUtf8 (encode c)
one_utf8 c h = (c ∷ [], (ap (λ b. b && true) h, append-nil (encode c)))

behind_char : (c : ℕ) (bs : List ℕ) → scalar c ≡ true → (raise : Bool) → ((q : Bool) → IsUtf8 (camel_case q bs)) → IsUtf8 (camel_case raise (encode c ++ bs))
behind_char c bs h raise rest = by_size (cases_lt c 128)
  where
    by_size : (c < 128) ⊎ (128 ≤ c) → IsUtf8 (camel_case raise (encode c ++ bs))
    by_size (inl l) =
        subst (λ cs. IsUtf8 (camel_case raise (cs ++ bs))) (sym (encode_ascii c l))
        (ascii_put (c == 95) (raised raise c) (camel_case (c == 95) bs) (below_by (raise && is_ascii_lowercase c) c l) (rest (c == 95)))
    by_size (inr l) =
        let x = all_kept raise (encode c) bs (encode_high c l) in
        subst IsUtf8 (sym x.1) (IsUtf8-append (encode c) (camel_case x.0 bs) (one_utf8 c h) (rest x.0))

camel_utf8 : (cs : List ℕ) → scalars cs ≡ true → (raise : Bool) → IsUtf8 (camel_case raise (encodes cs))
camel_utf8 [] h raise = IsUtf8-nil
camel_utf8 (c ∷ cs) h raise = let p = and_parts (scalar c) (scalars cs) h in behind_char c (encodes cs) p.0 raise (λ q. camel_utf8 cs p.1 q)

entry_end : IsUtf8 (codes "Entry")
entry_end =
    IsUtf8-from_ascii (codes "Entry")
    (IsAscii-cons 69 (codes "ntry") (lit< tt) (IsAscii-cons 110 (codes "try") (lit< tt) (IsAscii-cons 116 (codes "ry") (lit< tt) (IsAscii-cons 114 (codes "y") (lit< tt) (IsAscii-cons 121 [] (lit< tt) IsAscii-nil)))))

pub entry_utf8 : (name : List ℕ) → IsUtf8 name → IsUtf8 (entry_name name)
entry_utf8 name u =
    IsUtf8-append (camel_case true name) (codes "Entry") (subst (λ bs. IsUtf8 (camel_case true bs)) u.1.1 (camel_utf8 u.0 u.1.0 true)) entry_end
