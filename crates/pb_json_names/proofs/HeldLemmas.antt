-- The last of some unknown records.
use Rattle.std.proofs.Common.{option_map, ◌≡◌, ℕ, ◌+◌, ◌<◌, List, [], ◌∷◌, ◌++◌, length, take, get_or, Option, Some, None, refl, sym, ap, ◌∙◌}
use Rattle.std.specs.Prelude.{◌==◌}
use Rattle.std.specs.Option.{option_or}
use Rattle.std.proofs.lemmas.List.{take_more}
use Rattle.pb_wire.specs.Record.{Record}
use Rattle.pb_wire.specs.Unknown.{payload_of, records_of}
use Rattle.pb_wire.specs.declared.unknown.Unknown.{Unknown}
use Rattle.pb_json_names.specs.Name.{bytes_if, last_bytes}

records_append : (xs ys : List (ℕ × Unknown)) → records_of (xs ++ ys) ≡ records_of xs ++ records_of ys
records_append [] ys = refl
records_append (x ∷ xs) ys = ap (λ (rs : List Record). record { number = x.0; payload = payload_of x.1 } ∷ rs) (records_append xs ys)

or_none : (o : Option (List ℕ)) → option_or o None ≡ o
or_none None = refl
or_none (Some s) = refl

or_assoc : (o p q : Option (List ℕ)) → option_or (option_or o p) q ≡ option_or o (option_or p q)
or_assoc None p q = refl
or_assoc (Some s) p q = refl

last_one : (n : ℕ) (rs : List Record) (r : Record) → last_bytes n (rs ++ r ∷ []) ≡ option_or (bytes_if (r.number == n) r.payload) (last_bytes n rs)
last_one n [] r = sym (or_none (bytes_if (r.number == n) r.payload))
last_one n (x ∷ rs) r =
    ap (λ (o : Option (List ℕ)). option_or o (bytes_if (x.number == n) x.payload)) (last_one n rs r)
    ∙ or_assoc (bytes_if (r.number == n) r.payload) (last_bytes n rs) (bytes_if (x.number == n) x.payload)

-- one more record
pub last_more : (n : ℕ) (xs : List (ℕ × Unknown)) (i : ℕ) (x : ℕ × Unknown) → i < length xs → x ≡ get_or xs i x
    → last_bytes n (records_of (take (i + 1) xs)) ≡ option_or (bytes_if (x.0 == n) (payload_of x.1)) (last_bytes n (records_of (take i xs)))
last_more n xs i x below is =
    ap (λ ys. last_bytes n (records_of ys)) (take_more xs i x below)
    ∙ ap (λ rs. last_bytes n rs) (records_append (take i xs) (get_or xs i x ∷ []))
    ∙ last_one n (records_of (take i xs)) (record { number = (get_or xs i x).0; payload = payload_of (get_or xs i x).1 })
    ∙ ap (λ (y : ℕ × Unknown). option_or (bytes_if (y.0 == n) (payload_of y.1)) (last_bytes n (records_of (take i xs)))) (sym is)

or_map : {B : Type 0} (view : B → List ℕ) (found last : Option B) → option_map view (option_or found last) ≡ option_or (option_map view found) (option_map view last)
or_map view None last = refl
or_map view (Some x) last = refl

-- the last of one more record
pub last_or : {B : Type 0} (view : B → List ℕ) (n : ℕ) (xs : List (ℕ × Unknown)) (i : ℕ) (x : ℕ × Unknown) (found last : Option B) → i < length xs
    → x ≡ get_or xs i x → option_map view found ≡ bytes_if (x.0 == n) (payload_of x.1) → option_map view last ≡ last_bytes n (records_of (take i xs))
    → option_map view (option_or found last) ≡ last_bytes n (records_of (take (i + 1) xs))
last_or view n xs i x found last below is here before =
    or_map view found last
    ∙ ap (λ (o : Option (List ℕ)). option_or o (option_map view last)) here
    ∙ ap (λ (o : Option (List ℕ)). option_or (bytes_if (x.0 == n) (payload_of x.1)) o) before
    ∙ sym (last_more n xs i x below is)
