-- Tables of messages and enums.
use Rattle.std.proofs.Common.{◌≡◌, ℕ, zero, suc, ◌+◌, ◌<◌, take, List, [], ◌∷◌, ◌++◌, map, length, get_or, refl, sym, ◌∙◌, ap, subst, arith, Some}
use Rattle.std.specs.Prelude.{slice_get}
use Rattle.std.proofs.lemmas.List.{take_more, map-append}
use Rattle.pb_schema.specs.Tables.{HaveTables}

tables_push : {T X : Type 0} (P : T → X → Type 0) (ts : List T) (ns : List X) (t : T) (n : X) → HaveTables P ts ns → P t n → HaveTables P (ts ++ t ∷ []) (ns ++ n ∷ [])
tables_push P [] [] t n are is = (is, tt)
tables_push P [] (m ∷ ms) t n are is = absurd are
tables_push P (s ∷ ss) [] t n are is = absurd are
tables_push P (s ∷ ss) (m ∷ ms) t n are is = (are.0, tables_push P ss ms t n are.1 is)

pub view-more : {S T : Type 0} (view : S → T) (xs : List S) (i : ℕ) (x : S) → i < length xs → x ≡ get_or xs i x → map view (take (i + 1) xs) ≡ map view (take i xs) ++ view x ∷ []
view-more view xs i x h is =
    ap (map view) (take_more xs i x h ∙ ap (λ y. take i xs ++ y ∷ []) (sym is)) ∙ map-append view (take i xs) (x ∷ [])

pub tables-more : {S T X : Type 0} (view : S → T) (P : T → X → Type 0) (xs : List S) (i : ℕ) (x : S) (ns : List X) (n : X) → i < length xs → x ≡ get_or xs i x → HaveTables P (map view (take i xs)) ns → P (view x) n → HaveTables P (map view (take (i + 1) xs)) (ns ++ n ∷ [])
tables-more view P xs i x ns n h is were this =
    subst (λ l. HaveTables P l (ns ++ n ∷ [])) (sym (view-more view xs i x h is)) (tables_push P (map view (take i xs)) ns (view x) n were this)

-- the table of a part
pub table_at : {T X : Type 0} (P : T → X → Type 0) (ts : List T) (ns : List X) (i : ℕ) (t : T) (n : X) → HaveTables P ts ns → i < length ts → t ≡ get_or ts i t → n ≡ get_or ns i n → P t n
table_at P [] ns i t n are h a b = absurd (omega (arith, h))
table_at P (s ∷ ss) [] i t n are h a b = absurd are
table_at P (s ∷ ss) (m ∷ ms) zero t n are h a b = subst (λ x. P x n) (sym a) (subst (P s) (sym b) are.0)
table_at P (s ∷ ss) (m ∷ ms) (suc i) t n are h a b = table_at P ss ms i t n are.1 (omega (arith, h)) a b

pub tables_length : {T X : Type 0} (P : T → X → Type 0) (ts : List T) (ns : List X) → HaveTables P ts ns → length ns ≡ length ts
tables_length P [] [] are = refl
tables_length P [] (m ∷ ms) are = absurd are
tables_length P (s ∷ ss) [] are = absurd are
tables_length P (s ∷ ss) (m ∷ ms) are = ap suc (tables_length P ss ms are.1)

-- a part and its table
pub found_table : {T X : Type 0} (P : T → X → Type 0) (ts : List T) (ns : List X) (i : ℕ) (n : X) → HaveTables P ts ns → i < length ts → n ≡ get_or ns i n → (t : T) × (slice_get ts i ≡ Some t) × P t n
found_table P [] ns i n are h is = absurd (omega (arith, h))
found_table P (s ∷ ss) [] i n are h is = absurd are
found_table P (s ∷ ss) (m ∷ ms) zero n are h is = (s, refl, subst (P s) (sym is) are.0)
found_table P (s ∷ ss) (m ∷ ms) (suc i) n are h is = found_table P ss ms i n are.1 (omega (arith, h)) is
