-- Names between commas, and what they are as paths.
use Rattle.std.proofs.Common.{◌≡◌, ℕ, suc, ◌+◌, ◌-◌, ◌<◌, true, false, cond, not, eqb, ltb, List, [], ◌∷◌, ◌++◌, length, get_or, take, drop, refl, sym, ap, ap₂, ◌∙◌, inl, inr, arith, one-add, length-drop, drop-drop, append_assoc, lt-ltb, le-ltb, ltb-true, ltb-false, Option, Some, None, Result, Ok, Err, IsOk, IfOk, is_ok, MatchResult, option_map, String, Vec, string_bytes}
use Rattle.std.specs.Option.{option_and_then}
use Rattle.std.specs.Result.{result_ok}
use Rattle.std.specs.String.{string_vec}
use Rattle.std.specs.Str.{IsUtf8, is_utf8}
use Rattle.std.proofs.lemmas.Bool.{cases_Bool, false_from_ne_true}
use Rattle.std.proofs.lemmas.List.{drop_more}
use Rattle.std.proofs.lemmas.Str.{IsUtf8-from_is_utf8, is_utf8-from_IsUtf8}
use Rattle.std.specs.List.{prefix_len}
use Rattle.pb_json_scalars.specs.Paths.{between_commas, onto_first, path_of, paths_of, snake_case, snake_letter}

-- ---- letters

pub letter_more : (front name : List ℕ) (i : ℕ) → i < length name
    → front ++ snake_case (drop i name) ≡ (front ++ snake_letter (get_or name i 0)) ++ snake_case (drop (i + 1) name)
letter_more front name i within =
    ap (λ (l : List ℕ). front ++ snake_case l) (drop_more name i 0 within) ∙ sym (append_assoc front (snake_letter (get_or name i 0)) (snake_case (drop (i + 1) name)))

-- ---- strings

pub text_made : {Z E : Type 0} (r : Result (String Z) E) (v : Vec ℕ Z) → IsOk r → IfOk r (λ t. string_vec t ≡ v)
    → option_map string_bytes (result_ok r) ≡ Some v.items
text_made {Z = Z} (Ok t) v good is = ap (λ (x : Vec ℕ Z). Some x.items) is
text_made (Err e) v good is = absurd (cc)

pub utf8_test : {T E : Type 0} (r : Result T E) (bs : List ℕ) (P : T → Type 0) (Q : E → Type 0) → MatchResult r (λ s. P s × IsUtf8 bs) (λ e. ¬ (IsUtf8 bs) × Q e)
    → is_ok r ≡ is_utf8 bs
utf8_test (Ok s) bs P Q h = sym (is_utf8-from_IsUtf8 bs h.1)
utf8_test (Err e) bs P Q h = sym (false_from_ne_true (is_utf8 bs) (λ t. h.0 (IsUtf8-from_is_utf8 bs t)))

-- ---- names

abbrev pub name_end : List ℕ → ℕ
name_end s = prefix_len (λ c. not (eqb c 44)) s

abbrev later : List ℕ → ℕ → List (List ℕ)
later s n = cond (ltb n (length s)) (between_commas (drop (n + 1) s)) []

shifted : (n : ℕ) (c : ℕ) (cs : List ℕ) → later (c ∷ cs) (1 + n) ≡ later cs n
shifted n c cs = elim (cases_Bool (ltb n (length cs))) [
  | inl e ↦ let more : ltb (1 + n) (suc (length cs)) ≡ true = lt-ltb (1 + n) (suc (length cs)) (omega (arith, ltb-true n (length cs) e)) in
      let next : 1 + n + 1 ≡ suc (n + 1) = omega arith in rw (e, more, next) refl
  | inr e ↦ let less : ltb (1 + n) (suc (length cs)) ≡ false = le-ltb (1 + n) (suc (length cs)) (omega (arith, ltb-false n (length cs) e)) in rw (e, less) refl
]

-- the first name, and those after the comma behind it
pub first_name : (s : List ℕ) → between_commas s ≡ take (name_end s) s ∷ later s (name_end s)
first_name [] = refl
first_name (c ∷ cs) = elim (cases_Bool (eqb c 44)) [
  | inl e ↦ rw e (let some : ltb 0 (suc (length cs)) ≡ true = lt-ltb 0 (suc (length cs)) (omega arith) in rw some refl)
  | inr e ↦ rw e (ap (onto_first c) (first_name cs) ∙ ap₂ (λ (x : List ℕ) (l : List (List ℕ)). x ∷ l) (rw (one-add (name_end cs)) refl) (sym (shifted (name_end cs) c cs)))
]

-- ---- paths

abbrev pub Paths : Type 0
Paths = List (List ℕ)

pub none_yet : (o : Option Paths) → option_map (λ rest. [] ++ rest) o ≡ o
none_yet None = refl
none_yet (Some x) = refl

onto : (paths : Paths) (path : List ℕ) (o : Option Paths)
    → option_map (λ rest. paths ++ rest) (option_map (λ rest. path ∷ rest) o) ≡ option_map (λ rest. (paths ++ path ∷ []) ++ rest) o
onto paths path None = refl
onto paths path (Some x) = ap (λ (l : Paths). Some l) (sym (append_assoc paths (path ∷ []) x))

module _ (paths : Paths) (s : List ℕ) where
  abbrev So : Option Paths → Option Paths
  So o = option_map (λ rest. paths ++ rest) o

  -- no path, and so no paths
  pub path_stops : (name : List ℕ) → name ≡ take (name_end s) s → None ≡ path_of name → So (paths_of (between_commas s)) ≡ None
  path_stops name e none =
      ap (λ (l : Paths). So (paths_of l)) (first_name s) ∙ ap (λ (n : List ℕ). So (paths_of (n ∷ later s (name_end s)))) (sym e)
      ∙ ap (λ (p : Option (List ℕ)). So (option_and_then (λ path. option_map (λ rest. path ∷ rest) (paths_of (later s (name_end s)))) p)) (sym none)

  -- a path, and those of the names that are left
  pub path_more : (name path : List ℕ) → name ≡ take (name_end s) s → Some path ≡ path_of name
      → So (paths_of (between_commas s)) ≡ option_map (λ rest. (paths ++ path ∷ []) ++ rest) (paths_of (later s (name_end s)))
  path_more name path e some =
      ap (λ (l : Paths). So (paths_of l)) (first_name s) ∙ ap (λ (n : List ℕ). So (paths_of (n ∷ later s (name_end s)))) (sym e)
      ∙ ap (λ (p : Option (List ℕ)). So (option_and_then (λ path. option_map (λ rest. path ∷ rest) (paths_of (later s (name_end s)))) p)) (sym some)
      ∙ onto paths path (paths_of (later s (name_end s)))

-- ---- from one name to the next

later_at : (s : List ℕ) (at n : ℕ) → later (drop at s) n ≡ cond (ltb (at + n) (length s)) (between_commas (drop (at + n + 1) s)) []
later_at s at n = elim (cases_Bool (ltb (at + n) (length s))) [
  | inl e ↦
      let long = length-drop at s in
      let inside = ltb-true (at + n) (length s) e in
      let more : ltb n (length (drop at s)) ≡ true = lt-ltb n (length (drop at s)) (omega arith) in
      let place : at + (n + 1) ≡ at + n + 1 = omega arith in
      rw (e, more) (ap between_commas (drop-drop (n + 1) at s ∙ ap (λ (k : ℕ). drop k s) place))
  | inr e ↦
      let long = length-drop at s in
      let outside = ltb-false (at + n) (length s) e in
      let less : ltb n (length (drop at s)) ≡ false = le-ltb n (length (drop at s)) (omega arith) in
      rw (e, less) refl
]

module _ (paths : Paths) (s : List ℕ) (at n : ℕ) (end : n ≡ name_end (drop at s)) where
  name_is : take (at + n - at) (drop at s) ≡ take (name_end (drop at s)) (drop at s)
  name_is = let same : at + n - at ≡ n = omega arith in ap (λ (k : ℕ). take k (drop at s)) (same ∙ end)

  pub no_name : None ≡ path_of (take (at + n - at) (drop at s)) → option_map (λ rest. paths ++ rest) (paths_of (between_commas (drop at s))) ≡ None
  no_name none = path_stops paths (drop at s) (take (at + n - at) (drop at s)) name_is none

  pub next_name : (path : List ℕ) → Some path ≡ path_of (take (at + n - at) (drop at s))
      → option_map (λ rest. (paths ++ path ∷ []) ++ rest) (paths_of (cond (ltb (at + n) (length s)) (between_commas (drop (at + n + 1) s)) []))
      ≡ option_map (λ rest. paths ++ rest) (paths_of (between_commas (drop at s)))
  next_name path some =
      ap (λ (l : Paths). option_map (λ rest. (paths ++ path ∷ []) ++ rest) (paths_of l)) (sym (ap (later (drop at s)) (sym end) ∙ later_at s at n))
      ∙ sym (path_more paths (drop at s) (take (at + n - at) (drop at s)) path name_is some)
