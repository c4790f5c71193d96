-- A path is read back from its name in lowerCamelCase just where it is one of those that may be written.
use Rattle.std.proofs.Common.{◌≡◌, ℕ, suc, ◌+◌, ◌≤◌, Bool, true, false, cond, not, ◌&&◌, ◌||◌, eqb, ltb, get_or, drop, List, [], ◌∷◌, length, refl, sym, ap, ◌∙◌, subst, inl, inr, arith, le-leb, leb-true, eqb-true, eq-eqb, ne_eqb, append-nil, Option, Some, None, option_map}
use Rattle.std.proofs.lemmas.Bool.{cases_Bool, and_from, and_parts, not-true}
use Rattle.std.specs.Char.{is_ascii_lowercase, is_ascii_uppercase}
use Rattle.std.specs.List.{list_all}
use Rattle.std.specs.Option.{option_and_then}
use Rattle.std.specs.Prelude.{unwrap_or}
use Rattle.std.specs.Str.{is_utf8}
use Rattle.pb_json.specs.JsonNames.{camel_from, lower_camel}
use Rattle.pb_json.specs.Masks.{is_path, is_path_from}
use Rattle.pb_json_scalars.specs.Paths.{between_commas, has_no_underscore, mask_paths, onto_first, path_of, paths_of, snake_case}
use Rattle.pb_json_round_trip.proofs.MaskLaws.{letter, mask_read}
use Rattle.pb_json_round_trip.proofs.NameLaws.{cased_no_line}

-- ---- a path that may be written

pub path_read : (p : List ℕ) → is_path p ≡ true → is_utf8 p ≡ true → mask_paths (lower_camel p) ≡ Some (p ∷ [])
path_read p h text = ap mask_paths (sym (append-nil (lower_camel p))) ∙ mask_read (p ∷ []) (rw h refl) (rw text refl)

-- ---- no other path is read back

not_true : false ≡ true → ⊥
not_true e = absurd (cc)

-- a name in lowerCamelCase has no underscore
camel_no_line : (raised : Bool) (p : List ℕ) → has_no_underscore (camel_from raised p) ≡ true
camel_no_line raised [] = refl
camel_no_line raised (c ∷ cs) =
    let later = camel_no_line (eqb c 95) cs in
    elim (cases_Bool (eqb c 95)) [ inl e ↦ rw e (rw e at later) | inr e ↦ rw (e, cased_no_line raised c e) (rw e at later) ]

lowered : (c : ℕ) → is_ascii_uppercase c ≡ true → is_ascii_lowercase (c + 32) ≡ true
lowered c h =
    let parts = and_parts _ _ h in
    let low = leb-true 65 c parts.0 in
    let high = leb-true c 90 parts.1 in
    rw (le-leb 97 (c + 32) (omega arith), le-leb (c + 32) 122 (omega arith)) refl

-- each underscore of a path that is read is before a lower-case letter
after_line : (w rest : List ℕ) (x : ℕ) → has_no_underscore w ≡ true → snake_case w ≡ 95 ∷ x ∷ rest → is_ascii_lowercase x ≡ true
after_line [] rest x none e = absurd (cc)
after_line (d ∷ ds) rest x none e =
    elim (cases_Bool (is_ascii_uppercase d)) [
      | inl up ↦
          let at : 95 ∷ (d + 32) ∷ snake_case ds ≡ 95 ∷ x ∷ rest = rw up at e in
          let same : d + 32 ≡ x = ap (λ (l : List ℕ). get_or l 1 0) at in
          subst (λ (y : ℕ). is_ascii_lowercase y ≡ true) same (lowered d up)
      | inr low ↦
          let at : d ∷ snake_case ds ≡ 95 ∷ x ∷ rest = rw low at e in
          let same : d ≡ 95 = ap (λ (l : List ℕ). get_or l 0 0) at in
          let parts = and_parts (not (eqb d 95)) (has_no_underscore ds) none in
          absurd (not_true (subst (λ (y : ℕ). not (eqb y 95) ≡ true) same parts.0))
    ]

line_follows : (c : ℕ) → c ≡ 95 → not (is_ascii_uppercase c || eqb c 44) ≡ true
line_follows c e = rw e refl

-- what comes back from its name in lowerCamelCase, without a comma there, is a path
only_back : (after : Bool) (p : List ℕ) → snake_case (camel_from after p) ≡ cond after (95 ∷ p) p
    → list_all (λ c. not (eqb c 44)) (camel_from after p) ≡ true → is_path_from after p ≡ true
only_back true [] e none = absurd (cc)
only_back false [] e none = refl
only_back true (c ∷ cs) e none =
    let low = after_line (camel_from true (c ∷ cs)) cs c (camel_no_line true (c ∷ cs)) e in
    let l = letter c low in
    let at : 95 ∷ c ∷ snake_case (camel_from false cs) ≡ 95 ∷ c ∷ cs = rw (l.other, l.raised, l.upper, l.back) at e in
    let rest : list_all (λ x. not (eqb x 44)) (camel_from false cs) ≡ true = rw (l.other, l.raised, l.no_comma) at none in
    rw (low, l.other) (only_back false cs (ap (drop 2) at) rest)
only_back false (c ∷ cs) e none =
    elim (cases_Bool (eqb c 95)) [
      | inl is ↦
          let line = eqb-true c 95 is in
          let at : snake_case (camel_from true cs) ≡ c ∷ cs = rw is at e in
          let rest : list_all (λ x. not (eqb x 44)) (camel_from true cs) ≡ true = rw is at none in
          rw (line_follows c line, is) (only_back true cs (at ∙ ap (λ (x : ℕ). x ∷ cs) line) rest)
      | inr other ↦ elim (cases_Bool (is_ascii_uppercase c)) [
        | inl up ↦
            let at : 95 ∷ (c + 32) ∷ snake_case (camel_from false cs) ≡ c ∷ cs = rw (other, up) at e in
            let same : 95 ≡ c = ap (λ (l : List ℕ). get_or l 0 0) at in
            absurd (not_true (sym other ∙ eq-eqb c 95 (sym same)))
        | inr low ↦
            let at : c ∷ snake_case (camel_from false cs) ≡ c ∷ cs = rw (other, low) at e in
            let parts = and_parts (not (eqb c 44)) (list_all (λ x. not (eqb x 44)) (camel_from false cs)) (rw other at none) in
            rw (low, not-true (eqb c 44) parts.0, other) (only_back false cs (ap (drop 1) at) parts.1)
      ]
    ]

some_name : (s : List ℕ) → between_commas s ≡ [] → ⊥
some_name [] e = absurd (cc)
some_name (c ∷ cs) e =
    elim (cases_Bool (eqb c 44)) [
      | inl is ↦
          let at : [] ∷ between_commas cs ≡ [] = rw is at e in
          let none : suc (length (between_commas cs)) ≡ 0 = ap length at in
          omega (arith, none)
      | inr is ↦ no_first (between_commas cs) (rw is at e)
    ]
  where
    no_first : (names : List (List ℕ)) → onto_first c names ≡ [] → ⊥
    no_first [] h = let none : 1 ≡ 0 = ap length h in omega (arith, none)
    no_first (n ∷ ns) h = let none : suc (length ns) ≡ 0 = ap length h in omega (arith, none)

-- what is one name between commas has no comma
only_name : (s name : List ℕ) → between_commas s ≡ name ∷ [] → (s ≡ name) × (list_all (λ c. not (eqb c 44)) s ≡ true)
only_name [] name e = let same : [] ≡ name = ap (λ (l : List (List ℕ)). get_or l 0 []) e in (same, refl)
only_name (c ∷ cs) name e =
    elim (cases_Bool (eqb c 44)) [
      | inl is ↦
          let at : [] ∷ between_commas cs ≡ name ∷ [] = rw is at e in
          absurd (some_name cs (ap (drop 1) at))
      | inr is ↦ by_first (λ n. only_name cs n) (between_commas cs) refl (rw is at e) is
    ]
  where
    by_first : ((n : List ℕ) → between_commas cs ≡ n ∷ [] → (cs ≡ n) × (list_all (λ x. not (eqb x 44)) cs ≡ true)) → (names : List (List ℕ))
        → between_commas cs ≡ names → onto_first c names ≡ name ∷ [] → eqb c 44 ≡ false
        → (c ∷ cs ≡ name) × (list_all (λ x. not (eqb x 44)) (c ∷ cs) ≡ true)
    by_first later [] names h is = absurd (some_name cs names)
    by_first later (n ∷ ns) names h is =
        let rest : ns ≡ [] = ap (drop 1) h in
        let first : c ∷ n ≡ name = ap (λ (l : List (List ℕ)). get_or l 0 []) h in
        let same = later n (names ∙ ap (λ (l : List (List ℕ)). n ∷ l) rest) in
        (ap (λ (l : List ℕ). c ∷ l) same.0 ∙ first, rw is same.1)

no_paths : (names : List (List ℕ)) → paths_of names ≡ Some [] → names ≡ []
no_paths [] e = refl
no_paths (name ∷ names) e = absurd (by_path (path_of name) e)
  where
    by_paths : (path : List ℕ) (o : Option (List (List ℕ))) → option_map (λ paths. path ∷ paths) o ≡ Some [] → ⊥
    by_paths path None h = absurd (cc)
    by_paths path (Some ps) h = absurd (cc)

    by_path : (o : Option (List ℕ)) → option_and_then (λ path. option_map (λ paths. path ∷ paths) (paths_of names)) o ≡ Some [] → ⊥
    by_path None h = absurd (cc)
    by_path (Some path) h = by_paths path (paths_of names) h

-- one path is read from one name
record OneName (names : List (List ℕ)) (p : List ℕ) : Type 0 where
  name : List ℕ
  alone : names ≡ name ∷ []
  means : path_of name ≡ Some p

one_path : (names : List (List ℕ)) (p : List ℕ) → paths_of names ≡ Some (p ∷ []) → OneName names p
one_path [] p e = absurd (cc)
one_path (name ∷ names) p e = by_path (path_of name) refl e
  where
    by_paths : (path : List ℕ) (o : Option (List (List ℕ))) → paths_of names ≡ o → option_map (λ paths. path ∷ paths) o ≡ Some (p ∷ []) → (names ≡ []) × (path ≡ p)
    by_paths path None is h = absurd (cc)
    by_paths path (Some []) is h = let same : path ≡ p = ap (λ (o : Option (List (List ℕ))). get_or (unwrap_or o []) 0 []) h in (no_paths names is, same)
    by_paths path (Some (q ∷ qs)) is h =
        let long : suc (suc (length qs)) ≡ 1 = ap (λ (o : Option (List (List ℕ))). length (unwrap_or o [])) h in absurd (omega (arith, long))

    by_path : (o : Option (List ℕ)) → path_of name ≡ o → option_and_then (λ path. option_map (λ paths. path ∷ paths) (paths_of names)) o ≡ Some (p ∷ []) → OneName (name ∷ names) p
    by_path None is h = absurd (cc)
    by_path (Some path) is h =
        let r = by_paths path (paths_of names) refl h in
        record { name = name; alone = ap (λ (l : List (List ℕ)). name ∷ l) r.0; means = is ∙ ap (λ (x : List ℕ). Some x) r.1 }

text_is : (b : Bool) (s p : List ℕ) → cond b (Some s) None ≡ Some p → s ≡ p
text_is true s p e = ap (λ (o : Option (List ℕ)). unwrap_or o []) e
text_is false s p e = absurd (cc)

snake_is : (good b : Bool) (s p : List ℕ) → cond good (cond b (Some s) None) None ≡ Some p → s ≡ p
snake_is true b s p e = text_is b s p e
snake_is false b s p e = absurd (cc)

path_snake : (name p : List ℕ) → path_of name ≡ Some p → snake_case name ≡ p
path_snake name p e = snake_is (ltb 0 (length name) && has_no_underscore name) (is_utf8 (snake_case name)) (snake_case name) p e

pub only_path : (p : List ℕ) → mask_paths (lower_camel p) ≡ Some (p ∷ []) → is_path p ≡ true
only_path [] e = absurd (cc)
only_path (c ∷ cs) e =
    elim (cases_Bool (eqb (length (lower_camel (c ∷ cs))) 0)) [
      | inl none ↦
          let at : ◌≡◌ {A = Option (List (List ℕ))} (Some []) (Some ((c ∷ cs) ∷ [])) = rw none at e in
          let long : 0 ≡ 1 = ap (λ (o : Option (List (List ℕ))). length (unwrap_or o [])) at in
          absurd (omega (arith, long))
      | inr some ↦
          let one = one_path (between_commas (lower_camel (c ∷ cs))) (c ∷ cs) (rw some at e) in
          let name = only_name (lower_camel (c ∷ cs)) one.name one.alone in
          let long : not (eqb (length (c ∷ cs)) 0) ≡ true = rw (ne_eqb (suc (length cs)) 0 (λ h. omega (arith, h))) refl in
          and_from _ _ long (only_back false (c ∷ cs) (ap snake_case name.0 ∙ path_snake one.name (c ∷ cs) one.means) name.1)
    ]
