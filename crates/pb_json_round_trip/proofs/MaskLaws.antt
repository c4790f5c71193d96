-- Field masks, as they are written.
use Rattle.std.proofs.Common.{◌≡◌, ℕ, ◌+◌, ◌-◌, ◌<◌, ◌≤◌, Bool, true, false, cond, not, ◌||◌, eqb, List, [], ◌∷◌, ◌++◌, length, refl, sym, ap, ◌∙◌, inl, inr, arith, ne_eqb, lt-ltb, le-ltb, le-leb, leb-true, eqb-true, map, append-nil, length-append, pos_of_ne-zero, Some, option_map, codes}
use Rattle.std.proofs.lemmas.Bool.{cases_Bool, and_parts, or_parts, not-true, eqb-false}
use Rattle.std.specs.Char.{is_ascii_lowercase, is_ascii_uppercase, to_ascii_uppercase}
use Rattle.std.specs.List.{flat_map, list_all}
use Rattle.std.specs.Option.{option_and_then}
use Rattle.std.specs.Str.{is_utf8}
use Rattle.pb_json.specs.JsonNames.{camel_from, lower_camel}
use Rattle.pb_json.specs.Masks.{are_paths, is_path, is_path_from, mask_text}
use Rattle.pb_json_scalars.specs.Paths.{as_text, between_commas, has_no_underscore, mask_paths, onto_first, path_of, paths_of, snake_case}

-- ---- letters

lower : (c : ℕ) → is_ascii_lowercase c ≡ true → (97 ≤ c) × (c ≤ 122)
lower c h = let parts = and_parts _ _ h in (leb-true 97 c parts.0, leb-true c 122 parts.1)

raised_is : (c : ℕ) → 97 ≤ c → c ≤ 122 → to_ascii_uppercase c ≡ c - 32
raised_is c low high = rw (le-ltb c 97 low, lt-ltb c 123 (omega arith)) refl

upper_test : (c : ℕ) → 97 ≤ c → c ≤ 122 → is_ascii_uppercase (c - 32) ≡ true
upper_test c low high = rw (le-leb 65 (c - 32) (omega arith), le-leb (c - 32) 90 (omega arith)) refl

-- what a letter of a path is in lowerCamelCase, after an underscore and elsewhere
pub record Letter (c : ℕ) : Type 0 where
  pub other : eqb c 95 ≡ false
  pub upper : is_ascii_uppercase (c - 32) ≡ true
  pub raised : to_ascii_uppercase c ≡ c - 32
  pub back : c - 32 + 32 ≡ c
  pub no_underscore : eqb (c - 32) 95 ≡ false
  pub no_comma : eqb (c - 32) 44 ≡ false

pub letter : (c : ℕ) → is_ascii_lowercase c ≡ true → Letter c
letter c h =
    let r = lower c h in record {
      other = ne_eqb c 95 (λ e. omega arith);
      upper = upper_test c r.0 r.1;
      raised = raised_is c r.0 r.1;
      back = omega arith;
      no_underscore = ne_eqb (c - 32) 95 (λ e. omega arith);
      no_comma = ne_eqb (c - 32) 44 (λ e. omega arith);
    }

-- ---- paths

-- a path comes back from its name, in which neither an underscore nor a comma stands
pub record Back (after : Bool) (p : List ℕ) : Type 0 where
  pub snake : snake_case (camel_from after p) ≡ cond after (95 ∷ p) p
  pub no_underscore : has_no_underscore (camel_from after p) ≡ true
  pub no_comma : list_all (λ c. not (eqb c 44)) (camel_from after p) ≡ true

back : (after : Bool) (p : List ℕ) → is_path_from after p ≡ true → Back after p
back true [] h = absurd (cc)
back false [] h = record { snake = refl; no_underscore = refl; no_comma = refl }
back true (c ∷ cs) h =
    let parts = and_parts (is_ascii_lowercase c) (is_path_from (eqb c 95) cs) h in
    let l = letter c parts.0 in
    let rest = back false cs (rw (l.other) at parts.1) in
    record {
      snake = rw (l.other, l.raised, l.upper, l.back) (ap (λ (x : List ℕ). 95 ∷ c ∷ x) rest.snake);
      no_underscore = rw (l.other, l.raised, l.no_underscore) rest.no_underscore;
      no_comma = rw (l.other, l.raised, l.no_comma) rest.no_comma;
    }
back false (c ∷ cs) h =
    let parts = and_parts (not (is_ascii_uppercase c || eqb c 44)) (is_path_from (eqb c 95) cs) h in
    let none = or_parts (is_ascii_uppercase c) (eqb c 44) (not-true (is_ascii_uppercase c || eqb c 44) parts.0) in
    elim (cases_Bool (eqb c 95)) [
      | inl e ↦
          let rest = back true cs (rw e at parts.1) in
          record { snake = rw e (rest.snake ∙ ap (λ (x : ℕ). x ∷ cs) (sym (eqb-true c 95 e))); no_underscore = rw e rest.no_underscore; no_comma = rw e rest.no_comma }
      | inr e ↦
          let rest = back false cs (rw e at parts.1) in
          record {
            snake = rw (e, none.0) (ap (λ (x : List ℕ). c ∷ x) rest.snake);
            no_underscore = rw (e, e) rest.no_underscore;
            no_comma = rw (e, none.1) rest.no_comma;
          }
    ]

some_letters : (name p : List ℕ) → snake_case name ≡ p → 0 < length p → 0 < length name
some_letters [] p e some = absurd (let none = ap length e in omega arith)
some_letters (c ∷ cs) p e some = omega arith

-- a path that may be written
pub record IsWritten (p : List ℕ) : Type 0 where
  pub back : Back false p
  pub some : 0 < length (lower_camel p)
  pub text : is_utf8 p ≡ true

written : (p : List ℕ) → is_path p ≡ true → is_utf8 p ≡ true → IsWritten p
written p h text =
    let parts = and_parts (not (eqb (length p) 0)) (is_path_from false p) h in
    let b = back false p parts.1 in
    let some : 0 < length p = let ne = eqb-false (length p) 0 (not-true (eqb (length p) 0) parts.0) in pos_of_ne-zero ne in
    record { back = b; some = some_letters (lower_camel p) p b.snake some; text = text }

path_back : (p : List ℕ) → IsWritten p → path_of (lower_camel p) ≡ Some p
path_back p w = rw (lt-ltb 0 (length (lower_camel p)) w.some, w.back.no_underscore) (ap as_text w.back.snake ∙ rw (w.text) refl)

-- ---- names between commas

one_name : (name : List ℕ) → list_all (λ c. not (eqb c 44)) name ≡ true → between_commas name ≡ name ∷ []
one_name [] h = refl
one_name (c ∷ cs) h =
    let parts = and_parts (not (eqb c 44)) (list_all (λ x. not (eqb x 44)) cs) h in
    rw (not-true (eqb c 44) parts.0) (ap (onto_first c) (one_name cs parts.1))

then_comma : (name rest : List ℕ) → list_all (λ c. not (eqb c 44)) name ≡ true → between_commas (name ++ 44 ∷ rest) ≡ name ∷ between_commas rest
then_comma [] rest h = refl
then_comma (c ∷ cs) rest h =
    let parts = and_parts (not (eqb c 44)) (list_all (λ x. not (eqb x 44)) cs) h in
    rw (not-true (eqb c 44) parts.0) (ap (onto_first c) (then_comma cs rest parts.1))

abbrev AreWritten : List (List ℕ) → Type 0
AreWritten [] = Unit {0}
AreWritten (p ∷ ps) = IsWritten p × AreWritten ps

all_written : (ps : List (List ℕ)) → are_paths ps ≡ true → list_all is_utf8 ps ≡ true → AreWritten ps
all_written [] h text = tt
all_written (p ∷ ps) h text =
    let a = and_parts (is_path p) (list_all is_path ps) h in
    let b = and_parts (is_utf8 p) (list_all is_utf8 ps) text in
    (written p a.0 b.0, all_written ps a.1 b.1)

names_between : (p : List ℕ) (ps : List (List ℕ)) → IsWritten p → AreWritten ps → between_commas (mask_text (p ∷ ps)) ≡ map lower_camel (p ∷ ps)
names_between p [] w ws = ap between_commas (append-nil (lower_camel p)) ∙ one_name (lower_camel p) w.back.no_comma
names_between p (q ∷ qs) w ws =
    then_comma (lower_camel p) (mask_text (q ∷ qs)) w.back.no_comma ∙ ap (λ (l : List (List ℕ)). lower_camel p ∷ l) (names_between q qs ws.0 ws.1)

paths_back : (ps : List (List ℕ)) → AreWritten ps → paths_of (map lower_camel ps) ≡ Some ps
paths_back [] ws = refl
paths_back (p ∷ ps) ws =
    ap (option_and_then (λ path. option_map (λ rest. path ∷ rest) (paths_of (map lower_camel ps)))) (path_back p ws.0)
    ∙ ap (option_map (λ rest. p ∷ rest)) (paths_back ps ws.1)

pub mask_read : (ps : List (List ℕ)) → are_paths ps ≡ true → list_all is_utf8 ps ≡ true → mask_paths (mask_text ps) ≡ Some ps
mask_read [] h text = refl
mask_read (p ∷ ps) h text =
    let ws = all_written (p ∷ ps) h text in
    let some : eqb (length (mask_text (p ∷ ps))) 0 ≡ false =
    ne_eqb _ 0 (λ e. let long = length-append (lower_camel p) (flat_map (λ q. codes "," ++ lower_camel q) ps) in let w = ws.0.some in omega arith) in
    rw some (ap paths_of (names_between p ps ws.0 ws.1) ∙ paths_back (p ∷ ps) ws)
