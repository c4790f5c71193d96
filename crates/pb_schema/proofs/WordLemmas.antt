-- A package's name, read from some byte on.
use Rattle.std.proofs.Common.{◌≡◌, ℕ, ◌+◌, ◌<◌, List, [], ◌∷◌, Bool, true, false, not, ◌&&◌, ◌==◌, if◌then◌else◌, refl, length, get_or, drop, ◌∙◌}
use Rattle.std.specs.List.{list_all}
use Rattle.std.proofs.lemmas.List.{at_drop_more}
use Rattle.pb_schema.specs.Names.{begins_word, continues_word, is_word, onto_first, onto_parts, parts_of, may_stand}

-- the first part goes on with a word, and the others are words
abbrev continued : List (List ℕ) → Bool
continued [] = true
continued (s ∷ ss) = list_all continues_word s && list_all is_word ss

-- the parts pass, where a word begins or goes on
abbrev parts_pass : Bool → List (List ℕ) → Bool
parts_pass true ps = list_all is_word ps
parts_pass false ps = continued ps

-- the rest of a package's name passes
abbrev pub rest_passes : Bool → List ℕ → Bool
rest_passes at_start bs = parts_pass at_start (parts_of bs)

and_assoc : (a b c : Bool) → ((a && b) && c) ≡ (a && (b && c))
and_assoc true b c = refl
and_assoc false b c = refl

begun : (c : ℕ) (ps : List (List ℕ)) → list_all is_word (onto_first c ps) ≡ (begins_word c && continued ps)
begun c [] = and_assoc (begins_word c) true true
begun c (s ∷ ss) = and_assoc (begins_word c) (list_all continues_word s) (list_all is_word ss)

gone_on : (c : ℕ) (ps : List (List ℕ)) → continued (onto_first c ps) ≡ (continues_word c && continued ps)
gone_on c [] = and_assoc (continues_word c) true true
gone_on c (s ∷ ss) = and_assoc (continues_word c) (list_all continues_word s) (list_all is_word ss)

by_dot : (dot at_start : Bool) (c : ℕ) (ps : List (List ℕ)) → parts_pass at_start (onto_parts dot c ps) ≡ ((if dot then not at_start else (if at_start then begins_word c else continues_word c)) && parts_pass dot ps)
by_dot true true c ps = refl
by_dot true false c ps = refl
by_dot false true c ps = begun c ps
by_dot false false c ps = gone_on c ps

pub rest_passes-drop : (at_start : Bool) (bs : List ℕ) (i : ℕ) → i < length bs → rest_passes at_start (drop i bs) ≡ (may_stand at_start (get_or bs i 0) && rest_passes (get_or bs i 0 == 46) (drop (i + 1) bs))
rest_passes-drop at_start bs i h = at_drop_more (rest_passes at_start) bs i 0 h ∙ by_dot (get_or bs i 0 == 46) at_start (get_or bs i 0) (parts_of (drop (i + 1) bs))
