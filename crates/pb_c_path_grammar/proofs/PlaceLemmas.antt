-- A path spells one place: the steps of C say which steps they are of.
use Rattle.std.proofs.Common.{◌≡◌, ℕ, ℤ, ◌+◌, ◌^◌, ◌<◌, true, false, List, [], ◌∷◌, ◌++◌, length, map, take, drop, Ok, inl, inr, refl, sym, ap, ap₂, ◌∙◌, subst, arith}
use Rattle.std.specs.Prelude.{pos, negsuc, FitsSigned, if◌then◌else◌, ◌==◌}
use Rattle.std.specs.Int.{cast_signed, w32, w64}
use Rattle.std.specs.List.{concat}
use Rattle.std.proofs.Math.Seq.{drop-append_seam, take-append_seam}
use Rattle.std.proofs.lemmas.Int.{to_z-of_z}
use Rattle.pb_schema.specs.Scalar.{Scalar, int32, int64, uint32, uint64, boolean, float, double, enum, text, bytes}
use Rattle.pb_schema.specs.Types.{Types}
use Rattle.pb_schema.specs.declared.types.Kind.{Kind}
use Rattle.pb_schema.specs.declared.types.Kind.TheVariants as kind
use Rattle.pb_schema.specs.declared.types.Shape.{Shape}
use Rattle.pb_schema.specs.declared.types.Shape.TheVariants as shape
use Rattle.pb_c_message.specs.Places.{Step, field, index, key}
use Rattle.pb_c_message.specs.declared.value.PlainValue.{PlainValue}
use Rattle.pb_c_path_grammar.specs.Grammar.{SpellsInside, SpellsInt32, SpellsInt64, SpellsKey, SpellsPart, SpellsParts, SpellsPath, SpellsText, SpellsUint32, SpellsUint64, SpellsBool, all, inside, last, message, one, one_of_many, parts, plain_step, plain_steps, string_of, strings_of}
use Rattle.pb_c_path_grammar.proofs.ReadLemmas.{path_reads}

-- a key that a step has
abbrev IsKey : Scalar → Type 0
IsKey (int32 z) = FitsSigned w64 z
IsKey (int64 z) = FitsSigned w64 z
IsKey (uint32 n) = Unit {0}
IsKey (uint64 n) = Unit {0}
IsKey (boolean b) = Unit {0}
IsKey (text w) = Unit {0}
IsKey (float n) = ⊥
IsKey (double n) = ⊥
IsKey (enum z) = ⊥
IsKey (bytes w) = ⊥

abbrev IsStep : Step → Type 0
IsStep (field n) = Unit {0}
IsStep (index n) = Unit {0}
IsStep (key k) = IsKey k

abbrev AreSteps : List Step → Type 0
AreSteps [] = Unit {0}
AreSteps (s ∷ ss) = IsStep s × AreSteps ss

-- ---- what a path spells are steps

pub wider : (z : ℤ) → FitsSigned w32 z → FitsSigned w64 z
wider (pos n) fits = let small : n < 2 ^ 31 = fits.sfits in let wide : n < 2 ^ 63 = omega (arith, small) in record { sfits = wide }
wider (negsuc n) fits = let small : n < 2 ^ 31 = fits.sfits in let wide : n < 2 ^ 63 = omega (arith, small) in record { sfits = wide }

int32_is : (s : List ℕ) (k : Scalar) → SpellsInt32 s k → IsKey k
int32_is s k is = subst IsKey (sym is.1) (wider is.0 is.3)

int64_is : (s : List ℕ) (k : Scalar) → SpellsInt64 s k → IsKey k
int64_is s k is = subst IsKey (sym is.1) is.3

uint32_is : (s : List ℕ) (k : Scalar) → SpellsUint32 s k → IsKey k
uint32_is s k is = subst IsKey (sym is.1) tt

uint64_is : (s : List ℕ) (k : Scalar) → SpellsUint64 s k → IsKey k
uint64_is s k is = subst IsKey (sym is.1) tt

bool_is : (s : List ℕ) (k : Scalar) → SpellsBool s k → IsKey k
bool_is s k (inl (is, e)) = subst IsKey (sym e) tt
bool_is s k (inr (is, e)) = subst IsKey (sym e) tt

text_is : (s : List ℕ) (k : Scalar) → SpellsText s k → IsKey k
text_is s k is = subst IsKey (sym is.4) tt

key_is : (keys : Kind) (s : List ℕ) (k : Scalar) → SpellsKey keys s k → IsKey k
key_is kind.Int32 s k is = int32_is s k is
key_is kind.Sint32 s k is = int32_is s k is
key_is kind.Sfixed32 s k is = int32_is s k is
key_is kind.Int64 s k is = int64_is s k is
key_is kind.Sint64 s k is = int64_is s k is
key_is kind.Sfixed64 s k is = int64_is s k is
key_is kind.Uint32 s k is = uint32_is s k is
key_is kind.Fixed32 s k is = uint32_is s k is
key_is kind.Uint64 s k is = uint64_is s k is
key_is kind.Fixed64 s k is = uint64_is s k is
key_is kind.Bool s k is = bool_is s k is
key_is kind.Text s k is = text_is s k is
key_is kind.Bytes s k is = absurd is
key_is kind.Double s k is = absurd is
key_is kind.Float s k is = absurd is
key_is (kind.Enum x) s k is = absurd is
key_is (kind.ClosedEnum x) s k is = absurd is
key_is (kind.Message m) s k is = absurd is
key_is (kind.Group m) s k is = absurd is

inside_is : (h : Shape) (s : List ℕ) (t : Step) → SpellsInside h s t → IsStep t
inside_is (shape.List packed) s t is = subst IsStep (sym is.1) tt
inside_is (shape.Map keys) s t is = subst IsStep (sym is.1) (key_is keys s is.0 is.2)
inside_is shape.Implicit s t is = absurd is
inside_is shape.Explicit s t is = absurd is
inside_is (shape.OneofMember o) s t is = absurd is

both_steps : (ss ts : List Step) → AreSteps ss → AreSteps ts → AreSteps (ss ++ ts)
both_steps [] ts a b = b
both_steps (s ∷ ss) ts a b = (a.0, both_steps ss ts a.1 b)

part_is : (pool : Types) (m : ℕ) {p : List ℕ} {ss : List Step} {k : Kind} → SpellsPart pool m p ss k → AreSteps ss
part_is pool m (one is single) = (tt, tt)
part_is pool m (one_of_many {f = f} s t is spelled) = (tt, (inside_is f.shape s t spelled, tt))

parts_are : (pool : Types) {m : ℕ} {p : List ℕ} {ss : List Step} → SpellsParts pool m p ss → AreSteps ss
parts_are pool (all is many) = (tt, tt)
parts_are pool (last {m = m} part) = part_is pool m part
parts_are pool (inside {m = m} {ss = ss} {ts = ts} part to rest) = both_steps ss ts (part_is pool m part) (parts_are pool rest)

path_is : (pool : Types) (m : ℕ) {p : List ℕ} {ss : List Step} → SpellsPath pool m p ss → AreSteps ss
path_is pool m message = tt
path_is pool m (parts is) = parts_are pool is

-- ---- and these are read back

abbrev number_step : ℕ → ℕ → Step
number_step k n =
    if k == 21 then field n else
    (if k == 22 then index n else
    (if k == 5 then key (int32 (cast_signed w64 n)) else
    (if k == 3 then key (int64 (cast_signed w64 n)) else
    (if k == 13 then key (uint32 n) else
    (if k == 4 then key (uint64 n) else key (boolean (n == 1)))))))

abbrev steps_back : List PlainValue → List ℕ → List ℕ → List Step
steps_back [] l t = []
steps_back (v ∷ vs) [] t = number_step v.kind v.number ∷ steps_back vs [] t
steps_back (v ∷ vs) (n ∷ l) t =
    if v.kind == 9 then key (text (take n t)) ∷ steps_back vs l (drop n t) else number_step v.kind v.number ∷ steps_back vs (n ∷ l) t

-- a step that is no string
number_back : (v : PlainValue) (vs : List PlainValue) (l t : List ℕ) → (v.kind == 9) ≡ false
    → steps_back (v ∷ vs) l t ≡ number_step v.kind v.number ∷ steps_back vs l t
number_back v vs [] t e = refl
number_back v vs (n ∷ l) t e = rw e refl

abbrev all_back : ℕ → List Step → List Step
all_back i ss = steps_back (plain_steps i ss) (map length (strings_of ss)) (concat (strings_of ss))

step_more : (s : Step) (i : ℕ) (ss : List Step) → string_of s ≡ [] → ((plain_step i s).kind == 9) ≡ false
    → number_step (plain_step i s).kind (plain_step i s).number ≡ s → all_back (length (string_of s) + i) ss ≡ ss → all_back i (s ∷ ss) ≡ s ∷ ss
step_more s i ss none number same later =
    ap (λ (xs : List (List ℕ)). steps_back (plain_steps i (s ∷ ss)) (map length (xs ++ strings_of ss)) (concat (xs ++ strings_of ss))) none
    ∙ number_back (plain_step i s) (plain_steps (length (string_of s) + i) ss) (map length (strings_of ss)) (concat (strings_of ss)) number
    ∙ ap₂ (λ (x : Step) (xs : List Step). x ∷ xs) same later

back_is : (ss : List Step) (i : ℕ) → AreSteps ss → all_back i ss ≡ ss
back_is [] i is = refl
back_is (field n ∷ ss) i is = step_more (field n) i ss refl refl refl (back_is ss _ is.1)
back_is (index n ∷ ss) i is = step_more (index n) i ss refl refl refl (back_is ss _ is.1)
back_is (key (int32 z) ∷ ss) i is = step_more (key (int32 z)) i ss refl refl (ap (λ y. key (int32 y)) (to_z-of_z w64 z is.0)) (back_is ss _ is.1)
back_is (key (int64 z) ∷ ss) i is = step_more (key (int64 z)) i ss refl refl (ap (λ y. key (int64 y)) (to_z-of_z w64 z is.0)) (back_is ss _ is.1)
back_is (key (uint32 n) ∷ ss) i is = step_more (key (uint32 n)) i ss refl refl refl (back_is ss _ is.1)
back_is (key (uint64 n) ∷ ss) i is = step_more (key (uint64 n)) i ss refl refl refl (back_is ss _ is.1)
back_is (key (boolean true) ∷ ss) i is = step_more (key (boolean true)) i ss refl refl refl (back_is ss _ is.1)
back_is (key (boolean false) ∷ ss) i is = step_more (key (boolean false)) i ss refl refl refl (back_is ss _ is.1)
back_is (key (text w) ∷ ss) i is =
    ap₂ (λ (x : List ℕ) (y : List ℕ). key (text x) ∷ steps_back (plain_steps (1 + i) ss) (map length (strings_of ss)) y)
    (take-append_seam w (concat (strings_of ss))) (drop-append_seam w (concat (strings_of ss)))
    ∙ ap (λ (xs : List Step). key (text w) ∷ xs) (back_is ss (1 + i) is.1)
back_is (key (float n) ∷ ss) i is = absurd is.0
back_is (key (double n) ∷ ss) i is = absurd is.0
back_is (key (enum z) ∷ ss) i is = absurd is.0
back_is (key (bytes w) ∷ ss) i is = absurd is.0

-- the steps that hold what was read are one list
pub one_place : (pool : Types) (m : ℕ) {path : List ℕ} {ss ts : List Step} → SpellsPath pool m path ss → SpellsPath pool m path ts → ss ≡ ts
one_place pool m {ss = ss} {ts = ts} p q =
    let r = path_reads pool m p in let s = path_reads pool m q in
    let same : r.read ≡ s.read = let e : ◌≡◌ {A = _} (Ok r.read) (Ok s.read) = sym r.comes ∙ s.comes in cc in
    let steps : plain_steps 0 ss ≡ plain_steps 0 ts = sym r.holds.steps ∙ ap (λ x. x.steps) same ∙ s.holds.steps in
    let lengths : map length (strings_of ss) ≡ map length (strings_of ts) = sym r.holds.lengths ∙ ap (λ x. x.lengths) same ∙ s.holds.lengths in
    let strings : concat (strings_of ss) ≡ concat (strings_of ts) = sym r.holds.strings ∙ ap (λ x. x.strings) same ∙ s.holds.strings in
    sym (back_is ss 0 (path_is pool m p))
    ∙ ap₂ (λ (v : List PlainValue) (l : List ℕ). steps_back v l (concat (strings_of ss))) steps lengths
    ∙ ap (λ (t : List ℕ). steps_back (plain_steps 0 ts) (map length (strings_of ts)) t) strings
    ∙ back_is ts 0 (path_is pool m q)
