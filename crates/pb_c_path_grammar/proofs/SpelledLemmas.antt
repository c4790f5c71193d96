-- Each place that a path spells has a spelling, which is a path to it.
use Rattle.std.proofs.Common.{◌≡◌, ℕ, ℤ, suc, ◌^◌, ◌<◌, ◌⊎◌, Bool, true, false, cond, List, [], ◌∷◌, ◌++◌, length, drop, Option, Some, inl, inr, refl, sym, ap, ◌∙◌, subst, arith, append_assoc, length-append}
use Rattle.std.specs.Prelude.{pos, negsuc, FitsSigned, if◌then◌else◌, ◌==◌, ◌||◌, find, option_map, slice_get}
use Rattle.std.specs.Fmt.{decimal, signed_decimal}
use Rattle.std.specs.Int.{w64}
use Rattle.std.specs.Str.{bytes_eq}
use Rattle.std.proofs.lemmas.Fmt.{decimal_is_IsNumeral}
use Rattle.std.proofs.lemmas.List.{append-nil}
use Rattle.std.proofs.lemmas.Slice.Eq.{bytes_eq-Decides}
use Rattle.pb_schema.specs.Kinds.{message_of_kind}
use Rattle.pb_schema.specs.Scalar.{Scalar}
use Rattle.pb_schema.specs.Tables.{field_named}
use Rattle.pb_schema.specs.Types.{FieldView, Types, field_numbered, message_fields}
use Rattle.pb_schema.specs.declared.types.Kind.{Kind}
use Rattle.pb_schema.specs.declared.types.Kind.TheVariants as kind
use Rattle.pb_schema.specs.declared.types.Shape.{Shape}
use Rattle.pb_schema.specs.declared.types.Shape.TheVariants as shape
use Rattle.pb_c_message.specs.Places.{Step, field}
use Rattle.pb_c_path_grammar.specs.Grammar.{IsSpelledBack, Names, SpellsBool, SpellsInside, SpellsInt32, SpellsInt64, SpellsInteger, SpellsKey, SpellsNumber, SpellsPart, SpellsParts, SpellsPath, SpellsString, SpellsText, SpellsUint32, SpellsUint64, all, escaped, in_brackets, inside, itself, last, message, minus, nothing, one, one_of_many, parts, spelled_key, spelled_steps, spelled_string, unsigned}
use Rattle.pb_c_path_grammar.proofs.PlaceLemmas.{wider}

-- ---- keys

number_spelled : (n : ℕ) → n < 2 ^ 64 → SpellsNumber (decimal n) n
number_spelled n small = decimal_is_IsNumeral n small

integer_spelled : (z : ℤ) → FitsSigned w64 z → SpellsInteger (signed_decimal z) z
integer_spelled (pos n) fits = let small : n < 2 ^ 63 = fits.sfits in unsigned (number_spelled n (omega (arith, small)))
integer_spelled (negsuc n) fits = let small : n < 2 ^ 63 = fits.sfits in minus (number_spelled (suc n) (omega (arith, small)))

string_spelled : (w : List ℕ) → SpellsString (spelled_string w) w
string_spelled [] = nothing
string_spelled (c ∷ cs) = by_mark (c == 34 || c == 92) refl (string_spelled cs)
  where
    by_mark : (b : Bool) → (c == 34 || c == 92) ≡ b → SpellsString (spelled_string cs) cs
        → SpellsString (if b then 92 ∷ c ∷ spelled_string cs else c ∷ spelled_string cs) (c ∷ cs)
    by_mark true is rest = let mark : (c ≡ 34) ⊎ (c ≡ 92) = grind (arith, is) in escaped mark rest
    by_mark false is rest = itself (grind (arith, is)) (grind (arith, is)) rest

int32_spelled : (s : List ℕ) (k : Scalar) → SpellsInt32 s k → SpellsInt32 (spelled_key k) k
int32_spelled s k (z, is, number, fits) =
    subst (λ x. SpellsInt32 (spelled_key x) x) (sym is) (z, refl, integer_spelled z (wider z fits), fits)

int64_spelled : (s : List ℕ) (k : Scalar) → SpellsInt64 s k → SpellsInt64 (spelled_key k) k
int64_spelled s k (z, is, number, fits) = subst (λ x. SpellsInt64 (spelled_key x) x) (sym is) (z, refl, integer_spelled z fits, fits)

uint32_spelled : (s : List ℕ) (k : Scalar) → SpellsUint32 s k → SpellsUint32 (spelled_key k) k
uint32_spelled s k (n, is, number, small) =
    subst (λ x. SpellsUint32 (spelled_key x) x) (sym is) (n, refl, number_spelled n (omega (arith, small)), small)

uint64_spelled : (s : List ℕ) (k : Scalar) → SpellsUint64 s k → SpellsUint64 (spelled_key k) k
uint64_spelled s k (n, is, number, small) = subst (λ x. SpellsUint64 (spelled_key x) x) (sym is) (n, refl, number_spelled n small, small)

bool_spelled : (s : List ℕ) (k : Scalar) → SpellsBool s k → SpellsBool (spelled_key k) k
bool_spelled s k (inl (is, e)) = subst (λ x. SpellsBool (spelled_key x) x) (sym e) (inl (refl, refl))
bool_spelled s k (inr (is, e)) = subst (λ x. SpellsBool (spelled_key x) x) (sym e) (inr (refl, refl))

text_spelled : (s : List ℕ) (k : Scalar) → SpellsText s k → SpellsText (spelled_key k) k
text_spelled s k (body, w, quotes, is, e) = subst (λ x. SpellsText (spelled_key x) x) (sym e) (spelled_string w, w, refl, string_spelled w, refl)

key_spelled : (keys : Kind) (s : List ℕ) (k : Scalar) → SpellsKey keys s k → SpellsKey keys (spelled_key k) k
key_spelled kind.Int32 s k is = int32_spelled s k is
key_spelled kind.Sint32 s k is = int32_spelled s k is
key_spelled kind.Sfixed32 s k is = int32_spelled s k is
key_spelled kind.Int64 s k is = int64_spelled s k is
key_spelled kind.Sint64 s k is = int64_spelled s k is
key_spelled kind.Sfixed64 s k is = int64_spelled s k is
key_spelled kind.Uint32 s k is = uint32_spelled s k is
key_spelled kind.Fixed32 s k is = uint32_spelled s k is
key_spelled kind.Uint64 s k is = uint64_spelled s k is
key_spelled kind.Fixed64 s k is = uint64_spelled s k is
key_spelled kind.Bool s k is = bool_spelled s k is
key_spelled kind.Text s k is = text_spelled s k is
key_spelled kind.Bytes s k is = absurd is
key_spelled kind.Double s k is = absurd is
key_spelled kind.Float s k is = absurd is
key_spelled (kind.Enum x) s k is = absurd is
key_spelled (kind.ClosedEnum x) s k is = absurd is
key_spelled (kind.Message m) s k is = absurd is
key_spelled (kind.Group m) s k is = absurd is

-- ---- parts

pub record IsFound (test : FieldView → Bool) (fs : List FieldView) (g : FieldView) : Type 0 where
  pub place : ℕ
  pub there : slice_get fs place ≡ Some g
  pub passes : test g ≡ true

-- what is found passes the test, and has a place
pub found_is : (test : FieldView → Bool) (fs : List FieldView) (g : FieldView) → find test fs ≡ Some g → IsFound test fs g
found_is test [] g e = absurd (cc)
found_is test (f ∷ fs) g e = by_test (test f) refl (found_is test fs g) e
  where
    by_test : (b : Bool) → test f ≡ b → (find test fs ≡ Some g → IsFound test fs g) → cond b (Some f) (find test fs) ≡ Some g → IsFound test (f ∷ fs) g
    by_test true is next e = let same : f ≡ g = cc in record { place = 0; there = e; passes = subst (λ (h : FieldView). test h ≡ true) same is }
    by_test false is next e = let later = next e in record { place = suc later.place; there = later.there; passes = later.passes }

name_same : (pool : Types) (m : ℕ) (w : List ℕ) (f : FieldView) → Names pool m w f → f.name ≡ w
name_same pool m w f is =
    let found = found_is (λ g. bytes_eq g.name w) (message_fields pool m) f is.found in (bytes_eq-Decides f.name w).0 found.passes

-- in a pool the field of a name is that of its number
abbrev pub NumbersFind : Types → Type 0
NumbersFind pool = (m : ℕ) (w : List ℕ) (f : FieldView) → field_named w (message_fields pool m) ≡ Some f → field_numbered f.number (message_fields pool m) ≡ Some f

-- the steps of parts are spelled after a dot
record IsSpelledAfter (pool : Types) (m : ℕ) (ss : List Step) : Type 0 where
  path : List ℕ
  written : spelled_steps pool (Some m) ss ≡ Some (46 ∷ path)
  read : SpellsParts pool m path ss

module _ (pool : Types) (numbers : NumbersFind pool) where
  first_spelled : (m : ℕ) (w : List ℕ) (f : FieldView) (ss : List Step) (q : List ℕ) → Names pool m w f
      → spelled_steps pool (message_of_kind f.kind) ss ≡ Some q → spelled_steps pool (Some m) (field f.number ∷ ss) ≡ Some (46 ∷ (w ++ q))
  first_spelled m w f ss q is rest =
      rw (numbers m w f is.found) (rw rest (ap (λ (p : List ℕ). Some (46 ∷ (p ++ q))) (name_same pool m w f is)))

  record IsBracket (h : Shape) (o : Option ℕ) (x : Step) : Type 0 where
    s : List ℕ
    spells : SpellsInside h s x
    written : (ss : List Step) (q : List ℕ) → spelled_steps pool o ss ≡ Some q → spelled_steps pool o (x ∷ ss) ≡ Some (in_brackets s ++ q)

  bracket_spelled : (h : Shape) (o : Option ℕ) (s : List ℕ) (x : Step) → SpellsInside h s x → IsBracket h o x
  bracket_spelled (shape.List packed) o s x (n, is, number, small) =
      subst (IsBracket (shape.List packed) o) (sym is)
      (record { s = decimal n; spells = (n, refl, number_spelled n small, small); written = λ ss q e. ap (option_map (λ p. in_brackets (decimal n) ++ p)) e })
  bracket_spelled (shape.Map keys) o s x (k, is, spells) =
      subst (IsBracket (shape.Map keys) o) (sym is)
      (record { s = spelled_key k; spells = (k, refl, key_spelled keys s k spells); written = λ ss q e. ap (option_map (λ p. in_brackets (spelled_key k) ++ p)) e })
  bracket_spelled shape.Implicit o s x is = absurd is
  bracket_spelled shape.Explicit o s x is = absurd is
  bracket_spelled (shape.OneofMember o') o s x is = absurd is

  record IsPartSpelled (m : ℕ) (k : Kind) (ss : List Step) : Type 0 where
    p : List ℕ
    spells : SpellsPart pool m p ss k
    written : (ts : List Step) (q : List ℕ) → spelled_steps pool (message_of_kind k) ts ≡ Some q → spelled_steps pool (Some m) (ss ++ ts) ≡ Some (46 ∷ (p ++ q))

  part_spelled : (m : ℕ) {p : List ℕ} {ss : List Step} {k : Kind} → SpellsPart pool m p ss k → IsPartSpelled m k ss
  part_spelled m (one {w = w} {f = f} is single) = record { p = w; spells = one is single; written = λ ts q e. first_spelled m w f ts q is e }
  part_spelled m (one_of_many {w = w} {f = f} s x is spells) =
      let b = bracket_spelled f.shape (message_of_kind f.kind) s x spells in
      record {
        p = w ++ in_brackets b.s;
        spells = one_of_many b.s x is b.spells;
        written = λ ts q e.
            first_spelled m w f (x ∷ ts) (in_brackets b.s ++ q) is (b.written ts q e)
            ∙ ap (λ (p : List ℕ). Some (46 ∷ p)) (sym (append_assoc w (in_brackets b.s) q));
      }

  parts_spelled : {m : ℕ} {p : List ℕ} {ss : List Step} → SpellsParts pool m p ss → IsSpelledAfter pool m ss
  parts_spelled (all {m = m} {w = w} {f = f} is many) = record {
    path = w;
    written = first_spelled m w f [] [] is refl ∙ ap (λ (p : List ℕ). Some (46 ∷ p)) (append-nil w);
    read = all is many;
  }
  parts_spelled (last {m = m} {ss = ss} part) =
      let r = part_spelled m part in
      record {
        path = r.p;
        written = ap (λ (xs : List Step). spelled_steps pool (Some m) xs) (sym (append-nil ss)) ∙ r.written [] [] refl ∙ ap (λ (p : List ℕ). Some (46 ∷ p)) (append-nil r.p);
        read = last r.spells;
      }
  parts_spelled (inside {m = m} {n = n} {ss = ss} {ts = ts} {k = k} part to rest) =
      let r = part_spelled m part in let i = parts_spelled rest in
      record {
        path = r.p ++ (46 ∷ i.path);
        written = r.written ts (46 ∷ i.path) (ap (λ o. spelled_steps pool o ts) to ∙ i.written);
        read = inside r.spells to i.read;
      }

-- ---- paths

-- no field has an empty name
abbrev pub NamesSome : Types → Type 0
NamesSome pool = (m : ℕ) (w : List ℕ) (f : FieldView) → field_named w (message_fields pool m) ≡ Some f → 0 < length w

parts_some : (pool : Types) {m : ℕ} {p : List ℕ} {ss : List Step} → NamesSome pool → SpellsParts pool m p ss → 0 < length p
parts_some pool names (all {m = m} {w = w} {f = f} is many) = names m w f is.found
parts_some pool names (last {m = m} {p = p} part) = of_part part
  where
    of_part : {q : List ℕ} {ss : List Step} {k : Kind} → SpellsPart pool m q ss k → 0 < length q
    of_part (one {w = w} {f = f} is single) = names m w f is.found
    of_part (one_of_many {w = w} s x is spells) = omega (arith, length-append w (in_brackets s))
parts_some pool names (inside {p = p} {q = q} part to rest) = omega (arith, length-append p (46 ∷ q))

pub spelled_back : (pool : Types) (m : ℕ) {p : List ℕ} {ss : List Step} → NumbersFind pool → NamesSome pool → SpellsPath pool m p ss → IsSpelledBack pool m ss
spelled_back pool m numbers names message = record { path = []; written = refl; read = message }
spelled_back pool m {ss = ss} numbers names (parts is) =
    let r = parts_spelled pool numbers is in
    record { path = r.path; written = ap (option_map (drop 1)) r.written; read = by_path r.path (parts_some pool names r.read) r.read }
  where
    by_path : (q : List ℕ) → 0 < length q → SpellsParts pool m q ss → SpellsPath pool m q ss
    by_path [] some read = absurd (omega arith)
    by_path (c ∷ q) some read = parts read
