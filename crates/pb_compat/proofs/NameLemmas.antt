-- The full names of a pool's types are ASCII, and so UTF-8. (pb_link has the same lemmas; pb_schema, below both, would be their place.)
use Rattle.std.proofs.Common.{◌≡◌, ℕ, zero, suc, ◌<◌, List, [], ◌∷◌, ◌++◌, Bool, true, false, ◌&&◌, ◌||◌, ◌==◌, map, length, refl, sym, ap, ◌∙◌, subst, arith, Option, Some, None}
use Rattle.std.specs.Prelude.{slice_get, IsTrue, IsAscii, IsUtf8}
use Rattle.std.specs.List.{AllByRecursion, list_all}
use Rattle.std.specs.Char.{is_ascii_alphabetic, is_ascii_digit}
use Rattle.std.specs.Int.{is_in_range}
use Rattle.std.proofs.lemmas.Bool.{false≢true}
use Rattle.std.proofs.lemmas.Bool.Decides.{nat_tests}
use Rattle.std.proofs.lemmas.Option.{none-some}
use Rattle.std.proofs.lemmas.Str.{IsUtf8-from_ascii}
use Rattle.pb_schema.specs.Types.{MessageView, FileView, Types}
use Rattle.pb_schema.specs.Nesting.{parent_of}
use Rattle.pb_schema.specs.Names.{begins_word, continues_word, is_word, onto_first, onto_parts, parts_of, is_package, in_scope, package_of, name_in, file_at, scope_within, scope_of, message_name, enum_name, message_names, enum_names}
use Rattle.pb_schema.specs.Rules.{IsPool, PackagesAreWords, MessageIsOfWords, MessageNamesAreWords, EnumIsOfWords}

some_same : {A : Type 0} (a b : A) → Some a ≡ Some b → a ≡ b
some_same a b h = cc

and_left : (a b : Bool) → (a && b) ≡ true → a ≡ true
and_left true b h = refl
and_left false b h = h

and_right : (a b : Bool) → (a && b) ≡ true → b ≡ true
and_right true b h = h
and_right false b h = absurd (false≢true h)

or_left : (a b : Bool) → a ≡ true → (a || b) ≡ true
or_left a b h = ap (λ x. x || b) h

abbrev pub AreAscii : List ℕ → Type 0
AreAscii bs = AllByRecursion (λ c. c < 128) bs

pub is_ascii : (bs : List ℕ) → AreAscii bs → IsAscii bs
is_ascii [] all i = omega arith
is_ascii (c ∷ cs) all zero = all.0
is_ascii (c ∷ cs) all (suc i) = is_ascii cs all.1 i

ascii_append : (xs ys : List ℕ) → AreAscii xs → AreAscii ys → AreAscii (xs ++ ys)
ascii_append [] ys first second = second
ascii_append (c ∷ xs) ys first second = (first.0, ascii_append xs ys first.1 second)

below : (a b c : ℕ) → b < 128 → is_in_range a b c ≡ true → c < 128
below a b c h e = grind (arith, nat_tests)

continues_less : (c : ℕ) → continues_word c ≡ true → c < 128
continues_less c h = by_or (begins_word c) (is_ascii_digit c) refl refl h
  where
    by_line : (a b : Bool) → is_ascii_alphabetic c ≡ a → (c == 95) ≡ b → (a || b) ≡ true → c < 128
    by_line true b letter line e = by_letter (is_in_range 65 90 c) (is_in_range 97 122 c) refl refl letter
      where
        by_letter : (x y : Bool) → is_in_range 65 90 c ≡ x → is_in_range 97 122 c ≡ y → (x || y) ≡ true → c < 128
        by_letter true y great small t = below 65 90 c (omega arith) great
        by_letter false true great small t = below 97 122 c (omega arith) small
        by_letter false false great small t = absurd (false≢true t)
    by_line false true letter line e = let same : c ≡ 95 = grind (arith, nat_tests) in omega (arith, same)
    by_line false false letter line e = absurd (false≢true e)

    by_or : (a b : Bool) → begins_word c ≡ a → is_ascii_digit c ≡ b → (a || b) ≡ true → c < 128
    by_or true b begins digit e = by_line (is_ascii_alphabetic c) (c == 95) refl refl begins
    by_or false true begins digit e = below 48 57 c (omega arith) digit
    by_or false false begins digit e = absurd (false≢true e)

all_continue : (cs : List ℕ) → list_all continues_word cs ≡ true → AreAscii cs
all_continue [] h = tt
all_continue (c ∷ cs) h = (continues_less c (and_left (continues_word c) (list_all continues_word cs) h), all_continue cs (and_right (continues_word c) (list_all continues_word cs) h))

word_continues : (w : List ℕ) → is_word w ≡ true → list_all continues_word w ≡ true
word_continues [] h = refl
word_continues (c ∷ cs) h =
    let begins : begins_word c ≡ true = and_left (begins_word c) (list_all continues_word cs) h in
    ap (λ b. b && list_all continues_word cs) (or_left (begins_word c) (is_ascii_digit c) begins) ∙ and_right (begins_word c) (list_all continues_word cs) h

word_is_ascii : (w : List ℕ) → IsTrue (is_word w) → AreAscii w
word_is_ascii w h = all_continue w (word_continues w h)

-- PACKAGES

abbrev Continue : List (List ℕ) → Bool
Continue ps = list_all (λ w. list_all continues_word w) ps

words_continue : (ps : List (List ℕ)) → list_all is_word ps ≡ true → Continue ps ≡ true
words_continue [] h = refl
words_continue (p ∷ ps) h = ap (λ b. b && Continue ps) (word_continues p (and_left (is_word p) (list_all is_word ps) h)) ∙ words_continue ps (and_right (is_word p) (list_all is_word ps) h)

first_continues : (c : ℕ) (ps : List (List ℕ)) → Continue (onto_first c ps) ≡ true → (continues_word c ≡ true) × (Continue ps ≡ true)
first_continues c [] h = (and_left (continues_word c) true (and_left (continues_word c && true) true h), refl)
first_continues c (s ∷ ss) h =
    let front = and_left (continues_word c && list_all continues_word s) (Continue ss) h in
    (and_left (continues_word c) (list_all continues_word s) front, ap (λ b. b && Continue ss) (and_right (continues_word c) (list_all continues_word s) front) ∙ and_right (continues_word c && list_all continues_word s) (Continue ss) h)

parts_ascii : (cs : List ℕ) → Continue (parts_of cs) ≡ true → AreAscii cs
parts_ascii [] h = tt
parts_ascii (c ∷ cs) h = by_dot (c == 46) refl h (λ e. parts_ascii cs e)
  where
    by_dot : (b : Bool) → (c == 46) ≡ b → Continue (onto_parts b c (parts_of cs)) ≡ true → (Continue (parts_of cs) ≡ true → AreAscii cs) → AreAscii (c ∷ cs)
    by_dot true dot e rest = (let same : c ≡ 46 = grind (arith, nat_tests) in omega (arith, same), rest e)
    by_dot false dot e rest = let both = first_continues c (parts_of cs) e in (continues_less c both.0, rest both.1)

package_ascii : (p : List ℕ) → IsTrue (is_package p) → AreAscii p
package_ascii [] h = tt
package_ascii (c ∷ cs) h = parts_ascii (c ∷ cs) (words_continue (parts_of (c ∷ cs)) h)

-- FULL NAMES

scope_ascii : (scope name : List ℕ) → AreAscii scope → AreAscii name → AreAscii (in_scope scope name)
scope_ascii [] name first second = second
scope_ascii (c ∷ cs) name first second = ascii_append (c ∷ cs) (46 ∷ name) first (omega arith, second)

all_get : {X : Type 0} (P : X → Type 0) (xs : List X) (i : ℕ) (x : X) → AllByRecursion P xs → slice_get xs i ≡ Some x → P x
all_get P [] i x all h = absurd (none-some x h)
all_get P (y ∷ xs) zero x all h = subst P (some_same y x h) all.0
all_get P (y ∷ xs) (suc i) x all h = all_get P xs i x all.1 h

package_at : (files : List FileView) (i : ℕ) → PackagesAreWords files → AreAscii (package_of files i)
package_at files i words = by_file (slice_get files i) refl
  where
    package_by : Option FileView → List ℕ
    package_by None = []
    package_by (Some f) = f.package_name

    by_file : (o : Option FileView) → slice_get files i ≡ o → AreAscii (package_of files i)
    by_file None is = subst (λ o. AreAscii (package_by o)) (sym is) tt
    by_file (Some f) is = subst (λ o. AreAscii (package_by o)) (sym is) (package_ascii f.package_name (all_get (λ g. IsTrue (is_package g.package_name)) files i f words is))

name_ascii : (scope : List ℕ) (o : Option MessageView) (ms : List MessageView) (i : ℕ) → slice_get ms i ≡ o → MessageNamesAreWords ms → AreAscii scope → AreAscii (name_in scope o)
name_ascii scope None ms i is words all = tt
name_ascii scope (Some t) ms i is words all = scope_ascii scope t.name all (word_is_ascii t.name (all_get MessageIsOfWords ms i t words is).0)

within_ascii : (levels : ℕ) (files : List FileView) (ms : List MessageView) (file : ℕ) (o : Option ℕ) → PackagesAreWords files → MessageNamesAreWords ms → AreAscii (scope_within levels files ms file o)
within_ascii zero files ms file None packages words = package_at files file packages
within_ascii zero files ms file (Some p) packages words = tt
within_ascii (suc levels) files ms file None packages words = package_at files file packages
within_ascii (suc levels) files ms file (Some p) packages words =
    name_ascii (scope_within levels files ms (file_at ms p) (parent_of ms p)) (slice_get ms p) ms p refl words (within_ascii levels files ms (file_at ms p) (parent_of ms p) packages words)

get_mapped : {X Y : Type 0} (g : X → Y) (P : Y → Type 0) (Q : X → Type 0) (xs : List X) → AllByRecursion Q xs → ((x : X) → Q x → P (g x)) → (i : ℕ) (y : Y) → slice_get (map g xs) i ≡ Some y → P y
get_mapped g P Q [] all give i y h = absurd (none-some y h)
get_mapped g P Q (x ∷ xs) all give zero y h = subst P (some_same (g x) y h) (give x all.0)
get_mapped g P Q (x ∷ xs) all give (suc i) y h = get_mapped g P Q xs all.1 give i y h

message_name_ascii : (ts : Types) → IsPool ts → (i : ℕ) (n : List ℕ) → slice_get (message_names ts) i ≡ Some n → IsAscii n
message_name_ascii ts pool i n h = is_ascii n (get_mapped (message_name ts.files ts.messages) AreAscii MessageIsOfWords ts.messages pool.names.message_words (λ t word. scope_ascii (scope_of ts.files ts.messages t.file t.parent) t.name (within_ascii (length ts.messages) ts.files ts.messages t.file t.parent pool.files.packages pool.names.message_words) (word_is_ascii t.name word.0)) i n h)

enum_name_ascii : (ts : Types) → IsPool ts → (i : ℕ) (n : List ℕ) → slice_get (enum_names ts) i ≡ Some n → IsAscii n
enum_name_ascii ts pool i n h = is_ascii n (get_mapped (enum_name ts.files ts.messages) AreAscii EnumIsOfWords ts.enums pool.names.enum_words (λ e word. scope_ascii (scope_of ts.files ts.messages e.file e.parent) e.name (within_ascii (length ts.messages) ts.files ts.messages e.file e.parent pool.files.packages pool.names.message_words) (word_is_ascii e.name word.0)) i n h)

pub message_name_is_text : (ts : Types) → IsPool ts → (i : ℕ) (n : List ℕ) → slice_get (message_names ts) i ≡ Some n → IsUtf8 n
message_name_is_text ts pool i n h = IsUtf8-from_ascii n (message_name_ascii ts pool i n h)

pub enum_name_is_text : (ts : Types) → IsPool ts → (i : ℕ) (n : List ℕ) → slice_get (enum_names ts) i ≡ Some n → IsUtf8 n
enum_name_is_text ts pool i n h = IsUtf8-from_ascii n (enum_name_ascii ts pool i n h)
