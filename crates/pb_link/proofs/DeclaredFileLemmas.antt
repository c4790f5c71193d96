-- The declarations of a pool's types make its files again.
use Rattle.std.proofs.Common.{◌≡◌, ◌≢◌, ℕ, zero, suc, ◌+◌, ◌<◌, List, [], ◌∷◌, Bool, true, false, not, map, length, cond, refl, sym, ap, ◌∙◌, subst, arith, Some, None}
use Rattle.std.specs.Prelude.{slice_get, filter_map, nat_lt}
use Rattle.std.specs.List.{AllByRecursion, enumerate_from, cons_option, position_or_len}
use Rattle.std.specs.Str.{bytes_eq}
use Rattle.std.proofs.lemmas.Bool.Decides.{nat_tests}
use Rattle.std.proofs.lemmas.Option.{none-some}
use Rattle.std.proofs.lemmas.Slice.Eq.{bytes_eq-Decides}
use Rattle.pb_schema.specs.Types.{FileView, Types}
use Rattle.pb_schema.specs.Names.{AllDiffer}
use Rattle.pb_schema.specs.Rules.{IsPool}
use Rattle.pb_schema.proofs.NameTreeLemmas.{name_at-get}
use Rattle.pb_declarations.specs.Decls.{DeclaredFile}
use Rattle.pb_link_names.specs.Sees.{file_named, file_of, files_of}
use Rattle.pb_link.specs.ToDecls.{file_name, declared_file, decls_of}

some_same : {A : Type 0} (a b : A) → Some a ≡ Some b → a ≡ b
some_same a b h = cc

all_at : {X Y : Type 0} (P : Y → Type 0) (g : X → Y) (xs : List X) (i : ℕ) (x : X) → AllByRecursion P (map g xs) → slice_get xs i ≡ Some x → P (g x)
all_at P g [] i x all h = absurd (none-some x h)
all_at P g (y ∷ xs) zero x all h = subst (λ z. P (g z)) (some_same y x h) all.0
all_at P g (y ∷ xs) (suc i) x all h = all_at P g xs i x all.1 h

abbrev name_of : FileView → List ℕ
name_of f = f.name

same_name : (a b : List ℕ) → a ≡ b → bytes_eq a b ≡ true
same_name a b e = (bytes_eq-Decides a b).1 e

other_name : (a b : List ℕ) → a ≢ b → bytes_eq a b ≡ false
other_name a b ne = by (bytes_eq a b) (bytes_eq-Decides a b).0
  where
    by : (t : Bool) → (t ≡ true → a ≡ b) → t ≡ false
    by true is = absurd (ne (is refl))
    by false is = refl

-- the first file of a file's name is the file
first_named : (ts : Types) (k : ℕ) (fs : List FileView) (j : ℕ) (f : FileView) → AllDiffer (map name_of fs) → slice_get fs j ≡ Some f → position_or_len (λ (d : DeclaredFile). bytes_eq f.name d.name) (map (declared_file ts) (enumerate_from k fs)) ≡ j
first_named ts k [] j f differ there = absurd (none-some f there)
first_named ts k (x ∷ fs) zero f differ there =
    ap (λ b. cond (not b) (1 + position_or_len (λ (d : DeclaredFile). bytes_eq f.name d.name) (map (declared_file ts) (enumerate_from (k + 1) fs))) 0) (same_name f.name x.name (ap name_of (sym (some_same x f there))))
first_named ts k (x ∷ fs) (suc j) f differ there =
    let more : 1 + j ≡ suc j = omega arith in
    ap (λ b. cond (not b) (1 + position_or_len (λ (d : DeclaredFile). bytes_eq f.name d.name) (map (declared_file ts) (enumerate_from (k + 1) fs))) 0) (other_name f.name x.name (λ e. all_at (λ y. x.name ≢ y) name_of fs j f differ.0 there (sym e)))
    ∙ ap (λ n. 1 + n) (first_named ts (k + 1) fs j f differ.1 there) ∙ more

get_there : {X : Type 0} (xs : List X) (i : ℕ) → i < length xs → (x : X) × (slice_get xs i ≡ Some x)
get_there [] i h = absurd (omega (arith, h))
get_there (x ∷ xs) zero h = (x, refl)
get_there (x ∷ xs) (suc i) h = get_there xs i (omega (arith, h))

get_map : {X Y : Type 0} (g : X → Y) (xs : List X) (i : ℕ) (x : X) → slice_get xs i ≡ Some x → slice_get (map g xs) i ≡ Some (g x)
get_map g [] i x h = absurd (none-some x h)
get_map g (y ∷ xs) zero x h = ap (λ z. Some (g z)) (some_same y x h)
get_map g (y ∷ xs) (suc i) x h = get_map g xs i x h

decls_size : (ts : Types) (k : ℕ) (fs : List FileView) → length (map (declared_file ts) (enumerate_from k fs)) ≡ length fs
decls_size ts k [] = refl
decls_size ts k (f ∷ fs) = ap suc (decls_size ts (k + 1) fs)

less_true : (a b : ℕ) → a < b → nat_lt a b ≡ true
less_true a b h = grind (arith, nat_tests)

-- the name of a file's index means the file
named_again : (ts : Types) → IsPool ts → (j : ℕ) → j < length ts.files → file_named (decls_of ts) (file_name ts j) ≡ Some j
named_again ts pool j less =
    let f = get_there ts.files j less in
    let called : file_name ts j ≡ f.0.name = name_at-get (map name_of ts.files) j f.0.name (get_map name_of ts.files j f.0 f.1) in
    let at : position_or_len (λ (d : DeclaredFile). bytes_eq f.0.name d.name) (decls_of ts) ≡ j = first_named ts 0 ts.files j f.0 pool.files.names_differ f.1 in
    let size : length (decls_of ts) ≡ length ts.files = decls_size ts 0 ts.files in
    ap (file_named (decls_of ts)) called
    ∙ ap (λ n. cond (nat_lt n (length (decls_of ts))) (Some n) None) at
    ∙ ap (λ b. cond b (Some j) None) (less_true j (length (decls_of ts)) (omega (arith, less, size)))

imports_again : (ts : Types) → IsPool ts → (is : List ℕ) → AllByRecursion (λ j. j < length ts.files) is → filter_map (file_named (decls_of ts)) (map (file_name ts) is) ≡ is
imports_again ts pool [] all = refl
imports_again ts pool (j ∷ is) all =
    ap (λ o. cons_option o (filter_map (file_named (decls_of ts)) (map (file_name ts) is))) (named_again ts pool j all.0) ∙ ap (λ l. j ∷ l) (imports_again ts pool is all.1)

each_again : (ts : Types) → IsPool ts → (k : ℕ) (fs : List FileView) → AllByRecursion (λ f. AllByRecursion (λ j. j < length ts.files) f.imports) fs → map (file_of (decls_of ts)) (map (declared_file ts) (enumerate_from k fs)) ≡ fs
each_again ts pool k [] all = refl
each_again ts pool k (f ∷ fs) all =
    (λ i. record { name = f.name; package_name = f.package_name; imports = imports_again ts pool f.imports all.0 i; proto2 = f.proto2 } ∷ map (file_of (decls_of ts)) (map (declared_file ts) (enumerate_from (k + 1) fs)))
    ∙ ap (λ l. f ∷ l) (each_again ts pool (k + 1) fs all.1)

pub files_again : (ts : Types) → IsPool ts → files_of (decls_of ts) ≡ ts.files
files_again ts pool = each_again ts pool 0 ts.files pool.files.imports_name_files
