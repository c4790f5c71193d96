-- What stands at the places of a world: the parts of each message and enum after it, and each declaration in a file.
use Rattle.std.proofs.Common.{◌≡◌, ◌≢◌, ℕ, ℤ, zero, suc, ◌+◌, ◌<◌, List, [], ◌∷◌, ◌++◌, Bool, true, false, not, ◌&&◌, ◌||◌, map, length, refl, sym, ap, ◌∙◌, subst, arith, Option, Some, None, add-zero, ⊎_elim}
use Rattle.std.specs.Prelude.{slice_get, filter_map, take}
use Rattle.std.specs.List.{AllByRecursion, cons_option, list_any, enumerate_from}
use Rattle.std.proofs.lemmas.Bool.{false≢true}
use Rattle.std.proofs.lemmas.Option.{none-some}
use Rattle.pb_schema.specs.Names.{in_scope, AllDiffer}
use Rattle.pb_declarations.specs.Decls.{DeclaredField, DeclaredEnum, MessageHead, DeclaredMessages, DeclaredFile}
use Rattle.pb_link_rules.specs.declared.cause.LinkCause.{LinkCause}
use Rattle.pb_link_names.specs.Declarations.{a_message, a_field, a_oneof, an_enum, a_value, Declaration, fields_of, oneofs_of}
use Rattle.pb_link_rules.specs.Rules.{World}
use Rattle.pb_link_rules.specs.Link.{holds, NothingFails, IsWorldOf}
use Rattle.pb_link_rules.proofs.PlacedLemmas.{zero_plus}
use Rattle.pb_link_names.proofs.BehindLemmas.{AreBuilt, IsFileOf, declarations_built}
use Rattle.std.proofs.lemmas.List.{length-map}
use Rattle.pb_link_names.specs.Sees.{file_of, files_of}

pub some_same : {A : Type 0} (a b : A) → Some a ≡ Some b → a ≡ b
some_same a b h = cc

pub and_left : (a b : Bool) → (a && b) ≡ true → a ≡ true
and_left true b h = refl
and_left false b h = h

pub and_right : (a b : Bool) → (a && b) ≡ true → b ≡ true
and_right true b h = h
and_right false b h = absurd (false≢true h)

pub not_both : (b : Bool) → not b ≡ true → b ≡ true → ⊥
not_both true h e = false≢true h
not_both false h e = false≢true e

pub true_unless : (b : Bool) → (b ≡ false → ⊥) → b ≡ true
true_unless true h = refl
true_unless false h = absurd (h refl)

-- the rule of a cause holds at a place
pub place_holds : (w : World) → NothingFails w → (k : ℕ) (d : Declaration) (c : LinkCause) → slice_get w.declared k ≡ Some d → holds w k d c ≡ true
place_holds w nothing k d c there = true_unless (holds w k d c) (λ fails. nothing k c (d, there, fails))

-- LISTS

all_option : {Y : Type 0} (P : Y → Type 0) (o : Option Y) (ys : List Y) → ((y : Y) → o ≡ Some y → P y) → AllByRecursion P ys → AllByRecursion P (cons_option o ys)
all_option P None ys each all = all
all_option P (Some y) ys each all = (each y refl, all)

pub all_types : {X Y : Type 0} (P : Y → Type 0) (h : X → Option Y) (xs : List X) → ((k : ℕ) (x : X) (y : Y) → slice_get xs k ≡ Some x → h x ≡ Some y → P y) → AllByRecursion P (filter_map h xs)
all_types P h [] each = tt
all_types P h (x ∷ xs) each = all_option P (h x) (filter_map h xs) (λ y made. each 0 x y refl made) (all_types P h xs (λ k z y there made. each (suc k) z y there made))

pub all_mapped : {X Y : Type 0} (P : Y → Type 0) (g : X → Y) (xs : List X) → ((j : ℕ) (x : X) → slice_get xs j ≡ Some x → P (g x)) → AllByRecursion P (map g xs)
all_mapped P g [] each = tt
all_mapped P g (x ∷ xs) each = (each 0 x refl, all_mapped P g xs (λ j y there. each (suc j) y there))

all_mapped_twice : {X Y Z : Type 0} (P : Z → Type 0) (h : Y → Z) (g : X → Y) (xs : List X) → ((j : ℕ) (x : X) → slice_get xs j ≡ Some x → P (h (g x))) → AllByRecursion P (map h (map g xs))
all_mapped_twice P h g [] each = tt
all_mapped_twice P h g (x ∷ xs) each = (each 0 x refl, all_mapped_twice P h g xs (λ j y there. each (suc j) y there))

-- what is made of elements at two indexes differs
pub differ_twice : {X Y Z : Type 0} (h : Y → Z) (g : X → Y) (xs : List X) → ((i j : ℕ) (a b : X) → i < j → slice_get xs i ≡ Some a → slice_get xs j ≡ Some b → h (g a) ≢ h (g b)) → AllDiffer (map h (map g xs))
differ_twice h g [] apart = tt
differ_twice h g (x ∷ xs) apart = (
  all_mapped_twice (λ z. h (g x) ≢ z) h g xs (λ j y there. apart 0 (suc j) x y (omega arith) refl there),
  differ_twice h g xs (λ i j a b less first second. apart (suc i) (suc j) a b (omega (arith, less)) first second),
)

or_left : (a b : Bool) → a ≡ true → (a || b) ≡ true
or_left a b h = ap (λ x. x || b) h

or_right : (a b : Bool) → b ≡ true → (a || b) ≡ true
or_right true b h = refl
or_right false b h = h

-- an element before an index passes
pub any_before : {X : Type 0} (t : X → Bool) (xs : List X) (i j : ℕ) (x : X) → i < j → slice_get xs i ≡ Some x → t x ≡ true → list_any t (take j xs) ≡ true
any_before t [] i j x less there passes = absurd (none-some x there)
any_before t (y ∷ xs) i zero x less there passes = absurd (omega (arith, less))
any_before t (y ∷ xs) zero (suc j) x less there passes = or_left (t y) (list_any t (take j xs)) (ap t (some_same y x there) ∙ passes)
any_before t (y ∷ xs) (suc i) (suc j) x less there passes = or_right (t y) (list_any t (take j xs)) (any_before t xs i j x (omega (arith, less)) there passes)

pub none_before : {X : Type 0} (t : X → Bool) (xs : List X) (i j : ℕ) (x : X) → not (list_any t (take j xs)) ≡ true → i < j → slice_get xs i ≡ Some x → t x ≡ true → ⊥
none_before t xs i j x none less there passes = not_both (list_any t (take j xs)) none (any_before t xs i j x less there passes)

pub get_mapped : {X Y : Type 0} (g : ℕ × X → Y) (n : ℕ) (xs : List X) (j : ℕ) (x : X) → slice_get xs j ≡ Some x → slice_get (map g (enumerate_from n xs)) j ≡ Some (g (n + j, x))
get_mapped g n [] j x h = absurd (none-some x h)
get_mapped g n (y ∷ xs) zero x h = ap (λ z. Some (g (n, z))) (some_same y x h) ∙ ap (λ k. Some (g (k, x))) (sym (add-zero n))
get_mapped g n (y ∷ xs) (suc j) x h = get_mapped g (n + 1) xs j x h ∙ ap (λ k. Some (g (k, x))) (omega arith)

get_front : {X : Type 0} (xs ys : List X) (i : ℕ) (x : X) → slice_get xs i ≡ Some x → slice_get (xs ++ ys) i ≡ Some x
get_front [] ys i x h = absurd (none-some x h)
get_front (y ∷ xs) ys zero x h = h
get_front (y ∷ xs) ys (suc i) x h = get_front xs ys i x h

get_back : {X Y : Type 0} (g : Y → X) (zs : List Y) (ys : List X) (i : ℕ) → slice_get (map g zs ++ ys) (length zs + i) ≡ slice_get ys i
get_back g [] ys i = ap (slice_get ys) (zero_plus i)
get_back g (z ∷ zs) ys i = ap (slice_get (map g (z ∷ zs) ++ ys)) (move (length zs) i) ∙ get_back g zs ys i
  where
    move : (n i : ℕ) → suc n + i ≡ suc (n + i)
    move n i = omega arith

-- WHAT STANDS BEHIND A MESSAGE AND AN ENUM

pub built : (files : List DeclaredFile) (w : World) → IsWorldOf files w → AreBuilt (IsFileOf files) 0 w.declared
built files w world = subst (AreBuilt (IsFileOf files) 0) (sym world.declared) (declarations_built files)

pub field_there : (files : List DeclaredFile) (w : World) → IsWorldOf files w → (k file parent : ℕ) (scope : List ℕ) (head : MessageHead) (inner : DeclaredMessages) → slice_get w.declared k ≡ Some (record { file = file; parent = parent; scope = scope; item = a_message head inner }) → (j : ℕ) (f : DeclaredField) → slice_get head.fields j ≡ Some f → slice_get w.declared (k + 1 + j) ≡ Some (record { file = file; parent = k; scope = in_scope scope head.name; item = a_field head j f })
field_there files w world k file parent scope head inner there j f at =
    let name = in_scope scope head.name in
    (built files w world).parts k (record { file = file; parent = parent; scope = scope; item = a_message head inner }) there j (record { file = file; parent = k; scope = name; item = a_field head j f })
    (get_front (fields_of file (0 + k) name head head.fields) (oneofs_of file (0 + k) name head head.oneofs) j (record { file = file; parent = k; scope = name; item = a_field head j f })
    (get_mapped (λ e. record { file = file; parent = 0 + k; scope = name; item = a_field head e.0 e.1 }) 0 head.fields j f at
    ∙ λ i. Some (record { file = file; parent = zero_plus k i; scope = name; item = a_field head (zero_plus j i) f })))

length-enumerate : {X : Type 0} (n : ℕ) (xs : List X) → length (enumerate_from n xs) ≡ length xs
length-enumerate n [] = refl
length-enumerate n (x ∷ xs) = ap suc (length-enumerate (n + 1) xs)

pub oneof_there : (files : List DeclaredFile) (w : World) → IsWorldOf files w → (k file parent : ℕ) (scope : List ℕ) (head : MessageHead) (inner : DeclaredMessages) → slice_get w.declared k ≡ Some (record { file = file; parent = parent; scope = scope; item = a_message head inner }) → (o : ℕ) (name : List ℕ) → slice_get head.oneofs o ≡ Some name → slice_get w.declared (k + 1 + (length head.fields + o)) ≡ Some (record { file = file; parent = k; scope = in_scope scope head.name; item = a_oneof head o name })
oneof_there files w world k file parent scope head inner there o name at =
    let scope_here = in_scope scope head.name in
    let d : Declaration = record { file = file; parent = k; scope = scope_here; item = a_oneof head o name } in
    (built files w world).parts k (record { file = file; parent = parent; scope = scope; item = a_message head inner }) there (length head.fields + o) d
    (ap (λ n. slice_get (fields_of file (0 + k) scope_here head head.fields ++ oneofs_of file (0 + k) scope_here head head.oneofs) (n + o)) (sym (length-enumerate 0 head.fields))
    ∙ get_back (λ e. record { file = file; parent = 0 + k; scope = scope_here; item = a_field head e.0 e.1 }) (enumerate_from 0 head.fields) (oneofs_of file (0 + k) scope_here head head.oneofs) o
    ∙ get_mapped (λ e. record { file = file; parent = 0 + k; scope = scope_here; item = a_oneof head e.0 e.1 }) 0 head.oneofs o name at
    ∙ λ i. Some (record { file = file; parent = zero_plus k i; scope = scope_here; item = a_oneof head (zero_plus o i) name }))

pub value_there : (files : List DeclaredFile) (w : World) → IsWorldOf files w → (k file parent : ℕ) (scope : List ℕ) (e : DeclaredEnum) → slice_get w.declared k ≡ Some (record { file = file; parent = parent; scope = scope; item = an_enum e }) → (j : ℕ) (v : List ℕ × ℤ) → slice_get e.values j ≡ Some v → slice_get w.declared (k + 1 + j) ≡ Some (record { file = file; parent = k; scope = scope; item = a_value e j v })
value_there files w world k file parent scope e there j v at =
    (built files w world).parts k (record { file = file; parent = parent; scope = scope; item = an_enum e }) there j (record { file = file; parent = k; scope = scope; item = a_value e j v })
    (get_mapped (λ x. record { file = file; parent = 0 + k; scope = scope; item = a_value e x.0 x.1 }) 0 e.values j v at
    ∙ λ i. Some (record { file = file; parent = zero_plus k i; scope = scope; item = a_value e (zero_plus j i) v }))

-- FILES

get-less : {X : Type 0} (xs : List X) (i : ℕ) (x : X) → slice_get xs i ≡ Some x → i < length xs
get-less [] i x h = absurd (none-some x h)
get-less (y ∷ xs) zero x h = omega arith
get-less (y ∷ xs) (suc i) x h = omega (arith, get-less xs i x h)

-- each declaration has a file
file_below : (files : List DeclaredFile) (w : World) → IsWorldOf files w → (n k : ℕ) (d : Declaration) → k < n → slice_get w.declared k ≡ Some d → d.file < length files
file_below files w world zero k d less there = absurd (omega (arith, less))
file_below files w world (suc n) k d less there = ⊎_elim
    (λ is. get-less files d.file is.0 is.2)
    (λ h. subst (λ i. i < length files) (sym h.4.1.file) (file_below files w world n h.0 h.1 (omega (arith, less, h.2)) h.3))
    ((built files w world).around k d there)

pub has_file : (files : List DeclaredFile) (w : World) → IsWorldOf files w → (k : ℕ) (d : Declaration) → slice_get w.declared k ≡ Some d → d.file < length (files_of files)
has_file files w world k d there = subst (λ n. d.file < n) (sym (length-map files (file_of files))) (file_below files w world (suc k) k d (omega arith) there)
