-- Full names.
use Rattle.std.proofs.Common.{◌≡◌, ℕ, zero, suc, ◌+◌, ◌<◌, ◌≤◌, List, [], ◌∷◌, ◌++◌, Option, Some, None, map, length, get_or, take, ◌⊎◌, inl, inr, refl, sym, ◌∙◌, ap, subst, arith, string_bytes, Vec, Global}
use Rattle.std.specs.Prelude.{slice_get}
use Rattle.std.proofs.lemmas.List.{length-map, take_more}
use Rattle.std.proofs.lemmas.Bool.{cases_lt}
use Rattle.pb_schema.specs.declared.types.MessageType.{MessageType}
use Rattle.pb_schema.specs.View.{message_view, parent_view, bytes_of}
use Rattle.pb_schema.specs.Types.{FileView, MessageView}
use Rattle.pb_schema.specs.Nesting.{parent_of, ParentsStandBefore}
use Rattle.pb_schema.specs.Names.{in_scope, name_in, name_at, file_at, scope_within, scope_of, scope_by_names, message_name}
use Rattle.pb_schema.proofs.NameSetLemmas.{bytes_of-append}

pub map_push : {X Y : Type 0} (f : X → Y) (xs : List X) (x : X) → map f (xs ++ x ∷ []) ≡ map f xs ++ f x ∷ []
map_push f [] x = refl
map_push f (y ∷ ys) x = ap (λ l. f y ∷ l) (map_push f ys x)

-- levels enough for a message are as good as more
same_scope : (files : List FileView) (ms : List MessageView) (total n k p : ℕ) → ParentsStandBefore ms total → p < total → p < n → p < k → (file : ℕ) → scope_within n files ms file (Some p) ≡ scope_within k files ms file (Some p)
same_scope files ms total zero k p before h a b file = absurd (omega (arith, a))
same_scope files ms total (suc n) zero p before h a b file = absurd (omega (arith, b))
same_scope files ms total (suc n) (suc k) p before h a b file =
    ap (λ s. name_in s (slice_get ms p)) (up (λ q e. let first = before p q h e in same_scope files ms total n k q before (omega (arith, h, first)) (omega (arith, a, first)) (omega (arith, b, first)) (file_at ms p)) (parent_of ms p) refl)
  where
    up : ((q : ℕ) → parent_of ms p ≡ Some q → scope_within n files ms (file_at ms p) (Some q) ≡ scope_within k files ms (file_at ms p) (Some q)) → (o : Option ℕ) → parent_of ms p ≡ o → scope_within n files ms (file_at ms p) o ≡ scope_within k files ms (file_at ms p) o
    up rest None e = refl
    up rest (Some q) e = rest q e

-- one level up
parent_name : (F : ℕ → Option ℕ → List ℕ) (ts : List MessageView) (p : ℕ) → name_in (F (file_at ts p) (parent_of ts p)) (slice_get ts p) ≡ name_at (map (λ t. in_scope (F t.file t.parent) t.name) ts) p
parent_name F [] p = refl
parent_name F (t ∷ ts) zero = refl
parent_name F (t ∷ ts) (suc p) = parent_name F ts p

past : {X : Type 0} (xs : List X) (i : ℕ) → length xs ≤ i → slice_get xs i ≡ None
past [] i h = refl
past (x ∷ xs) zero h = absurd (omega (arith, h))
past (x ∷ xs) (suc i) h = past xs i (omega (arith, h))

name_past : (names : List (List ℕ)) (i : ℕ) → length names ≤ i → name_at names i ≡ []
name_past [] i h = refl
name_past (x ∷ xs) zero h = absurd (omega (arith, h))
name_past (x ∷ xs) (suc i) h = name_past xs i (omega (arith, h))

scope_past : (n : ℕ) (files : List FileView) (ms : List MessageView) (file p : ℕ) → slice_get ms p ≡ None → scope_within n files ms file (Some p) ≡ []
scope_past zero files ms file p e = refl
scope_past (suc n) files ms file p e = ap (name_in (scope_within n files ms (file_at ms p) (parent_of ms p))) e

-- the scope by the full names of all messages
pub scope_of-names : (files : List FileView) (ms : List MessageView) (file : ℕ) (o : Option ℕ) → ParentsStandBefore ms (length ms) → scope_of files ms file o ≡ scope_by_names files (map (message_name files ms) ms) file o
scope_of-names files ms file None before = refl
scope_of-names files ms file (Some p) before = by_place (cases_lt p (length ms))
  where
    by_place : (p < length ms) ⊎ (length ms ≤ p) → scope_of files ms file (Some p) ≡ scope_by_names files (map (message_name files ms) ms) file (Some p)
    by_place (inl h) =
        same_scope files ms (length ms) (length ms) (suc (length ms)) p before h h (omega (arith, h)) file ∙ parent_name (scope_within (length ms) files ms) ms p
    by_place (inr h) =
        scope_past (length ms) files ms file p (past ms p h) ∙ sym (name_past (map (message_name files ms) ms) p (omega (arith, length-map ms (message_name files ms), h)))

front_at : {X Y : Type 0} (f : Y → List ℕ) (g : X → Y) (xs : List X) (i p : ℕ) → p < i → name_at (map f (map g (take i xs))) p ≡ name_at (map f (map g xs)) p
front_at f g [] zero p h = refl
front_at f g [] (suc i) p h = refl
front_at f g (x ∷ xs) zero p h = absurd (omega (arith, h))
front_at f g (x ∷ xs) (suc i) zero h = refl
front_at f g (x ∷ xs) (suc i) (suc p) h = front_at f g xs i p (omega (arith, h))

pub parent_of-map : (xs : List MessageType) (i : ℕ) (d : MessageType) → i < length xs → parent_of (map message_view xs) i ≡ parent_view (get_or xs i d).parent
parent_of-map [] i d h = absurd (omega (arith, h))
parent_of-map (x ∷ xs) zero d h = refl
parent_of-map (x ∷ xs) (suc i) d h = parent_of-map xs i d (omega (arith, h))

-- the names of the messages so far give the scope of the next
pub so_far : (files : List FileView) (xs : List MessageType) (i file : ℕ) (o : Option ℕ) → ParentsStandBefore (map message_view xs) (length xs) → i < length xs → parent_of (map message_view xs) i ≡ o → scope_by_names files (map (message_name files (map message_view xs)) (map message_view (take i xs))) file o ≡ scope_of files (map message_view xs) file o
so_far files xs i file None before h e = refl
so_far files xs i file (Some p) before h e =
    let ms = map message_view xs in
    let all : ParentsStandBefore ms (length ms) = subst (ParentsStandBefore ms) (sym (length-map xs message_view)) before in
    front_at (message_name files ms) message_view xs i p (before i p h e) ∙ sym (scope_of-names files ms file (Some p) all)

pub names-push : (files : List FileView) (xs : List MessageType) (i : ℕ) (x : MessageType) (names : List (Vec ℕ Global)) (name : Vec ℕ Global) → ParentsStandBefore (map message_view xs) (length xs) → i < length xs → x ≡ get_or xs i x → bytes_of names ≡ map (message_name files (map message_view xs)) (map message_view (take i xs)) → name.items ≡ in_scope (scope_by_names files (bytes_of names) x.file (parent_view x.parent)) (string_bytes x.name) → bytes_of (names ++ name ∷ []) ≡ map (message_name files (map message_view xs)) (map message_view (take (i + 1) xs))
names-push files xs i x names name before h is was this =
    let ms = map message_view xs in
    let F = message_name files ms in
    let parent : parent_of ms i ≡ parent_view x.parent = parent_of-map xs i x h ∙ ap (λ (t : MessageType). parent_view t.parent) (sym is) in
    let scope : scope_by_names files (bytes_of names) x.file (parent_view x.parent) ≡ scope_of files ms x.file (parent_view x.parent) = ap (λ l. scope_by_names files l x.file (parent_view x.parent)) was ∙ so_far files xs i x.file (parent_view x.parent) before h parent in
    let named : name.items ≡ F (message_view x) = this ∙ ap (λ s. in_scope s (string_bytes x.name)) scope in
    let one_more : take (i + 1) xs ≡ take i xs ++ x ∷ [] = take_more xs i x h ∙ ap (λ t. take i xs ++ t ∷ []) (sym is) in
    bytes_of-append names (name ∷ []) ∙ ap (λ l. l ++ name.items ∷ []) was ∙ ap (λ n. map F (map message_view (take i xs)) ++ n ∷ []) named ∙ sym (map_push F (map message_view (take i xs)) (message_view x)) ∙ ap (map F) (sym (map_push message_view (take i xs) x)) ∙ ap (λ l. map F (map message_view l)) (sym one_more)
