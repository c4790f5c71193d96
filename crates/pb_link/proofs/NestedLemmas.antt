-- Messages and enums are put into their places one by one.
use Rattle.std.proofs.Common.{◌≡◌, ℕ, zero, suc, ◌+◌, ◌<◌, ◌≤◌, List, [], ◌∷◌, ◌++◌, Bool, true, false, ◌&&◌, ◌==◌, cond, map, length, take, drop, get_or, reverse, refl, sym, ap, ◌∙◌, arith, Option, Some, None, option_map}
use Rattle.std.specs.Prelude.{slice_get, filter, filter_map, if◌then◌else◌}
use Rattle.std.specs.List.{AllByRecursion, enumerate_from}
use Rattle.std.proofs.lemmas.Bool.Decides.{Decides-eqb}
use Rattle.std.proofs.lemmas.Option.{none-some}
use Rattle.std.proofs.lemmas.List.{take_more, map-append, append-nil, drop_all, reverse-reverse}
use Rattle.std.proofs.lemmas.List.Elements.{filter-append}
use Rattle.std.proofs.lemmas.Grind.{reverse_onto}
use Rattle.pb_schema.specs.Types.{MessageView, EnumView, FileView, Types}
use Rattle.pb_schema.specs.Nesting.{parent_of}
use Rattle.pb_schema.specs.Rules.{IsPool}
use Rattle.pb_schema.proofs.OrderLemmas.{parents_before}
use Rattle.pb_declarations.specs.Decls.{DeclaredMessage, DeclaredFile, message, messages_of}
use Rattle.pb_link.specs.declared.declaring.nesting.Inside.{Inside}
use Rattle.pb_link.specs.ToDecls.{is_parent, is_outermost, numbered, messages_in, outermost_messages, declared_enum, declared_head, declared_message, declared_file, decls_of, entry_of_field}
use Rattle.pb_link.specs.Nested.{Insides, inside_view, with_message, with_enum, ChangesAt, PlacesAt, whole_message, inside_message, inside_file, AreInside, AreNested}

some_same : {A : Type 0} (a b : A) → Some a ≡ Some b → a ≡ b
some_same a b h = cc

zero_plus : (n : ℕ) → 0 + n ≡ n
zero_plus n = omega arith

-- LISTS WITH INDEXES

numbered_rest : {X : Type 0} (k : ℕ) (xs : List X) (i : ℕ) (x : X) → slice_get xs i ≡ Some x → drop i (enumerate_from k xs) ≡ (k + i, x) ∷ drop (i + 1) (enumerate_from k xs)
numbered_rest k [] i x h = absurd (none-some x h)
numbered_rest k (y ∷ xs) zero x h = let e : k ≡ k + 0 = omega arith in ap (λ z. (k, z) ∷ enumerate_from (k + 1) xs) (some_same y x h) ∙ ap (λ j. (j, x) ∷ enumerate_from (k + 1) xs) e
numbered_rest k (y ∷ xs) (suc i) x h = let e : k + 1 + i ≡ k + suc i = omega arith in let f : suc (i + 1) ≡ suc i + 1 = omega arith in numbered_rest (k + 1) xs i x h ∙ ap (λ j. (j, x) ∷ drop (i + 1) (enumerate_from (k + 1) xs)) e ∙ ap (λ j. (k + suc i, x) ∷ drop j (enumerate_from k (y ∷ xs))) f

pub numbered_at : (ts : Types) (i : ℕ) (t : MessageView) → slice_get ts.messages i ≡ Some t → drop i (numbered ts) ≡ (i, t) ∷ drop (i + 1) (numbered ts)
numbered_at ts i t h = numbered_rest 0 ts.messages i t h ∙ ap (λ j. (j, t) ∷ drop (i + 1) (numbered ts)) (zero_plus i)

length-enumerate : {X : Type 0} (n : ℕ) (xs : List X) → length (enumerate_from n xs) ≡ length xs
length-enumerate n [] = refl
length-enumerate n (x ∷ xs) = ap suc (length-enumerate (n + 1) xs)

pub numbered_end : (ts : Types) → drop (length ts.messages) (numbered ts) ≡ []
numbered_end ts = drop_all (length ts.messages) (numbered ts) (let e = length-enumerate 0 ts.messages in omega (arith, e))

-- PLACES

and_false : (b : Bool) → (b && false) ≡ false
and_false true = refl
and_false false = refl

and_true : (b : Bool) → (b && true) ≡ b
and_true true = refl
and_true false = refl

step_change : (n : ℕ) (shown next : ℕ → Insides) (at : ℕ) (change : Insides → Insides) (old new : List Inside) → AreInside n shown old → ChangesAt at change old new → ((i : ℕ) → next i ≡ (if i == at then change (shown i) else shown i)) → AreInside n next new
step_change n shown next at change old new held changed goes = record {
  size = changed.size ∙ held.size;
  each = λ i less. changed.exact i (shown i) (held.each i less) ∙ ap Some (sym (goes i));
}

step_same : (n : ℕ) (shown next : ℕ → Insides) (old new : List Inside) → AreInside n shown old → new ≡ old → ((i : ℕ) → next i ≡ shown i) → AreInside n next new
step_same n shown next old new held same goes = record {
  size = ap length same ∙ held.size;
  each = λ i less. ap (λ l. option_map inside_view (slice_get l i)) same ∙ held.each i less ∙ ap Some (sym (goes i));
}

pub same_shown : (n : ℕ) (shown next : ℕ → Insides) (held : List Inside) → AreInside n shown held → ((i : ℕ) → next i ≡ shown i) → AreInside n next held
same_shown n shown next held was goes = step_same n shown next held held was refl goes

-- what is placed is seen where its file or its parent is
pub placed : (m n : ℕ) (of_files of_messages next_files next_messages : ℕ → Insides) (file : ℕ) (o : Option ℕ) (change : Insides → Insides) (files messages new_files new_messages : List Inside) →
    AreInside m of_files files → AreInside n of_messages messages → PlacesAt file o change files messages new_files new_messages →
    ((i : ℕ) → next_files i ≡ (if ((i == file) && is_outermost o) then change (of_files i) else of_files i)) →
    ((p : ℕ) → next_messages p ≡ (if is_parent p o then change (of_messages p) else of_messages p)) →
    AreInside m next_files new_files × AreInside n next_messages new_messages
placed m n of_files of_messages next_files next_messages file None change files messages new_files new_messages in_files in_messages places go_files go_messages = (
  step_change m of_files next_files file change files new_files in_files places.0 (λ i. go_files i ∙ ap (λ b. if b then change (of_files i) else of_files i) (and_true (i == file))),
  step_same n of_messages next_messages messages new_messages in_messages places.1 go_messages,
)
placed m n of_files of_messages next_files next_messages file (Some p) change files messages new_files new_messages in_files in_messages places go_files go_messages = (
  step_same m of_files next_files files new_files in_files places.0 (λ i. go_files i ∙ ap (λ b. if b then change (of_files i) else of_files i) (and_false (i == file))),
  step_change n of_messages next_messages p change messages new_messages in_messages places.1 go_messages,
)

-- MESSAGES

module _ (ts : Types) (ms : List (ℕ × MessageView)) (es : List EnumView) (m : ℕ × MessageView) where
  reversed : (b : Bool) (F : List (ℕ × MessageView)) (enums : List EnumView) → ◌≡◌ {A = Insides} (record { messages = reverse (map (whole_message ts) (cond b (m ∷ F) F)); enums = map declared_enum enums }) (if b then with_message (whole_message ts m) (record { messages = reverse (map (whole_message ts) F); enums = map declared_enum enums }) else record { messages = reverse (map (whole_message ts) F); enums = map declared_enum enums })
  reversed true F enums = λ i. record { messages = reverse_onto (map (whole_message ts) F) (whole_message ts m) [] i; enums = map declared_enum enums }
  reversed false F enums = refl

  pub message_in_message : (p : ℕ) → inside_message ts (m ∷ ms) es p ≡ (if is_parent p m.1.parent then with_message (whole_message ts m) (inside_message ts ms es p) else inside_message ts ms es p)
  message_in_message p = reversed (is_parent p m.1.parent) (filter (λ x. is_parent p x.1.parent) ms) (filter (λ e. is_parent p e.parent) es)

  pub message_in_file : (i : ℕ) → inside_file ts (m ∷ ms) es i ≡ (if ((i == m.1.file) && is_outermost m.1.parent) then with_message (whole_message ts m) (inside_file ts ms es i) else inside_file ts ms es i)
  message_in_file i = reversed ((i == m.1.file) && is_outermost m.1.parent) (filter (λ x. (i == x.1.file) && is_outermost x.1.parent) ms) (filter (λ e. (i == e.file) && is_outermost e.parent) es)

-- one more message, whose place was the last of those that were left
pub message_placed : (ts : Types) (taken i : ℕ) (t : MessageView) (files messages new_files new_messages : List Inside) → slice_get ts.messages i ≡ Some t →
    AreInside (length ts.files) (inside_file ts (drop (i + 1) (numbered ts)) (take taken ts.enums)) files → AreInside i (inside_message ts (drop (i + 1) (numbered ts)) (take taken ts.enums)) messages →
    PlacesAt t.file t.parent (with_message (whole_message ts (i, t))) files messages new_files new_messages → AreNested ts i taken new_files new_messages
message_placed ts taken i t files messages new_files new_messages there in_files in_messages places =
    let es = take taken ts.enums in
    let ms = drop (i + 1) (numbered ts) in
    let both = placed (length ts.files) i (inside_file ts ms es) (inside_message ts ms es) (inside_file ts (drop i (numbered ts)) es) (inside_message ts (drop i (numbered ts)) es) t.file t.parent (with_message (whole_message ts (i, t))) files messages new_files new_messages in_files in_messages places
    (λ f. ap (λ l. inside_file ts l es f) (numbered_at ts i t there) ∙ message_in_file ts ms es (i, t) f)
    (λ p. ap (λ l. inside_message ts l es p) (numbered_at ts i t there) ∙ message_in_message ts ms es (i, t) p) in
    record { in_files = both.0; in_messages = both.1 }

-- ENUMS

chosen : {X Y : Type 0} (g : X → Y) (t : X → Bool) (xs : List X) (x : X) → map g (filter t (xs ++ x ∷ [])) ≡ (if t x then map g (filter t xs) ++ g x ∷ [] else map g (filter t xs))
chosen g t xs x = ap (map g) (filter-append t xs (x ∷ [])) ∙ by (t x)
  where
    by : (b : Bool) → map g (filter t xs ++ cond b (x ∷ []) []) ≡ (if b then map g (filter t xs) ++ g x ∷ [] else map g (filter t xs))
    by true = map-append g (filter t xs) (x ∷ [])
    by false = ap (map g) (append-nil (filter t xs))

enum_added : (messages : List DeclaredMessage) (t : EnumView → Bool) (es : List EnumView) (e : EnumView) → ◌≡◌ {A = Insides} (record { messages = messages; enums = map declared_enum (filter t (es ++ e ∷ [])) }) (if t e then with_enum (declared_enum e) (record { messages = messages; enums = map declared_enum (filter t es) }) else record { messages = messages; enums = map declared_enum (filter t es) })
enum_added messages t es e = (λ i. record { messages = messages; enums = chosen declared_enum t es e i }) ∙ by (t e)
  where
    by : (b : Bool) → ◌≡◌ {A = Insides} (record { messages = messages; enums = (if b then map declared_enum (filter t es) ++ declared_enum e ∷ [] else map declared_enum (filter t es)) }) (if b then with_enum (declared_enum e) (record { messages = messages; enums = map declared_enum (filter t es) }) else record { messages = messages; enums = map declared_enum (filter t es) })
    by true = refl
    by false = refl

pub enum_placed : (ts : Types) (left i : ℕ) (e : EnumView) (files messages new_files new_messages : List Inside) → i < length ts.enums → e ≡ get_or ts.enums i e → AreNested ts left i files messages → PlacesAt e.file e.parent (with_enum (declared_enum e)) files messages new_files new_messages → AreNested ts left (i + 1) new_files new_messages
enum_placed ts left i e files messages new_files new_messages less there held places =
    let es = take i ts.enums in
    let ms = drop left (numbered ts) in
    let more : take (i + 1) ts.enums ≡ es ++ e ∷ [] = take_more ts.enums i e less ∙ ap (λ x. es ++ x ∷ []) (sym there) in
    let both = placed (length ts.files) left (inside_file ts ms es) (inside_message ts ms es) (inside_file ts ms (take (i + 1) ts.enums)) (inside_message ts ms (take (i + 1) ts.enums)) e.file e.parent (with_enum (declared_enum e)) files messages new_files new_messages held.in_files held.in_messages places
    (λ f. ap (λ l. inside_file ts ms l f) more ∙ enum_added (inside_file ts ms es f).messages (λ x. (f == x.file) && is_outermost x.parent) es e)
    (λ p. ap (λ l. inside_message ts ms l p) more ∙ enum_added (inside_message ts ms es p).messages (λ x. is_parent p x.parent) es e) in
    record { in_files = both.0; in_messages = both.1 }

-- AT THE START AND AT EACH POP

pub nothing_nested : (ts : Types) (files messages : List Inside) → AreInside (length ts.files) (λ i. record { messages = []; enums = [] }) files → AreInside (length ts.messages) (λ i. record { messages = []; enums = [] }) messages → AreNested ts (length ts.messages) 0 files messages
nothing_nested ts files messages in_files in_messages = record {
  in_files = same_shown (length ts.files) (λ i. record { messages = []; enums = [] }) (inside_file ts (drop (length ts.messages) (numbered ts)) []) files in_files (λ i. ap (λ l. inside_file ts l [] i) (numbered_end ts));
  in_messages = same_shown (length ts.messages) (λ i. record { messages = []; enums = [] }) (inside_message ts (drop (length ts.messages) (numbered ts)) []) messages in_messages (λ i. ap (λ l. inside_message ts l [] i) (numbered_end ts));
}

get_push : {X : Type 0} (xs : List X) (x : X) → slice_get (xs ++ x ∷ []) (length xs) ≡ Some x
get_push [] x = refl
get_push (y ∷ xs) x = get_push xs x

get_front : {X : Type 0} (xs ys : List X) (i : ℕ) → i < length xs → slice_get (xs ++ ys) i ≡ slice_get xs i
get_front [] ys i h = absurd (omega (arith, h))
get_front (x ∷ xs) ys zero h = refl
get_front (x ∷ xs) ys (suc i) h = get_front xs ys i (omega (arith, h))

length_push : {X : Type 0} (xs : List X) (x : X) → length (xs ++ x ∷ []) ≡ suc (length xs)
length_push [] x = refl
length_push (y ∷ xs) x = ap suc (length_push xs x)

-- the last place is taken away
pub popped : (n : ℕ) (shown : ℕ → Insides) (all rest : List Inside) (last : Inside) → all ≡ rest ++ last ∷ [] → AreInside n shown all → (n ≡ suc (length rest)) × (inside_view last ≡ shown (length rest)) × AreInside (length rest) shown rest
popped n shown all rest last is held =
    let size : n ≡ suc (length rest) = sym held.size ∙ ap length is ∙ length_push rest last in
    let least : length rest < n = omega (arith, size) in (
      size,
      some_same (inside_view last) (shown (length rest)) (ap (option_map inside_view) (sym (get_push rest last) ∙ ap (λ l. slice_get l (length rest)) (sym is)) ∙ held.each (length rest) least),
      record { size = refl; each = λ i less. ap (option_map inside_view) (sym (get_front rest (last ∷ []) i less) ∙ ap (λ l. slice_get l i) (sym is)) ∙ held.each i (omega (arith, less, size)) },
    )

-- MESSAGES ARE WHOLE

abbrev Stands : Types → ℕ × MessageView → Type 0
Stands ts m = slice_get ts.messages m.0 ≡ Some m.1

all_numbered : {X : Type 0} (whole : List X) (k : ℕ) (xs : List X) → ((j : ℕ) → slice_get xs j ≡ slice_get whole (k + j)) → AllByRecursion (λ m. slice_get whole m.0 ≡ Some m.1) (enumerate_from k xs)
all_numbered whole k [] same = tt
all_numbered whole k (x ∷ xs) same = let e : k ≡ k + 0 = omega arith in (ap (slice_get whole) e ∙ sym (same 0), all_numbered whole (k + 1) xs (λ j. let f : k + suc j ≡ k + 1 + j = omega arith in same (suc j) ∙ ap (slice_get whole) f))

pub each_stands : (ts : Types) → AllByRecursion (Stands ts) (numbered ts)
each_stands ts = all_numbered ts.messages 0 ts.messages (λ j. ap (slice_get ts.messages) (sym (zero_plus j)))

pub all_filtered : {X : Type 0} (P : X → Type 0) (t : X → Bool) (xs : List X) → AllByRecursion P xs → AllByRecursion (λ x. P x × (t x ≡ true)) (filter t xs)
all_filtered P t [] all = tt
all_filtered P t (x ∷ xs) all = by (t x) refl (all_filtered P t xs all.1)
  where
    by : (b : Bool) → t x ≡ b → AllByRecursion (λ y. P y × (t y ≡ true)) (filter t xs) → AllByRecursion (λ y. P y × (t y ≡ true)) (cond b (x ∷ filter t xs) (filter t xs))
    by true is rest = ((all.0, is), rest)
    by false is rest = rest

map_same : {X Y : Type 0} (P : X → Type 0) (f g : X → Y) (xs : List X) → ((x : X) → P x → f x ≡ g x) → AllByRecursion P xs → map f xs ≡ map g xs
map_same P f g [] same all = refl
map_same P f g (x ∷ xs) same all = (λ i. same x all.0 i ∷ map f xs) ∙ ap (λ l. g x ∷ l) (map_same P f g xs same all.1)

pub parent_is : (p : ℕ) (o : Option ℕ) → is_parent p o ≡ true → o ≡ Some p
parent_is p None h = absurd (absurd_bool h)
  where
    absurd_bool : ◌≡◌ {A = Bool} false true → ⊥
    absurd_bool e = cc
parent_is p (Some q) h = ap Some (sym ((Decides-eqb p q).0 h))

pub parent_there : (ms : List MessageView) (i : ℕ) (t : MessageView) → slice_get ms i ≡ Some t → parent_of ms i ≡ t.parent
parent_there ms i t h = by h
  where
    by : slice_get ms i ≡ Some t → parent_of ms i ≡ t.parent
    by e = ap (λ x. parent_from x) e
      where
        parent_from : Option MessageView → Option ℕ
        parent_from None = None
        parent_from (Some u) = u.parent

get_less : {X : Type 0} (xs : List X) (i : ℕ) (x : X) → slice_get xs i ≡ Some x → i < length xs
get_less [] i x h = absurd (none-some x h)
get_less (y ∷ xs) zero x h = omega arith
get_less (y ∷ xs) (suc i) x h = omega (arith, get_less xs i x h)

pub before : (ts : Types) → IsPool ts → (m p : ℕ) → parent_of ts.messages m ≡ Some p → p < m
before ts pool m p e = parents_before ts.messages (suc m) (λ i less. pool.messages_in_order.1 i) m p (omega arith) e

-- what is declared in a message comes after it
pub child_behind : (ts : Types) → IsPool ts → (i : ℕ) (m : ℕ × MessageView) → Stands ts m → is_parent i m.1.parent ≡ true → i < m.0
child_behind ts pool i m there is = before ts pool m.0 i (parent_there ts.messages m.0 m.1 there ∙ parent_is i m.1.parent is)

-- levels enough make one message
pub same_levels : (ts : Types) → IsPool ts → (a b : ℕ) (m : ℕ × MessageView) → m.0 < length ts.messages → length ts.messages ≤ a + m.0 → length ts.messages ≤ b + m.0 → declared_message a ts m ≡ declared_message b ts m
same_levels ts pool zero b m less first second = absurd (omega (arith, less, first))
same_levels ts pool (suc a) zero m less first second = absurd (omega (arith, less, second))
same_levels ts pool (suc a) (suc b) m less first second =
    ap (λ l. message (declared_head ts m.0 m.1) (messages_of (l ++ filter_map (entry_of_field ts) m.1.fields)))
    (map_same (λ c. Stands ts c × (is_parent m.0 c.1.parent ≡ true)) (declared_message a ts) (declared_message b ts) (messages_in ts m.0)
    (λ c h. let behind = child_behind ts pool m.0 c h.0 h.1 in same_levels ts pool a b c (get_less ts.messages c.0 c.1 h.0) (omega (arith, first, behind)) (omega (arith, second, behind)))
    (all_filtered (Stands ts) (λ c. is_parent m.0 c.1.parent) (numbered ts) (each_stands ts)))

-- a whole message has whole ones in it
pub whole_is : (ts : Types) → IsPool ts → (i : ℕ) (t : MessageView) → slice_get ts.messages i ≡ Some t → whole_message ts (i, t) ≡ message (declared_head ts i t) (messages_of (map (whole_message ts) (messages_in ts i) ++ filter_map (entry_of_field ts) t.fields))
whole_is ts pool i t there = by (length ts.messages) refl
  where
    by : (n : ℕ) → length ts.messages ≡ n → declared_message n ts (i, t) ≡ message (declared_head ts i t) (messages_of (map (declared_message n ts) (messages_in ts i) ++ filter_map (entry_of_field ts) t.fields))
    by zero size = absurd (let h = get_less ts.messages i t there in omega (arith, h, size))
    by (suc n) size =
        ap (λ l. message (declared_head ts i t) (messages_of (l ++ filter_map (entry_of_field ts) t.fields)))
        (map_same (λ c. Stands ts c × (is_parent i c.1.parent ≡ true)) (declared_message n ts) (declared_message (suc n) ts) (messages_in ts i)
        (λ c h. let behind = child_behind ts pool i c h.0 h.1 in same_levels ts pool n (suc n) c (get_less ts.messages c.0 c.1 h.0) (omega (arith, size, behind)) (omega (arith, size)))
        (all_filtered (Stands ts) (λ c. is_parent i c.1.parent) (numbered ts) (each_stands ts)))

-- those in a message come after it
front_free : (i k : ℕ) (xs : List MessageView) (d : ℕ) → ((j : ℕ) (x : MessageView) → slice_get xs j ≡ Some x → is_parent i x.parent ≡ true → i < k + j) → k + d ≤ i + 1 → filter (λ m. is_parent i m.1.parent) (drop d (enumerate_from k xs)) ≡ filter (λ m. is_parent i m.1.parent) (enumerate_from k xs)
front_free i k xs zero behind far = refl
front_free i k [] (suc d) behind far = refl
front_free i k (x ∷ xs) (suc d) behind far =
    front_free i (k + 1) xs d (λ j y there is. let h = behind (suc j) y there is in omega (arith, h)) (omega (arith, far))
    ∙ ap (λ b. cond b ((k, x) ∷ filter (λ m. is_parent i m.1.parent) (enumerate_from (k + 1) xs)) (filter (λ m. is_parent i m.1.parent) (enumerate_from (k + 1) xs))) (sym (not_here (is_parent i x.parent) refl))
  where
    not_here : (b : Bool) → is_parent i x.parent ≡ b → is_parent i x.parent ≡ false
    not_here false is = is
    not_here true is = absurd (let h = behind 0 x refl is in omega (arith, h, far))

pub inside_behind : (ts : Types) → IsPool ts → (i : ℕ) → filter (λ m. is_parent i m.1.parent) (drop (i + 1) (numbered ts)) ≡ messages_in ts i
inside_behind ts pool i = front_free i 0 ts.messages (i + 1) (λ j x there is. let h = child_behind ts pool i (j, x) there is in omega (arith, h)) (omega arith)

-- what stands in a message, before the messages in it are turned round
pub inner_whole : (ts : Types) → IsPool ts → (i : ℕ) (es : List EnumView) (x : Insides) → x ≡ inside_message ts (drop (i + 1) (numbered ts)) es i → reverse x.messages ≡ map (whole_message ts) (messages_in ts i)
inner_whole ts pool i es x is =
    ap (λ (v : Insides). reverse v.messages) is ∙ reverse-reverse (map (whole_message ts) (filter (λ m. is_parent i m.1.parent) (drop (i + 1) (numbered ts)))) ∙ ap (map (whole_message ts)) (inside_behind ts pool i)

pub in_file_whole : (ts : Types) (i : ℕ) (x : Insides) → x ≡ inside_file ts (numbered ts) ts.enums i → reverse x.messages ≡ map (whole_message ts) (outermost_messages ts i)
in_file_whole ts i x is = ap (λ (v : Insides). reverse v.messages) is ∙ reverse-reverse (map (whole_message ts) (outermost_messages ts i))

get_there : {X : Type 0} (xs : List X) (i : ℕ) → i < length xs → (x : X) × (slice_get xs i ≡ Some x)
get_there [] i h = absurd (omega (arith, h))
get_there (x ∷ xs) zero h = (x, refl)
get_there (x ∷ xs) (suc i) h = get_there xs i (omega (arith, h))

-- FILES

drop-mapped : {X Y : Type 0} (f : X → Y) (n : ℕ) (xs : List X) → drop n (map f xs) ≡ map f (drop n xs)
drop-mapped f zero xs = refl
drop-mapped f (suc n) [] = refl
drop-mapped f (suc n) (x ∷ xs) = drop-mapped f n xs

decls_rest : (ts : Types) (i : ℕ) (f : FileView) → slice_get ts.files i ≡ Some f → drop i (decls_of ts) ≡ declared_file ts (i, f) ∷ drop (i + 1) (decls_of ts)
decls_rest ts i f there =
    drop-mapped (declared_file ts) i (enumerate_from 0 ts.files)
    ∙ ap (map (declared_file ts)) (numbered_rest 0 ts.files i f there ∙ ap (λ j. (j, f) ∷ drop (i + 1) (enumerate_from 0 ts.files)) (zero_plus i))
    ∙ ap (λ l. declared_file ts (i, f) ∷ l) (sym (drop-mapped (declared_file ts) (i + 1) (enumerate_from 0 ts.files)))

-- one more file, whose place was the last of those that were left
pub file_more : (ts : Types) (n i : ℕ) (d : DeclaredFile) (held now : List DeclaredFile) → i < length ts.files → n ≡ suc i → ((f : FileView) → slice_get ts.files i ≡ Some f → d ≡ declared_file ts (i, f)) → held ≡ reverse (drop n (decls_of ts)) → now ≡ held ++ d ∷ [] → now ≡ reverse (drop i (decls_of ts))
file_more ts n i d held now less size made so_far pushed =
    let f = get_there ts.files i less in
    let next : n ≡ i + 1 = omega (arith, size) in
    pushed ∙ ap (λ l. l ++ d ∷ []) (so_far ∙ ap (λ k. reverse (drop k (decls_of ts))) next)
    ∙ ap (λ y. reverse (drop (i + 1) (decls_of ts)) ++ y ∷ []) (made f.0 f.1)
    ∙ sym (ap reverse (decls_rest ts i f.0 f.1) ∙ reverse_onto (drop (i + 1) (decls_of ts)) (declared_file ts (i, f.0)) [])

pub decls_end : (ts : Types) (n : ℕ) → length ts.files ≤ n → drop n (decls_of ts) ≡ []
decls_end ts n far = drop-mapped (declared_file ts) n (enumerate_from 0 ts.files) ∙ ap (map (declared_file ts)) (drop_all n (enumerate_from 0 ts.files) (let e = length-enumerate 0 ts.files in omega (arith, e, far)))
