-- Entries of maps that lose their mark, message by message.
use Rattle.std.proofs.Common.{◌≡◌, ◌<◌, ◌≤◌, ◌+◌, ℕ, zero, suc, List, [], ◌∷◌, ◌++◌, length, take, drop, get_or, set, map, refl, sym, ap, ◌∙◌, subst, arith, rules, Bool, true, false, max, not, if◌then◌else◌, ◌&&◌, ◌||◌, string_bytes, Vec, Global}
use Rattle.std.specs.List.{list_any, AllByRecursion}
use Rattle.pb_declarations.specs.Decls.{DeclaredMessage, message, DeclaredMessages, no_messages, more_messages, messages_of, DeclaredFile}
use Rattle.pb_declarations.specs.Nests.{nests, all_nest}
use Rattle.pb_declarations.specs.View.{field_view, enum_view, message_view, file_view}
use Rattle.pb_declarations.specs.declared.decl.MessageDecl.{MessageDecl, out-MessageDecl, roll-MessageDecl, the_lemmas as message_lemmas}
use Rattle.pb_declarations.specs.declared.decl.FileDecl.{FileDecl}
use Rattle.pb_declarations.proofs.ViewLemmas.{message_view-parts}
use Rattle.pb_link_names.specs.Declarations.{head_of}
use Rattle.pb_link_rules.proofs.ExactLemmas.{one_world}
use Rattle.pb_link.specs.Resolved.{resolved_files}
use Rattle.pb_link.specs.EnumMaps.{is_enum_value, is_map, message_without_maps, messages_without_maps, file_without_maps, ListsEnumMaps}
use Rattle.pb_link.proofs.ResolvedNestLemmas.{each_resolved}

-- ---- one element of a list after another

-- those below an index are changed, and the others as they were
abbrev pub ChangedBelow : {X A : Type 0} → (X → A) → (A → A) → ℕ → List A → List X → Type 0
ChangedBelow view f i old now = map view now ≡ map f (take i old) ++ drop i old

next_changed : {X A : Type 0} (view : X → A) (f : A → A) (now : List X) (old : List A) (i : ℕ) (x y : X) → i < length now → ChangedBelow view f i old now
    → view y ≡ f (view (get_or now i x)) → ChangedBelow view f (suc i) old (set now i y)
next_changed view f [] old i x y less e new = absurd (omega (arith, less))
next_changed view f (z ∷ zs) [] zero x y less e new = absurd (cc)
next_changed view f (z ∷ zs) (o ∷ os) zero x y less e new =
    let a : view z ≡ o = cc in
    let b : map view zs ≡ os = cc in
    ap (λ w. w ∷ map view zs) (new ∙ ap f a) ∙ ap (λ l. f o ∷ l) b
next_changed view f (z ∷ zs) [] (suc i) x y less e new = absurd (cc)
next_changed view f (z ∷ zs) (o ∷ os) (suc i) x y less e new =
    let a : view z ≡ f o = cc in
    let b : map view zs ≡ map f (take i os) ++ drop i os = cc in
    ap (λ w. w ∷ map view (set zs i y)) a ∙ ap (λ l. f o ∷ l) (next_changed view f zs os i x y (omega (arith, less)) b new)

-- the element at the index too
pub one_changed : {X A : Type 0} (view : X → A) (f : A → A) (now : List X) (old : List A) (i : ℕ) (x y : X) → i < length now → ChangedBelow view f i old now
    → view y ≡ f (view (get_or now i x)) → ChangedBelow view f (i + 1) old (set now i y)
one_changed view f now old i x y less e new =
    let next : suc i ≡ i + 1 = omega arith in
    subst (λ n. ChangedBelow view f n old (set now i y)) next (next_changed view f now old i x y less e new)

pub all_changed : {X A : Type 0} (view : X → A) (f : A → A) (now : List X) (old : List A) (i : ℕ) → length now ≤ i → ChangedBelow view f i old now → map view now ≡ map f old
all_changed view f [] [] i less e = refl
all_changed view f [] (o ∷ os) zero less e = absurd (cc)
all_changed view f [] (o ∷ os) (suc i) less e = absurd (cc)
all_changed view f (z ∷ zs) old zero less e = absurd (omega (arith, less))
all_changed view f (z ∷ zs) [] (suc i) less e = absurd (cc)
all_changed view f (z ∷ zs) (o ∷ os) (suc i) less e =
    let a : view z ≡ f o = cc in
    let b : map view zs ≡ map f (take i os) ++ drop i os = cc in
    ap (λ w. w ∷ map view zs) a ∙ ap (λ l. f o ∷ l) (all_changed view f zs os i (omega (arith, less)) b)

-- ---- a message

any_viewed : {X A : Type 0} (p : A → Bool) (view : X → A) (xs : List X) → list_any p (map view xs) ≡ list_any (λ x. p (view x)) xs
any_viewed p view [] = refl
any_viewed p view (x ∷ xs) = ap (λ b. p (view x) || b) (any_viewed p view xs)

-- whether it stays the entry of a map, by its parts
pub is_map_parts : (m : MessageDecl) → is_map (head_of (message_view m)) ≡ ((out-MessageDecl m).map_entry && not (list_any (λ f. is_enum_value (field_view f)) (out-MessageDecl m).fields.items))
is_map_parts m =
    ap (λ v. is_map (head_of v)) (message_view-parts m)
    ∙ ap (λ b. (out-MessageDecl m).map_entry && not b) (any_viewed is_enum_value field_view (out-MessageDecl m).fields.items)

pub messages_listed : (ms : List DeclaredMessage) → messages_of (map message_without_maps ms) ≡ messages_without_maps (messages_of ms)
messages_listed [] = refl
messages_listed (m ∷ ms) = ap (more_messages (message_without_maps m)) (messages_listed ms)

-- a message whose mark is set, and then its messages
abbrev pub with_mark : MessageDecl → Bool → MessageDecl
with_mark m mark = roll-MessageDecl record (out-MessageDecl m) { map_entry = mark }

pub same_messages : (m : MessageDecl) (mark : Bool) → (out-MessageDecl (with_mark m mark)).messages ≡ (out-MessageDecl m).messages
same_messages m mark = search (rules, message_lemmas)

set_view : (m : MessageDecl) (mark : Bool) (messages : Vec MessageDecl Global) → message_view (roll-MessageDecl record (out-MessageDecl (with_mark m mark)) { messages = messages })
    ≡ message (record {
      name = string_bytes (out-MessageDecl m).name;
      fields = map field_view (out-MessageDecl m).fields.items;
      enums = map enum_view (out-MessageDecl m).enums.items;
      oneofs = map string_bytes (out-MessageDecl m).oneofs.items;
      reserved = (out-MessageDecl m).reserved.items;
      reserved_names = map string_bytes (out-MessageDecl m).reserved_names.items;
      is_entry = mark;
    }) (messages_of (map message_view messages.items))
set_view m mark messages = search (rules, message_lemmas)

pub message_changed : (m : MessageDecl) (mark : Bool) (messages : Vec MessageDecl Global) → mark ≡ is_map (head_of (message_view m))
    → map message_view messages.items ≡ map message_without_maps (map message_view (out-MessageDecl m).messages.items)
    → message_view (roll-MessageDecl record (out-MessageDecl (with_mark m mark)) { messages = messages }) ≡ message_without_maps (message_view m)
message_changed m mark messages marked inner =
    let own : mark ≡ ((out-MessageDecl m).map_entry && not (list_any is_enum_value (map field_view (out-MessageDecl m).fields.items))) = marked ∙ ap (λ v. is_map (head_of v)) (message_view-parts m) in
    set_view m mark messages
    ∙ (λ k. message (record {
      name = string_bytes (out-MessageDecl m).name;
      fields = map field_view (out-MessageDecl m).fields.items;
      enums = map enum_view (out-MessageDecl m).enums.items;
      oneofs = map string_bytes (out-MessageDecl m).oneofs.items;
      reserved = (out-MessageDecl m).reserved.items;
      reserved_names = map string_bytes (out-MessageDecl m).reserved_names.items;
      is_entry = own k;
    }) ((ap messages_of inner ∙ messages_listed (map message_view (out-MessageDecl m).messages.items)) k))
    ∙ ap message_without_maps (sym (message_view-parts m))

-- ---- a file of proto2

pub file_changed : (f : FileDecl) (messages : Vec MessageDecl Global) → f.proto2 ≡ true → map message_view messages.items ≡ map message_without_maps (map message_view f.messages.items)
    → file_view (record f { messages = messages }) ≡ file_without_maps (file_view f)
file_changed f messages two inner =
    ap (λ ms. record (file_view f) { messages = ms }) (ap messages_of inner ∙ messages_listed (map message_view f.messages.items))
    ∙ ap (λ b. if b then record (file_view f) { messages = messages_without_maps (file_view f).messages } else file_view f) (sym two)

-- ---- all files

-- there is one answer
pub lists_same : (files answer other : List DeclaredFile) → ListsEnumMaps files answer → ListsEnumMaps files other → answer ≡ other
lists_same files answer other a b =
    a.made ∙ ap (λ w. map file_without_maps (resolved_files w files)) (one_world files a.world b.world a.is_world b.is_world) ∙ sym b.made

-- an entry without its mark nests as with it
mutual
  unmarked_nests : (m : DeclaredMessage) → nests (message_without_maps m) ≡ nests m
  unmarked_nests (message head inner) = ap suc (all_unmarked_nest inner)

  all_unmarked_nest : (ms : DeclaredMessages) → all_nest (messages_without_maps ms) ≡ all_nest ms
  all_unmarked_nest no_messages = refl
  all_unmarked_nest (more_messages m ms) = (λ k. max (unmarked_nests m k) (all_unmarked_nest ms k))

file_nests : (two : Bool) (f : DeclaredFile) → all_nest (if two then record f { messages = messages_without_maps f.messages } else f).messages ≡ all_nest f.messages
file_nests true f = all_unmarked_nest f.messages
file_nests false f = refl

each_unmarked : (k : ℕ) (fs : List DeclaredFile) → AllByRecursion (λ f. all_nest f.messages ≤ k) fs → AllByRecursion (λ f. all_nest f.messages ≤ k) (map file_without_maps fs)
each_unmarked k [] h = tt
each_unmarked k (f ∷ fs) h = (subst (λ n. n ≤ k) (sym (file_nests f.is_proto2 f)) h.0, each_unmarked k fs h.1)

pub lists_within : (files answer : List DeclaredFile) (k : ℕ) → ListsEnumMaps files answer → AllByRecursion (λ f. all_nest f.messages ≤ k) files → AllByRecursion (λ f. all_nest f.messages ≤ k) answer
lists_within files answer k l h =
    subst (λ fs. AllByRecursion (λ f. all_nest f.messages ≤ k) fs) (sym l.made) (each_unmarked k (resolved_files l.world files) (each_resolved l.world k 0 files h))
