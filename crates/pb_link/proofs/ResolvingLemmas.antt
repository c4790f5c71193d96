-- The loops that resolve declarations: each of some in turn, by what is coming.
use Rattle.std.proofs.Common.{◌≡◌, ℕ, ◌+◌, ◌<◌, ◌≤◌, List, [], ◌∷◌, ◌++◌, length, map, drop, get_or, refl, sym, ap, ◌∙◌, append_assoc, append-nil}
use Rattle.std.proofs.lemmas.List.{map-append, drop_all}
use Rattle.pb_declarations.specs.Decls.{DeclaredEnum, DeclaredField, MessageHead, DeclaredMessage, message, more_messages, messages_of}
use Rattle.pb_link_names.specs.Declarations.{Declaration, head_of}
use Rattle.pb_link_names.specs.Lookup.{Found}
use Rattle.pb_link.specs.Resolving.{each_read, each_behind, behind_one, behind_enum, behind_head, behind_message, behind_messages, head_read, message_read, messages_read}
use Rattle.pb_link.proofs.PartLemmas.{rest_more}
use Rattle.pb_link_names.proofs.RowLemmas.{inner_of}

pub read_more : {A X V Y Z : Type 0} (read : List A → V → Z) (behind : V → List A → List A) (view : X → V) (see : Y → Z) (xs : List X) (i : ℕ) (x : X) (held now : List Y) (y : Y) (ns next : List A) (whole : List Z) → i < length xs → x ≡ get_or xs i x → now ≡ held ++ y ∷ [] → see y ≡ read ns (view x) → next ≡ behind (view x) ns → map see held ++ each_read read behind ns (map view (drop i xs)) ≡ whole → map see now ++ each_read read behind next (map view (drop (i + 1) xs)) ≡ whole
read_more read behind view see xs i x held now y ns next whole h there pushed made went invariant =
    let rest = map view (drop (i + 1) xs) in
    ap (λ l. map see l ++ each_read read behind next rest) pushed
    ∙ ap (λ l. l ++ each_read read behind next rest) (map-append see held (y ∷ []))
    ∙ append_assoc (map see held) (see y ∷ []) (each_read read behind next rest)
    ∙ (λ j. map see held ++ (made j ∷ each_read read behind (went j) rest))
    ∙ ap (λ l. map see held ++ each_read read behind ns l) (sym (rest_more view xs i x h there))
    ∙ invariant

pub behind_more : {A X V : Type 0} (behind : V → List A → List A) (view : X → V) (xs : List X) (i : ℕ) (x : X) (ns next whole : List A) → i < length xs → x ≡ get_or xs i x → next ≡ behind (view x) ns → each_behind behind (map view (drop i xs)) ns ≡ whole → each_behind behind (map view (drop (i + 1) xs)) next ≡ whole
behind_more behind view xs i x ns next whole h there went invariant =
    ap (each_behind behind (map view (drop (i + 1) xs))) went
    ∙ ap (λ l. each_behind behind l ns) (sym (rest_more view xs i x h there))
    ∙ invariant

-- messages of a list, and as what is declared in a message or a file
pub messages_listed : (ds : List Declaration) (ns : List (List Found)) (ms : List DeclaredMessage) → messages_of (each_read (message_read ds) behind_message ns ms) ≡ messages_read ds ns (messages_of ms)
messages_listed ds ns [] = refl
messages_listed ds ns (m ∷ ms) = ap (more_messages (message_read ds ns m)) (messages_listed ds (behind_message m ns) ms)

pub messages_behind : {A : Type 0} (ms : List DeclaredMessage) (ns : List A) → each_behind behind_message ms ns ≡ behind_messages (messages_of ms) ns
messages_behind [] ns = refl
messages_behind (m ∷ ms) ns = messages_behind ms (behind_message m ns)

pub read_end : {A X V Y Z : Type 0} (read : List A → V → Z) (behind : V → List A → List A) (view : X → V) (see : Y → Z) (xs : List X) (i : ℕ) (held : List Y) (ns : List A) (whole : List Z) → length xs ≤ i → map see held ++ each_read read behind ns (map view (drop i xs)) ≡ whole → map see held ≡ whole
read_end read behind view see xs i held ns whole past invariant =
    sym (append-nil (map see held)) ∙ ap (λ l. map see held ++ each_read read behind ns (map view l)) (sym (drop_all i xs past)) ∙ invariant

pub behind_end : {A X V : Type 0} (behind : V → List A → List A) (view : X → V) (xs : List X) (i : ℕ) (ns whole : List A) → length xs ≤ i → each_behind behind (map view (drop i xs)) ns ≡ whole → ns ≡ whole
behind_end behind view xs i ns whole past invariant = ap (λ l. each_behind behind (map view l) ns) (sym (drop_all i xs past)) ∙ invariant

-- A MESSAGE, by what its parts come to

message_parts : (ds : List Declaration) (ns : List (List Found)) (t : DeclaredMessage) → message (head_read ds ns (head_of t)) (messages_read ds (behind_head (head_of t) ns) (inner_of t)) ≡ message_read ds ns t
message_parts ds ns (message head inner) = refl

pub message_made : (ds : List Declaration) (ns after : List (List Found)) (t made : DeclaredMessage) (head : MessageHead) (ms inner : List DeclaredMessage) → made ≡ message head (messages_of inner) → head ≡ head_read ds ns (head_of t) → after ≡ behind_head (head_of t) ns → messages_of ms ≡ inner_of t → inner ≡ each_read (message_read ds) behind_message after ms → made ≡ message_read ds ns t
message_made ds ns after t made head ms inner built heads went same read =
    built ∙ ap (λ h. message h (messages_of inner)) heads
    ∙ ap (message (head_read ds ns (head_of t))) (ap messages_of read ∙ messages_listed ds after ms ∙ ap (messages_read ds after) same ∙ ap (λ l. messages_read ds l (inner_of t)) went)
    ∙ message_parts ds ns t

behind_parts : {A : Type 0} (ns : List A) (t : DeclaredMessage) → each_behind behind_enum (head_of t).enums (behind_messages (inner_of t) (behind_head (head_of t) ns)) ≡ behind_message t ns
behind_parts ns (message head inner) = refl

pub message_went : {A : Type 0} (ns after mid last : List A) (t : DeclaredMessage) (ms : List DeclaredMessage) (es : List DeclaredEnum) → after ≡ behind_head (head_of t) ns → messages_of ms ≡ inner_of t → mid ≡ each_behind behind_message ms after → es ≡ (head_of t).enums → last ≡ each_behind behind_enum es mid → last ≡ behind_message t ns
message_went ns after mid last t ms es went same inner enums ends =
    ends ∙ ap (λ l. each_behind behind_enum l mid) enums
    ∙ ap (each_behind behind_enum (head_of t).enums) (inner ∙ messages_behind ms after ∙ ap (λ l. behind_messages l after) same ∙ ap (behind_messages (inner_of t)) went)
    ∙ behind_parts ns t

-- after the message itself, its fields and its oneofs
pub head_went : {A : Type 0} (ns one fields after : List A) (head : MessageHead) (fs : List DeclaredField) (n : ℕ) → one ≡ drop 1 ns → fs ≡ head.fields → fields ≡ each_behind behind_one fs one → n ≡ length head.oneofs → after ≡ drop n fields → after ≡ behind_head head ns
head_went ns one fields after head fs n first same behind size ends =
    ends ∙ ap (λ k. drop k fields) size
    ∙ ap (drop (length head.oneofs)) (behind ∙ ap (λ l. each_behind behind_one l one) same ∙ ap (each_behind behind_one head.fields) first)
