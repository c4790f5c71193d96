-- A row of declarations that grows by one.
use Rattle.std.proofs.Common.{◌≡◌, ℕ, ◌+◌, ◌<◌, List, [], ◌∷◌, ◌++◌, length, map, take, get_or, sym, ap, ◌∙◌, arith, add-zero, zero-add, length-append}
use Rattle.std.specs.List.{enumerate_from}
use Rattle.std.proofs.lemmas.List.{append_assoc, append-nil, take_more, map-append, length-map, length-take}
use Rattle.pb_schema.specs.Names.{in_scope}
use Rattle.pb_declarations.specs.Decls.{DeclaredEnum, DeclaredMessage, message, DeclaredMessages, messages_of, DeclaredService, DeclaredFile}
use Rattle.pb_link_names.specs.Declarations.{Declaration, head_of, head_row, enum_declared, enums_declared, message_declared, messages_declared, service_declared, services_declared, file_declared, files_declared}

enumerate-append : {X : Type 0} (n : ℕ) (xs : List X) (x : X) → enumerate_from n (xs ++ x ∷ []) ≡ enumerate_from n xs ++ (n + length xs, x) ∷ []
enumerate-append n [] x = ap (λ k. (k, x) ∷ []) (sym (add-zero n))
enumerate-append n (y ∷ ys) x =
    let move : n + 1 + length ys ≡ n + length (y ∷ ys) = omega arith in
    ap (λ zs. (n, y) ∷ zs) (enumerate-append (n + 1) ys x ∙ ap (λ k. enumerate_from (n + 1) ys ++ (k, x) ∷ []) move)

-- one more of a list with its indexes
pub enumerate_more : {X Y Z : Type 0} (f : ℕ × Y → Z) (view : X → Y) (xs : List X) (i : ℕ) (d : X) → i < length xs → map f (enumerate_from 0 (map view (take (i + 1) xs))) ≡ map f (enumerate_from 0 (map view (take i xs))) ++ f (i, view (get_or xs i d)) ∷ []
enumerate_more f view xs i d h =
    let shown : map view (take (i + 1) xs) ≡ map view (take i xs) ++ view (get_or xs i d) ∷ [] = ap (map view) (take_more xs i d h) ∙ map-append view (take i xs) (get_or xs i d ∷ []) in
    let size : 0 + length (map view (take i xs)) ≡ i = omega (arith, length-map (take i xs) view, length-take i xs) in
    ap (λ ys. map f (enumerate_from 0 ys)) shown
    ∙ ap (map f) (enumerate-append 0 (map view (take i xs)) (view (get_or xs i d)))
    ∙ map-append f (enumerate_from 0 (map view (take i xs))) ((0 + length (map view (take i xs)), view (get_or xs i d)) ∷ [])
    ∙ ap (λ k. map f (enumerate_from 0 (map view (take i xs))) ++ f (k, view (get_or xs i d)) ∷ []) size

pub enums-append : (file parent : ℕ) (scope : List ℕ) (place : ℕ) (es : List DeclaredEnum) (e : DeclaredEnum) → enums_declared file parent scope place (es ++ e ∷ []) ≡ enums_declared file parent scope place es ++ enum_declared file parent scope (place + length (enums_declared file parent scope place es)) e
enums-append file parent scope place [] e =
    append-nil (enum_declared file parent scope place e) ∙ ap (λ k. enum_declared file parent scope k e) (sym (add-zero place))
enums-append file parent scope place (x ∷ es) e =
    let own : List Declaration = enum_declared file parent scope place x in
    let rest : List Declaration = enums_declared file parent scope (place + length own) es in
    let move : place + length own + length rest ≡ place + length (own ++ rest) = omega (arith, length-append own rest) in
    ap (λ ys. own ++ ys) (enums-append file parent scope (place + length own) es e)
    ∙ sym (append_assoc own rest (enum_declared file parent scope (place + length own + length rest) e))
    ∙ ap (λ k. own ++ rest ++ enum_declared file parent scope k e) move

-- a row that has grown by one more of a list with its indexes
pub grown : {X Y Z : Type 0} (f : ℕ × Y → Z) (view : X → Y) (xs : List X) (i : ℕ) (x : X) (before held now : List Z) → i < length xs → x ≡ get_or xs i x → held ≡ before ++ map f (enumerate_from 0 (map view (take i xs))) → now ≡ held ++ f (i, view x) ∷ [] → now ≡ before ++ map f (enumerate_from 0 (map view (take (i + 1) xs)))
grown f view xs i x before held now h there invariant adds =
    let shown = map f (enumerate_from 0 (map view (take i xs))) in
    adds ∙ ap (λ r. r ++ f (i, view x) ∷ []) invariant ∙ append_assoc before shown (f (i, view x) ∷ [])
    ∙ ap (λ r. before ++ r) (ap (λ y. shown ++ f (i, view y) ∷ []) there ∙ sym (enumerate_more f view xs i x h))

pub enums_grown : {X : Type 0} (view : X → DeclaredEnum) (file parent : ℕ) (scope : List ℕ) (place : ℕ) (xs : List X) (i : ℕ) (x : X) (before held now : List Declaration) → i < length xs → x ≡ get_or xs i x → length before ≡ place → held ≡ before ++ enums_declared file parent scope place (map view (take i xs)) → now ≡ held ++ enum_declared file parent scope (length held) (view x) → now ≡ before ++ enums_declared file parent scope place (map view (take (i + 1) xs))
enums_grown view file parent scope place xs i x before held now h there size invariant adds =
    let shown = enums_declared file parent scope place (map view (take i xs)) in
    let at : length held ≡ place + length shown = ap length invariant ∙ length-append before shown ∙ ap (λ k. k + length shown) size in
    let more : map view (take (i + 1) xs) ≡ map view (take i xs) ++ view x ∷ [] = ap (map view) (take_more xs i x h) ∙ map-append view (take i xs) (get_or xs i x ∷ []) ∙ ap (λ y. map view (take i xs) ++ view y ∷ []) (sym there) in
    adds ∙ ap (λ k. held ++ enum_declared file parent scope k (view x)) at ∙ ap (λ r. r ++ enum_declared file parent scope (place + length shown) (view x)) invariant
    ∙ append_assoc before shown (enum_declared file parent scope (place + length shown) (view x))
    ∙ ap (λ r. before ++ r) (sym (enums-append file parent scope place (map view (take i xs)) (view x)) ∙ ap (enums_declared file parent scope place) (sym more))

messages-append : (file parent : ℕ) (scope : List ℕ) (place : ℕ) (ms : List DeclaredMessage) (m : DeclaredMessage) → messages_declared file parent scope place (messages_of (ms ++ m ∷ [])) ≡ messages_declared file parent scope place (messages_of ms) ++ message_declared file parent scope (place + length (messages_declared file parent scope place (messages_of ms))) m
messages-append file parent scope place [] m =
    append-nil (message_declared file parent scope place m) ∙ ap (λ k. message_declared file parent scope k m) (sym (add-zero place))
messages-append file parent scope place (x ∷ ms) m =
    let own : List Declaration = message_declared file parent scope place x in
    let rest : List Declaration = messages_declared file parent scope (place + length own) (messages_of ms) in
    let move : place + length own + length rest ≡ place + length (own ++ rest) = omega (arith, length-append own rest) in
    ap (λ ys. own ++ ys) (messages-append file parent scope (place + length own) ms m)
    ∙ sym (append_assoc own rest (message_declared file parent scope (place + length own + length rest) m))
    ∙ ap (λ k. own ++ rest ++ message_declared file parent scope k m) move

pub messages_grown : {X : Type 0} (view : X → DeclaredMessage) (file parent : ℕ) (scope : List ℕ) (place : ℕ) (xs : List X) (i : ℕ) (x : X) (before held now : List Declaration) → i < length xs → x ≡ get_or xs i x → length before ≡ place → held ≡ before ++ messages_declared file parent scope place (messages_of (map view (take i xs))) → now ≡ held ++ message_declared file parent scope (length held) (view x) → now ≡ before ++ messages_declared file parent scope place (messages_of (map view (take (i + 1) xs)))
messages_grown view file parent scope place xs i x before held now h there size invariant adds =
    let shown = messages_declared file parent scope place (messages_of (map view (take i xs))) in
    let at : length held ≡ place + length shown = ap length invariant ∙ length-append before shown ∙ ap (λ k. k + length shown) size in
    let more : map view (take (i + 1) xs) ≡ map view (take i xs) ++ view x ∷ [] = ap (map view) (take_more xs i x h) ∙ map-append view (take i xs) (get_or xs i x ∷ []) ∙ ap (λ y. map view (take i xs) ++ view y ∷ []) (sym there) in
    adds ∙ ap (λ k. held ++ message_declared file parent scope k (view x)) at ∙ ap (λ r. r ++ message_declared file parent scope (place + length shown) (view x)) invariant
    ∙ append_assoc before shown (message_declared file parent scope (place + length shown) (view x))
    ∙ ap (λ r. before ++ r) (sym (messages-append file parent scope place (map view (take i xs)) (view x)) ∙ ap (λ ys. messages_declared file parent scope place (messages_of ys)) (sym more))

three : (before H own N nested E now : List Declaration) → own ≡ before ++ H → nested ≡ own ++ N → now ≡ nested ++ E → now ≡ before ++ (H ++ N ++ E)
three before H own N nested E now own_is nested_is now_is =
    now_is ∙ ap (λ r. r ++ E) (nested_is ∙ ap (λ r. r ++ N) own_is) ∙ ap (λ r. r ++ E) (append_assoc before H N) ∙ append_assoc before (H ++ N) E

abbrev pub inner_of : DeclaredMessage → DeclaredMessages
inner_of (message head inner) = inner

-- a row that has grown by a message: itself, those in it, and its enums
pub message_grown : (t : DeclaredMessage) (file parent : ℕ) (scope name : List ℕ) (place : ℕ) (before own nested now : List Declaration) → length before ≡ place → name ≡ in_scope scope (head_of t).name → own ≡ before ++ head_row file parent scope name place t → nested ≡ own ++ messages_declared file place name (length own) (inner_of t) → now ≡ nested ++ enums_declared file place name (length nested) (head_of t).enums → now ≡ before ++ message_declared file parent scope place t
message_grown (message head inner) file parent scope name place before own nested now size named heads holds ends =
    let n = in_scope scope head.name in
    let H = head_row file parent scope n place (message head inner) in
    let N = messages_declared file place n (place + length H) inner in
    let E = enums_declared file place n (place + length H + length N) head.enums in
    let own_is : own ≡ before ++ H = heads ∙ ap (λ m. before ++ head_row file parent scope m place (message head inner)) named in
    let own_size : length own ≡ place + length H = ap length own_is ∙ length-append before H ∙ ap (λ k. k + length H) size in
    let nested_is : nested ≡ own ++ N = holds ∙ ap (λ m. own ++ messages_declared file place m (length own) inner) named ∙ ap (λ k. own ++ messages_declared file place n k inner) own_size in
    let nested_size : length nested ≡ place + length H + length N = ap length nested_is ∙ length-append own N ∙ ap (λ k. k + length N) own_size in
    let now_is : now ≡ nested ++ E = ends ∙ ap (λ m. nested ++ enums_declared file place m (length nested) head.enums) named ∙ ap (λ k. nested ++ enums_declared file place n k head.enums) nested_size in
    three before H own N nested E now own_is nested_is now_is

-- the same, as the code has it: its place, its parts and the lengths of the row are known by equations
pub message_added : (t : DeclaredMessage) (file parent : ℕ) (scope name : List ℕ) (place : ℕ) (before own nested now : List Declaration) (p k l : ℕ) (ms : DeclaredMessages) (es : List DeclaredEnum) → length before ≡ place → p ≡ place → k ≡ length own → l ≡ length nested → ms ≡ inner_of t → es ≡ (head_of t).enums → name ≡ in_scope scope (head_of t).name → own ≡ before ++ head_row file parent scope name place t → nested ≡ own ++ messages_declared file p name k ms → now ≡ nested ++ enums_declared file p name l es → now ≡ before ++ message_declared file parent scope place t
message_added t file parent scope name place before own nested now p k l ms es size at k_is l_is ms_is es_is named heads holds ends =
    message_grown t file parent scope name place before own nested now size named heads
    (holds ∙ ap (λ q. own ++ messages_declared file q name k ms) at ∙ ap (λ q. own ++ messages_declared file place name q ms) k_is ∙ ap (λ q. own ++ messages_declared file place name (length own) q) ms_is)
    (ends ∙ ap (λ q. nested ++ enums_declared file q name l es) at ∙ ap (λ q. nested ++ enums_declared file place name q es) l_is ∙ ap (λ q. nested ++ enums_declared file place name (length nested) q) es_is)

services-append : (file parent : ℕ) (scope : List ℕ) (place : ℕ) (ss : List DeclaredService) (s : DeclaredService) → services_declared file parent scope place (ss ++ s ∷ []) ≡ services_declared file parent scope place ss ++ service_declared file parent scope (place + length (services_declared file parent scope place ss)) s
services-append file parent scope place [] s =
    append-nil (service_declared file parent scope place s) ∙ ap (λ k. service_declared file parent scope k s) (sym (add-zero place))
services-append file parent scope place (x ∷ ss) s =
    let own : List Declaration = service_declared file parent scope place x in
    let rest : List Declaration = services_declared file parent scope (place + length own) ss in
    let move : place + length own + length rest ≡ place + length (own ++ rest) = omega (arith, length-append own rest) in
    ap (λ ys. own ++ ys) (services-append file parent scope (place + length own) ss s)
    ∙ sym (append_assoc own rest (service_declared file parent scope (place + length own + length rest) s))
    ∙ ap (λ k. own ++ rest ++ service_declared file parent scope k s) move

pub services_grown : {X : Type 0} (view : X → DeclaredService) (file parent : ℕ) (scope : List ℕ) (place : ℕ) (xs : List X) (i : ℕ) (x : X) (before held now : List Declaration) → i < length xs → x ≡ get_or xs i x → length before ≡ place → held ≡ before ++ services_declared file parent scope place (map view (take i xs)) → now ≡ held ++ service_declared file parent scope (length held) (view x) → now ≡ before ++ services_declared file parent scope place (map view (take (i + 1) xs))
services_grown view file parent scope place xs i x before held now h there size invariant adds =
    let shown = services_declared file parent scope place (map view (take i xs)) in
    let at : length held ≡ place + length shown = ap length invariant ∙ length-append before shown ∙ ap (λ k. k + length shown) size in
    let more : map view (take (i + 1) xs) ≡ map view (take i xs) ++ view x ∷ [] = ap (map view) (take_more xs i x h) ∙ map-append view (take i xs) (get_or xs i x ∷ []) ∙ ap (λ y. map view (take i xs) ++ view y ∷ []) (sym there) in
    adds ∙ ap (λ k. held ++ service_declared file parent scope k (view x)) at ∙ ap (λ r. r ++ service_declared file parent scope (place + length shown) (view x)) invariant
    ∙ append_assoc before shown (service_declared file parent scope (place + length shown) (view x))
    ∙ ap (λ r. before ++ r) (sym (services-append file parent scope place (map view (take i xs)) (view x)) ∙ ap (services_declared file parent scope place) (sym more))

files-append : (file place : ℕ) (fs : List DeclaredFile) (f : DeclaredFile) → files_declared file place (fs ++ f ∷ []) ≡ files_declared file place fs ++ file_declared (file + length fs) (place + length (files_declared file place fs)) f
files-append file place [] f =
    append-nil (file_declared file place f) ∙ ap (λ k. file_declared k place f) (sym (add-zero file)) ∙ ap (λ k. file_declared (file + 0) k f) (sym (add-zero place))
files-append file place (x ∷ fs) f =
    let own : List Declaration = file_declared file place x in
    let rest : List Declaration = files_declared (file + 1) (place + length own) fs in
    let move : place + length own + length rest ≡ place + length (own ++ rest) = omega (arith, length-append own rest) in
    let next : file + 1 + length fs ≡ file + length (x ∷ fs) = omega arith in
    ap (λ ys. own ++ ys) (files-append (file + 1) (place + length own) fs f)
    ∙ sym (append_assoc own rest (file_declared (file + 1 + length fs) (place + length own + length rest) f))
    ∙ ap (λ k. own ++ rest ++ file_declared k (place + length own + length rest) f) next
    ∙ ap (λ k. own ++ rest ++ file_declared (file + length (x ∷ fs)) k f) move

pub files_grown : {X : Type 0} (view : X → DeclaredFile) (xs : List X) (i : ℕ) (x : X) (held now : List Declaration) → i < length xs → x ≡ get_or xs i x → held ≡ files_declared 0 0 (map view (take i xs)) → now ≡ held ++ file_declared i (length held) (view x) → now ≡ files_declared 0 0 (map view (take (i + 1) xs))
files_grown view xs i x held now h there invariant adds =
    let shown = files_declared 0 0 (map view (take i xs)) in
    let at : length held ≡ 0 + length shown = ap length invariant ∙ sym (zero-add (length shown)) in
    let index : i ≡ 0 + length (map view (take i xs)) = omega (arith, length-map (take i xs) view, length-take i xs) in
    let more : map view (take (i + 1) xs) ≡ map view (take i xs) ++ view x ∷ [] = ap (map view) (take_more xs i x h) ∙ map-append view (take i xs) (get_or xs i x ∷ []) ∙ ap (λ y. map view (take i xs) ++ view y ∷ []) (sym there) in
    adds ∙ ap (λ k. held ++ file_declared i k (view x)) at ∙ ap (λ k. held ++ file_declared k (0 + length shown) (view x)) index
    ∙ ap (λ r. r ++ file_declared (0 + length (map view (take i xs))) (0 + length shown) (view x)) invariant
    ∙ sym (files-append 0 0 (map view (take i xs)) (view x)) ∙ ap (files_declared 0 0) (sym more)
