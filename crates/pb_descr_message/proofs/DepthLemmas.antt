-- How deep the messages are that declarations are written as.
use Rattle.std.proofs.Common.{◌≡◌, ℕ, zero, suc, ◌<◌, ◌≤◌, List, [], ◌∷◌, map, length, get_or, take, Option, Some, None, refl, sym, ap, ◌∙◌, subst, arith}
use Rattle.pb_schema.proofs.AddLemmas.{take_past}
use Rattle.pb_value.specs.Data.{Datum, datums_of, datums_depth, levels_of, Holding, holding_depth, Fields, fields_depth, message_depth}
use Rattle.pb_descr_message.specs.declared.error.WriteSetError.{WriteSetError}
use Rattle.pb_descr_message.specs.declared.error.WriteSetError.TheVariants.{TooDeep, TooLarge, Memory}
use Rattle.pb_declarations.specs.declared.decl.MessageDecl.{MessageDecl}
use Rattle.pb_declarations.specs.Decls.{DeclaredMessage, message, messages_of, inner_of, DeclaredFile}
use Rattle.pb_declarations.specs.View.{message_view}
use Rattle.pb_descr_message.specs.Writing.{with_field, fields_with, a_list, message_contents, message_body, message_bodies, file_contents, file_body, set_body}
use Rattle.pb_descr_message.specs.Sets.{CutAt}

abbrev pub option_depth : Option Holding → ℕ
option_depth None = 0
option_depth (Some h) = holding_depth h

-- what stands first is no deeper than all
first_below : (n : ℕ) (o : Option Holding) (fs : Fields) → option_depth o ≤ fields_depth (with_field n o fs)
first_below n None fs = omega arith
first_below n (Some h) fs = omega arith

rest_below : (n : ℕ) (o : Option Holding) (fs : Fields) → fields_depth fs ≤ fields_depth (with_field n o fs)
rest_below n None fs = omega arith
rest_below n (Some h) fs = omega arith

pub list_depth : (ds : List Datum) → option_depth (a_list ds) ≡ datums_depth (datums_of ds)
list_depth [] = refl
list_depth (d ∷ ds) = refl

-- what stands at an index is no deeper than all
abbrev depth_at : ℕ → List (ℕ × Option Holding) → ℕ
depth_at i [] = 0
depth_at zero (e ∷ es) = option_depth e.1
depth_at (suc i) (e ∷ es) = depth_at i es

at_below : (i : ℕ) (es : List (ℕ × Option Holding)) → depth_at i es ≤ fields_depth (fields_with es)
at_below i [] = omega arith
at_below zero (e ∷ es) = first_below e.0 e.1 (fields_with es)
at_below (suc i) (e ∷ es) = let later = at_below i es in let more = rest_below e.0 e.1 (fields_with es) in omega arith

-- the messages inside a message are below it
pub inner_below : (m : DeclaredMessage) → datums_depth (datums_of (message_bodies (inner_of m))) < levels_of (message_body m)
inner_below (message head inner) =
    let all : option_depth (a_list (message_bodies inner)) ≤ fields_depth (fields_with (message_contents head (message_bodies inner))) = at_below 2 (message_contents head (message_bodies inner)) in
    let same = list_depth (message_bodies inner) in
    omega arith

-- so are the messages of a file below the file
pub messages_below : (f : DeclaredFile) → datums_depth (datums_of (message_bodies f.messages)) < levels_of (file_body f)
messages_below f =
    let all : option_depth (a_list (message_bodies f.messages)) ≤ fields_depth (fields_with (file_contents f)) = at_below 3 (file_contents f) in
    let same = list_depth (message_bodies f.messages) in
    omega arith

-- a set is as deep as its files
pub files_below : (fs : List DeclaredFile) → datums_depth (datums_of (map file_body fs)) ≤ message_depth (set_body fs)
files_below fs =
    let all : option_depth (a_list (map file_body fs)) ≤ fields_depth (fields_with ((1, a_list (map file_body fs)) ∷ [])) = at_below 0 ((1, a_list (map file_body fs)) ∷ []) in
    let same = list_depth (map file_body fs) in
    let own : fields_depth (fields_with ((1, a_list (map file_body fs)) ∷ [])) ≤ message_depth (set_body fs) = omega arith in
    omega arith

-- what an element of a list is written as is no deeper than the list
pub element_below :
    {X Y : Type 0} (view : X → Y) (w : Y → Datum) (xs : List X) (i : ℕ) (x : X) → i < length xs → x ≡ get_or xs i x → levels_of (w (view x)) ≤ datums_depth (datums_of (map w (map view xs)))
element_below view w [] i x within is = absurd (omega (arith, within))
element_below view w (y ∷ ys) zero x within is = let e : levels_of (w (view x)) ≡ levels_of (w (view y)) = ap (λ z. levels_of (w (view z))) is in omega arith
element_below view w (y ∷ ys) (suc i) x within is = let later = element_below view w ys i x (omega (arith, within)) is in omega arith

pub bodies_map : (ms : List DeclaredMessage) → message_bodies (messages_of ms) ≡ map message_body ms
bodies_map [] = refl
bodies_map (m ∷ ms) = ap (λ ds. message_body m ∷ ds) (bodies_map ms)

pub message_below :
    (ms : List MessageDecl) (i : ℕ) (m : MessageDecl) → i < length ms → m ≡ get_or ms i m → levels_of (message_body (message_view m)) ≤ datums_depth (datums_of (message_bodies (messages_of (map message_view ms))))
message_below ms i m within is =
    subst (λ ds. levels_of (message_body (message_view m)) ≤ datums_depth (datums_of ds)) (sym (bodies_map (map message_view ms))) (element_below message_view message_body ms i m within is)

-- all messages are written
pub bodies_done : (written : List Datum) (ms : List MessageDecl) (i : ℕ) → length ms ≤ i → written ≡ map message_body (map message_view (take i ms)) → written ≡ message_bodies (messages_of (map message_view ms))
bodies_done written ms i past h = h ∙ ap (λ xs. map message_body (map message_view xs)) (take_past ms i past) ∙ sym (bodies_map (map message_view ms))

-- what is cut at less depth_left and fewer levels is cut
pub cut_further : (e : WriteSetError) (depth_left levels depth_left' levels' : ℕ) → (depth_left < levels → depth_left' < levels') → CutAt depth_left levels e → CutAt depth_left' levels' e
cut_further TooDeep depth_left levels depth_left' levels' more cut = more cut
cut_further TooLarge depth_left levels depth_left' levels' more cut = cut
cut_further Memory depth_left levels depth_left' levels' more cut = cut
