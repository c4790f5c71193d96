-- Steps that are read one after another.
use Rattle.std.proofs.Common.{◌≡◌, ◌<◌, ◌≤◌, ◌+◌, ℕ, List, [], ◌∷◌, ◌++◌, length, drop, get_or, map, refl, ap, ◌∙◌}
use Rattle.std.proofs.Common.{Option, Some, None, option_map, option_and_then}
use Rattle.std.proofs.lemmas.List.{drop_all, drop_more}
use Rattle.pb_place.specs.declared.step.PlaceStep.{PlaceStep}
use Rattle.pb_c_message.specs.declared.miss.Miss.{Miss}
use Rattle.pb_c_message.specs.declared.miss.Miss.TheVariants.{Absent, BadPlace, Memory}
use Rattle.pb_c_message.specs.declared.value.PlainValue.{PlainValue}
use Rattle.pb_c_message.specs.Places.{Bytes, Step, step_view, said, places}
use Rattle.pb_c_message.specs.Answers.{IsUnsaid}

-- what all steps say, where some were read and what the others say is this
abbrev pub after : List PlaceStep → Option (List Step) → Option (List Step)
after [] o = o
after (p ∷ ps) o = option_map (λ xs. step_view p ∷ xs) (after ps o)

after_push : (read : List PlaceStep) (p : PlaceStep) (o : Option (List Step)) → after read (option_map (λ xs. step_view p ∷ xs) o) ≡ after (read ++ p ∷ []) o
after_push [] p o = refl
after_push (q ∷ qs) p o = ap (option_map (λ xs. step_view q ∷ xs)) (after_push qs p o)

after_all : (read : List PlaceStep) → after read (Some []) ≡ Some (map step_view read)
after_all [] = refl
after_all (p ∷ ps) = ap (option_map (λ xs. step_view p ∷ xs)) (after_all ps)

after_none : (read : List PlaceStep) → after read None ≡ None
after_none [] = refl
after_none (p ∷ ps) = ap (option_map (λ xs. step_view p ∷ xs)) (after_none ps)

-- where the next step is
first : (keys : List Bytes) (place : List PlainValue) (i : ℕ) (d : PlainValue) → i < length place
    → places keys (drop i place) ≡ option_and_then (λ x. option_map (λ xs. x ∷ xs) (places keys (drop (i + 1) place))) (said keys (get_or place i d))
first keys place i d within = ap (places keys) (drop_more place i d within)

-- one more step is read
pub one_more :
    (keys : List Bytes) (place : List PlainValue) (i : ℕ) (d : PlainValue) (read : List PlaceStep) (p : PlaceStep) → i < length place
    → said keys (get_or place i d) ≡ Some (step_view p) → places keys place ≡ after read (places keys (drop i place))
    → places keys place ≡ after (read ++ p ∷ []) (places keys (drop (i + 1) place))
one_more keys place i d read p within is so_far =
    so_far ∙ ap (after read) (first keys place i d within ∙ ap (option_and_then (λ x. option_map (λ xs. x ∷ xs) (places keys (drop (i + 1) place)))) is)
    ∙ after_push read p (places keys (drop (i + 1) place))

-- all are read
pub all_read :
    (keys : List Bytes) (place : List PlainValue) (i : ℕ) (read : List PlaceStep) → length place ≤ i → places keys place ≡ after read (places keys (drop i place))
    → places keys place ≡ Some (map step_view read)
all_read keys place i read end so_far = so_far ∙ ap (λ l. after read (places keys l)) (drop_all i place end) ∙ after_all read

-- the next says nothing, so all of them do
pub none_said :
    (keys : List Bytes) (place : List PlainValue) (i : ℕ) (d : PlainValue) (read : List PlaceStep) (e : Miss) → i < length place
    → IsUnsaid (said keys (get_or place i d) ≡ None) e → places keys place ≡ after read (places keys (drop i place))
    → IsUnsaid (places keys place ≡ None) e
none_said keys place i d read Absent within is so_far = absurd is
none_said keys place i d read BadPlace within is so_far =
    so_far ∙ ap (after read) (first keys place i d within ∙ ap (option_and_then (λ x. option_map (λ xs. x ∷ xs) (places keys (drop (i + 1) place)))) is)
    ∙ after_none read
none_said keys place i d read Memory within is so_far = tt
