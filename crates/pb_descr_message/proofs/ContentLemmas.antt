-- Contents that become the fields of a message, one after another.
use Rattle.std.proofs.Common.{◌≡◌, ℕ, List, [], ◌∷◌, ◌++◌, true, map, length, arith, Option, Some, None, option_map, nat_cmp, Vec, Global, BTreeMap, refl, sym, ap, ◌∙◌, subst, append-nil}
use Rattle.std.proofs.lemmas.List.{map-append}
use Rattle.std.specs.BTreeMap.{insert_entry}
use Rattle.pb_wire.specs.Unknown.{records_of}
use Rattle.pb_wire.specs.declared.unknown.Unknown.{Unknown}
use Rattle.pb_value.specs.Data.{body, put_some}
use Rattle.pb_value.specs.View.{content_view, body_view, fields_view}
use Rattle.pb_value.specs.declared.body.Content.{Content}
use Rattle.pb_value.specs.declared.body.Body.{roll-Body}
use Rattle.pb_value.proofs.Views.{body_view-roll}
use Rattle.pb_value.proofs.FieldViews.{fields_view-insert_entry}
use Rattle.pb_descr_message.specs.Contents.{entry_view, is_rising}
use Rattle.pb_descr_message.specs.Writing.{fields_with}
use Rattle.pb_descr_message.proofs.FieldsWith.{put_last, below_next}

-- one more entry of a rising list
pub written_more :
    (all yielded rest : List (ℕ × Option Content)) (e : ℕ × Option Content) (before after : List (ℕ × Content)) → yielded ++ (e ∷ rest) ≡ all → is_rising (map entry_view all) ≡ true →
    fields_view before ≡ fields_with (map entry_view yielded) → fields_view after ≡ put_some e.0 (option_map content_view e.1) (fields_view before) → fields_view after ≡ fields_with (map entry_view (yielded ++ e ∷ []))
written_more all yielded rest e before after split rising written put =
    let whole : map entry_view all ≡ map entry_view yielded ++ (entry_view e ∷ map entry_view rest) = ap (map entry_view) (sym split) ∙ map-append entry_view yielded (e ∷ rest) in
    put ∙ ap (put_some e.0 (option_map content_view e.1)) written
    ∙ put_last (map entry_view yielded) e.0 (option_map content_view e.1) (below_next (map entry_view yielded) (entry_view e) (map entry_view rest) (subst (λ es. is_rising es ≡ true) whole rising))
    ∙ ap fields_with (sym (map-append entry_view yielded (e ∷ [])))

-- an entry that is there is put
pub put_there : (n : ℕ) (o : Option Content) (c : Content) (before after : List (ℕ × Content)) → o ≡ Some c → after ≡ insert_entry nat_cmp before n c → fields_view after ≡ put_some n (option_map content_view o) (fields_view before)
put_there n o c before after there put = ap fields_view put ∙ fields_view-insert_entry before n c ∙ ap (λ p. put_some n (option_map content_view p) (fields_view before)) (sym there)

-- one that is absent is not
pub put_absent : (n : ℕ) (o : Option Content) (before : List (ℕ × Content)) → o ≡ None → fields_view before ≡ put_some n (option_map content_view o) (fields_view before)
put_absent n o before absent = ap (λ p. put_some n (option_map content_view p) (fields_view before)) (sym absent)

nothing : {X : Type 0} (xs : List X) → length xs ≡ 0 → xs ≡ []
nothing [] h = refl
nothing (x ∷ xs) h = absurd (omega (arith, h))

-- the body of all entries
pub body_of_all :
    (all yielded left : List (ℕ × Option Content)) (fields : BTreeMap ℕ Content) (unknown : Vec (ℕ × Unknown) Global) → yielded ++ left ≡ all → length left ≡ 0 → unknown.items ≡ [] →
    fields_view fields.entries ≡ fields_with (map entry_view yielded) → body_view (roll-Body record { fields = fields; unknown = unknown }) ≡ body (fields_with (map entry_view all)) []
body_of_all all yielded left fields unknown split over none written =
    body_view-roll fields unknown
    ∙ (λ i. body (written i) (records_of (none i)))
    ∙ ap (λ es. body (fields_with (map entry_view es)) []) (sym (append-nil yielded) ∙ ap (λ l. yielded ++ l) (sym (nothing left over)) ∙ split)

-- what is written of each item is that of what it stands for
pub map_twice : {X Y Z : Type 0} (f : Y → Z) (g : X → Y) (xs : List X) → map f (map g xs) ≡ map (λ x. f (g x)) xs
map_twice f g [] = refl
map_twice f g (x ∷ xs) = ap (λ zs. f (g x) ∷ zs) (map_twice f g xs)
