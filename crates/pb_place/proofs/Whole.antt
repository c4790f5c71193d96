-- From the way to a message, back to the whole message.
use Rattle.std.proofs.Common.{◌≡◌, ◌≤◌, ◌-◌, ℕ, List, [], Option, Some, None, option_map, IsSomeAnd, arith, refl, sym, ap, ◌∙◌, subst, Result, Ok, Err, IfOk, OnErr}
use Rattle.std.specs.Prelude.{Bool, true, false, nat_le, suc, ◌&&◌}
use Rattle.std.proofs.lemmas.Bool.Decides.{nat_tests}
use Rattle.std.proofs.lemmas.Result.{on_err_weaker}
use Rattle.pb_schema.specs.Types.{Types, FieldView, message_fields, field_numbered}
use Rattle.pb_schema.specs.Scalar.{Scalar}
use Rattle.pb_value.specs.Data.{Datum, message, Holding, one, Message, holding_depth, levels_of, levels_in_entry}
use Rattle.pb_value.specs.Dynamic.{Dynamic}
use Rattle.pb_value.specs.Cause.{or_else, unless, at_field, content_cause, datum_cause, held_cause}
use Rattle.pb_value.specs.Change.{set_cause, push_cause, element_cause, is_list, insert_cause, is_map}
use Rattle.pb_value.specs.Judge.{is_key_of, is_value_of}
use Rattle.pb_value.specs.View.{value_view}
use Rattle.pb_value.specs.WellFormed.{IsWellFormed}
use Rattle.pb_value.specs.declared.body.Value.{Value}
use Rattle.pb_value.specs.declared.error.ValueError.{ValueError}
use Rattle.pb_value.specs.declared.error.ValueError.TheVariants.{TooDeep, WrongKind, WrongShape}
use Rattle.pb_place.specs.declared.error.ChangeError.{ChangeError}
use Rattle.pb_place.specs.declared.error.ChangeError.TheVariants.{Refused}
use Rattle.pb_place.specs.declared.step.PlaceStep.{PlaceStep}
use Rattle.pb_place.specs.At.{message_part}
use Rattle.pb_place.specs.Changed.{Edit, set, clear, push, insert, remove, set_element, remove_element, drop_unknown, edited, edit_cause, brings, taken_out, target, levels_above, refusal, IsRefused, IsChangedAt}
use Rattle.pb_value.specs.Edit.{dynamic}
use Rattle.pb_place.specs.Edits.{IsDone, IsWalked}
use Rattle.pb_place.specs.Replaced.{message_or, replaced, with_at}
use Rattle.pb_place.proofs.Deeper.{edited_depth}
use Rattle.pb_place.proofs.Kept.{stays_well_formed}

-- where a change is not refused, it brings no more levels than may be added
few_levels : (most : ℕ) (e : Edit) (w : Dynamic) → refusal most e (Some w) ≡ None → brings e ≤ most
few_levels most e w h = told (edit_cause e w.pool w.kind) (nat_le (brings e) most) refl h
  where
    less : nat_le (brings e) most ≡ true → brings e ≤ most
    less q = grind (arith, nat_tests)

    told : (c : Option ValueError) (b : Bool) → nat_le (brings e) most ≡ b → option_map Refused (or_else c (unless b TooDeep)) ≡ None → brings e ≤ most
    told c true q h = less q
    told None false q h = absurd (cc)
    told (Some x) false q h = absurd (cc)

-- the whole message is well formed after a change, and after a refusal
pub well_after :
    (pool : Types) (most m : ℕ) (p : List PlaceStep) (e : Edit) (old new : Message) (r : Result Unit ChangeError) (out : Option Value) → most ≡ 100 - levels_above p
    → IsWellFormed pool m old → IsWalked pool most (Some m) p e (one (message old)) (one (message new)) r out → IsWellFormed pool m new
well_after pool most m p e old new (Err x) out limit good w = subst (IsWellFormed pool m) (sym (ap (message_or old) w.err)) good
well_after pool most m p e old new (Ok x) out limit good w = told (target p (message_part (dynamic pool m old))) refl w.ok w.judged
  where
    told :
        (o : Option Dynamic) → target p (message_part (dynamic pool m old)) ≡ o
        → IsDone e o (λ b. one (message new) ≡ replaced p b (one (message old))) (option_map value_view out) → refusal most e o ≡ None → IsWellFormed pool m new
    told None q d j = absurd d
    told (Some v) q d j =
        let few : brings e ≤ 100 - levels_above p = subst (λ (n : ℕ). brings e ≤ n) limit (few_levels most e v j) in
        subst (IsWellFormed pool m) (sym (ap (message_or old) d.0)) (stays_well_formed p pool m old v (edited e v).body (brings e) good q d.1 (edited_depth e v) few)

pub changed_after :
    (pool : Types) (most m : ℕ) (p : List PlaceStep) (e : Edit) (old new : Message) (v w : Dynamic) (r : Result Unit ChangeError) (out : Option Value)
    → v ≡ dynamic pool m old → w ≡ dynamic pool m new → IsWalked pool most (Some m) p e (one (message old)) (one (message new)) r out → IfOk r (λ _. IsChangedAt p e v w)
changed_after pool most m p e old new v w (Err x) out was is h = tt
changed_after pool most m p e old new v w (Ok x) out was is h = subst (λ (u : Dynamic). IsChangedAt p e u w) (sym was) (told (target p (message_part (dynamic pool m old))) h.ok)
  where
    told :
        (o : Option Dynamic) → IsDone e o (λ b. one (message new) ≡ replaced p b (one (message old))) (option_map value_view out)
        → IsSomeAnd o (λ u. w ≡ dynamic pool m (with_at p (edited e u).body old))
    told None d = absurd d
    told (Some u) d = is ∙ ap (dynamic pool m) (ap (message_or old) d.0)

pub out_after :
    (pool : Types) (most m : ℕ) (p : List PlaceStep) (e : Edit) (old new : Message) (v : Dynamic) (r : Result Unit ChangeError) (out : Option Value) → v ≡ dynamic pool m old
    → IsWalked pool most (Some m) p e (one (message old)) (one (message new)) r out
    → IfOk r (λ _. Some (option_map value_view out) ≡ option_map (taken_out e) (target p (message_part v)))
out_after pool most m p e old new v (Err x) out was h = tt
out_after pool most m p e old new v (Ok x) out was h =
    subst (λ (u : Dynamic). Some (option_map value_view out) ≡ option_map (taken_out e) (target p (message_part u))) (sym was) (told (target p (message_part (dynamic pool m old))) h.ok)
  where
    told :
        (o : Option Dynamic) → IsDone e o (λ b. one (message new) ≡ replaced p b (one (message old))) (option_map value_view out)
        → Some (option_map value_view out) ≡ option_map (taken_out e) o
    told None d = absurd d
    told (Some u) d = ap Some d.2

pub same_after :
    (pool : Types) (most m : ℕ) (p : List PlaceStep) (e : Edit) (old new : Message) (v w : Dynamic) (r : Result Unit ChangeError) (out : Option Value)
    → v ≡ dynamic pool m old → w ≡ dynamic pool m new → IsWalked pool most (Some m) p e (one (message old)) (one (message new)) r out → OnErr r (w ≡ v)
same_after pool most m p e old new v w r out was is h = on_err_weaker r (λ q. is ∙ ap (dynamic pool m) (ap (message_or old) q) ∙ sym was) h.err

pub judged_after :
    (pool : Types) (most m : ℕ) (p : List PlaceStep) (e : Edit) (old new : Message) (v : Dynamic) (r : Result Unit ChangeError) (out : Option Value) → v ≡ dynamic pool m old
    → IsWalked pool most (Some m) p e (one (message old)) (one (message new)) r out → IsRefused r (refusal most e (target p (message_part v)))
judged_after pool most m p e old new v r out was h = subst (λ (u : Dynamic). IsRefused r (refusal most e (target p (message_part u)))) (sym was) h.judged

-- a body that was taken out of a message is of its type
pub of_whole : (v w : Dynamic) (pool : Types) (m : ℕ) (b : Message) → w ≡ v → pool ≡ v.pool → m ≡ v.kind → IsWellFormed w.pool w.kind b → IsWellFormed pool m b
of_whole v w pool m b same in_pool of_kind good =
    subst (λ (i : ℕ). IsWellFormed pool i b) (sym of_kind)
    (subst (λ (q : Types). IsWellFormed q v.kind b) (sym in_pool) (subst (λ (u : Dynamic). IsWellFormed u.pool u.kind b) same good))

-- THE MESSAGE ITSELF

whole_is : (e : Edit) (v : Dynamic) → edited e v ≡ record v { body = with_at [] (edited e v).body v.body }
whole_is (set h n) v = refl
whole_is (clear n) v = refl
whole_is (push d n) v = refl
whole_is (insert x d n) v = refl
whole_is (remove x n) v = refl
whole_is (set_element i d n) v = refl
whole_is (remove_element i n) v = refl
whole_is drop_unknown v = refl

-- a change of the message itself is one at the place of no steps
pub changed_whole : (e : Edit) (p : List PlaceStep) (v new : Dynamic) → p ≡ [] → new ≡ edited e v → IsChangedAt p e v new
changed_whole e p v new is made = subst (λ (q : List PlaceStep). IsChangedAt q e v new) (sym is) (made ∙ whole_is e v)

-- that what a change brings nests too deep is among the causes why the message refuses it
absorbed : (a b u : Option ValueError) → or_else (or_else a (or_else b u)) u ≡ or_else a (or_else b u)
absorbed (Some x) b u = refl
absorbed None (Some x) u = refl
absorbed None None (Some x) = refl
absorbed None None None = refl

absorbed_later : (a b c u : Option ValueError) → or_else (or_else a (or_else b (or_else c u))) u ≡ or_else a (or_else b (or_else c u))
absorbed_later (Some x) b c u = refl
absorbed_later None b c u = absorbed b c u

pub set_alone : (pool : Types) (m n : ℕ) (h : Holding) → or_else (set_cause pool m n h) (unless (nat_le (holding_depth h) 100) TooDeep) ≡ set_cause pool m n h
set_alone pool m n h = told (field_numbered n (message_fields pool m))
  where
    told :
        (o : Option FieldView)
        → or_else (at_field o (λ f. or_else (content_cause f.shape f.kind h) (or_else (held_cause pool f.shape f.kind h) (unless (nat_le (holding_depth h) 100) TooDeep))))
        (unless (nat_le (holding_depth h) 100) TooDeep)
        ≡ at_field o (λ f. or_else (content_cause f.shape f.kind h) (or_else (held_cause pool f.shape f.kind h) (unless (nat_le (holding_depth h) 100) TooDeep)))
    told None = refl
    told (Some f) = absorbed (content_cause f.shape f.kind h) (held_cause pool f.shape f.kind h) (unless (nat_le (holding_depth h) 100) TooDeep)

push_alone : (pool : Types) (m n : ℕ) (d : Datum) → or_else (push_cause pool m n d) (unless (nat_le (levels_of d) 100) TooDeep) ≡ push_cause pool m n d
push_alone pool m n d = at (field_numbered n (message_fields pool m))
  where
    cause : FieldView → Option ValueError
    cause f =
        or_else (unless (is_value_of f.kind d) WrongKind) (or_else (unless (is_list f.shape) WrongShape)
        (or_else (element_cause pool f.kind d) (unless (nat_le (levels_of d) 100) TooDeep)))

    at : (o : Option FieldView) → or_else (at_field o cause) (unless (nat_le (levels_of d) 100) TooDeep) ≡ at_field o cause
    at None = refl
    at (Some f) =
        absorbed_later (unless (is_value_of f.kind d) WrongKind) (unless (is_list f.shape) WrongShape) (element_cause pool f.kind d)
        (unless (nat_le (levels_of d) 100) TooDeep)

insert_alone :
    (pool : Types) (m n : ℕ) (x : Scalar) (d : Datum)
    → or_else (insert_cause pool m n x d) (unless (nat_le (suc (levels_in_entry d)) 100) TooDeep) ≡ insert_cause pool m n x d
insert_alone pool m n x d = at (field_numbered n (message_fields pool m))
  where
    cause : FieldView → Option ValueError
    cause f =
        or_else (unless (is_key_of f.shape x && is_value_of f.kind d) WrongKind) (or_else (unless (is_map f.shape) WrongShape)
        (or_else (datum_cause pool f.kind d) (unless (nat_le (suc (levels_in_entry d)) 100) TooDeep)))

    at : (o : Option FieldView) → or_else (at_field o cause) (unless (nat_le (suc (levels_in_entry d)) 100) TooDeep) ≡ at_field o cause
    at None = refl
    at (Some f) =
        absorbed_later (unless (is_key_of f.shape x && is_value_of f.kind d) WrongKind) (unless (is_map f.shape) WrongShape) (datum_cause pool f.kind d)
        (unless (nat_le (suc (levels_in_entry d)) 100) TooDeep)

pub edit_alone : (e : Edit) (pool : Types) (m : ℕ) → or_else (edit_cause e pool m) (unless (nat_le (brings e) 100) TooDeep) ≡ edit_cause e pool m
edit_alone (set h n) pool m = set_alone pool m n h
edit_alone (clear n) pool m = refl
edit_alone (push d n) pool m = push_alone pool m n d
edit_alone (insert x d n) pool m = insert_alone pool m n x d
edit_alone (remove x n) pool m = refl
edit_alone (set_element i d n) pool m = push_alone pool m n d
edit_alone (remove_element i n) pool m = refl
edit_alone drop_unknown pool m = refl
