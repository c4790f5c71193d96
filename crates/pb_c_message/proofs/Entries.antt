-- Places that end at a key, and places that do not.
use Rattle.std.proofs.Common.{◌≡◌, List, [], ◌∷◌, ◌++◌, Option, Some, None, option_map, refl, ap}
use Rattle.pb_schema.specs.Scalar.{Scalar}
use Rattle.pb_value.specs.View.{key_view}
use Rattle.pb_value.specs.declared.body.MapKey.{MapKey}
use Rattle.pb_place.specs.declared.step.PlaceStep.{PlaceStep}
use Rattle.pb_place.specs.declared.step.PlaceStep.TheVariants.{Field, Index, Key}
use Rattle.pb_c_message.specs.Ends.{entry_place}

-- one step more in front
longer : (s t : PlaceStep) (p : List PlaceStep) (o : Option (List PlaceStep × Scalar)) → entry_place (t ∷ p) ≡ o → entry_place (s ∷ t ∷ p) ≡ option_map (λ q. (s ∷ q.0, q.1)) o
longer (Field n) t p o e = ap (option_map (λ q. (Field n ∷ q.0, q.1))) e
longer (Index i) t p o e = ap (option_map (λ q. (Index i ∷ q.0, q.1))) e
longer (Key k) t p o e = ap (option_map (λ q. (Key k ∷ q.0, q.1))) e

pub ends_at_key : (p : List PlaceStep) (k : MapKey) → entry_place (p ++ Key k ∷ []) ≡ Some (p, key_view k)
ends_at_key [] k = refl
ends_at_key (s ∷ []) k = longer s (Key k) [] (Some ([], key_view k)) refl
ends_at_key (s ∷ t ∷ p) k = longer s t (p ++ Key k ∷ []) (Some (t ∷ p, key_view k)) (ends_at_key (t ∷ p) k)

ends_otherwise : (p : List PlaceStep) (s : PlaceStep) → entry_place (s ∷ []) ≡ None → entry_place (p ++ s ∷ []) ≡ None
ends_otherwise [] s e = e
ends_otherwise (t ∷ []) s e = longer t s [] None e
ends_otherwise (t ∷ u ∷ p) s e = longer t u (p ++ s ∷ []) None (ends_otherwise (u ∷ p) s e)

pub ends_elsewhere : (p : List PlaceStep) (s : PlaceStep) → ((k : MapKey) → s ≡ Key k → ⊥) → entry_place (p ++ s ∷ []) ≡ None
ends_elsewhere p (Field n) h = ends_otherwise p (Field n) refl
ends_elsewhere p (Index i) h = ends_otherwise p (Index i) refl
ends_elsewhere p (Key k) h = absurd (h k refl)
