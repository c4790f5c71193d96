-- What holds on the way to the message that is changed.
use Rattle.std.specs.Prelude.{◌≡◌, ℕ, List, Option, Some, IsSomeAnd, option_map, Result}
use Rattle.std.specs.Result.{IfOk, OnErr}
use Rattle.pb_schema.specs.Types.{Types}
use Rattle.pb_schema.specs.Scalar.{Scalar}
use Rattle.pb_value.specs.Data.{Datum, Message, Holding, one, list, map, get_entry}
use Rattle.pb_value.specs.Dynamic.{Dynamic}
use Rattle.pb_value.specs.Inner.{nth_datum, IsPart}
use Rattle.pb_value.specs.View.{value_view}
use Rattle.pb_value.specs.WellFormed.{IsWellFormed}
use Rattle.pb_value.specs.declared.body.Value.{Value}
use Rattle.pb_place.specs.declared.error.ChangeError.{ChangeError}
use Rattle.pb_place.specs.declared.step.PlaceStep.{PlaceStep}
use Rattle.pb_place.specs.At.{content_part}
use Rattle.pb_place.specs.Changed.{Edit, edited, taken_out, target, refusal, IsRefused}
use Rattle.pb_place.specs.Replaced.{replaced}

-- The change of a message is made: its body is put where it says, is well formed, and this is what was taken out.
abbrev pub IsDone : Edit → Option Dynamic → (Message → Type 0) → Option Datum → Type 0
IsDone e o IsPut out = IsSomeAnd o (λ w. IsPut (edited e w).body × IsWellFormed w.pool w.kind (edited e w).body × (out ≡ taken_out e w))

-- the messages in a content are well-formed messages of a type
abbrev pub HoldsParts : Types → Option ℕ → Holding → Type 0
HoldsParts pool t (one d) = IsPart pool t d
HoldsParts pool t (list ds) = (i : ℕ) (d : Datum) → nth_datum ds i ≡ Some d → IsPart pool t d
HoldsParts pool t (map es) = (x : Scalar) (d : Datum) → get_entry x es ≡ Some d → IsPart pool t d

module _ (pool : Types) (most : ℕ) where
  -- what an answer says of a change at a place in what a field holds, whose messages are of a type, and of what was taken out
  pub record IsWalked (t : Option ℕ) (p : List PlaceStep) (e : Edit) (old new : Holding) (r : Result Unit ChangeError) (out : Option Value) : Type 0 where
    pub ok : IfOk r (λ _. IsDone e (target p (content_part pool t old)) (λ b. new ≡ replaced p b old) (option_map value_view out))
    pub err : OnErr r (new ≡ old)
    pub judged : IsRefused r (refusal most e (target p (content_part pool t old)))
