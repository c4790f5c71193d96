-- What the calls answer.
use Rattle.std.specs.Prelude.{◌≡◌, ◌⊎◌, ℕ, List, Option, Some, None, is_some, true, Result, Ok, Err}
use Rattle.pb_output.specs.declared.sink.Sink.{Sink}
use Rattle.pb_output.specs.Sending.{Sent, Cut}
use Rattle.pb_output.specs.Sink.{Puts}
use Rattle.pb_json.specs.declared.error.Refusal.{Refusal}
use Rattle.pb_json.specs.declared.error.JsonError.{JsonError}
use Rattle.pb_json.specs.declared.error.JsonError.TheVariants as error
use Rattle.pb_schema.specs.Types.{Types}
use Rattle.pb_value.specs.Dynamic.{Dynamic}
use Rattle.pb_json.specs.declared.form.JsonForm.{JsonForm}
use Rattle.pb_json.specs.JsonText.{IsJsonText}
use Rattle.pb_json.specs.Mapping.{json_of}
use Rattle.pb_json.specs.Refusals.{Refused, refused}
use Rattle.pb_json.specs.WellKnown.{declares_any}

abbrev pub refused_view : Refusal → Refused
refused_view r = record { path = r.path.items; cause = r.cause }

-- the error is this refusal, or that there was no memory for it, or for the message in an Any
abbrev pub RefusesWith : Types → Option Refused → JsonError → Type 0
RefusesWith pool r (error.Refused x) = r ≡ Some (refused_view x)
RefusesWith pool r error.Memory = (is_some r ≡ true) ⊎ (declares_any pool ≡ true)
RefusesWith pool r error.Output = ⊥

-- Ok exactly where nothing is refused
abbrev pub Judges : Types → Option Refused → Result Unit JsonError → Type 0
Judges pool r (Ok _) = r ≡ None
Judges pool r (Err e) = RefusesWith pool r e

-- one of the byte lists that are meant is put
pub record Prints {D : Type 0} (written : D → Option (List ℕ)) (failures : D → ℕ) (old new : D) (a b : Sink) (IsMeant : List ℕ → Type 0) : Type 0 where
  pub bytes : List ℕ
  pub is : IsMeant bytes
  pub puts : Puts written failures old new a b bytes

-- MESSAGES

-- the bytes are a JSON text of the message, each part of which has a JSON form
abbrev pub IsJsonOf : JsonForm → Dynamic → List ℕ → Type 0
IsJsonOf form m text = (refused m ≡ None) × IsJsonText form.layout 0 (json_of form.names m) text

-- this is the first part of the message that has no JSON form
abbrev pub IsRefused : Dynamic → Refused → Type 0
IsRefused m r = refused m ≡ Some r

-- there is something that takes memory: a path, or the message in an Any
abbrev pub TakesMemory : Dynamic → Type 0
TakesMemory m = (is_some (refused m) ≡ true) ⊎ (declares_any m.pool ≡ true)

-- the error says so, or that there was no memory
abbrev pub RefusedAs : Dynamic → JsonError → Type 0
RefusedAs m (error.Refused x) = IsRefused m (refused_view x)
RefusedAs m error.Memory = TakesMemory m
RefusedAs m error.Output = ⊥

module _ {D : Type 0} (written : D → Option (List ℕ)) (failures : D → ℕ) (old new : D) (form : JsonForm) (m : Dynamic) where
  -- a JSON text of the message went out whole
  abbrev pub Whole : Type 0
  Whole = (text : List ℕ) × IsJsonOf form m text × Sent written failures old new text

  -- the output failed after a prefix of such a text, or a part of the message has no JSON form and nothing went out
  abbrev pub FailsAs : JsonError → Type 0
  FailsAs error.Output = (text : List ℕ) × IsJsonOf form m text × Cut written failures old new text
  FailsAs (error.Refused x) = IsRefused m (refused_view x) × (new ≡ old)
  FailsAs error.Memory = TakesMemory m × (new ≡ old)
