-- What the calls answer.
use Rattle.std.specs.Prelude.{◌≡◌, ◌⊎◌, ℕ, List, None, IsSomeAnd, Result, Ok, Err, string_bytes}
use Rattle.pb_schema.specs.Types.{Types}
use Rattle.pb_value.specs.Data.{Message}
use Rattle.pb_schema.specs.declared.types.Kind.{Kind}
use Rattle.pb_schema.specs.Scalar.{Scalar}
use Rattle.pb_value.specs.Change.{AreKeys, FitsKeys}
use Rattle.pb_value.specs.View.{body_view, entries_view}
use Rattle.pb_value.specs.WellFormed.{IsWellFormed}
use Rattle.pb_json.specs.Given.{NamesGiven, none_given}
use Rattle.pb_json.specs.Refusals.{refused}
use Rattle.pb_json_text.specs.Json.{Placed}
use Rattle.pb_json_text.specs.View.{Named, form_view}
use Rattle.pb_json_text.specs.declared.value.JsonMember.{JsonMember}
use Rattle.pb_json_text.specs.Texts.{IsJson, HasFault}
use Rattle.pb_json_text.specs.declared.fault.JsonCause.{JsonCause}
use Rattle.pb_json_read.specs.declared.construction.Entries.{Entries}
use Rattle.pb_json_read.specs.declared.construction.Parts.{Parts}
use Rattle.pb_json_read.specs.declared.rules.JsonRules.{JsonRules}
use Rattle.pb_json_read.specs.declared.error.JsonReadCause.TheVariants.{TooDeep}
use Rattle.pb_json_read.specs.declared.error.JsonReadError.{JsonReadError}
use Rattle.pb_json_read.specs.Faults.{fault, cause_of, cause_of_form, out_of_memory}
use Rattle.pb_json_read.specs.Steps.{Read}
use Rattle.pb_json_read.specs.Reads.{ReadsMessage}
use Rattle.pb_json_read.specs.Steps as reads

-- the answer is what is read, as it is seen, or the fault, or that memory ran out
abbrev pub Answers : {X A : Type 0} → (X → A) → (Read A → Type 0) → Result X JsonReadError → Type 0
Answers view R (Ok x) = R (Ok (view x))
Answers view R (Err e) = (e ≡ out_of_memory) ⊎ R (Err e)

-- the same of a call that changes something into this
abbrev pub Changes : {X A : Type 0} → A → (Read A → Type 0) → Result X JsonReadError → Type 0
Changes new R (Ok x) = R (Ok new)
Changes new R (Err e) = (e ≡ out_of_memory) ⊎ R (Err e)

abbrev pub parts_view : Parts → reads.Parts
parts_view p = record { message = body_view p.body; numbers = p.numbers.keys; oneofs = p.oneofs.keys }

abbrev pub entered_view : Entries → reads.Entered
entered_view s = record { entries = entries_view s.map.entries; passed = entries_view s.passed.entries }

-- all keys are of this kind, and this one is of the kind of the others
abbrev pub AreEntered : Kind → reads.Entered → Type 0
AreEntered k s = AreKeys k s.entries × AreKeys k s.passed

abbrev pub FitsEntered : Scalar → reads.Entered → Type 0
FitsEntered x s = FitsKeys x s.entries × FitsKeys x s.passed

-- where the name of a member begins, the name, and its value
abbrev pub named : JsonMember → Named
named m = (m.at, string_bytes m.name, (m.value.at, form_view m.value.form))

-- THE WHOLE CALL

-- the message has a JSON form, so it is written as JSON: it nests at most 100 levels, counted through each Any
abbrev pub HasForm : Types → ℕ → Message → Type 0
HasForm pool m v = refused (record { pool = pool; kind = m; body = v }) ≡ None

-- the bytes are a JSON text that is read as the message, by the names that fields are given, and the message is well formed and has a JSON form
abbrev pub IsReadBy : Types → JsonRules → NamesGiven → ℕ → List ℕ → Message → Type 0
IsReadBy pool rules names m b v = (j : Placed) × IsJson j b × ReadsMessage pool rules names m j.0 j.1 (Ok v) × IsWellFormed pool m v × HasForm pool m v

-- what was read from this byte on is refused with this: it nests too deep, or has no JSON form
abbrev pub IsUnfit : Types → ℕ → ℕ → Message → JsonReadError → Type 0
IsUnfit pool m at v e =
    ((¬ IsWellFormed pool m v) × (e ≡ fault at TooDeep))
    ⊎ (IsWellFormed pool m v × IsSomeAnd (refused (record { pool = pool; kind = m; body = v })) (λ r. e ≡ fault at (cause_of_form r.cause)))

-- a JSON text in which this is the first fault, or which is read as a message that is refused with it
abbrev pub HasReadFault : Types → JsonRules → NamesGiven → ℕ → Placed → JsonReadError → Type 0
HasReadFault pool rules names m j e =
    ReadsMessage pool rules names m j.0 j.1 (Err e) ⊎ ((v : Message) × ReadsMessage pool rules names m j.0 j.1 (Ok v) × IsUnfit pool m j.0 v e)

-- the bytes are refused with this: they are no JSON text, or one with a fault
abbrev pub IsRefusedBy : Types → JsonRules → NamesGiven → ℕ → List ℕ → JsonReadError → Type 0
IsRefusedBy pool rules names m b e =
    ((n : ℕ) × (c : JsonCause) × HasFault c b n × (e ≡ fault n (cause_of c))) ⊎ ((j : Placed) × IsJson j b × HasReadFault pool rules names m j e)

-- the same where no field is given a name
abbrev pub IsReadAs : Types → JsonRules → ℕ → List ℕ → Message → Type 0
IsReadAs pool rules m b v = IsReadBy pool rules none_given m b v

abbrev pub IsRefusedWith : Types → JsonRules → ℕ → List ℕ → JsonReadError → Type 0
IsRefusedWith pool rules m b e = IsRefusedBy pool rules none_given m b e
