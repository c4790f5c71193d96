-- What a call says of its answer.
use Rattle.std.proofs.Common.{◌≡◌, ℕ, ◌-◌, subst, sym, refl, Bool, true, false, not, Option, Some, IfSome}
use Rattle.std.specs.Prelude.{◌==◌, Result, Ok, Err, is_ok, OnOk}
use Rattle.std.proofs.lemmas.Bool.{eqb-true}
use Rattle.pb_decode_parts.specs.declared.open.part.Slot.{Slot}
use Rattle.pb_decode_parts.specs.declared.open.part.Slot.TheVariants as slot
use Rattle.pb_decode_parts.specs.Open.Openings.{depth_left_in}
use Rattle.pb_schema.specs.declared.types.Kind.{Kind}
use Rattle.pb_schema.specs.declared.types.Shape.{Shape}
use Rattle.pb_schema.specs.Types.{Types}
use Rattle.pb_schema.specs.Scalar.{Scalar}
use Rattle.pb_value.specs.Data.{Datum, Message}
use Rattle.pb_decode_parts.specs.declared.open.target.Target.{Target}
use Rattle.pb_decode_parts.specs.declared.open.target.Target.TheVariants as target
use Rattle.pb_decode_parts.specs.Open.Parents.{message_part, entry_part}
use Rattle.pb_decode_parts.specs.Values.Put.{put_datum}

-- what is reported of one that is there
pub reported_of : {A : Type 0} (P : A → Type 0) (o : Option A) (x : A) → o ≡ Some x → IfSome o P → P x
reported_of {A} P o x is reported = subst (λ (z : Option A). IfSome z P) is reported

pub not_yes : (b : Bool) → not b ≡ true → b ≡ false
not_yes true h = absurd (cc)
not_yes false h = refl

pub none_held : (n : ℕ) → true ≡ (n == 0) → n ≡ 0
none_held n h = eqb-true n 0 (sym h)

-- a message that is opened for a slot has one level less, but for that of an entry
pub one_level_less : (s : Slot) (n : ℕ) → (s ≡ slot.Entry → ⊥) → depth_left_in s n ≡ n - 1
one_level_less slot.Entry n other = absurd (other refl)
one_level_less s n other = refl

-- what holds where a call went well holds where its answer, with another error, is that it did
pub on_ok_mapped : {A B E F : Type 0} (P : Type 0) (r : Result A E) (s : Result B F) → is_ok s ≡ is_ok r → OnOk r P → OnOk s P
on_ok_mapped P (Ok x) (Ok y) same h = h
on_ok_mapped P (Ok x) (Err f) same h = tt
on_ok_mapped P (Err e) (Ok y) same h = absurd (cc)
on_ok_mapped P (Err e) (Err f) same h = tt

-- a scalar goes into a message as the value of a field or as an element alone
pub none_in_message :
    (pool : Types) (n : ℕ) (t : Target) (m : ℕ) (v : Message) (d : Datum) → ((k : Kind) (s : Shape) → t ≡ target.One k s → ⊥) → ((k : Kind) → t ≡ target.Element k → ⊥)
    → put_datum pool n t (message_part m v) d ≡ message_part m v
none_in_message pool n (target.One k s) m v d one element = absurd (one k s refl)
none_in_message pool n (target.Element k) m v d one element = absurd (element k refl)
none_in_message pool n t m v d one element = refl

-- and into an entry as its key or its value
pub none_in_entry :
    (pool : Types) (n : ℕ) (t : Target) (key kd : Kind) (x : Option Scalar) (e : Option Datum) (d : Datum) → ((k : Kind) → t ≡ target.Key k → ⊥) → ((k : Kind) → t ≡ target.EntryValue k → ⊥)
    → put_datum pool n t (entry_part key kd x e) d ≡ entry_part key kd x e
none_in_entry pool n (target.Key k) key kd x e d a b = absurd (a k refl)
none_in_entry pool n (target.EntryValue k) key kd x e d a b = absurd (b k refl)
none_in_entry pool n t key kd x e d a b = refl
