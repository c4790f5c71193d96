-- What holds of an answer or of a fault, said weaker; and what is right is answered.
use Rattle.std.proofs.Common.{◌≡◌, ◌≢◌, subst, ℕ, List, Option, Some, None}
use Rattle.std.specs.Prelude.{Result, Ok, Err, IfOk, OnOk, IfErr, IfSome, IsErrAnd, MatchResult}
use Rattle.pb_wire.specs.Fault.{Fault, fault}
use Rattle.pb_decode.specs.declared.error.DecodeError.{DecodeError}
use Rattle.pb_decode.specs.declared.error.DecodeError.TheVariants as error
use Rattle.pb_decode.specs.Reader.{IfFault}
use Rattle.pb_decode.specs.FromDevice.{IfRefused, IsNoFault, TellsFailures}
use Rattle.pb_decode.proofs.ReaderLemmas.{if_fault_weaker}

pub ok_weaker : {A E : Type 0} (r : Result A E) (P Q : A → Type 0) → ((a : A) → P a → Q a) → IfOk r P → IfOk r Q
ok_weaker (Ok a) P Q h good = h a good
ok_weaker (Err e) P Q h good = tt

pub fault_weaker : {A : Type 0} (r : Result A DecodeError) (P Q : Fault → Type 0) → ((f : Fault) → P f → Q f) → IfErr r (λ e. IfFault e P) → IfErr r (λ e. IfFault e Q)
fault_weaker (Ok a) P Q h bad = tt
fault_weaker (Err e) P Q h bad = if_fault_weaker e P Q h bad

-- of what an input has left, where it says that
pub ok_left : {A E B : Type 0} (r : Result A E) (x : Option B) (P : B → A → Type 0) → IfOk r (λ a. IfSome x (λ b. P b a)) → IfSome x (λ b. IfOk r (P b))
ok_left r None P h = tt
ok_left (Ok a) (Some b) P h = h
ok_left (Err e) (Some b) P h = tt

-- what is right is answered, or memory runs out or the input fails
pub accepted_left :
    {A V : Type 0} (x : Option (List ℕ)) (r : Result A DecodeError) (P : List ℕ → A → Type 0) (Good : List ℕ → V → Type 0) (Fails : List ℕ → Fault → Type 0) (Q : V → A → Type 0)
    → IfSome x (λ left. IfOk r (P left)) → IfErr r (λ e. IfRefused e (λ f. IfSome x (λ left. Fails left f))) → ((left : List ℕ) (v : V) (a : A) → Good left v → P left a → Q v a)
    → ((left : List ℕ) (v : V) (f : Fault) → Good left v → Fails left f → ⊥) → IfSome x (λ left. (v : V) → Good left v → MatchResult r (Q v) IsNoFault)
accepted_left None r P Good Fails Q ok err same never = tt
accepted_left (Some left) (Ok a) P Good Fails Q ok err same never = λ v good. same left v a good ok
accepted_left (Some left) (Err (error.Fault byte path c)) P Good Fails Q ok err same never = λ v good. absurd (never left v (fault byte path.items c) good err)
accepted_left (Some left) (Err error.Memory) P Good Fails Q ok err same never = λ v good. tt
accepted_left (Some left) (Err error.Device) P Good Fails Q ok err same never = λ v good. tt
accepted_left (Some left) (Err error.Finished) P Good Fails Q ok err same never = λ v good. err

pub refused_left :
    {A : Type 0} (x : Option (List ℕ)) (r : Result A DecodeError) (P : List ℕ → A → Type 0) (Fails : List ℕ → Fault → Type 0) → IfSome x (λ left. IfOk r (P left))
    → IfErr r (λ e. IfRefused e (λ f. IfSome x (λ left. Fails left f))) → ((left : List ℕ) (a : A) (f : Fault) → P left a → Fails left f → ⊥) → ((left : List ℕ) (f g : Fault) → Fails left f → Fails left g → f ≡ g)
    → IfSome x (λ left. (f : Fault) → Fails left f → IsErrAnd r (λ e. IfRefused e (λ g. g ≡ f)))
refused_left None r P Fails ok err never one = tt
refused_left (Some left) (Ok a) P Fails ok err never one = λ f fails. absurd (never left a f ok fails)
refused_left (Some left) (Err (error.Fault byte path c)) P Fails ok err never one = λ f fails. one left (fault byte path.items c) f err fails
refused_left (Some left) (Err error.Memory) P Fails ok err never one = λ f fails. tt
refused_left (Some left) (Err error.Device) P Fails ok err never one = λ f fails. tt
refused_left (Some left) (Err error.Finished) P Fails ok err never one = λ f fails. err

-- an answer that has nothing to do with the input
pub tells_kept : {A : Type 0} (r : Result A DecodeError) (P : Fault → Type 0) (before after : ℕ) → after ≡ before → IfErr r (λ e. IfFault e P) → TellsFailures r before after
tells_kept (Ok a) P before after kept bad = kept
tells_kept (Err (error.Fault byte path c)) P before after kept bad = kept
tells_kept (Err error.Memory) P before after kept bad = kept
tells_kept (Err error.Device) P before after kept bad = absurd bad
tells_kept (Err error.Finished) P before after kept bad = kept

pub never_device : {A : Type 0} (r : Result A DecodeError) (P : Fault → Type 0) → IfErr r (λ e. IfFault e P) → r ≢ Err error.Device
never_device r P bad is = subst (λ (z : Result _ DecodeError). IfErr z (λ e. IfFault e P)) is bad

pub on_ok : {A E : Type 0} (r : Result A E) (P : A → Type 0) (Q : Type 0) → ((a : A) → P a → Q) → IfOk r P → OnOk r Q
on_ok (Ok a) P Q h good = h a good
on_ok (Err e) P Q h good = tt

-- of a last call, whose answer is returned as it is
pub on_ok_both : {A E P Q R : Type 0} (r : Result A E) → (P → Q → R) → OnOk r P → OnOk r Q → OnOk r R
on_ok_both (Ok a) h p q = h p q
on_ok_both (Err e) h p q = tt
