-- Two answers to the same bytes, each of which is what the bytes are.
use Rattle.std.proofs.Common.{◌≡◌}
use Rattle.std.specs.Prelude.{Result, Ok, Err, IfOk, IfErr}
use Rattle.pb_wire.specs.Fault.{Fault, fault}
use Rattle.pb_value.specs.Data.{Message}
use Rattle.pb_value.specs.Dynamic.{Dynamic}
use Rattle.pb_decode.specs.declared.error.DecodeError.{DecodeError}
use Rattle.pb_decode.specs.declared.error.DecodeError.TheVariants as error
use Rattle.pb_decode.specs.Reader.{IfFault}
use Rattle.pb_decode.specs.Push.{Gives, Tells}

up_to_memory : (d : Result Dynamic DecodeError) (v : Message) → Gives d v → IfErr d (λ e. e ≡ error.Memory)
up_to_memory (Ok m) v h = tt
up_to_memory (Err e) v h = h

pub accepted_alike :
    {A : Type 0} (r : Result A DecodeError) (d : Result Dynamic DecodeError) (P : Message → Type 0) → IfOk r (λ _. (v : Message) × P v) → ((v : Message) → P v → Gives d v)
    → IfOk r (λ _. IfErr d (λ e. e ≡ error.Memory))
accepted_alike (Ok x) d P h gives = up_to_memory d h.0 (gives h.0 h.1)
accepted_alike (Err e) d P h gives = tt

told_alike : {B : Type 0} (e : DecodeError) (s : Result B DecodeError) (P : Fault → Type 0) → IfFault e P → ((f : Fault) → P f → Tells s f) → IfFault e (λ f. Tells s f)
told_alike (error.Fault byte path cause) s P h tells = tells (fault byte path.items cause) h
told_alike error.Memory s P h tells = tt
told_alike error.Device s P h tells = h
told_alike error.Finished s P h tells = h

pub refused_alike :
    {A B : Type 0} (r : Result A DecodeError) (s : Result B DecodeError) (P : Fault → Type 0) → IfErr r (λ e. IfFault e P) → ((f : Fault) → P f → Tells s f)
    → IfErr r (λ e. IfFault e (λ f. Tells s f))
refused_alike (Ok x) s P h tells = tt
refused_alike (Err e) s P h tells = told_alike e s P h tells

pub decoded_alike :
    {A : Type 0} (r : Result A DecodeError) (x : A) (d : Result Dynamic DecodeError) (P : Message → Type 0) → IfOk d (λ m. P m.body) → ((v : Message) → P v → r ≡ Ok x)
    → IfOk d (λ _. r ≡ Ok x)
decoded_alike r x (Ok m) P h accepted = accepted m.body h
decoded_alike r x (Err e) P h accepted = tt
