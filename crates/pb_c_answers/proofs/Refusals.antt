-- What is reported of an error of decoding: its fault, or that memory ran out.
use Rattle.std.proofs.Common.{◌≡◌, ◌⊎◌, inl, inr, subst}
use Rattle.pb_wire.specs.Fault.{Fault, fault}
use Rattle.pb_decode.specs.Reader.{IfFault}
use Rattle.pb_decode.specs.FromDevice.{IfRefused, IsNoFault}
use Rattle.pb_decode.specs.declared.error.DecodeError.{DecodeError}
use Rattle.pb_decode.specs.declared.error.DecodeError.TheVariants as error
use Rattle.pb_c_answers.specs.Typed.{ByFault}

-- an error of bytes is one that a device may have too
pub of_bytes : (e : DecodeError) (P : Fault → Type 0) → IfFault e P → IfRefused e P
of_bytes (error.Fault byte path cause) P is = is
of_bytes error.Memory P is = is
of_bytes error.Device P is = absurd is
of_bytes error.Finished P is = absurd is

-- the fault, and what is reported of it; or what holds where none is reported
pub fault_of : (e : DecodeError) (P Q : Fault → Type 0) (R : Type 0) → IfRefused e P → ByFault e Q R → ((f : Fault) × P f × Q f) ⊎ R
fault_of (error.Fault byte path cause) P Q R is told = inl (fault byte path.items cause, is, told)
fault_of error.Memory P Q R is told = inr told
fault_of error.Device P Q R is told = inr told
fault_of error.Finished P Q R is told = absurd is

-- what is reported where this is the fault, if there is one
pub the_fault_of : (e : DecodeError) (f : Fault) (Q : Fault → Type 0) (R : Type 0) → IfRefused e (λ g. g ≡ f) → ByFault e Q R → Q f ⊎ R
the_fault_of (error.Fault byte path cause) f Q R is told = inl (subst Q is told)
the_fault_of error.Memory f Q R is told = inr told
the_fault_of error.Device f Q R is told = inr told
the_fault_of error.Finished f Q R is told = absurd is

-- what holds where there is no fault
pub no_fault_of : (e : DecodeError) (Q : Fault → Type 0) (R : Type 0) → IsNoFault e → ByFault e Q R → R
no_fault_of (error.Fault byte path cause) Q R is told = absurd is
no_fault_of error.Memory Q R is told = told
no_fault_of error.Device Q R is told = told
no_fault_of error.Finished Q R is told = absurd is
