use Rattle.std.proofs.Common.{rules, ◌≡◌, ℤ, None, false, of_z, sym, subst, to_z, w32, FitsSigned}
use Rattle.pb_schema.specs.declared.types.Kind.{Kind}
use Rattle.pb_schema.specs.declared.types.Kind.TheVariants as kind
use Rattle.pb_schema.specs.Kinds.{closed_enum}
use Rattle.pb_schema.specs.Scalar.{enum}
use Rattle.pb_value.specs.Data.{Datum, scalar}
use Rattle.pb_value.specs.View.{value_view}
use Rattle.pb_value.specs.declared.body.Value.TheVariants as value
use Rattle.pb_value.specs.declared.body.Value.{the_lemmas as value_lemmas}
use Rattle.pb_compat.specs.Samples.{IsLostValue}
use Rattle.pb_compat.proofs.LostValueLemmas.{number_lost, open_is_lost}
use Rattle.pb_compat.proofs.SampleLemmas.{is_searched}
use Rattle.pb_compat.proofs.samples.lost_value.Goals as goal

pub returns-in-ClosedEnum-default : goal.returns-in-ClosedEnum-default
returns-in-ClosedEnum-default c =
    let old = c.args.old.now in
    let new = c.args.new.now in
    let z = c.number_not_held.result in
    let i = c.in-ClosedEnum-default.entry in
    let same : z ≡ to_z w32 (of_z w32 z) = search rules in
    let fits : FitsSigned w32 z = search rules in
    let lost = number_lost old new i c.args.to z fits c.number_not_held.ensures.declared c.number_not_held.ensures.other in
    let view : value_view (value.Enum (to_z w32 (of_z w32 z))) ≡ scalar (enum (to_z w32 (of_z w32 z))) = search (rules, value_lemmas) in
    subst (λ (d : Datum). IsLostValue old new c.args.from c.args.to d) (sym view)
    (subst (λ (a : Kind). IsLostValue old new a c.args.to (scalar (enum (to_z w32 (of_z w32 z))))) (sym c.in-ClosedEnum-default.is-0)
    (subst (λ (y : ℤ). IsLostValue old new (kind.ClosedEnum i) c.args.to (scalar (enum y))) same lost))

pub returns-in_default : goal.returns-in_default
returns-in_default c =
    let unclosed : closed_enum c.args.from ≡ None = search rules in
    let looked : is_searched c.args.from c.args.to ≡ false = search rules in
    open_is_lost c.args.old.now c.args.new.now c.args.from c.args.to c.open_value.result unclosed c.requires looked c.open_value.ensures.same c.open_value.ensures.other
