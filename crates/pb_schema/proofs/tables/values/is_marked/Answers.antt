use Rattle.std.proofs.Common.{◌≡◌, ◌<◌, ◌-ℤ◌, ℤ, pos, to_z, of_z, length, get_or, refl, sym, subst, ap, ◌∙◌, rules}
use Rattle.std.specs.Prelude.{FitsSigned, Some}
use Rattle.std.specs.Int.{w32}
use Rattle.std.proofs.lemmas.Int.{to_z-of_z}
use Rattle.std.proofs.lemmas.Option.{slice_get_read}
use Rattle.pb_schema.proofs.tables.values.is_marked.Goals as goal

pub returns-in-Some-get : goal.returns-in-Some-get
returns-in-Some-get c = λ vs are marked.
    let number = c.args.number in
    let least = c.args.table.now.least in
    let d = c.in-Some.distance in
    let fits : FitsSigned w32 least = search rules in
    let far : number -ℤ least ≡ pos d = ap (λ (z : ℤ). z -ℤ least) (sym (to_z-of_z w32 number c.ranges.number)) ∙ ap (λ (z : ℤ). to_z w32 (of_z w32 number) -ℤ z) (sym (to_z-of_z w32 least fits)) ∙ c.in-Some.ensures in
    let marks = c.args.table.now.marks.items in
    let within : d < length marks = subst (λ l. d < length l) c.deref.ensures.value c.in-Some-get.ensures.lookup.3.0 in
    let at : c.in-Some-get.marked.now ≡ get_or marks d c.in-Some-get.marked.now = subst (λ l. c.in-Some-get.marked.now ≡ get_or l d c.in-Some-get.marked.now) c.deref.ensures.value c.in-Some-get.ensures.lookup.1 in
    are d (slice_get_read marks (length marks) d _ refl within at ∙ ap Some marked) number far
