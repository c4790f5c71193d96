use Rattle.std.proofs.Common.{◌≡◌, ℤ, Some, None, map, subst, ap, ◌∙◌, arith, string_bytes}
use Rattle.std.specs.Int.{w32}
use Rattle.std.specs.Ordering.{int_cmp}
use Rattle.std.specs.BTreeMap.{get}
use Rattle.std.proofs.lemmas.Int.{to_z-of_z}
use Rattle.pb_schema.proofs.ValueLemmas.{place_found, place_within, named_there, named_nowhere}
use Rattle.pb_schema.proofs.tables.values.first_named.Goals as goal

pub returns-in-Some-get : goal.returns-in-Some-get
returns-in-Some-get c =
    let vs = c.args.values.now in
    let number = c.args.number in
    let place = place_found (map (λ v. (string_bytes v.0, v.1)) vs) c.args.table.now.firsts number _ c.requires.firsts (subst (λ (n : ℤ). Some c.in-Some.first.now ≡ get int_cmp c.args.table.now.firsts n) (to_z-of_z w32 number c.ranges.number) c.in-Some.ensures.value) in
    ap Some c.as_str.ensures.value ∙ named_there vs number c.in-Some.first.now c.in-Some-get.value.now place c.in-Some-get.ensures.lookup.1

pub returns-in-None-get : goal.returns-in-None-get
returns-in-None-get c =
    let vs = c.args.values.now in
    let number = c.args.number in
    let place = place_found (map (λ v. (string_bytes v.0, v.1)) vs) c.args.table.now.firsts number _ c.requires.firsts (subst (λ (n : ℤ). Some c.in-Some.first.now ≡ get int_cmp c.args.table.now.firsts n) (to_z-of_z w32 number c.ranges.number) c.in-Some.ensures.value) in
    absurd (omega (arith, place_within vs number c.in-Some.first.now place, c.in-None-get.ensures.lookup.3))

pub returns-in-None : goal.returns-in-None
returns-in-None c =
    let number = c.args.number in
    let place = place_found (map (λ v. (string_bytes v.0, v.1)) c.args.values.now) c.args.table.now.firsts number _ c.requires.firsts (subst (λ (n : ℤ). None ≡ get int_cmp c.args.table.now.firsts n) (to_z-of_z w32 number c.ranges.number) c.in-None.ensures.value) in
    named_nowhere (map (λ v. (string_bytes v.0, v.1)) c.args.values.now) number place
