use Rattle.std.proofs.Common.{ℕ, Vec, Global, ◌<◌, length, refl, arith, ◌≡◌, true, false, sym, ◌∙◌, ap, map, Some}
use Rattle.std.proofs.lemmas.Option.{slice_get_read}
use Rattle.std.specs.Prelude.{slice_get}
use Rattle.std.specs.Str.{bytes_eq}
use Rattle.pb_names.specs.NameHash.{name_hash}
use Rattle.pb_names.specs.NameIndex.{first_of, other_of, is_at_index}
use Rattle.pb_names.proofs.NameIndexLemmas.{found_at, is_at_index_of, bytes_eq-sym, same_length}
use Rattle.pb_names.proofs.name_set.find.Goals as goal

pub returns-then-eq : goal.returns-then-eq
returns-then-eq c =
    let at : first_of c.args.by_hash.now (name_hash c.args.name.now) ≡ Some c.in-Some.first = ap (first_of c.args.by_hash.now) (sym c.name_hash.ensures) ∙ sym c.get.ensures.value ∙ sym c.copied.ensures ∙ c.in-Some.is in
    let within : c.in-Some.first < length c.args.names.now = omega (arith, c.requires.within (name_hash c.args.name.now) c.in-Some.first at, same_length (λ (n : Vec ℕ Global). n.items) c.args.names.now) in
    let there : slice_get c.args.names.now c.in-Some.first ≡ Some c.index-names-first.result = slice_get_read c.args.names.now (length c.args.names.now) c.in-Some.first c.index-names-first.result refl within c.index-names-first.is in
    let here : is_at_index (map (λ n. n.items) c.args.names.now) c.args.name.now c.in-Some.first ≡ true = is_at_index_of c.args.names.now c.args.name.now c.in-Some.first c.index-names-first.result there ∙ bytes_eq-sym c.args.name.now c.index-names-first.result.items ∙ ap (λ x. bytes_eq x c.args.name.now) (sym c.as_slice.ensures.value) ∙ sym c.eq.ensures ∙ c.if-eq.true in
    found_at (map (λ n. n.items) c.args.names.now) (first_of c.args.by_hash.now) (other_of c.args.others.now) c.args.name.now c.in-Some.first true c.requires at here

pub returns : goal.returns
returns c =
    let at : first_of c.args.by_hash.now (name_hash c.args.name.now) ≡ Some c.in-Some.first = ap (first_of c.args.by_hash.now) (sym c.name_hash.ensures) ∙ sym c.get.ensures.value ∙ sym c.copied.ensures ∙ c.in-Some.is in
    let within : c.in-Some.first < length c.args.names.now = omega (arith, c.requires.within (name_hash c.args.name.now) c.in-Some.first at, same_length (λ (n : Vec ℕ Global). n.items) c.args.names.now) in
    let there : slice_get c.args.names.now c.in-Some.first ≡ Some c.index-names-first.result = slice_get_read c.args.names.now (length c.args.names.now) c.in-Some.first c.index-names-first.result refl within c.index-names-first.is in
    let here : is_at_index (map (λ n. n.items) c.args.names.now) c.args.name.now c.in-Some.first ≡ false = is_at_index_of c.args.names.now c.args.name.now c.in-Some.first c.index-names-first.result there ∙ bytes_eq-sym c.args.name.now c.index-names-first.result.items ∙ ap (λ x. bytes_eq x c.args.name.now) (sym c.as_slice.ensures.value) ∙ sym c.eq.ensures ∙ c.if-eq.false in
    c.copied-2.ensures ∙ c.get-2.ensures.value ∙ found_at (map (λ n. n.items) c.args.names.now) (first_of c.args.by_hash.now) (other_of c.args.others.now) c.args.name.now c.in-Some.first false c.requires at here
