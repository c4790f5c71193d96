use Rattle.std.proofs.Common.{◌≡◌, Bool, true, false, not, ap, sym, ◌∙◌, map, rules}
use Rattle.std.specs.Ordering.{int_cmp}
use Rattle.std.specs.BTreeSet.{contains}
use Rattle.std.proofs.lemmas.List.{take_all}
use Rattle.pb_declarations.specs.View.{numbered_view}
use Rattle.pb_link.specs.ToDecls.{shares_numbers}
use Rattle.pb_link.proofs.DeclaredLemmas.{none_yet, apart_more, shared}
use Rattle.pb_link.proofs.declaring.enums.shares_numbers.Goals as goal

turned : (a b c : Bool) → a ≡ not b → a ≡ c → b ≡ not c
turned a true c e f = cc
turned a false c e f = cc

pub loop-value-init : goal.loop-value-init
loop-value-init c = none_yet (contains int_cmp c.new-seen.result) (λ z. ap (λ ks. contains int_cmp (record { keys = ks }) z) c.new-seen.ensures.empty)

pub loop-value-preserved : goal.loop-value-preserved
loop-value-preserved c =
    apart_more numbered_view c.args.values.now c.loop-value.value-index c.value-item.result c.loop-value-test.true c.value-item.is _ (contains int_cmp c.loop-value.seen) (contains int_cmp c.insert.new.self) (search rules) c.loop-value.invariant
    (turned c.in_ok-is_new.is_new _ true c.in_ok-is_new.ensures.added c.if-not-is_new.false) c.in_ok-is_new.ensures.updates.0

pub returns-then-not-is_new : goal.returns-then-not-is_new
returns-then-not-is_new c =
    sym (shared numbered_view c.args.values.now c.loop-value.value-index c.value-item.result c.loop-value-test.true c.value-item.is _ (contains int_cmp c.loop-value.seen) (search rules) c.loop-value.invariant
    (turned c.in_ok-is_new.is_new _ false c.in_ok-is_new.ensures.added c.if-not-is_new.true))

pub returns : goal.returns
returns c = sym (ap (λ l. shares_numbers (map numbered_view l)) (sym (take_all c.loop-value.value-index c.args.values.now c.loop-value-test.false)) ∙ c.loop-value.invariant.apart)
