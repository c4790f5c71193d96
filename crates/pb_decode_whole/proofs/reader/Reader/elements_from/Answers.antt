-- Record by record the values go to the end of the list.
use Rattle.std.proofs.Common.{List, ◌∷◌, [], ◌++◌, map, sym, ap, ◌∙◌, subst, arith}
use Rattle.pb_value.specs.View.{value_view}
use Rattle.pb_value.specs.declared.body.Value.{Value}
use Rattle.pb_decode_whole.specs.Listed.{ReadsList}
use Rattle.pb_decode_whole.proofs.Tags.{next_size}
use Rattle.pb_decode_whole.proofs.ListedLemmas.{element_next, elements_further}
use Rattle.pb_decode_whole.proofs.reader.Reader.elements_from.Goals as goal

pub loop-next-init : goal.loop-next-init
loop-next-init c = record {
  after = omega arith;
  within = c.requires.within;
  put = subst (λ (z : List Value). ReadsList c.args.self.now.pool.now c.args.kind c.args.at.tag.number (map value_view z) c.args.at.bytes.now c.args.at.left.remaining c.args.size)
      (sym (c.in_ok-push.ensures.items ∙ ap (λ (z : List Value). z ++ c.args.first ∷ []) c.new-values.ensures.items)) c.requires.first;
}

pub element_after-requires : goal.element_after-requires
element_after-requires c = record { at_element = element_next c.loop-next.here c.requires.at_element c.after.ensures c.in-Some.ensures.own c.in-Some.ensures.begins }

pub loop-next-preserved : goal.loop-next-preserved
loop-next-preserved c =
    let size = next_size c.args.at.bytes.now c.loop-next.here c.in-Some.ensures.begins in
    let within = c.in-Some-element_after.ensures.within.1 in
    let first = c.loop-next.invariant.after in
    record {
      after = omega (arith, first);
      within = omega (arith, size, within);
      put = elements_further c.args.at c.loop-next.values.items c.push-in-Some.new.self.items c.in-Some-element_after.value c.loop-next.here c.in-Some-element_after.size c.in_ok-push-2.ensures.items c.loop-next.invariant.put c.after.ensures c.in-Some.ensures.own c.in-Some.ensures.begins c.in-Some-element_after.ensures.put;
    }
