-- The element, or the run that it begins, goes to the end of the list.
use Rattle.std.proofs.Common.{ℕ, sym, ◌∙◌, refl, subst, arith}
use Rattle.pb_value.specs.View.{value_view}
use Rattle.pb_decode_parts.specs.declared.open.target.Target.TheVariants.{Element}
use Rattle.pb_decode_parts.specs.Open.Parents.{Part}
use Rattle.pb_decode_parts.specs.Open.PartView.{part_view}
use Rattle.pb_decode_parts.specs.Open.Targets.{Means, part_context}
use Rattle.pb_decode_parts.proofs.NumberSteps.{meant_type}
use Rattle.pb_decode_parts.proofs.RunLemmas.{listed_is}
use Rattle.pb_decode_whole.specs.Reads.{ReadsTo}
use Rattle.pb_decode_whole.proofs.Payloads.{open_can}
use Rattle.pb_decode_whole.proofs.ListedLemmas.{element_at}
use Rattle.pb_decode_whole.proofs.reader.Reader.read_elements.Goals as goal

pub element_after-requires : goal.element_after-requires
element_after-requires c = record { at_element = element_at c.requires.at_tag c.requires.number c.requires.means }

pub put_scalar-requires : goal.put_scalar-requires
put_scalar-requires c = open_can c.requires.at_tag.can.rules c.requires.at_tag.can.is_open

pub elements_from-requires-clause-at_element : goal.elements_from-requires-clause-at_element
elements_from-requires-clause-at_element c = element_at c.requires.at_tag c.requires.number c.requires.means

pub returns-then-not-begins_again : goal.returns-then-not-begins_again
returns-then-not-begins_again c =
    record {
      least = c.in-Some.ensures.within.0;
      most = c.in-Some.ensures.within.1;
      read =
          let same = meant_type c.args.self.now.pool.now (part_view c.args.part.now) c.args.at.tag.number c.args.at.tag.wire_type (Element c.args.kind) c.args.kind c.requires.means refl in
          let means = subst (λ (z : ℕ). Means c.args.self.now.pool.now (part_context (part_view c.args.part.now)) c.args.at.tag.number z (Element c.args.kind)) same c.requires.means in
          subst (λ (z : Part). ReadsTo c.args.self.now.pool.now (part_view c.args.part.now) z c.args.at.bytes.now c.args.at.left.remaining c.args.at.left.depth_left c.in-Some.size)
          (listed_is c.args.self.now.pool.now c.args.at.tag.number c.args.kind (part_view c.args.part.now) (value_view c.in-Some.value) ∙ sym c.in_ok-put_scalar.ensures)
          (c.in-Some.ensures.put c.args.at.left.depth_left (part_view c.args.part.now) means);
    }

pub returns : goal.returns
returns c =
    let first = c.in-Some.ensures.within.0 in
    let more = c.in_ok-values.ensures.within.0 in
    record {
      least = omega (arith, first, more);
      most = c.in_ok-values.ensures.within.1;
      read =
          let same = meant_type c.args.self.now.pool.now (part_view c.args.part.now) c.args.at.tag.number c.args.at.tag.wire_type (Element c.args.kind) c.args.kind c.requires.means refl in
          let means = subst (λ (z : ℕ). Means c.args.self.now.pool.now (part_context (part_view c.args.part.now)) c.args.at.tag.number z (Element c.args.kind)) same c.requires.means in
          subst (λ (z : Part). ReadsTo c.args.self.now.pool.now (part_view c.args.part.now) z c.args.at.bytes.now c.args.at.left.remaining c.args.at.left.depth_left c.in_ok-values.used) (sym c.in_ok-put_elements.ensures)
          (c.in_ok-values.ensures.put c.args.at.left.depth_left (part_view c.args.part.now) means);
    }
