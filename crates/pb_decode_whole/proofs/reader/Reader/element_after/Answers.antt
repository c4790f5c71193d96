-- What the number means goes to the end of the list.
use Rattle.std.proofs.Common.{ℕ, ◌+◌, Some, refl, sym, ap, ◌∙◌, subst, arith, length, length-drop}
use Rattle.pb_wire.specs.Fault.{Place}
use Rattle.pb_wire.specs.Scan.{given_at, passed}
use Rattle.pb_value.specs.View.{value_view}
use Rattle.pb_decode_parts.specs.declared.open.target.Target.TheVariants.{Element}
use Rattle.pb_decode_parts.specs.Open.Targets.{Means, part_context}
use Rattle.pb_decode_whole.specs.Reads.{ReachedIn}
use Rattle.pb_decode_parts.proofs.RunLemmas.{listed_is}
use Rattle.pb_decode_parts.specs.Open.Parents.{Part, one_more_in}
use Rattle.pb_decode_parts.specs.Tokens.After.{tag}
use Rattle.pb_decode_parts.specs.Tokens.Number.{number_view}
use Rattle.pb_decode_parts.specs.Tokens.Numbers.{Follows}
use Rattle.pb_decode_parts.specs.Values.Put.{put_datum}
use Rattle.pb_decode_parts.proofs.PlaceLemmas.{slice_from}
use Rattle.pb_decode_whole.proofs.Tags.{there_after, number_next}
use Rattle.pb_decode_parts.proofs.NumberSteps.{read_some, number_put}
use Rattle.pb_decode_parts.proofs.AnswerLemmas.{reported_of}
use Rattle.pb_decode_parts.proofs.WellLemmas.{can_hold}
use Rattle.pb_decode_whole.proofs.reader.Reader.element_after.Goals as goal

pub overflow_add-result : goal.overflow_add-result
overflow_add-result c =
    let is = ap length (slice_from c.args.at.tag.size c.args.at.bytes.now) ∙ length-drop c.args.at.tag.size c.args.at.bytes.now in
    let after = (c.in-Whole.ensures 0).1 in
    let within = c.requires.at_element.within in
    let small = c.requires.at_element.small in
    omega (arith, is, after, within, small)

pub returns-else-is_undeclared-clause-within : goal.returns-else-is_undeclared-clause-within
returns-else-is_undeclared-clause-within c =
    let is = ap length (slice_from c.args.at.tag.size c.args.at.bytes.now) ∙ length-drop c.args.at.tag.size c.args.at.bytes.now in
    let after = (c.in-Whole.ensures 0).1 in
    let within = c.requires.at_element.within in
    (omega arith, omega (arith, is, after, within))

pub returns-else-is_undeclared-clause-put : goal.returns-else-is_undeclared-clause-put
returns-else-is_undeclared-clause-put c =
    λ depth_left now means m depth levels at base p0 parents there.
    let pool = c.args.self.now.pool.now in
    let number = c.args.at.tag.number in
    let kind = c.args.kind in
    let v = value_view c.number_value.result in
    let p : Place = given_at at (Some c.args.at.left.remaining) c.args.at.bytes.now in
    let reported = c.in-Whole.ensures (at + c.args.at.tag.size) in
    let follows =
    there_after (λ (q r : Place). Follows q (number_view c.in-Whole.number) r) at (Some c.args.at.left.remaining) c.left_after-after.result c.args.at.bytes.now c.args.at.tag.size c.in-Whole.size c.left_after-after.ensures reported.2 in
    let meant = subst (λ (z : ℕ). Means pool (part_context now) number z (Element kind)) (sym c.requires.at_element.own) means in
    let next = number_next number c.args.at.tag.wire_type (Element kind) c.requires.at_element.number there.1 (c.requires.at_element.there at) meant in
    let given = read_some kind c.in-Whole.number (reported.0 ∙ c.requires.at_element.own) in
    subst (λ (z : Part). ReachedIn pool m depth levels base p0 parents depth_left z (passed p (c.args.at.tag.size + c.in-Whole.size))) (sym (listed_is pool number kind now v)) (
      one_more_in number there.0,
      number_put number c.in-Whole.number (Element kind) kind next.2 (next.1 ∙ ap (λ (z : ℕ). Some (tag number z (Element kind))) (sym reported.0)) refl given.0 (put_datum pool number (Element kind) now v) c.requires.at_element.rules (can_hold c.requires.at_element.rules now there.1) given.1
          (sym c.is_undeclared.ensures ∙ c.if-is_undeclared.false) follows (ap (put_datum pool number (Element kind) now) (reported_of _ _ given.0 given.1 c.number_value.ensures)),
      there.2,
    )
