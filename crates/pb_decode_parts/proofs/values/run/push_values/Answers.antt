-- Value by value they go to the end of their list: with one more in it the reader is after its element.
use Rattle.std.proofs.Common.{◌≡◌, ◌+◌, ◌-◌, ℕ, Option, Some, None, false, sym, ap, ◌∙◌, subst, arith, map, take, drop, length, length-drop}
use Rattle.std.proofs.lemmas.List.{drop-take, length-take}
use Rattle.pb_wire.specs.Fault.{Place}
use Rattle.pb_wire.specs.Scan.{given_at, passed}
use Rattle.pb_schema.specs.Closed.{is_undeclared}
use Rattle.pb_schema.specs.Kinds.{closed_enum}
use Rattle.pb_value.specs.View.{value_view}
use Rattle.pb_decode_parts.specs.declared.open.target.Target.TheVariants.{Element}
use Rattle.pb_decode_parts.specs.declared.tokens.step.Step.TheVariants.{Elements}
use Rattle.pb_decode_parts.specs.Open.Parents.{Part}
use Rattle.pb_decode_parts.specs.Tokens.After.{After}
use Rattle.pb_decode_parts.specs.Tokens.Number.{IsNumberType, number_view}
use Rattle.pb_decode_parts.specs.Values.Put.{put_datum}
use Rattle.pb_decode_parts.specs.Values.Puts.{ListGoesOn}
use Rattle.pb_decode_parts.specs.Values.Run.{put_each, put_listed}
use Rattle.pb_decode_parts.proofs.AnswerLemmas.{reported_of}
use Rattle.pb_decode_parts.proofs.ListSteps.{element_put}
use Rattle.pb_decode_parts.proofs.NumberSteps.{read_some}
use Rattle.pb_decode_parts.proofs.NumberTokens.{size_some, follows_on}
use Rattle.pb_decode_parts.proofs.PlaceLemmas.{slice_from, passed_twice}
use Rattle.pb_decode_parts.proofs.RunLemmas.{listed_is, value_added}
use Rattle.pb_decode_parts.proofs.values.run.push_values.Goals as goal

pub scan_number-token-requires : goal.scan_number-token-requires
scan_number-token-requires c = subst IsNumberType (sym c.wire_type.ensures) c.requires.number

pub overflow_add-here : goal.overflow_add-here
overflow_add-here c =
    let here = c.loop-here.here in
    let size = ap length (slice_from here c.args.payload.now) ∙ length-drop here c.args.payload.now in
    let within = (c.in-Whole.ensures 0).0 in
    omega (arith, size, within)

pub loop-here-smaller : goal.loop-here-smaller
loop-here-smaller c =
    let here = c.loop-here.here in
    let some = size_some c.in-Whole.value (given_at 0 None (take (length c.args.payload.now - here) (drop here c.args.payload.now))) c.in-Whole.size (c.in-Whole.ensures 0).1.1 in
    let less = c.loop-here-test.true in
    omega (arith, some, less)

pub loop-here-preserved : goal.loop-here-preserved
loop-here-preserved c =
    let here = c.loop-here.here in
    let used = c.in-Whole.size in
    let value = c.in-Whole.value in
    let kind = c.args.kind in
    let payload = c.args.payload.now in
    let slice = slice_from here payload in
    let size = ap length slice ∙ length-drop here payload in
    let within = (c.in-Whole.ensures 0).0 in
    record {
      within = omega (arith, size, within);
      put = λ pool number size bytes is m depth levels at outer base p0 parents scope now begun.
          let p : Place = given_at at (Some size) bytes in
          let short = ap length is ∙ length-take size bytes in
          let less = c.loop-here.invariant.within in
          let all : size ≡ here + (size - here) = omega (arith, short, less) in
          let rest = slice ∙ ap (drop here) (is ∙ ap (λ (z : ℕ). take z bytes) all) ∙ drop-take here (size - here) bytes in
          let was = c.loop-here.invariant.put pool number size bytes is m depth levels at outer base p0 parents scope now begun in
          let old = put_each number (map value_view c.loop-here.values.items) now in
          let reported = c.in-Whole.ensures (at + here) in
          let type = reported.1.0 ∙ c.wire_type.ensures in
          let there = read_some kind value type in
          let same = reported_of _ _ there.0 there.1 c.number_value.ensures in
          let declared : is_undeclared pool (closed_enum kind) (number_view value) ≡ false = ap (λ (e : Option ℕ). is_undeclared pool e (number_view value)) c.requires.open in
          subst (After pool m depth levels base p0 parents (Elements number kind outer) (put_each number (map value_view c.push.new.self.items) now) scope) (passed_twice p here used)
          (subst (λ (z : Part). After pool m depth levels base p0 parents (Elements number kind outer) z scope (passed (given_at (at + here) (Some (size - here)) (drop here bytes)) used))
          (sym (value_added number c.loop-here.values.items _ c.number_value.result now c.in_ok-push.ensures.items))
          (element_put number kind outer value there.0 (put_listed number (value_view c.number_value.result) old) was type there.1 declared
          (follows_on (number_view value) (at + here) (size - here) used (drop here bytes) (take (length payload - here) (drop here payload)) rest reported.0 reported.1.1)
          (listed_is pool number kind old (value_view c.number_value.result) ∙ ap (put_datum pool number (Element kind) old) same)));
    }

pub returns : goal.returns
returns c =
    λ _.
    let less = c.loop-here.invariant.within in
    let all : c.loop-here.here ≡ length c.args.payload.now = omega (arith, less, c.loop-here-test.false) in
    subst (ListGoesOn c.args.kind c.args.payload.now c.args.values.now.items c.loop-here.values.items) all c.loop-here.invariant.put
