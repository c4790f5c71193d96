use Rattle.std.proofs.Common.{◌≡◌, ◌<◌, ◌+◌, ◌-◌, ◌*◌, ◌/◌, ◌^◌, ◌++◌, ℕ, List, suc, take, length, arith, ap, sym, subst, ◌∙◌}
use Rattle.std.proofs.lemmas.List.{take_more_set, length-set}
use Rattle.pb_wire.proofs.VarintLemmas.{group_left, next_group, shortest-last, push_group}
use Rattle.pb_output.proofs.buffer.OutputBuffer.push_long_varint.Goals as goal

pub groups-preserved : goal.groups-preserved
groups-preserved c =
    let begin = length c.args.self.now in
    let done = c.groups.end - begin in
    let within : done < 9 = group_left c.groups.rest done (omega (arith, c.groups.invariant.within)) c.groups.invariant.left c.groups-test.true in
    let next : suc done ≡ c.groups.end + 1 - begin = omega (arith, c.groups.invariant.from) in record {
      whole = simp length-set (c.groups.invariant.whole);
      from = omega (arith, c.groups.invariant.from);
      within = omega (arith, within, c.groups.invariant.from);
      left = subst (λ (m : ℕ). c.groups.rest / 128 * 2 ^ (7 * m) < 2 ^ 64) next (next_group c.groups.rest done c.groups.invariant.left);
      bytes =
          push_group c.groups.self-inside.bytes c.groups.end c.groups.rest (omega (arith, c.groups.invariant.whole, c.groups.invariant.within, c.requires)) c.groups-test.true
          ∙ c.groups.invariant.bytes;
    }

pub returns-clause-after : goal.returns-clause-after
returns-clause-after c =
    let held = c.groups.self-inside.bytes in
    let within : c.groups.end < length held = omega (arith, c.groups.invariant.whole, c.groups.invariant.within, c.requires) in
    take_more_set held c.groups.end c.groups.rest within
    ∙ ap (λ (l : List ℕ). take c.groups.end held ++ l) (sym (shortest-last c.groups.rest c.groups-test.false)) ∙ c.groups.invariant.bytes
