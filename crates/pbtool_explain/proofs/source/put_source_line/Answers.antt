use Rattle.std.proofs.Common.{◌≡◌, ◌-◌, ℕ, List, arith, drop, length, length-drop, refl, subst, take}
use Rattle.std.proofs.lemmas.List.{take_all}
use Rattle.pb_output.proofs.SinkLemmas.{puts_then}
use Rattle.pbtool_explain.specs.Source.{IsLineRest}
use Rattle.pbtool_explain.proofs.source.put_source_line.Goals as goal

pub returns : goal.returns
returns g c =
    let line = c.line_at-line.ensures in
    let front = c.front_of_line-before.ensures in
    let position = rw (line.number, c.column_of.ensures, front) at c.put_position.ensures in
    let before = rw front at c.put-2.ensures in
    let mark = rw front at c.put_mark.ensures in
    let source = c.args.source.now in
    let at = c.args.at in
    let all : take (length source - at) (drop at source) ≡ drop at source =
    take_all (length source - at) (drop at source) (let size = length-drop at source in omega (arith, size)) in
    let rest = subst (λ (z : List ℕ). IsLineRest z c.rest_of_line-rest.result.now) all c.rest_of_line-rest.ensures in (
      _,
      (c.line_at-line.result.start, c.rest_of_line-rest.result.now, line.start, rest, refl),
      puts_then (puts_then (puts_then (puts_then (puts_then position c.put.ensures) before) c.put-3.ensures) c.put-4.ensures) mark,
    )
