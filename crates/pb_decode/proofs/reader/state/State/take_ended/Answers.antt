-- The list ends, and then the parts that end with it.
use Rattle.std.proofs.Common.{◌≡◌, rules, arith, Some}
use Rattle.std.proofs.lemmas.Result.{err_from_is_err_and}
use Rattle.pb_decode.specs.Reader.{state_view, left_of}
use Rattle.pb_decode.proofs.ReaderLemmas.{reads_on}
use Rattle.pb_decode.proofs.EndedLemmas.{list_few}
use Rattle.pb_decode.proofs.reader.state.State.take_ended.Goals as goal

pub returns-in_err-close_ended-in-Tag-clause-refused : goal.returns-in_err-close_ended-in-Tag-clause-refused
returns-in_err-close_ended-in-Tag-clause-refused c =
    λ m depth levels base p0 rest begun.
    let p = err_from_is_err_and c.from_residual.result c.from_residual.ensures.1 in
    rw (p.1, p.2) (c.in_err-close_ended-in-Tag.ensures.refused m depth levels base p0 rest begun)

pub end_list-requires : goal.end_list-requires
end_list-requires c =
    let few = list_few (state_view c.args.self.now) c.requires.can.0 c.in-Elements.number c.in-Elements.field-1 c.in-Elements.outer c.requires.can.1.reading.reads c.in-Elements.is in
    let small = c.requires.can.1.reading.small in
    record { few = omega (arith, few, small) }

pub close_ended-requires-in-Elements-clause-can : goal.close_ended-requires-in-Elements-clause-can
close_ended-requires-in-Elements-clause-can c =
    let can = c.requires.can.1 in
    let end : left_of (state_view c.args.self.now) ≡ Some 0 = search rules in
    let at = c.in_ok-end_list-in-Elements.ensures.at.0 in (
      c.requires.can.0,
      reads_on c.args.self.now c.end_list.new.self 0 c.requires.can.0 can (omega arith) (omega (arith, at))
          (λ m depth levels base p0 begun. c.in_ok-end_list-in-Elements.ensures.taken c.args.by.now.pool.now m depth levels c.in-Elements.field-1 base p0 c.requires.can.0 can.rules begun c.in-Elements.is end),
    )

pub returns-in_err-close_ended-in-Elements-clause-refused : goal.returns-in_err-close_ended-in-Elements-clause-refused
returns-in_err-close_ended-in-Elements-clause-refused c =
    λ m depth levels base p0 rest begun.
    let end : left_of (state_view c.args.self.now) ≡ Some 0 = search rules in
    let p = err_from_is_err_and c.from_residual-in_err-close_ended-in-Elements.result c.from_residual-in_err-close_ended-in-Elements.ensures.1 in
    rw (p.1, p.2)
    (c.in_err-close_ended-in-Elements.ensures.refused m depth levels base p0 rest
    (c.in_ok-end_list-in-Elements.ensures.taken c.args.by.now.pool.now m depth levels c.in-Elements.field-1 base p0 rest c.requires.can.1.rules begun c.in-Elements.is end))

pub returns-in_ok-close_ended-in-Elements-clause-taken :
    goal.returns-in_ok-close_ended-in-Elements-clause-taken
returns-in_ok-close_ended-in-Elements-clause-taken c =
    λ m depth levels base p0 rest begun.
    let end : left_of (state_view c.args.self.now) ≡ Some 0 = search rules in
    c.in_ok-close_ended-in-Elements.ensures.taken m depth levels base p0 rest
    (c.in_ok-end_list-in-Elements.ensures.taken c.args.by.now.pool.now m depth levels c.in-Elements.field-1 base p0 rest c.requires.can.1.rules begun c.in-Elements.is end)
