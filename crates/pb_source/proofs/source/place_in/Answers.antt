use Rattle.std.proofs.Common.{length, ltb-true, ltb-false, sym}
use Rattle.pb_source.proofs.ParseLemmas.{place_there, place_past}
use Rattle.pb_source.proofs.source.place_in.Goals as goal

pub returns-in-Some : goal.returns-in-Some
returns-in-Some c =
    place_there c.args.symbols.now c.args.end c.args.index _ c.in-Some.placed.now (ltb-true c.args.index (length c.args.symbols.now) (sym c.in-Some.ensures.lookup.0)) c.in-Some.ensures.lookup.1

pub returns-in-None : goal.returns-in-None
returns-in-None c = place_past c.args.symbols.now c.args.end c.args.index (ltb-false c.args.index (length c.args.symbols.now) (sym c.in-None.ensures.lookup.0))
