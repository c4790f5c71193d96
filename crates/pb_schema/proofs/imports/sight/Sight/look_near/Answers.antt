use Rattle.std.proofs.Common.{◌<◌, All, map, vec_len, sym, subst, arith}
use Rattle.std.proofs.lemmas.List.{length-map}
use Rattle.pb_graphs.proofs.ReachLemmas.{next_within}
use Rattle.pb_schema.specs.declared.types.FileInfo.{FileInfo}
use Rattle.pb_schema.specs.View.{file_view}
use Rattle.pb_schema.proofs.ImportLemmas.{is_graph}
use Rattle.pb_schema.proofs.SightLemmas.{near_marked}
use Rattle.pb_schema.proofs.imports.sight.Sight.look_near.Goals as goal

pub start-requires-clause-starts : goal.start-requires-clause-starts
start-requires-clause-starts c =
    let files = c.args.files.now in
    let bits = c.args.self.now.reach.bits in
    subst (All (λ j. j < vec_len bits)) (sym c.next.ensures) (next_within (map (λ (f : FileInfo). f.imports.items) files) c.args.file (vec_len bits) (is_graph files c.requires.imports) (omega (arith, bits.ok.0, c.requires.known.size, length-map files file_view, length-map files (λ (f : FileInfo). f.imports.items))))

pub returns-clause-known : goal.returns-clause-known
returns-clause-known c = record {
  size = omega (arith, c.args.self.now.reach.bits.ok.0, c.start.new.self.bits.ok.0, c.in_ok-start.ensures.size, c.requires.known.size);
  listed = c.in_ok-start.ensures.listed;
  exact = λ i j at. near_marked c.args.files.now c.args.file i j c.next.result.now c.start.new.self c.next.ensures (c.in_ok-start.ensures.exact j) at;
}
