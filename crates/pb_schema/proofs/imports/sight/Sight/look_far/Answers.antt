use Rattle.std.proofs.Common.{arith}
use Rattle.std.proofs.lemmas.List.{length-map}
use Rattle.pb_schema.specs.declared.types.FileInfo.{FileInfo}
use Rattle.pb_schema.specs.View.{file_view}
use Rattle.pb_schema.proofs.ImportLemmas.{is_graph}
use Rattle.pb_schema.proofs.SightLemmas.{far_marked}
use Rattle.pb_schema.proofs.imports.sight.Sight.look_far.Goals as goal

pub follow-requires-clause-graph : goal.follow-requires-clause-graph
follow-requires-clause-graph c = is_graph c.args.files.now c.requires.imports

pub returns-clause-known : goal.returns-clause-known
returns-clause-known c = record {
  size = omega (arith, c.follow.new.self.bits.ok.0, c.in_ok-follow.ensures.size, length-map c.args.files.now file_view, length-map c.args.files.now (λ (f : FileInfo). f.imports.items));
  listed = c.in_ok-follow.ensures.listed;
  exact = λ i j at. far_marked c.args.files.now c.args.self.now c.follow.new.self c.requires.known c.in_ok-follow.ensures.exact i j at;
}
