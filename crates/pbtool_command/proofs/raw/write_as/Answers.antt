use Rattle.std.proofs.Common.{◌++◌}
use Rattle.hex.specs.Hex.{encode_lower}
use Rattle.pb_wire.specs.Spell.{shortest_records}
use Rattle.pb_listing.specs.RawListing.{line_feed, raw_listing}
use Rattle.pb_listing.proofs.MeantLemmas.{known_went}
use Rattle.pbtool_command.proofs.raw.write_as.Goals as goal

pub returns-in-Listing : goal.returns-in-Listing
returns-in-Listing g c = λ rs text. rw c.in-Listing.is (known_went g.O.Output.written g.O.Output.failures c.args.out.now c.write_listing.new.out (raw_listing rs) c.write_listing.result (c.write_listing.ensures rs text))

pub returns-in-Nested : goal.returns-in-Nested
returns-in-Nested g c = λ rs text. rw c.in-Nested.is (c.write_nested.ensures rs text)

pub returns-in-Shortest : goal.returns-in-Shortest
returns-in-Shortest g c = λ rs text.
    rw c.in-Shortest.is (known_went g.O.Output.written g.O.Output.failures c.args.out.now c.write_shortest.new.out (encode_lower (shortest_records rs) ++ line_feed) c.write_shortest.result (c.write_shortest.ensures rs text))
