-- Its target is that of a payload where its wire type says so.
use Rattle.std.proofs.Common.{◌≡◌, ℕ, subst, arith}
use Rattle.pb_decode_parts.specs.Open.PartView.{part_view}
use Rattle.pb_decode_parts.specs.Open.Targets.{Means, part_context}
use Rattle.pb_decode_whole.proofs.reader.Reader.read_scalar.Goals as goal

pub read_bytes-requires-clause-means : goal.read_bytes-requires-clause-means
read_bytes-requires-clause-means c =
    let two = c.if-at-eq2.true in
    let is : c.args.at.tag.wire_type ≡ 2 = omega (arith, two) in
    subst (λ (z : ℕ). Means c.args.self.now.pool.now (part_context (part_view c.args.entry.now)) c.args.at.tag.number z c.args.target) is c.requires.means
