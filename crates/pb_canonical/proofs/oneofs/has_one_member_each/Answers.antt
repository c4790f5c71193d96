use Rattle.std.proofs.Common.{refl, arith}
use Rattle.pb_wire.specs.Spell.{shortest_records}
use Rattle.pb_schema.specs.Types.{message_fields}
use Rattle.pb_value.specs.Canon.{canon_fields}
use Rattle.pb_canonical.proofs.OneofLemmas.{each_below, front_of}
use Rattle.pb_canonical.proofs.oneofs.has_one_member_each.Goals as goal

pub returns-then-oneofs-le-MARKED : goal.returns-then-oneofs-le-MARKED
returns-then-oneofs-le-MARKED c = λ fs w deep e each. (
  λ yes. each_below (message_fields c.args.pool.now c.args.message_type.0) 128 fs (λ n o q. let low = c.oneof_count-oneofs.ensures.below n o q in omega (arith, low)) each,
  λ h. refl,
)

pub returns : goal.returns
returns c = λ fs w deep e each.
    let all = message_fields c.args.pool.now c.args.message_type.0 in
    let records = front_of c.args.bytes.now (shortest_records (canon_fields c.args.pool.now all fs)) c.args.rest.now e in (
      λ yes. each_below all c.oneof_count-oneofs.result fs c.oneof_count-oneofs.ensures.below (c.have_further_oneofs_one_each.ensures.each fs w deep records each yes),
      λ h. c.have_further_oneofs_one_each.ensures.complete fs w deep records h,
    )
