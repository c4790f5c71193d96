use Rattle.std.proofs.Common.{◌≡◌, ◌+◌}
use Rattle.std.specs.Prelude.{true}
use Rattle.pb_schema.specs.Types.{message_fields}
use Rattle.pb_value.specs.Canon.{canon_fields}
use Rattle.pb_canonical.proofs.OneofLemmas.{each_more, of_each, readable_fields, one_member_of, one_record_of}
use Rattle.pb_canonical.proofs.oneofs.have_further_oneofs_one_each.Goals as goal

pub oneofs-preserved : goal.oneofs-preserved
oneofs-preserved c = λ fs w deep e each.
    let pool = c.args.pool.now in
    let all = message_fields pool c.args.message_type.0 in
    each_more all c.oneofs.first fs (c.oneofs.invariant fs w deep e each)
    (λ i l.
    one_member_of pool all (c.oneofs.first + i) fs w
    ((c.has_one_record_each.ensures (canon_fields pool all fs) (readable_fields pool c.args.message_type.0 c.args.levels fs c.requires.rules w deep) e).0
    c.if-not-has_one_record_each.false i l))

pub returns-then-not-has_one_record_each-clause-complete : goal.returns-then-not-has_one_record_each-clause-complete
returns-then-not-has_one_record_each-clause-complete c = λ fs w deep e h.
    let pool = c.args.pool.now in
    let all = message_fields pool c.args.message_type.0 in
    let yes : c.has_one_record_each.result ≡ true =
    (c.has_one_record_each.ensures (canon_fields pool all fs) (readable_fields pool c.args.message_type.0 c.args.levels fs c.requires.rules w deep) e).1
    (λ i l. one_record_of pool all (c.oneofs.first + i) fs w (of_each all fs h (c.oneofs.first + i))) in
    absurd (cc)
