use Rattle.std.proofs.Common.{◌≡◌, ℕ, sym, subst, ◌∙◌, arith}
use Rattle.std.specs.Prelude.{true, false}
use Rattle.pb_wire.specs.Record.{varint}
use Rattle.pb_schema.specs.Types.{message_fields}
use Rattle.pb_schema.specs.Closed.{counts}
use Rattle.pb_value.specs.Canon.{record_of}
use Rattle.pb_canonical.proofs.UnknownLemmas.{unknown_at, unknown_number, unknown_as_raw}
use Rattle.pb_canonical.proofs.unknown.unknown_first.Goals as goal

pub returns-in_err-number-clause-complete : goal.returns-in_err-number-clause-complete
returns-in_err-number-clause-complete c = λ s h.
    let v = unknown_number c.args.pool.now c.args.message_type.0 c.args.tag.number c.args.tag.wire_type c.args.levels c.args.bytes.now s (omega arith) (omega arith) c.if-tag-eq0.true h in
    absurd (c.in_err-number.ensures.complete v.number s v.small v.split)

pub returns-then-counts_at-clause-complete : goal.returns-then-counts_at-clause-complete
returns-then-counts_at-clause-complete c = λ s h.
    let v = unknown_number c.args.pool.now c.args.message_type.0 c.args.tag.number c.args.tag.wire_type c.args.levels c.args.bytes.now s (omega arith) (omega arith) c.if-tag-eq0.true h in
    let same = c.in_ok-number.ensures.complete v.number s v.small v.split in
    let all = message_fields c.args.pool.now c.args.message_type.0 in
    let counted : counts c.args.pool.now all (record_of c.args.tag.number (varint c.in_ok-number.number)) ≡ true = c.counts_at.ensures ∙ c.if-counts_at.true in
    let unknown : counts c.args.pool.now all (record_of c.args.tag.number (varint c.in_ok-number.number)) ≡ false =
    subst (λ (i : ℕ). counts c.args.pool.now all (record_of c.args.tag.number (varint i)) ≡ false) (sym same.0) v.unknown in
    absurd (cc)

pub returns-else-counts_at-clause-complete : goal.returns-else-counts_at-clause-complete
returns-else-counts_at-clause-complete c = λ s h.
    let v = unknown_number c.args.pool.now c.args.message_type.0 c.args.tag.number c.args.tag.wire_type c.args.levels c.args.bytes.now s (omega arith) (omega arith) c.if-tag-eq0.true h in
    (c.in_ok-number.ensures.complete v.number s v.small v.split).1

pub returns-then-fits_at-clause-complete : goal.returns-then-fits_at-clause-complete
returns-then-fits_at-clause-complete c = λ s h.
    let at = unknown_at c.args.pool.now c.args.message_type.0 c.args.tag.number c.args.tag.wire_type c.args.levels c.args.bytes.now s (omega arith) (omega arith) h in
    let counted : counts c.args.pool.now (message_fields c.args.pool.now c.args.message_type.0) (record_of c.args.tag.number h.payload) ≡ true =
    c.fits_at.ensures h.payload at.type (λ q. c.if-tag-eq0.false (sym at.type ∙ q)) ∙ c.if-fits_at.true in
    let unknown : counts c.args.pool.now (message_fields c.args.pool.now c.args.message_type.0) (record_of c.args.tag.number h.payload) ≡ false = h.unknown.3 in
    absurd (cc)

pub returns-else-fits_at-clause-complete : goal.returns-else-fits_at-clause-complete
returns-else-fits_at-clause-complete c = λ s h.
    c.raw_first.ensures.complete s
    (unknown_as_raw c.args.pool.now c.args.message_type.0 c.args.tag.number c.args.tag.wire_type c.args.levels c.args.bytes.now s (omega arith) (omega arith) h)
