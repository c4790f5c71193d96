use Rattle.std.proofs.Common.{sym, ◌∙◌, arith}
use Rattle.pb_schema.specs.Kinds.{wire_type_of}
use Rattle.pb_canonical.proofs.ValueNext.{key_next, wire_known}
use Rattle.pb_canonical.proofs.messages.key_first.Goals as goal
use Rattle.pb_canonical.proofs.messages.key_first.Goals.{then-tag-ne1-via-then-tag-ne1, then-tag-ne1-via-else-tag-ne1+then-tag-wire_type}

pub returns-in_err-tag-clause-complete : goal.returns-in_err-tag-clause-complete
returns-in_err-tag-clause-complete c = λ p s x e.
    let next = key_next c.args.pool.now c.args.key p c.args.bytes.now s x e in
    absurd (c.in_err-tag.ensures.complete 1 (wire_type_of c.args.key) next.after (omega arith, omega arith) (wire_known c.args.key).0 next.front)

pub returns-in_err-payload-clause-complete : goal.returns-in_err-payload-clause-complete
returns-in_err-payload-clause-complete c = λ p s x e.
    let next = key_next c.args.pool.now c.args.key p c.args.bytes.now s x e in
    let same = c.in_ok-tag.ensures.complete 1 (wire_type_of c.args.key) next.after (omega arith, omega arith) (wire_known c.args.key).0 next.front in
    absurd (c.in_err-payload.ensures.complete p s x (same.1 ∙ next.split))

pub returns-clause-complete : goal.returns-clause-complete
returns-clause-complete c = λ p s x e.
    let next = key_next c.args.pool.now c.args.key p c.args.bytes.now s x e in
    let same = c.in_ok-tag.ensures.complete 1 (wire_type_of c.args.key) next.after (omega arith, omega arith) (wire_known c.args.key).0 next.front in
    c.in_ok-payload.ensures.complete p s x (same.1 ∙ next.split)

pub returns-then-tag-ne1-clause-complete : goal.returns-then-tag-ne1-clause-complete
returns-then-tag-ne1-clause-complete c = λ p s x e.
    let next = key_next c.args.pool.now c.args.key p c.args.bytes.now s x e in
    let same = c.in_ok-tag.ensures.complete 1 (wire_type_of c.args.key) next.after (omega arith, omega arith) (wire_known c.args.key).0 next.front in
    elim c.then-tag-ne1.branch [
      | then-tag-ne1-via-then-tag-ne1 w ↦ absurd (w.if-tag-ne1.true same.0.0)
      | then-tag-ne1-via-else-tag-ne1+then-tag-wire_type w ↦ absurd (w.if-tag-wire_type.true (same.0.1 ∙ sym w.wire_type.ensures))
    ]
