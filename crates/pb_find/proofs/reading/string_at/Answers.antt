use Rattle.std.proofs.Common.{None, arith, sym, subst, ℕ, List, IsUtf8}
use Rattle.pb_wire.specs.Record.{len}
use Rattle.pb_wire.specs.Fault.{Leads}
use Rattle.pb_wire.specs.Spell.{Body}
use Rattle.pb_validate.specs.Here.{here}
use Rattle.pb_validate.proofs.HereLemmas.{payload_between}
use Rattle.pb_find.proofs.WalkLemmas.{no_payload, same_payload}
use Rattle.pb_find.proofs.reading.string_at.Goals as goal

pub returns-in_default : goal.returns-in_default
returns-in_default c = λ s k q leads utf8. no_payload k (here c.args.bytes.now c.args.at None) q _ s c.in_default.ensures.fault leads

pub returns-in_default-from_utf8 : goal.returns-in_default-from_utf8
returns-in_default-from_utf8 c = λ s k q leads utf8.
    c.in_default-from_utf8.ensures (subst IsUtf8 (same_payload k c.args.bytes.now c.args.at c.in-Ok.start c.in-Ok.end q s c.in-Ok.ensures.ok leads) utf8)

pub returns : goal.returns
returns c =
    let w = c.in-Ok.ensures.within in
    let is = c.in-Ok-from_utf8.ensures in (
      omega (arith, w),
      w.2,
      subst IsUtf8 (sym is.0) is.1,
      λ k. subst (λ (s : List ℕ). Leads (Body k (len s)) (here c.args.bytes.now c.args.at None) (here c.args.bytes.now c.in-Ok.end None)) (sym is.0)
          (payload_between c.args.bytes.now c.args.at c.in-Ok.start c.in-Ok.end None c.in-Ok.ensures.ok w.1 w.2 k),
    )
