use Rattle.std.proofs.Common.{◌<◌, ℕ, length, take, drop, sym, subst, arith}
use Rattle.pb_link.specs.Nested.{AreNested, inside_message}
use Rattle.pb_link.specs.ToDecls.{numbered}
use Rattle.pb_link.proofs.NestedLemmas.{popped}
use Rattle.pb_link.proofs.declaring.nesting.nest_messages.Goals as goal

pub loop-inside-smaller : goal.loop-inside-smaller
loop-inside-smaller c =
    let ts = c.args.pool.now in
    let p = popped (length c.loop-inside.messages.items) (inside_message ts (drop (length c.loop-inside.messages.items) (numbered ts)) (take (length ts.enums) ts.enums)) c.loop-inside.messages.items c.pop.new.self.items c.in-Some.inside c.in-Some.ensures.items c.loop-inside.invariant.nested.in_messages in
    let size = c.in_ok-nest_message.ensures.in_messages.size in
    let count = p.0 in
    let less : length c.nest_message.new.messages.items < length c.loop-inside.messages.items = omega (arith, size, count, c.len-index.ensures, c.pop.new.self.ok.0) in
    less

pub loop-inside-preserved : goal.loop-inside-preserved
loop-inside-preserved c =
    let ts = c.args.pool.now in
    let p = popped (length c.loop-inside.messages.items) (inside_message ts (drop (length c.loop-inside.messages.items) (numbered ts)) (take (length ts.enums) ts.enums)) c.loop-inside.messages.items c.pop.new.self.items c.in-Some.inside c.in-Some.ensures.items c.loop-inside.invariant.nested.in_messages in
    let size = c.in_ok-nest_message.ensures.in_messages.size in
    let count = p.0 in
    let within = c.loop-inside.invariant.within in
    record {
      within = omega (arith, size, count, within, c.len-index.ensures, c.pop.new.self.ok.0);
      nested = subst (λ (n : ℕ). AreNested ts n (length ts.enums) c.nest_message.new.files.items c.nest_message.new.messages.items) (sym size) c.in_ok-nest_message.ensures;
    }
