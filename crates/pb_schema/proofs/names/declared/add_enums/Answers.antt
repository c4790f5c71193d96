use Rattle.std.proofs.Common.{subst, arith}
use Rattle.pb_schema.specs.View.{enum_view}
use Rattle.pb_schema.specs.Names.{names_of_enum}
use Rattle.pb_schema.specs.Names.Declared.{Adds}
use Rattle.pb_schema.proofs.DeclareLemmas.{Added-none, enums-more, enums-all}
use Rattle.pb_schema.proofs.names.declared.add_enums.Goals as goal

pub loop-entry-init : goal.loop-entry-init
loop-entry-init c files ms may = Added-none c.args.declared.now may.tree

pub loop-entry-preserved : goal.loop-entry-preserved
loop-entry-preserved c files ms may =
    let added = subst (λ s. Adds s (names_of_enum (enum_view c.entry-item.result)) c.loop-entry.declared c.add_enum.new.self) c.scope-around.ensures c.in_ok-add_enum.ensures in
    enums-more files ms c.args.enums.now c.args.packages.now c.args.messages.now c.loop-entry.entry-index c.entry-item.result c.args.declared.now c.loop-entry.declared _ may (omega arith) c.entry-item.is (c.loop-entry.invariant files ms may) added

pub returns : goal.returns
returns c files ms may =
    enums-all files ms c.args.enums.now c.loop-entry.entry-index c.args.declared.now c.loop-entry.declared (omega arith) (c.loop-entry.invariant files ms may)
