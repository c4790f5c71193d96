use Rattle.std.proofs.Common.{◌≡◌, ℕ, ◌<◌, ◌≤◌, Vec, Global, List, map, length, ap, ◌∙◌, subst, arith, get_or}
use Rattle.pb_schema.specs.Types.{MessageView, Types}
use Rattle.pb_schema.specs.View.{message_view}
use Rattle.pb_schema.specs.Tables.{IsMemberTable, AreMemberTables}
use Rattle.pb_schema.specs.Rules.{IsPool}
use Rattle.pb_schema.proofs.TableLemmas.{tables_length}
use Rattle.pb_schema.proofs.MemberLemmas.{found_members, found_no_oneof}
use Rattle.pb_schema.proofs.pool.Pool.oneof_members.Goals as goal

pub index-requires : goal.index-requires
index-requires c =
    omega (arith, c.requires, ap (λ (ts : Types). length ts.messages) c.self.view_is, tables_length (λ (t : MessageView) (v : Vec (Vec ℕ Global) Global). IsMemberTable (length t.oneofs) t.fields v.items) (map message_view c.self.inside.messages.items) c.self.inside.tables.members.items c.self.invariant.1.members, c.self.inside.tables.members.ok.0)

pub returns-in-Some-clause-found : goal.returns-in-Some-clause-found
returns-in-Some-clause-found c =
    let tables = c.self.inside.tables.members.items in
    let are = subst (λ (ts : Types). AreMemberTables ts.messages tables) c.self.view_is c.self.invariant.1.members in
    let value = c.deref.ensures.value in
    let v = c.in-Some.members.now in
    c.as_slice.ensures.value
    ∙ found_members c.args.self.now c.args.message.0 c.args.oneof tables c.index.result.now v are c.requires c.index.ensures
    (subst (λ (l : List (Vec ℕ Global)). c.args.oneof < length l) value c.in-Some.ensures.lookup.3.0)
    (subst (λ (l : List (Vec ℕ Global)). v ≡ get_or l c.args.oneof v) value c.in-Some.ensures.lookup.1)

pub returns-in-None-clause-found : goal.returns-in-None-clause-found
returns-in-None-clause-found c =
    let tables = c.self.inside.tables.members.items in
    let are = subst (λ (ts : Types). AreMemberTables ts.messages tables) c.self.view_is c.self.invariant.1.members in
    found_no_oneof c.args.self.now c.args.message.0 c.args.oneof tables c.index.result.now (subst IsPool c.self.view_is c.self.invariant.0) are c.requires c.index.ensures
    (subst (λ (l : List (Vec ℕ Global)). length l ≤ c.args.oneof) c.deref.ensures.value c.in-None.ensures.lookup.3)
