use Rattle.std.proofs.Common.{◌≡◌, Some, subst, rules}
use Rattle.pb_schema.specs.Kinds.{read, IsOfKind}
use Rattle.pb_schema.specs.Context.{element_of}
use Rattle.pb_schema.specs.PayloadView.{payload_view}
use Rattle.pb_schema_tests.proofs.PackedReads.{readable, elements_done}
use Rattle.pb_schema_tests.proofs.packed.read_packed.Goals as goal

-- a number of the list is a value of the kind
pub returns-in_default-2-clause-none : goal.returns-in_default-2-clause-none
returns-in_default-2-clause-none g c =
    let p = payload_view c.in-Some.payload in
    let cut = c.in-Some.ensures.some in
    let x = readable c.args.kind p c.requires.packable cut.type cut.range in
    let never = rw c.in_default-2.is at c.in_ok-item.ensures.none in
    λ _. never x.0 (subst (λ k. read k p ≡ Some x.0) c.requires.kind x.1) (subst (λ k. IsOfKind k x.0) c.requires.kind x.2)

pub returns-clause-whole : goal.returns-clause-whole
returns-clause-whole g c =
    elements_done (element_of c.args.kind) c.loop-rest.rest.now c.args.bytes.now (search rules) c.loop-rest.invariant.1.0
