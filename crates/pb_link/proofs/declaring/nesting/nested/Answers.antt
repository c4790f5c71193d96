use Rattle.std.proofs.Common.{[], subst, ℕ}
use Rattle.pb_schema.specs.View.{file_view, message_view}
use Rattle.pb_link.specs.Nested.{AreInside}
use Rattle.pb_link.proofs.NestedLemmas.{nothing_nested}
use Rattle.pb_link.proofs.DeclaredLemmas.{listed_size}
use Rattle.pb_link.proofs.declaring.nesting.nested.Goals as goal

pub nest_enums-requires : goal.nest_enums-requires
nest_enums-requires c =
    nothing_nested c.args.pool.now c.in_ok-files.files.items c.in_ok-messages.messages.items
    (subst (λ (n : ℕ). AreInside n (λ i. record { messages = []; enums = [] }) c.in_ok-files.files.items) (listed_size file_view c.files.result.now c.args.pool.now.files c.files.ensures.listed) c.in_ok-files.ensures)
    (subst (λ (n : ℕ). AreInside n (λ i. record { messages = []; enums = [] }) c.in_ok-messages.messages.items) (listed_size message_view c.messages.result.now c.args.pool.now.messages c.messages.ensures.listed) c.in_ok-messages.ensures)
