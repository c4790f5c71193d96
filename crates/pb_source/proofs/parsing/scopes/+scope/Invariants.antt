use Rattle.std.proofs.Common.{◌≡◌, map, string_bytes}
use Rattle.pb_declarations.specs.View.{message_view}
use Rattle.pb_source.specs.Meaning.{scoped}
use Rattle.pb_source.proofs.ScopeSteps.{mapped_from}
use Rattle.pb_source.proofs.parsing.scopes.+scope.Given as goal

abbrev pub invariant-scope_messages-loop-i : goal.invariant-scope_messages-loop-i
invariant-scope_messages-loop-i l = record {
  unvisited : goal.unvisited-scope_messages-loop-i l;
  kept : string_bytes l.scope ≡ string_bytes l.fn.scope;
  mapped : mapped_from message_view (scoped (string_bytes l.fn.scope)) l.messages.items l.i ≡ map (scoped (string_bytes l.fn.scope)) (map message_view l.fn.messages.items);
}
