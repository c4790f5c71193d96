-- Resolved messages stand in each other as deep as before.
use Rattle.std.proofs.Common.{◌≡◌, ℕ, suc, ◌+◌, ◌≤◌, max, List, [], ◌∷◌, map, refl, sym, ap, ◌∙◌, subst}
use Rattle.std.specs.List.{AllByRecursion, enumerate_from}
use Rattle.pb_schema.specs.Names.{in_scope}
use Rattle.pb_declarations.specs.Decls.{DeclaredMessage, message, DeclaredMessages, no_messages, more_messages, DeclaredFile}
use Rattle.pb_declarations.specs.Nests.{nests, all_nest}
use Rattle.pb_link_rules.specs.Rules.{World}
use Rattle.pb_link.specs.Resolved.{resolved_message, resolved_messages, resolved_file, Resolves}

mutual
  resolved_nests : (w : World) (file : ℕ) (scope : List ℕ) (m : DeclaredMessage) → nests (resolved_message w file scope m) ≡ nests m
  resolved_nests w file scope (message head inner) = ap suc (all_resolved_nest w file (in_scope scope head.name) inner)

  all_resolved_nest : (w : World) (file : ℕ) (scope : List ℕ) (ms : DeclaredMessages) → all_nest (resolved_messages w file scope ms) ≡ all_nest ms
  all_resolved_nest w file scope no_messages = refl
  all_resolved_nest w file scope (more_messages m ms) =
      ap (λ a. max a (all_nest (resolved_messages w file scope ms))) (resolved_nests w file scope m) ∙ ap (max (nests m)) (all_resolved_nest w file scope ms)

pub each_resolved : (w : World) (k i : ℕ) (fs : List DeclaredFile) → AllByRecursion (λ f. all_nest f.messages ≤ k) fs → AllByRecursion (λ f. all_nest f.messages ≤ k) (map (λ e. resolved_file w e.0 e.1) (enumerate_from i fs))
each_resolved w k i [] h = tt
each_resolved w k i (f ∷ fs) h = (subst (λ n. n ≤ k) (sym (all_resolved_nest w i f.package_name f.messages)) h.0, each_resolved w k (i + 1) fs h.1)

-- where files stay within a bound, what they come to resolved does
pub resolved_within : (fs answer : List DeclaredFile) (k : ℕ) → Resolves fs answer → AllByRecursion (λ f. all_nest f.messages ≤ k) fs → AllByRecursion (λ f. all_nest f.messages ≤ k) answer
resolved_within fs answer k r h = subst (AllByRecursion (λ f. all_nest f.messages ≤ k)) (sym r.resolved) (each_resolved r.world k 0 fs h)
