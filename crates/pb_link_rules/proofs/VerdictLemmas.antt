-- What the walk tells is whether the rules hold of files.
use Rattle.std.proofs.Common.{◌≡◌, ℕ, List, Some, None, sym, ◌∙◌, subst}
use Rattle.std.proofs.lemmas.Option.{none-some}
use Rattle.pb_declarations.specs.Decls.{DeclaredFile}
use Rattle.pb_link_rules.specs.declared.cause.LinkCause.{LinkCause}
use Rattle.pb_link_rules.specs.Rules.{World}
use Rattle.pb_link_rules.specs.Link.{IsWorldOf, NothingFails, first_fault}
use Rattle.pb_link_rules.proofs.ExactLemmas.{one_world, linked-silent}
use Rattle.pb_link_rules.proofs.FirstLemmas.{first_fault-none}

pub silent_holds : (files : List DeclaredFile) (w v : World) → IsWorldOf files w → first_fault w 0 w.declared ≡ None → IsWorldOf files v → NothingFails v
silent_holds files w v world silent other = subst NothingFails (one_world files w v world other) (first_fault-none w silent)

pub told_fails : (files : List DeclaredFile) (w v : World) (p : ℕ) (c : LinkCause) → IsWorldOf files w → first_fault w 0 w.declared ≡ Some (p, c) → IsWorldOf files v → NothingFails v → ⊥
told_fails files w v p c world told other nothing = none-some (p, c) (sym (linked-silent files w world (v, other, nothing)) ∙ told)
