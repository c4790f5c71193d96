use Rattle.std.proofs.Common.{◌≡◌, List, [], map, sym, subst}
use Rattle.pb_declarations.specs.View.{file_view}
use Rattle.pb_declarations.specs.declared.decl.FileDecl.{FileDecl}
use Rattle.pb_descr_message.specs.Causes.{set_causes}
use Rattle.pb_descr_message.specs.Sets.{IsWritable}
use Rattle.pb_descr_message.specs.Writable.{IsWithinLimits}
use Rattle.pb_descr_message.specs.Writing.{set_body}
use Rattle.pb_link.specs.Linking.{Links}
use Rattle.pb_link.specs.ToDecls.{decls_of}
use Rattle.pb_link_rules.proofs.WorldLemmas.{a_world}
use Rattle.pb_link.proofs.DeclaredPoolLemmas.{nothing_fails}
use Rattle.pb_link.proofs.PoolAgainLemmas.{pool_again}
use Rattle.pb_link.proofs.SilentDeclaredLemmas.{declared_silent}
use Rattle.pb_link.proofs.declaring.to_decls.Goals as goal

pub returns-clause-linked : goal.returns-clause-linked
returns-clause-linked c =
    let ts = c.args.pool.now in
    let pool = c.in_ok-decls.ensures.rules in
    let w = a_world (decls_of ts) in
    subst (λ files. Links files ts) (sym c.in_ok-decls.ensures.decls)
    (record { world = w.0; is_world = w.1; holds = nothing_fails ts pool w.0 w.1; made = sym (pool_again ts pool w.0 w.1) })

pub returns-clause-silent : goal.returns-clause-silent
returns-clause-silent c = subst (λ files. set_causes (set_body files) ≡ []) (sym c.in_ok-decls.ensures.decls) (declared_silent c.args.pool.now c.in_ok-decls.ensures.rules)

pub returns-clause-set : goal.returns-clause-set
returns-clause-set c = λ within.
    let limits = subst (λ (files : List FileDecl). IsWithinLimits (map file_view files) → IsWritable (map file_view files)) c.deref.ensures.value c.writable.ensures.limits in
    c.set_back.ensures.bytes (map file_view c.in_ok-decls.decls.items) (limits within)
    (subst (λ files. set_causes (set_body files) ≡ []) (sym c.in_ok-decls.ensures.decls) (declared_silent c.args.pool.now c.in_ok-decls.ensures.rules))
