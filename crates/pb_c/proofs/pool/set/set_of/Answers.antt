-- The set that is written is that of the pool's declarations, which link to its types.
use Rattle.std.proofs.Common.{◌≤◌, ◌<◌, ◌^◌, List, ap, length, map, subst, ◌∙◌}
use Rattle.pb_value.specs.Data.{message_depth}
use Rattle.pb_declarations.specs.Decls.{DeclaredFile}
use Rattle.pb_declarations.specs.View.{file_view}
use Rattle.pb_descr_message.specs.Sets.{set_bytes}
use Rattle.pb_descr_message.specs.Writing.{set_body}
use Rattle.pb_c.proofs.pool.set.set_of.Goals as goal

pub returns-in-Ok-write_set-clause-set : goal.returns-in-Ok-write_set-clause-set
returns-in-Ok-write_set-clause-set c =
    let slice = c.deref.ensures.value in let declared = c.in-Ok.ensures.decls in
    let written = rw slice at c.in-Ok-write_set.ensures.canonical in
    let back = rw slice at c.in-Ok-write_set.ensures.read_back in
    record {
      bytes = written ∙ ap set_bytes declared;
      makes = record { files = map file_view c.in-Ok.files.items; is_set = back c.in-Ok.ensures.silent; links = c.in-Ok.ensures.linked };
    }

pub returns-in-Err-TooLarge-clause-too_large : goal.returns-in-Err-TooLarge-clause-too_large
returns-in-Err-TooLarge-clause-too_large c = λ is.
    let refused = rw (c.deref.ensures.value, c.in-Err-TooLarge.field-0-is) at c.in-Err-TooLarge.ensures.refused in
    subst (λ (fs : List DeclaredFile). 2 ^ 31 ≤ length (set_bytes fs)) c.in-Ok.ensures.decls refused.1

pub returns-in-Err-TooDeep-clause-too_deep : goal.returns-in-Err-TooDeep-clause-too_deep
returns-in-Err-TooDeep-clause-too_deep c = λ is.
    let refused = rw (c.deref.ensures.value, c.in-Err-TooDeep.field-0-is) at c.in-Err-TooDeep.ensures.refused in
    subst (λ (fs : List DeclaredFile). 100 < message_depth (set_body fs)) c.in-Ok.ensures.decls refused
