use Rattle.std.proofs.Common.{sym, ap, subst, ◌∙◌}
use Rattle.pb_value.specs.Canon.{canon_bytes}
use Rattle.pb_c_message.specs.Holds.{IsHeld, body_held}
use Rattle.pb_c_message.proofs.Canonical.{written_of_value}
use Rattle.pb_c_message.proofs.keeping.canonical_bytes.Goals as goal

pub returns-in-Bytes-clause-written : goal.returns-in-Bytes-clause-written
returns-in-Bytes-clause-written c = λ pool m rules held.
    c.deref.ensures.value ∙ written_of_value pool m c.in-Bytes.bytes.items rules (subst (IsHeld pool m) c.in-Bytes.is held)
    ∙ ap (λ h. canon_bytes pool m (body_held pool m h)) (sym c.in-Bytes.is)
