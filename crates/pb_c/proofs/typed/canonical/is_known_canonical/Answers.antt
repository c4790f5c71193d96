use Rattle.std.proofs.Common.{◌≡◌, ℕ, rules, sym, subst, arith}
use Rattle.std.specs.Prelude.{true}
use Rattle.std.proofs.lemmas.List.Elements.{All-from_get_or}
use Rattle.pb_wire.specs.Ranges.{IsByte}
use Rattle.pb_value.specs.Data.{Message}
use Rattle.pb_value.specs.Derives.{Text}
use Rattle.pb_canonical.specs.Canonical.{IsCanonical}
use Rattle.pb_c.proofs.Copied.{canonical_of, text_faultless}
use Rattle.pb_c.proofs.typed.canonical.is_known_canonical.Goals as goal

pub returns-clause-canonical : goal.returns-clause-canonical
returns-clause-canonical c = λ yes.
    subst (λ (m : ℕ). IsCanonical c.args.pool.now m c.args.bytes.now) c.in-Some.ensures.found.0 (c.is_canonical.ensures.0 c.if-not-is_canonical.false)

pub returns-clause-value : goal.returns-clause-value
returns-clause-value c = λ yes.
    subst (λ (m : ℕ). (v : Message) × Text c.args.pool.now m c.args.limits c.args.bytes.now v) c.in-Some.ensures.found.0 (c.is_within.ensures.text yes)

pub returns-clause-only : goal.returns-clause-only
returns-clause-only c = λ yes v text.
    canonical_of c.args.pool.now c.args.number c.args.limits c.args.bytes.now v c.messages-types.ensures.rules
    (subst (λ (m : ℕ). IsCanonical c.args.pool.now m c.args.bytes.now) c.in-Some.ensures.found.0 (c.is_canonical.ensures.0 c.if-not-is_canonical.false)) text

pub returns-clause-faultless : goal.returns-clause-faultless
returns-clause-faultless c = λ yes f.
    text_faultless c.args.pool.now c.args.number c.args.limits c.args.bytes.now f
    (All-from_get_or IsByte c.args.bytes.now 0 (λ i h. let fits = c.type_inv.bytes i in search (rules, fits)))
    (subst (λ (m : ℕ). (v : Message) × Text c.args.pool.now m c.args.limits c.args.bytes.now v) c.in-Some.ensures.found.0 (c.is_within.ensures.text yes))

pub returns-in_default-clause-complete : goal.returns-in_default-clause-complete
returns-in_default-clause-complete c = λ within canonical v text. absurd (let none = c.in_default.ensures.none in omega (arith, within, none))

pub returns-then-not-is_canonical-clause-complete : goal.returns-then-not-is_canonical-clause-complete
returns-then-not-is_canonical-clause-complete c = λ within canonical v text.
    let yes : c.is_canonical.result ≡ true = c.is_canonical.ensures.1 (subst (λ (m : ℕ). IsCanonical c.args.pool.now m c.args.bytes.now) (sym c.in-Some.ensures.found.0) canonical) in
    absurd (cc)

pub returns-clause-complete : goal.returns-clause-complete
returns-clause-complete c = λ within canonical v text.
    c.is_within.ensures.complete v (subst (λ (m : ℕ). Text c.args.pool.now m c.args.limits c.args.bytes.now v) (sym c.in-Some.ensures.found.0) text)
