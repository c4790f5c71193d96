-- The canonical bytes are those of the message that was read.
use Rattle.std.proofs.Common.{◌≡◌, ◌≤◌, ◌<◌, ◌^◌, ◌⊎◌, List, ℕ, Err, length, ap, inl, inr, refl, subst, ◌∙◌, arith}
use Rattle.pb_value.specs.Canon.{canon_bytes}
use Rattle.pb_encode.specs.Encoding.{bytes_of}
use Rattle.pb_c_answers.proofs.Making.{the_message}
use Rattle.pb_c_answers.proofs.json.reading.canonical_text.Goals as goal

pub returns-in-Ok-canonical_of-clause-read : goal.returns-in-Ok-canonical_of-clause-read
returns-in-Ok-canonical_of-clause-read c =
    let m = c.in-Ok.message in
    let same : bytes_of m ≡ canon_bytes c.args.pool.now c.args.number m.body =
    ap bytes_of (the_message m c.args.pool.now c.args.number m.body c.in-Ok.ensures.of_type.0 c.in-Ok.ensures.of_type.1 refl)
    in
    let made = c.in-Ok-canonical_of.ensures.canonical in
    (m.body, c.in-Ok.ensures.read, made.0 ∙ same, subst (λ (b : List ℕ). length b < 2 ^ 31) same made.1)

pub returns-in-Ok-canonical_of-clause-accepted : goal.returns-in-Ok-canonical_of-clause-accepted
returns-in-Ok-canonical_of-clause-accepted c within v text small =
    let m = c.in-Ok.message in
    let is = the_message m c.args.pool.now c.args.number v c.in-Ok.ensures.of_type.0 c.in-Ok.ensures.of_type.1 (c.in-Ok.ensures.accepted within v text) in
    c.in-Ok-canonical_of.ensures.canonical.0 ∙ ap bytes_of is

pub returns-in-Ok-canonical_of-clause-oversized : goal.returns-in-Ok-canonical_of-clause-oversized
returns-in-Ok-canonical_of-clause-oversized c within v text large =
    let m = c.in-Ok.message in
    let is = the_message m c.args.pool.now c.args.number v c.in-Ok.ensures.of_type.0 c.in-Ok.ensures.of_type.1 (c.in-Ok.ensures.accepted within v text) in
    let same : bytes_of m ≡ canon_bytes c.args.pool.now c.args.number v = ap bytes_of is in
    let small = subst (λ (b : List ℕ). length b < 2 ^ 31) same c.in-Ok-canonical_of.ensures.canonical.1 in
    absurd (omega (arith, small, large))

-- where the canonical bytes are few enough, they are missing for lack of memory alone
memory_alone : (a : ℕ) (made wanted : List ℕ) → made ≡ wanted → (a ≡ 31 → 2 ^ 31 ≤ length made) → (a ≡ 31) ⊎ (a ≡ 14) → length wanted < 2 ^ 31 → a ≡ 14
memory_alone a made wanted same large (inl is) small = let big = rw same at large is in absurd (omega (arith, big, small))
memory_alone a made wanted same large (inr is) small = is

pub returns-in-Ok-clause-accepted : goal.returns-in-Ok-clause-accepted
returns-in-Ok-clause-accepted c within v text small =
    let m = c.in-Ok.message in
    let is = the_message m c.args.pool.now c.args.number v c.in-Ok.ensures.of_type.0 c.in-Ok.ensures.of_type.1 (c.in-Ok.ensures.accepted within v text) in
    memory_alone c.in-Err-canonical_of.answer (bytes_of m) (canon_bytes c.args.pool.now c.args.number v) (ap bytes_of is)
    (λ same. c.in-Err-canonical_of.ensures.too_large (ap (λ a. Err a) same)) c.in-Err-canonical_of.ensures.answers small

pub returns-in-Ok-clause-refused : goal.returns-in-Ok-clause-refused
returns-in-Ok-clause-refused c within e bad = absurd (c.in-Ok.ensures.refused within e bad)

pub returns-clause-accepted : goal.returns-clause-accepted
returns-clause-accepted c within v text small = c.in-Err.ensures.accepted within v text

pub returns-clause-oversized : goal.returns-clause-oversized
returns-clause-oversized c within v text large = inr (c.in-Err.ensures.accepted within v text)
