use Rattle.std.proofs.Common.{◌≡◌, ◌≢◌, ◌≤◌, ◌<◌, ◌+◌, ◌∙◌, ℕ, sym, ap, subst, drop, length, true}
use Rattle.std.specs.Prelude.{slice_index}
use Rattle.pb_source_tokens.specs.Tokens.{FaultHere, is_closed}
use Rattle.pb_source_tokens.specs.Lexing.{IsTokenAt}
use Rattle.pb_source_tokens.specs.Texts.{units_len}
use Rattle.pb_source_tokens.specs.declared.token.TokenKind.TheVariants.{Text}
use Rattle.pb_source_tokens.specs.declared.fault.SourceCause.TheVariants.{BadToken}
use Rattle.pb_source_tokens.proofs.PieceLemmas.{tail}
use Rattle.pb_source_tokens.proofs.TextPieces.{open_text_there, text_piece, text_fault, text_room}
use Rattle.pb_source_tokens.proofs.lexing.text_at_front.Goals as goal

pub returns-then-not-is_closed-clause-fault : goal.returns-then-not-is_closed-clause-fault
returns-then-not-is_closed-clause-fault c =
    let bs = c.args.bytes.now in
    open_text_there bs c.requires.some c.requires.quote (ap (is_closed (slice_index bs 0)) (sym (tail bs)) ∙ sym c.is_closed.ensures ∙ c.if-not-is_closed.true)

pub bounds-inside-len : goal.bounds-inside-len
bounds-inside-len c =
    let bs = c.args.bytes.now in
    let closed : is_closed (slice_index bs 0) (drop 1 bs) ≡ true = ap (is_closed (slice_index bs 0)) (sym (tail bs)) ∙ sym c.is_closed.ensures ∙ c.if-not-is_closed.false in
    let len : units_len (slice_index bs 0) (drop 1 bs) ≡ c.units_len-len.result = ap (units_len (slice_index bs 0)) (sym (tail bs)) ∙ sym c.units_len-len.ensures.is in
    subst (λ t. c.units_len-len.result < length t) (sym (tail bs)) (subst (λ n. n < length (drop 1 bs)) len (text_room bs c.requires.some c.requires.quote closed).0)

pub returns-then-inside-len-clause-ok : goal.returns-then-inside-len-clause-ok
returns-then-inside-len-clause-ok c =
    let bs = c.args.bytes.now in
    let quote = slice_index bs 0 in
    let closed : is_closed quote (drop 1 bs) ≡ true = ap (is_closed quote) (sym (tail bs)) ∙ sym c.is_closed.ensures ∙ c.if-not-is_closed.false in
    let len : units_len quote (drop 1 bs) ≡ c.units_len-len.result = ap (units_len quote) (sym (tail bs)) ∙ sym c.units_len-len.ensures.is in
    let at : slice_index (drop 1 bs) (units_len quote (drop 1 bs)) ≡ quote = ap (slice_index (drop 1 bs)) len ∙ ap (λ t. slice_index t c.units_len-len.result) (sym (tail bs)) ∙ c.if-inside-len.true in
    subst (λ n. (0 < n + 2) × (n + 2 ≤ length bs) × IsTokenAt Text (n + 2) bs) len (text_piece bs c.requires.some c.requires.quote closed at)

pub returns-clause-fault : goal.returns-clause-fault
returns-clause-fault c =
    let bs = c.args.bytes.now in
    let quote = slice_index bs 0 in
    let closed : is_closed quote (drop 1 bs) ≡ true = ap (is_closed quote) (sym (tail bs)) ∙ sym c.is_closed.ensures ∙ c.if-not-is_closed.false in
    let len : units_len quote (drop 1 bs) ≡ c.units_len-len.result = ap (units_len quote) (sym (tail bs)) ∙ sym c.units_len-len.ensures.is in
    let at : slice_index (drop 1 bs) (units_len quote (drop 1 bs)) ≢ quote = λ e. c.if-inside-len.false (ap (λ t. slice_index t c.units_len-len.result) (tail bs) ∙ ap (slice_index (drop 1 bs)) (sym len) ∙ e) in
    subst (λ n. (x : ℕ) → FaultHere x bs (x + (1 + n)) BadToken) len (text_fault bs c.requires.some c.requires.quote closed at)
