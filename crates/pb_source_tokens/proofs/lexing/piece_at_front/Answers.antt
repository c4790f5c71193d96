use Rattle.std.proofs.Common.{◌≡◌, ◌≤◌, inl, inr, subst, take, drop, length, true, sym, refl, ◌∙◌}
use Rattle.std.specs.List.{list_all}
use Rattle.pb_source_tokens.specs.Tokens.{Stops, continues_word, begins_comment}
use Rattle.pb_source_tokens.proofs.PieceLemmas.{tail, word_piece, number_piece, sign_piece, bad_piece}
use Rattle.pb_source_tokens.proofs.lexing.piece_at_front.Goals as goal

pub returns-then-begins_word-clause-ok : goal.returns-then-begins_word-clause-ok
returns-then-begins_word-clause-ok c =
    let bs = c.args.bytes.now in
    let n = c.word_len.result in
    word_piece bs n c.requires (sym c.begins_word.ensures ∙ c.if-begins_word.true) (subst (λ t. n ≤ length t) (tail bs) c.word_len.ensures.within)
    (subst (λ t. list_all continues_word (take n t) ≡ true) (tail bs) c.word_len.ensures.passes) (subst (λ t. Stops continues_word (drop n t)) (tail bs) c.word_len.ensures.stops)

pub returns-then-is_ascii_digit-clause-ok : goal.returns-then-is_ascii_digit-clause-ok
returns-then-is_ascii_digit-clause-ok c =
    let bs = c.args.bytes.now in
    let n = c.word_len-then-is_ascii_digit.result in
    number_piece bs n c.requires (sym c.is_ascii_digit.ensures.value ∙ c.if-is_ascii_digit.true) (subst (λ t. n ≤ length t) (tail bs) c.word_len-then-is_ascii_digit.ensures.within)
    (subst (λ t. list_all continues_word (take n t) ≡ true) (tail bs) c.word_len-then-is_ascii_digit.ensures.passes)
    (subst (λ t. Stops continues_word (drop n t)) (tail bs) c.word_len-then-is_ascii_digit.ensures.stops)

pub returns-in-None-clause-ok : goal.returns-in-None-clause-ok
returns-in-None-clause-ok c =
    let bs = c.args.bytes.now in
    sign_piece bs c.requires (rw c.if-byte-eq47.true refl) (inr (subst (Stops begins_comment) (tail bs) (rw c.in-None.is at c.in_ok-len.ensures.none)))

pub returns-then-is_sign-clause-ok : goal.returns-then-is_sign-clause-ok
returns-then-is_sign-clause-ok c = sign_piece c.args.bytes.now c.requires (sym c.is_sign.ensures ∙ c.if-is_sign.true) (inl c.if-byte-eq47.false)

pub returns-clause-fault : goal.returns-clause-fault
returns-clause-fault c =
    bad_piece c.args.bytes.now c.requires (sym c.is_blank.ensures ∙ c.if-is_blank.false) (sym c.begins_word.ensures ∙ c.if-begins_word.false)
    (sym c.is_ascii_digit.ensures.value ∙ c.if-is_ascii_digit.false) (sym c.is_quote.ensures ∙ c.if-is_quote.false) (sym c.is_sign.ensures ∙ c.if-is_sign.false)
