use Rattle.std.proofs.Common.{inr, refl, ◌≡◌, ◌+◌, ◌-◌, ℕ, take, drop, map, arith, sym, ap, subst, ◌∙◌}
use Rattle.std.proofs.lemmas.List.{map_push}
use Rattle.std.specs.Str.{IsCharBoundary}
use Rattle.std.proofs.lemmas.List.Elements.{All-nil, All-push}
use Rattle.pb_source_tokens.specs.TokenView.{token_of, tokens_of, IsSliceOf}
use Rattle.pb_source_tokens.proofs.LexLemmas.{begin_lexing, gap_from, token_from, room_at, cut_before, cut_after, slice_is}
use Rattle.pb_source_tokens.proofs.OneLexing.{all_read, refused_there, one_list, one_fault, not_both}
use Rattle.pb_source_tokens.proofs.lexing.lex.Goals as goal

less : (a n : ℕ) → (a + n) - a ≡ n
less a n = omega arith

pub loop-at-init : goal.loop-at-init
loop-at-init c = record {
  within = c.mark_len-at.ensures.within;
  read = rw c.new-tokens.ensures.items (begin_lexing c.as_bytes-bytes.result.now c.mark_len-at.result c.mark_len-at.ensures.place c.mark_len-at.ensures.rest);
  slices = rw c.new-tokens.ensures.items (All-nil (IsSliceOf c.as_bytes-bytes.result.now));
}

pub loop-at-preserved-in-Ok-Gap : goal.loop-at-preserved-in-Ok-Gap
loop-at-preserved-in-Ok-Gap c =
    let bs = c.as_bytes-bytes.result.now in
    let g = rw c.in-Ok-Gap.field-0-is at c.in-Ok-Gap.ensures.ok in
    record {
      within = room_at bs c.loop-at.at c.in-Ok-Gap.n c.loop-at.invariant.within g.1;
      read = gap_from _ c.loop-at.at c.in-Ok-Gap.n _ bs _ c.loop-at.invariant.read g.2;
      slices = c.loop-at.invariant.slices;
    }

pub range-text-requires-clause-start_boundary : goal.range-text-requires-clause-start_boundary
range-text-requires-clause-start_boundary c = λ z.
    let g = rw c.in-Ok-Token.field-0-is at c.in-Ok-Token.ensures.ok in
    subst (λ b. IsCharBoundary b c.loop-at.at) c.as_bytes-bytes.ensures.value (cut_before c.in-Ok-Token.kind c.as_bytes-bytes.result.now c.loop-at.at c.in-Ok-Token.n c.loop-at-test.true g.2)

pub range-text-requires-clause-end_boundary : goal.range-text-requires-clause-end_boundary
range-text-requires-clause-end_boundary c =
    let bs = c.as_bytes-bytes.result.now in
    let g = rw c.in-Ok-Token.field-0-is at c.in-Ok-Token.ensures.ok in
    subst (λ b. IsCharBoundary b (c.loop-at.at + c.in-Ok-Token.n)) c.as_bytes-bytes.ensures.value
    (cut_after c.in-Ok-Token.kind bs c.loop-at.at c.in-Ok-Token.n c.as_bytes-bytes.ensures.utf8 (room_at bs c.loop-at.at c.in-Ok-Token.n c.loop-at.invariant.within g.1) g.2)

pub loop-at-preserved : goal.loop-at-preserved
loop-at-preserved c =
    let bs = c.as_bytes-bytes.result.now in
    let n = c.in-Ok-Token.n in
    let g = rw c.in-Ok-Token.field-0-is at c.in-Ok-Token.ensures.ok in
    let text : c.range-text.result.now ≡ take n (drop c.loop-at.at bs) =
    c.range-text.ensures.value ∙ ap (λ k. take k (drop c.loop-at.at c.args.source.now)) (less c.loop-at.at n)
    ∙ ap (λ b. take n (drop c.loop-at.at b)) (sym c.as_bytes-bytes.ensures.value) in
    record {
      within = room_at bs c.loop-at.at n c.loop-at.invariant.within g.1;
      read = rw (ap (map token_of) c.in_ok-push-in-Ok-Token.ensures.items ∙ map_push token_of c.loop-at.tokens.items _)
          (rw text (token_from _ c.loop-at.at n c.in-Ok-Token.kind _ bs _ c.loop-at.invariant.read g.2));
      slices = rw c.in_ok-push-in-Ok-Token.ensures.items
          (All-push (IsSliceOf bs) c.loop-at.tokens.items _ c.loop-at.invariant.slices (slice_is n (drop c.loop-at.at bs) c.range-text.result.now text));
    }

pub returns-in-Err-clause-accepted : goal.returns-in-Err-clause-accepted
returns-in-Err-clause-accepted c ts g =
    absurd (not_both c.args.source.now ts _ _ g (rw c.as_bytes-bytes.ensures.value at (refused_there c.as_bytes-bytes.result.now c.loop-at.at c.in-Err.fault.offset c.in-Err.fault.cause (tokens_of c.loop-at.tokens.items) c.loop-at.invariant.read c.in-Err.ensures.fault)))

pub returns-in-Err-clause-refused : goal.returns-in-Err-clause-refused
returns-in-Err-clause-refused c place cause h =
    let there = rw c.as_bytes-bytes.ensures.value at (refused_there c.as_bytes-bytes.result.now c.loop-at.at c.in-Err.fault.offset c.in-Err.fault.cause (tokens_of c.loop-at.tokens.items) c.loop-at.invariant.read c.in-Err.ensures.fault) in
    let e = one_fault c.args.source.now _ _ _ _ there h in
    inr (rw (e.0, e.1) refl)

pub returns-clause-accepted : goal.returns-clause-accepted
returns-clause-accepted c ts g =
    one_list c.args.source.now (tokens_of c.loop-at.tokens.items) ts (rw c.as_bytes-bytes.ensures.value at (all_read c.as_bytes-bytes.result.now c.loop-at.at (tokens_of c.loop-at.tokens.items) c.loop-at-test.false c.loop-at.invariant.read)) g

pub returns-clause-refused : goal.returns-clause-refused
returns-clause-refused c place cause h =
    not_both c.args.source.now (tokens_of c.loop-at.tokens.items) place cause (rw c.as_bytes-bytes.ensures.value at (all_read c.as_bytes-bytes.result.now c.loop-at.at (tokens_of c.loop-at.tokens.items) c.loop-at-test.false c.loop-at.invariant.read)) h

pub returns-clause-slices : goal.returns-clause-slices
returns-clause-slices c = rw c.as_bytes-bytes.ensures.value at c.loop-at.invariant.slices
