use Rattle.std.proofs.Common.{inr, ◌≡◌, ◌+◌, ◌-◌, ℕ, take, drop, map, arith, ap, ◌∙◌}
use Rattle.std.proofs.lemmas.List.{map_push}
use Rattle.pb_text_tokens.specs.TokenView.{token_of, tokens_of}
use Rattle.pb_text_tokens.proofs.StringLemmas.{room_at}
use Rattle.pb_text_tokens.proofs.LexLemmas.{begin_tokens, gap_on, token_on, fault_there, all_read, lexes_one}
use Rattle.pb_text_tokens.proofs.lexing.lex.Goals as goal

less : (a n : ℕ) → (a + n) - a ≡ n
less a n = omega arith

pub loop-at-init : goal.loop-at-init
loop-at-init c = record {
  within = omega arith;
  read = rw c.new-tokens.ensures.items (begin_tokens c.args.bytes.now);
}

pub loop-at-preserved-in-Ok-Gap : goal.loop-at-preserved-in-Ok-Gap
loop-at-preserved-in-Ok-Gap c =
    let bs = c.args.bytes.now in
    let is = rw c.in-Ok-Gap.field-0-is at c.in-Ok-Gap.ensures.is in
    let within = rw c.in-Ok-Gap.field-0-is at c.in-Ok-Gap.ensures.within in
    record {
      within = room_at bs c.loop-at.at c.in-Ok-Gap.len c.loop-at.invariant.within within.1;
      read = gap_on bs c.loop-at.at c.in-Ok-Gap.len _ c.loop-at.invariant.read is;
    }

pub loop-at-preserved : goal.loop-at-preserved
loop-at-preserved c =
    let bs = c.args.bytes.now in
    let at = c.loop-at.at in
    let n = c.in-Ok-Token.len in
    let is = rw c.in-Ok-Token.field-0-is at c.in-Ok-Token.ensures.is in
    let within = rw c.in-Ok-Token.field-0-is at c.in-Ok-Token.ensures.within in
    record {
      within = room_at bs at n c.loop-at.invariant.within within.1;
      read = rw (ap (map token_of) c.in_ok-push-in-Ok-Token.ensures.items ∙ map_push token_of c.loop-at.tokens.items _)
          (rw (ap (λ k. take k (drop at bs)) (less at n)) (token_on bs at n c.in-Ok-Token.kind (tokens_of c.loop-at.tokens.items) c.loop-at.invariant.read is));
    }

pub returns-in-Err-clause-fault : goal.returns-in-Err-clause-fault
returns-in-Err-clause-fault c = inr (fault_there c.args.bytes.now c.loop-at.at c.in-Err.fault _ c.loop-at.invariant.read c.in-Err.ensures.is)

pub returns-in-Err-clause-accepted : goal.returns-in-Err-clause-accepted
returns-in-Err-clause-accepted c ts g =
    let e = lexes_one (fault_there c.args.bytes.now c.loop-at.at c.in-Err.fault _ c.loop-at.invariant.read c.in-Err.ensures.is) g in
    absurd (cc e)

pub returns-in-Err-clause-refused : goal.returns-in-Err-clause-refused
returns-in-Err-clause-refused c f h =
    let e = lexes_one (fault_there c.args.bytes.now c.loop-at.at c.in-Err.fault _ c.loop-at.invariant.read c.in-Err.ensures.is) h in
    inr (cc e)

pub returns-clause-tokens : goal.returns-clause-tokens
returns-clause-tokens c = all_read c.args.bytes.now c.loop-at.at _ c.loop-at-test.false c.loop-at.invariant.read

pub returns-clause-accepted : goal.returns-clause-accepted
returns-clause-accepted c ts g =
    let e = lexes_one (all_read c.args.bytes.now c.loop-at.at _ c.loop-at-test.false c.loop-at.invariant.read) g in
    cc e

pub returns-clause-refused : goal.returns-clause-refused
returns-clause-refused c f h =
    let e = lexes_one (all_read c.args.bytes.now c.loop-at.at _ c.loop-at-test.false c.loop-at.invariant.read) h in
    absurd (cc e)
