use Rattle.std.proofs.Common.{◌≡◌, ◌<◌, ◌+◌, ◌-◌, ℕ, List, length, drop, sym, ap, ◌∙◌, subst, arith, inr}
use Rattle.pb_json_text.specs.declared.fault.JsonCause.TheVariants as cause
use Rattle.std.specs.Prelude.{string_bytes}
use Rattle.std.proofs.lemmas.Str.{IsCharBoundary-after_ascii}
use Rattle.std.proofs.lemmas.Result.{err_from_is_err_and}
use Rattle.pb_json_text.specs.Loops.Machine.{in_string, text, run}
use Rattle.pb_json_text.proofs.Steps.{string_so_far, quote_at, backslash_at, control_at, end_at, stop_is}
use Rattle.pb_json_text.proofs.strings.string.Goals as goal

pub returns-then-end-bytes-clause-fault : goal.returns-then-end-bytes-clause-fault
returns-then-end-bytes-clause-fault c at t l k =
    let b = c.args.input.now in
    let end = c.plain_end-end.result in
    let same = c.as_bytes-bytes.ensures.value in
    let e : end ≡ length b = c.if-end-bytes.true ∙ ap length same in
    inr (stop_is c.end.result end cause.UnexpectedEnd _ c.end.ensures.byte c.end.ensures.cause
    (string_so_far b c.range.result.now c.runs.at end (string_bytes c.runs.characters) (string_bytes c.push_str.new.self) at t l k _ (c.runs.invariant.runs at t l k) (rw same at c.plain_end-end.ensures.runs)
    c.range.ensures.value c.in_ok-push_str.ensures.bytes
    ∙ end_at b end (in_string text (string_bytes c.push_str.new.self) at t l k) (omega arith)))

pub returns-then-bytes-end-eq34-clause-ok : goal.returns-then-bytes-end-eq34-clause-ok
returns-then-bytes-end-eq34-clause-ok c at t l k =
    let b = c.args.input.now in
    let end = c.plain_end-end.result in
    let same = c.as_bytes-bytes.ensures.value in
    let lt : end < length b = (let w = (rw same at c.plain_end-end.ensures.within).1 in let n = (rw same at c.if-end-bytes.false) in omega arith) in
    string_so_far b c.range.result.now c.runs.at end (string_bytes c.runs.characters) (string_bytes c.push_str.new.self) at t l k _ (c.runs.invariant.runs at t l k) (rw same at c.plain_end-end.ensures.runs)
    c.range.ensures.value c.in_ok-push_str.ensures.bytes
    ∙ quote_at b end (string_bytes c.push_str.new.self) at t l k lt (rw same at c.if-bytes-end-eq34.true)

pub returns-then-bytes-end-ne92-clause-fault : goal.returns-then-bytes-end-ne92-clause-fault
returns-then-bytes-end-ne92-clause-fault c at t l k =
    let b = c.args.input.now in
    let end = c.plain_end-end.result in
    let same = c.as_bytes-bytes.ensures.value in
    let lt : end < length b = (let w = (rw same at c.plain_end-end.ensures.within).1 in let n = (rw same at c.if-end-bytes.false) in omega arith) in
    inr (stop_is c.unexpected.result end cause.UnexpectedByte _ c.unexpected.ensures.byte c.unexpected.ensures.cause
    (string_so_far b c.range.result.now c.runs.at end (string_bytes c.runs.characters) (string_bytes c.push_str.new.self) at t l k _ (c.runs.invariant.runs at t l k) (rw same at c.plain_end-end.ensures.runs)
    c.range.ensures.value c.in_ok-push_str.ensures.bytes
    ∙ control_at b end (string_bytes c.push_str.new.self) at t l k lt ((rw same at c.plain_end-end.ensures.stops) lt) (rw same at c.if-bytes-end-eq34.false) (rw same at c.if-bytes-end-ne92.true)))

pub returns-in_err-character-clause-fault : goal.returns-in_err-character-clause-fault
returns-in_err-character-clause-fault c =
    let b = c.args.input.now in
    let end = c.plain_end-end.result in
    let same = c.as_bytes-bytes.ensures.value in
    let lt : end < length b = (let w = (rw same at c.plain_end-end.ensures.within).1 in let n = (rw same at c.if-end-bytes.false) in omega arith) in
    let p = err_from_is_err_and c.from_residual-in_err-character.result c.from_residual-in_err-character.ensures.1 in
    rw (p.1, p.2) (λ at t l k. inr (
    string_so_far b c.range.result.now c.runs.at end (string_bytes c.runs.characters) (string_bytes c.push_str.new.self) at t l k _ (c.runs.invariant.runs at t l k) (rw same at c.plain_end-end.ensures.runs)
    c.range.ensures.value c.in_ok-push_str.ensures.bytes
    ∙ backslash_at b end (string_bytes c.push_str.new.self) at t l k lt (rw same at c.if-bytes-end-ne92.false)
    ∙ (rw same at c.in_err-character.ensures.fault) (string_bytes c.push_str.new.self) at t l k))

pub runs-preserved : goal.runs-preserved
runs-preserved c =
    let b = c.args.input.now in
    let end = c.plain_end-end.result in
    let same = c.as_bytes-bytes.ensures.value in
    let lt : end < length b = (let w = (rw same at c.plain_end-end.ensures.within).1 in let n = (rw same at c.if-end-bytes.false) in omega arith) in
    let inside = rw same at c.in_ok-character.ensures.within in
    let next = c.in_ok-character.next in
    let i = inside.0 in
    let j = inside.1 in
    let back : next - 1 + 1 ≡ next = omega arith in
    record {
      within = j;
      passed = (let w = c.runs.invariant.passed in let v = c.plain_end-end.ensures.within.0 in omega arith);
      boundary = subst (Rattle.std.specs.Str.IsCharBoundary b) back (IsCharBoundary-after_ascii b (next - 1) c.utf8.input (omega arith) (rw same at c.in_ok-character.ensures.ascii));
      runs = λ at t l k. string_so_far b c.range.result.now c.runs.at end (string_bytes c.runs.characters) (string_bytes c.push_str.new.self) at t l k _ (c.runs.invariant.runs at t l k) (rw same at c.plain_end-end.ensures.runs)
          c.range.ensures.value c.in_ok-push_str.ensures.bytes
          ∙ backslash_at b end (string_bytes c.push_str.new.self) at t l k lt (rw same at c.if-bytes-end-ne92.false)
          ∙ (rw same at c.in_ok-character.ensures.ok) (string_bytes c.push_str.new.self) at t l k
          ∙ ap (λ (d : List ℕ). run (in_string text d at t l k) next (drop next b)) (sym c.in_ok-push.ensures.bytes);
    }
