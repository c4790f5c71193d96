-- A message by whether a brace opens it, and by the levels that are left.
use Rattle.std.proofs.Common.{◌≡◌, ℕ, zero, suc, ◌+◌, true, false, Err, sym, ap, subst}
use Rattle.pb_text_tree.specs.Fault.{fault}
use Rattle.pb_text_tree.specs.Grammar.{AsBraced, FieldsAt, MessageAt, Text, TooDeepAt, Unexpected, byte_at, closing, opens, unexpected}
use Rattle.pb_text_tree.specs.Steps.{Read, Then}
use Rattle.pb_text_tree.specs.View.{Braced}
use Rattle.pb_text_tree.specs.declared.fault.SyntaxCause.TheVariants.{TooDeep}
use Rattle.pb_text_tree.specs.declared.source.Close.TheVariants as close
use Rattle.pb_text_tree.proofs.StepLemmas.{choose_true, choose_false}

pub closed_message : (x : Text) (levels at : ℕ) → opens x at ≡ false → (o : Read Braced) → o ≡ Err (unexpected x at) → MessageAt x levels at o
closed_message x zero at e o h = choose_false (opens x at) (TooDeepAt x at) (Unexpected x at) o e h
closed_message x (suc levels) at e o h =
    choose_false (opens x at) (λ r. Then (FieldsAt x (MessageAt x levels) (close.Mark (closing x at)) (at + 1)) (AsBraced x at) r) (Unexpected x at) o e h

pub deep_message : (x : Text) (levels at : ℕ) → opens x at ≡ true → levels ≡ 0 → (n : ℕ) → n ≡ byte_at x at → MessageAt x levels at (Err (fault n TooDeep))
deep_message x zero at e z n h = choose_true (opens x at) (TooDeepAt x at) (Unexpected x at) _ e (ap (λ k. Err (fault k TooDeep)) h)
deep_message x (suc levels) at e z n h = absurd (cc z)

open_suc : (x : Text) (less at : ℕ) → opens x at ≡ true → (o : Read Braced) → Then (FieldsAt x (MessageAt x less) (close.Mark (closing x at)) (at + 1)) (AsBraced x at) o
    → MessageAt x (suc less) at o
open_suc x less at e o h =
    choose_true (opens x at) (λ r. Then (FieldsAt x (MessageAt x less) (close.Mark (closing x at)) (at + 1)) (AsBraced x at) r) (Unexpected x at) o e h

pub open_message : (x : Text) (levels less at : ℕ) → levels ≡ suc less → opens x at ≡ true → (o : Read Braced)
    → Then (FieldsAt x (MessageAt x less) (close.Mark (closing x at)) (at + 1)) (AsBraced x at) o → MessageAt x levels at o
open_message x levels less at s e o h = subst (λ l. MessageAt x l at o) (sym s) (open_suc x less at e o h)
