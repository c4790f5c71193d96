-- Tokens are one tree, or have one fault.
use Rattle.std.proofs.Common.{ℕ, zero, suc, ◌+◌, List, [], Bool, true, false}
use Rattle.std.specs.Prelude.{◌==◌}
use Rattle.pb_text_tokens.specs.Strings.{string_meaning}
use Rattle.pb_text_tree.specs.Grammar.{Text, Next, a_word, a_number, a_string, a_mark, the_end, next_at, mark_at, opens, closing, ends_at, ends_list, no_point, no_string, after_mark, with_message, joined_placed}
use Rattle.pb_text_tree.specs.Grammar.{AfterColon, AfterDomain, AfterMessage, AfterName, AfterScalar, AfterWords, AnotherField, AnotherMessage, AnotherScalar, AnotherString, AnotherWord, AnyClosed, AsBraced, AsMessage, AsMessages, AsNamed, AsPlaced, AsQuoted, AsScalar, AsScalars}
use Rattle.pb_text_tree.specs.Grammar.{Bracketed, Closing, Dotted, EmptyList, ExtensionClosed, FieldAt, FieldsAt, IsPlain, IsWord, ItemsAt, ListAt, MessageAt, MessageValue, MessagesAt, MessagesValue, MoreMessages, MoreScalars, MoreStrings, MoreWords}
use Rattle.pb_text_tree.specs.Grammar.{NameAt, NameBy, NextMessage, NextScalar, NoMessage, PlacedAt, PlacedValue, Reads, ScalarAt, ScalarBy, ScalarItem, ScalarItems, ScalarsAt, ScalarsValue, TooDeepAt, Unexpected, ValueAt, WithField, WithMessage, WithPlaced}
use Rattle.pb_text_tree.specs.Steps.{Read, Then, Repeats}
use Rattle.pb_text_tree.specs.Tree.{Fields, Messages, Name, Placed, no_fields, no_messages}
use Rattle.pb_text_tree.specs.View.{Braced}
use Rattle.pb_text_tree.specs.declared.source.Close.{Close}
use Rattle.pb_text_tree.specs.declared.source.Close.TheVariants as close
use Rattle.pb_text_tree.proofs.StepLemmas.{Single, is_single, then_single, choose_single, repeats_single}

dotted_single : (x : Text) (at : ℕ) → Single (Dotted x at)
dotted_single x at = then_single (IsWord x at) (MoreWords x) (is_single _) (λ w n. repeats_single (no_point x) (AnotherWord x) w n (λ v m. is_single _))

domain_single : (x : Text) (d : List ℕ) (at : ℕ) → Single (AfterDomain x d at)
domain_single x d at = then_single (Dotted x (at + 1)) (AnyClosed x d) (dotted_single x (at + 1)) (λ m n. is_single _)

bracketed_single : (x : Text) (at : ℕ) → Single (Bracketed x at)
bracketed_single x at =
    then_single (Dotted x (at + 1)) (AfterWords x) (dotted_single x (at + 1)) (λ w n. choose_single (mark_at x 47 n) (AfterDomain x w n) (ExtensionClosed x w n) (domain_single x w n) (is_single _))

name_by_single : (x : Text) (at : ℕ) (t : Next) → Single (NameBy x at t)
name_by_single x at (a_word w) = is_single _
name_by_single x at (a_number k t) = is_single _
name_by_single x at (a_mark c) = choose_single (c == 91) (Bracketed x at) (Unexpected x at) (bracketed_single x at) (is_single _)
name_by_single x at (a_string t) = is_single _
name_by_single x at the_end = is_single _

strings_single : (x : Text) (s : List ℕ) (at : ℕ) → Single (MoreStrings x s at)
strings_single x s at =
    then_single (Repeats (no_string x) (AnotherString x) s at) AsQuoted (repeats_single (no_string x) (AnotherString x) s at (λ t n. is_single _)) (λ t n. is_single _)

scalar_by_single : (x : Text) (at : ℕ) (t : Next) → Single (ScalarBy x at t)
scalar_by_single x at (a_string t) = strings_single x (string_meaning t) (at + 1)
scalar_by_single x at (a_mark c) = choose_single (c == 45) (IsPlain x true (at + 1)) (IsPlain x false at) (is_single _) (is_single _)
scalar_by_single x at (a_word w) = is_single _
scalar_by_single x at (a_number k t) = is_single _
scalar_by_single x at the_end = is_single _

placed_single : (x : Text) (at : ℕ) → Single (PlacedAt x at)
placed_single x at = then_single (ScalarAt x at) (AsPlaced x at) (scalar_by_single x at (next_at x at)) (λ s n. is_single _)

next_scalar_single : (x : Text) (at : ℕ) → Single (NextScalar x at)
next_scalar_single x at = choose_single (mark_at x 44 at) (PlacedAt x (at + 1)) (Unexpected x at) (placed_single x (at + 1)) (is_single _)

another_scalar_single : (x : Text) (ps : List Placed) (at : ℕ) → Single (AnotherScalar x ps at)
another_scalar_single x ps at = then_single (NextScalar x at) (WithPlaced ps) (next_scalar_single x at) (λ q k. is_single _)

more_scalars_single : (x : Text) (ps : List Placed) (at : ℕ) → Single (MoreScalars x ps at)
more_scalars_single x ps at =
    then_single (Repeats (ends_list x) (AnotherScalar x) ps at) Closing (repeats_single (ends_list x) (AnotherScalar x) ps at (λ qs m. another_scalar_single x qs m)) (λ qs m. is_single _)

scalars_single : (x : Text) (at : ℕ) → Single (ScalarsAt x at)
scalars_single x at = then_single (PlacedAt x at) (AfterScalar x) (placed_single x at) (λ p n. more_scalars_single x (joined_placed [] p) n)

module _ (x : Text) (Inside : ℕ → Read Braced → Type 0) (inside : (n : ℕ) → Single (Inside n)) where
  next_message_single : (at : ℕ) → Single (NextMessage x Inside at)
  next_message_single at = choose_single (mark_at x 44 at) (Inside (at + 1)) (Unexpected x at) (inside (at + 1)) (is_single _)

  another_message_single : (ms : Messages) (at : ℕ) → Single (AnotherMessage x Inside ms at)
  another_message_single ms at = then_single (NextMessage x Inside at) (WithMessage ms) (next_message_single at) (λ m n. is_single _)

  more_messages_single : (ms : Messages) (at : ℕ) → Single (MoreMessages x Inside ms at)
  more_messages_single ms at =
      then_single (Repeats (ends_list x) (AnotherMessage x Inside) ms at) Closing (repeats_single (ends_list x) (AnotherMessage x Inside) ms at (λ ns m. another_message_single ns m)) (λ ns m. is_single _)

  messages_single : (at : ℕ) → Single (MessagesAt x Inside at)
  messages_single at = then_single (Inside at) (AfterMessage x Inside) (inside at) (λ m n. more_messages_single (with_message no_messages m) n)

  items_single : (colon : Bool) (at : ℕ) → Single (ItemsAt x Inside colon at)
  items_single colon at =
      choose_single (opens x at) (MessagesValue x Inside at) (ScalarItems x Inside colon at) (then_single (MessagesAt x Inside at) AsMessages (messages_single at) (λ ms n. is_single _))
      (choose_single colon (ScalarsValue x at) (Unexpected x at) (then_single (ScalarsAt x at) AsScalars (scalars_single x at) (λ ss n. is_single _)) (is_single _))

  list_single : (colon : Bool) (at : ℕ) → Single (ListAt x Inside colon at)
  list_single colon at = choose_single (mark_at x 93 (at + 1)) (EmptyList colon at) (ItemsAt x Inside colon (at + 1)) (is_single _) (items_single colon (at + 1))

  no_message_single : (colon : Bool) (at : ℕ) → Single (NoMessage x Inside colon at)
  no_message_single colon at =
      choose_single (mark_at x 91 at) (ListAt x Inside colon at) (ScalarItem x Inside colon at) (list_single colon at)
      (choose_single colon (PlacedValue x at) (Unexpected x at) (then_single (PlacedAt x at) AsScalar (placed_single x at) (λ s n. is_single _)) (is_single _))

  value_single : (colon : Bool) (at : ℕ) → Single (AfterColon x Inside colon at)
  value_single colon at =
      choose_single (opens x at) (MessageValue x Inside at) (NoMessage x Inside colon at) (then_single (Inside at) AsMessage (inside at) (λ m n. is_single _)) (no_message_single colon at)

  after_name_single : (at : ℕ) (name : Name) (n : ℕ) → Single (AfterName x Inside at name n)
  after_name_single at name n = then_single (ValueAt x Inside n) (AsNamed x at name) (value_single (mark_at x 58 n) (after_mark x 58 n)) (λ v m. is_single _)

  field_single : (at : ℕ) → Single (FieldAt x Inside at)
  field_single at = then_single (NameAt x at) (AfterName x Inside at) (name_by_single x at (next_at x at)) (λ name n. after_name_single at name n)

  another_field_single : (fs : Fields) (at : ℕ) → Single (AnotherField x Inside fs at)
  another_field_single fs at = then_single (FieldAt x Inside at) (WithField fs) (field_single at) (λ f n. is_single _)

  fields_single : (end : Close) (at : ℕ) → Single (FieldsAt x Inside end at)
  fields_single end at = repeats_single (ends_at x end) (AnotherField x Inside) no_fields at (λ fs n. another_field_single fs n)

message_single : (x : Text) (levels at : ℕ) → Single (MessageAt x levels at)
message_single x zero at = choose_single (opens x at) (TooDeepAt x at) (Unexpected x at) (is_single _) (is_single _)
message_single x (suc levels) at =
    choose_single (opens x at) (λ r. Then (FieldsAt x (MessageAt x levels) (close.Mark (closing x at)) (at + 1)) (AsBraced x at) r) (Unexpected x at)
    (then_single (FieldsAt x (MessageAt x levels) (close.Mark (closing x at)) (at + 1)) (AsBraced x at)
    (fields_single x (MessageAt x levels) (λ n. message_single x levels n) (close.Mark (closing x at)) (at + 1)) (λ fs n. is_single _))
    (is_single _)

pub reads_single : (levels : ℕ) (x : Text) → Single (Reads levels x)
reads_single levels x = fields_single x (MessageAt x levels) (λ n. message_single x levels n) close.End 0
