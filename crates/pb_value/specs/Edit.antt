-- A change of one message: what it makes of the message, why it is refused, and what it takes out.
use Rattle.std.specs.Prelude.{ℕ, suc, Option, None, option_and_then}
use Rattle.pb_schema.specs.Types.{Types, message_fields}
use Rattle.pb_schema.specs.Scalar.{Scalar}
use Rattle.pb_value.specs.Data.{Datum, Holding, Message, fields_of, get_field, drop_field, holding_depth, levels_of, levels_in_entry}
use Rattle.pb_value.specs.Dynamic.{Dynamic, with_changed, without_unknown}
use Rattle.pb_value.specs.Change.{set_at, set_cause, push_at, push_cause, insert_at, entry_at, insert_cause, remove_at, put_nth, take_nth}
use Rattle.pb_value.specs.Inner.{datum_at, datum_under}
use Rattle.pb_value.specs.View.{content_view, key_view, value_view}
use Rattle.pb_value.specs.declared.changing.Change.{Change}
use Rattle.pb_value.specs.declared.changing.Change.TheVariants as change
use Rattle.pb_value.specs.declared.error.ValueError.{ValueError}

-- A change of one message: of the field of a number, or of its unknown records.
pub data Edit : Type 0 where
  set : Holding → ℕ → Edit
  clear : ℕ → Edit
  push : Datum → ℕ → Edit
  insert : Scalar → Datum → ℕ → Edit
  remove : Scalar → ℕ → Edit
  set_element : ℕ → Datum → ℕ → Edit
  remove_element : ℕ → ℕ → Edit
  drop_unknown : Edit

-- the message with the change made
abbrev pub edited : Edit → Dynamic → Dynamic
edited (set h n) v = with_changed v (set_at (message_fields v.pool v.kind) n h)
edited (clear n) v = with_changed v (drop_field n)
edited (push d n) v = with_changed v (push_at n d)
edited (insert x d n) v = with_changed v (insert_at n x d)
edited (remove x n) v = with_changed v (remove_at n x)
edited (set_element i d n) v = with_changed v (put_nth n i d)
edited (remove_element i n) v = with_changed v (take_nth n i)
edited drop_unknown v = without_unknown v

-- why it is refused, for a message of a type; another element as one more is
abbrev pub edit_cause : Edit → Types → ℕ → Option ValueError
edit_cause (set h n) pool m = set_cause pool m n h
edit_cause (clear n) pool m = None
edit_cause (push d n) pool m = push_cause pool m n d
edit_cause (insert x d n) pool m = insert_cause pool m n x d
edit_cause (remove x n) pool m = None
edit_cause (set_element i d n) pool m = push_cause pool m n d
edit_cause (remove_element i n) pool m = None
edit_cause drop_unknown pool m = None

-- how deep what it brings nests below the message
abbrev pub brings : Edit → ℕ
brings (set h n) = holding_depth h
brings (clear n) = 0
brings (push d n) = levels_of d
brings (insert x d n) = suc (levels_in_entry d)
brings (remove x n) = 0
brings (set_element i d n) = levels_of d
brings (remove_element i n) = 0
brings drop_unknown = 0

-- what it takes out of the message
abbrev pub taken_out : Edit → Dynamic → Option Datum
taken_out (set h n) v = None
taken_out (clear n) v = None
taken_out (push d n) v = None
taken_out (insert x d n) v = entry_at n x (fields_of v.body)
taken_out (remove x n) v = option_and_then (datum_under x) (get_field n (fields_of v.body))
taken_out (set_element i d n) v = option_and_then (datum_at i) (get_field n (fields_of v.body))
taken_out (remove_element i n) v = option_and_then (datum_at i) (get_field n (fields_of v.body))
taken_out drop_unknown v = None

-- what the code's change means
abbrev pub edit_of : Change → Edit
edit_of (change.Set n c) = set (content_view c) n
edit_of (change.Clear n) = clear n
edit_of (change.Push n v) = push (value_view v) n
edit_of (change.Insert n k v) = insert (key_view k) (value_view v) n
edit_of (change.Remove n k) = remove (key_view k) n
edit_of (change.SetElement n i v) = set_element i (value_view v) n
edit_of (change.RemoveElement n i) = remove_element i n
edit_of change.DropUnknown = drop_unknown

-- the message of a type with this body
abbrev pub dynamic : Types → ℕ → Message → Dynamic
dynamic pool m b = record { pool = pool; kind = m; body = b }
