-- What a message or an enum reserves, to be searched.
use Rattle.std.specs.Prelude.{◌≡◌, ℕ, ◌≤◌, ◌<◌, ℤ, pos, ◌+ℤ◌, ◌≤ℤ◌, int_lt, List, length, map, Bool, true, FitsSigned}
use Rattle.std.specs.Int.{w32}
use Rattle.std.specs.List.{list_any, list_all, slice_index_or}
use Rattle.std.specs.Str.{bytes_eq}
use Rattle.pb_declarations.specs.Decls.{DeclaredEnum, MessageHead}
use Rattle.pb_link_names.specs.NameSets.{is_in_set}
use Rattle.pb_link_names.specs.MarkRules.{is_in_message_range, message_ranges_overlap, none_overlap}
use Rattle.pb_link_names.specs.declared.marks.reserved.Reserved.{Reserved}

-- a range of an enum, whose end is inclusive, as one with an exclusive end
abbrev pub with_end_behind : ℤ × ℤ → ℤ × ℤ
with_end_behind r = (r.0, r.1 +ℤ pos 1)

-- a range with an exclusive end holds a number
abbrev pub is_filled : ℤ × ℤ → Bool
is_filled r = int_lt r.0 r.1

-- the starts or the ends do not fall from one range to a later one
abbrev pub Rises : (ℤ × ℤ → ℤ) → List (ℤ × ℤ) → Type 0
Rises key ranges = (i j : ℕ) (d : ℤ × ℤ) → i ≤ j → j < length ranges → key (slice_index_or ranges i d) ≤ℤ key (slice_index_or ranges j d)

-- all numbers of these ranges, whose ends are exclusive, and these names; and whether the ranges overlap, if none is empty
pub record Reserves (ranges : List (ℤ × ℤ)) (names : List (List ℕ)) (r : Reserved) : Type 0 where
  pub starts : Rises (λ s. s.0) r.spans.items
  pub ends : Rises (λ s. s.1) r.spans.items
  pub same : (n : ℤ) → FitsSigned w32 n → list_any (is_in_message_range n) r.spans.items ≡ list_any (is_in_message_range n) ranges
  pub apart : list_all is_filled ranges ≡ true → r.are_apart ≡ none_overlap message_ranges_overlap ranges
  pub named : (name : List ℕ) → is_in_set r.names name ≡ list_any (bytes_eq name) names

abbrev pub ReservesInMessage : MessageHead → Reserved → Type 0
ReservesInMessage head r = Reserves head.reserved head.reserved_names r

abbrev pub ReservesInEnum : DeclaredEnum → Reserved → Type 0
ReservesInEnum e r = Reserves (map with_end_behind e.reserved) e.reserved_names r
