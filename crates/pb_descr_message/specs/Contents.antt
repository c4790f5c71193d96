-- Contents beside the numbers of their fields, before they are a message.
use Rattle.std.specs.Prelude.{ℕ, List, [], ◌∷◌, Bool, true, ◌&&◌, nat_lt, Option, option_map}
use Rattle.std.specs.List.{list_all}
use Rattle.pb_value.specs.Data.{Holding}
use Rattle.pb_value.specs.View.{content_view}
use Rattle.pb_value.specs.declared.body.Content.{Content}

abbrev pub entry_view : ℕ × Option Content → ℕ × Option Holding
entry_view e = (e.0, option_map content_view e.1)

-- the numbers rise
abbrev pub is_rising : List (ℕ × Option Holding) → Bool
is_rising [] = true
is_rising (e ∷ es) = list_all (λ f. nat_lt e.0 f.0) es && is_rising es
