-- Characters of a text (Text Format Language Specification, "Characters" and "Whitespace and Comments").
use Rattle.std.specs.Prelude.{ℕ, suc, List, [], ◌∷◌, Bool, false, not, ◌&&◌, ◌||◌, ◌==◌, if◌then◌else◌}
use Rattle.std.specs.Char.{is_ascii_alphabetic, is_ascii_digit}
use Rattle.std.specs.Int.{is_in_range}
use Rattle.pb_text_tokens.specs.declared.bytes.First.{First}
use Rattle.pb_text_tokens.specs.declared.bytes.First.TheVariants as first

-- space, tab, line feed, vertical tab, form feed, carriage return
abbrev pub is_blank : ℕ → Bool
is_blank c = c == 32 || is_in_range 9 13 c

-- letter  = "A" … "Z" | "a" … "z" | "_"
abbrev pub begins_word : ℕ → Bool
begins_word c = is_ascii_alphabetic c || c == 95

-- letter | dec
abbrev pub continues_word : ℕ → Bool
continues_word c = begins_word c || is_ascii_digit c

-- `"` or `'`
abbrev pub is_quote : ℕ → Bool
is_quote c = c == 34 || c == 39

-- one of { } < > [ ] : ; , - . /
abbrev pub is_mark : ℕ → Bool
is_mark c =
    c == 123 || c == 125 || c == 60 || c == 62 || c == 91 || c == 93 || c == 58 || c == 59 || c == 44 || c == 45 || c == 46 || c == 47

-- a comment goes from # to the end of its line, and has no NUL
abbrev pub continues_comment : ℕ → Bool
continues_comment c = not (c == 10 || c == 0)

abbrev pub begins_digit : List ℕ → Bool
begins_digit [] = false
begins_digit (c ∷ cs) = is_ascii_digit c

-- how many bytes at the start pass the test, one after another
abbrev pub run_len : (ℕ → Bool) → List ℕ → ℕ
run_len test [] = 0
run_len test (c ∷ cs) = if test c then suc (run_len test cs) else 0

-- what bytes begin with; a point before a digit begins a number
abbrev pub first_of : List ℕ → First
first_of [] = first.Other
first_of (c ∷ cs) =
    if is_blank c then first.Blank
    else if c == 35 then first.Comment
    else if begins_word c then first.Word
    else if is_ascii_digit c || (c == 46 && begins_digit cs) then first.Number
    else if is_quote c then first.Quote
    else if is_mark c then first.Mark
    else first.Other
