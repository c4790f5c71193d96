-- What the code sees of tokens, and answers.
use Rattle.std.specs.Prelude.{◌<◌, ℕ, Some}
use Rattle.pb_text_tokens.specs.TokenView.{token_of, tokens_of}
use Rattle.pb_text_tokens.specs.declared.token.Token.{Token}
use Rattle.pb_text_tree.specs.Grammar.{Text, Next, a_word, a_number, a_string, a_mark, the_end, next_of}
use Rattle.pb_text_tree.specs.declared.source.Close.{Close}
use Rattle.pb_text_tree.specs.declared.source.Close.TheVariants as close
use Rattle.pb_text_tree.specs.declared.source.Next.{Next as CodeNext}
use Rattle.pb_text_tree.specs.declared.source.Next.TheVariants as next
use Rattle.pb_text_tree.specs.declared.source.Source.{Source}

abbrev pub text_of : Source → Text
text_of s = record { tokens = tokens_of s.tokens.now; size = s.size }

abbrev pub next_view : CodeNext → Next
next_view (next.Word w) = a_word w.now
next_view (next.Number k t) = a_number k t.now
next_view (next.Quoted t) = a_string t.now
next_view (next.Mark c) = a_mark c
next_view next.End = the_end

abbrev pub token_view : Token → Next
token_view t = next_of (Some (token_of t))

-- unless it is the end, the token is there
abbrev pub HasNext : ℕ → ℕ → CodeNext → Type 0
HasNext at n (next.Word w) = at < n
HasNext at n (next.Number k t) = at < n
HasNext at n (next.Quoted t) = at < n
HasNext at n (next.Mark c) = at < n
HasNext at n next.End = Unit {0}

abbrev pub IsWithin : Close → ℕ → ℕ → Type 0
IsWithin close.End at n = Unit {0}
IsWithin (close.Mark c) at n = at < n
