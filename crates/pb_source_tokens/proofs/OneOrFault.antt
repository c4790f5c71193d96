-- Bytes are one list of tokens, or have one fault.
use Rattle.std.proofs.Common.{◌≡◌, ℕ, List, ◌⊎◌, inl, inr}
use Rattle.pb_declarations.specs.One.{ExactlyOne}
use Rattle.pb_source_tokens.specs.declared.fault.SourceCause.{SourceCause}
use Rattle.pb_source_tokens.specs.declared.fault.SourceFault.{SourceFault}
use Rattle.pb_source_tokens.specs.Fault.{fault}
use Rattle.pb_source_tokens.specs.Tokens.{PlacedToken, AreTokens, LexFault}
use Rattle.pb_source_tokens.proofs.OneLexing.{one_list, one_fault, not_both}
use Rattle.pb_source_tokens.proofs.SomeLexing.{tokens_or_fault}

-- faults that are reported at one place, for one cause
pub same_told : (f g : SourceFault) → (f.byte ≡ g.byte) × (f.cause ≡ g.cause) → f ≡ g
same_told f g h = λ i. fault (h.0 i) (h.1 i)

pub one_lexing : (bytes : List ℕ) → ExactlyOne (AreTokens bytes) (λ (e : SourceFault). LexFault bytes e.byte e.cause)
one_lexing bytes = record {
  either = told (tokens_or_fault bytes);
  not_both = λ ts e h f. not_both bytes ts e.byte e.cause h f;
  one_meaning = one_list bytes;
  one_fault = λ e g f h. same_told e g (one_fault bytes e.byte g.byte e.cause g.cause f h);
}
  where
    told : ((ts : List PlacedToken) × AreTokens bytes ts) ⊎ ((place : ℕ) × (c : SourceCause) × LexFault bytes place c)
        → ((ts : List PlacedToken) × AreTokens bytes ts) ⊎ ((e : SourceFault) × LexFault bytes e.byte e.cause)
    told (inl h) = inl h
    told (inr (place, c, f)) = inr (fault place c, f)
