-- A source as its declaration, or as its one fault.
use Rattle.std.specs.Prelude.{ℕ, zero, suc, ◌^◌, ◌-◌, ◌<◌, ◌≤◌, List, [], ◌∷◌, length, map, IsUtf8}
use Rattle.std.specs.Str.Lossy.{utf8_valid_len}
use Rattle.pb_declarations.specs.Decls.{DeclaredFile}
use Rattle.pb_source_tokens.specs.Tokens.{PlacedToken, AreTokens, LexFault}
use Rattle.pb_source.specs.declared.reading.Reading.{Reading}
use Rattle.pb_source.specs.declared.reading.Reading.TheVariants as reading
use Rattle.pb_source_tokens.specs.Symbols.{Symbol, PlacedSymbol, AreSymbols}
use Rattle.pb_source_tokens.specs.declared.fault.SourceCause.{SourceCause}
use Rattle.pb_source_tokens.specs.declared.fault.SourceCause.TheVariants.{SourceTooLarge, BadUtf8}
use Rattle.pb_source.specs.Grammar.{FileSyntaxIn}
use Rattle.pb_source.specs.SyntaxFault.{SyntaxFaultIn}

abbrev pub symbols_alone : List PlacedSymbol → List Symbol
symbols_alone = map (λ p. p.symbol)

-- where the symbol of this index begins; after the last, the end of the source
abbrev pub place_in : List PlacedSymbol → ℕ → ℕ → ℕ
place_in [] end k = end
place_in (p ∷ ps) end zero = p.at
place_in (p ∷ ps) end (suc k) = place_in ps end k

-- the bytes are a source of this name that declares d, as it is read
pub record IsSourceIn (r : Reading) (name bytes : List ℕ) (d : DeclaredFile) : Type 0 where
  pub size : length bytes ≤ 2 ^ 31 - 1
  pub valid : IsUtf8 bytes
  pub tokens : List PlacedToken
  pub lexed : AreTokens bytes tokens
  pub symbols : List PlacedSymbol
  pub read : AreSymbols tokens symbols
  pub means : FileSyntaxIn r name (symbols_alone symbols) d

-- the one fault of bytes that are no source, as they are read
pub data HasFaultIn (r : Reading) (bytes : List ℕ) : ℕ → SourceCause → Type 0 where
  too_large : 2 ^ 31 - 1 < length bytes → HasFaultIn r bytes (2 ^ 31 - 1) SourceTooLarge
  bad_utf8 : length bytes ≤ 2 ^ 31 - 1 → ¬ IsUtf8 bytes → HasFaultIn r bytes (utf8_valid_len bytes) BadUtf8
  in_token : {place : ℕ} {c : SourceCause} → length bytes ≤ 2 ^ 31 - 1 → IsUtf8 bytes → LexFault bytes place c → HasFaultIn r bytes place c
  in_syntax :
      {ts : List PlacedToken} {ss : List PlacedSymbol} {k : ℕ} {c : SourceCause}
      → length bytes ≤ 2 ^ 31 - 1 → IsUtf8 bytes → AreTokens bytes ts → AreSymbols ts ss
      → SyntaxFaultIn r (symbols_alone ss) k c → HasFaultIn r bytes (place_in ss (length bytes) k) c

-- ---- read strictly

abbrev pub IsSource : List ℕ → List ℕ → DeclaredFile → Type 0
IsSource = IsSourceIn reading.Strict

abbrev pub HasFault : List ℕ → ℕ → SourceCause → Type 0
HasFault = HasFaultIn reading.Strict

-- ---- read leniently

abbrev pub IsLenientSource : List ℕ → List ℕ → DeclaredFile → Type 0
IsLenientSource = IsSourceIn reading.Lenient

abbrev pub HasLenientFault : List ℕ → ℕ → SourceCause → Type 0
HasLenientFault = HasFaultIn reading.Lenient
