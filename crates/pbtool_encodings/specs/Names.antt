-- How reports name encodings, and causes of their refusals.
use Rattle.std.specs.Prelude.{ℕ, List, codes}
use Rattle.pbtool_encodings.specs.declared.encoding.Encoding.{Encoding}
use Rattle.pbtool_encodings.specs.declared.encoding.Encoding.TheVariants.{Base64, Hexadecimal}
use Rattle.pbtool_encodings.specs.declared.encoding.TextCause.{TextCause}
use Rattle.pbtool_encodings.specs.declared.encoding.TextCause.TheVariants.{BadDigit, InputTooLarge}

abbrev pub encoding_name : Encoding → List ℕ
encoding_name Hexadecimal = codes "hex"
encoding_name Base64 = codes "base64"

abbrev pub cause_name : TextCause → List ℕ
cause_name BadDigit = codes "BadDigit"
cause_name InputTooLarge = codes "InputTooLarge"
