-- The numbers and the names of causes.
use Rattle.std.specs.Prelude.{ℕ, List, codes}
use Rattle.pb_source_tokens.specs.declared.fault.SourceCause.{SourceCause}
use Rattle.pb_source_tokens.specs.declared.fault.SourceCause.TheVariants.{SourceTooLarge, BadUtf8, BadToken, OpenComment, OpenText, Unexpected}
use Rattle.pb_source_tokens.specs.declared.fault.SourceCause.TheVariants.{NumberTooLarge, CustomOption, NotProto3, NestedTooDeep, Memory}

abbrev pub number_of : SourceCause → ℕ
number_of SourceTooLarge = 50
number_of BadUtf8 = 61
number_of BadToken = 62
number_of OpenComment = 63
number_of OpenText = 64
number_of Unexpected = 65
number_of NumberTooLarge = 66
number_of CustomOption = 67
number_of NotProto3 = 68
number_of NestedTooDeep = 69
number_of Memory = 70

abbrev pub name_of : SourceCause → List ℕ
name_of SourceTooLarge = codes "SourceTooLarge"
name_of BadUtf8 = codes "BadUtf8"
name_of BadToken = codes "BadToken"
name_of OpenComment = codes "OpenComment"
name_of OpenText = codes "OpenText"
name_of Unexpected = codes "Unexpected"
name_of NumberTooLarge = codes "NumberTooLarge"
name_of CustomOption = codes "CustomOption"
name_of NotProto3 = codes "NotProto3"
name_of NestedTooDeep = codes "NestedTooDeep"
name_of Memory = codes "Memory"
