-- Keys by the numbers of their kinds, in small cases.
use Rattle.std.proofs.Common.{◌≡◌, [], Some, refl}
use Rattle.pb_schema.specs.Scalar.{uint32, uint64}
use Rattle.pb_c_message.specs.Places.{key_said}

-- fixed32 counts as uint32, and fixed64 as uint64
a_fixed32 : key_said [] 7 5 ≡ Some (uint32 5)
a_fixed32 = refl

a_fixed64 : key_said [] 6 5 ≡ Some (uint64 5)
a_fixed64 = refl

-- sfixed32 and sint32 count as int32, and sfixed64 and sint64 as int64
an_sfixed32 : key_said [] 15 5 ≡ key_said [] 5 5
an_sfixed32 = refl

an_sint32 : key_said [] 17 5 ≡ key_said [] 5 5
an_sint32 = refl

an_sfixed64 : key_said [] 16 5 ≡ key_said [] 3 5
an_sfixed64 = refl

an_sint64 : key_said [] 18 5 ≡ key_said [] 3 5
an_sint64 = refl
