use Rattle.pb_json_read.proofs.values.read_scalar.Goals as goal

pub returns-in-Int32 : goal.returns-in-Int32
returns-in-Int32 c = rw (c.in-Int32.is) c.int32_value.ensures

pub returns-in-Sint32 : goal.returns-in-Sint32
returns-in-Sint32 c = rw (c.in-Sint32.is) c.int32_value-in-Sint32.ensures

pub returns-in-Sfixed32 : goal.returns-in-Sfixed32
returns-in-Sfixed32 c = rw (c.in-Sfixed32.is) c.int32_value-in-Sfixed32.ensures

pub returns-in-Int64 : goal.returns-in-Int64
returns-in-Int64 c = rw (c.in-Int64.is) c.int64_value.ensures

pub returns-in-Sint64 : goal.returns-in-Sint64
returns-in-Sint64 c = rw (c.in-Sint64.is) c.int64_value-in-Sint64.ensures

pub returns-in-Sfixed64 : goal.returns-in-Sfixed64
returns-in-Sfixed64 c = rw (c.in-Sfixed64.is) c.int64_value-in-Sfixed64.ensures

pub returns-in-Uint32 : goal.returns-in-Uint32
returns-in-Uint32 c = rw (c.in-Uint32.is) c.uint32_value.ensures

pub returns-in-Fixed32 : goal.returns-in-Fixed32
returns-in-Fixed32 c = rw (c.in-Fixed32.is) c.uint32_value-in-Fixed32.ensures

pub returns-in-Uint64 : goal.returns-in-Uint64
returns-in-Uint64 c = rw (c.in-Uint64.is) c.uint64_value.ensures

pub returns-in-Fixed64 : goal.returns-in-Fixed64
returns-in-Fixed64 c = rw (c.in-Fixed64.is) c.uint64_value-in-Fixed64.ensures

pub returns-in-Bool : goal.returns-in-Bool
returns-in-Bool c = rw (c.in-Bool.is) c.bool_value.ensures

pub returns-in-Float : goal.returns-in-Float
returns-in-Float c = rw (c.in-Float.is) c.float_value.ensures

pub returns-in-Double : goal.returns-in-Double
returns-in-Double c = rw (c.in-Double.is) c.double_value.ensures

pub returns-in-Enum : goal.returns-in-Enum
returns-in-Enum c = rw (c.in-Enum.is) c.enum_value.ensures

pub returns-in-ClosedEnum : goal.returns-in-ClosedEnum
returns-in-ClosedEnum c = rw (c.in-ClosedEnum.is) c.closed_enum_value.ensures

pub returns-in-Text : goal.returns-in-Text
returns-in-Text c = rw (c.in-Text.is) c.text_value.ensures

pub returns-in-Bytes : goal.returns-in-Bytes
returns-in-Bytes c = rw (c.in-Bytes.is) c.bytes_value.ensures
