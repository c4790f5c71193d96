use Rattle.pb_link.proofs.AsciiLemmas.{message_name_ascii, enum_name_ascii}
use Rattle.pb_link.proofs.declaring.fields.name_of_kind.Goals as goal

pub dotted-requires : goal.dotted-requires
dotted-requires c = message_name_ascii c.args.pool.now c.requires.pool c.in-Message.id.0 c.message_name.result.now c.message_name.ensures.found

pub dotted-requires-in-Enum : goal.dotted-requires-in-Enum
dotted-requires-in-Enum c = enum_name_ascii c.args.pool.now c.requires.pool c.in-Enum.id.0 c.enum_name.result.now c.enum_name.ensures.found

pub dotted-requires-in-Group : goal.dotted-requires-in-Group
dotted-requires-in-Group c = message_name_ascii c.args.pool.now c.requires.pool c.in-Group.id.0 c.message_name-in-Group.result.now c.message_name-in-Group.ensures.found

pub dotted-requires-in-ClosedEnum : goal.dotted-requires-in-ClosedEnum
dotted-requires-in-ClosedEnum c =
    enum_name_ascii c.args.pool.now c.requires.pool c.in-ClosedEnum.id.0 c.enum_name-in-ClosedEnum.result.now c.enum_name-in-ClosedEnum.ensures.found
