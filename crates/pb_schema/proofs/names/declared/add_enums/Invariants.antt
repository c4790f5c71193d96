use Rattle.std.proofs.Common.{List, map, take}
use Rattle.std.specs.List.{flat_map}
use Rattle.pb_schema.specs.Types.{FileView, MessageView}
use Rattle.pb_schema.specs.View.{enum_view}
use Rattle.pb_schema.specs.Names.{declared_by_enum}
use Rattle.pb_schema.specs.Names.Declared.{MayAddEnums, Added}
use Rattle.pb_schema.proofs.names.declared.add_enums.Given as goal

abbrev pub invariant-loop-entry : goal.invariant-loop-entry
invariant-loop-entry l =
    (files : List FileView) (ms : List MessageView) → MayAddEnums files ms l.packages l.messages (map enum_view l.enums) l.fn.declared → Added (flat_map (declared_by_enum files ms) (map enum_view (take l.entry-index l.enums))) l.fn.declared l.declared
