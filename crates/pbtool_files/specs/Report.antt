-- The lines that report why a command was refused.
use Rattle.std.specs.Prelude.{ℕ, List, [], ◌∷◌, ◌++◌, codes, decimal, flat_map}
use Rattle.pb_wire.specs.Fault.{Fault}
use Rattle.pb_wire.specs.CauseName.{name_of}
use Rattle.pb_wire.specs.PathText.{path_text}
use Rattle.pb_descr_message.specs.CauseName as descr
use Rattle.pb_descr_message.specs.declared.cause.DeclCause.{DeclCause}
use Rattle.pb_link_rules.specs.CauseName.{cause_name}
use Rattle.pb_link_rules.specs.declared.cause.LinkCause.{LinkCause}
use Rattle.pb_json.specs.CauseName as json
use Rattle.pb_json.specs.declared.error.JsonCause.{JsonCause}
use Rattle.pb_source_tokens.specs.CauseName as source
use Rattle.pb_source_tokens.specs.declared.fault.SourceCause.{SourceCause}

-- what ends a line: the name of a cause
abbrev pub cause_end : List ℕ → List ℕ
cause_end name = codes " cause " ++ name ++ codes "\n"

-- where a message's bytes are refused, and why
abbrev pub fault_line : Fault → List ℕ
fault_line f = codes "byte " ++ decimal f.byte ++ codes " path " ++ path_text f.path ++ cause_end (name_of f.cause)

-- where a set's bytes are refused
abbrev pub set_fault_line : Fault → List ℕ
set_fault_line f = codes "set " ++ fault_line f

-- which file of a set is refused
abbrev pub set_cause_line : ℕ → DeclCause → List ℕ
set_cause_line file c = codes "set file " ++ decimal file ++ cause_end (descr.name_of c)

-- which source is refused, and where
abbrev pub source_line : List ℕ → ℕ → SourceCause → List ℕ
source_line name byte c = codes "source " ++ name ++ codes " byte " ++ decimal byte ++ cause_end (source.name_of c)

-- a name, or a dash where it is empty, as at a file itself
abbrev pub shown_name : List ℕ → List ℕ
shown_name [] = codes "-"
shown_name (b ∷ bs) = b ∷ bs

-- which declaration does not link
abbrev pub link_line : List ℕ → List ℕ → LinkCause → List ℕ
link_line file full_name c =
    codes "link " ++ shown_name file ++ codes " at " ++ shown_name full_name ++ cause_end (cause_name c)

-- no message type has this name
abbrev pub type_line : List ℕ → List ℕ
type_line name = codes "type " ++ name ++ codes " unknown\n"

-- an encoding has more than 2^31 - 1 bytes
abbrev pub too_large_line : List ℕ
too_large_line = codes "output cause TooLarge\n"

-- where a stream is refused, after this number of frames
abbrev pub frame_fault_line : ℕ → Fault → List ℕ
frame_fault_line index f = codes "frame " ++ decimal index ++ codes " " ++ fault_line f

-- how many frames of a stream are refused, and of how many
abbrev pub frames_line : ℕ → ℕ → List ℕ
frames_line refused count = codes "frames refused " ++ decimal refused ++ codes " of " ++ decimal count ++ codes "\n"

-- the numbers of fields, outermost first, joined by dots, or `-` where there are none
abbrev pub fields_text : List ℕ → List ℕ
fields_text [] = codes "-"
fields_text (n ∷ ns) = decimal n ++ flat_map (λ k. codes "." ++ decimal k) ns

-- which part of a message has no JSON form, by the fields that lead to it
abbrev pub json_line : List ℕ → JsonCause → List ℕ
json_line path c = codes "json path " ++ fields_text path ++ cause_end (json.name_of c)

-- which part of the message of a frame has none
abbrev pub frame_json_line : ℕ → List ℕ → JsonCause → List ℕ
frame_json_line index path c = codes "frame " ++ decimal index ++ codes " " ++ json_line path c

-- where a JSON text is refused, and the name of the cause
abbrev pub json_text_line : ℕ → List ℕ → List ℕ
json_text_line byte name = codes "json" ++ (codes " byte " ++ decimal byte) ++ cause_end name

-- a device failed, or a file is not there
abbrev pub device_line : List ℕ → List ℕ
device_line path = codes "device " ++ path ++ codes "\n"

-- how standard output is named
abbrev pub output_name : List ℕ
output_name = codes "-"

abbrev pub memory_line : List ℕ
memory_line = codes "memory\n"
