-- The line and the exit status of a refusal, and its answer.
use Rattle.std.specs.Prelude.{◌≡◌, ◌++◌, ℕ, List, [], Bool, true, false, string_bytes, Result, MatchResult}
use Rattle.pb_wire.specs.Fault.{fault}
use Rattle.pb_wire.specs.declared.fault.RawError.{RawError}
use Rattle.pb_wire.specs.declared.fault.RawError.TheVariants as raw
use Rattle.pb_descr_message.specs.declared.error.DescrError.{DescrError}
use Rattle.pb_descr_message.specs.declared.error.DescrError.TheVariants as descr
use Rattle.pb_link_rules.specs.declared.error.LinkError.{LinkError}
use Rattle.pb_link_rules.specs.declared.error.LinkError.TheVariants as link
use Rattle.pbtool_files.specs.Answer.{Answer, refused, device_failed}
use Rattle.pbtool_files.specs.Report.{fault_line, set_fault_line, set_cause_line, link_line, type_line, too_large_line}
use Rattle.pbtool_files.specs.Report.{frame_fault_line, frame_json_line, frames_line, source_line, json_line, json_text_line, device_line, memory_line}
use Rattle.pbtool_files.specs.declared.report.Refusal.{Refusal}
use Rattle.pbtool_files.specs.declared.report.Refusal.TheVariants.{Fault, Set, SetFile, Link, UnknownType, TooLarge, Frame, Frames, Source, Json, Device, File, Memory}
use Rattle.pbtool_files.specs.declared.report.Refusal.TheVariants.{Breaks, FrameJson, JsonText}

abbrev pub refusal_line : Refusal → List ℕ
refusal_line (Fault byte path cause) = fault_line (fault byte path.items cause)
refusal_line (Set byte path cause) = set_fault_line (fault byte path.items cause)
refusal_line (SetFile file cause) = set_cause_line file cause
refusal_line (Link file full_name cause) = link_line (string_bytes file) (string_bytes full_name) cause
refusal_line (UnknownType name) = type_line name.now
refusal_line TooLarge = too_large_line
refusal_line (Frame index byte path cause) = frame_fault_line index (fault byte path.items cause)
refusal_line (FrameJson index path cause) = frame_json_line index path.items cause
refusal_line (Frames lines refused count) = lines.items ++ frames_line refused count
refusal_line (Source file byte cause) = source_line (string_bytes file) byte cause
refusal_line (Json path cause) = json_line path.items cause
refusal_line (JsonText byte cause) = json_text_line byte cause.now
refusal_line Breaks = []
refusal_line (Device path) = device_line path.now
refusal_line (File path) = device_line (string_bytes path)
refusal_line Memory = memory_line

-- 1 where an input is refused, and 3 for devices and memory
abbrev pub refusal_status : Refusal → ℕ
refusal_status (Fault byte path cause) = 1
refusal_status (Set byte path cause) = 1
refusal_status (SetFile file cause) = 1
refusal_status (Link file full_name cause) = 1
refusal_status (UnknownType name) = 1
refusal_status TooLarge = 1
refusal_status (Frame index byte path cause) = 1
refusal_status (FrameJson index path cause) = 1
refusal_status (Frames lines refused count) = 1
refusal_status (Source file byte cause) = 1
refusal_status (Json path cause) = 1
refusal_status (JsonText byte cause) = 1
refusal_status Breaks = 1
refusal_status (Device path) = 3
refusal_status (File path) = 3
refusal_status Memory = 3

-- the refusal names a device that failed, or a file that is not there
abbrev pub names_device : Refusal → Bool
names_device (Fault byte path cause) = false
names_device (Set byte path cause) = false
names_device (SetFile file cause) = false
names_device (Link file full_name cause) = false
names_device (UnknownType name) = false
names_device TooLarge = false
names_device (Frame index byte path cause) = false
names_device (FrameJson index path cause) = false
names_device (Frames lines refused count) = false
names_device (Source file byte cause) = false
names_device (Json path cause) = false
names_device (JsonText byte cause) = false
names_device Breaks = false
names_device (Device path) = true
names_device (File path) = true
names_device Memory = false

-- a call whose answer names no device leaves the count of failures as it was
abbrev pub KeepsFailures : {F A : Type 0} → (F → ℕ) → F → F → Result A Refusal → Type 0
KeepsFailures failures old new r = MatchResult r (λ _. failures new ≡ failures old) (λ e. names_device e ≡ false → failures new ≡ failures old)

-- what a refusal is: an input is refused with this line, a device of this path failed, or memory ran out
abbrev pub ByRefusal : (List ℕ → Type 0) → (List ℕ → Type 0) → Type 0 → Refusal → Type 0
ByRefusal Input Failed OutOfMemory (Fault byte path cause) = Input (fault_line (fault byte path.items cause))
ByRefusal Input Failed OutOfMemory (Set byte path cause) = Input (set_fault_line (fault byte path.items cause))
ByRefusal Input Failed OutOfMemory (SetFile file cause) = Input (set_cause_line file cause)
ByRefusal Input Failed OutOfMemory (Link file full_name cause) = Input (link_line (string_bytes file) (string_bytes full_name) cause)
ByRefusal Input Failed OutOfMemory (UnknownType name) = Input (type_line name.now)
ByRefusal Input Failed OutOfMemory TooLarge = Input too_large_line
ByRefusal Input Failed OutOfMemory (Frame index byte path cause) = Input (frame_fault_line index (fault byte path.items cause))
ByRefusal Input Failed OutOfMemory (FrameJson index path cause) = Input (frame_json_line index path.items cause)
ByRefusal Input Failed OutOfMemory (Frames lines refused count) = Input (lines.items ++ frames_line refused count)
ByRefusal Input Failed OutOfMemory (Source file byte cause) = Input (source_line (string_bytes file) byte cause)
ByRefusal Input Failed OutOfMemory (Json path cause) = Input (json_line path.items cause)
ByRefusal Input Failed OutOfMemory (JsonText byte cause) = Input (json_text_line byte cause.now)
ByRefusal Input Failed OutOfMemory Breaks = Input []
ByRefusal Input Failed OutOfMemory (Device path) = Failed path.now
ByRefusal Input Failed OutOfMemory (File path) = Failed (string_bytes path)
ByRefusal Input Failed OutOfMemory Memory = OutOfMemory

-- before anything is printed: the answer of a refusal, unless memory ran out
abbrev pub Refuses : (Answer → Type 0) → Refusal → Type 0
Refuses IsRight e = ByRefusal (λ line. IsRight (refused line)) (λ path. IsRight (device_failed path)) (Unit {0}) e

-- a reader's error is reported as it is
abbrev pub IsTold : RawError → Refusal → Type 0
IsTold (raw.Fault byte path cause) e = e ≡ Fault byte path cause
IsTold raw.Memory e = e ≡ Memory

-- why a set is not read, and why it doesn't link
abbrev pub IsToldOfSet : DescrError → Refusal → Type 0
IsToldOfSet (descr.Fault byte path cause) e = e ≡ Set byte path cause
IsToldOfSet (descr.Decl file cause) e = e ≡ SetFile file cause
IsToldOfSet descr.Memory e = e ≡ Memory

abbrev pub IsToldOfLink : LinkError → Refusal → Type 0
IsToldOfLink (link.Fault file full_name cause) e = e ≡ Link file full_name cause
IsToldOfLink link.Memory e = e ≡ Memory
