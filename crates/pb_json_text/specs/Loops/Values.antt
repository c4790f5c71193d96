-- What the readers of values say of the machine.
use Rattle.std.specs.Prelude.{◌≡◌, ◌≤◌, ◌<◌, ℕ, suc, List, drop, length, string_bytes}
use Rattle.pb_json_text.specs.Json.{Members, array, object}
use Rattle.pb_json_text.specs.View.{form_view, elements_view, members_view}
use Rattle.pb_json_text.specs.Loops.Machine.{Stack, in_object, in_brackets, in_braces, after_value, run}
use Rattle.pb_json_text.specs.Loops.States.{IsStop, run_begin, run_name}
use Rattle.pb_json_text.specs.declared.fault.JsonFault.{JsonFault}
use Rattle.pb_json_text.specs.declared.value.JsonForm.{JsonForm}
use Rattle.pb_json_text.specs.declared.value.JsonValue.{JsonValue}
use Rattle.pb_json_text.specs.declared.value.JsonMember.{JsonMember}

-- a value at a place of the bytes b, up to another place
abbrev pub IsRead : ℕ → ℕ → List ℕ → JsonForm → ℕ → Type 0
IsRead l at b form end = (at < end) × (end ≤ length b) × ((k : Stack) → run_begin l k at (drop at b) ≡ run (after_value l at (form_view form) k) end (drop end b))

abbrev pub IsNoValue : ℕ → ℕ → List ℕ → JsonFault → Type 0
IsNoValue l at b e = (k : Stack) → IsStop e (run_begin l k at (drop at b))

-- elements from after the opening bracket to after the closing one
abbrev pub AreRead : ℕ → ℕ → List ℕ → List JsonValue → ℕ → Type 0
AreRead l from b items end =
    (from < end) × (end ≤ length b) × ((a : ℕ) (k : Stack) → run (in_brackets l a k) from (drop from b) ≡ run (after_value (suc l) a (array (elements_view items)) k) end (drop end b))

abbrev pub AreNoElements : ℕ → ℕ → List ℕ → JsonFault → Type 0
AreNoElements l from b e = (a : ℕ) (k : Stack) → IsStop e (run (in_brackets l a k) from (drop from b))

abbrev pub AreMembersRead : ℕ → ℕ → List ℕ → List JsonMember → ℕ → Type 0
AreMembersRead l from b items end =
    (from < end) × (end ≤ length b) × ((a : ℕ) (k : Stack) → run (in_braces l a k) from (drop from b) ≡ run (after_value (suc l) a (object (members_view items)) k) end (drop end b))

abbrev pub AreNoMembers : ℕ → ℕ → List ℕ → JsonFault → Type 0
AreNoMembers l from b e = (a : ℕ) (k : Stack) → IsStop e (run (in_braces l a k) from (drop from b))

abbrev pub IsMemberRead : ℕ → ℕ → List ℕ → JsonMember → ℕ → Type 0
IsMemberRead l at b m end =
    (at < end) × (end ≤ length b) × (m.at ≡ at) × ((a : ℕ) (ms : Members) (k : Stack) → run_name l a ms k at (drop at b)
    ≡ run (after_value l m.value.at (form_view m.value.form) (in_object ms a at (string_bytes m.name) k)) end (drop end b))

abbrev pub IsNoMember : ℕ → ℕ → List ℕ → JsonFault → Type 0
IsNoMember l at b e = (a : ℕ) (ms : Members) (k : Stack) → IsStop e (run_name l a ms k at (drop at b))
