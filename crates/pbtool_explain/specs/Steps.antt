-- The records that lead to where bytes are refused, a line each.
use Rattle.std.specs.Prelude.{◌≡◌, ℕ, List, [], ◌∷◌, ◌++◌, ◌==◌, if◌then◌else◌, Option, None, Some, codes, decimal}
use Rattle.std.specs.Option.{option_map_or}
use Rattle.pb_wire.specs.declared.fault.PathStep.{PathStep}
use Rattle.pb_wire.specs.PathText.{step_text}
use Rattle.pb_schema.specs.declared.types.Kind.{Kind}
use Rattle.pb_schema.specs.declared.types.Kind.TheVariants as kind
use Rattle.pb_schema.specs.declared.types.Shape.{Shape}
use Rattle.pb_schema.specs.declared.types.Shape.TheVariants as shape
use Rattle.pb_schema.specs.Types.{FieldView, Types, field_numbered, message_fields}
use Rattle.pb_listing.specs.TypesListing.{kind_text}
use Rattle.pbtool_explain.specs.Records.{IsFoundIn, payload_in, span_in}
use Rattle.pbtool_explain.specs.declared.find.Found.{Found}
use Rattle.pbtool_explain.specs.declared.steps.Given.{Given}
use Rattle.pbtool_explain.specs.declared.steps.Parent.{Parent}
use Rattle.pbtool_explain.specs.declared.steps.Parent.TheVariants.{Untyped, Message, Entry}
use Rattle.pbtool_explain.specs.declared.steps.Span.{Span}

-- the field of a number in a message type
abbrev pub field_of : Types → ℕ → ℕ → Option FieldView
field_of pool m n = field_numbered n (message_fields pool m)

-- what the records are in that a field holds: an entry, a message, or nothing that is known
abbrev pub inside_kind : Kind → Parent
inside_kind (kind.Message m) = Message m
inside_kind (kind.Group m) = Message m
inside_kind k = Untyped

abbrev pub inside_shape : Shape → Kind → Parent
inside_shape (shape.Map key) value = Entry key value
inside_shape s k = inside_kind k

abbrev pub inside_field : FieldView → Parent
inside_field f = inside_shape f.shape f.kind

-- of an entry, whose value has the number 2
abbrev pub inside_entry : Kind → ℕ → Parent
inside_entry value n = if n == 2 then inside_kind value else Untyped

abbrev pub parent_inside : Types → Parent → ℕ → Parent
parent_inside pool Untyped n = Untyped
parent_inside pool (Message m) n = option_map_or inside_field (field_of pool m.0 n) Untyped
parent_inside pool (Entry key value) n = inside_entry value n

-- the type of a field's values, or of a map
abbrev pub type_label : Types → Shape → Kind → List ℕ
type_label pool (shape.Map key) k = codes "map<" ++ kind_text pool key ++ codes ", " ++ kind_text pool k ++ codes ">"
type_label pool s k = kind_text pool k

-- the name and the type of a field
abbrev pub field_label : Types → Option FieldView → List ℕ
field_label pool None = codes " unknown"
field_label pool (Some f) = codes " " ++ f.name ++ codes ", " ++ type_label pool f.shape f.kind

abbrev pub entry_label : Types → Kind → Kind → ℕ → List ℕ
entry_label pool key value n =
    if n == 1 then codes " key, " ++ kind_text pool key else (if n == 2 then codes " value, " ++ kind_text pool value else codes " unknown")

abbrev pub label_of : Types → Parent → ℕ → List ℕ
label_of pool Untyped n = []
label_of pool (Message m) n = field_label pool (field_of pool m.0 n)
label_of pool (Entry key value) n = entry_label pool key value n

-- the bytes of a record: all of them, or where it begins; nothing where it was not found
abbrev pub start_text : ℕ → List ℕ
start_text first = codes ": from byte " ++ decimal first ++ codes " on\n"

abbrev pub bounds_text : ℕ → ℕ → List ℕ
bounds_text first last = codes ": bytes " ++ decimal first ++ codes " to " ++ decimal last ++ codes "\n"

abbrev pub span_of : ℕ → Option ℕ → List ℕ
span_of first None = start_text first
span_of first (Some last) = bounds_text first last

abbrev pub span_text : Option Span → List ℕ
span_text None = codes "\n"
span_text (Some s) = span_of s.first s.last

abbrev pub step_line : Types → Parent → PathStep → Option Span → List ℕ
step_line pool p s span = codes "  " ++ step_text s ++ label_of pool p s.number ++ span_text span

-- These lines are those of the steps, outermost first. The last step leads to what records are in there, and to where in the bytes they begin, if its
-- record was found.
pub data Leads (pool : Types) (start : Parent) (g : Given) : List PathStep → Parent → Option ℕ → List ℕ → Type 0 where
  nowhere :
      {path : List PathStep} {inside : Parent} {at : Option ℕ} {lines : List ℕ} → path ≡ [] → inside ≡ start → at ≡ Some g.start → lines ≡ []
      → Leads pool start g path inside at lines
  further :
      {path before : List PathStep} {parent inside : Parent} {from at : Option ℕ} {above lines : List ℕ} (s : PathStep) (found : Option Found)
      → Leads pool start g before parent from above → IsFoundIn g.bytes.now from s found → path ≡ before ++ s ∷ []
      → inside ≡ parent_inside pool parent s.number → at ≡ payload_in found → lines ≡ above ++ step_line pool parent s (span_in g.offset found)
      → Leads pool start g path inside at lines

abbrev pub AreStepLines : Types → Parent → Given → List PathStep → List ℕ → Type 0
AreStepLines pool start g path lines = (inside : Parent) × (at : Option ℕ) × Leads pool start g path inside at lines
