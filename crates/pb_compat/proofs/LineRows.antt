-- Worked lines of differences.
use Rattle.std.proofs.Common.{◌≡◌, ℕ, pos, List, [], ◌∷◌, true, false, None, refl}
use Rattle.std.specs.Fmt.{digits}
use Rattle.std.specs.Prelude.{codes, ◌++◌, flat_map}
use Rattle.pb_schema.specs.declared.types.Kind.{Kind}
use Rattle.pb_schema.specs.declared.types.Kind.TheVariants as kind
use Rattle.pb_schema.specs.declared.types.Shape.{Shape}
use Rattle.pb_schema.specs.declared.types.Shape.TheVariants as shape
use Rattle.pb_schema.specs.Types.{FieldView, MessageView, Types}
use Rattle.pb_compat.specs.declared.difference.Severity.{Severity}
use Rattle.pb_compat.specs.declared.difference.Severity.TheVariants.{BreaksReading, Loses, ChangesPresence, Converts, Renames}
use Rattle.pb_compat.specs.Lines.{difference_text, kind_text, type_text}

abbrev a_field : List ℕ → ℕ → Kind → Shape → FieldView
a_field name n k s = record { name = name; number = n; kind = k; shape = s }

abbrev a_message : List ℕ → List FieldView → MessageView
a_message name fs = record { name = name; file = 0; parent = None; fields = fs; oneofs = codes "choice" ∷ [] }

abbrev pool_of : List FieldView → Types
pool_of fs = record {
  files = record { name = []; package_name = codes "shop"; imports = []; proto2 = true } ∷ [];
  messages = a_message (codes "Order") fs ∷ a_message (codes "Item") [] ∷ [];
  enums = record { name = codes "Size"; file = 0; parent = None; values = (codes "S", pos 0) ∷ [] } ∷ [];
}

-- int64 price = 4; string note = 5; int32 count = 6; string label = 7; Size size = 8; map<int32, Item> items = 9; group item = 10; of choice int32 way = 11
abbrev old : Types
old = pool_of
    (a_field (codes "price") 4 kind.Int64 shape.Implicit ∷ a_field (codes "note") 5 kind.Text shape.Implicit ∷ a_field (codes "count") 6 kind.Int32 shape.Implicit
    ∷ a_field (codes "label") 7 kind.Text shape.Implicit ∷ a_field (codes "size") 8 (kind.ClosedEnum (record { 0 = 0 })) shape.Explicit
    ∷ a_field (codes "items") 9 (kind.Message (record { 0 = 1 })) (shape.Map kind.Int32) ∷ a_field (codes "item") 10 (kind.Group (record { 0 = 1 })) shape.Explicit
    ∷ a_field (codes "way") 11 kind.Int32 (shape.OneofMember 0) ∷ [])

abbrev new : Types
new = pool_of
    (a_field (codes "price") 4 kind.Double shape.Implicit ∷ a_field (codes "count") 6 kind.Int64 shape.Explicit ∷ a_field (codes "title") 7 kind.Text shape.Implicit
    ∷ a_field (codes "size") 8 (kind.Enum (record { 0 = 0 })) (shape.List false) ∷ a_field (codes "items") 9 (kind.Message (record { 0 = 1 })) (shape.Map kind.Int64)
    ∷ a_field (codes "item") 10 (kind.Message (record { 0 = 1 })) shape.Explicit ∷ a_field (codes "way") 11 kind.Int32 shape.Explicit ∷ [])

abbrev line : ℕ → Severity → List ℕ
line n s = difference_text old new 0 0 (record { number = n; severity = s })

price : line 4 BreaksReading ≡ codes "shop.Order.price 4 breaks double was int64"
unfolding digits
price = refl

note : line 5 Loses ≡ codes "shop.Order.note 5 loses string"
unfolding digits
note = refl

count : line 6 ChangesPresence ≡ codes "shop.Order.count 6 presence optional int64 was int32"
unfolding digits
count = refl

label : line 7 Renames ≡ codes "shop.Order.label 7 renames title was label"
unfolding digits
label = refl

size : line 8 Converts ≡ codes "shop.Order.size 8 converts repeated shop.Size was optional closed shop.Size"
unfolding digits
size = refl

items : line 9 Converts ≡ codes "shop.Order.items 9 converts map<int64, shop.Item> was map<int32, shop.Item>"
unfolding digits
items = refl

item : line 10 BreaksReading ≡ codes "shop.Order.item 10 breaks shop.Item was group shop.Item"
unfolding digits
item = refl

way : line 11 Converts ≡ codes "shop.Order.way 11 converts optional int32 was oneof choice int32"
unfolding digits
way = refl

-- the names of kinds in sources
abbrev kinds : List Kind
kinds =
    kind.Double ∷ kind.Float ∷ kind.Int64 ∷ kind.Uint64 ∷ kind.Int32 ∷ kind.Fixed64 ∷ kind.Fixed32 ∷ kind.Bool ∷ kind.Text ∷ kind.Bytes ∷ kind.Uint32 ∷ kind.Sfixed32 ∷ kind.Sfixed64
    ∷ kind.Sint32 ∷ kind.Sint64 ∷ []

names : flat_map (λ k. kind_text old k ++ codes " ") kinds ≡ codes "double float int64 uint64 int32 fixed64 fixed32 bool string bytes uint32 sfixed32 sfixed64 sint32 sint64 "
names = refl

-- a message has presence without the word
message_field : type_text old 0 shape.Explicit (kind.Message (record { 0 = 1 })) ≡ codes "shop.Item"
message_field = refl

optional_bytes : type_text old 0 shape.Explicit kind.Bytes ≡ codes "optional bytes"
optional_bytes = refl

open_enum : type_text old 0 (shape.List true) (kind.Enum (record { 0 = 0 })) ≡ codes "repeated shop.Size"
open_enum = refl

-- no such field
nothing : line 3 Loses ≡ []
nothing = refl
