-- What a JSON value is read as, member by member, or the first fault in it (ProtoJSON format).
use Rattle.std.specs.Prelude.{◌≡◌, ℕ, List, false, Option, Ok}
use Rattle.pb_schema.specs.declared.types.Kind.{Kind}
use Rattle.pb_schema.specs.declared.types.Shape.{Shape}
use Rattle.pb_schema.specs.Types.{FieldView, Types}
use Rattle.pb_schema.specs.Scalar.{Scalar}
use Rattle.pb_value.specs.Data.{Datum, Datums, no_datums, Entries, Holding, Message}
use Rattle.pb_json.specs.Given.{NamesGiven}
use Rattle.pb_json.specs.WellKnown.{well_known}
use Rattle.pb_json_text.specs.Json.{Json, null, boolean, number, string, array, object, Elements, no_elements, element, Members, no_members, member}
use Rattle.pb_json_text.specs.View.{Named}
use Rattle.pb_json_read.specs.declared.rules.JsonRules.{JsonRules}
use Rattle.pb_json_read.specs.Names.{field_meant}
use Rattle.pb_json_read.specs.Anys.{is_tag, ReadsAny, ReadsEncoded, ReadsInAny}
use Rattle.pb_json_read.specs.Steps.{Read, Then, Made, NoValue, Parts, nothing, with_datum, Unless, Entered, none_entered, Mapped}
use Rattle.pb_json_read.specs.Steps.{ReadsSingle, ReadsShape, ReadsHeld, ReadsField, ReadsUnder, ReadsEntry}
use Rattle.pb_json_read.specs.Forms.{ReadsForm, ReadsFlat, ReadsSole, ReadsNested, ReadsDeep, ReadsDynamic}

-- an object, an array and another value as a message of a type, by how their parts are read
abbrev pub OfObject : Types → JsonRules → NamesGiven → ℕ → Members → ((List ℕ → Option FieldView) → Read Parts → Type 0)
    → ((List ℕ → Option FieldView) → Read Parts → Type 0) → (Kind → Kind → Read Entries → Type 0) → ℕ → Read Message → Type 0
OfObject pool rules names at ms Fields Beside Mapped m o =
    ReadsForm pool rules at (object ms) Mapped (λ e r. NoValue at r) (well_known pool m) (λ r. Made (Fields (field_meant names pool m)) (λ p. p.message) r)
    (λ r. ReadsAny pool names at Beside m ms r) m o

abbrev pub OfArray : Types → JsonRules → ℕ → Elements → (Kind → Read Datums → Type 0) → ℕ → Read Message → Type 0
OfArray pool rules at js Listed m o =
    ReadsForm pool rules at (array js) (λ key e r. NoValue at r) Listed (well_known pool m) (λ r. NoValue at r) (λ r. NoValue at r) m o

abbrev pub OfLeaf : Types → JsonRules → ℕ → Json → ℕ → Read Message → Type 0
OfLeaf pool rules at j m o =
    ReadsForm pool rules at j (λ key e r. NoValue at r) (λ e r. NoValue at r) (well_known pool m) (λ r. NoValue at r) (λ r. NoValue at r) m o

-- VALUES

module _ (pool : Types) (rules : JsonRules) (names : NamesGiven) where
  abbrev mutual
    -- the members of an object, after those before, by which fields their names mean
    pub ReadsMembers : (List ℕ → Option FieldView) → Parts → Members → Read Parts → Type 0
    ReadsMembers meant p no_members o = o ≡ Ok p
    ReadsMembers meant p (member at name value_at j ms) o =
        Then (ReadsField pool rules (meant name) at j (λ s k r. ReadsContent s k value_at j r) p) (λ q r. ReadsMembers meant q ms r) o

    -- the members beside `@type`, in the same way
    pub ReadsBeside : (List ℕ → Option FieldView) → Parts → Members → Read Parts → Type 0
    ReadsBeside meant p no_members o = o ≡ Ok p
    ReadsBeside meant p (member at name value_at j ms) o =
        Then (Unless (is_tag name) p (λ r. ReadsField pool rules (meant name) at j (λ s k q. ReadsContent s k value_at j q) p r))
        (λ q r. ReadsBeside meant q ms r) o

    -- the entries of a map, after those before
    pub ReadsEntries : Kind → Kind → Entered → Members → Read Entered → Type 0
    ReadsEntries key k s no_members o = o ≡ Ok s
    ReadsEntries key k s (member at name value_at j ms) o =
        Then (ReadsEntry key name at (λ r. ReadsValue k value_at j r) s) (λ t r. ReadsEntries key k t ms r) o

    -- the elements of a list
    pub ReadsElements : Kind → Datums → Elements → Read Datums → Type 0
    ReadsElements k ds no_elements o = o ≡ Ok ds
    ReadsElements k ds (element at j js) o = Then (λ r. ReadsValue k at j r) (λ d r. ReadsElements k (with_datum ds d) js r) o

    -- a value of a kind
    pub ReadsValue : Kind → ℕ → Json → Read (Option Datum) → Type 0
    ReadsValue k at (object ms) o =
        ReadsSingle pool rules k at (object ms)
        (OfObject pool rules names at ms (λ meant r. ReadsMembers meant nothing ms r) (λ meant r. ReadsBeside meant nothing ms r)
        (λ key e r. Mapped (λ q. ReadsEntries key e none_entered ms q) r)) o
    ReadsValue k at (array js) o = ReadsSingle pool rules k at (array js) (OfArray pool rules at js (λ e r. ReadsElements e no_datums js r)) o
    ReadsValue k at null o = ReadsSingle pool rules k at null (OfLeaf pool rules at null) o
    ReadsValue k at (boolean b) o = ReadsSingle pool rules k at (boolean b) (OfLeaf pool rules at (boolean b)) o
    ReadsValue k at (number s) o = ReadsSingle pool rules k at (number s) (OfLeaf pool rules at (number s)) o
    ReadsValue k at (string s) o = ReadsSingle pool rules k at (string s) (OfLeaf pool rules at (string s)) o

    -- what a field of a shape and a kind holds
    pub ReadsContent : Shape → Kind → ℕ → Json → Read (Option Holding) → Type 0
    ReadsContent s k at (object ms) o =
        ReadsShape s (ReadsSingle pool rules k at (object ms)
        (OfObject pool rules names at ms (λ meant r. ReadsMembers meant nothing ms r) (λ meant r. ReadsBeside meant nothing ms r)
        (λ key e r. Mapped (λ q. ReadsEntries key e none_entered ms q) r)))
        (NoValue at) (λ key r. Mapped (λ q. ReadsEntries key k none_entered ms q) r) o
    ReadsContent s k at (array js) o =
        ReadsShape s (ReadsSingle pool rules k at (array js) (OfArray pool rules at js (λ e r. ReadsElements e no_datums js r)))
        (λ r. ReadsElements k no_datums js r) (λ key r. NoValue at r) o
    ReadsContent s k at null o = ReadsShape s (ReadsSingle pool rules k at null (OfLeaf pool rules at null)) (NoValue at) (λ key r. NoValue at r) o
    ReadsContent s k at (boolean b) o =
        ReadsShape s (ReadsSingle pool rules k at (boolean b) (OfLeaf pool rules at (boolean b))) (NoValue at) (λ key r. NoValue at r) o
    ReadsContent s k at (number t) o =
        ReadsShape s (ReadsSingle pool rules k at (number t) (OfLeaf pool rules at (number t))) (NoValue at) (λ key r. NoValue at r) o
    ReadsContent s k at (string t) o =
        ReadsShape s (ReadsSingle pool rules k at (string t) (OfLeaf pool rules at (string t))) (NoValue at) (λ key r. NoValue at r) o

  -- the members of an object as a map
  abbrev pub ReadsMapped : Kind → Kind → Members → Read Entries → Type 0
  ReadsMapped key k ms o = Mapped (λ r. ReadsEntries key k none_entered ms r) o

  -- a list, a map
  abbrev pub ReadsList : Kind → ℕ → Json → Read Datums → Type 0
  ReadsList k at (array js) o = ReadsElements k no_datums js o
  ReadsList k at (object ms) o = NoValue at o
  ReadsList k at null o = NoValue at o
  ReadsList k at (boolean b) o = NoValue at o
  ReadsList k at (number s) o = NoValue at o
  ReadsList k at (string s) o = NoValue at o

  abbrev pub ReadsMap : Kind → Kind → ℕ → Json → Read Entries → Type 0
  ReadsMap key k at (object ms) o = ReadsMapped key k ms o
  ReadsMap key k at (array js) o = NoValue at o
  ReadsMap key k at null o = NoValue at o
  ReadsMap key k at (boolean b) o = NoValue at o
  ReadsMap key k at (number s) o = NoValue at o
  ReadsMap key k at (string s) o = NoValue at o

  -- a message of a type that has no form of its own
  abbrev pub ReadsObject : ℕ → ℕ → Json → Read Message → Type 0
  ReadsObject m at (object ms) o = Made (ReadsMembers (field_meant names pool m) nothing ms) (λ p. p.message) o
  ReadsObject m at null o = NoValue at o
  ReadsObject m at (boolean b) o = NoValue at o
  ReadsObject m at (number s) o = NoValue at o
  ReadsObject m at (string s) o = NoValue at o
  ReadsObject m at (array js) o = NoValue at o

  -- what these members of an object, which begins at the byte, are as the message in an Any of a type, as its bytes, and as an Any
  abbrev pub InAnyOf : ℕ → Members → ℕ → Read Message → Type 0
  InAnyOf at ms = ReadsInAny pool names at (λ meant r. ReadsBeside meant nothing ms r)

  abbrev pub BytesOf : ℕ → Members → ℕ → Read (List ℕ) → Type 0
  BytesOf at ms = ReadsEncoded pool names at (λ meant r. ReadsBeside meant nothing ms r)

  abbrev pub AnyOf : ℕ → Members → ℕ → Read Message → Type 0
  AnyOf at ms m o = ReadsAny pool names at (λ meant r. ReadsBeside meant nothing ms r) m ms o

  -- a message of type `google.protobuf.Any`
  abbrev pub ReadsAnyObject : ℕ → ℕ → Json → Read Message → Type 0
  ReadsAnyObject m at (object ms) o = AnyOf at ms m o
  ReadsAnyObject m at null o = NoValue at o
  ReadsAnyObject m at (boolean b) o = NoValue at o
  ReadsAnyObject m at (number s) o = NoValue at o
  ReadsAnyObject m at (string s) o = NoValue at o
  ReadsAnyObject m at (array js) o = NoValue at o

  -- what the parts of a form are at a value
  abbrev pub FlatOf : ℕ → Json → Shape → Kind → Read (Option Holding) → Type 0
  FlatOf at j = ReadsFlat pool rules at j (λ key e r. ReadsMap key e at j r) (λ e r. ReadsList e at j r)

  abbrev pub SoleOf : ℕ → Json → ℕ → Read Message → Type 0
  SoleOf at j = ReadsSole pool rules at j (λ key e r. ReadsMap key e at j r) (λ e r. ReadsList e at j r)

  abbrev pub NestedOf : ℕ → Json → ℕ → Read Message → Type 0
  NestedOf at j = ReadsNested pool rules at j (λ key e r. ReadsMap key e at j r) (λ e r. ReadsList e at j r)

  abbrev pub DeepOf : ℕ → Json → Shape → Kind → Read (Option Holding) → Type 0
  DeepOf at j = ReadsDeep pool rules at j (λ key e r. ReadsMap key e at j r) (λ e r. ReadsList e at j r)

  abbrev pub DynamicOf : ℕ → Json → ℕ → Read Message → Type 0
  DynamicOf at j = ReadsDynamic pool rules at j (λ key e r. ReadsMap key e at j r) (λ e r. ReadsList e at j r)

  -- a message of a type
  abbrev pub ReadsMessage : ℕ → ℕ → Json → Read Message → Type 0
  ReadsMessage m at j o =
      ReadsForm pool rules at j (λ key e r. ReadsMap key e at j r) (λ e r. ReadsList e at j r) (well_known pool m) (λ r. ReadsObject m at j r)
      (λ r. ReadsAnyObject m at j r) m o

  -- one member of each: where its name begins, the name, and its value
  abbrev pub ReadsMember : Option FieldView → Named → Parts → Read Parts → Type 0
  ReadsMember f m p o = ReadsField pool rules f m.0 m.2.1 (λ s k r. ReadsContent s k m.2.0 m.2.1 r) p o

  -- the same beside `@type`
  abbrev pub ReadsMemberBeside : (List ℕ → Option FieldView) → Named → Parts → Read Parts → Type 0
  ReadsMemberBeside meant m p o = Unless (is_tag m.1) p (λ r. ReadsMember (meant m.1) m p r) o

  abbrev pub ReadsMemberHeld : FieldView → Named → Parts → Read Parts → Type 0
  ReadsMemberHeld f m p o = ReadsHeld f m.0 (λ s k r. ReadsContent s k m.2.0 m.2.1 r) false p o

  abbrev pub ReadsMemberEntry : Kind → Kind → Named → Entered → Read Entered → Type 0
  ReadsMemberEntry key k m s o = ReadsEntry key m.1 m.0 (λ r. ReadsValue k m.2.0 m.2.1 r) s o

  abbrev pub ReadsMemberUnder : Scalar → Kind → Named → Entered → Read Entered → Type 0
  ReadsMemberUnder x k m s o = ReadsUnder x m.0 (λ r. ReadsValue k m.2.0 m.2.1 r) s o
