-- Rows of types with what they stand for.
use Rattle.std.proofs.Common.{◌≡◌, [], ◌∷◌, refl}
use Rattle.std.specs.Prelude.{pos, negsuc, true, codes, Some, None}
use denote.Ref.{Bor}
use Rattle.pb_schema.specs.Types.{Types}
use Rattle.pb_schema.specs.declared.types.Kind.TheVariants as kind
use Rattle.pb_schema.specs.declared.types.Shape.TheVariants as shape
use Rattle.pb_schema.specs.declared.types.MessageId.{MessageId}
use Rattle.pb_test_types.specs.Types.{MessageRow, EnumRow, FileRow, types_in}

abbrev at : {X : Type 0} → X → Bor X
at x = record { ref_ptr = (0, 0); now = x }

abbrev inner : MessageId
inner = record { 0 = 2 }

abbrev message_row : MessageRow
message_row = (at (codes "T"), 1, Some inner, at ((at (codes "a"), 1, kind.Int32, shape.Implicit) ∷ (at (codes "b"), 7, kind.Message inner, shape.OneofMember 0) ∷ []), at (at (codes "o") ∷ at (codes "p") ∷ []))

abbrev enum_row : EnumRow
enum_row = (at (codes "E"), 3, at ((at (codes "Z"), pos 0) ∷ (at (codes "N"), negsuc 0) ∷ []))

abbrev file_row : FileRow
file_row = (at (codes "t.proto"), at (codes "a.b"), true)

abbrev wanted : Types
wanted = record {
  files = record { name = codes "t.proto"; package_name = codes "a.b"; imports = []; proto2 = true } ∷ [];
  messages =
      record {
        name = codes "T";
        file = 1;
        parent = Some 2;
        fields =
            record { name = codes "a"; number = 1; kind = kind.Int32; shape = shape.Implicit }
            ∷ record { name = codes "b"; number = 7; kind = kind.Message inner; shape = shape.OneofMember 0 } ∷ [];
        oneofs = codes "o" ∷ codes "p" ∷ [];
      } ∷ [];
  enums = record { name = codes "E"; file = 3; parent = None; values = (codes "Z", pos 0) ∷ (codes "N", negsuc 0) ∷ [] } ∷ [];
}

one_of_each : types_in (file_row ∷ []) (message_row ∷ []) (enum_row ∷ []) ≡ wanted
one_of_each = refl

none_of_any : types_in [] [] [] ≡ record { files = []; messages = []; enums = [] }
none_of_any = refl
