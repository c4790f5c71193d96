-- How a proof distinguishes two messages: each is written as a tree of numbers, and read back from it. No contract promises anything
-- about these trees; they are in specs/ because a model of a type names them.
use Rattle.std.specs.Prelude.{◌≡◌, ℕ, ℤ, pos, negsuc, List, [], ◌∷◌, Bool, true, false, refl, if◌then◌else◌, ◌==◌}
use Rattle.std.proofs.Common.{sym, ap, ◌∙◌}
use base.Stored.{Gv, gnil, gnum, gcons, Coded}
use Rattle.pb_wire.specs.Record.{Payload, varint, fixed64, len, group, fixed32, Group, no_more, more, Record}
use Rattle.pb_schema.specs.Scalar.{Scalar, int32, int64, uint32, uint64, boolean, float, double, enum, text, bytes}
use Rattle.pb_value.specs.Data.{Datum, scalar, message, Datums, no_datums, datum, Entries, no_entries, entry}
use Rattle.pb_value.specs.Data.{Holding, one, list, map, Fields, no_fields, field, Message, body}

-- whole numbers, truth values and lists of numbers
abbrev pub to_int : ℤ → Gv
to_int (pos n) = gcons gnil (gnum n)
to_int (negsuc n) = gnum n

abbrev pub from_int : Gv → ℤ
from_int (gcons _ (gnum n)) = pos n
from_int (gnum n) = negsuc n
from_int _ = pos 0

pub from_int-to_int : (z : ℤ) → from_int (to_int z) ≡ z
from_int-to_int (pos n) = refl
from_int-to_int (negsuc n) = refl

abbrev pub to_bool : Bool → Gv
to_bool true = gnum 1
to_bool false = gnil

abbrev pub from_bool : Gv → Bool
from_bool (gnum _) = true
from_bool _ = false

pub from_bool-to_bool : (b : Bool) → from_bool (to_bool b) ≡ b
from_bool-to_bool true = refl
from_bool-to_bool false = refl

abbrev pub from_num : Gv → ℕ
from_num (gnum n) = n
from_num _ = 0

abbrev pub to_list : List ℕ → Gv
to_list [] = gnil
to_list (x ∷ xs) = gcons (gnum x) (to_list xs)

abbrev pub from_list : Gv → List ℕ
from_list (gcons x xs) = from_num x ∷ from_list xs
from_list _ = []

pub from_list-to_list : (xs : List ℕ) → from_list (to_list xs) ≡ xs
from_list-to_list [] = refl
from_list-to_list (x ∷ xs) = ap (λ ys. x ∷ ys) (from_list-to_list xs)

abbrev mutual
  pub to_payload : Payload → Gv
  to_payload (varint x0) = gcons (gnum 0) (gcons (gnum x0) gnil)
  to_payload (fixed64 x0) = gcons (gnum 1) (gcons (gnum x0) gnil)
  to_payload (len x0) = gcons (gnum 2) (gcons (to_list x0) gnil)
  to_payload (group x0) = gcons (gnum 3) (gcons (to_group x0) gnil)
  to_payload (fixed32 x0) = gcons (gnum 4) (gcons (gnum x0) gnil)

  pub to_group : Group → Gv
  to_group no_more = gcons (gnum 0) gnil
  to_group (more x0 x1 x2) = gcons (gnum 1) (gcons (gnum x0) (gcons (to_payload x1) (gcons (to_group x2) gnil)))

abbrev mutual
  pub from_payload : Gv → Payload
  from_payload (gcons t (gcons x0 _)) =
      if from_num t == 0 then varint (from_num x0)
      else if from_num t == 1 then fixed64 (from_num x0)
      else if from_num t == 2 then len (from_list x0)
      else if from_num t == 3 then group (from_group x0)
      else fixed32 (from_num x0)
  from_payload _ = varint 0

  pub from_group : Gv → Group
  from_group (gcons t (gcons x0 (gcons x1 (gcons x2 _)))) = more (from_num x0) (from_payload x1) (from_group x2)
  from_group _ = no_more

mutual
  pub from_payload-to_payload : (x : Payload) → from_payload (to_payload x) ≡ x
  from_payload-to_payload (varint x0) = refl
  from_payload-to_payload (fixed64 x0) = refl
  from_payload-to_payload (len x0) = λ i. len (from_list-to_list x0 i)
  from_payload-to_payload (group x0) = λ i. group (from_group-to_group x0 i)
  from_payload-to_payload (fixed32 x0) = refl

  pub from_group-to_group : (x : Group) → from_group (to_group x) ≡ x
  from_group-to_group no_more = refl
  from_group-to_group (more x0 x1 x2) = λ i. more x0 (from_payload-to_payload x1 i) (from_group-to_group x2 i)

abbrev pub to_records : List Record → Gv
to_records [] = gnil
to_records (r ∷ rs) = gcons (gcons (gnum r.number) (to_payload r.payload)) (to_records rs)

abbrev pub from_records : Gv → List Record
from_records (gcons (gcons n p) rs) = record { number = from_num n; payload = from_payload p } ∷ from_records rs
from_records _ = []

pub from_records-to_records : (rs : List Record) → from_records (to_records rs) ≡ rs
from_records-to_records [] = refl
from_records-to_records (r ∷ rs) = λ i. record { number = r.number; payload = from_payload-to_payload r.payload i } ∷ from_records-to_records rs i

abbrev pub to_scalar : Scalar → Gv
to_scalar (int32 x0) = gcons (gnum 0) (gcons (to_int x0) gnil)
to_scalar (int64 x0) = gcons (gnum 1) (gcons (to_int x0) gnil)
to_scalar (uint32 x0) = gcons (gnum 2) (gcons (gnum x0) gnil)
to_scalar (uint64 x0) = gcons (gnum 3) (gcons (gnum x0) gnil)
to_scalar (boolean x0) = gcons (gnum 4) (gcons (to_bool x0) gnil)
to_scalar (float x0) = gcons (gnum 5) (gcons (gnum x0) gnil)
to_scalar (double x0) = gcons (gnum 6) (gcons (gnum x0) gnil)
to_scalar (enum x0) = gcons (gnum 7) (gcons (to_int x0) gnil)
to_scalar (text x0) = gcons (gnum 8) (gcons (to_list x0) gnil)
to_scalar (bytes x0) = gcons (gnum 9) (gcons (to_list x0) gnil)

abbrev pub from_scalar : Gv → Scalar
from_scalar (gcons t (gcons x0 _)) =
    if from_num t == 0 then int32 (from_int x0)
    else if from_num t == 1 then int64 (from_int x0)
    else if from_num t == 2 then uint32 (from_num x0)
    else if from_num t == 3 then uint64 (from_num x0)
    else if from_num t == 4 then boolean (from_bool x0)
    else if from_num t == 5 then float (from_num x0)
    else if from_num t == 6 then double (from_num x0)
    else if from_num t == 7 then enum (from_int x0)
    else if from_num t == 8 then text (from_list x0)
    else bytes (from_list x0)
from_scalar _ = int32 (pos 0)

pub from_scalar-to_scalar : (x : Scalar) → from_scalar (to_scalar x) ≡ x
from_scalar-to_scalar (int32 x0) = λ i. int32 (from_int-to_int x0 i)
from_scalar-to_scalar (int64 x0) = λ i. int64 (from_int-to_int x0 i)
from_scalar-to_scalar (uint32 x0) = refl
from_scalar-to_scalar (uint64 x0) = refl
from_scalar-to_scalar (boolean x0) = λ i. boolean (from_bool-to_bool x0 i)
from_scalar-to_scalar (float x0) = refl
from_scalar-to_scalar (double x0) = refl
from_scalar-to_scalar (enum x0) = λ i. enum (from_int-to_int x0 i)
from_scalar-to_scalar (text x0) = λ i. text (from_list-to_list x0 i)
from_scalar-to_scalar (bytes x0) = λ i. bytes (from_list-to_list x0 i)

abbrev mutual
  pub to_datum : Datum → Gv
  to_datum (scalar x0) = gcons (gnum 0) (gcons (to_scalar x0) gnil)
  to_datum (message x0) = gcons (gnum 1) (gcons (to_message x0) gnil)

  pub to_datums : Datums → Gv
  to_datums no_datums = gcons (gnum 0) gnil
  to_datums (datum x0 x1) = gcons (gnum 1) (gcons (to_datum x0) (gcons (to_datums x1) gnil))

  pub to_entries : Entries → Gv
  to_entries no_entries = gcons (gnum 0) gnil
  to_entries (entry x0 x1 x2) = gcons (gnum 1) (gcons (to_scalar x0) (gcons (to_datum x1) (gcons (to_entries x2) gnil)))

  pub to_holding : Holding → Gv
  to_holding (one x0) = gcons (gnum 0) (gcons (to_datum x0) gnil)
  to_holding (list x0) = gcons (gnum 1) (gcons (to_datums x0) gnil)
  to_holding (map x0) = gcons (gnum 2) (gcons (to_entries x0) gnil)

  pub to_fields : Fields → Gv
  to_fields no_fields = gcons (gnum 0) gnil
  to_fields (field x0 x1 x2) = gcons (gnum 1) (gcons (gnum x0) (gcons (to_holding x1) (gcons (to_fields x2) gnil)))

  pub to_message : Message → Gv
  to_message (body x0 x1) = gcons (gnum 0) (gcons (to_fields x0) (gcons (to_records x1) gnil))

abbrev mutual
  pub from_datum : Gv → Datum
  from_datum (gcons t (gcons x0 _)) = if from_num t == 0 then scalar (from_scalar x0) else (message (from_message x0))
  from_datum _ = scalar (int32 (pos 0))

  pub from_datums : Gv → Datums
  from_datums (gcons t (gcons x0 (gcons x1 _))) = datum (from_datum x0) (from_datums x1)
  from_datums _ = no_datums

  pub from_entries : Gv → Entries
  from_entries (gcons t (gcons x0 (gcons x1 (gcons x2 _)))) = entry (from_scalar x0) (from_datum x1) (from_entries x2)
  from_entries _ = no_entries

  pub from_holding : Gv → Holding
  from_holding (gcons t (gcons x0 _)) =
      if from_num t == 0 then one (from_datum x0)
      else if from_num t == 1 then list (from_datums x0)
      else map (from_entries x0)
  from_holding _ = list no_datums

  pub from_fields : Gv → Fields
  from_fields (gcons t (gcons x0 (gcons x1 (gcons x2 _)))) = field (from_num x0) (from_holding x1) (from_fields x2)
  from_fields _ = no_fields

  pub from_message : Gv → Message
  from_message (gcons t (gcons x0 (gcons x1 _))) = body (from_fields x0) (from_records x1)
  from_message _ = body no_fields []

mutual
  pub from_datum-to_datum : (x : Datum) → from_datum (to_datum x) ≡ x
  from_datum-to_datum (scalar x0) = λ i. scalar (from_scalar-to_scalar x0 i)
  from_datum-to_datum (message x0) = λ i. message (from_message-to_message x0 i)

  pub from_datums-to_datums : (x : Datums) → from_datums (to_datums x) ≡ x
  from_datums-to_datums no_datums = refl
  from_datums-to_datums (datum x0 x1) = λ i. datum (from_datum-to_datum x0 i) (from_datums-to_datums x1 i)

  pub from_entries-to_entries : (x : Entries) → from_entries (to_entries x) ≡ x
  from_entries-to_entries no_entries = refl
  from_entries-to_entries (entry x0 x1 x2) = λ i. entry (from_scalar-to_scalar x0 i) (from_datum-to_datum x1 i) (from_entries-to_entries x2 i)

  pub from_holding-to_holding : (x : Holding) → from_holding (to_holding x) ≡ x
  from_holding-to_holding (one x0) = λ i. one (from_datum-to_datum x0 i)
  from_holding-to_holding (list x0) = λ i. list (from_datums-to_datums x0 i)
  from_holding-to_holding (map x0) = λ i. map (from_entries-to_entries x0 i)

  pub from_fields-to_fields : (x : Fields) → from_fields (to_fields x) ≡ x
  from_fields-to_fields no_fields = refl
  from_fields-to_fields (field x0 x1 x2) = λ i. field x0 (from_holding-to_holding x1 i) (from_fields-to_fields x2 i)

  pub from_message-to_message : (x : Message) → from_message (to_message x) ≡ x
  from_message-to_message (body x0 x1) = λ i. body (from_fields-to_fields x0 i) (from_records-to_records x1 i)

-- a message's code
abbrev pub message_code : Coded Message
message_code = record { code = to_message; inj = λ x y e. sym (from_message-to_message x) ∙ ap from_message e ∙ from_message-to_message y }
