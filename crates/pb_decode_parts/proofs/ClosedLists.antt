-- The numbers of a packed list, one by one: of a closed enum each is a record of its own, and one that the enum doesn't declare is unknown.
use Rattle.std.proofs.Common.{◌≡◌, ℕ, suc, ◌%◌, ◌^◌, List, [], ◌∷◌, ◌++◌, map, refl, sym, ap, ◌∙◌, append_assoc, Option, Some, None}
use Rattle.std.specs.Prelude.{Bool, true, false, not, if◌then◌else◌, ◌==◌, ◌&&◌, filter}
use Rattle.std.specs.List.{AllByRecursion}
use Rattle.std.proofs.lemmas.List.{append-nil}
use Rattle.pb_wire.specs.Varint.{groups_value}
use Rattle.pb_wire.specs.Record.{Payload, varint, len, Record}
use Rattle.pb_schema.specs.declared.types.Kind.{Kind}
use Rattle.pb_schema.specs.declared.types.Kind.TheVariants as kind
use Rattle.pb_schema.specs.declared.types.EnumId.{EnumId}
use Rattle.pb_schema.specs.declared.types.Shape.{Shape}
use Rattle.pb_schema.specs.declared.types.Shape.TheVariants as shape
use Rattle.pb_schema.specs.Types.{FieldView, Types, message_fields, field_numbered}
use Rattle.pb_schema.specs.Names.{AllDiffer}
use Rattle.pb_schema.specs.Kinds.{wire_type_of, message_of_kind, closed_enum}
use Rattle.pb_schema.specs.Packed.{elements, numbers_of, varints_of}
use Rattle.pb_schema.specs.Fits.{fits, fits_any, fits_type}
use Rattle.pb_schema.specs.Closed.{closed_shaped, closed_of, is_list, is_undeclared, numbered, cut_as, cut_at, settled, counts}
use Rattle.pb_value.specs.Data.{Message, scalar, body, fields_of, unknown_of}
use Rattle.pb_value.specs.Value.{fields_held, value_within}
use Rattle.pb_value.specs.Change.{push_each, with_fields}
use Rattle.pb_value.proofs.KnownLemmas.{IsWhole, settled-append, settled-same}
use Rattle.pb_value.proofs.MessageSteps.{message_elements, message_unknown}
use Rattle.pb_decode_parts.specs.Tokens.After.{with_number, with_numbers, with_elements}
use Rattle.pb_decode_parts.proofs.OpenLemmas.{fits_by_type}
use Rattle.pb_decode_parts.proofs.KindLemmas.{open_known, declared_known, own_whole}

-- ONE NUMBER

pub declared_number : (pool : Types) (n : ℕ) (k : Kind) (v : Message) (p : Payload) → is_undeclared pool (closed_enum k) p ≡ false → with_number pool n k v p ≡ with_fields v (push_each n (map scalar (elements k p)) (fields_of v))
declared_number pool n k v p e =
    ap (λ (b : Bool). if b then body (fields_of v) (unknown_of v ++ record { number = n; payload = p } ∷ []) else with_fields v (push_each n (map scalar (elements k p)) (fields_of v))) e

pub undeclared_number : (pool : Types) (n : ℕ) (k : Kind) (v : Message) (p : Payload) → is_undeclared pool (closed_enum k) p ≡ true → with_number pool n k v p ≡ body (fields_of v) (unknown_of v ++ record { number = n; payload = p } ∷ [])
undeclared_number pool n k v p e =
    ap (λ (b : Bool). if b then body (fields_of v) (unknown_of v ++ record { number = n; payload = p } ∷ []) else with_fields v (push_each n (map scalar (elements k p)) (fields_of v))) e

pub with_numbers-append : (pool : Types) (n : ℕ) (k : Kind) (ps : List Payload) (p : Payload) (v : Message) → with_numbers pool n k (ps ++ p ∷ []) v ≡ with_number pool n k (with_numbers pool n k ps v) p
with_numbers-append pool n k [] p v = refl
with_numbers-append pool n k (q ∷ ps) p v = with_numbers-append pool n k ps p (with_number pool n k v q)

-- THE RECORD OF A LIST is worth its numbers

abbrev spelled : List (List ℕ) → List Payload
spelled bs = map (λ b. varint (groups_value b % 2 ^ 64)) bs

whole_numbers : (fs : List FieldView) (n : ℕ) (bs : List (List ℕ)) → AllByRecursion (IsWhole fs) (numbered n (spelled bs))
whole_numbers fs n [] = tt
whole_numbers fs n (b ∷ bs) = (tt, whole_numbers fs n bs)

settled_list :
    (fs : List FieldView) (f : FieldView) (e : ℕ) (n : ℕ) (s : List ℕ) → field_numbered n fs ≡ Some f → is_list f.shape ≡ true → closed_shaped f.shape f.kind ≡ Some e
    → settled fs (record { number = n; payload = len s } ∷ []) ≡ settled fs (numbered n (numbers_of 0 s))
settled_list fs f e n s found listed closed =
    append-nil (cut_at (field_numbered n fs) (record { number = n; payload = len s })) ∙ ap (λ (o : Option FieldView). cut_at o (record { number = n; payload = len s })) found
    ∙ ap (λ (b : Bool). cut_as b (closed_shaped f.shape f.kind) n (len s)) listed ∙ ap (λ (o : Option ℕ). cut_as true o n (len s)) closed
    ∙ sym (settled-same fs (numbered n (numbers_of 0 s)) (whole_numbers fs n (varints_of s)))

module _ (pool : Types) (l t : ℕ) (differ : AllDiffer (map (λ (f : FieldView). f.number) (message_fields pool t))) (f : FieldView) (found : field_numbered f.number (message_fields pool t) ≡ Some f) (p : Bool) (at : f.shape ≡ shape.List p)
    (none : message_of_kind f.kind ≡ None) where
  closed_list : closed_shaped f.shape f.kind ≡ closed_enum f.kind
  closed_list = ap (λ (s : Shape). closed_shaped s f.kind) at

  list_cut : (rs : List Record) (s : List ℕ) (e : ℕ) → closed_enum f.kind ≡ Some e
      → value_within pool (suc l) t (rs ++ record { number = f.number; payload = len s } ∷ []) ≡ value_within pool (suc l) t (rs ++ numbered f.number (numbers_of 0 s))
  unfolding value_within
  list_cut rs s e is =
      let fs = message_fields pool t in
      let same : settled fs (rs ++ record { number = f.number; payload = len s } ∷ []) ≡ settled fs (rs ++ numbered f.number (numbers_of 0 s)) =
      settled-append fs rs (record { number = f.number; payload = len s } ∷ []) ∙ ap (λ (z : List Record). settled fs rs ++ z) (settled_list fs f e f.number s found (ap is_list at) (closed_list ∙ is))
      ∙ sym (settled-append fs rs (numbered f.number (numbers_of 0 s))) in
      ap (λ (z : List Record). body (fields_held (value_within pool l) fs fs (filter (counts pool fs) z)) (filter (λ (r : Record). not (counts pool fs r)) z)) same

  module _ (own : (0 == wire_type_of f.kind) ≡ true) (fitted : fits_type f 0 ≡ true) where
    one_number : (rs : List Record) (i : ℕ) → value_within pool (suc l) t (rs ++ record { number = f.number; payload = varint i } ∷ []) ≡ with_number pool f.number f.kind (value_within pool (suc l) t rs) (varint i)
    one_number rs i = by_test (is_undeclared pool (closed_enum f.kind) (varint i)) refl
      where
        fs : List FieldView
        fs = message_fields pool t

        r : Record
        r = record { number = f.number; payload = varint i }

        fit : fits f r ≡ true
        fit = fits_by_type f (varint i) 0 refl fitted

        never_counts : (b : Bool) → (b && false) ≡ false
        never_counts true = refl
        never_counts false = refl

        by_test : (b : Bool) → is_undeclared pool (closed_enum f.kind) (varint i) ≡ b → value_within pool (suc l) t (rs ++ r ∷ []) ≡ with_number pool f.number f.kind (value_within pool (suc l) t rs) (varint i)
        by_test true e =
            message_unknown pool l t differ rs r (own_whole fs f.number f (varint i) found own)
            (ap (λ (o : Option FieldView). fits_any fs r && not (is_undeclared pool (closed_of o) (varint i))) found
            ∙ ap (λ (o : Option ℕ). fits_any fs r && not (is_undeclared pool o (varint i))) closed_list
            ∙ ap (λ (b : Bool). fits_any fs r && not b) e ∙ never_counts (fits_any fs r))
            ∙ sym (undeclared_number pool f.number f.kind (value_within pool (suc l) t rs) (varint i) e)
        by_test false e =
            let known = declared_known pool fs f (varint i) found own e fit in
            message_elements pool l t differ rs r f found fit known.whole known.counting p at none ∙ sym (declared_number pool f.number f.kind (value_within pool (suc l) t rs) (varint i) e)

    each_number : (bs : List (List ℕ)) (rs : List Record) → value_within pool (suc l) t (rs ++ numbered f.number (spelled bs)) ≡ with_numbers pool f.number f.kind (spelled bs) (value_within pool (suc l) t rs)
    each_number [] rs = ap (value_within pool (suc l) t) (append-nil rs)
    each_number (b ∷ bs) rs =
        let r : Record = record { number = f.number; payload = varint (groups_value b % 2 ^ 64) } in
        ap (value_within pool (suc l) t) (sym (append_assoc rs (r ∷ []) (numbered f.number (spelled bs)))) ∙ each_number bs (rs ++ r ∷ [])
        ∙ ap (with_numbers pool f.number f.kind (spelled bs)) (one_number rs (groups_value b % 2 ^ 64))

  -- THE LAW of a packed list: with its record the message is the one with its elements
  pub list_value : (rs : List Record) (s : List ℕ) → fits f (record { number = f.number; payload = len s }) ≡ true
      → value_within pool (suc l) t (rs ++ record { number = f.number; payload = len s } ∷ []) ≡ with_elements pool f.number f.kind s (value_within pool (suc l) t rs)
  list_value rs s fit = by_kind f.kind refl
    where
      opened : (k : Kind) → f.kind ≡ k → closed_enum k ≡ None
          → value_within pool (suc l) t (rs ++ record { number = f.number; payload = len s } ∷ []) ≡ with_fields (value_within pool (suc l) t rs) (push_each f.number (map scalar (elements k (len s))) (fields_of (value_within pool (suc l) t rs)))
      opened k is open_kind =
          let known = open_known pool (message_fields pool t) f (len s) found (closed_list ∙ ap closed_enum is ∙ open_kind) fit in
          message_elements pool l t differ rs (record { number = f.number; payload = len s }) f found fit known.whole known.counting p at none
          ∙ ap (λ (z : Kind). with_fields (value_within pool (suc l) t rs) (push_each f.number (map scalar (elements z (len s))) (fields_of (value_within pool (suc l) t rs)))) is

      closed : (e : EnumId) → f.kind ≡ kind.ClosedEnum e
          → value_within pool (suc l) t (rs ++ record { number = f.number; payload = len s } ∷ []) ≡ with_numbers pool f.number (kind.ClosedEnum e) (numbers_of 0 s) (value_within pool (suc l) t rs)
      closed e is =
          let own : (0 == wire_type_of f.kind) ≡ true = ap (λ (z : Kind). 0 == wire_type_of z) is in
          let fitted : fits_type f 0 ≡ true = ap (λ (z : Shape). fits_type (record f { shape = z }) 0) at ∙ ap (λ (z : Kind). fits_type (record f { shape = shape.List p; kind = z }) 0) is in
          list_cut rs s e.0 (ap closed_enum is) ∙ each_number own fitted (varints_of s) rs ∙ ap (λ (z : Kind). with_numbers pool f.number z (numbers_of 0 s) (value_within pool (suc l) t rs)) is

      by_kind : (k : Kind) → f.kind ≡ k → value_within pool (suc l) t (rs ++ record { number = f.number; payload = len s } ∷ []) ≡ with_elements pool f.number k s (value_within pool (suc l) t rs)
      by_kind (kind.ClosedEnum e) is = closed e is
      by_kind k is = opened k is refl
