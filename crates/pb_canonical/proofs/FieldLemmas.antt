-- Fields and messages.
use Rattle.std.proofs.Common.{◌≡◌, ℕ, ◌+◌, ◌<◌, ◌≤◌, ◌^◌, List, [], ◌∷◌, ◌++◌, length, refl, ap, sym, subst, ◌∙◌, arith, append-nil, length-append, Option, Some, None}
use Rattle.std.specs.Prelude.{true, IsSomeAnd}
use Rattle.pb_wire.specs.Record.{len}
use Rattle.pb_wire.specs.Spell.{shortest_records}
use Rattle.pb_schema.specs.Types.{FieldView, Types, message_fields, field_numbered}
use Rattle.pb_value.specs.Data.{no_fields, field, body}
use Rattle.pb_value.specs.Canon.{by_field, canon_holding, canon_fields, canon_bytes}
use Rattle.pb_value.specs.WellFormed.{IsOfShape, IsHeld, holds_declared, RisesFrom, HasOneMemberEach, oneof_of}
use Rattle.pb_value.proofs.ChangeLemmas.{oneof_at-shape}
use Rattle.pb_canonical.specs.Canonical.{IsCanonical}
use Rattle.pb_canonical.specs.Parts.{tagged, payload_bytes, UnknownsFirst, HeldFirst, IsMarked, FieldsFirst, MessageFirst, InnerFirst, GroupFirst}
use Rattle.pb_canonical.proofs.SplitLemmas.{joined_split, shortest_records-append}

some_and : {A : Type 0} (o : Option A) (P : A → Type 0) (a : A) → o ≡ Some a → P a → IsSomeAnd o P
some_and None P a e h = absurd (cc)
some_and (Some b) P a e h = let same : b ≡ a = cc in subst P (sym same) h

-- FIELDS

pub fields_none : (pool : Types) (m next marks levels : ℕ) (b : List ℕ) → FieldsFirst pool m next marks levels b b
fields_none pool m next marks levels b =
    record { fields = no_fields; within = tt; rise = tt; one_each = λ o l. tt; apart = λ o l set. tt; deep = omega arith; split = refl }

pub fields_more :
    (pool : Types) (m next marks after new levels : ℕ) (f : FieldView) (n : ℕ) (b whole mid rest : List ℕ) → field_numbered n (message_fields pool m) ≡ Some f → next ≤ n → after ≡ n + 1
    → IsMarked (oneof_of f.shape) 0 marks new → b ≡ whole → HeldFirst pool f levels whole mid → FieldsFirst pool m after new levels mid rest → FieldsFirst pool m next marks levels b rest
fields_more pool m next marks after new levels f n b whole mid rest found first up marked e h t =
    let all = message_fields pool m in
    let member = oneof_at-shape all n f found in
    record {
      fields = field n h.held t.fields;
      within = (some_and (field_numbered n all) (λ (g : FieldView). IsOfShape g.shape h.held × IsHeld pool g.shape g.kind h.held × (holds_declared pool g.kind h.held ≡ true)) f found (h.of_shape, h.within, h.declared), t.within);
      rise = (first, subst (λ (k : ℕ). RisesFrom k t.fields) up t.rise);
      one_each = λ o l. ((λ e. t.apart o l (marked.marked o l (sym member ∙ e ∙ ap Some (omega arith)))), t.one_each o l);
      apart = λ o l set. ((λ e. marked.free o l (sym member ∙ e ∙ ap Some (omega arith)) set), t.apart o l (marked.kept o set));
      deep = omega (arith, h.deep, t.deep);
      split =
          joined_split (shortest_records (canon_holding pool f h.held)) (shortest_records (canon_fields pool all t.fields)) b mid rest (e ∙ h.split) t.split
          ∙ ap (λ (l : List ℕ). l ++ rest)
          (sym (shortest_records-append (canon_holding pool f h.held) (canon_fields pool all t.fields))
          ∙ ap (λ (o : Option FieldView). shortest_records (by_field o (λ (g : FieldView). canon_holding pool g h.held) ++ canon_fields pool all t.fields)) (sym found));
    }

pub field_shorter : (pool : Types) (f : FieldView) (levels : ℕ) (b whole rest : List ℕ) → b ≡ whole → HeldFirst pool f levels whole rest → length rest < length b
field_shorter pool f levels b whole rest e h = subst (λ (l : List ℕ). length rest < length l) (sym e) h.shorter

-- MESSAGES

pub fields_within : (pool : Types) (m next marks levels : ℕ) (b rest : List ℕ) → FieldsFirst pool m next marks levels b rest → length rest ≤ length b
fields_within pool m next marks levels b rest f =
    let size = ap length f.split in
    let joined = length-append (shortest_records (canon_fields pool (message_fields pool m) f.fields)) rest in
    omega (arith, size, joined)

pub whole_message :
    (pool : Types) (m levels : ℕ) (b mid rest : List ℕ) (f : FieldsFirst pool m 0 0 levels b mid) → HasOneMemberEach (message_fields pool m) f.fields → UnknownsFirst pool m levels mid rest
    → MessageFirst pool m levels b rest
whole_message pool m levels b mid rest f each u = record {
  message = body f.fields u.records;
  within = (f.within, f.rise, each, u.unknown);
  deep = omega (arith, f.deep, u.deep);
  split =
      joined_split (shortest_records (canon_fields pool (message_fields pool m) f.fields)) (shortest_records u.records) b mid rest f.split u.split
      ∙ ap (λ (l : List ℕ). l ++ rest) (sym (shortest_records-append (canon_fields pool (message_fields pool m) f.fields) u.records));
}

all_of : (s b rest : List ℕ) → b ≡ s ++ rest → length rest ≡ 0 → b ≡ s
all_of s b [] e none = e ∙ append-nil s
all_of s b (x ∷ rest) e none = absurd (omega (arith, none))

pub inner_message :
    (pool : Types) (m levels below : ℕ) (b s end rest : List ℕ) → below < levels → b ≡ payload_bytes (len s) ++ rest → MessageFirst pool m below s end → length end ≡ 0 → InnerFirst pool m levels b rest
inner_message pool m levels below b s end rest l e h none = record {
  message = h.message;
  within = h.within;
  deep = omega (arith, l, h.deep);
  split = e ∙ ap (λ (t : List ℕ). payload_bytes (len t) ++ rest) (all_of (canon_bytes pool m h.message) s end h.split none);
}

pub group_message :
    (pool : Types) (m n levels below : ℕ) (b end rest : List ℕ) → below < levels → MessageFirst pool m below b end → end ≡ tagged n 4 rest → GroupFirst pool m n levels b rest
group_message pool m n levels below b end rest l h e = record {
  message = h.message;
  within = h.within;
  deep = omega (arith, l, h.deep);
  split = h.split ∙ ap (λ (t : List ℕ). canon_bytes pool m h.message ++ t) e;
}

pub canonical : (pool : Types) (m levels : ℕ) (b end : List ℕ) → levels ≤ 100 → length b < 2 ^ 31 → MessageFirst pool m levels b end → length end ≡ 0 → IsCanonical pool m b
canonical pool m levels b end l small h none = record {
  message = h.message;
  well_formed = record { parts = h.within; depth = omega (arith, l, h.deep) };
  written = all_of (canon_bytes pool m h.message) b end h.split none;
  small = small;
}
