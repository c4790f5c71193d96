-- What is built round a message that is misread, for a field that leads to its type, is misread.
use Rattle.std.proofs.Common.{◌≡◌, ℕ, suc, ◌≤◌, Bool, true, false, not, ◌&&◌, ◌||◌, Option, Some, None, refl, sym, ◌∙◌, ap, subst, arith}
use Rattle.std.specs.Prelude.{option_and_then, is_some}
use Rattle.pb_schema.specs.declared.types.Kind.{Kind}
use Rattle.pb_schema.specs.declared.types.Kind.TheVariants as kind
use Rattle.pb_schema.specs.Kinds.{message_of_kind}
use Rattle.pb_schema.specs.Rules.{IsPool}
use Rattle.pb_schema.specs.Types.{FieldView, Types, message_fields, field_numbered}
use Rattle.pb_value.specs.Data.{Message, message_depth}
use Rattle.pb_value.specs.Judge.Forms.{is_implicit}
use Rattle.pb_compat.specs.Fields.{keeps_kind, keeps_others, keeps_values, keeps_shape}
use Rattle.pb_compat.specs.Nested.{IsBuiltRound, of_itself, round}
use Rattle.pb_compat.specs.Pairs.{pair_of, message_at, leads}
use Rattle.pb_compat.specs.Witness.{AreFieldsAt, partner_of}
use Rattle.pb_compat.proofs.BuiltLemmas.{built_misread}
use Rattle.pb_compat.proofs.ExactLemmas.{breaks_exactly}
use Rattle.pb_compat.proofs.FieldLemmas.{and_both}
use Rattle.pb_compat.proofs.NestedLemmas.{round_depth, round_misread}
use Rattle.pb_compat.proofs.WitnessLemmas.{IsMisread}

-- WHERE A FIELD LEADS

pair_both : (a b : Option ℕ) (i j : ℕ) → pair_of a b ≡ Some (i, j) → (a ≡ Some i) × (b ≡ Some j)
pair_both None b i j e = absurd (cc)
pair_both (Some x) None i j e = absurd (cc)
pair_both (Some x) (Some y) i j e =
    let same : ◌≡◌ {A = ℕ × ℕ} (x, y) (i, j) = cc in
    (ap (λ (p : ℕ × ℕ). Some p.0) same, ap (λ (p : ℕ × ℕ). Some p.1) same)

field_at : (o : Option FieldView) (i : ℕ) → option_and_then (λ (f : FieldView). message_of_kind f.kind) o ≡ Some i → (f : FieldView) × (o ≡ Some f) × (message_of_kind f.kind ≡ Some i)
field_at None i e = absurd (cc)
field_at (Some f) i e = (f, refl, e)

-- both types have the field, with messages of these types
pub record IsLead (old new : Types) (m n k i j : ℕ) : Type 0 where
  pub old_field : FieldView
  pub new_field : FieldView
  pub at : AreFieldsAt old new m n k old_field new_field
  pub from : message_of_kind old_field.kind ≡ Some i
  pub to : message_of_kind new_field.kind ≡ Some j

pub lead_of : (old new : Types) (m n k i j : ℕ) → leads old new (m, n) k ≡ Some (i, j) → IsLead old new m n k i j
lead_of old new m n k i j e =
    let both = pair_both (message_at old m k) (message_at new n k) i j e in
    let f = field_at (field_numbered k (message_fields old m)) i both.0 in
    let g = field_at (field_numbered k (message_fields new n)) j both.1 in
    record { old_field = f.0; new_field = g.0; at = record { old_field = f.1; new_field = g.1 }; from = f.2; to = g.2 }

-- WHAT IS BUILT ROUND A MESSAGE

-- it is misread where the message is, and nests at most one level more
pub record IsRoundMisread (old new : Types) (m n : ℕ) (inner v : Message) : Type 0 where
  pub misread : IsMisread old new m n v
  pub depth : message_depth v ≤ suc (message_depth inner)

-- a field that does not break keeps kind and shape
no_others : (new : Types) (a b : Kind) (i : ℕ) → message_of_kind a ≡ Some i → keeps_others new a b ≡ false
no_others new (kind.Message p) b i from = refl
no_others new (kind.Group p) b i from = refl
no_others new a b i from = absurd (cc)

neither : (a b : Bool) → (not a || b) ≡ false → a ≡ true
neither true b e = refl
neither false b e = absurd (cc)

or_first : (a b c : Bool) → c ≡ false → (a || (b && c)) ≡ true → a ≡ true
or_first true b c e o = refl
or_first false true c e o = absurd (cc)
or_first false false c e o = absurd (cc)

pub round_built : (old new : Types) → IsPool old → IsPool new → (m n k i j : ℕ) (inner v : Message) → leads old new (m, n) k ≡ Some (i, j) → IsBuiltRound old new m n k inner v → IsMisread old new i j inner → message_depth inner ≤ 99
    → IsRoundMisread old new m n inner v
round_built old new rules_old rules_new m n k i j inner v to_pair built misread level = by built
  where
    lead : IsLead old new m n k i j
    lead = lead_of old new m n k i j to_pair

    by : IsBuiltRound old new m n k inner v → IsRoundMisread old new m n inner v
    by (of_itself b) =
        let own = built_misread old new rules_old rules_new m n k b.old_field b.new_field b.at v b.built in
        let deep = own.depth in
        record { misread = own.misread; depth = omega (arith, deep) }
    by (round f h found unbroken made shaped same) =
        let g = lead.new_field in
        let is_old = lead.at.old_field in
        let own : lead.old_field ≡ f = cc in
        let at : AreFieldsAt old new m n k f g = record { old_field = found; new_field = lead.at.new_field } in
        let from : message_of_kind f.kind ≡ Some i = subst (λ (x : FieldView). message_of_kind x.kind ≡ Some i) own lead.from in
        let keeps =
        and_both (keeps_values old new f g) (keeps_shape old new f.shape g.shape)
        (neither (keeps_values old new f g && keeps_shape old new f.shape g.shape) (is_some (partner_of (message_fields old m) (message_fields new n) f g.shape))
        (sym (breaks_exactly old new rules_new m n k f g at) ∙ unbroken)) in
        let kept = or_first (keeps_kind old new f.kind g.kind) (is_implicit f.shape) (keeps_others new f.kind g.kind) (no_others new f.kind g.kind i from) keeps.0 in
        let depth = round_depth old new rules_old rules_new m n k f g at kept keeps.1 i j from lead.to inner misread.plain level h made shaped in
        subst (IsRoundMisread old new m n inner) (sym same) record {
          misread = round_misread old new rules_old rules_new m n k f g at kept keeps.1 i j from lead.to inner misread.plain level h made shaped misread;
          depth = omega (arith, depth);
        }
