-- Messages of two fields that the new type has in one oneof, of which it holds at most one.
use Rattle.std.proofs.Common.{◌≡◌, ◌≢◌, ℕ, ◌+◌, ◌<◌, ◌≤◌, ◌^◌, length, List, [], ◌∷◌, ◌++◌, Bool, true, false, Option, Some, None, IfSome, IsSomeAnd, refl, sym, ◌∙◌, ap, subst, arith, append-nil}
use Rattle.std.specs.Prelude.{option_and_then, ◌==◌}
use Rattle.std.proofs.lemmas.Bool.Decides.{nat_tests}
use Rattle.std.proofs.lemmas.List.{length-append}
use Rattle.pb_wire.specs.Record.{Record}
use Rattle.pb_wire.specs.Spell.{shortest_record, shortest_records}
use Rattle.pb_schema.specs.declared.types.Kind.{Kind}
use Rattle.pb_schema.specs.declared.types.Shape.{Shape}
use Rattle.pb_schema.specs.declared.types.Shape.TheVariants as shape
use Rattle.pb_schema.specs.Types.{FieldView, Types, message_fields, field_numbered}
use Rattle.pb_schema.specs.Rules.{IsPool}
use Rattle.pb_value.specs.Data.{Datum, Holding, one, list, map as map_of, Fields, no_fields, field, put_field, Message, body, fields_of, get_field, message_depth}
use Rattle.pb_value.specs.Canon.{canon, canon_bytes, canon_holding, canon_fields, by_field}
use Rattle.pb_value.specs.WellFormed.{IsOfShape, IsHeld, IsBody, IsWellFormed, holds_declared, oneof_of, oneof_at, HasNoMember, HasOneMemberEach}
use Rattle.pb_value.proofs.ChangeLemmas.{by_order}
use Rattle.pb_value.proofs.Numbers.{self_equal, number_is}
use Rattle.pb_value.proofs.Options.{if_some, at_some}
use Rattle.pb_compat.specs.Oneofs.{share_oneof}
use Rattle.pb_compat.specs.Agrees.{HoldsSame}
use Rattle.pb_compat.specs.Samples.{IsValue}
use Rattle.pb_compat.specs.Witness.{IsContentOf, AreFieldsAt, PairIsShown}
use Rattle.pb_compat.proofs.ShownLemmas.{can_hold}
use Rattle.pb_compat.proofs.WitnessLemmas.{CanHold, IsMisread, misread_shows}

-- ONEOFS

shared : (s t : Shape) (o : ℕ) → oneof_of s ≡ Some o → oneof_of t ≡ Some o → share_oneof s t ≡ true
shared (shape.OneofMember a) (shape.OneofMember b) o e g = let one : a ≡ o = cc in let two : b ≡ o = cc in ap (λ (i : ℕ). a == i) (two ∙ sym one) ∙ self_equal a
shared (shape.OneofMember a) shape.Implicit o e g = absurd (cc)
shared (shape.OneofMember a) shape.Explicit o e g = absurd (cc)
shared (shape.OneofMember a) (shape.List p) o e g = absurd (cc)
shared (shape.OneofMember a) (shape.Map key) o e g = absurd (cc)
shared shape.Implicit t o e g = absurd (cc)
shared shape.Explicit t o e g = absurd (cc)
shared (shape.List p) t o e g = absurd (cc)
shared (shape.Map key) t o e g = absurd (cc)

-- no member is set where none is said to be
no_member : (gs : List FieldView) (o n : ℕ) (h : Holding) (fs : Fields) → HasNoMember gs o fs → oneof_at gs n ≡ Some o → get_field n fs ≡ Some h → ⊥
no_member gs o n h no_fields w m e = absurd (cc)
no_member gs o n h (field k i fs) w m e =
    by_order (λ (x : Option Holding). x ≡ Some h → ⊥) n k (get_field n fs) (Some i) (get_field n fs)
    (λ l q. no_member gs o n h fs w.1 m q) (λ same q. w.0 (ap (oneof_at gs) (sym same) ∙ m)) (λ l q. no_member gs o n h fs w.1 m q) e

-- of one oneof two members are never set
two_members : (gs : List FieldView) (o n k : ℕ) (h i : Holding) (fs : Fields) → n ≢ k → HasOneMemberEach gs fs → oneof_at gs n ≡ Some o → oneof_at gs k ≡ Some o → get_field n fs ≡ Some h → get_field k fs ≡ Some i → ⊥
two_members gs o n k h i no_fields differ w m q e g = absurd (cc)
two_members gs o n k h i (field j x fs) differ w m q e g =
    by_order (λ (y : Option Holding). y ≡ Some h → ⊥) n j (get_field n fs) (Some x) (get_field n fs)
    (λ l c. later (λ y z. two_members gs o n k h i fs differ w.1 m q y z) c) (λ same c. first same) (λ l c. later (λ y z. two_members gs o n k h i fs differ w.1 m q y z) c) e
  where
    -- the first is n
    first : n ≡ j → ⊥
    first same =
        let none : HasNoMember gs o fs = at_some (oneof_at gs j) (λ p. HasNoMember gs p fs) o w.0 (ap (oneof_at gs) (sym same) ∙ m) in
        by_order (λ (y : Option Holding). y ≡ Some i → ⊥) k j (get_field k fs) (Some x) (get_field k fs)
        (λ l c. no_member gs o k i fs none q c) (λ z c. differ (same ∙ sym z)) (λ l c. no_member gs o k i fs none q c) g

    later : (get_field n fs ≡ Some h → get_field k fs ≡ Some i → ⊥) → get_field n fs ≡ Some h → ⊥
    later again c =
        by_order (λ (y : Option Holding). y ≡ Some i → ⊥) k j (get_field k fs) (Some x) (get_field k fs)
        (λ l z. again c z)
        (λ same z. no_member gs o n h fs (at_some (oneof_at gs j) (λ p. HasNoMember gs p fs) o w.0 (ap (oneof_at gs) (sym same) ∙ q)) m c)
        (λ l z. again c z) g

-- a member of a oneof that holds the same holds something
something : (old new : Types) (a b : Kind) (o : ℕ) (h : Holding) (x : Option Holding) → HoldsSame old new a b (shape.OneofMember o) h x → (i : Holding) × (x ≡ Some i)
something old new a b o h (Some i) same = (i, refl)
something old new a b o (one d) None same = let e = same.0 in absurd (cc)
something old new a b o (list ds) None same = absurd same
something old new a b o (map_of es) None same = absurd same

-- RECORDS

records_length : (xs ys : List Record) → length (shortest_records (xs ++ ys)) ≡ length (shortest_records xs) + length (shortest_records ys)
records_length [] ys = omega arith
records_length (x ∷ xs) ys =
    let more = records_length xs ys in
    let whole = length-append (shortest_record x.number x.payload) (shortest_records (xs ++ ys)) in
    let front = length-append (shortest_record x.number x.payload) (shortest_records xs) in
    omega (arith, more, whole, front)

-- TWO FIELDS

abbrev pair : ℕ → Holding → ℕ → Holding → Message
pair k h j i = body (field k h (field j i no_fields)) []

module _ (old new : Types) (rules_old : IsPool old) (rules_new : IsPool new) (m n k j o : ℕ) (f g p q : FieldView) (at : AreFieldsAt old new m n k f g) (also : AreFieldsAt old new m n j p q)
    (apart : share_oneof f.shape p.shape ≡ false) (here : g.shape ≡ shape.OneofMember o) (there : q.shape ≡ shape.OneofMember o) (h i : Holding) (can : CanHold old f h) (can_too : CanHold old p i) where
  pair_well : k < j → IsWellFormed old m (pair k h j i)
  pair_well less = record {
    parts = (
      (
        subst (λ (x : Option FieldView). IsSomeAnd x (λ y. IsOfShape y.shape h × IsHeld old y.shape y.kind h × (holds_declared old y.kind h ≡ true))) (sym at.old_field) (can.shaped, can.held, can.declared),
        (subst (λ (x : Option FieldView). IsSomeAnd x (λ y. IsOfShape y.shape i × IsHeld old y.shape y.kind i × (holds_declared old y.kind i ≡ true))) (sym also.old_field) (can_too.shaped, can_too.held, can_too.declared), tt),
      ),
      (omega arith, (omega (arith, less), tt)),
      (
        if_some (oneof_at (message_fields old m) k) (λ x. HasNoMember (message_fields old m) x (field j i no_fields)) (λ x e. (λ z. clash (sym apart ∙ shared f.shape p.shape x (sym (oneof f k at.old_field) ∙ e) (sym (oneof p j also.old_field) ∙ z)), tt)),
        (if_some (oneof_at (message_fields old m) j) (λ x. HasNoMember (message_fields old m) x no_fields) (λ x e. tt), tt),
      ),
      tt,
    );
    depth = let one = can.depth in let two = can_too.depth in omega (arith, one, two);
  }
    where
      clash : false ≡ true → ⊥
      clash e = cc

      oneof : (y : FieldView) (l : ℕ) → field_numbered l (message_fields old m) ≡ Some y → oneof_at (message_fields old m) l ≡ oneof_of y.shape
      oneof y l e = ap (option_and_then (λ (z : FieldView). oneof_of z.shape)) e

  pair_records : canon old m (pair k h j i) ≡ canon_holding old f h ++ canon_holding old p i
  pair_records =
      append-nil (canon_fields old (message_fields old m) (field k h (field j i no_fields)))
      ∙ ap (λ (x : Option FieldView). by_field x (λ (y : FieldView). canon_holding old y h) ++ (by_field (field_numbered j (message_fields old m)) (λ (y : FieldView). canon_holding old y i) ++ [])) at.old_field
      ∙ ap (λ (l : List Record). canon_holding old f h ++ l)
      (append-nil (by_field (field_numbered j (message_fields old m)) (λ (y : FieldView). canon_holding old y i)) ∙ ap (λ (x : Option FieldView). by_field x (λ (y : FieldView). canon_holding old y i)) also.old_field)

  pair_small : length (canon_bytes old m (pair k h j i)) < 2 ^ 22
  pair_small =
      let one = can.short in
      let two = can_too.short in
      let same = ap (λ (rs : List Record). length (shortest_records rs)) pair_records in
      let sum = records_length (canon_holding old f h) (canon_holding old p i) in
      omega (arith, one, two, same, sum)

  member_there : (l : ℕ) (y : FieldView) → field_numbered l (message_fields new n) ≡ Some y → y.shape ≡ shape.OneofMember o → oneof_at (message_fields new n) l ≡ Some o
  member_there l y e s = ap (option_and_then (λ (z : FieldView). oneof_of z.shape)) e ∙ ap oneof_of s

  unread_by : (w : Message) → IsBody new n w → k ≢ j → HoldsSame old new f.kind g.kind g.shape h (get_field k (fields_of w)) → HoldsSame old new p.kind q.kind q.shape i (get_field j (fields_of w)) → ⊥
  unread_by (body fs us) w differ held_f held_p =
      let first = something old new f.kind g.kind o h (get_field k fs) (subst (λ (s : Shape). HoldsSame old new f.kind g.kind s h (get_field k fs)) here held_f) in
      let second = something old new p.kind q.kind o i (get_field j fs) (subst (λ (s : Shape). HoldsSame old new p.kind q.kind s i (get_field j fs)) there held_p) in
      two_members (message_fields new n) o k j first.0 second.0 fs differ w.2 (member_there k g at.new_field here) (member_there j q also.new_field there) first.1 second.1

  pub pair_misread : k < j → IsMisread old new m n (pair k h j i)
  pair_misread less = record {
    plain = record {
      parts = (pair_well less).parts;
      known = (refl, (can.known, (can_too.known, tt)));
      short = let small = pair_small in omega (arith, small);
    };
    unread = λ levels w deep sound b e a.
        unread_by w b (λ e. omega (arith, less, e))
        (at_some (field_numbered k (message_fields new n)) (λ x. HoldsSame old new f.kind x.kind x.shape h (get_field k (fields_of w))) g
        (at_some (field_numbered k (message_fields old m)) (λ y. IfSome (field_numbered k (message_fields new n)) (λ x. HoldsSame old new y.kind x.kind x.shape h (get_field k (fields_of w)))) f a.0.0 at.old_field) at.new_field)
        (at_some (field_numbered j (message_fields new n)) (λ x. HoldsSame old new p.kind x.kind x.shape i (get_field j (fields_of w))) q
        (at_some (field_numbered j (message_fields old m)) (λ y. IfSome (field_numbered j (message_fields new n)) (λ x. HoldsSame old new y.kind x.kind x.shape i (get_field j (fields_of w)))) p a.0.1.0 also.old_field) also.new_field);
  }

-- a message that is misread, of two fields of at most one level
pub record IsPairMisread (old new : Types) (m n : ℕ) (v : Message) : Type 0 where
  pub misread : IsMisread old new m n v
  pub depth : message_depth v ≤ 1

share_back : (s t : Shape) → share_oneof s t ≡ false → share_oneof t s ≡ false
share_back s t e = by (share_oneof t s) refl
  where
    turn : (s t : Shape) → share_oneof t s ≡ true → share_oneof s t ≡ true
    turn (shape.OneofMember a) (shape.OneofMember b) e = flip a b e
      where
        flip : (a b : ℕ) → (b == a) ≡ true → (a == b) ≡ true
        flip a b e = grind (arith, nat_tests)
    turn shape.Implicit (shape.OneofMember b) e = absurd (cc)
    turn shape.Explicit (shape.OneofMember b) e = absurd (cc)
    turn (shape.List p) (shape.OneofMember b) e = absurd (cc)
    turn (shape.Map key) (shape.OneofMember b) e = absurd (cc)
    turn s shape.Implicit e = absurd (cc)
    turn s shape.Explicit e = absurd (cc)
    turn s (shape.List p) e = absurd (cc)
    turn s (shape.Map key) e = absurd (cc)

    by : (c : Bool) → share_oneof t s ≡ c → c ≡ false
    by true q = absurd (let z = turn s t q in cc)
    by false q = refl

together : (s t : Shape) → share_oneof s t ≡ true → (o : ℕ) × (s ≡ shape.OneofMember o) × (t ≡ shape.OneofMember o)
together (shape.OneofMember a) (shape.OneofMember b) e = (a, refl, ap shape.OneofMember (sym (number_is a b e)))
together (shape.OneofMember a) shape.Implicit e = absurd (cc)
together (shape.OneofMember a) shape.Explicit e = absurd (cc)
together (shape.OneofMember a) (shape.List p) e = absurd (cc)
together (shape.OneofMember a) (shape.Map key) e = absurd (cc)
together shape.Implicit t e = absurd (cc)
together shape.Explicit t e = absurd (cc)
together (shape.List p) t e = absurd (cc)
together (shape.Map key) t e = absurd (cc)

pub pair_is_misread : (old new : Types) → IsPool old → IsPool new → (m n k j : ℕ) (f g p q : FieldView) (d e : Datum) (h i : Holding) → AreFieldsAt old new m n k f g → AreFieldsAt old new m n j p q → k ≢ j
    → share_oneof g.shape q.shape ≡ true → share_oneof f.shape p.shape ≡ false
    → IsContentOf old f.shape d h → IsOfShape f.shape h → IsValue old f.kind d → IsContentOf old p.shape e i → IsOfShape p.shape i → IsValue old p.kind e
    → IsPairMisread old new m n (body (put_field j i (field k h no_fields)) [])
pair_is_misread old new rules_old rules_new m n k j f g p q d e h i at also differ shared_new apart made shaped v made_too shaped_too v_too =
    let both = together g.shape q.shape shared_new in
    let can = can_hold old rules_old m k f at.old_field d h v made shaped in
    let can_too = can_hold old rules_old m j p also.old_field e i v_too made_too shaped_too in
    let one = can.depth in
    let two = can_too.depth in
    by_order (λ (fs : Fields). IsPairMisread old new m n (body fs [])) j k (field j i (field k h no_fields)) (field k i no_fields) (field k h (field j i no_fields))
    (λ l. record {
      misread = pair_misread old new rules_old rules_new m n j k both.0 p q f g also at (share_back f.shape p.shape apart) both.2 both.1 i h can_too can l;
      depth = omega (arith, one, two);
    })
    (λ same. absurd (differ (sym same)))
    (λ l. record {
      misread = pair_misread old new rules_old rules_new m n k j both.0 f g p q at also apart both.1 both.2 h i can can_too l;
      depth = omega (arith, one, two);
    })

pub pair_is_shown : (old new : Types) → IsPool old → IsPool new → PairIsShown old new
pair_is_shown old new rules_old rules_new m n k j f g p q d e h i at also differ shared_new apart made shaped v made_too shaped_too v_too =
    let pair = pair_is_misread old new rules_old rules_new m n k j f g p q d e h i at also differ shared_new apart made shaped v made_too shaped_too v_too in
    let deep = pair.depth in
    misread_shows old new rules_old rules_new m n (body (put_field j i (field k h no_fields)) []) pair.misread (omega (arith, deep))
