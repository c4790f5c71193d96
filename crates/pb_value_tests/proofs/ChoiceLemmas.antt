-- After a member of a oneof was set, it is the member that is set, and no other one is there.
use Rattle.std.proofs.Common.{◌≡◌, ◌≢◌, ℕ, List, Option, Some, None, refl, sym, ap, ◌∙◌, subst, arith, inl, inr}
use Rattle.std.specs.Prelude.{◌⊎◌, Bool, true, false, ◌==◌, if◌then◌else◌, nat_le}
use Rattle.std.proofs.lemmas.Bool.Decides.{eqb_tells}
use Rattle.pb_schema.specs.declared.types.Kind.{Kind}
use Rattle.pb_schema.specs.declared.types.Shape.{Shape}
use Rattle.pb_schema.specs.declared.types.Shape.TheVariants as shape
use Rattle.pb_schema.specs.Types.{FieldView, Types, message_fields, field_numbered}
use Rattle.pb_value.specs.declared.error.ValueError.{ValueError}
use Rattle.pb_value.specs.declared.error.ValueError.TheVariants.{WrongKind, WrongShape, TooDeep}
use Rattle.pb_value.specs.Data.{Holding, one, list, map, Fields, no_fields, field, Message, body, fields_of, get_field, put_field, holding_depth}
use Rattle.pb_value.specs.Dynamic.{Dynamic}
use Rattle.pb_value.specs.WellFormed.{HasNoMember, HasOneMemberEach, oneof_of, oneof_at, IsWellFormed}
use Rattle.pb_value.specs.Judge.{holds_kind, is_absence}
use Rattle.pb_value.specs.Cause.{or_else, unless, at_field, content_cause, held_cause}
use Rattle.pb_value.specs.Oneof.{is_member_at, member_set}
use Rattle.pb_value.specs.Change.{gives_way, drop_some, set_at, set_cause, with_fields}
use Rattle.pb_value.proofs.ChangeLemmas.{by_order, at_some, member-oneof_at, oneof_at-member, oneof_at-shape}

-- WHAT IS FOUND

get_field-first : (n : ℕ) (h : Holding) (fs : Fields) → get_field n (field n h fs) ≡ Some h
get_field-first n h fs = by_order (λ x. x ≡ Some h) n n (get_field n fs) (Some h) (get_field n fs) (λ l. absurd (omega (arith, l))) (λ _. refl) (λ l. absurd (omega (arith, l)))

get_field-later : (n k : ℕ) (h : Holding) (fs : Fields) → n ≢ k → get_field n (field k h fs) ≡ get_field n fs
get_field-later n k h fs d =
    by_order (λ x. x ≡ get_field n fs) n k (get_field n fs) (Some h) (get_field n fs) (λ _. refl) (λ e. absurd (d e)) (λ _. refl)

get_field-put_field : (n : ℕ) (h : Holding) (fs : Fields) → get_field n (put_field n h fs) ≡ Some h
get_field-put_field n h no_fields = get_field-first n h no_fields
get_field-put_field n h (field k g fs) =
    by_order (λ gs. get_field n gs ≡ Some h) n k (field n h (field k g fs)) (field k h fs) (field k g (put_field n h fs)) (λ _. get_field-first n h (field k g fs))
    (λ e. subst (λ (i : ℕ). get_field i (field k h fs) ≡ Some h) (sym e) (get_field-first k h fs))
    (λ l. get_field-later n k g (put_field n h fs) (λ e. omega (arith, l, e)) ∙ get_field-put_field n h fs)

-- MEMBERS OF ONE ONEOF

get_field-no_member : (all : List FieldView) (o k : ℕ) (fs : Fields) → HasNoMember all o fs → oneof_at all k ≡ Some o → get_field k fs ≡ None
get_field-no_member all o k no_fields w e = refl
get_field-no_member all o k (field j g fs) w e =
    get_field-later k j g fs (λ q. w.0 (ap (λ (i : ℕ). oneof_at all i) (sym q) ∙ e)) ∙ get_field-no_member all o k fs w.1 e

not_both : (h : Holding) (x : Option Holding) → x ≡ Some h → x ≡ None → ⊥
not_both h x a b = let both : Some h ≡ None = sym a ∙ b in cc

-- no other member of the oneof of n is there where n is
get_field-other_member :
    (all : List FieldView) (o n k : ℕ) (h : Holding) (fs : Fields) → HasOneMemberEach all fs → get_field n fs ≡ Some h → oneof_at all n ≡ Some o → oneof_at all k ≡ Some o
    → k ≢ n → get_field k fs ≡ None
get_field-other_member all o n k h no_fields w there own e d = refl
get_field-other_member all o n k h (field j g fs) w there own e d =
    by_place (eqb_tells j n) (eqb_tells k j) (λ t. get_field-other_member all o n k h fs w.1 t own e d)
  where
    alone : oneof_at all j ≡ Some o → HasNoMember all o fs
    alone q = at_some (oneof_at all j) (λ (p : ℕ). HasNoMember all p fs) o w.0 q

    by_place :
        ((j == n ≡ true) × (j ≡ n)) ⊎ ((j == n ≡ false) × (j ≢ n)) → ((k == j ≡ true) × (k ≡ j)) ⊎ ((k == j ≡ false) × (k ≢ j))
        → (get_field n fs ≡ Some h → get_field k fs ≡ None) → get_field k (field j g fs) ≡ None
    by_place (inl a) b later =
        get_field-later k j g fs (λ q. d (q ∙ a.1)) ∙ get_field-no_member all o k fs (alone (ap (λ (i : ℕ). oneof_at all i) a.1 ∙ own)) e
    by_place (inr a) (inl b) later =
        absurd (not_both h (get_field n fs) (sym (get_field-later n j g fs (λ q. a.1 (sym q))) ∙ there)
        (get_field-no_member all o n fs (alone (ap (λ (i : ℕ). oneof_at all i) (sym b.1) ∙ e)) own))
    by_place (inr a) (inr b) later = get_field-later k j g fs b.1 ∙ later (sym (get_field-later n j g fs (λ q. a.1 (sym q))) ∙ there)

-- a member that is there is the one that is set
member_set-there :
    (all : List FieldView) (o n : ℕ) (h : Holding) (fs : Fields) → HasOneMemberEach all fs → get_field n fs ≡ Some h → oneof_at all n ≡ Some o → member_set all o fs ≡ Some n
member_set-there all o n h no_fields w there own = absurd (not_both h None there refl)
member_set-there all o n h (field j g fs) w there own =
    by_test (is_member_at o (field_numbered j all)) refl (eqb_tells j n) (λ t. member_set-there all o n h fs w.1 t own)
  where
    later : j ≢ n → get_field n fs ≡ Some h
    later d = sym (get_field-later n j g fs (λ q. d (sym q))) ∙ there

    by_test :
        (b : Bool) → is_member_at o (field_numbered j all) ≡ b → ((j == n ≡ true) × (j ≡ n)) ⊎ ((j == n ≡ false) × (j ≢ n))
        → (get_field n fs ≡ Some h → member_set all o fs ≡ Some n) → (if b then Some j else member_set all o fs) ≡ Some n
    by_test true t (inl a) rest = ap (λ (i : ℕ). Some i) a.1
    by_test true t (inr a) rest =
        absurd (not_both h (get_field n fs) (later a.1)
        (get_field-no_member all o n fs (at_some (oneof_at all j) (λ (p : ℕ). HasNoMember all p fs) o w.0 (member-oneof_at all o j t)) own))
    by_test false t (inl a) rest = absurd (oneof_at-member all o j t (ap (λ (i : ℕ). oneof_at all i) a.1 ∙ own))
    by_test false t (inr a) rest = rest (later a.1)

-- WHAT IS SET

-- a content that may stand at a member is no absence
kept : (s : Shape) (o : ℕ) (k : Kind) (h : Holding) (rest : Option ValueError) → s ≡ shape.OneofMember o → or_else (content_cause s k h) rest ≡ None → is_absence s h ≡ false
kept s o k h rest e c =
    subst (λ (z : Shape). is_absence z h ≡ false) (sym e) (told h (subst (λ (z : Shape). or_else (content_cause z k h) rest ≡ None) e c))
  where
    refused : (b : Bool) → or_else (or_else (unless b WrongKind) (Some WrongShape)) rest ≡ None → ⊥
    refused true q = cc
    refused false q = cc

    told : (h : Holding) → or_else (content_cause (shape.OneofMember o) k h) rest ≡ None → is_absence (shape.OneofMember o) h ≡ false
    told (one d) q = refl
    told (list ds) q = absurd (refused (holds_kind (shape.OneofMember o) k (list ds)) q)
    told (map es) q = absurd (refused (holds_kind (shape.OneofMember o) k (map es)) q)

-- a member that was set is there
get_field-set_at :
    (pool : Types) (m n o : ℕ) (h : Holding) (fs : Fields) (f : FieldView) → field_numbered n (message_fields pool m) ≡ Some f → f.shape ≡ shape.OneofMember o
    → set_cause pool m n h ≡ None → get_field n (set_at (message_fields pool m) n h fs) ≡ Some h
get_field-set_at pool m n o h fs f found own allowed =
    let judged =
    subst (λ (x : Option FieldView). at_field x (λ (g : FieldView). or_else (content_cause g.shape g.kind h) (or_else (held_cause pool g.shape g.kind h) (unless (nat_le (holding_depth h) 100) TooDeep))) ≡ None)
    found allowed in
    rw found (rw (kept f.shape o f.kind h _ own judged) (get_field-put_field n h (drop_some (gives_way (message_fields pool m) f.shape n fs) fs)))

-- A MEMBER THAT WAS SET, IN A MESSAGE

members_of : (pool : Types) (m : ℕ) (v : Message) → IsWellFormed pool m v → HasOneMemberEach (message_fields pool m) (fields_of v)
members_of pool m (body fs us) w = w.parts.2

-- one dynamic message is another whose field of number n, a member of oneof o, was set
pub record Chooses (old new : Dynamic) (n o : ℕ) (h : Holding) (f : FieldView) : Type 0 where
  found : field_numbered n (message_fields old.pool old.kind) ≡ Some f
  member : f.shape ≡ shape.OneofMember o
  allowed : set_cause old.pool old.kind n h ≡ None
  done : new ≡ record old { body = with_fields old.body (set_at (message_fields old.pool old.kind) n h (fields_of old.body)) }
  kept : IsWellFormed new.pool new.kind new.body

pub makes_choice :
    (old new : Dynamic) (pool : Types) (m n o : ℕ) (h : Holding) (f : FieldView) → Some f ≡ field_numbered n (message_fields pool m) → pool ≡ old.pool → m ≡ old.kind
    → f.shape ≡ shape.OneofMember o → set_cause old.pool old.kind n h ≡ None
    → new ≡ record old { body = with_fields old.body (set_at (message_fields old.pool old.kind) n h (fields_of old.body)) } → IsWellFormed new.pool new.kind new.body
    → Chooses old new n o h f
makes_choice old new pool m n o h f found own named member allowed done kept = record {
  found = ap (λ (i : ℕ). field_numbered n (message_fields old.pool i)) (sym named) ∙ ap (λ (p : Types). field_numbered n (message_fields p m)) (sym own) ∙ sym found;
  member = member;
  allowed = allowed;
  done = done;
  kept = kept;
}

there : (old new : Dynamic) (n o : ℕ) (h : Holding) (f : FieldView) → Chooses old new n o h f → get_field n (fields_of new.body) ≡ Some h
there old new n o h f c =
    subst (λ (d : Dynamic). get_field n (fields_of d.body) ≡ Some h) (sym c.done) (get_field-set_at old.pool old.kind n o h (fields_of old.body) f c.found c.member c.allowed)

types : (old new : Dynamic) (n o : ℕ) (h : Holding) (f : FieldView) → Chooses old new n o h f → message_fields new.pool new.kind ≡ message_fields old.pool old.kind
types old new n o h f c = ap (λ (d : Dynamic). message_fields d.pool d.kind) c.done

members : (old new : Dynamic) (n o : ℕ) (h : Holding) (f : FieldView) → Chooses old new n o h f → HasOneMemberEach (message_fields old.pool old.kind) (fields_of new.body)
members old new n o h f c =
    subst (λ (all : List FieldView). HasOneMemberEach all (fields_of new.body)) (types old new n o h f c) (members_of new.pool new.kind new.body c.kept)

pub is_chosen : (old new : Dynamic) (n o : ℕ) (h : Holding) (f : FieldView) → Chooses old new n o h f → member_set (message_fields new.pool new.kind) o (fields_of new.body) ≡ Some n
is_chosen old new n o h f c =
    ap (λ (all : List FieldView). member_set all o (fields_of new.body)) (types old new n o h f c)
    ∙ member_set-there (message_fields old.pool old.kind) o n h (fields_of new.body) (members old new n o h f c) (there old new n o h f c)
    (oneof_at-shape (message_fields old.pool old.kind) n f c.found ∙ ap oneof_of c.member)

pub is_alone :
    (old new : Dynamic) (n o : ℕ) (h : Holding) (f : FieldView) → Chooses old new n o h f → (p k : ℕ) → oneof_at (message_fields old.pool old.kind) n ≡ Some p
    → oneof_at (message_fields old.pool old.kind) k ≡ Some p → k ≢ n → get_field k (fields_of new.body) ≡ None
is_alone old new n o h f c p k own e d =
    get_field-other_member (message_fields old.pool old.kind) p n k h (fields_of new.body) (members old new n o h f c) (there old new n o h f c) own e d
