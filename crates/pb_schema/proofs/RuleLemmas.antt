-- What the proofs of the tests of names, oneofs and types use.
use Rattle.std.proofs.Common.{◌≡◌, ℕ, zero, suc, ◌+◌, ◌<◌, List, [], ◌∷◌, ◌++◌, Bool, true, false, IsTrue, ◌↔◌, ◌⊎◌, inl, inr, ⊎_elim, map, length, get_or, set, take, replicate, refl, sym, ◌∙◌, ap, subst, arith, Option, Some, None, option_map, IfSome, Result, Ok, Err, IfOk}
use Rattle.std.specs.Prelude.{slice_get}
use Rattle.std.specs.List.{AllByRecursion}
use Rattle.std.proofs.lemmas.Bool.{false≢true, cases_eq}
use Rattle.std.proofs.lemmas.List.{length-set, length-replicate, get_or-set_same, get_or-set_other, take_more, map-append}
use Rattle.std.proofs.lemmas.List.Elements.{All-from_recursion, recursion_from_All}
use Rattle.pb_schema.specs.declared.types.Kind.{Kind}
use Rattle.pb_schema.specs.declared.types.Kind.TheVariants as kind
use Rattle.pb_schema.specs.declared.types.Shape.{Shape}
use Rattle.pb_schema.specs.declared.types.Shape.TheVariants as shape
use Rattle.pb_schema.specs.declared.types.Field.{Field}
use Rattle.pb_schema.specs.View.{field_view}
use Rattle.pb_schema.specs.Types.{FieldView, MessageView, EnumView, Types}
use Rattle.pb_schema.specs.Imports.{IsSeen}
use Rattle.pb_schema.specs.Imports.Sight.{file_of_kind}
use Rattle.pb_schema.specs.Loops.Members.{NotesMember, AreMembers}
use Rattle.pb_schema.specs.Rules.{IsMemberOf, HasMember, TypeIsSeen}

defaults : {X : Type 0} (xs : List X) (i : ℕ) (d e : X) → i < length xs → get_or xs i d ≡ get_or xs i e
defaults [] i d e h = absurd (omega (arith, h))
defaults (x ∷ xs) zero d e h = refl
defaults (x ∷ xs) (suc i) d e h = defaults xs i d e (omega (arith, h))

-- an answer that says one of two equivalent facts
pub ok_iff : {E P Q : Type 0} (r : Result Bool E) → P ↔ Q → IfOk r (λ b. IsTrue b ↔ P) → IfOk r (λ b. IsTrue b ↔ Q)
ok_iff (Ok b) same says = (λ e. same.0 (says.0 e), λ q. says.1 (same.1 q))
ok_iff (Err e) same says = tt

-- ONEOFS

member_push : (o : ℕ) (fs : List FieldView) (f : FieldView) → HasMember o (fs ++ f ∷ []) ↔ (HasMember o fs ⊎ IsMemberOf o f.shape)
member_push o [] f = (λ h. ⊎_elim (λ m. inr m) (λ e. absurd e) h, λ h. ⊎_elim (λ e. absurd e) (λ m. inl m) h)
member_push o (g ∷ gs) f = (
  λ h. ⊎_elim (λ m. inl (inl m)) (λ later. ⊎_elim (λ m. inl (inr m)) (λ m. inr m) ((member_push o gs f).0 later)) h,
  λ h. ⊎_elim (λ m. ⊎_elim (λ here. inl here) (λ later. inr ((member_push o gs f).1 (inl later))) m) (λ m. inr ((member_push o gs f).1 (inr m))) h,
)

pub AreMembers-push : (n : ℕ) (fs : List FieldView) (f : FieldView) (a b : List Bool) → AreMembers n fs a → NotesMember f.shape a b → AreMembers n (fs ++ f ∷ []) b
AreMembers-push n fs f a b was note = record {
  size = note.size ∙ was.size;
  exact = λ o h.
      let within : o < length a = omega (arith, h, was.size) in (
        λ e. (member_push o fs f).1 (⊎_elim (λ old. inl ((was.exact o h).0 old)) inr ((note.exact o within).0 e)),
        λ m. (note.exact o within).1 (⊎_elim (λ old. inl ((was.exact o h).1 old)) inr ((member_push o fs f).0 m)),
      );
}

clear : (n j : ℕ) → get_or (replicate n false) j false ≡ false
clear zero j = refl
clear (suc n) zero = refl
clear (suc n) (suc j) = clear n j

pub AreMembers-none : (n : ℕ) → AreMembers n [] (replicate n false)
AreMembers-none n = record {
  size = length-replicate n false;
  exact = λ o h. (λ e. absurd (false≢true (sym (clear n o) ∙ e)), λ m. absurd m);
}

pub notes_other : (s : Shape) (bits : List Bool) → ((o : ℕ) → o < length bits → ¬ IsMemberOf o s) → NotesMember s bits bits
notes_other s bits none = record { size = refl; exact = λ o h. (inl, λ m. ⊎_elim (λ e. e) (λ is. absurd (none o h is)) m) }

pub notes_member : (i : ℕ) (bits : List Bool) → i < length bits → NotesMember (shape.OneofMember i) bits (set bits i true)
notes_member i bits h = record {
  size = length-set bits i true;
  exact = λ o k. (
    λ now. ⊎_elim (λ e. inr e) (λ ne. inl (sym (get_or-set_other bits i o true false ne) ∙ now)) (cases_eq o i),
    λ m.
        ⊎_elim
        (λ e. subst (λ j. get_or (set bits i true) j false ≡ true) (sym e) (get_or-set_same bits i true false h))
        (λ ne. get_or-set_other bits i o true false ne ∙ ⊎_elim (λ old. old) (λ e. absurd (ne e)) m) (cases_eq o i),
  );
}

pub members_all : (n : ℕ) (fs : List FieldView) (bits : List Bool) → AreMembers n fs bits → AllByRecursion IsTrue bits ↔ ((o : ℕ) → o < n → HasMember o fs)
members_all n fs bits are = (
  λ all o h. (are.exact o h).0 (All-from_recursion IsTrue bits all o false (omega (arith, h, are.size))),
  λ each. recursion_from_All IsTrue bits (λ k d h. at k d h (each k (omega (arith, h, are.size)))),
)
  where
    at : (k : ℕ) (d : Bool) → k < length bits → HasMember k fs → get_or bits k d ≡ true
    at k d h m = defaults bits k d false h ∙ (are.exact k (omega (arith, h, are.size))).1 m

-- TYPES

some_iff : {X : Type 0} (P : ℕ → Type 0) (file : X → ℕ) (o : Option X) → IfSome (option_map file o) P ↔ IfSome o (λ t. P (file t))
some_iff P file None = (λ u. u, λ u. u)
some_iff P file (Some x) = (λ u. u, λ u. u)

-- the type that a kind names is seen where its file is
pub seen_by_file : (ts : Types) (i : ℕ) (k : Kind) → IfSome (file_of_kind ts.messages ts.enums k) (IsSeen ts.files i) ↔ TypeIsSeen ts i k
seen_by_file ts i (kind.Enum e) = some_iff (IsSeen ts.files i) (λ (t : EnumView). t.file) (slice_get ts.enums e.0)
seen_by_file ts i (kind.Message m) = some_iff (IsSeen ts.files i) (λ (t : MessageView). t.file) (slice_get ts.messages m.0)
seen_by_file ts i (kind.Group m) = some_iff (IsSeen ts.files i) (λ (t : MessageView). t.file) (slice_get ts.messages m.0)
seen_by_file ts i (kind.ClosedEnum e) = some_iff (IsSeen ts.files i) (λ (t : EnumView). t.file) (slice_get ts.enums e.0)
seen_by_file ts i kind.Double = (λ u. u, λ u. u)
seen_by_file ts i kind.Float = (λ u. u, λ u. u)
seen_by_file ts i kind.Int64 = (λ u. u, λ u. u)
seen_by_file ts i kind.Uint64 = (λ u. u, λ u. u)
seen_by_file ts i kind.Int32 = (λ u. u, λ u. u)
seen_by_file ts i kind.Fixed64 = (λ u. u, λ u. u)
seen_by_file ts i kind.Fixed32 = (λ u. u, λ u. u)
seen_by_file ts i kind.Bool = (λ u. u, λ u. u)
seen_by_file ts i kind.Text = (λ u. u, λ u. u)
seen_by_file ts i kind.Bytes = (λ u. u, λ u. u)
seen_by_file ts i kind.Uint32 = (λ u. u, λ u. u)
seen_by_file ts i kind.Sfixed32 = (λ u. u, λ u. u)
seen_by_file ts i kind.Sfixed64 = (λ u. u, λ u. u)
seen_by_file ts i kind.Sint32 = (λ u. u, λ u. u)
seen_by_file ts i kind.Sint64 = (λ u. u, λ u. u)

pub AreMembers-more : (n : ℕ) (xs : List Field) (i : ℕ) (x : Field) (a b : List Bool) → i < length xs → x ≡ get_or xs i x → AreMembers n (map field_view (take i xs)) a → NotesMember x.shape a b → AreMembers n (map field_view (take (i + 1) xs)) b
AreMembers-more n xs i x a b h is was note =
    let one_more : take (i + 1) xs ≡ take i xs ++ x ∷ [] = take_more xs i x h ∙ ap (λ y. take i xs ++ y ∷ []) (sym is) in
    let e : map field_view (take (i + 1) xs) ≡ map field_view (take i xs) ++ field_view x ∷ [] = ap (map field_view) one_more ∙ map-append field_view (take i xs) (x ∷ []) in
    subst (λ l. AreMembers n l b) (sym e) (AreMembers-push n (map field_view (take i xs)) (field_view x) a b was note)

pub all_at : {X Y : Type 0} (P : Y → Type 0) (f : X → Y) (xs : List X) (i : ℕ) (x : X) → AllByRecursion P (map f xs) → i < length xs → x ≡ get_or xs i x → P (f x)
all_at P f [] i x all h is = absurd (omega (arith, h))
all_at P f (y ∷ ys) zero x all h is = subst (λ z. P (f z)) (sym is) all.0
all_at P f (y ∷ ys) (suc i) x all h is = all_at P f ys i x all.1 (omega (arith, h)) is
