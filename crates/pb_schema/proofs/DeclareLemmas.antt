-- Names that are declared one after another.
use Rattle.std.proofs.Common.{◌≡◌, ◌≢◌, ℕ, zero, suc, ◌+◌, ◌<◌, ◌≤◌, List, [], ◌∷◌, ◌++◌, Bool, true, false, ◌&&◌, IsTrue, ◌↔◌, inr, ⊎_elim, map, length, get_or, take, refl, sym, ◌∙◌, ap, subst, Contains, Option, Some, None, append_assoc, append-nil}
use Rattle.std.specs.Prelude.{slice_get}
use Rattle.std.specs.List.{AllByRecursion, flat_map}
use Rattle.std.proofs.lemmas.Bool.{false≢true}
use Rattle.std.proofs.lemmas.List.{length-map, take_more, map-append}
use Rattle.std.proofs.lemmas.Grind.{flat_map-append}
use Rattle.std.proofs.lemmas.Option.{slice_get_within}
use Rattle.std.proofs.lemmas.List.Elements.{Contains-push, Contains-push_cases, Contains-append_left}
use Rattle.pb_graphs.proofs.ContainsLemmas.{Contains-none, Contains-first, Contains-later, Contains-cases}
use Rattle.pb_schema.specs.declared.names.declared.Declarations.{Declarations}
use Rattle.pb_schema.specs.declared.types.Kind.{Kind}
use Rattle.pb_schema.specs.declared.types.Shape.TheVariants as shape
use Rattle.pb_schema.specs.declared.types.MessageType.{MessageType}
use Rattle.pb_schema.specs.declared.types.EnumType.{EnumType}
use Rattle.pb_schema.specs.View.{message_view, enum_view, parent_view}
use Rattle.pb_schema.specs.Types.{FieldView, FileView, MessageView, Types}
use Rattle.pb_schema.specs.Nesting.{parent_of, ParentsStandBefore}
use Rattle.pb_schema.specs.Names.{is_word, in_scope, name_at, package_of, scope_by_names, scope_of, names_of_field, entry_name, names_in_message, names_of_enum, message_name, declared_by_message, declared_by_enum, declared_names, packages_of, AllDiffer}
use Rattle.pb_schema.specs.Names.Tree.{IsTree, IsScope, scope_name, full_names_of, Keeps, IsAddedAt, NameAdded, ArePackages, PackagesAdded}
use Rattle.pb_schema.specs.Rules.{AreWords, MessageIsOfWords, EnumIsOfWords, FullNamesDiffer, PackagesAreFree}
use Rattle.pb_schema.specs.Names.Declared.{IsDeclared, Added, named_in, Adds, AddedAt, AddsOne, names_by_message, AddsMessage, scope_id, HaveNames, MayAddMessages, MessagesAdded, MayAddEnums}
use Rattle.pb_schema.specs.declared.names.tree.NameTree.{NameTree}
use Rattle.pb_schema.proofs.OrderLemmas.{iff_trans}
use Rattle.pb_schema.proofs.NameSetLemmas.{All-at, AllDiffer-push, AllDiffer-front, AllDiffer-back, AllDiffer-new, all_front, all_back}
use Rattle.pb_schema.proofs.NameTreeLemmas.{name_at-get, get-push, get-front, get-contains}
use Rattle.pb_schema.proofs.PackageLemmas.{keeps_scope, packages_kept, zip_push, all_join, all_of}
use Rattle.pb_schema.proofs.NameLemmas.{so_far, scope_of-names, parent_of-map, map_push}
use Rattle.pb_schema.proofs.AddLemmas.{take_past, flat_map-one}
use Rattle.pb_schema.proofs.RuleLemmas.{all_at}

pub Added-none : (d : Declarations) → IsTree d.tree → Added [] d d
Added-none d tree = record { tree = tree; kept = λ i x e. e; declared = λ before was. subst (λ l. IsDeclared l d) (sym (append-nil before)) was }

pub Added-append : (xs ys : List (List ℕ)) (a b c : Declarations) → Added xs a b → Added ys b c → Added (xs ++ ys) a c
Added-append xs ys a b c first second = record {
  tree = second.tree;
  kept = λ i x e. second.kept i x (first.kept i x e);
  declared = λ before was. subst (λ l. IsDeclared l c) (append_assoc before xs ys) (second.declared (before ++ xs) (first.declared before was));
}

pub Adds-none : (scope : Option ℕ) (d : Declarations) → Adds scope [] d d
Adds-none scope d may = Added-none d may.tree

pub Adds-append : (scope : Option ℕ) (xs ys : List (List ℕ)) (a b c : Declarations) → Adds scope xs a b → Adds scope ys b c → Adds scope (xs ++ ys) a c
Adds-append scope xs ys a b c first second may =
    let one : Added (map (named_in a scope) xs) a b = first (record { tree = may.tree; in_tree = may.in_tree; words = all_front (λ w. IsTrue (is_word w)) xs ys may.words }) in
    let s = keeps_scope (full_names_of a.tree) (full_names_of b.tree) one.kept scope may.in_tree in
    let two : Added (map (named_in b scope) ys) b c = second (record { tree = one.tree; in_tree = s.0; words = all_back (λ w. IsTrue (is_word w)) xs ys may.words }) in
    let e : map (named_in b scope) ys ≡ map (named_in a scope) ys = ap (λ n. map (in_scope n) ys) s.1 in
    subst (λ l. Added l a c) (sym (map-append (named_in a scope) xs ys)) (Added-append (map (named_in a scope) xs) (map (named_in a scope) ys) a b c one (subst (λ l. Added l b c) e two))

pub adds_more : {X : Type 0} (scope : Option ℕ) (f : X → List (List ℕ)) (xs : List X) (i : ℕ) (x : X) (s t u : Declarations) → i < length xs → x ≡ get_or xs i x → Adds scope (flat_map f (take i xs)) s t → Adds scope (f x) t u → Adds scope (flat_map f (take (i + 1) xs)) s u
adds_more scope f xs i x s t u h is before this =
    let one_more : take (i + 1) xs ≡ take i xs ++ x ∷ [] = take_more xs i x h ∙ ap (λ y. take i xs ++ y ∷ []) (sym is) in
    let e : flat_map f (take (i + 1) xs) ≡ flat_map f (take i xs) ++ f x = ap (flat_map f) one_more ∙ flat_map-append f (take i xs) (x ∷ []) ∙ ap (λ l. flat_map f (take i xs) ++ l) (append-nil (f x)) in
    subst (λ l. Adds scope l s u) (sym e) (Adds-append scope (flat_map f (take i xs)) (f x) s t u before this)

pub words_added : {X : Type 0} (g : X → List ℕ) (xs : List X) (i : ℕ) → length xs ≤ i → flat_map (λ x. g x ∷ []) (take i xs) ≡ map g xs
words_added g xs i h = ap (flat_map (λ x. g x ∷ [])) (take_past xs i h) ∙ flat_map-one g xs

-- what a map field declares
pub map_names : (f : FieldView) (key : Kind) → f.shape ≡ shape.Map key → names_of_field f ≡ f.name ∷ entry_name f.name ∷ []
map_names f key e = ap (λ s. names_of_field (record { name = f.name; number = f.number; kind = f.kind; shape = s })) e

-- ONE NAME

and_true : (b : Bool) → (b && true) ≡ b
and_true true = refl
and_true false = refl

and_false : (b : Bool) → (b && false) ≡ false
and_false true = refl
and_false false = refl

module _ (a b : Declarations) (name : List ℕ) (i : ℕ) where
  is_first : full_names_of b.tree ≡ full_names_of a.tree ++ name ∷ [] → i ≡ length (full_names_of a.tree) → ¬ Contains (full_names_of a.tree) name → IsTree b.tree → b.differ ≡ (a.differ && true) → AddedAt (name ∷ []) name a b i
  is_first e last new tree differ = record {
    added = record {
      tree = tree;
      kept = λ k x at. subst (λ l. slice_get l k ≡ Some x) (sym e) (get-front (full_names_of a.tree) (name ∷ []) k x at);
      declared = λ before was. record {
        members = λ x. (
          λ h. ⊎_elim (λ old. Contains-append_left before (name ∷ []) x ((was.members x).0 old)) (λ same. subst (Contains (before ++ name ∷ [])) same (Contains-push before name)) (Contains-push_cases (full_names_of a.tree) name x (subst (λ l. Contains l x) e h)),
          λ h. subst (λ l. Contains l x) (sym e) (⊎_elim (λ old. Contains-append_left (full_names_of a.tree) (name ∷ []) x ((was.members x).1 old)) (λ same. subst (Contains (full_names_of a.tree ++ name ∷ [])) same (Contains-push (full_names_of a.tree) name)) (Contains-push_cases before name x h)),
        );
        differ = (
          λ t. AllDiffer-push before name (was.differ.0 (sym (and_true a.differ) ∙ sym differ ∙ t)) (λ h. new ((was.members name).1 h)),
          λ all. differ ∙ and_true a.differ ∙ was.differ.1 (AllDiffer-front before (name ∷ []) all),
        );
      };
    };
    at_index = subst (λ l. slice_get l i ≡ Some name) (sym e) (subst (λ k. slice_get (full_names_of a.tree ++ name ∷ []) k ≡ Some name) (sym last) (get-push (full_names_of a.tree) name));
  }

  is_again : full_names_of b.tree ≡ full_names_of a.tree → slice_get (full_names_of a.tree) i ≡ Some name → Contains (full_names_of a.tree) name → IsTree b.tree → b.differ ≡ (a.differ && false) → AddedAt (name ∷ []) name a b i
  is_again e at known tree differ = record {
    added = record {
      tree = tree;
      kept = λ k x at. subst (λ l. slice_get l k ≡ Some x) (sym e) at;
      declared = λ before was. record {
        members = λ x. (
          λ h. Contains-append_left before (name ∷ []) x ((was.members x).0 (subst (λ l. Contains l x) e h)),
          λ h. subst (λ l. Contains l x) (sym e) (⊎_elim (λ old. (was.members x).1 old) (λ same. subst (Contains (full_names_of a.tree)) same known) (Contains-push_cases before name x h)),
        );
        differ = (
          λ t. absurd (false≢true (sym (and_false a.differ) ∙ sym differ ∙ t)),
          λ all. absurd (AllDiffer-new before name all ((was.members name).0 known)),
        );
      };
    };
    at_index = subst (λ l. slice_get l i ≡ Some name) (sym e) at;
  }

  by_new : (is_new : Bool) → IsAddedAt (full_names_of a.tree) (full_names_of b.tree) name i is_new → IsTree b.tree → b.differ ≡ (a.differ && is_new) → AddedAt (name ∷ []) name a b i
  by_new true at tree differ = is_first at.0 at.1 at.2 tree differ
  by_new false at tree differ = is_again at.0 at.1 (get-contains (full_names_of a.tree) i name at.1) tree differ

  pub added_one : (is_new : Bool) → NameAdded a.tree b.tree name i is_new → b.differ ≡ (a.differ && is_new) → AddedAt (name ∷ []) name a b i
  added_one is_new is differ = by_new is_new is.at_index is.tree differ

-- a message with what it declares
pub message_added : (scope : Option ℕ) (t : MessageView) (fs : List (List ℕ)) (a b c d : Declarations) (i : ℕ) → flat_map names_of_field t.fields ≡ fs → AddsOne scope t.name a b i → Adds (Some i) fs b c → Adds (Some i) t.oneofs c d → AddsMessage scope t a d i
message_added scope t fs a b c d i same first second third may =
    let name = named_in a scope t.name in
    let one : AddedAt (name ∷ []) name a b i = first (record { tree = may.tree; in_tree = may.in_tree; words = (may.words.0, tt) }) in
    let words : AreWords (fs ++ t.oneofs) = subst (λ l. AreWords (l ++ t.oneofs)) same may.words.1 in
    let rest : Added (map (named_in b (Some i)) (fs ++ t.oneofs)) b d = Adds-append (Some i) fs t.oneofs b c d second third (record { tree = one.added.tree; in_tree = slice_get_within (full_names_of b.tree) i name one.at_index; words = words }) in
    let named : name_at (full_names_of b.tree) i ≡ name = name_at-get (full_names_of b.tree) i name one.at_index in
    let all : Added (map (in_scope name) (names_in_message t)) b d = subst (λ l. Added (map (in_scope name) (l ++ t.oneofs)) b d) (sym same) (subst (λ n. Added (map (in_scope n) (fs ++ t.oneofs)) b d) named rest) in
    record { added = Added-append (name ∷ []) (map (in_scope name) (names_in_message t)) a b d one.added all; at_index = rest.kept i name one.at_index }

-- SCOPES

package_scope : (full : List (List ℕ)) (scopes : List (Option ℕ)) (files : List FileView) (messages : List ℕ) (file : ℕ) → ArePackages full scopes files → IsScope full (scope_id scopes messages file None) × (scope_name full (scope_id scopes messages file None) ≡ package_of files file)
package_scope full [] [] messages file are = (tt, refl)
package_scope full [] (f ∷ fs) messages file are = absurd are
package_scope full (s ∷ ss) [] messages file are = absurd are
package_scope full (s ∷ ss) (f ∷ fs) messages zero are = are.0
package_scope full (s ∷ ss) (f ∷ fs) messages (suc file) are = package_scope full ss fs messages file are.1

message_scope : (full : List (List ℕ)) (packages : List (Option ℕ)) (is : List ℕ) (names : List (List ℕ)) (file p : ℕ) → HaveNames full is names → IsScope full (scope_id packages is file (Some p)) × (scope_name full (scope_id packages is file (Some p)) ≡ name_at names p)
message_scope full packages [] [] file p are = (tt, refl)
message_scope full packages [] (n ∷ ns) file p are = absurd are
message_scope full packages (i ∷ is) [] file p are = absurd are
message_scope full packages (i ∷ is) (n ∷ ns) file zero are = (slice_get_within full i n are.0, name_at-get full i n are.0)
message_scope full packages (i ∷ is) (n ∷ ns) file (suc p) are = message_scope full packages is ns file p are.1

pub scope_right : (full : List (List ℕ)) (packages : List (Option ℕ)) (is : List ℕ) (files : List FileView) (names : List (List ℕ)) (file : ℕ) (parent : Option ℕ) → ArePackages full packages files → HaveNames full is names → IsScope full (scope_id packages is file parent) × (scope_name full (scope_id packages is file parent) ≡ scope_by_names files names file parent)
scope_right full packages is files names file None are have = package_scope full packages files is file are
scope_right full packages is files names file (Some p) are have = message_scope full packages is names file p have

pub names_kept : (old new : List (List ℕ)) (is : List ℕ) (names : List (List ℕ)) → Keeps old new → HaveNames old is names → HaveNames new is names
names_kept old new [] [] kept are = tt
names_kept old new [] (n ∷ ns) kept are = absurd are
names_kept old new (i ∷ is) [] kept are = absurd are
names_kept old new (i ∷ is) (n ∷ ns) kept are = (kept i n are.0, names_kept old new is ns kept are.1)

-- MESSAGES

words_of_fields : (fs : List FieldView) → AllByRecursion (λ f. AreWords (names_of_field f)) fs → AreWords (flat_map names_of_field fs)
words_of_fields [] all = tt
words_of_fields (f ∷ fs) all = all_join (λ w. IsTrue (is_word w)) (names_of_field f) (flat_map names_of_field fs) all.0 (words_of_fields fs all.1)

words_of_message : (t : MessageView) → MessageIsOfWords t → AreWords (t.name ∷ names_in_message t)
words_of_message t ok = (ok.0, all_join (λ w. IsTrue (is_word w)) (flat_map names_of_field t.fields) t.oneofs (words_of_fields t.fields ok.1) ok.2)

-- the messages so far
pub record SoFar (files : List FileView) (ms front : List MessageView) (indexes : List ℕ) (old now : Declarations) : Type 0 where
  pub added : Added (flat_map (declared_by_message files ms) front) old now
  pub names : HaveNames (full_names_of now.tree) indexes (map (message_name files ms) front)

pub messages-none : (files : List FileView) (ms : List MessageView) (d : Declarations) → IsTree d.tree → SoFar files ms [] [] d d
messages-none files ms d tree = record { added = Added-none d tree; names = tt }

pub messages-more : (files : List FileView) (xs : List MessageType) (packages : List (Option ℕ)) (indexes : List ℕ) (i k : ℕ) (x : MessageType) (a b c : Declarations) → MayAddMessages files packages (map message_view xs) a → i < length xs → x ≡ get_or xs i x → SoFar files (map message_view xs) (map message_view (take i xs)) indexes a b → AddsMessage (scope_id packages indexes x.file (parent_view x.parent)) (message_view x) b c k → SoFar files (map message_view xs) (map message_view (take (i + 1) xs)) (indexes ++ k ∷ []) a c
messages-more files xs packages indexes i k x a b c may h is so this =
    let ms = map message_view xs in
    let parents = subst (ParentsStandBefore ms) (length-map xs message_view) may.parents in
    let B = full_names_of b.tree in
    let F = message_name files ms in
    let t = message_view x in
    let scope = scope_id packages indexes x.file (parent_view x.parent) in
    let right = scope_right B packages indexes files (map F (map message_view (take i xs))) x.file (parent_view x.parent) (packages_kept (full_names_of a.tree) B packages files so.added.kept may.packages) so.names in
    let parent : parent_of ms i ≡ parent_view x.parent = parent_of-map xs i x h ∙ ap (λ (s : MessageType). parent_view s.parent) (sym is) in
    let around : scope_name B scope ≡ scope_of files ms x.file (parent_view x.parent) = right.1 ∙ so_far files xs i x.file (parent_view x.parent) parents h parent in
    let named : named_in b scope t.name ≡ F t = ap (λ s. in_scope s t.name) around in
    let one = this (record { tree = so.added.tree; in_tree = right.0; words = words_of_message t (all_at MessageIsOfWords message_view xs i x may.words h is) }) in
    let one' : AddedAt (declared_by_message files ms t) (F t) b c k = subst (λ n. AddedAt (names_by_message n t) n b c k) named one in
    let more : map message_view (take (i + 1) xs) ≡ map message_view (take i xs) ++ t ∷ [] = ap (map message_view) (take_more xs i x h ∙ ap (λ y. take i xs ++ y ∷ []) (sym is)) ∙ map_push message_view (take i xs) x in
    let D = declared_by_message files ms in
    let front = map message_view (take i xs) in
    let joined : flat_map D (front ++ t ∷ []) ≡ flat_map D front ++ D t = flat_map-append D front (t ∷ []) ∙ ap (λ l. flat_map D front ++ l) (append-nil (D t)) in
    subst (λ l. SoFar files ms l (indexes ++ k ∷ []) a c) (sym more) (record {
      added = subst (λ l. Added l a c) (sym joined) (Added-append (flat_map D front) (D t) a b c so.added one'.added);
      names = subst (λ l. HaveNames (full_names_of c.tree) (indexes ++ k ∷ []) l) (sym (map_push F front t)) (zip_push (λ j name. slice_get (full_names_of c.tree) j ≡ Some name) indexes (map F front) k (F t) (names_kept B (full_names_of c.tree) indexes (map F front) one'.added.kept so.names) one'.at_index);
    })

pub messages-all : (files : List FileView) (xs : List MessageType) (indexes : List ℕ) (i : ℕ) (a b : Declarations) → length xs ≤ i → SoFar files (map message_view xs) (map message_view (take i xs)) indexes a b → MessagesAdded files (map message_view xs) indexes a b
messages-all files xs indexes i a b h so =
    let e = take_past xs i h in
    record {
      added = subst (λ l. Added (flat_map (declared_by_message files (map message_view xs)) (map message_view l)) a b) e so.added;
      names = subst (λ l. HaveNames (full_names_of b.tree) indexes (map (message_name files (map message_view xs)) (map message_view l))) e so.names;
    }

-- ENUMS

pub enums-more : (files : List FileView) (ms : List MessageView) (xs : List EnumType) (packages : List (Option ℕ)) (messages : List ℕ) (i : ℕ) (x : EnumType) (a b c : Declarations) → MayAddEnums files ms packages messages (map enum_view xs) a → i < length xs → x ≡ get_or xs i x → Added (flat_map (declared_by_enum files ms) (map enum_view (take i xs))) a b → Adds (scope_id packages messages x.file (parent_view x.parent)) (names_of_enum (enum_view x)) b c → Added (flat_map (declared_by_enum files ms) (map enum_view (take (i + 1) xs))) a c
enums-more files ms xs packages messages i x a b c may h is so this =
    let B = full_names_of b.tree in
    let e = enum_view x in
    let scope = scope_id packages messages x.file (parent_view x.parent) in
    let right = scope_right B packages messages files (map (message_name files ms) ms) x.file (parent_view x.parent) (packages_kept (full_names_of a.tree) B packages files so.kept may.packages) (names_kept (full_names_of a.tree) B messages (map (message_name files ms) ms) so.kept may.messages) in
    let around : scope_name B scope ≡ scope_of files ms x.file (parent_view x.parent) = right.1 ∙ sym (scope_of-names files ms x.file (parent_view x.parent) may.parents) in
    let one = this (record { tree = so.tree; in_tree = right.0; words = all_at EnumIsOfWords enum_view xs i x may.words h is }) in
    let one' : Added (declared_by_enum files ms e) b c = subst (λ s. Added (map (in_scope s) (names_of_enum e)) b c) around one in
    let more : map enum_view (take (i + 1) xs) ≡ map enum_view (take i xs) ++ e ∷ [] = ap (map enum_view) (take_more xs i x h ∙ ap (λ y. take i xs ++ y ∷ []) (sym is)) ∙ map_push enum_view (take i xs) x in
    let D = declared_by_enum files ms in
    let front = map enum_view (take i xs) in
    let joined : flat_map D (front ++ e ∷ []) ≡ flat_map D front ++ D e = flat_map-append D front (e ∷ []) ∙ ap (λ l. flat_map D front ++ l) (append-nil (D e)) in
    subst (λ l. Added (flat_map D l) a c) (sym more) (subst (λ l. Added l a c) (sym joined) (Added-append (flat_map D front) (D e) a b c so one'))

pub enums-all : (files : List FileView) (ms : List MessageView) (xs : List EnumType) (i : ℕ) (a b : Declarations) → length xs ≤ i → Added (flat_map (declared_by_enum files ms) (map enum_view (take i xs))) a b → Added (flat_map (declared_by_enum files ms) (map enum_view xs)) a b
enums-all files ms xs i a b h so = subst (λ l. Added (flat_map (declared_by_enum files ms) (map enum_view l)) a b) (take_past xs i h) so

-- THE RULES

differ_join : {X : Type 0} (xs ys : List X) → AllDiffer xs → AllDiffer ys → ((x : X) → Contains xs x → ¬ Contains ys x) → AllDiffer (xs ++ ys)
differ_join [] ys a b apart = b
differ_join (x ∷ xs) ys a b apart = (
  all_join (λ y. x ≢ y) xs ys a.0 (all_of (λ y. x ≢ y) ys (λ y h e. apart x (Contains-first x xs) (subst (Contains ys) (sym e) h))),
  differ_join xs ys a.1 b (λ y h. apart y (Contains-later y x xs h)),
)

differ_apart : {X : Type 0} (xs ys : List X) (x : X) → AllDiffer (xs ++ ys) → Contains xs x → ¬ Contains ys x
differ_apart [] ys x all h k = Contains-none x h
differ_apart (z ∷ zs) ys x all h k =
    ⊎_elim (λ e. All-at (λ y. z ≢ y) ys x (all_back (λ y. z ≢ y) zs ys all.0) k e) (λ later. differ_apart zs ys x all.1 later k) (Contains-cases x z zs h)

-- the names and those before them differ where the names do, and none of them is one of those
pub differ_behind : (before names packages : List (List ℕ)) → AllDiffer before → ((x : List ℕ) → Contains before x ↔ Contains packages x) → AllDiffer (before ++ names) ↔ (AllDiffer names × AllByRecursion (λ p. ¬ Contains names p) packages)
differ_behind before names packages differ same = (
  λ all. (AllDiffer-back before names all, all_of (λ p. ¬ Contains names p) packages (λ p h. differ_apart before names p all ((same p).1 h))),
  λ both. differ_join before names differ both.0 (λ x h. All-at (λ p. ¬ Contains names p) packages x both.1 ((same x).0 h)),
)

pub all_flat : {X Y : Type 0} (P : Y → Type 0) (g : X → List Y) (xs : List X) → AllByRecursion P (flat_map g xs) ↔ AllByRecursion (λ x. AllByRecursion P (g x)) xs
all_flat P g [] = (λ _. tt, λ _. tt)
all_flat P g (x ∷ xs) = (
  λ all. (all_front P (g x) (flat_map g xs) all, (all_flat P g xs).0 (all_back P (g x) (flat_map g xs) all)),
  λ all. all_join P (g x) (flat_map g xs) all.0 ((all_flat P g xs).1 all.1),
)

pub declared_rules : (ts : Types) (none packages_tree : NameTree) (scopes : List (Option ℕ)) (indexes : List ℕ) (start middle end : Declarations) → full_names_of none ≡ [] → PackagesAdded none packages_tree ts.files scopes → start.tree ≡ packages_tree → start.differ ≡ true → MessagesAdded ts.files ts.messages indexes start middle → Added (flat_map (declared_by_enum ts.files ts.messages) ts.enums) middle end → IsTrue end.differ ↔ (FullNamesDiffer ts × PackagesAreFree ts)
declared_rules ts none packages_tree scopes indexes start middle end empty packs same_tree fresh messages enums =
    let B = full_names_of packages_tree in
    let D = declared_names ts in
    let M = flat_map (declared_by_message ts.files ts.messages) ts.messages in
    let E = flat_map (declared_by_enum ts.files ts.messages) ts.enums in
    let P = flat_map (λ (f : FileView). packages_of f.package_name) ts.files in
    let begun : IsDeclared B start = record {
      members = λ x. subst (λ t. Contains (full_names_of t) x ↔ Contains B x) (sym same_tree) (λ h. h, λ h. h);
      differ = (λ _. packs.tree.named.differ, λ _. fresh);
    } in
    let done : IsDeclared (B ++ M ++ E) end = enums.declared (B ++ M) (messages.added.declared B begun) in
    let all : IsDeclared (B ++ D) end = subst (λ l. IsDeclared l end) (append_assoc B M E) done in
    let same : (x : List ℕ) → Contains B x ↔ Contains P x = λ x. (λ h. ⊎_elim (λ o. Contains-none x (subst (λ l. Contains l x) empty o)) (λ p. p) ((packs.members x).0 h), λ p. (packs.members x).1 (inr p)) in
    iff_trans all.differ (iff_trans (differ_behind B D P packs.tree.named.differ same) (
      λ both. (both.0, (all_flat (λ p. ¬ Contains D p) (λ (f : FileView). packages_of f.package_name) ts.files).0 both.1),
      λ both. (both.0, (all_flat (λ p. ¬ Contains D p) (λ (f : FileView). packages_of f.package_name) ts.files).1 both.1),
    ))
