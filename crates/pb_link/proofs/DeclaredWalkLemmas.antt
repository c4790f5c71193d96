-- Going through the declarations of a pool's types in their order, place by place, beside its messages and its enums in theirs.
use Rattle.std.proofs.Common.{◌≡◌, ℕ, zero, suc, ◌+◌, List, [], ◌∷◌, ◌++◌, map, length, refl, sym, ap, ◌∙◌, subst, arith, Option, Some, None, append_assoc, length-append}
use Rattle.std.specs.Prelude.{slice_get, filter_map}
use Rattle.std.specs.List.{AllByRecursion, flat_map, cons_option, enumerate_from}
use Rattle.std.proofs.lemmas.List.{length-map}
use Rattle.pb_schema.specs.declared.types.Shape.{Shape}
use Rattle.pb_schema.specs.declared.types.Shape.TheVariants as shape
use Rattle.pb_schema.specs.Types.{FieldView, MessageView, EnumView, Types}
use Rattle.pb_schema.specs.Rules.{IsPool}
use Rattle.pb_declarations.specs.Decls.{DeclaredMessage, message, DeclaredMessages, messages_of}
use Rattle.pb_link_names.specs.Declarations.{a_field, a_oneof, a_value, Declaration, fields_of, oneofs_of, enum_declared, enums_declared, head_row, message_declared, messages_declared}
use Rattle.pb_link_rules.specs.Rules.{World}
use Rattle.pb_link.specs.PoolOf.{message_index, enum_index, parent_type}
use Rattle.pb_link.specs.ToDecls.{numbered, declared_head, declared_enum, declared_message, entry_of_field}
use Rattle.pb_link.proofs.FlatLemmas.{Stands, under}
use Rattle.pb_link.proofs.EnumWholeLemmas.{numbered_enums, enums_under}
use Rattle.pb_link.proofs.HeadLemmas.{heads_under}
use Rattle.pb_link.proofs.EnumHeadLemmas.{declared_one, declared_under}
use Rattle.pb_link.proofs.EachDeclaredLemmas.{Scope}
use Rattle.pb_link.proofs.CutLemmas.{count, Cut, cut_front, cut_back, cut_first, cut_count, AllFrom, from_append, from_map}
use Rattle.pb_link.proofs.RowCountLemmas.{OfMessage, OfEnum, message_counted, message_enums, one_enum}
use Rattle.pb_link.proofs.DeclaredPlaces.{Placed, at_message, at_enum, at_other}

-- ROWS

pub row_append : (file parent : ℕ) (scope : List ℕ) (place : ℕ) (xs ys : List DeclaredMessage) → messages_declared file parent scope place (messages_of (xs ++ ys)) ≡ messages_declared file parent scope place (messages_of xs) ++ messages_declared file parent scope (place + length (messages_declared file parent scope place (messages_of xs))) (messages_of ys)
row_append file parent scope place [] ys = let e : place ≡ place + 0 = omega arith in ap (λ n. messages_declared file parent scope n (messages_of ys)) e
row_append file parent scope place (x ∷ xs) ys =
    let own = message_declared file parent scope place x in
    let rest = messages_declared file parent scope (place + length own) (messages_of xs) in
    let size = length-append own rest in
    let e : place + length own + length rest ≡ place + length (own ++ rest) = omega (arith, size) in
    ap (λ l. own ++ l) (row_append file parent scope (place + length own) xs ys)
    ∙ ap (λ n. own ++ (rest ++ messages_declared file parent scope n (messages_of ys))) e
    ∙ sym (append_assoc own rest (messages_declared file parent scope (place + length (own ++ rest)) (messages_of ys)))

-- the element at an index of numbered ones
pub index_of : {X : Type 0} (k : ℕ) (xs : List X) (i : ℕ) (x : ℕ × X) → slice_get (enumerate_from k xs) i ≡ Some x → x.0 ≡ k + i
index_of k [] i x h = absurd (none_some h)
  where
    none_some : {A : Type 0} {a : A} → None ≡ Some a → ⊥
    none_some e = cc
index_of {X = X} k (y ∷ xs) zero x h = let e : k ≡ k + 0 = omega arith in sym (ap (λ z. z.0) (same (k, y) x h)) ∙ e
  where
    same : (a b : ℕ × X) → Some a ≡ Some b → a ≡ b
    same a b h = cc
index_of k (y ∷ xs) (suc i) x h = let e : k + 1 + i ≡ k + suc i = omega arith in index_of (k + 1) xs i x h ∙ e

module _ (ts : Types) (pool : IsPool ts) (w : World) where
  abbrev pub At : ℕ → Declaration → Type 0
  At = Placed ts w

  abbrev pub Row : ℕ → List Declaration → Type 0
  Row place row = Cut Declaration w.declared place row

  -- the messages that come next, and the enums
  abbrev pub Next : ℕ → List (ℕ × MessageView) → Type 0
  Next place ms = Cut (ℕ × MessageView) (numbered ts) (message_index w place) ms

  abbrev pub NextEnums : ℕ → List (ℕ × EnumView) → Type 0
  NextEnums place es = Cut (ℕ × EnumView) (numbered_enums ts) (enum_index w place) es

  -- past a row
  pub next_after : (place : ℕ) (row : List Declaration) (ms ns : List (ℕ × MessageView)) → Row place row → count OfMessage row ≡ length ms → Next place (ms ++ ns) → Next (place + length row) ns
  next_after place row ms ns cut size next =
      let moved : message_index w (place + length row) ≡ message_index w place + length ms = cut_count Declaration w.declared OfMessage place row cut ∙ ap (λ n. message_index w place + n) size in
      subst (λ n. Cut (ℕ × MessageView) (numbered ts) n ns) (sym moved) (cut_back (ℕ × MessageView) (numbered ts) (message_index w place) ms ns next)

  pub enums_after : (place : ℕ) (row : List Declaration) (es fs : List (ℕ × EnumView)) → Row place row → count OfEnum row ≡ length es → NextEnums place (es ++ fs) → NextEnums (place + length row) fs
  enums_after place row es fs cut size next =
      let moved : enum_index w (place + length row) ≡ enum_index w place + length es = cut_count Declaration w.declared OfEnum place row cut ∙ ap (λ n. enum_index w place + n) size in
      subst (λ n. Cut (ℕ × EnumView) (numbered_enums ts) n fs) (sym moved) (cut_back (ℕ × EnumView) (numbered_enums ts) (enum_index w place) es fs next)

  -- what may stand there: something of a file, in a scope, in the message of an index or outside
  pub record Fits (file parent : ℕ) (scope : List ℕ) (of_file : ℕ) (up : Option ℕ) : Type 0 where
    pub same_file : file ≡ of_file
    pub same_scope : scope ≡ Scope ts of_file up
    pub around : parent_type w parent ≡ up

  -- ENUMS

  abbrev pub EnumIn : ℕ → ℕ → List ℕ → ℕ × EnumView → Type 0
  EnumIn file parent scope e = (slice_get ts.enums e.0 ≡ Some e.1) × Fits file parent scope e.1.file e.1.parent

  walk_enum : (file parent : ℕ) (scope : List ℕ) (place : ℕ) (e : ℕ × EnumView) (es : List (ℕ × EnumView)) → EnumIn file parent scope e → Row place (enum_declared file parent scope place (declared_enum e.1)) → NextEnums place (e ∷ es) → AllFrom At place (enum_declared file parent scope place (declared_enum e.1))
  walk_enum file parent scope place e es fits cut next = (
    at_enum e (record {
      stands = fits.0;
      there = cut_first Declaration w.declared place _ _ cut;
      file = fits.1.same_file;
      scope = fits.1.same_scope;
      item = refl;
      index = let z : 0 + enum_index w place ≡ enum_index w place = omega arith in sym (index_of 0 ts.enums (enum_index w place) e (cut_first (ℕ × EnumView) (numbered_enums ts) (enum_index w place) e es next) ∙ z);
      around = fits.1.around;
    }),
    from_map At (λ v. record { file = file; parent = place; scope = scope; item = a_value (declared_enum e.1) v.0 v.1 }) (place + 1) 0 e.1.values (λ j v there. at_other refl refl),
  )

  pub walk_enums : (file parent : ℕ) (scope : List ℕ) (place : ℕ) (es : List (ℕ × EnumView)) → AllByRecursion (EnumIn file parent scope) es → Row place (enums_declared file parent scope place (map declared_one es)) → NextEnums place es → AllFrom At place (enums_declared file parent scope place (map declared_one es))
  walk_enums file parent scope place [] all cut next = tt
  walk_enums file parent scope place (e ∷ es) all cut next =
      let own = enum_declared file parent scope place (declared_enum e.1) in
      let rest = enums_declared file parent scope (place + length own) (map declared_one es) in
      let front = cut_front Declaration w.declared place own rest cut in
      from_append At place own rest
      (walk_enum file parent scope place e es all.0 front next)
      (walk_enums file parent scope (place + length own) es all.1 (cut_back Declaration w.declared place own rest cut) (enums_after place own (e ∷ []) es front (one_enum file parent scope place (declared_enum e.1)) next))

  -- ENTRY MESSAGES

  pub walk_entries : (file parent : ℕ) (scope : List ℕ) (place : ℕ) (fs : List FieldView) → AllFrom At place (messages_declared file parent scope place (messages_of (filter_map (entry_of_field ts) fs)))
  walk_entries file parent scope place [] = tt
  walk_entries file parent scope place (f ∷ fs) = by f.shape (λ n. walk_entries file parent scope n fs)
    where
      by : (s : Shape) → ((n : ℕ) → AllFrom At n (messages_declared file parent scope n (messages_of (filter_map (entry_of_field ts) fs)))) → AllFrom At place (messages_declared file parent scope place (messages_of (cons_option (entry_of_field ts (record f { shape = s })) (filter_map (entry_of_field ts) fs))))
      by (shape.Map key) rest =
          let e : place + 3 ≡ place + 1 + 1 + 1 = omega arith in
          (at_other refl refl, (at_other refl refl, (at_other refl refl, subst (λ n. AllFrom At n (messages_declared file parent scope (place + 3) (messages_of (filter_map (entry_of_field ts) fs)))) e (rest (place + 3)))))
      by shape.Implicit rest = rest place
      by shape.Explicit rest = rest place
      by (shape.OneofMember o) rest = rest place
      by (shape.List packed) rest = rest place

  -- MESSAGES

  abbrev pub MessageIn : ℕ → ℕ → List ℕ → ℕ × MessageView → Type 0
  MessageIn file parent scope c = Stands ts c × Fits file parent scope c.1.file c.1.parent

  abbrev pub Walks : ℕ → ℕ × MessageView → Type 0
  Walks levels c = (file parent : ℕ) (scope : List ℕ) (place : ℕ) → Fits file parent scope c.1.file c.1.parent → Row place (message_declared file parent scope place (declared_message levels ts c)) → Next place (under ts levels c) → NextEnums place (enums_under ts levels c) → AllFrom At place (message_declared file parent scope place (declared_message levels ts c))

  -- a message itself, its fields and its oneofs
  pub walk_head : (m : ℕ × MessageView) (ms : List (ℕ × MessageView)) (inner : DeclaredMessages) (file parent : ℕ) (scope name : List ℕ) (place : ℕ) → MessageIn file parent scope m → Row place (head_row file parent scope name place (message (declared_head ts m.0 m.1) inner)) → Next place (m ∷ ms) → AllFrom At place (head_row file parent scope name place (message (declared_head ts m.0 m.1) inner))
  walk_head m ms inner file parent scope name place fits cut next =
      let head = declared_head ts m.0 m.1 in (
        at_message m (record {
          stands = fits.0;
          there = cut_first Declaration w.declared place _ _ cut;
          file = fits.1.same_file;
          scope = fits.1.same_scope;
          inner = inner;
          item = refl;
          index = let z : 0 + message_index w place ≡ message_index w place = omega arith in sym (index_of 0 ts.messages (message_index w place) m (cut_first (ℕ × MessageView) (numbered ts) (message_index w place) m ms next) ∙ z);
          around = fits.1.around;
        }),
        from_append At (place + 1) (fields_of file place name head head.fields) (oneofs_of file place name head head.oneofs)
            (from_map At (λ e. record { file = file; parent = place; scope = name; item = a_field head e.0 e.1 }) (place + 1) 0 head.fields (λ j f there. at_other refl refl))
            (from_map At (λ e. record { file = file; parent = place; scope = name; item = a_oneof head e.0 e.1 }) (place + 1 + length (fields_of file place name head head.fields)) 0 head.oneofs (λ j f there. at_other refl refl)),
      )

  pub walk_messages : (levels : ℕ) (file parent : ℕ) (scope : List ℕ) (place : ℕ) (cs : List (ℕ × MessageView)) → AllByRecursion (λ c. MessageIn file parent scope c × Walks levels c) cs → Row place (messages_declared file parent scope place (messages_of (map (declared_message levels ts) cs))) → Next place (flat_map (under ts levels) cs) → NextEnums place (flat_map (enums_under ts levels) cs) → AllFrom At place (messages_declared file parent scope place (messages_of (map (declared_message levels ts) cs)))
  walk_messages levels file parent scope place [] all cut next enums = tt
  walk_messages levels file parent scope place (c ∷ cs) all cut next enums =
      let own = message_declared file parent scope place (declared_message levels ts c) in
      let rest = messages_declared file parent scope (place + length own) (messages_of (map (declared_message levels ts) cs)) in
      let front = cut_front Declaration w.declared place own rest cut in
      from_append At place own rest
      (all.0.1 file parent scope place all.0.0.1 front (cut_front (ℕ × MessageView) (numbered ts) (message_index w place) (under ts levels c) (flat_map (under ts levels) cs) next) (cut_front (ℕ × EnumView) (numbered_enums ts) (enum_index w place) (enums_under ts levels c) (flat_map (enums_under ts levels) cs) enums))
      (walk_messages levels file parent scope (place + length own) cs all.1 (cut_back Declaration w.declared place own rest cut)
      (next_after place own (under ts levels c) (flat_map (under ts levels) cs) front (message_counted file parent scope place (declared_message levels ts c) ∙ ap length (heads_under ts levels c) ∙ length-map (under ts levels c) (λ m. declared_head ts m.0 m.1)) next)
      (enums_after place own (enums_under ts levels c) (flat_map (enums_under ts levels) cs) front (message_enums file parent scope place (declared_message levels ts c) ∙ ap length (declared_under ts levels c) ∙ length-map (enums_under ts levels c) declared_one) enums))
