-- The declarations of a pool's types make the pool again.
use Rattle.std.proofs.Common.{◌≡◌, ℕ, suc, List, [], ◌∷◌, Bool, true, false, not, cond, map, length, take, refl, sym, ap, ◌∙◌, arith, Option, Some, None}
use Rattle.std.specs.Prelude.{slice_get, filter, filter_map}
use Rattle.std.specs.List.{cons_option}
use Rattle.pb_schema.specs.Types.{MessageView, EnumView, Types}
use Rattle.pb_schema.specs.Names.{in_scope}
use Rattle.pb_schema.specs.Rules.{IsPool}
use Rattle.pb_link_names.specs.Declarations.{Item, a_file, a_message, a_field, a_oneof, an_enum, a_value, a_service, a_method, Declaration}
use Rattle.pb_link_rules.specs.Rules.{World, is_enum, is_message_type}
use Rattle.pb_link_rules.specs.Link.{IsWorldOf}
use Rattle.pb_link.specs.PoolOf.{message_index, enum_index, message_of_head, message_by_item, message_type, enum_by_item, enum_type, field_type, pool_of}
use Rattle.pb_link.specs.ToDecls.{declared_head, decls_of}
use Rattle.pb_link.proofs.CutLemmas.{count}
use Rattle.pb_link.proofs.RowCountLemmas.{OfMessage, OfEnum}
use Rattle.pb_link.proofs.DeclaredFileLemmas.{files_again}
use Rattle.pb_link.proofs.DeclaredPlaces.{AtMessage, AtEnum, Placed, at_message, at_enum, at_other}
use Rattle.pb_link.proofs.DeclaredPlaceLemmas.{placed, all_messages, all_enums}
use Rattle.pb_link.proofs.ShapeAgainLemmas.{oneofs_again}
use Rattle.pb_link.proofs.FieldAgainLemmas.{fields_again}

false_true : ◌≡◌ {A = Bool} false true → ⊥
false_true e = cc

-- Where each element that passes a test makes the next one of a list, and no other makes any, they make the list.
record Makes {X Y : Type 0} (t : X → Bool) (g : X → Option Y) (ys : List Y) (before : List X) (x : X) : Type 0 where
  passes : t x ≡ true → g x ≡ slice_get ys (count t before)
  fails : t x ≡ false → g x ≡ None

made : {X Y : Type 0} (t : X → Bool) (g : X → Option Y) (xs : List X) (ys : List Y) → ((k : ℕ) (x : X) → slice_get xs k ≡ Some x → Makes t g ys (take k xs) x) → count t xs ≡ length ys → filter_map g xs ≡ ys
made t g [] [] each size = refl
made t g [] (y ∷ ys) each size = absurd (omega (arith, size))
made {X = X} {Y = Y} t g (x ∷ xs) ys each size = by (t x) refl ys each size (made t g xs)
  where
    passed : t x ≡ true → (k : ℕ) → count t (take (suc k) (x ∷ xs)) ≡ suc (count t (take k xs))
    passed is k = ap (λ b. length (cond b (x ∷ filter t (take k xs)) (filter t (take k xs)))) is

    failed : t x ≡ false → (k : ℕ) → count t (take (suc k) (x ∷ xs)) ≡ count t (take k xs)
    failed is k = ap (λ b. length (cond b (x ∷ filter t (take k xs)) (filter t (take k xs)))) is

    by : (b : Bool) → t x ≡ b → (zs : List Y) → ((k : ℕ) (z : X) → slice_get (x ∷ xs) k ≡ Some z → Makes t g zs (take k (x ∷ xs)) z) → count t (x ∷ xs) ≡ length zs → ((vs : List Y) → ((k : ℕ) (z : X) → slice_get xs k ≡ Some z → Makes t g vs (take k xs) z) → count t xs ≡ length vs → filter_map g xs ≡ vs) → cons_option (g x) (filter_map g xs) ≡ zs
    by false is zs each size rest =
        ap (λ o. cons_option o (filter_map g xs)) ((each 0 x refl).fails is)
        ∙ rest zs
        (λ k z there. record { passes = λ h. (each (suc k) z there).passes h ∙ ap (slice_get zs) (failed is k); fails = (each (suc k) z there).fails })
        (sym (ap (λ b. length (cond b (x ∷ filter t xs) (filter t xs))) is) ∙ size)
    by true is [] each size rest = let some : count t (x ∷ xs) ≡ suc (count t xs) = ap (λ b. length (cond b (x ∷ filter t xs) (filter t xs))) is in absurd (omega (arith, size, some))
    by true is (y ∷ zs) each size rest =
        let some : count t (x ∷ xs) ≡ suc (count t xs) = ap (λ b. length (cond b (x ∷ filter t xs) (filter t xs))) is in
        ap (λ o. cons_option o (filter_map g xs)) ((each 0 x refl).passes is)
        ∙ ap (λ l. y ∷ l) (rest zs
        (λ k z there. record { passes = λ h. (each (suc k) z there).passes h ∙ ap (slice_get (y ∷ zs)) (passed is k); fails = (each (suc k) z there).fails })
        (omega (arith, size, some)))

no_message : (w : World) (d : Declaration) (it : Item) → is_message_type it ≡ false → message_by_item w d it ≡ None
no_message w d (a_message head inner) h = by head.is_entry h
  where
    by : (b : Bool) → not b ≡ false → cond b None (Some (message_of_head w d head)) ≡ None
    by true e = refl
    by false e = absurd (false_true (sym e))
no_message w d (a_file f) h = refl
no_message w d (a_field head i f) h = refl
no_message w d (a_oneof head i name) h = refl
no_message w d (an_enum e) h = refl
no_message w d (a_value e i v) h = refl
no_message w d (a_service s) h = refl
no_message w d (a_method m) h = refl

no_enum : (w : World) (d : Declaration) (it : Item) → is_enum it ≡ false → enum_by_item w d it ≡ None
no_enum w d (an_enum e) h = absurd (false_true (sym h))
no_enum w d (a_message head inner) h = refl
no_enum w d (a_file f) h = refl
no_enum w d (a_field head i f) h = refl
no_enum w d (a_oneof head i name) h = refl
no_enum w d (a_value e i v) h = refl
no_enum w d (a_service s) h = refl
no_enum w d (a_method m) h = refl

module _ (ts : Types) (pool : IsPool ts) (w : World) (world : IsWorldOf (decls_of ts) w) where
  -- MESSAGES

  message_again : (place : ℕ) (d : Declaration) (m : ℕ × MessageView) → AtMessage ts w place d m → message_type w d ≡ Some m.1
  message_again place d m at =
      let head = declared_head ts m.0 m.1 in
      let name = in_scope d.scope m.1.name in
      let fields : map (field_type w d.file name) head.fields ≡ m.1.fields = ap (λ n. map (field_type w n name) head.fields) at.file ∙ fields_again ts pool w world m at.stands name in
      ap (message_by_item w d) at.item
      ∙ (λ i. Some (record { name = m.1.name; file = at.file i; parent = at.around i; fields = fields i; oneofs = oneofs_again ts pool m at.stands i }))

  message_made : (place : ℕ) (d : Declaration) → slice_get w.declared place ≡ Some d → Makes OfMessage (message_type w) ts.messages (take place w.declared) d
  message_made place d there = record { passes = λ h. passes (placed ts pool w world place d there) h; fails = no_message w d d.item }
    where
      passes : Placed ts w place d → is_message_type d.item ≡ true → message_type w d ≡ slice_get ts.messages (message_index w place)
      passes (at_message m at) h = message_again place d m at ∙ sym at.stands ∙ ap (slice_get ts.messages) (sym at.index)
      passes (at_enum e at) h = absurd (false_true (sym (ap is_message_type at.item) ∙ h))
      passes (at_other no_message no_enum) h = absurd (false_true (sym no_message ∙ h))

  messages_again : filter_map (message_type w) w.declared ≡ ts.messages
  messages_again = made OfMessage (message_type w) w.declared ts.messages message_made (all_messages ts pool w world)

  -- ENUMS

  enum_again : (place : ℕ) (d : Declaration) (e : ℕ × EnumView) → AtEnum ts w place d e → enum_type w d ≡ Some e.1
  enum_again place d e at =
      ap (enum_by_item w d) at.item
      ∙ (λ i. Some (record { name = e.1.name; file = at.file i; parent = at.around i; values = e.1.values }))

  enum_made : (place : ℕ) (d : Declaration) → slice_get w.declared place ≡ Some d → Makes OfEnum (enum_type w) ts.enums (take place w.declared) d
  enum_made place d there = record { passes = λ h. passes (placed ts pool w world place d there) h; fails = no_enum w d d.item }
    where
      passes : Placed ts w place d → is_enum d.item ≡ true → enum_type w d ≡ slice_get ts.enums (enum_index w place)
      passes (at_enum e at) h = enum_again place d e at ∙ sym at.stands ∙ ap (slice_get ts.enums) (sym at.index)
      passes (at_message m at) h = absurd (false_true (sym (ap is_enum at.item) ∙ h))
      passes (at_other no_message no_enum) h = absurd (false_true (sym no_enum ∙ h))

  enums_again : filter_map (enum_type w) w.declared ≡ ts.enums
  enums_again = made OfEnum (enum_type w) w.declared ts.enums enum_made (all_enums ts pool w world)

  pub pool_again : pool_of (decls_of ts) w ≡ ts
  pool_again = λ i. record { files = files_again ts pool i; messages = messages_again i; enums = enums_again i }
