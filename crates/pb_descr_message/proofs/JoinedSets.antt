-- Sets whose bytes are joined are the set of the files of both.
use Rattle.std.proofs.Common.{◌≡◌, ℕ, zero, suc, ◌+◌, ◌-◌, ◌<◌, ◌≤◌, List, [], ◌∷◌, ◌++◌, map, take, drop, length, get_or, Some, refl, sym, ap, ◌∙◌, subst, arith}
use Rattle.std.specs.Prelude.{codes, slice_get}
use Rattle.std.proofs.lemmas.List.{append_assoc, take_all, take_more, map-append}
use Rattle.std.proofs.lemmas.List.Elements.{filter-append}
use Rattle.pb_wire.specs.Record.{Record}
use Rattle.pb_wire.specs.Fault.{Fault}
use Rattle.pb_wire.specs.Grammar.{HasFault}
use Rattle.pb_wire.specs.Limits.{Bounds, full}
use Rattle.pb_wire.specs.Sound.{AllSound}
use Rattle.pb_wire.proofs.Transfers.{take-add}
use Rattle.pb_wire.proofs.ExactLemmas.{text_not_both}
use Rattle.pb_wire.proofs.Unique.{same_records}
use Rattle.pb_schema.specs.Types.{FieldView, message_fields}
use Rattle.pb_schema.specs.Context.{a_message, schema_of}
use Rattle.pb_schema.specs.Closed.{known}
use Rattle.pb_schema.specs.Fits.{fits, fitting}
use Rattle.pb_value.specs.Data.{Datum, datums_of, Message, fields_of, get_field}
use Rattle.pb_value.specs.Value.{list_values, unless_no_elements, counting, held, value_within, value}
use Rattle.pb_value.proofs.StepLemmas.{get_field-fields_held}
use Rattle.pb_value.proofs.KnownLemmas.{known-append}
use Rattle.pb_value.proofs.JoinLemmas.{list_values-append}
use Rattle.pb_value.proofs.JoinedTexts.{AreRecords-append, AllSound-append}
use Rattle.pb_declarations.specs.Decls.{DeclaredFile}
use Rattle.pb_descr_message.specs.declared.cause.DeclCause.{DeclCause}
use Rattle.pb_descr_message.specs.Pool.{many, message, the_set, descriptor_types}
use Rattle.pb_descr_message.specs.Held.{elements, list_held, data_at}
use Rattle.pb_descr_message.specs.Reading.{file_in, files_in}
use Rattle.pb_descr_message.specs.Causes.{file_causes, causes_from, set_causes}
use Rattle.pb_descr_message.specs.Sets.{IsSetText, IsSetOf, AddsSet}
use Rattle.pb_descr_message.proofs.ReadLemmas.{silent_or_told}

-- THE FILES OF RECORDS

elements_back : (ds : List Datum) → elements (datums_of ds) ≡ ds
elements_back [] = refl
elements_back (d ∷ ds) = ap (λ l. d ∷ l) (elements_back ds)

list_kept : (ds : List Datum) → list_held (unless_no_elements ds) ≡ ds
list_kept [] = refl
list_kept (d ∷ ds) = elements_back (d ∷ ds)

abbrev the_files : FieldView
the_files = many 1 (codes "file") (message 1)

abbrev set_fields : List FieldView
set_fields = message_fields descriptor_types the_set

abbrev inside : ℕ → List Record → Message
inside = value_within descriptor_types 100

abbrev counted : List Record → List Record
counted rs = fitting the_files (known descriptor_types set_fields rs)

files_held : (rs : List Record) → data_at 1 (fields_of (value descriptor_types the_set rs)) ≡ list_values inside the_files.kind (counted rs)
unfolding value value_within
files_held rs =
    ap list_held (get_field-fields_held inside set_fields set_fields (known descriptor_types set_fields rs) 1 (tt, tt))
    ∙ list_kept (list_values inside the_files.kind (counted rs))

files_joined : (rs ss : List Record) → data_at 1 (fields_of (value descriptor_types the_set (rs ++ ss)))
    ≡ data_at 1 (fields_of (value descriptor_types the_set rs)) ++ data_at 1 (fields_of (value descriptor_types the_set ss))
files_joined rs ss =
    let k = the_files.kind in
    let v = list_values inside k in
    files_held (rs ++ ss)
    ∙ ap (λ l. v (fitting the_files l)) (known-append descriptor_types set_fields rs ss)
    ∙ ap v (filter-append (fits the_files) (known descriptor_types set_fields rs) (known descriptor_types set_fields ss))
    ∙ list_values-append inside k (counted rs) (counted ss)
    ∙ ap (λ l. l ++ v (counted ss)) (sym (files_held rs))
    ∙ ap (λ l. data_at 1 (fields_of (value descriptor_types the_set rs)) ++ l) (sym (files_held ss))

-- NO CAUSE

by_own : (i j : ℕ) (ds : List Datum) → (causes_from (i + 1) ds ≡ [] → causes_from (j + 1) ds ≡ []) → (cs : List DeclCause)
    → map (λ c. (i, c)) cs ++ causes_from (i + 1) ds ≡ [] → map (λ c. (j, c)) cs ++ causes_from (j + 1) ds ≡ []
by_own i j ds rest [] silent = rest silent
by_own i j ds rest (c ∷ cs) silent = absurd (cc)

-- that nothing is reported does not rest on the index
silent_anywhere : (i j : ℕ) (ds : List Datum) → causes_from i ds ≡ [] → causes_from j ds ≡ []
silent_anywhere i j [] silent = refl
silent_anywhere i j (d ∷ ds) silent = by_own i j ds (silent_anywhere (i + 1) (j + 1) ds) (file_causes d) silent

both_silent : (i : ℕ) (cs : List DeclCause) (xs ys : List (ℕ × DeclCause)) → map (λ c. (i, c)) cs ++ xs ≡ [] → (xs ≡ [] → ys ≡ []) → map (λ c. (i, c)) cs ++ ys ≡ []
both_silent i [] xs ys silent rest = rest silent
both_silent i (c ∷ cs) xs ys silent rest = absurd (cc)

silent_joined : (i : ℕ) (ds es : List Datum) → causes_from i ds ≡ [] → causes_from i es ≡ [] → causes_from i (ds ++ es) ≡ []
silent_joined i [] es silent second = second
silent_joined i (d ∷ ds) es silent second =
    both_silent i (file_causes d) (causes_from (i + 1) ds) (causes_from (i + 1) (ds ++ es)) silent (λ rest. silent_joined (i + 1) ds es rest (silent_anywhere i (i + 1) es second))

-- SETS

pub no_set : IsSetOf full [] []
no_set = record {
  set = value descriptor_types the_set [];
  text = record { size = omega arith; derives = record { records = []; spelled = refl; sound = AllSound.none; valued = refl } };
  silent = ap (causes_from 0) (files_held []);
  declared = sym (ap (map file_in) (files_held []));
}

pub set_joined : (a b : List ℕ) (xs ys : List DeclaredFile) → length (a ++ b) ≤ full.bytes → IsSetOf full a xs → IsSetOf full b ys → IsSetOf full (a ++ b) (xs ++ ys)
set_joined a b xs ys size h g =
    let rs = h.text.derives.records in
    let ss = g.text.derives.records in
    let first : data_at 1 (fields_of h.set) ≡ data_at 1 (fields_of (value descriptor_types the_set rs)) = ap (λ (m : Message). data_at 1 (fields_of m)) h.text.derives.valued in
    let second : data_at 1 (fields_of g.set) ≡ data_at 1 (fields_of (value descriptor_types the_set ss)) = ap (λ (m : Message). data_at 1 (fields_of m)) g.text.derives.valued in
    let joined : data_at 1 (fields_of (value descriptor_types the_set (rs ++ ss))) ≡ data_at 1 (fields_of h.set) ++ data_at 1 (fields_of g.set) =
    files_joined rs ss ∙ ap (λ l. l ++ data_at 1 (fields_of (value descriptor_types the_set ss))) (sym first) ∙ ap (λ l. data_at 1 (fields_of h.set) ++ l) (sym second) in
    record {
      set = value descriptor_types the_set (rs ++ ss);
      text = record {
        size = size;
        derives = record {
          records = rs ++ ss;
          spelled = AreRecords-append rs ss a b h.text.derives.spelled g.text.derives.spelled;
          sound = AllSound-append rs ss h.text.derives.sound g.text.derives.sound;
          valued = refl;
        };
      };
      silent = ap (causes_from 0) joined ∙ silent_joined 0 (data_at 1 (fields_of h.set)) (data_at 1 (fields_of g.set)) h.silent g.silent;
      declared =
          ap (λ l. l ++ ys) h.declared ∙ ap (λ l. files_in h.set ++ l) g.declared
          ∙ sym (ap (map file_in) joined ∙ map-append file_in (data_at 1 (fields_of h.set)) (data_at 1 (fields_of g.set)));
    }

taken_less : (n : ℕ) (xs : List ℕ) → length (take n xs) ≤ length xs
taken_less zero xs = omega arith
taken_less (suc n) [] = omega arith
taken_less (suc n) (x ∷ xs) = omega (arith, taken_less n xs)

dropped_less : (n : ℕ) (xs : List ℕ) → length (drop n xs) ≤ length xs - n
dropped_less zero xs = omega arith
dropped_less (suc n) [] = omega arith
dropped_less (suc n) (x ∷ xs) = omega (arith, dropped_less n xs)

-- what comes after an index is all the rest
rest_whole : (n : ℕ) (xs : List ℕ) → take (length xs - n) (drop n xs) ≡ drop n xs
rest_whole n xs = take_all (length xs - n) (drop n xs) (dropped_less n xs)

-- one part more of a set
pub part_added : (b : List ℕ) (at end : ℕ) (old new : List DeclaredFile) → length b ≤ full.bytes → IsSetOf full (take at b) old → AddsSet (take end (take (length b - at) (drop at b))) old new → IsSetOf full (take (at + end) b) new
part_added b at end old new short h adds =
    let both = take-add at end b in
    let added : AddsSet (take end (drop at b)) old new = subst (λ (l : List ℕ). AddsSet (take end l) old new) (rest_whole at b) adds in
    let size : length (take at b ++ take end (drop at b)) ≤ full.bytes = subst (λ (l : List ℕ). length l ≤ full.bytes) both (omega (arith, taken_less (at + end) b, short)) in
    subst (IsSetOf full (take (at + end) b)) (sym added.2)
    (subst (λ (l : List ℕ). IsSetOf full l (old ++ added.0)) (sym both) (set_joined (take at b) (take end (drop at b)) old added.0 size h added.1))

-- bytes are the text of one set
pub same_set : {limits : Bounds} {b : List ℕ} {s t : Message} → IsSetText limits b s → IsSetText limits b t → s ≡ t
same_set {limits} {b} {s} {t} h g =
    h.derives.valued ∙ ap (value descriptor_types the_set) (same_records h.derives.records g.derives.records b h.derives.spelled g.derives.spelled) ∙ sym g.derives.valued

pub same_files : {b : List ℕ} {xs ys : List DeclaredFile} → IsSetOf full b xs → IsSetOf full b ys → xs ≡ ys
same_files h g = h.declared ∙ ap files_in (same_set h.text g.text) ∙ sym g.declared

pub not_both : {b : List ℕ} {xs : List DeclaredFile} {f : Fault} → IsSetOf full b xs → HasFault (schema_of descriptor_types) (a_message the_set) full b f → ⊥
not_both h told = text_not_both told (h.text.derives.records, record { size = h.text.size; spelled = h.text.derives.spelled; sound = h.text.derives.sound })

pub one_told : {b : List ℕ} {xs : List DeclaredFile} → IsSetOf full b xs → (set : Message) (i : ℕ) (c : DeclCause) → IsSetText full b set → slice_get (set_causes set) 0 ≡ Some (i, c) → ⊥
one_told h set i c text told = silent_or_told set i c (subst (λ (s : Message). set_causes s ≡ []) (same_set h.text text) h.silent) told

-- ONE FILE MORE

pub added_more : {X V : Type 0} (view : X → DeclaredFile) (shown : V → Datum) (vs : List V) (i : ℕ) (v : V) (before : List DeclaredFile) (held now : List X) (x : X) → i < length vs → v ≡ get_or vs i v
    → map view held ≡ before ++ map file_in (map shown (take i vs)) → view x ≡ file_in (shown v) → now ≡ held ++ x ∷ [] → map view now ≡ before ++ map file_in (map shown (take (i + 1) vs))
added_more {X} {V} view shown vs i v before held now x less is was new pushed =
    let front = map file_in (map shown (take i vs)) in
    let taken : take (i + 1) vs ≡ take i vs ++ v ∷ [] = take_more vs i v less ∙ ap (λ z. take i vs ++ z ∷ []) (sym is) in
    ap (map view) pushed ∙ map-append view held (x ∷ []) ∙ ap (λ l. l ++ view x ∷ []) was ∙ append_assoc before front (view x ∷ [])
    ∙ ap (λ y. before ++ (front ++ y ∷ [])) new
    ∙ ap (λ l. before ++ l)
    (sym (ap (λ (l : List V). map file_in (map shown l)) taken ∙ ap (map file_in) (map-append shown (take i vs) (v ∷ [])) ∙ map-append file_in (map shown (take i vs)) (shown v ∷ [])))
