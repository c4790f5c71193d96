-- The first of joined causes.
use Rattle.std.proofs.Common.{◌≡◌, ℕ, ◌+◌, ◌<◌, List, [], ◌∷◌, ◌++◌, Bool, map, flat_map, length, get_or, take, drop, Option, Some, None, sym, ap, ◌∙◌, append-nil}
use Rattle.std.specs.Prelude.{slice_get, filter_map}
use Rattle.std.proofs.lemmas.List.{drop_more, take_more, map-append}
use Rattle.std.proofs.lemmas.List.Elements.{filter_map-append}
use Rattle.pb_value.specs.Data.{Datum}
use Rattle.pb_descr_message.specs.declared.cause.DeclCause.{DeclCause}
use Rattle.pb_descr_message.specs.Held.{fields_in, data_at}
use Rattle.pb_descr_message.specs.Reading.{is_proto2}
use Rattle.pb_descr_message.specs.Causes.{head_causes, listed_causes, message_causes, messages_at_causes, file_head_causes, file_causes, causes_from}
use Rattle.pb_descr_message.proofs.HeldLemmas.{message_causes-fields, messages_at_causes-data}

-- the first of some is the first of more
pub first_append : {X : Type 0} (xs ys : List X) (x : X) → slice_get xs 0 ≡ Some x → slice_get (xs ++ ys) 0 ≡ Some x
first_append [] ys x h = absurd (cc)
first_append (y ∷ xs) ys x h = h

pub after_none : {X : Type 0} (xs ys : List X) → xs ≡ [] → xs ++ ys ≡ ys
after_none xs ys h = ap (λ zs. zs ++ ys) h

-- the causes of some values from an index on
abbrev pub causes_of_rest : {X Y : Type 0} → (Y → List DeclCause) → (X → Y) → ℕ → List X → List DeclCause
causes_of_rest f view i xs = flat_map f (map view (drop i xs))

split : {X Y : Type 0} (f : Y → List DeclCause) (view : X → Y) (xs : List X) (i : ℕ) (x : X) → i < length xs → x ≡ get_or xs i x → causes_of_rest f view i xs ≡ f (view x) ++ causes_of_rest f view (i + 1) xs
split f view xs i x within is = ap (λ ys. flat_map f (map view ys)) (drop_more xs i x within ∙ ap (λ y. y ∷ drop (i + 1) xs) (sym is))

-- one that shows nothing is passed
pub passed : {X Y : Type 0} (f : Y → List DeclCause) (view : X → Y) (xs : List X) (i : ℕ) (x : X) → i < length xs → x ≡ get_or xs i x → flat_map f (map view xs) ≡ causes_of_rest f view i xs → f (view x) ≡ [] → flat_map f (map view xs) ≡ causes_of_rest f view (i + 1) xs
passed f view xs i x within is so_far none = so_far ∙ split f view xs i x within is ∙ after_none (f (view x)) (causes_of_rest f view (i + 1) xs) none

-- one that shows a cause is where the walk ends
pub stopped : {X Y : Type 0} (f : Y → List DeclCause) (view : X → Y) (xs : List X) (i : ℕ) (x : X) (c : DeclCause) → i < length xs → x ≡ get_or xs i x → flat_map f (map view xs) ≡ causes_of_rest f view i xs → slice_get (f (view x)) 0 ≡ Some c → slice_get (flat_map f (map view xs)) 0 ≡ Some c
stopped f view xs i x c within is so_far told =
    ap (λ cs. slice_get cs 0) (so_far ∙ split f view xs i x within is) ∙ first_append (f (view x)) (causes_of_rest f view (i + 1) xs) c told

pub none_append : {X : Type 0} (xs ys : List X) → xs ≡ [] → ys ≡ [] → xs ++ ys ≡ []
none_append xs ys h k = after_none xs ys h ∙ k

pub told_second : {X : Type 0} (xs ys : List X) (x : X) → xs ≡ [] → slice_get ys 0 ≡ Some x → slice_get (xs ++ ys) 0 ≡ Some x
told_second xs ys x none h = ap (λ zs. slice_get zs 0) (after_none xs ys none) ∙ h

-- A MESSAGE

module _ (two : Bool) (d : Datum) where
  abbrev head : List DeclCause
  head = head_causes two (fields_in d)

  abbrev inner : List DeclCause
  inner = flat_map (message_causes two) (data_at 3 (fields_in d))

  abbrev enums : List DeclCause
  enums = flat_map listed_causes (data_at 4 (fields_in d))

  joined : slice_get (message_causes two d) 0 ≡ slice_get (head ++ inner ++ enums) 0
  joined = ap (λ cs. slice_get cs 0) (message_causes-fields two d)

  pub message_head_told : (c : DeclCause) → slice_get head 0 ≡ Some c → slice_get (message_causes two d) 0 ≡ Some c
  message_head_told c h = joined ∙ first_append (head ++ inner) enums c (first_append head inner c h)

  pub message_inner_told : (c : DeclCause) (ds : List Datum) → ds ≡ data_at 3 (fields_in d) → head ≡ [] → slice_get (flat_map (message_causes two) ds) 0 ≡ Some c → slice_get (message_causes two d) 0 ≡ Some c
  message_inner_told c ds at none h =
      joined ∙ first_append (head ++ inner) enums c (told_second head inner c none (ap (λ es. slice_get (flat_map (message_causes two) es) 0) (sym at) ∙ h))

  pub message_enums_told :
      (c : DeclCause) (ds es : List Datum) → ds ≡ data_at 3 (fields_in d) → es ≡ data_at 4 (fields_in d) → head ≡ [] → flat_map (message_causes two) ds ≡ [] → slice_get (flat_map listed_causes es) 0 ≡ Some c → slice_get (message_causes two d) 0 ≡ Some c
  message_enums_told c ds es at at' none silent h =
      joined ∙ told_second (head ++ inner) enums c (none_append head inner none (ap (flat_map (message_causes two)) (sym at) ∙ silent)) (ap (λ xs. slice_get (flat_map listed_causes xs) 0) (sym at') ∙ h)

  pub message_silent : (ds es : List Datum) → ds ≡ data_at 3 (fields_in d) → es ≡ data_at 4 (fields_in d) → head ≡ [] → flat_map (message_causes two) ds ≡ [] → flat_map listed_causes es ≡ [] → message_causes two d ≡ []
  message_silent ds es at at' none silent silent' =
      message_causes-fields two d
      ∙ none_append (head ++ inner) enums (none_append head inner none (ap (flat_map (message_causes two)) (sym at) ∙ silent)) (ap (flat_map listed_causes) (sym at') ∙ silent')

-- A FILE

module _ (two : Bool) (d : Datum) (is : two ≡ is_proto2 (fields_in d)) where
  abbrev file_head : List DeclCause
  file_head = file_head_causes (fields_in d)

  abbrev messages : List DeclCause
  messages = messages_at_causes (is_proto2 (fields_in d)) 4 (fields_in d)

  abbrev file_enums : List DeclCause
  file_enums = flat_map listed_causes (data_at 5 (fields_in d))

  abbrev services : List DeclCause
  services = flat_map listed_causes (data_at 6 (fields_in d))

  by_list : (ds : List Datum) → ds ≡ data_at 4 (fields_in d) → messages ≡ flat_map (message_causes two) ds
  by_list ds at =
      messages_at_causes-data (is_proto2 (fields_in d)) 4 (fields_in d)
      ∙ ap (λ t. flat_map (message_causes t) (data_at 4 (fields_in d))) (sym is)
      ∙ ap (flat_map (message_causes two)) (sym at)

  pub file_messages_told : (c : DeclCause) (ds : List Datum) → ds ≡ data_at 4 (fields_in d) → file_head ≡ [] → slice_get (flat_map (message_causes two) ds) 0 ≡ Some c → slice_get (file_causes d) 0 ≡ Some c
  file_messages_told c ds at none h =
      first_append (file_head ++ messages ++ file_enums) services c
      (first_append (file_head ++ messages) file_enums c (told_second file_head messages c none (ap (λ cs. slice_get cs 0) (by_list ds at) ∙ h)))

  pub file_enums_told :
      (c : DeclCause) (ds es : List Datum) → ds ≡ data_at 4 (fields_in d) → es ≡ data_at 5 (fields_in d) → file_head ≡ [] → flat_map (message_causes two) ds ≡ [] → slice_get (flat_map listed_causes es) 0 ≡ Some c → slice_get (file_causes d) 0 ≡ Some c
  file_enums_told c ds es at at' none silent h =
      first_append (file_head ++ messages ++ file_enums) services c
      (told_second (file_head ++ messages) file_enums c (none_append file_head messages none (by_list ds at ∙ silent)) (ap (λ xs. slice_get (flat_map listed_causes xs) 0) (sym at') ∙ h))

  before_services : (ds es : List Datum) → ds ≡ data_at 4 (fields_in d) → es ≡ data_at 5 (fields_in d) → file_head ≡ [] → flat_map (message_causes two) ds ≡ [] → flat_map listed_causes es ≡ [] → file_head ++ messages ++ file_enums ≡ []
  before_services ds es at at' none silent silent' =
      none_append (file_head ++ messages) file_enums (none_append file_head messages none (by_list ds at ∙ silent)) (ap (flat_map listed_causes) (sym at') ∙ silent')

  pub file_services_told :
      (c : DeclCause) (ds es ss : List Datum) → ds ≡ data_at 4 (fields_in d) → es ≡ data_at 5 (fields_in d) → ss ≡ data_at 6 (fields_in d) → file_head ≡ [] → flat_map (message_causes two) ds ≡ [] → flat_map listed_causes es ≡ [] →
      slice_get (flat_map listed_causes ss) 0 ≡ Some c → slice_get (file_causes d) 0 ≡ Some c
  file_services_told c ds es ss at at' at'' none silent silent' h =
      told_second (file_head ++ messages ++ file_enums) services c (before_services ds es at at' none silent silent') (ap (λ xs. slice_get (flat_map listed_causes xs) 0) (sym at'') ∙ h)

  pub file_silent :
      (ds es ss : List Datum) → ds ≡ data_at 4 (fields_in d) → es ≡ data_at 5 (fields_in d) → ss ≡ data_at 6 (fields_in d) → file_head ≡ [] → flat_map (message_causes two) ds ≡ [] → flat_map listed_causes es ≡ [] → flat_map listed_causes ss ≡ [] → file_causes d ≡ []
  file_silent ds es ss at at' at'' none silent silent' silent'' =
      none_append (file_head ++ messages ++ file_enums) services (before_services ds es at at' none silent silent') (ap (flat_map listed_causes) (sym at'') ∙ silent'')

-- FILES

-- the causes of some files from an index on
abbrev pub files_from : {X : Type 0} → (X → Datum) → ℕ → List X → List (ℕ × DeclCause)
files_from view i xs = causes_from i (map view (drop i xs))

-- a cause in the file of an index
abbrev pub at_file : ℕ → DeclCause → ℕ × DeclCause
at_file i c = (i, c)

files_split : {X : Type 0} (view : X → Datum) (xs : List X) (i : ℕ) (x : X) → i < length xs → x ≡ get_or xs i x → files_from view i xs ≡ map (at_file i) (file_causes (view x)) ++ files_from view (i + 1) xs
files_split view xs i x within is = ap (λ ys. causes_from i (map view ys)) (drop_more xs i x within ∙ ap (λ y. y ∷ drop (i + 1) xs) (sym is))

-- a file that shows nothing is passed
pub file_passed : {X : Type 0} (view : X → Datum) (xs : List X) (i : ℕ) (x : X) (all : List (ℕ × DeclCause)) → i < length xs → x ≡ get_or xs i x → all ≡ files_from view i xs → file_causes (view x) ≡ [] → all ≡ files_from view (i + 1) xs
file_passed view xs i x all within is so_far none = so_far ∙ files_split view xs i x within is ∙ after_none (map (at_file i) (file_causes (view x))) (files_from view (i + 1) xs) (ap (map (at_file i)) none)

first_of_map : (i : ℕ) (cs : List DeclCause) (c : DeclCause) → slice_get cs 0 ≡ Some c → slice_get (map (at_file i) cs) 0 ≡ Some (at_file i c)
first_of_map i [] c h = absurd (cc)
first_of_map i (d ∷ cs) c h = let same : d ≡ c = cc in ap (λ e. Some (at_file i e)) same

-- one that shows a cause is reported
pub file_stopped :
    {X : Type 0} (view : X → Datum) (xs : List X) (i : ℕ) (x : X) (c : DeclCause) (all : List (ℕ × DeclCause)) → i < length xs → x ≡ get_or xs i x → all ≡ files_from view i xs → slice_get (file_causes (view x)) 0 ≡ Some c → Some (at_file i c) ≡ slice_get all 0
file_stopped view xs i x c all within is so_far told =
    sym (ap (λ cs. slice_get cs 0) (so_far ∙ files_split view xs i x within is) ∙ first_append (map (at_file i) (file_causes (view x))) (files_from view (i + 1) xs) (at_file i c) (first_of_map i (file_causes (view x)) c told))

-- TEXTS AND NUMBERS

abbrev given_of : {Z : Type 0} → Option Z → List Z
given_of None = []
given_of (Some z) = z ∷ []

of_one : {Y Z : Type 0} (f : Y → Option Z) (y : Y) (o : Option Z) → f y ≡ o → filter_map f (y ∷ []) ≡ given_of o
of_one f y None h = simp h
of_one f y (Some z) h = simp h

filter_split : {X Y Z : Type 0} (f : Y → Option Z) (view : X → Y) (xs : List X) (i : ℕ) (x : X) → i < length xs → x ≡ get_or xs i x → filter_map f (map view (take (i + 1) xs)) ≡ filter_map f (map view (take i xs)) ++ filter_map f (view x ∷ [])
filter_split f view xs i x within is =
    ap (λ ys. filter_map f (map view ys)) (take_more xs i x within ∙ ap (λ y. take i xs ++ y ∷ []) (sym is)) ∙ ap (filter_map f) (map-append view (take i xs) (x ∷ [])) ∙ filter_map-append f (map view (take i xs)) (view x ∷ [])

pub one_more_given :
    {X Y Z : Type 0} (f : Y → Option Z) (view : X → Y) (xs : List X) (i : ℕ) (x : X) (z : Z) (zs : List Z) → i < length xs → x ≡ get_or xs i x → zs ≡ filter_map f (map view (take i xs)) → f (view x) ≡ Some z →
    zs ++ z ∷ [] ≡ filter_map f (map view (take (i + 1) xs))
one_more_given f view xs i x z zs within is so_far given =
    ap (λ ys. ys ++ z ∷ []) so_far ∙ ap (λ ys. filter_map f (map view (take i xs)) ++ ys) (sym (of_one f (view x) (Some z) given)) ∙ sym (filter_split f view xs i x within is)

pub none_more_given :
    {X Y Z : Type 0} (f : Y → Option Z) (view : X → Y) (xs : List X) (i : ℕ) (x : X) (zs : List Z) → i < length xs → x ≡ get_or xs i x → zs ≡ filter_map f (map view (take i xs)) → f (view x) ≡ None →
    zs ≡ filter_map f (map view (take (i + 1) xs))
none_more_given f view xs i x zs within is so_far given =
    so_far ∙ sym (append-nil (filter_map f (map view (take i xs)))) ∙ ap (λ ys. filter_map f (map view (take i xs)) ++ ys) (sym (of_one f (view x) None given)) ∙ sym (filter_split f view xs i x within is)
