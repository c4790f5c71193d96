-- Where files stand in a row of declarations: no message, enum or service names one, so a row names those whose declarations it is.
use Rattle.std.proofs.Common.{◌≡◌, ℕ, zero, suc, ◌+◌, List, [], ◌∷◌, ◌++◌, Bool, true, false, ◌||◌, map, take, length, refl, sym, ap, ◌∙◌, arith, Option, Some, ⊎_elim}
use Rattle.std.specs.Prelude.{slice_get}
use Rattle.std.specs.List.{list_any, enumerate_from}
use Rattle.std.specs.Option.{option_map_or}
use Rattle.std.specs.Str.{bytes_eq}
use Rattle.std.proofs.lemmas.Bool.{false≢true}
use Rattle.std.proofs.lemmas.Option.{none-some}
use Rattle.pb_schema.specs.Names.{in_scope}
use Rattle.pb_declarations.specs.Decls.{DeclaredEnum, MessageHead, DeclaredMessage, message, DeclaredMessages, no_messages, more_messages, DeclaredMethod, DeclaredService, DeclaredFile}
use Rattle.pb_link_names.specs.Declarations.{Item, a_file, a_message, a_field, a_oneof, an_enum, a_value, a_service, a_method, Declaration, fields_of, oneofs_of, enum_declared, enums_declared, head_row, message_declared, messages_declared, service_declared, services_declared, file_declared, files_declared}
use Rattle.pb_link_names.specs.TypeRefs.{file_in}
use Rattle.pb_link_rules.specs.Rules.{is_file_named}
use Rattle.pb_link_names.proofs.NameSetsLemmas.{any_append}
use Rattle.pb_link_names.proofs.BehindLemmas.{some_same, get_split}
use Rattle.pb_link_rules.proofs.PlacedLemmas.{same_name, any_at, take_past}

abbrev pub NamesFile : List ℕ → Declaration → Bool
NamesFile name d = is_file_named name d.item

pub none_append : {X : Type 0} (t : X → Bool) (xs ys : List X) → list_any t xs ≡ false → list_any t ys ≡ false → list_any t (xs ++ ys) ≡ false
none_append t xs ys first second = any_append t xs ys ∙ ap (λ b. b || list_any t ys) first ∙ second

none_mapped : {X Y : Type 0} (t : X → Bool) (g : Y → X) (ys : List Y) → ((y : Y) → t (g y) ≡ false) → list_any t (map g ys) ≡ false
none_mapped t g [] none = refl
none_mapped t g (y ∷ ys) none = ap (λ b. b || list_any t (map g ys)) (none y) ∙ none_mapped t g ys none

pub no_file_enums : (n : List ℕ) (file parent : ℕ) (scope : List ℕ) (place : ℕ) (es : List DeclaredEnum) → list_any (NamesFile n) (enums_declared file parent scope place es) ≡ false
no_file_enums n file parent scope place [] = refl
no_file_enums n file parent scope place (e ∷ es) =
    let own = enum_declared file parent scope place e in
    none_append (NamesFile n) own (enums_declared file parent scope (place + length own) es)
    (none_mapped (NamesFile n) (λ v. record { file = file; parent = place; scope = scope; item = a_value e v.0 v.1 }) (enumerate_from 0 e.values) (λ v. refl))
    (no_file_enums n file parent scope (place + length own) es)

no_file_head : (n : List ℕ) (file parent : ℕ) (scope name : List ℕ) (place : ℕ) (head : MessageHead) (inner : DeclaredMessages) → list_any (NamesFile n) (head_row file parent scope name place (message head inner)) ≡ false
no_file_head n file parent scope name place head inner =
    none_append (NamesFile n) (fields_of file place name head head.fields) (oneofs_of file place name head head.oneofs)
    (none_mapped (NamesFile n) (λ e. record { file = file; parent = place; scope = name; item = a_field head e.0 e.1 }) (enumerate_from 0 head.fields) (λ v. refl))
    (none_mapped (NamesFile n) (λ e. record { file = file; parent = place; scope = name; item = a_oneof head e.0 e.1 }) (enumerate_from 0 head.oneofs) (λ v. refl))

mutual
  no_file_message : (n : List ℕ) (file parent : ℕ) (scope : List ℕ) (place : ℕ) (m : DeclaredMessage) → list_any (NamesFile n) (message_declared file parent scope place m) ≡ false
  no_file_message n file parent scope place (message head inner) =
      let name = in_scope scope head.name in
      let own = head_row file parent scope name place (message head inner) in
      let nested = messages_declared file place name (place + length own) inner in
      none_append (NamesFile n) (own ++ nested) (enums_declared file place name (place + length own + length nested) head.enums)
      (none_append (NamesFile n) own nested (no_file_head n file parent scope name place head inner) (no_file_messages n file place name (place + length own) inner))
      (no_file_enums n file place name (place + length own + length nested) head.enums)

  pub no_file_messages : (n : List ℕ) (file parent : ℕ) (scope : List ℕ) (place : ℕ) (ms : DeclaredMessages) → list_any (NamesFile n) (messages_declared file parent scope place ms) ≡ false
  no_file_messages n file parent scope place no_messages = refl
  no_file_messages n file parent scope place (more_messages m ms) =
      let own = message_declared file parent scope place m in
      none_append (NamesFile n) own (messages_declared file parent scope (place + length own) ms) (no_file_message n file parent scope place m) (no_file_messages n file parent scope (place + length own) ms)

no_file_services : (n : List ℕ) (file parent : ℕ) (scope : List ℕ) (place : ℕ) (ss : List DeclaredService) → list_any (NamesFile n) (services_declared file parent scope place ss) ≡ false
no_file_services n file parent scope place [] = refl
no_file_services n file parent scope place (s ∷ ss) =
    let own = service_declared file parent scope place s in
    none_append (NamesFile n) own (services_declared file parent scope (place + length own) ss)
    (none_mapped (NamesFile n) (λ (m : DeclaredMethod). record { file = file; parent = place; scope = in_scope scope s.name; item = a_method m }) s.methods (λ m. refl))
    (no_file_services n file parent scope (place + length own) ss)

-- what comes after a file
abbrev Behind : ℕ → ℕ → DeclaredFile → List Declaration
Behind file place f =
    let messages : List Declaration = messages_declared file place f.package_name (place + 1) f.messages in
    let enums : List Declaration = enums_declared file place f.package_name (place + 1 + length messages) f.enums in
    messages ++ enums ++ services_declared file place f.package_name (place + 1 + length messages + length enums) f.services

no_file_behind : (n : List ℕ) (file place : ℕ) (f : DeclaredFile) → list_any (NamesFile n) (Behind file place f) ≡ false
no_file_behind n file place f =
    let messages = messages_declared file place f.package_name (place + 1) f.messages in
    let enums = enums_declared file place f.package_name (place + 1 + length messages) f.enums in
    none_append (NamesFile n) (messages ++ enums) (services_declared file place f.package_name (place + 1 + length messages + length enums) f.services)
    (none_append (NamesFile n) messages enums (no_file_messages n file place f.package_name (place + 1) f.messages) (no_file_enums n file place f.package_name (place + 1 + length messages) f.enums))
    (no_file_services n file place f.package_name (place + 1 + length messages + length enums) f.services)

own_file : (n : List ℕ) (file place : ℕ) (f : DeclaredFile) → list_any (NamesFile n) (file_declared file place f) ≡ bytes_eq n f.name
own_file n file place f = ap (λ b. bytes_eq n f.name || b) (no_file_behind n file place f) ∙ or_false (bytes_eq n f.name)
  where
    or_false : (b : Bool) → (b || false) ≡ b
    or_false true = refl
    or_false false = refl

-- the files of a row are those that it declares
pub files_named : (n : List ℕ) (file place : ℕ) (fs : List DeclaredFile) → list_any (NamesFile n) (files_declared file place fs) ≡ list_any (λ g. bytes_eq n g.name) fs
files_named n file place [] = refl
files_named n file place (f ∷ fs) =
    let own = file_declared file place f in
    let rest = files_declared (file + 1) (place + length own) fs in
    any_append (NamesFile n) own rest
    ∙ ap (λ b. b || list_any (NamesFile n) rest) (own_file n file place f)
    ∙ ap (λ b. bytes_eq n f.name || b) (files_named n (file + 1) (place + length own) fs)

named_as_file : (name : List ℕ) (i : Item) (f : DeclaredFile) → file_in i ≡ Some f → is_file_named name i ≡ bytes_eq name f.name
named_as_file name (a_file g) f e = ap (λ (o : Option DeclaredFile). option_map_or (λ h. bytes_eq name h.name) o false) e
named_as_file name (a_message head inner) f e = absurd (none-some f e)
named_as_file name (a_field head i g) f e = absurd (none-some f e)
named_as_file name (a_oneof head i g) f e = absurd (none-some f e)
named_as_file name (an_enum g) f e = absurd (none-some f e)
named_as_file name (a_value g i v) f e = absurd (none-some f e)
named_as_file name (a_service g) f e = absurd (none-some f e)
named_as_file name (a_method g) f e = absurd (none-some f e)

-- a file stands at this place, after what those before it declare
pub record StandsAt (file place : ℕ) (fs : List DeclaredFile) (p : ℕ) (d : Declaration) (f : DeclaredFile) : Type 0 where
  pub before : ℕ
  pub number : d.file ≡ file + before
  pub there : slice_get fs before ≡ Some f
  pub names : (n : List ℕ) → list_any (NamesFile n) (take p (files_declared file place fs)) ≡ list_any (λ g. bytes_eq n g.name) (take before fs)

pub file_stands : (file place : ℕ) (fs : List DeclaredFile) (p : ℕ) (d : Declaration) (f : DeclaredFile) → slice_get (files_declared file place fs) p ≡ Some d → file_in d.item ≡ Some f → StandsAt file place fs p d f
file_stands file place [] p d f there is = absurd (none-some d there)
file_stands file place (g ∷ gs) p d f there is =
    ⊎_elim (own p) (later p (λ i at. file_stands (file + 1) (place + length (file_declared file place g)) gs i d f at is))
    (get_split (file_declared file place g) (files_declared (file + 1) (place + length (file_declared file place g)) gs) p d there)
  where
    own : (q : ℕ) → slice_get (file_declared file place g) q ≡ Some d → StandsAt file place (g ∷ gs) q d f
    own zero at =
        let same = some_same (record { file = file; parent = place; scope = []; item = a_file g }) d at in
        record {
          before = 0;
          number = omega (arith, ap (λ (x : Declaration). x.file) same);
          there = ap (λ (x : Declaration). file_in x.item) same ∙ is;
          names = λ n. refl;
        }
    own (suc q) at =
        absurd (false≢true (sym (no_file_behind f.name file place g) ∙ any_at (NamesFile f.name) (Behind file place g) q d at (named_as_file f.name d.item f is ∙ same_name f.name)))

    later : (q : ℕ) → ((i : ℕ) → slice_get (files_declared (file + 1) (place + length (file_declared file place g)) gs) i ≡ Some d → StandsAt (file + 1) (place + length (file_declared file place g)) gs i d f) → (i : ℕ) × (q ≡ length (file_declared file place g) + i) × (slice_get (files_declared (file + 1) (place + length (file_declared file place g)) gs) i ≡ Some d) → StandsAt file place (g ∷ gs) q d f
    later q stands h =
        let front = file_declared file place g in
        let rest = files_declared (file + 1) (place + length front) gs in
        let s = stands h.0 h.2 in
        record {
          before = suc s.before;
          number = omega (arith, s.number);
          there = s.there;
          names = λ n. ap (λ r. list_any (NamesFile n) (take r (front ++ rest))) h.1
              ∙ ap (list_any (NamesFile n)) (take_past front rest h.0)
              ∙ any_append (NamesFile n) front (take h.0 rest)
              ∙ ap (λ b. b || list_any (NamesFile n) (take h.0 rest)) (own_file n file place g)
              ∙ ap (λ b. bytes_eq n g.name || b) (s.names n);
        }
