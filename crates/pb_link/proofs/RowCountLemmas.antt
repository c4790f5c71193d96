-- How many messages, entry messages aside, and how many enums stand in the rows of messages.
use Rattle.std.proofs.Common.{◌≡◌, ℕ, ◌+◌, List, [], ◌∷◌, ◌++◌, Bool, true, false, not, cond, length, refl, ap, ◌∙◌, arith, length-append}
use Rattle.std.specs.Prelude.{filter}
use Rattle.std.specs.List.{enumerate_from}
use Rattle.pb_schema.specs.Names.{in_scope}
use Rattle.pb_declarations.specs.Decls.{DeclaredEnum, MessageHead, DeclaredMessage, message, DeclaredMessages, no_messages, more_messages}
use Rattle.pb_link_names.specs.Declarations.{a_message, a_field, a_oneof, a_value, Declaration, fields_of, oneofs_of, values_of, enum_declared, enums_declared, head_row, message_declared, messages_declared}
use Rattle.pb_link_rules.specs.Rules.{is_enum, is_message_type}
use Rattle.pb_link.specs.Heads.{unless_entry, heads_in, heads_among, enums_in, enums_among}
use Rattle.pb_link.proofs.CutLemmas.{count, count_append, count_none}

abbrev pub OfMessage : Declaration → Bool
OfMessage d = is_message_type d.item

abbrev pub OfEnum : Declaration → Bool
OfEnum d = is_enum d.item

abbrev Parts : ℕ → ℕ → List ℕ → MessageHead → List Declaration
Parts file place name head = fields_of file place name head head.fields ++ oneofs_of file place name head head.oneofs

-- ENUMS

no_message_one : (file parent : ℕ) (scope : List ℕ) (place : ℕ) (e : DeclaredEnum) → count OfMessage (enum_declared file parent scope place e) ≡ 0
no_message_one file parent scope place e = count_none OfMessage (λ v. record { file = file; parent = place; scope = scope; item = a_value e v.0 v.1 }) (enumerate_from 0 e.values) (λ v. refl)

pub no_messages_in : (file parent : ℕ) (scope : List ℕ) (place : ℕ) (es : List DeclaredEnum) → count OfMessage (enums_declared file parent scope place es) ≡ 0
no_messages_in file parent scope place [] = refl
no_messages_in file parent scope place (e ∷ es) =
    let own = enum_declared file parent scope place e in
    count_append OfMessage own (enums_declared file parent scope (place + length own) es) ∙ ap (λ n. n + count OfMessage (enums_declared file parent scope (place + length own) es)) (no_message_one file parent scope place e) ∙ ap (λ n. 0 + n) (no_messages_in file parent scope (place + length own) es)

pub one_enum : (file parent : ℕ) (scope : List ℕ) (place : ℕ) (e : DeclaredEnum) → count OfEnum (enum_declared file parent scope place e) ≡ 1
one_enum file parent scope place e =
    let none : count OfEnum (values_of file place scope e e.values) ≡ 0 = count_none OfEnum (λ v. record { file = file; parent = place; scope = scope; item = a_value e v.0 v.1 }) (enumerate_from 0 e.values) (λ v. refl) in
    omega (arith, none)

pub enums_counted : (file parent : ℕ) (scope : List ℕ) (place : ℕ) (es : List DeclaredEnum) → count OfEnum (enums_declared file parent scope place es) ≡ length es
enums_counted file parent scope place [] = refl
enums_counted file parent scope place (e ∷ es) =
    let own = enum_declared file parent scope place e in
    let rest = enums_counted file parent scope (place + length own) es in
    let first = one_enum file parent scope place e in
    let both = count_append OfEnum own (enums_declared file parent scope (place + length own) es) in
    omega (arith, first, rest, both)

-- HEADS

messages_of_parts : (file place : ℕ) (name : List ℕ) (head : MessageHead) → count OfMessage (Parts file place name head) ≡ 0
messages_of_parts file place name head =
    let both = count_append OfMessage (fields_of file place name head head.fields) (oneofs_of file place name head head.oneofs) in
    let fields : count OfMessage (fields_of file place name head head.fields) ≡ 0 = count_none OfMessage (λ e. record { file = file; parent = place; scope = name; item = a_field head e.0 e.1 }) (enumerate_from 0 head.fields) (λ v. refl) in
    let oneofs : count OfMessage (oneofs_of file place name head head.oneofs) ≡ 0 = count_none OfMessage (λ e. record { file = file; parent = place; scope = name; item = a_oneof head e.0 e.1 }) (enumerate_from 0 head.oneofs) (λ v. refl) in
    omega (arith, both, fields, oneofs)

enums_of_parts : (file place : ℕ) (name : List ℕ) (head : MessageHead) → count OfEnum (Parts file place name head) ≡ 0
enums_of_parts file place name head =
    let both = count_append OfEnum (fields_of file place name head head.fields) (oneofs_of file place name head head.oneofs) in
    let fields : count OfEnum (fields_of file place name head head.fields) ≡ 0 = count_none OfEnum (λ e. record { file = file; parent = place; scope = name; item = a_field head e.0 e.1 }) (enumerate_from 0 head.fields) (λ v. refl) in
    let oneofs : count OfEnum (oneofs_of file place name head head.oneofs) ≡ 0 = count_none OfEnum (λ e. record { file = file; parent = place; scope = name; item = a_oneof head e.0 e.1 }) (enumerate_from 0 head.oneofs) (λ v. refl) in
    omega (arith, both, fields, oneofs)

pub head_messages : (file parent : ℕ) (scope name : List ℕ) (place : ℕ) (head : MessageHead) (inner : DeclaredMessages) → count OfMessage (head_row file parent scope name place (message head inner)) ≡ length (unless_entry head)
head_messages file parent scope name place head inner = by head.is_entry
  where
    by : (b : Bool) → length (cond (not b) (record { file = file; parent = parent; scope = scope; item = a_message head inner } ∷ filter OfMessage (Parts file place name head)) (filter OfMessage (Parts file place name head))) ≡ length (cond b [] (head ∷ []))
    by true = messages_of_parts file place name head
    by false = let none = messages_of_parts file place name head in omega (arith, none)

pub head_enums : (file parent : ℕ) (scope name : List ℕ) (place : ℕ) (head : MessageHead) (inner : DeclaredMessages) → count OfEnum (head_row file parent scope name place (message head inner)) ≡ 0
head_enums file parent scope name place head inner = enums_of_parts file place name head

-- MESSAGES

mutual
  pub message_counted : (file parent : ℕ) (scope : List ℕ) (place : ℕ) (m : DeclaredMessage) → count OfMessage (message_declared file parent scope place m) ≡ length (heads_in m)
  message_counted file parent scope place (message head inner) =
      let name = in_scope scope head.name in
      let own = head_row file parent scope name place (message head inner) in
      let nested = messages_declared file place name (place + length own) inner in
      let enums = enums_declared file place name (place + length own + length nested) head.enums in
      let all = count_append OfMessage (own ++ nested) enums in
      let front = count_append OfMessage own nested in
      let first = head_messages file parent scope name place head inner in
      let rest = messages_counted file place name (place + length own) inner in
      let none = no_messages_in file place name (place + length own + length nested) head.enums in
      let heads = length-append (unless_entry head) (heads_among inner) in
      omega (arith, all, front, first, rest, none, heads)

  pub messages_counted : (file parent : ℕ) (scope : List ℕ) (place : ℕ) (ms : DeclaredMessages) → count OfMessage (messages_declared file parent scope place ms) ≡ length (heads_among ms)
  messages_counted file parent scope place no_messages = refl
  messages_counted file parent scope place (more_messages m ms) =
      let own = message_declared file parent scope place m in
      let both = count_append OfMessage own (messages_declared file parent scope (place + length own) ms) in
      let first = message_counted file parent scope place m in
      let rest = messages_counted file parent scope (place + length own) ms in
      let heads = length-append (heads_in m) (heads_among ms) in
      omega (arith, both, first, rest, heads)

mutual
  pub message_enums : (file parent : ℕ) (scope : List ℕ) (place : ℕ) (m : DeclaredMessage) → count OfEnum (message_declared file parent scope place m) ≡ length (enums_in m)
  message_enums file parent scope place (message head inner) =
      let name = in_scope scope head.name in
      let own = head_row file parent scope name place (message head inner) in
      let nested = messages_declared file place name (place + length own) inner in
      let enums = enums_declared file place name (place + length own + length nested) head.enums in
      let all = count_append OfEnum (own ++ nested) enums in
      let front = count_append OfEnum own nested in
      let none = head_enums file parent scope name place head inner in
      let first = messages_enums file place name (place + length own) inner in
      let last = enums_counted file place name (place + length own + length nested) head.enums in
      let both = length-append (enums_among inner) head.enums in
      omega (arith, all, front, first, last, none, both)

  pub messages_enums : (file parent : ℕ) (scope : List ℕ) (place : ℕ) (ms : DeclaredMessages) → count OfEnum (messages_declared file parent scope place ms) ≡ length (enums_among ms)
  messages_enums file parent scope place no_messages = refl
  messages_enums file parent scope place (more_messages m ms) =
      let own = message_declared file parent scope place m in
      let both = count_append OfEnum own (messages_declared file parent scope (place + length own) ms) in
      let first = message_enums file parent scope place m in
      let rest = messages_enums file parent scope (place + length own) ms in
      let all = length-append (enums_in m) (enums_among ms) in
      omega (arith, both, first, rest, all)
