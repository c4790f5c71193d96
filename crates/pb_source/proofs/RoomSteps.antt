-- Statements of a message, and fields and groups, by the levels that are left for nested messages. The word `message` alone is of the kind of messages.
use Rattle.std.proofs.Common.{◌≡◌, ◌<◌, ◌-◌, ℕ, zero, suc, List, [], ◌∷◌, Bool, true, false, not, ◌&&◌, codes, refl, ap, sym, ◌∙◌, Option, Some, None, Err, arith}
use Rattle.std.specs.Prelude.{if◌then◌else◌}
use Rattle.std.specs.Str.{bytes_eq}
use Rattle.std.proofs.lemmas.Bool.{false≢true}
use Rattle.pb_source_tokens.specs.declared.grammar.Grammar.{Grammar}
use Rattle.pb_source_tokens.specs.declared.rule.Rule.TheVariants.{NestsBounded as nests_bounded}
use Rattle.pb_source_tokens.specs.Symbols.{Symbol, word, number, text, sign}
use Rattle.pb_source_tokens.specs.Language.{all_rules}
use Rattle.pb_source_tokens.specs.Readers.Forms.{Reader, first_passes, if_some, on_kind, mapped, is_keyword}
use Rattle.pb_source_tokens.specs.Readers.Phrases.{type_reader, fullname_reader, name_reader}
use Rattle.pb_source_tokens.proofs.SymbolTests.{is_the_word}
use Rattle.pb_source.specs.declared.kind.MessageKind.{MessageKind}
use Rattle.pb_source.specs.declared.kind.MessageKind.TheVariants as kind
use Rattle.pb_source.specs.Meaning.{MessageStatement}
use Rattle.pb_source.specs.Syntaxes.{is_proto2}
use Rattle.pb_source.specs.declared.kind.Label.{Label}
use Rattle.pb_source.specs.declared.kind.Label.TheVariants.{Unlabelled}
use Rattle.pb_source.specs.declared.kind.OneofKind.{OneofKind}
use Rattle.pb_source.specs.declared.kind.ExtendKind.{ExtendKind}
use Rattle.pb_source.specs.declared.kind.ExtendKind.TheVariants as in_extend
use Rattle.pb_source.specs.PartsView.{is_nesting, is_plain}
use Rattle.pb_source.specs.Readers.Lines.{Nested, taken, group_in, labelled_reader, oneof_kind, oneof_line, oneof_statement_reader, extend_kind, extension_line, extension_reader, is_group, group_reader, alone, field_reader, ungrouped_reader, grouped_reader, member_by, member_reader, kind_in, message_kind, message_statement_line, allowed_statement_reader, message_statement_reader, nested_in, room_statement_reader, room_body_reader, message_reader}
use Rattle.pb_source.proofs.StatementKinds.{NoRow}

-- a kind that neither a row nor the other words have
no_such_kind : {K : Type 0} (es : List (List ℕ × Option K)) (other : Option K) (k : K) (w : List ℕ) → NoRow es k → (other ≡ Some k → ⊥) → kind_in es other w ≡ Some k → ⊥
no_such_kind [] other k w n o h = o h
no_such_kind (e ∷ es) other k w n o h = by_test (bytes_eq w e.0) refl (no_such_kind es other k w n.1 o)
  where
    by_test : (b : Bool) → bytes_eq w e.0 ≡ b → (kind_in es other w ≡ Some k → ⊥) → ⊥
    by_test true f rest = n.0 (ap (λ b. if b then e.1 else kind_in es other w) (sym f) ∙ h)
    by_test false f rest = rest (ap (λ b. if b then e.1 else kind_in es other w) (sym f) ∙ h)

abbrev other_words : List (List ℕ × Option MessageKind)
other_words =
    (codes "enum", Some kind.Enum) ∷ (codes "option", Some kind.Option) ∷ (codes "oneof", Some kind.Oneof) ∷ (codes "reserved", Some kind.Reserved)
    ∷ (codes "optional", Some kind.Optional) ∷ (codes "repeated", Some kind.Repeated) ∷ (codes "required", Some kind.Required) ∷ (codes "extend", Some kind.Extend)
    ∷ (codes "extensions", Some kind.Extensions) ∷ (codes "map", Some kind.Map) ∷ []

is_message : (s : Symbol) → message_kind s ≡ Some kind.Message → is_keyword (codes "message") s ≡ true
is_message (word w) h = by_test (bytes_eq w (codes "message")) refl
  where
    by_test : (b : Bool) → bytes_eq w (codes "message") ≡ b → bytes_eq w (codes "message") ≡ true
    by_test true f = f
    by_test false f =
        absurd (no_such_kind other_words (Some kind.Field) kind.Message w
        ((λ e. cc e), ((λ e. cc e), ((λ e. cc e), ((λ e. cc e), ((λ e. cc e), ((λ e. cc e), ((λ e. cc e), ((λ e. cc e), ((λ e. cc e), ((λ e. cc e), tt))))))))))
        (λ e. cc e)
        (ap (λ b. if b then Some kind.Message else kind_in other_words (Some kind.Field) w) (sym f) ∙ h))
is_message (number w) h = absurd (cc h)
is_message (text b) h = absurd (cc h)
is_message (sign c) h =
    absurd (no_such_kind ((codes ";", Some kind.Empty) ∷ (codes ".", Some kind.Field) ∷ []) None kind.Message c ((λ e. cc e), ((λ e. cc e), tt)) (λ e. cc e) h)

not_message : (s : Symbol) (k : Option MessageKind) → message_kind s ≡ k → (k ≡ Some kind.Message → ⊥) → is_keyword (codes "message") s ≡ false
not_message s k h n = by_test (is_keyword (codes "message") s) refl
  where
    by_test : (b : Bool) → is_keyword (codes "message") s ≡ b → is_keyword (codes "message") s ≡ false
    by_test true f = absurd (n (sym h ∙ ap message_kind (is_the_word (codes "message") s f)))
    by_test false f = f

of_kind : (grammar : Grammar) (n : ℕ) (nested : Nested) (s : Symbol) (ts : List Symbol) (k : Option MessageKind) → message_kind s ≡ k
    → allowed_statement_reader grammar n nested all_rules (s ∷ ts) ≡ on_kind (message_statement_line grammar n nested) k all_rules (s ∷ ts)
unfolding allowed_statement_reader
of_kind grammar n nested s ts k h = ap (λ k. on_kind (message_statement_line grammar n nested) k all_rules (s ∷ ts)) h

other_of : (grammar : Grammar) (n : ℕ) (nested : Nested) (s : Symbol) (ts : List Symbol) (k : Option MessageKind) → message_kind s ≡ k → (k ≡ Some kind.Message → ⊥)
    → message_statement_reader grammar n nested all_rules (s ∷ ts) ≡ on_kind (message_statement_line grammar n nested) k all_rules (s ∷ ts)
other_of grammar n Nested.none s ts k h m = of_kind grammar n Nested.none s ts k h
other_of grammar n (Nested.beyond p) s ts k h m = rw (not_message s k h m) (of_kind grammar n (Nested.beyond p) s ts k h)
other_of grammar n (Nested.inside p) s ts k h m = of_kind grammar n (Nested.inside p) s ts k h

-- a statement that is no message
pub other_in_room : (grammar : Grammar) → (n depth_left : ℕ) (read : List Symbol) (s : Symbol) (ts : List Symbol) (k : MessageKind) → read ≡ s ∷ ts → message_kind s ≡ Some k → (k ≡ kind.Message → ⊥)
    → room_statement_reader grammar n depth_left all_rules read ≡ if_some (message_statement_line grammar n (nested_in grammar n depth_left) k) all_rules read
other_in_room grammar n depth_left read s ts k e h m = rw e (other_of grammar n (nested_in grammar n depth_left) s ts (Some k) h (λ i. m (cc i)))

-- what begins no statement
pub none_in_room : (grammar : Grammar) → (n depth_left : ℕ) (read : List Symbol) (s : Symbol) (ts : List Symbol) → read ≡ s ∷ ts → message_kind s ≡ None
    → room_statement_reader grammar n depth_left all_rules read ≡ Err (read, None)
none_in_room grammar n depth_left read s ts e h = rw e (other_of grammar n (nested_in grammar n depth_left) s ts None h (λ e. cc e))

-- a message where a level is left
pub message_in_room : (grammar : Grammar) → (n depth_left : ℕ) (read : List Symbol) (s : Symbol) (ts : List Symbol) → 0 < depth_left → read ≡ s ∷ ts → message_kind s ≡ Some kind.Message
    → room_statement_reader grammar n depth_left all_rules read ≡ mapped MessageStatement.a_message (message_reader grammar n (depth_left - 1)) all_rules read
unfolding nested_in
message_in_room grammar n zero read s ts l e h = absurd (omega arith)
message_in_room grammar n (suc depth_left) read s ts l e h =
    let less : depth_left ≡ suc depth_left - 1 = omega arith in
    rw e (of_kind grammar n (nested_in grammar n (suc depth_left)) s ts (Some kind.Message) h ∙ ap (λ r. mapped MessageStatement.a_message (message_reader grammar n r) all_rules (s ∷ ts)) less)

-- a message where no level is left
pub message_too_deep : (grammar : Grammar) → (n : ℕ) (read : List Symbol) (s : Symbol) (ts : List Symbol) → read ≡ s ∷ ts → message_kind s ≡ Some kind.Message
    → room_statement_reader grammar n 0 all_rules read ≡ Err (read, Some nests_bounded)
unfolding nested_in
message_too_deep grammar n read s ts e h = rw (e, is_message s h) refl

no_statement : (grammar : Grammar) (n : ℕ) (nested : Nested) → message_statement_reader grammar n nested all_rules [] ≡ Err ([], None)
unfolding allowed_statement_reader
no_statement grammar n Nested.none = refl
no_statement grammar n (Nested.beyond p) = refl
no_statement grammar n (Nested.inside p) = refl

pub no_room_statement : (grammar : Grammar) → (depth_left n : ℕ) → room_statement_reader grammar n depth_left all_rules [] ≡ Err ([], None)
no_room_statement grammar depth_left n = no_statement grammar n (nested_in grammar n depth_left)

-- ---- fields and groups

-- a group where a level is left
pub group_in_room : (grammar : Grammar) (n depth_left : ℕ) (l : Label) (read : List Symbol) → 0 < depth_left → is_proto2 grammar ≡ true → first_passes is_group read ≡ true
    → member_reader grammar n l (nested_in grammar n depth_left) all_rules read ≡ group_reader grammar n l (room_body_reader grammar n (depth_left - 1)) all_rules read
unfolding nested_in
group_in_room grammar n zero l read less p h = absurd (omega arith)
group_in_room grammar n (suc depth_left) l read less p h =
    let one : depth_left ≡ suc depth_left - 1 = omega arith in
    rw (p, h) (ap (λ r. group_reader grammar n l (room_body_reader grammar n r) all_rules read) one)

-- a group where no level is left
pub group_too_deep : (grammar : Grammar) (n : ℕ) (l : Label) (read : List Symbol) → is_proto2 grammar ≡ true → first_passes is_group read ≡ true
    → member_reader grammar n l (nested_in grammar n 0) all_rules read ≡ Err (read, Some nests_bounded)
unfolding nested_in
group_too_deep grammar n l read p h = rw (p, h) refl

ungrouped_is : (grammar : Grammar) (n : ℕ) (l : Label) (s : Symbol) (ts : List Symbol) → is_group s ≡ false
    → ungrouped_reader grammar n l all_rules (s ∷ ts) ≡ mapped alone (field_reader grammar n l) all_rules (s ∷ ts)
unfolding ungrouped_reader
ungrouped_is grammar n l s ts h = rw h refl

no_ungrouped : (grammar : Grammar) (n : ℕ) (l : Label) → ungrouped_reader grammar n l all_rules [] ≡ mapped alone (field_reader grammar n l) all_rules []
unfolding ungrouped_reader field_reader type_reader fullname_reader name_reader
no_ungrouped grammar zero l = refl
no_ungrouped grammar (suc n) l = refl

single_of : (grammar : Grammar) (n : ℕ) (l : Label) (read : List Symbol) → first_passes is_group read ≡ false
    → ungrouped_reader grammar n l all_rules read ≡ mapped alone (field_reader grammar n l) all_rules read
single_of grammar n l [] h = no_ungrouped grammar n l
single_of grammar n l (s ∷ ts) h = ungrouped_is grammar n l s ts h

grouped_of : (grammar : Grammar) (n : ℕ) (l : Label) (nested : Nested) (read : List Symbol) → first_passes is_group read ≡ false
    → grouped_reader grammar n l nested all_rules read ≡ mapped alone (field_reader grammar n l) all_rules read
grouped_of grammar n l Nested.none read h = single_of grammar n l read h
grouped_of grammar n l (Nested.beyond p) read h = rw h (single_of grammar n l read h)
grouped_of grammar n l (Nested.inside p) read h = rw h (single_of grammar n l read h)

member_of : (two : Bool) (grammar : Grammar) (n : ℕ) (l : Label) (nested : Nested) (read : List Symbol) → (two && first_passes is_group read) ≡ false
    → member_by two grammar n l nested all_rules read ≡ mapped alone (field_reader grammar n l) all_rules read
member_of true grammar n l nested read h = grouped_of grammar n l nested read h
member_of false grammar n l nested read h = refl

-- what begins no group is a field
pub single_in_room : (grammar : Grammar) (n depth_left : ℕ) (l : Label) (read : List Symbol) → (is_proto2 grammar && first_passes is_group read) ≡ false
    → member_reader grammar n l (nested_in grammar n depth_left) all_rules read ≡ mapped alone (field_reader grammar n l) all_rules read
single_in_room grammar n depth_left l read h = member_of (is_proto2 grammar) grammar n l (nested_in grammar n depth_left) read h

pub nesting_not : (k : MessageKind) → is_nesting k ≡ true → k ≡ kind.Message → ⊥
nesting_not k h e = false≢true (sym (ap is_nesting e) ∙ h)

pub plain_not : (k : MessageKind) → is_plain k ≡ true → k ≡ kind.Message → ⊥
plain_not k h e = false≢true (sym (ap is_plain e) ∙ h)

-- ---- lines that only some of the grammars have

pub if_taken : {A : Type 0} (b : Bool) (p : Reader A) (ts : List Symbol) → b ≡ true → if_some (taken b p) all_rules ts ≡ p all_rules ts
if_taken true p ts h = refl
if_taken false p ts h = absurd (false≢true h)

not_taken : {A : Type 0} (b : Bool) (p : Reader A) (ts : List Symbol) → b ≡ false → if_some (taken b p) all_rules ts ≡ Err (ts, None)
not_taken true p ts h = absurd (false≢true (sym h))
not_taken false p ts h = refl

-- ---- statements of a oneof

of_oneof_kind : (grammar : Grammar) (n : ℕ) (nested : Nested) (s : Symbol) (ts : List Symbol) (k : Option OneofKind) → oneof_kind s ≡ k
    → oneof_statement_reader grammar n nested all_rules (s ∷ ts) ≡ on_kind (oneof_line grammar n nested) k all_rules (s ∷ ts)
unfolding oneof_statement_reader
of_oneof_kind grammar n nested s ts k h = ap (λ k. on_kind (oneof_line grammar n nested) k all_rules (s ∷ ts)) h

pub oneof_by_line : (grammar : Grammar) (n : ℕ) (nested : Nested) (read : List Symbol) (s : Symbol) (ts : List Symbol) (k : OneofKind) → read ≡ s ∷ ts → oneof_kind s ≡ Some k
    → oneof_statement_reader grammar n nested all_rules read ≡ if_some (oneof_line grammar n nested k) all_rules read
oneof_by_line grammar n nested read s ts k e h = rw e (of_oneof_kind grammar n nested s ts (Some k) h)

pub no_oneof_line : (grammar : Grammar) (n : ℕ) (nested : Nested) (read : List Symbol) (s : Symbol) (ts : List Symbol) → read ≡ s ∷ ts → oneof_kind s ≡ None
    → oneof_statement_reader grammar n nested all_rules read ≡ Err (read, None)
no_oneof_line grammar n nested read s ts e h = rw e (of_oneof_kind grammar n nested s ts None h)

-- ---- statements of a block of `extend`

of_extend_kind : (grammar : Grammar) (n : ℕ) (nested : Nested) (s : Symbol) (ts : List Symbol) (k : Option ExtendKind) → extend_kind s ≡ k
    → extension_reader grammar n nested all_rules (s ∷ ts) ≡ on_kind (extension_line grammar n nested) k all_rules (s ∷ ts)
unfolding extension_reader
of_extend_kind grammar n nested s ts k h = ap (λ k. on_kind (extension_line grammar n nested) k all_rules (s ∷ ts)) h

pub extension_by_line : (grammar : Grammar) (n : ℕ) (nested : Nested) (read : List Symbol) (s : Symbol) (ts : List Symbol) (k : ExtendKind) → read ≡ s ∷ ts → extend_kind s ≡ Some k
    → extension_reader grammar n nested all_rules read ≡ if_some (extension_line grammar n nested k) all_rules read
extension_by_line grammar n nested read s ts k e h = rw e (of_extend_kind grammar n nested s ts (Some k) h)

pub no_extension_line : (grammar : Grammar) (n : ℕ) (nested : Nested) (read : List Symbol) (s : Symbol) (ts : List Symbol) → read ≡ s ∷ ts → extend_kind s ≡ None
    → extension_reader grammar n nested all_rules read ≡ Err (read, None)
no_extension_line grammar n nested read s ts e h = rw e (of_extend_kind grammar n nested s ts None h)

-- `required` in proto2, and where it is not expected
pub required_line : (grammar : Grammar) (n : ℕ) (nested : Nested) (read : List Symbol) (s : Symbol) (ts : List Symbol) → is_proto2 grammar ≡ true → read ≡ s ∷ ts → extend_kind s ≡ Some in_extend.Required
    → extension_reader grammar n nested all_rules read ≡ mapped group_in (labelled_reader grammar n (codes "required") Unlabelled nested) all_rules read
required_line grammar n nested read s ts h e k =
    extension_by_line grammar n nested read s ts in_extend.Required e k ∙ if_taken (is_proto2 grammar) (mapped group_in (labelled_reader grammar n (codes "required") Unlabelled nested)) read h

pub no_required_line : (grammar : Grammar) (n : ℕ) (nested : Nested) (read : List Symbol) (s : Symbol) (ts : List Symbol) → is_proto2 grammar ≡ false → read ≡ s ∷ ts → extend_kind s ≡ Some in_extend.Required
    → extension_reader grammar n nested all_rules read ≡ Err (read, None)
no_required_line grammar n nested read s ts h e k =
    extension_by_line grammar n nested read s ts in_extend.Required e k ∙ not_taken (is_proto2 grammar) (mapped group_in (labelled_reader grammar n (codes "required") Unlabelled nested)) read h

-- a field without a label, but in proto2, where none is expected
pub unlabelled_line : (grammar : Grammar) (n : ℕ) (nested : Nested) (read : List Symbol) (s : Symbol) (ts : List Symbol) → is_proto2 grammar ≡ false → read ≡ s ∷ ts → extend_kind s ≡ Some in_extend.Field
    → extension_reader grammar n nested all_rules read ≡ mapped (λ _. None) (field_reader grammar n Unlabelled) all_rules read
unlabelled_line grammar n nested read s ts h e k =
    extension_by_line grammar n nested read s ts in_extend.Field e k ∙ if_taken (not (is_proto2 grammar)) (mapped (λ _. None) (field_reader grammar n Unlabelled)) read (ap not h)

pub no_unlabelled_line : (grammar : Grammar) (n : ℕ) (nested : Nested) (read : List Symbol) (s : Symbol) (ts : List Symbol) → is_proto2 grammar ≡ true → read ≡ s ∷ ts → extend_kind s ≡ Some in_extend.Field
    → extension_reader grammar n nested all_rules read ≡ Err (read, None)
no_unlabelled_line grammar n nested read s ts h e k =
    extension_by_line grammar n nested read s ts in_extend.Field e k ∙ not_taken (not (is_proto2 grammar)) (mapped (λ _. None) (field_reader grammar n Unlabelled)) read (ap not h)
