-- The readers of statements and of files that may go further.
use Rattle.std.proofs.Common.{◌≡◌, ℕ, zero, suc, ◌+◌, ◌-◌, ◌≤◌, List, [], ◌∷◌, Bool, true, false, not, codes, ap, ◌∙◌, subst, Option, Some, None, Err, arith, ◌⊎◌, inl, inr, ℤ}
use Rattle.pb_source_tokens.specs.declared.grammar.Grammar.{Grammar}
use Rattle.pb_source_tokens.specs.declared.rule.Rule.{Rule}
use Rattle.pb_source_tokens.proofs.Growing.{Grows, grows_chain, grows_same, grows_mapped, grows_both, grows_behind, grows_before, grows_choice, GrowsSome, grows_kinds, grows_guarded, grows_until, grows_to_end, grows_listed, grows_fullname, grows_typename, grows_option, grows_setting, grows_ended, grows_value_end, grows_type}
use Rattle.pb_source_tokens.specs.declared.rule.Rule.TheVariants.{NestsBounded as nests_bounded}
use Rattle.pb_source_tokens.specs.Symbols.{Symbol}
use Rattle.pb_source_tokens.specs.Language.{Rules}
use Rattle.pb_source_tokens.specs.Said.{joined}
use Rattle.pb_source_tokens.specs.Readers.Forms.{Outcome, Reader, answer, mapped, symbol, is_mark, is_keyword, keyword_reader, mark_reader}
use Rattle.pb_source_tokens.specs.Readers.Phrases.{name_reader, counted_reader, key_reader, signed_reader, utf8_reader, type_of, message_range_reader, enum_range_reader, is_dot, is_text}
use Rattle.pb_source.specs.declared.reading.Reading.{Reading}
use Rattle.pb_source.specs.Syntaxes.{is_lenient, is_proto2, optional_label}
use Rattle.pb_source.specs.declared.kind.Label.{Label}
use Rattle.pb_source.specs.declared.kind.Label.TheVariants.{Unlabelled, Repeated}
use Rattle.pb_source.specs.declared.kind.FileKind.{FileKind}
use Rattle.pb_source.specs.declared.kind.FileKind.TheVariants as in_file
use Rattle.pb_source.specs.declared.kind.MessageKind.{MessageKind}
use Rattle.pb_source.specs.declared.kind.MessageKind.TheVariants as in_message
use Rattle.pb_source.specs.declared.kind.ExtendKind.{ExtendKind}
use Rattle.pb_source.specs.declared.kind.ExtendKind.TheVariants as in_extend
use Rattle.pb_source.specs.declared.kind.EnumKind.{EnumKind}
use Rattle.pb_source.specs.declared.kind.EnumKind.TheVariants as in_enum
use Rattle.pb_source.specs.declared.kind.OneofKind.{OneofKind}
use Rattle.pb_source.specs.declared.kind.OneofKind.TheVariants as in_a_oneof
use Rattle.pb_source.specs.declared.kind.ServiceKind.{ServiceKind}
use Rattle.pb_source.specs.declared.kind.ServiceKind.TheVariants as in_service
use Rattle.pb_source.specs.declared.kind.MethodKind.{MethodKind}
use Rattle.pb_source.specs.declared.kind.MethodKind.TheVariants as in_method
use Rattle.pb_source.specs.Meaning.{MessageStatement, EnumStatement, FileStatement, those_said, message_of, enum_of}
use Rattle.pb_source.specs.Readers.Lines.{Nested, is_group, group_name_reader, group_head_reader, group_from, group_reader, alone, a_single, if_ungrouped, ungrouped_reader, grouped_reader, member_by, labelled_reader, group_in, nested_message_reader, allowed_statement_reader, body_reader, nested_in, message_reader, taken, dropped, map_rest_reader, statements_reader, extend_kind, extension_line, extension_reader, extend_reader, extensions_reader, import_reader, syntax_reader, field_from, map_from, said_of_alias, method_from, service_from, is_closing, is_package, braced, field_tail_reader, field_reader, map_tail_reader, dotted_reader, of_map_reader, map_reader, oneof_kind, oneof_line, oneof_statement_reader, oneof_reader, reserved_reader, value_reader, enum_kind, enum_statement_line, enum_statement_reader, enum_reader, message_kind, message_statement_line, message_statement_reader, message_line_reader, streams, streamed_reader, method_kind, method_line, method_statement_reader, method_end_reader, parameter_reader, method_reader, service_kind, service_line, service_statement_reader, service_reader, package_reader, file_kind, file_line, file_statement_reader, file_reader}

-- ---- repetition

grows_braced : {I : Type 0} {p q : Reader I} (n : ℕ) → Grows p q → Grows (braced n p) (braced (suc n) q)
grows_braced n g = grows_behind (grows_same (mark_reader (codes "{"))) (grows_until n is_closing [] g (grows_same (mark_reader (codes "}"))))

grows_taken : {A : Type 0} (b : Bool) {p q : Reader A} → Grows p q → GrowsSome (taken b p) (taken b q)
grows_taken true g = g
grows_taken false g = tt

-- ---- the lines of the grammar

grows_field_tail : (grammar : Grammar) → (n : ℕ) → Grows (field_tail_reader grammar n) (field_tail_reader grammar (suc n))
unfolding field_tail_reader
grows_field_tail grammar n = grows_both (grows_same name_reader)
    (grows_behind (grows_same (mark_reader (codes "="))) (grows_both (grows_same counted_reader) (grows_ended (codes ";") grammar n)))

grows_field : (grammar : Grammar) → (n : ℕ) (l : Label) → Grows (field_reader grammar n l) (field_reader grammar (suc n) l)
unfolding field_reader
grows_field grammar n l = grows_mapped (field_from l) (grows_both (grows_type n) (grows_field_tail grammar n))

grows_map_tail : (grammar : Grammar) → (n : ℕ) → Grows (map_tail_reader grammar n) (map_tail_reader grammar (suc n))
unfolding map_tail_reader
grows_map_tail grammar n =
    grows_behind (grows_same (mark_reader (codes "<"))) (grows_mapped map_from
    (grows_both (grows_same key_reader)
    (grows_behind (grows_same (mark_reader (codes ",")))
    (grows_both (grows_type n) (grows_behind (grows_same (mark_reader (codes ">"))) (grows_field_tail grammar n))))))

grows_dotted : (n : ℕ) → Grows (dotted_reader n) (dotted_reader (suc n))
unfolding dotted_reader
grows_dotted n = grows_choice is_dot (grows_behind (grows_same (mark_reader (codes "."))) (grows_fullname n)) (grows_same (answer []))

grows_of_map : (grammar : Grammar) → (n : ℕ) → Grows (of_map_reader grammar n) (of_map_reader grammar (suc n))
unfolding of_map_reader
grows_of_map grammar n =
    grows_mapped (field_from Unlabelled) (grows_both (grows_mapped (λ ws. type_of (codes "map" ∷ ws)) (grows_dotted n)) (grows_field_tail grammar (suc n)))

grows_map_rest : (b : Bool) (grammar : Grammar) (n : ℕ) → Grows (map_rest_reader b grammar n) (map_rest_reader b grammar (suc n))
grows_map_rest true grammar n = grows_mapped MessageStatement.a_map (grows_map_tail grammar (suc n))
grows_map_rest false grammar n =
    grows_choice (is_mark (codes "<")) (grows_mapped MessageStatement.a_map (grows_map_tail grammar (suc n))) (grows_mapped a_single (grows_of_map grammar n))

grows_map : (grammar : Grammar) → (n : ℕ) → Grows (map_reader grammar n) (map_reader grammar (suc n))
unfolding map_reader
grows_map grammar n = grows_behind (grows_same (keyword_reader (codes "map"))) (grows_map_rest (is_proto2 grammar) grammar n)

-- ---- groups

-- what nests grows where its readers do
abbrev GrowsNested : Nested → Nested → Type 0
GrowsNested Nested.none Nested.none = Unit {0}
GrowsNested (Nested.beyond p) (Nested.beyond q) = Grows p q
GrowsNested (Nested.inside p) (Nested.inside q) = Grows p q
GrowsNested Nested.none (Nested.beyond q) = ⊥
GrowsNested Nested.none (Nested.inside q) = ⊥
GrowsNested (Nested.beyond p) Nested.none = ⊥
GrowsNested (Nested.beyond p) (Nested.inside q) = ⊥
GrowsNested (Nested.inside p) Nested.none = ⊥
GrowsNested (Nested.inside p) (Nested.beyond q) = ⊥

grows_group_head : (grammar : Grammar) (n : ℕ) → Grows (group_head_reader grammar n) (group_head_reader grammar (suc n))
unfolding group_head_reader
grows_group_head grammar n =
    grows_behind (grows_same (keyword_reader (codes "group")))
    (grows_both (grows_same group_name_reader)
    (grows_behind (grows_same (mark_reader (codes "="))) (grows_both (grows_same counted_reader) (grows_ended (codes "{") grammar n))))

grows_group : (grammar : Grammar) (n : ℕ) (l : Label) {p q : Reader (List MessageStatement)} → Grows p q → Grows (group_reader grammar n l p) (group_reader grammar (suc n) l q)
grows_group grammar n l g = grows_mapped (group_from l) (grows_both (grows_group_head grammar n) g)

grows_ungrouped : (grammar : Grammar) (n : ℕ) (l : Label) → Grows (ungrouped_reader grammar n l) (ungrouped_reader grammar (suc n) l)
unfolding ungrouped_reader
grows_ungrouped grammar n l =
    grows_kinds if_ungrouped (λ _. Some (mapped alone (field_reader grammar n l))) (λ _. Some (mapped alone (field_reader grammar (suc n) l)))
    (λ _. grows_mapped alone (grows_field grammar n l))

grows_grouped : (grammar : Grammar) (n : ℕ) (l : Label) (x y : Nested) → GrowsNested x y → Grows (grouped_reader grammar n l x) (grouped_reader grammar (suc n) l y)
grows_grouped grammar n l Nested.none Nested.none h = grows_ungrouped grammar n l
grows_grouped grammar n l (Nested.beyond p) (Nested.beyond q) h = grows_guarded nests_bounded is_group (grows_group grammar n l h) (grows_ungrouped grammar n l)
grows_grouped grammar n l (Nested.inside p) (Nested.inside q) h = grows_choice is_group (grows_group grammar n l h) (grows_ungrouped grammar n l)
grows_grouped grammar n l Nested.none (Nested.beyond q) h = absurd h
grows_grouped grammar n l Nested.none (Nested.inside q) h = absurd h
grows_grouped grammar n l (Nested.beyond p) Nested.none h = absurd h
grows_grouped grammar n l (Nested.beyond p) (Nested.inside q) h = absurd h
grows_grouped grammar n l (Nested.inside p) Nested.none h = absurd h
grows_grouped grammar n l (Nested.inside p) (Nested.beyond q) h = absurd h

grows_member : (two : Bool) (grammar : Grammar) (n : ℕ) (l : Label) (x y : Nested) → GrowsNested x y → Grows (member_by two grammar n l x) (member_by two grammar (suc n) l y)
grows_member true grammar n l x y h = grows_grouped grammar n l x y h
grows_member false grammar n l x y h = grows_mapped alone (grows_field grammar n l)

grows_labelled : (grammar : Grammar) (n : ℕ) (w : List ℕ) (l : Label) (x y : Nested) → GrowsNested x y → Grows (labelled_reader grammar n w l x) (labelled_reader grammar (suc n) w l y)
grows_labelled grammar n w l x y h = grows_behind (grows_same (keyword_reader w)) (grows_member (is_proto2 grammar) grammar n l x y h)

-- ---- oneofs

grows_oneof_statement : (grammar : Grammar) (n : ℕ) (x y : Nested) → GrowsNested x y → Grows (oneof_statement_reader grammar n x) (oneof_statement_reader grammar (suc n) y)
unfolding oneof_statement_reader
grows_oneof_statement grammar n x y h = grows_kinds oneof_kind (oneof_line grammar n x) (oneof_line grammar (suc n) y) line
  where
    line : (k : OneofKind) → GrowsSome (oneof_line grammar n x k) (oneof_line grammar (suc n) y k)
    line in_a_oneof.Empty = grows_same (mapped (λ _. None) (mark_reader (codes ";")))
    line in_a_oneof.Option = grows_mapped (λ _. None) (grows_option grammar n)
    line in_a_oneof.Field = grows_mapped Some (grows_member (is_proto2 grammar) grammar n Unlabelled x y h)

grows_oneof : (grammar : Grammar) (n : ℕ) (x y : Nested) → GrowsNested x y → Grows (oneof_reader grammar n x) (oneof_reader grammar (suc n) y)
unfolding oneof_reader
grows_oneof grammar n x y h = grows_behind (grows_same (keyword_reader (codes "oneof")))
    (grows_both (grows_same name_reader) (grows_mapped those_said (grows_braced n (grows_oneof_statement grammar n x y h))))

grows_reserved : {A : Type 0} (n : ℕ) (range : Reader (ℤ × ℤ)) (of_ranges : List (ℤ × ℤ) → A) (of_names : List (List ℕ) → A)
    → Grows (reserved_reader n range of_ranges of_names) (reserved_reader (suc n) range of_ranges of_names)
unfolding reserved_reader
grows_reserved n range of_ranges of_names =
    grows_behind (grows_same (keyword_reader (codes "reserved")))
    (grows_choice is_text (grows_mapped of_names (grows_before (grows_listed n (grows_same utf8_reader)) (grows_same (mark_reader (codes ";")))))
    (grows_mapped of_ranges (grows_before (grows_listed n (grows_same range)) (grows_same (mark_reader (codes ";"))))))

grows_value : (grammar : Grammar) → (n : ℕ) → Grows (value_reader grammar n) (value_reader grammar (suc n))
unfolding value_reader
grows_value grammar n =
    grows_mapped (λ x. EnumStatement.a_value x.0 x.1)
    (grows_both (grows_same name_reader)
    (grows_behind (grows_same (mark_reader (codes "="))) (grows_before (grows_same signed_reader) (grows_value_end grammar n))))

grows_enum_statement : (grammar : Grammar) → (n : ℕ) → Grows (enum_statement_reader grammar n) (enum_statement_reader grammar (suc n))
unfolding enum_statement_reader
grows_enum_statement grammar n = grows_kinds enum_kind (enum_statement_line grammar n) (enum_statement_line grammar (suc n)) line
  where
    line : (k : EnumKind) → GrowsSome (enum_statement_line grammar n k) (enum_statement_line grammar (suc n) k)
    line in_enum.Empty = grows_same (mapped (λ _. EnumStatement.nothing_said) (mark_reader (codes ";")))
    line in_enum.Option =
        grows_mapped said_of_alias
        (grows_behind (grows_same (keyword_reader (codes "option")))
        (grows_before (grows_setting grammar n (codes "allow_alias")) (grows_same (mark_reader (codes ";")))))
    line in_enum.Reserved = grows_reserved n enum_range_reader EnumStatement.reserved_ranges EnumStatement.reserved_names
    line in_enum.Value = grows_value grammar n

grows_enum : (grammar : Grammar) → (n : ℕ) → Grows (enum_reader grammar n) (enum_reader grammar (suc n))
unfolding enum_reader
grows_enum grammar n = grows_mapped (λ x. enum_of x.0 x.1)
    (grows_behind (grows_same (keyword_reader (codes "enum"))) (grows_both (grows_same name_reader) (grows_braced n (grows_enum_statement grammar n))))

-- ---- extensions

grows_extension : (grammar : Grammar) (n : ℕ) (x y : Nested) → GrowsNested x y → Grows (extension_reader grammar n x) (extension_reader grammar (suc n) y)
unfolding extension_reader
grows_extension grammar n x y h = grows_kinds extend_kind (extension_line grammar n x) (extension_line grammar (suc n) y) line
  where
    line : (k : ExtendKind) → GrowsSome (extension_line grammar n x k) (extension_line grammar (suc n) y k)
    line in_extend.Empty = grows_same (mapped (λ _. None) (mark_reader (codes ";")))
    line in_extend.Repeated = grows_mapped group_in (grows_labelled grammar n (codes "repeated") Repeated x y h)
    line in_extend.Optional = grows_mapped group_in (grows_labelled grammar n (codes "optional") (optional_label grammar) x y h)
    line in_extend.Required = grows_taken (is_proto2 grammar) (grows_mapped group_in (grows_labelled grammar n (codes "required") Unlabelled x y h))
    line in_extend.Field = grows_taken (not (is_proto2 grammar)) (grows_mapped (λ _. None) (grows_field grammar n Unlabelled))

grows_extend : (grammar : Grammar) (n : ℕ) (x y : Nested) → GrowsNested x y → Grows (extend_reader grammar n x) (extend_reader grammar (suc n) y)
unfolding extend_reader
grows_extend grammar n x y h =
    grows_behind (grows_same (keyword_reader (codes "extend")))
    (grows_behind (grows_mapped (λ _. tt) (grows_typename n)) (grows_mapped those_said (grows_braced n (grows_extension grammar n x y h))))

grows_extensions : (grammar : Grammar) → (n : ℕ) → Grows (extensions_reader grammar n) (extensions_reader grammar (suc n))
unfolding extensions_reader
grows_extensions grammar n =
    grows_behind (grows_same (keyword_reader (codes "extensions")))
    (grows_behind (grows_mapped (λ _. tt) (grows_listed n (grows_same message_range_reader))) (grows_value_end grammar n))

grows_dropped : {A : Type 0} (grammar : Grammar) (v : A) {p q : Reader (Unit {0})} → Grows p q → GrowsSome (dropped grammar v p) (dropped grammar v q)
grows_dropped grammar v g = grows_taken (is_lenient grammar) (grows_mapped (λ _. v) g)

-- ---- messages

grows_message_line : {p q : Reader (List MessageStatement)} → Grows p q → Grows (message_line_reader p) (message_line_reader q)
unfolding message_line_reader
grows_message_line g =
    grows_mapped (λ x. message_of x.0 x.1)
    (grows_behind (grows_same (keyword_reader (codes "message"))) (grows_both (grows_same name_reader) (grows_behind (grows_same (mark_reader (codes "{"))) g)))

grows_nested_message : (x y : Nested) → GrowsNested x y → GrowsSome (nested_message_reader x) (nested_message_reader y)
grows_nested_message Nested.none Nested.none h = tt
grows_nested_message (Nested.beyond p) (Nested.beyond q) h = tt
grows_nested_message (Nested.inside p) (Nested.inside q) h = grows_mapped MessageStatement.a_message (grows_message_line h)
grows_nested_message Nested.none (Nested.beyond q) h = absurd h
grows_nested_message Nested.none (Nested.inside q) h = absurd h
grows_nested_message (Nested.beyond p) Nested.none h = absurd h
grows_nested_message (Nested.beyond p) (Nested.inside q) h = absurd h
grows_nested_message (Nested.inside p) Nested.none h = absurd h
grows_nested_message (Nested.inside p) (Nested.beyond q) h = absurd h

grows_allowed_statement : (grammar : Grammar) (n : ℕ) (x y : Nested) → GrowsNested x y → Grows (allowed_statement_reader grammar n x) (allowed_statement_reader grammar (suc n) y)
unfolding allowed_statement_reader
grows_allowed_statement grammar n x y h = grows_kinds message_kind (message_statement_line grammar n x) (message_statement_line grammar (suc n) y) line
  where
    line : (k : MessageKind) → GrowsSome (message_statement_line grammar n x k) (message_statement_line grammar (suc n) y k)
    line in_message.Empty = grows_same (mapped (λ _. MessageStatement.nothing_said) (mark_reader (codes ";")))
    line in_message.Option = grows_mapped (λ _. MessageStatement.nothing_said) (grows_option grammar n)
    line in_message.Message = grows_nested_message x y h
    line in_message.Enum = grows_mapped MessageStatement.an_enum (grows_enum grammar n)
    line in_message.Oneof = grows_mapped (λ x. MessageStatement.a_oneof x.0 x.1) (grows_oneof grammar n x y h)
    line in_message.Reserved = grows_reserved n message_range_reader MessageStatement.reserved_ranges MessageStatement.reserved_names
    line in_message.Repeated = grows_mapped MessageStatement.a_field (grows_labelled grammar n (codes "repeated") Repeated x y h)
    line in_message.Optional = grows_mapped MessageStatement.a_field (grows_labelled grammar n (codes "optional") (optional_label grammar) x y h)
    line in_message.Required = grows_taken (is_proto2 grammar) (grows_mapped MessageStatement.a_field (grows_labelled grammar n (codes "required") Unlabelled x y h))
    line in_message.Map = grows_map grammar n
    line in_message.Field = grows_taken (not (is_proto2 grammar)) (grows_mapped a_single (grows_field grammar n Unlabelled))
    line in_message.Extend = grows_taken (is_lenient grammar) (grows_mapped MessageStatement.an_extend (grows_extend grammar n x y h))
    line in_message.Extensions = grows_dropped grammar MessageStatement.nothing_said (grows_extensions grammar n)

grows_message_statement : (grammar : Grammar) (n : ℕ) (x y : Nested) → GrowsNested x y → Grows (message_statement_reader grammar n x) (message_statement_reader grammar (suc n) y)
grows_message_statement grammar n Nested.none Nested.none h = grows_allowed_statement grammar n Nested.none Nested.none h
grows_message_statement grammar n (Nested.beyond p) (Nested.beyond q) h =
    grows_guarded nests_bounded (is_keyword (codes "message")) (grows_mapped MessageStatement.a_message (grows_message_line h)) (grows_allowed_statement grammar n (Nested.beyond p) (Nested.beyond q) h)
grows_message_statement grammar n (Nested.inside p) (Nested.inside q) h = grows_allowed_statement grammar n (Nested.inside p) (Nested.inside q) h
grows_message_statement grammar n Nested.none (Nested.beyond q) h = absurd h
grows_message_statement grammar n Nested.none (Nested.inside q) h = absurd h
grows_message_statement grammar n (Nested.beyond p) Nested.none h = absurd h
grows_message_statement grammar n (Nested.beyond p) (Nested.inside q) h = absurd h
grows_message_statement grammar n (Nested.inside p) Nested.none h = absurd h
grows_message_statement grammar n (Nested.inside p) (Nested.beyond q) h = absurd h

grows_body : (n : ℕ) {p q : Reader MessageStatement} → Grows p q → Grows (body_reader n p) (body_reader (suc n) q)
grows_body n g = grows_until n is_closing [] g (grows_same (mark_reader (codes "}")))

grows_nested : (grammar : Grammar) (n depth_left : ℕ) → GrowsNested (nested_in grammar n depth_left) (nested_in grammar (suc n) depth_left)
unfolding nested_in
grows_nested grammar n zero = grows_body n (grows_message_statement grammar n Nested.none Nested.none tt)
grows_nested grammar n (suc depth_left) = grows_body n (grows_message_statement grammar n (nested_in grammar n depth_left) (nested_in grammar (suc n) depth_left) (grows_nested grammar n depth_left))

grows_message : (grammar : Grammar) (n depth_left : ℕ) → Grows (message_reader grammar n depth_left) (message_reader grammar (suc n) depth_left)
grows_message grammar n depth_left =
    grows_message_line (grows_body n (grows_message_statement grammar n (nested_in grammar n depth_left) (nested_in grammar (suc n) depth_left) (grows_nested grammar n depth_left)))

-- ---- services

grows_streamed : (n : ℕ) → Grows (streamed_reader n) (streamed_reader (suc n))
unfolding streamed_reader
grows_streamed n =
    grows_choice streams (grows_mapped (λ t. (true, t)) (grows_behind (grows_same (keyword_reader (codes "stream"))) (grows_typename n)))
    (grows_mapped (λ t. (false, t)) (grows_typename n))

grows_method_statement : (grammar : Grammar) → (n : ℕ) → Grows (method_statement_reader grammar n) (method_statement_reader grammar (suc n))
unfolding method_statement_reader
grows_method_statement grammar n = grows_kinds method_kind (method_line grammar n) (method_line grammar (suc n)) line
  where
    line : (k : MethodKind) → GrowsSome (method_line grammar n k) (method_line grammar (suc n) k)
    line in_method.Empty = grows_same (mark_reader (codes ";"))
    line in_method.Option = grows_option grammar n

grows_method_end : (grammar : Grammar) → (n : ℕ) → Grows (method_end_reader grammar n) (method_end_reader grammar (suc n))
unfolding method_end_reader
grows_method_end grammar n = grows_choice (is_mark (codes "{")) (grows_mapped (λ _. tt) (grows_braced n (grows_method_statement grammar n)))
    (grows_same (mark_reader (codes ";")))

grows_parameter : (n : ℕ) → Grows (parameter_reader n) (parameter_reader (suc n))
unfolding parameter_reader
grows_parameter n = grows_behind (grows_same (mark_reader (codes "("))) (grows_before (grows_streamed n) (grows_same (mark_reader (codes ")"))))

grows_method : (grammar : Grammar) → (n : ℕ) → Grows (method_reader grammar n) (method_reader grammar (suc n))
unfolding method_reader
grows_method grammar n =
    grows_mapped method_from (grows_behind (grows_same (keyword_reader (codes "rpc")))
    (grows_both (grows_same name_reader)
    (grows_both (grows_parameter n)
    (grows_behind (grows_same (keyword_reader (codes "returns"))) (grows_before (grows_parameter n) (grows_method_end grammar n))))))

grows_service_statement : (grammar : Grammar) → (n : ℕ) → Grows (service_statement_reader grammar n) (service_statement_reader grammar (suc n))
unfolding service_statement_reader
grows_service_statement grammar n = grows_kinds service_kind (service_line grammar n) (service_line grammar (suc n)) line
  where
    line : (k : ServiceKind) → GrowsSome (service_line grammar n k) (service_line grammar (suc n) k)
    line in_service.Empty = grows_same (mapped (λ _. None) (mark_reader (codes ";")))
    line in_service.Option = grows_mapped (λ _. None) (grows_option grammar n)
    line in_service.Method = grows_mapped Some (grows_method grammar n)

grows_service : (grammar : Grammar) → (n : ℕ) → Grows (service_reader grammar n) (service_reader grammar (suc n))
unfolding service_reader
grows_service grammar n = grows_mapped service_from
    (grows_behind (grows_same (keyword_reader (codes "service"))) (grows_both (grows_same name_reader) (grows_braced n (grows_service_statement grammar n))))

-- ---- files

grows_package : (n : ℕ) → Grows (package_reader n) (package_reader (suc n))
unfolding package_reader
grows_package n = grows_mapped joined
    (grows_behind (grows_same (keyword_reader (codes "package"))) (grows_before (grows_fullname n) (grows_same (mark_reader (codes ";")))))

grows_file_statement : (grammar : Grammar) → (n : ℕ) (said : Bool) → Grows (file_statement_reader grammar n said) (file_statement_reader grammar (suc n) said)
unfolding file_statement_reader
grows_file_statement grammar n said = grows_kinds file_kind (file_line grammar n said) (file_line grammar (suc n) said) (line said)
  where
    line : (said : Bool) (k : FileKind) → GrowsSome (file_line grammar n said k) (file_line grammar (suc n) said k)
    line said in_file.Empty = grows_same (mapped (λ _. FileStatement.nothing_said) (mark_reader (codes ";")))
    line said in_file.Option = grows_mapped (λ _. FileStatement.nothing_said) (grows_option grammar n)
    line said in_file.Import = grows_same (mapped (λ x. FileStatement.an_import x.0 x.1) import_reader)
    line true in_file.Package = tt
    line false in_file.Package = grows_mapped FileStatement.a_package (grows_package n)
    line said in_file.Message = grows_mapped FileStatement.a_message (grows_message grammar n 63)
    line said in_file.Enum = grows_mapped FileStatement.an_enum (grows_enum grammar n)
    line said in_file.Service = grows_mapped FileStatement.a_service (grows_service grammar n)
    line said in_file.Extend =
        grows_taken (is_lenient grammar) (grows_mapped FileStatement.an_extend (grows_extend grammar n (nested_in grammar n 64) (nested_in grammar (suc n) 64) (grows_nested grammar n 64)))

grows_statements : (grammar : Grammar) → (n : ℕ) → Grows (statements_reader n grammar) (statements_reader (suc n) grammar)
grows_statements grammar n = grows_mapped (λ ss. (grammar, ss)) (grows_to_end n is_package false [] (grows_file_statement grammar n))

grows_file : (r : Reading) → (n : ℕ) → Grows (file_reader r n) (file_reader r (suc n))
unfolding file_reader
grows_file r n = grows_chain (grows_same (syntax_reader r)) (λ grammar. grows_statements grammar n)

-- ---- further by any number

abbrev sucs : ℕ → ℕ → ℕ
sucs zero n = n
sucs (suc k) n = suc (sucs k n)

sucs_is : (k n : ℕ) → sucs k n ≡ k + n
sucs_is zero n = omega arith
sucs_is (suc k) n = let e = sucs_is k n in omega arith

-- a file that is refused with a symbol is refused so however far the reader may go
module _ (r : Reading) (rules : Rules) (ts : List Symbol) (t : Symbol) (x : List Symbol) (why : Option Rule) where
  apart : {A : Type 0} {o : Outcome A} {w : Option Rule} → o ≡ Err (t ∷ x, why) → o ≡ Err ([], w) → ⊥
  apart {w = w} e f =
      let same : ◌≡◌ {A = List Symbol × Option Rule} (t ∷ x, why) ([], w) = cc (e, f) in let none : t ∷ x ≡ [] = ap (λ z. z.0) same in absurd (cc none)

  once : (n : ℕ) → (file_reader r (suc n) rules ts ≡ file_reader r n rules ts) ⊎ ((w : Option Rule) × (file_reader r n rules ts ≡ Err ([], w)))
      → file_reader r n rules ts ≡ Err (t ∷ x, why) → file_reader r (suc n) rules ts ≡ Err (t ∷ x, why)
  once n (inl e) h = e ∙ h
  once n (inr (w, e)) h = absurd (apart h e)

  further : (n k : ℕ) → file_reader r n rules ts ≡ Err (t ∷ x, why) → file_reader r (sucs k n) rules ts ≡ Err (t ∷ x, why)
  further n zero h = h
  further n (suc k) h = once (sucs k n) ((grows_file r (sucs k n)).grows rules ts) (further n k h)

  pub refused_further : (n m : ℕ) → n ≤ m → file_reader r n rules ts ≡ Err (t ∷ x, why) → file_reader r m rules ts ≡ Err (t ∷ x, why)
  refused_further n m l h =
      let e = sucs_is (m - n) n in let same : sucs (m - n) n ≡ m = omega arith in
      subst (λ k. file_reader r k rules ts ≡ Err (t ∷ x, why)) same (further n (m - n) h)
