use Rattle.std.proofs.Common.{◌≡◌, false, length, map, ◌++◌, sym, ap, ◌∙◌, subst, arith, rules, List, Option, Some}
use Rattle.std.specs.Prelude.{string_bytes, slice_get, filter_map}
use Rattle.std.proofs.lemmas.List.{length-map}
use Rattle.pb_schema.specs.Names.{message_names, name_at}
use Rattle.pb_schema.specs.Types.{MessageView}
use Rattle.pb_schema.specs.View.{message_view as view_of_message, field_view as view_of_field}
use Rattle.pb_schema.specs.declared.types.Field.{Field}
use Rattle.pb_schema.proofs.NameTreeLemmas.{name_at-get}
use Rattle.pb_declarations.specs.Decls.{message, messages_of}
use Rattle.pb_link.specs.Declarable.{AreDeclarable}
use Rattle.pb_link.specs.Nested.{Insides, inside_view, whole_message}
use Rattle.pb_link.specs.ToDecls.{declared_fields, entry_of_field, synthetic_names}
use Rattle.pb_link.proofs.AsciiLemmas.{message_name_ascii}
use Rattle.pb_link.proofs.DeclarableLemmas.{declarable, few_fields, few_members}
use Rattle.pb_link.proofs.DeclaredLemmas.{listed_size, viewed_get}
use Rattle.pb_declarations.proofs.ViewLemmas.{message_view-roll}
use Rattle.pb_link.proofs.NestedLemmas.{inner_whole, whole_is}
use Rattle.pb_link.proofs.declaring.nesting.message_decl.Goals as goal

some_same : {A : Type 0} {o : Option A} (a b : A) → o ≡ Some a → o ≡ Some b → a ≡ b
some_same a b h k = cc

pub field_decls-requires-clause-scope : goal.field_decls-requires-clause-scope
field_decls-requires-clause-scope c = message_name_ascii c.args.pool.now c.messages.ensures.rules c.args.index c.message_name-scope.result.now c.message_name-scope.ensures.found

pub field_decls-requires-clause-few : goal.field_decls-requires-clause-few
field_decls-requires-clause-few c =
    let ts = c.args.pool.now in
    let m = c.index-messages-index.result in
    let size = listed_size view_of_message c.messages.result.now ts.messages c.messages.ensures.listed in
    let within = c.requires.within in
    let there : slice_get ts.messages c.args.index ≡ Some (view_of_message m) = viewed_get view_of_message c.messages.result.now ts.messages c.args.index m c.messages.ensures.listed (omega (arith, size, within)) c.index-messages-index.is in
    let fields = few_fields ts c.messages.ensures.rules c.args.index (view_of_message m) there in
    let members = few_members ts c.messages.ensures.rules c.args.index (view_of_message m) there in
    let oneofs = length-map m.oneofs.items string_bytes in
    let own = length-map m.fields.items view_of_field in
    let read : length c.deref.result.now ≡ length m.fields.items = ap length c.deref.ensures.value in
    omega (arith, fields, members, oneofs, own, read, m.oneofs.ok.0, c.len.ensures)

pub field_decls-requires-clause-fields : goal.field_decls-requires-clause-fields
field_decls-requires-clause-fields c =
    let ts = c.args.pool.now in
    let m = c.index-messages-index.result in
    let size = listed_size view_of_message c.messages.result.now ts.messages c.messages.ensures.listed in
    let within = c.requires.within in
    let there : slice_get ts.messages c.args.index ≡ Some (view_of_message m) = viewed_get view_of_message c.messages.result.now ts.messages c.args.index m c.messages.ensures.listed (omega (arith, size, within)) c.index-messages-index.is in
    subst (λ (l : List Field). AreDeclarable ts (map view_of_field l)) (sym c.deref.ensures.value) (declarable ts c.messages.ensures.rules c.args.index (view_of_message m) there)

pub inner_messages-requires-clause-fields : goal.inner_messages-requires-clause-fields
inner_messages-requires-clause-fields c =
    let ts = c.args.pool.now in
    let m = c.index-messages-index.result in
    let size = listed_size view_of_message c.messages.result.now ts.messages c.messages.ensures.listed in
    let within = c.requires.within in
    let there : slice_get ts.messages c.args.index ≡ Some (view_of_message m) = viewed_get view_of_message c.messages.result.now ts.messages c.args.index m c.messages.ensures.listed (omega (arith, size, within)) c.index-messages-index.is in
    subst (λ (l : List Field). AreDeclarable ts (map view_of_field l)) (sym c.deref-2.ensures.value) (declarable ts c.messages.ensures.rules c.args.index (view_of_message m) there)

pub returns : goal.returns
returns c t at =
    let ts = c.args.pool.now in
    let i = c.args.index in
    let m = c.index-messages-index.result in
    let size = listed_size view_of_message c.messages.result.now ts.messages c.messages.ensures.listed in
    let within = c.requires.within in
    let there : slice_get ts.messages i ≡ Some (view_of_message m) = viewed_get view_of_message c.messages.result.now ts.messages i m c.messages.ensures.listed (omega (arith, size, within)) c.index-messages-index.is in
    let named : string_bytes c.in_ok-name.name ≡ string_bytes m.name = search rules in
    let members : c.len.result ≡ length (map string_bytes m.oneofs.items) = omega (arith, length-map m.oneofs.items string_bytes, m.oneofs.ok.0, c.len.ensures) in
    let scope : c.message_name-scope.result.now ≡ name_at (message_names ts) i = sym (name_at-get (message_names ts) i c.message_name-scope.result.now c.message_name-scope.ensures.found) in
    message_view-roll c.in_ok-name.name c.in_ok-fields.fields c.in_ok-messages.messages c.args.inside.enums c.in_ok-oneofs.oneofs c.new.result c.new-2.result false
    ∙ (λ k. message (record {
      name = named k;
      fields = (c.in_ok-fields.ensures ∙ (λ j. declared_fields (c.is_two-proto2.ensures j) ts (scope j) (members j) (map view_of_field (c.deref.ensures.value j)))) k;
      enums = ap (λ (x : Insides). x.enums) c.requires.inside k;
      oneofs = (c.in_ok-oneofs.ensures ∙ ap (λ b. (view_of_message m).oneofs ++ synthetic_names b (view_of_message m).fields) c.is_two-proto2.ensures) k;
      reserved = c.new.ensures.items k;
      reserved_names = map string_bytes (c.new-2.ensures.items k);
      is_entry = false;
    }) (messages_of ((c.in_ok-messages.ensures ∙ (λ j. inner_whole ts c.messages.ensures.rules i ts.enums (inside_view c.args.inside) c.requires.inside j ++ filter_map (entry_of_field ts) (map view_of_field (c.deref-2.ensures.value j)))) k)))
    ∙ sym (whole_is ts c.messages.ensures.rules i (view_of_message m) there)
    ∙ ap (λ (u : MessageView). whole_message ts (i, u)) (some_same (view_of_message m) t there at)
