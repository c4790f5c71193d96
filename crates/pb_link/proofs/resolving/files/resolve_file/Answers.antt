use Rattle.std.proofs.Common.{◌≡◌, map, drop, ap, ◌∙◌, rules}
use Rattle.std.specs.Prelude.{string_bytes}
use Rattle.pb_declarations.specs.Decls.{messages_of}
use Rattle.pb_declarations.specs.View.{enum_view, message_view, service_view, file_view}
use Rattle.pb_link_names.specs.View.{declaration_view}
use Rattle.pb_link.specs.Resolving.{coming, message_read, services_read, each_read, each_behind, behind_message, behind_messages, behind_enum, behind_service, behind_types}
use Rattle.pb_link.proofs.ResolvingLemmas.{messages_listed, messages_behind}
use Rattle.pb_link.proofs.resolving.files.resolve_file.Goals as goal

pub returns-clause-file : goal.returns-clause-file
returns-clause-file c =
    let ds = map declaration_view c.args.row.now in
    let f = c.args.file.now in
    let ns = coming c.args.names.now in
    let ms = map message_view f.messages.items in
    let named : string_bytes c.in_ok-name.name ≡ string_bytes f.name = search rules in
    let packed : string_bytes c.in_ok-package.«package» ≡ string_bytes f.«package» = search rules in
    let read : map message_view c.in_ok-messages.messages.items ≡ each_read (message_read ds) behind_message (drop 1 ns) ms = c.in_ok-messages.ensures.made ∙ (λ j. each_read (message_read ds) behind_message (c.skip.ensures j) (map message_view (c.deref.ensures.value j))) in
    let went : coming c.resolve_messages.new.names ≡ behind_messages (messages_of ms) (drop 1 ns) = c.in_ok-messages.ensures.behind ∙ (λ j. each_behind behind_message (map message_view (c.deref.ensures.value j)) (c.skip.ensures j)) ∙ messages_behind ms (drop 1 ns) in
    let types : coming c.skip_enums.new.names ≡ behind_types (file_view f) ns = c.skip_enums.ensures ∙ (λ j. each_behind behind_enum (map enum_view (c.deref-2.ensures.value j)) (went j)) in
    λ k. record {
      name = named k;
      package_name = packed k;
      imports = (c.in_ok-imports.ensures ∙ ap (map string_bytes) c.deref-4.ensures.value) k;
      public_indexes = (c.in_ok-public.ensures.items ∙ c.deref-5.ensures.value) k;
      messages = (ap messages_of read ∙ messages_listed ds (drop 1 ns) ms) k;
      enums = (c.in_ok-enums.ensures ∙ ap (map enum_view) c.deref-6.ensures.value) k;
      services = (c.in_ok-services.ensures.services ∙ (λ j. services_read ds (types j) (map service_view (c.deref-3.ensures.value j)))) k;
      is_proto2 = f.proto2;
    }

pub returns-clause-behind : goal.returns-clause-behind
returns-clause-behind c =
    let f = c.args.file.now in
    let ns = coming c.args.names.now in
    let ms = map message_view f.messages.items in
    let went : coming c.resolve_messages.new.names ≡ behind_messages (messages_of ms) (drop 1 ns) = c.in_ok-messages.ensures.behind ∙ (λ j. each_behind behind_message (map message_view (c.deref.ensures.value j)) (c.skip.ensures j)) ∙ messages_behind ms (drop 1 ns) in
    let types : coming c.skip_enums.new.names ≡ behind_types (file_view f) ns = c.skip_enums.ensures ∙ (λ j. each_behind behind_enum (map enum_view (c.deref-2.ensures.value j)) (went j)) in
    c.in_ok-services.ensures.behind ∙ (λ j. each_behind behind_service (map service_view (c.deref-3.ensures.value j)) (types j))
