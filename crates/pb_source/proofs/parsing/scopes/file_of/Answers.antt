use Rattle.std.proofs.Common.{ap, ◌∙◌, false}
use Rattle.pb_declarations.specs.Decls.{messages_of}
use Rattle.pb_source.specs.Meaning.{all_said, all_scoped, file_messages_said}
use Rattle.pb_source.proofs.ScopeSteps.{messages_scoped}
use Rattle.pb_source.proofs.parsing.scopes.file_of.Goals as goal

pub returns : goal.returns
returns c ss h =
    let package_said = c.in_ok-scope.ensures.ok ∙ c.as_str.ensures.value ∙ h.package_name in
    λ i. record {
      name = c.in_ok-name.ensures.ok i;
      package_name = h.package_name i;
      imports = h.imports i;
      public_indexes = h.public_indexes i;
      messages =
          (messages_scoped _ _ _ c.in_ok-scope_messages.ensures.scoped ∙ ap (all_scoped _) (ap messages_of h.messages)
          ∙ ap (λ s. all_scoped s (messages_of (all_said file_messages_said ss))) package_said) i;
      enums = h.enums i;
      services = h.services i;
      is_proto2 = c.is_proto2.ensures i;
    }
