-- The messages and the enums that files declare, in declaration order: a message, then those in it, then its enums. Entry
-- messages are left out.
use Rattle.std.specs.Prelude.{List, [], ◌∷◌, ◌++◌, if◌then◌else◌}
use Rattle.std.specs.List.{flat_map}
use Rattle.pb_declarations.specs.Decls.{DeclaredEnum, MessageHead, DeclaredMessage, message, DeclaredMessages, no_messages, more_messages, DeclaredFile}

abbrev pub unless_entry : MessageHead → List MessageHead
unless_entry head = if head.is_entry then [] else head ∷ []

abbrev mutual
  pub heads_in : DeclaredMessage → List MessageHead
  heads_in (message head inner) = unless_entry head ++ heads_among inner

  pub heads_among : DeclaredMessages → List MessageHead
  heads_among no_messages = []
  heads_among (more_messages m ms) = heads_in m ++ heads_among ms

abbrev pub declared_heads : List DeclaredFile → List MessageHead
declared_heads files = flat_map (λ f. heads_among f.messages) files

abbrev mutual
  pub enums_in : DeclaredMessage → List DeclaredEnum
  enums_in (message head inner) = enums_among inner ++ head.enums

  pub enums_among : DeclaredMessages → List DeclaredEnum
  enums_among no_messages = []
  enums_among (more_messages m ms) = enums_in m ++ enums_among ms

-- the enums outside messages come last in each file
abbrev pub declared_enums : List DeclaredFile → List DeclaredEnum
declared_enums files = flat_map (λ f. enums_among f.messages ++ f.enums) files
