-- How deep messages are declared in each other.
use Rattle.std.specs.Prelude.{ℕ, suc, max}
use Rattle.pb_declarations.specs.Decls.{DeclaredMessage, message, DeclaredMessages, no_messages, more_messages}

-- how many messages are nested in each other, the outermost among them
abbrev mutual
  pub nests : DeclaredMessage → ℕ
  nests (message head inner) = suc (all_nest inner)

  pub all_nest : DeclaredMessages → ℕ
  all_nest no_messages = 0
  all_nest (more_messages m ms) = max (nests m) (all_nest ms)
