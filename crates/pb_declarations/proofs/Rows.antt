-- Rows that pin how deep messages stand in each other, and what it is to have one meaning or one fault.
use Rattle.std.proofs.Common.{◌≡◌, ◌⊎◌, refl, [], false}
use Rattle.pb_declarations.specs.Decls.{DeclaredMessage, message, DeclaredMessages, no_messages, more_messages}
use Rattle.pb_declarations.specs.Nests.{nests, all_nest}
use Rattle.pb_declarations.specs.One.{ExactlyOne}

-- a message that declares these, and nothing else
abbrev holds : DeclaredMessages → DeclaredMessage
holds inner = message (record { name = []; fields = []; enums = []; oneofs = []; reserved = []; reserved_names = []; is_entry = false }) inner

abbrev alone : DeclaredMessage
alone = holds no_messages

abbrev two_deep : DeclaredMessage
two_deep = holds (more_messages alone no_messages)

no_message_nests : all_nest no_messages ≡ 0
no_message_nests = refl

one_message_nests : nests alone ≡ 1
one_message_nests = refl

-- the deepest one counts, wherever it stands among the others
deepest_last : all_nest (more_messages alone (more_messages alone (more_messages two_deep no_messages))) ≡ 2
deepest_last = refl

deepest_first : all_nest (more_messages two_deep (more_messages alone no_messages)) ≡ 2
deepest_first = refl

meaning_or_fault : {A B : Type 0} {Means : A → Type 0} {Fails : B → Type 0} → ExactlyOne Means Fails → ((v : A) × Means v) ⊎ ((f : B) × Fails f)
meaning_or_fault one = one.either

never_both : {A B : Type 0} {Means : A → Type 0} {Fails : B → Type 0} → ExactlyOne Means Fails → (v : A) (f : B) → Means v → Fails f → ⊥
never_both one v f means fails = one.not_both v f means fails

same_meaning : {A B : Type 0} {Means : A → Type 0} {Fails : B → Type 0} → ExactlyOne Means Fails → (v w : A) → Means v → Means w → v ≡ w
same_meaning one v w first second = one.one_meaning v w first second

same_fault : {A B : Type 0} {Means : A → Type 0} {Fails : B → Type 0} → ExactlyOne Means Fails → (f g : B) → Fails f → Fails g → f ≡ g
same_fault one f g first second = one.one_fault f g first second
