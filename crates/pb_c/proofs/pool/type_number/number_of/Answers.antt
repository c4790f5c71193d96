-- What is not UTF-8 is no name of a type.
use Rattle.pb_c.proofs.TypeNames.{name_is_text}
use Rattle.pb_c.proofs.pool.type_number.number_of.Goals as goal

pub returns-in_default-clause-none : goal.returns-in_default-clause-none
returns-in_default-clause-none c none m has =
    c.in_default.ensures.cases.0 (name_is_text c.args.pool.now c.messages-messages.ensures.rules c.args.name.now m has)
