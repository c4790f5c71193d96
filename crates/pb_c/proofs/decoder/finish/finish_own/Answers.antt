-- The decoder that is finished is the one that is owned.
use Rattle.pb_c.proofs.decoder.finish.finish_own.Goals as goal

pub returns-clause-given : goal.returns-clause-given
returns-clause-given c = rw (← c.own.view_is) c.message_of_parts.ensures.given

pub returns-clause-refused : goal.returns-clause-refused
returns-clause-refused c = rw (← c.own.view_is) c.message_of_parts.ensures.refused

pub returns-clause-steps : goal.returns-clause-steps
returns-clause-steps c = rw (← c.own.view_is) c.message_of_parts.ensures.steps
