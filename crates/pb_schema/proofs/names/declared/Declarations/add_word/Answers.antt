use Rattle.pb_schema.proofs.names.declared.Declarations.add_word.Goals as goal

pub returns : goal.returns
returns c may = (c.in_ok-_index.ensures may).added
