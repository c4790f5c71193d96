use Rattle.pbtool_files.proofs.reading.open_file.Goals as goal

pub returns-in-Ok-Some-clause-opened : goal.returns-in-Ok-Some-clause-opened
returns-in-Ok-Some-clause-opened g c = λ map honest. (
  (rw (honest.told, c.in-Ok-Some.field-0-is) at c.in-Ok-Some.ensures.map).1,
  rw c.in-Ok-Some.field-0-is at (c.in-Ok-Some.ensures.steady_input honest.steady),
)
