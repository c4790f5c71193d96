use Rattle.pbtool_files.proofs.report.put_refusal.Goals as goal

pub returns-in-TooLarge : goal.returns-in-TooLarge
returns-in-TooLarge g c = rw c.in-TooLarge.is c.put.ensures

pub returns-in-Breaks : goal.returns-in-Breaks
returns-in-Breaks g c = rw c.in-Breaks.is c.put-in-Breaks.ensures
