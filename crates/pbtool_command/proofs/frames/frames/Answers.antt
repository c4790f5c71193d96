use Rattle.pbtool_command.proofs.frames.frames.Goals as goal

pub returns-in-Listing-clause-comes : goal.returns-in-Listing-clause-comes
returns-in-Listing-clause-comes g c = rw c.in-Listing.is c.listed_frames.ensures.comes

pub returns-in-Json-clause-comes : goal.returns-in-Json-clause-comes
returns-in-Json-clause-comes g c = rw c.in-Json.is c.json_frames.ensures.comes
