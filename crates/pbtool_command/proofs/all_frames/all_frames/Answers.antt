use Rattle.pbtool_command.proofs.all_frames.all_frames.Goals as goal

pub returns-in-Listing-clause-comes : goal.returns-in-Listing-clause-comes
returns-in-Listing-clause-comes g c = rw c.in-Listing.is c.all_frames_listed.ensures.comes

pub returns-in-Json-clause-comes : goal.returns-in-Json-clause-comes
returns-in-Json-clause-comes g c = rw c.in-Json.is c.all_frames_json.ensures.comes
