use Rattle.pbtool_cli.proofs.HelpPages.{page_of, page_of_tool}
use Rattle.pbtool_cli.proofs.pages.page.Goals as goal

pub usage_of-requires : goal.usage_of-requires
usage_of-requires c = page_of c.in-Some.name.now (rw c.in-Some.is at c.requires)

pub usage_of-requires-in-None : goal.usage_of-requires-in-None
usage_of-requires-in-None c = page_of_tool
