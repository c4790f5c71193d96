-- for `explaining`: the line of a refusal, and the lines that explain it
pub mod ExplainedSteps
-- for `pages::page`: what clap answers to `--help`
pub mod HelpPages
-- for `command_line::run`: what the matches of clap name
pub mod Matches
-- for why a parse fails, which `run` reports
pub mod Refusals
-- for `command_line::answer`: what is printed where no command over files is named
pub mod Shown
-- for `command_line::values` and `target_of`: the values of an argument
pub mod TextLists
