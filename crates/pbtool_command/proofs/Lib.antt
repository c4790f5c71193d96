-- ---- what was read
-- for bytes that were read up to a limit: what the first of them answer, one more than the limit, all of them do
pub mod Judged
-- for a set that may be longer than what is read: its first bytes, one more than may be read, tell what all of them do
pub mod SetWhole
-- ---- what a command comes to, from what its steps leave
-- for what follows from what is known of steps
pub mod Coming
-- for what comes of files after something was opened
pub mod FileSteps
-- for the message of a file
pub mod MessageSteps
-- for a file that is judged as a message
pub mod CheckSteps
-- for a message that is read from JSON
pub mod FromJsonSteps
-- for a line of JSON: a text and then a line feed
pub mod JsonSteps
-- for the loop of `frames`: the frames of a stream, one after another
pub mod Streams
-- for `frames`: an input with a buffer, and text that is put after what was written
pub mod Live
-- for `frames`: refusals that report a failed read
pub mod ReadFailures
-- for the loop of `frames --keep-going`: all frames of a stream, also those that are refused
pub mod PassedFrames
-- for `frames --keep-going`
pub mod AllStreams
-- small cases of the definitions of frames, worked by hand
mod Rows
-- for `raw`: bytes that are judged while they are read
pub mod EarlySteps
-- for `raw`
pub mod RawSteps
-- for how a run ends
pub mod Endings
-- for `compat`
pub mod CompatSteps
-- for right answers of a whole command: those of the bytes of honest files, and of the form of one over any files
pub mod NameSteps
pub mod Honest
-- for `frames`
pub mod Commands
-- ---- what `compile` gathers
-- for gathering by parts, and the files that are open
pub mod GatheringLemmas
-- for the sources that were read
pub mod SourceSteps
-- for texts by reference, in parts
pub mod TextLists
-- for a source that is looked for under one root after another
pub mod RootSteps
-- where a source is looked for: under one root there is one path, and over a map a name has one file at most
pub mod RootRows
-- for the steps of gathering
pub mod GatherSteps
-- for the set that is written: sources that link nest at most 100 levels deep
pub mod SetLevels
-- for `compile`
pub mod CompileSteps
