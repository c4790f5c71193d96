-- a seal, its parts and a box of a pool as one type
mod AsPoolBox
-- the same of a message
mod AsMessageBox
-- the same of a decoder
mod AsDecoderBox
-- an option that is there
mod Filled
-- what a decoder has read so far may go to another thread
mod PartsSend
