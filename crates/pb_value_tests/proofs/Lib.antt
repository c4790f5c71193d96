-- for `choose`: after a member of a oneof was set, no other one is there
mod ChoiceLemmas
