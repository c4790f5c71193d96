-- Rows that pin what went out to a device.
use Rattle.std.proofs.Common.{ℕ, List, inl, inr, Option}
use Rattle.pb_output.specs.Sending.{Sent, Cut, SentOrCut}

whole_is_either : {D : Type 0} (written : D → Option (List ℕ)) (failures : D → ℕ) (old new : D) (bytes : List ℕ) → Sent written failures old new bytes → SentOrCut written failures old new bytes
whole_is_either written failures old new bytes sent = inl sent

cut_is_either : {D : Type 0} (written : D → Option (List ℕ)) (failures : D → ℕ) (old new : D) (bytes : List ℕ) → Cut written failures old new bytes → SentOrCut written failures old new bytes
cut_is_either written failures old new bytes cut = inr cut
