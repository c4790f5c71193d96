use Rattle.pb_value.proofs.full_name.+write_name.Given as goal

abbrev pub decreases-write_name : goal.decreases-write_name
decreases-write_name g l = l.message_type.0
