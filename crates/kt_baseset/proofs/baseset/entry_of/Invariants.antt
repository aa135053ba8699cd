use Rattle.kt_baseset.proofs.baseset.entry_of.Given as goal

abbrev pub ghosts-entry_by : goal.ghosts-entry_by
ghosts-entry_by a = record { name = a.blank.name; parts = a.blank.parts }
