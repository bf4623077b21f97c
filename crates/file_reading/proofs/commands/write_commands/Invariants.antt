use Rattle.words.specs.Lists.{Appending}
use Rattle.files.specs.Reading.{commands_from}
use Rattle.file_reading.proofs.commands.write_commands.Given as goal

-- the instructions of the words passed stand in front, and the rest is as it came
abbrev pub invariant-loop-i : goal.invariant-loop-i
invariant-loop-i l = Appending (commands_from l.file l.w l.i) l.initial.out l.out
