use Rattle.words.specs.Words.{number_of}
use Rattle.words.specs.Lists.{Appending}
use Rattle.files.specs.Sections.{section_bytes, command_byte}
use Rattle.file_words.proofs.write_commands.Given as goal

-- the words of the instructions passed stand in front, and the rest is as it came
abbrev pub invariant-loop-i : goal.invariant-loop-i
invariant-loop-i l = Appending (section_bytes l.i (command_byte l.instructions (number_of l.b))) l.initial.out l.out
