use Rattle.words.specs.Lists.{Appending}
use Rattle.files.specs.Sections.{section_bytes, kern_byte}
use Rattle.file_words.proofs.write_words.Given as goal

-- the words of the kerns passed stand in front, and the rest is as it came
abbrev pub invariant-loop-i : goal.invariant-loop-i
invariant-loop-i l = Appending (section_bytes l.i (kern_byte l.kerns)) l.initial.out l.out
