use Rattle.std.proofs.Common.{◌+◌, get_or, negsuc}
use Rattle.words.specs.Lists.{Appending}
use Rattle.files.specs.Sections.{section_bytes, char_byte}
use Rattle.file_chars.proofs.write_chars.Given as goal

-- the words of the characters passed stand in front, and the rest is as it came
abbrev pub invariant-loop-i : goal.invariant-loop-i
invariant-loop-i l =
    Appending (section_bytes l.i (λ i. char_byte l.old (get_or l.table (l.first + i) (negsuc 0)) (l.start + i))) l.initial.out l.out
