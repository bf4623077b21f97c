-- TeX 540 and 541: the twelve lengths at the front of a font file, two bytes each, the higher first; the words at which the sections start;
-- and what is refused of them. A byte past the end of the file counts as 0.
use Rattle.std.specs.Prelude.{Bool, List, ℕ, suc, ◌+◌, ◌-◌, ◌*◌, leb, eqb, length, get_or}
use Rattle.lang.specs.Every.{both, every}
use Rattle.lang.specs.Checks.{unless}
use Rattle.files.specs.declared.FileLengths.{FileLengths}

-- byte i of a file
abbrev pub file_byte : List ℕ → ℕ → ℕ
file_byte file i = get_or file i 0

-- the number of two bytes that stands in place i among such numbers, from the front on
abbrev pub file_half : List ℕ → ℕ → ℕ
file_half file i = 256 * file_byte file (2 * i) + file_byte file (2 * i + 1)

-- the twelve lengths, in the order of TeX 540
abbrev pub lengths_of : List ℕ → FileLengths
lengths_of file =
    record {
      lf = file_half file 0;
      lh = file_half file 1;
      bc = file_half file 2;
      ec = file_half file 3;
      nw = file_half file 4;
      nh = file_half file 5;
      nd = file_half file 6;
      ni = file_half file 7;
      nl = file_half file 8;
      nk = file_half file 9;
      ne = file_half file 10;
      np = file_half file 11;
    }

-- ---- where the sections start, in words

-- how many characters have a word: those from bc to ec
abbrev pub char_count : FileLengths → ℕ
char_count l = suc l.ec - l.bc

-- the characters' words come after the lengths and the header
abbrev pub char_start : FileLengths → ℕ
char_start l = 6 + l.lh

-- the lig/kern section comes after the widths, heights, depths and italic corrections
abbrev pub command_start : FileLengths → ℕ
command_start l = char_start l + char_count l + l.nw + l.nh + l.nd + l.ni

-- then the kerns
abbrev pub kern_start : FileLengths → ℕ
kern_start l = command_start l + l.nl

-- then the recipes and the parameters
abbrev pub recipe_start : FileLengths → ℕ
recipe_start l = kern_start l + l.nk

-- where they end, which is how many words the lengths ask for
abbrev pub file_end : FileLengths → ℕ
file_end l = recipe_start l + l.ne + l.np

-- ---- 17

-- the lengths fit together: bc - 1 ≤ ec ≤ 255, and lf is their sum
abbrev pub lengths_fit : FileLengths → Bool
lengths_fit l = both (leb l.bc (suc l.ec)) (both (leb l.ec 255) (eqb l.lf (file_end l)))

-- 17: a length is above 32,767, they do not fit together, or the file is not lf words long
abbrev pub lengths_refusal : List ℕ → ℕ
lengths_refusal file =
    unless 17
    (both (every 12 (λ i. leb (file_half file i) 32767))
    (both (lengths_fit (lengths_of file)) (eqb (length file) (4 * (lengths_of file).lf))))
