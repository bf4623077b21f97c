-- A program that stands in front of a list, with its kern values shared; the heads of a text then.
use Rattle.std.specs.Prelude.{◌≡◌, Bool, cond, List, ◌++◌, ℕ, ℤ, pos, leb, length, take, drop, replicate}
use Rattle.lang.specs.Every.{both}
use Rattle.lang.specs.Answers.{padded}
use Rattle.program_kerns.specs.SharedKerns.{all_kerns, share_kerns, SharesKerns}
use Rattle.columns.specs.declared.TextHeads.{TextHeads}

-- the first n numbers are the program, and those behind them stay
pub record SharesFront (s : List ℤ) (n : ℕ) (kerns : List ℤ) (k r : ℕ) (s' kerns' : List ℤ) : Type 0 where
  pub program : List ℤ
  pub shares : SharesKerns (take n s) kerns k r program kerns'
  pub list : s' ≡ program ++ drop n s

-- a text's program and kerns of its own are within its limits: 512 instructions, four numbers each, and 512 kerns
abbrev pub within_text : ℕ → ℕ → Bool
within_text i k = both (leb i 2048) (leb k 512)

-- THE contract of share_text, with i numbers of the program and k kerns of its own in front of their lists: the program shared, with the
-- list behind it as it was; all kerns, with zeros behind them; and how many these are. Past the limits nothing is shared, and there are no
-- kerns
pub record SharesText (i k : ℕ) (s own : List ℤ) (r : ℕ) (s' kerns' : List ℤ) : Type 0 where
  pub answer : r ≡ cond (within_text i k) (length (all_kerns (take i s) (take k own))) 0
  pub program : s' ≡ cond (within_text i k) (share_kerns (take i s) (take k own) ++ drop i s) s
  pub list : kerns' ≡ cond (within_text i k) (padded (pos 0) 1024 (all_kerns (take i s) (take k own))) (replicate 1024 (pos 0))

-- the heads of a text with so many kerns
abbrev pub heads_with : TextHeads → ℕ → TextHeads
heads_with h m =
    record {
      design = h.design;
      boundary = h.boundary;
      left = h.left;
      instructions = h.instructions;
      kerns = m;
      entries = h.entries;
      letters = h.letters;
    }
