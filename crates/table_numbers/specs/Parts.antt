-- Parts of the tests of captions that have a function of their own.
use Rattle.std.specs.Prelude.{Bool, true, cond, List, ℕ, ℤ, eqb}
use Rattle.words.specs.Words.{word_of}
use Rattle.lang.specs.Every.{both}
use Rattle.lang.specs.Records.{within}
use Rattle.captions.specs.Tables.{number, last_flag, last_code}

-- of `recordFits`: what the last must be (R257, R260)
abbrev pub last_fits : List ℤ → ℕ → Bool
last_fits pairs k =
    both (within 255 (number pairs k 2))
    (both (within 1 (number pairs k 3)) (cond (last_flag pairs k) true (eqb (last_code pairs k) (word_of (number pairs k 1)))))
