-- What a packed entry stands for (R142). TeX 545: an entry at a redirect stands for the redirect's target. TFtoPL 67: an entry can be past
-- the end, or at a redirect whose target is.
use Rattle.std.specs.Prelude.{cond, List, ℕ, ◌%◌, ℤ, ltb}
use Rattle.words.specs.Words.{word_of}
use Rattle.lang.specs.Records.{count, field, is_kind}
use Rattle.lang.specs.Checks.{unless}

-- the target of the redirect at i
abbrev pub target_at : List ℤ → ℕ → ℕ
target_at s i = word_of (field s i 3) % 65536

-- a redirect's target, or the entry itself
abbrev pub stands_for : List ℤ → ℕ → ℕ
stands_for s e = cond (is_kind 3 s e) (target_at s e) e

-- 8 (R237): the entry is past the instructions. 9 (R238): it is at a redirect whose target is past them.
abbrev pub entry_refusal : List ℤ → ℕ → ℕ
entry_refusal s e = cond (ltb e (count s)) (cond (is_kind 3 s e) (unless 9 (ltb (target_at s e) (count s))) 0) 8
