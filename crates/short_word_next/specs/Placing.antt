-- The letters of the next word: those of a word up to a place, a letter there, and the least letter after it, n in all.
use Rattle.std.specs.Prelude.{List, ◌∷◌, ◌++◌, ℕ, suc, ◌-◌, take, replicate}

abbrev pub letters_with : List ℕ → ℕ → ℕ → ℕ → ℕ → List ℕ
letters_with word kept c least n = take kept word ++ (c ∷ replicate (n - suc kept) least)
