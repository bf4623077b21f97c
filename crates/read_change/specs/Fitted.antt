-- Lists of a length: cut, or filled up with zeros.
use Rattle.std.specs.Prelude.{List, ◌∷◌, ◌++◌, ℕ, ◌+◌, ℤ, pos, get_or, take, drop}
use Rattle.words.specs.Lists.{tabulate}

-- a list of n places: what passes them is left off, and zeros fill them up
abbrev pub fitted : ℕ → List ℤ → List ℤ
fitted n xs = tabulate n (λ i. get_or xs i (pos 0))

-- without the n numbers at a place
abbrev pub without : ℕ → ℕ → List ℤ → List ℤ
without at n xs = take at xs ++ drop (at + n) xs

-- with two numbers more at a place
abbrev pub with_two : ℕ → ℤ → ℤ → List ℤ → List ℤ
with_two at p q xs = take at xs ++ (p ∷ q ∷ drop at xs)
