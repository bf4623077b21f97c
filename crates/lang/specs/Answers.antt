-- What a function that fills a list answers, and what the list then holds: the answer and zeros (R255), or zeros alone where it is refused
-- (R252).
use Rattle.std.specs.Prelude.{cond, List, [], ◌∷◌, ◌++◌, ℕ, zero, suc, ◌-◌, pos, leb, length, replicate}
use Rattle.lang.specs.declared.Written.{Written}
use Rattle.lang.specs.declared.Written.TheVariants.{Count, Refused}
pub use Rattle.words.specs.Replies.{Reply, reply_of}

-- what it answers, as a number and values (R285)
abbrev pub written_reply : Written → Reply
written_reply (Count n) = reply_of 0 (pos n ∷ [])
written_reply (Refused n) = record { number = n; values = [] }

-- 15 (R244): an output list is too short for the answer, which needs `needed` places of the `room` there are
abbrev pub room_refusal : ℕ → ℕ → ℕ
room_refusal needed room = cond (leb needed room) 0 15

-- a list that was lent n places long: what is written, and zeros (R255)
abbrev pub padded {ℓ} : {A : Type ℓ} → A → ℕ → List A → List A
padded o n xs = xs ++ replicate (n - length xs) o

-- by the refusal: what is written and zeros, or zeros (R252)
abbrev pub list_of {ℓ} : {A : Type ℓ} → ℕ → A → ℕ → List A → List A
list_of zero o n xs = padded o n xs
list_of (suc r) o n xs = replicate n o
