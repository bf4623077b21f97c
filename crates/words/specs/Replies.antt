-- An answer as a number and values. A function that answers by an enum is held to them, by a definition for that enum (R285).
use Rattle.std.specs.Prelude.{List, [], ℕ, zero, suc, ℤ}

-- an answer: the number, 0 where it is taken and else one of R230 to R245, and the values
pub record Reply : Type 0 where
  pub number : ℕ
  pub values : List ℤ

-- by the refusal: the values, or its number alone
abbrev pub reply_of : ℕ → List ℤ → Reply
reply_of zero vs = record { number = 0; values = vs }
reply_of (suc n) vs = record { number = suc n; values = [] }
