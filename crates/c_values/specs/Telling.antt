-- What a call tells a host in C: a number, 0 or that of a refusal (R214), and the values of the answer in a lent list (R215). The answer
-- itself is the reply that the port's own function is held to; what is added here is 15 where the values' list is too short for it (R216).
use Rattle.std.specs.Prelude.{◌≡◌, List, map, ℕ, zero, suc, ℤ, pos, negsuc, length, replicate}
use Rattle.lang.specs.Checks.{or_else}
use Rattle.lang.specs.Answers.{Reply, room_refusal, list_of}

-- a value as an unsigned number; no value that is told in a list of u64 is negative
abbrev pub natural : ℤ → ℕ
natural (pos n) = n
natural (negsuc n) = 0

-- the number of the call: the reply's own, else 15 where a list of `room` places is too short for the values
abbrev pub told_number : Reply → ℕ → ℕ
told_number reply room = or_else reply.number (room_refusal (length reply.values) room)

-- the number, and the values with zeros after them, or zeros alone
pub record TellsHost (reply : Reply) (values : List ℕ) (r : ℕ) (values' : List ℕ) : Type 0 where
  pub number : r ≡ told_number reply (length values)
  pub told : values' ≡ list_of (told_number reply (length values)) 0 (length values) (map natural reply.values)

-- a call that writes one list beside its values
pub record Gives {A : Type 0} (o : A) (reply : Reply) (xs out : List A) (values : List ℕ) (r : ℕ) (out' : List A)
    (values' : List ℕ) : Type 0 where
  pub tells : TellsHost reply values r values'
  pub list : out' ≡ list_of (told_number reply (length values)) o (length out) xs

-- a call that writes two
pub record GivesTwo {A : Type 0} (o : A) (reply : Reply) (xs ys out more : List A) (values : List ℕ) (r : ℕ) (out' more' : List A)
    (values' : List ℕ) : Type 0 where
  pub tells : TellsHost reply values r values'
  pub list : out' ≡ list_of (told_number reply (length values)) o (length out) xs
  pub second : more' ≡ list_of (told_number reply (length values)) o (length more) ys

-- a list once the number is known: as it is, or zeros
abbrev pub kept {ℓ} : {A : Type ℓ} → ℕ → A → List A → List A
kept zero o xs = xs
kept (suc n) o xs = replicate (length xs) o
