-- What the functions below set_word are held to: what a list holds of a reply.
use Rattle.std.specs.Prelude.{◌≡◌, List, [], ◌∷◌, ◌/◌, ℤ, pos, length}
use Rattle.lang.specs.declared.Written.{Written}
use Rattle.lang.specs.Answers.{Reply, reply_of, list_of, written_reply}

-- how many items a reply has, and their numbers and zeros; or its number, and zeros
pub record Tells (reply : Reply) (items : List ℤ) (r : Written) (items' : List ℤ) : Type 0 where
  pub answer : written_reply r ≡ reply_of reply.number (pos (length reply.values / 6) ∷ [])
  pub list : items' ≡ list_of reply.number (pos 0) (length items) reply.values
