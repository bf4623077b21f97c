-- What is passed over: blanks, everything up to a parenthesis.
-- Assumes nothing.
use mathlib.Core.Path.{◌≡◌}
use mathlib.Core.Bool.{Bool, true, false}
use mathlib.Core.List.{List}
use Prim.Native.Nat.{ℕ, ◌+◌, ◌<◌, ◌≤◌}
use lib.Dec.{eqb}
use lib.ListN.{length, get_or, drop}
use Rattle.property_lists.specs.Chars.{is_passed, unless_held, pass_over}
use Rattle.pl_blanks.proofs.Places.{at_byte, at_end_lem}

module _ (text : List ℕ) (i : ℕ) (all held : Bool) where
  pub over_more : i < length text → is_passed all held (get_or text i 0) ≡ true →
      pass_over all held (drop i text) ≡ pass_over all (eqb (get_or text i 0) 13) (drop (i + 1) text)
  unfolding pass_over
  over_more h e = rw (at_byte text i h, e)

  pub over_stop : i < length text → is_passed all held (get_or text i 0) ≡ false → pass_over all held (drop i text) ≡ unless_held held (drop i text)
  unfolding pass_over
  over_stop h e = rw (at_byte text i h, e)

  pub over_end : length text ≤ i → pass_over all held (drop i text) ≡ unless_held held (drop i text)
  unfolding pass_over
  over_end h = rw (at_end_lem text i h)
