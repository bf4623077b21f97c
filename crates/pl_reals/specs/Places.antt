-- What a private function that passes over digits promises.
use Rattle.std.specs.Prelude.{◌≡◌, List, ℕ, ◌≤◌, length, drop}
use Rattle.std.proofs.Math.Seq.{slice}
use Rattle.property_lists.specs.Values.{figures, past_figures, decimals_at, past_decimals}
use Rattle.property_lists.specs.Reals.{real_decimals}
use Rattle.pl_reals.specs.declared.Decimals.{Decimals}

-- the digits from a place on end at r
pub record FiguresEnd (text : List ℕ) (at r : ℕ) : Type 0 where
  pub low : at ≤ r
  pub high : r ≤ length text
  pub digits : figures (drop at text) ≡ slice at r text
  pub rest : past_figures (drop at text) ≡ drop r text

-- what follows a whole part
pub record ReadsDecimals (text : List ℕ) (at : ℕ) (r : Decimals) : Type 0 where
  pub value_is : r.value ≡ real_decimals (decimals_at (drop at text))
  pub rest : drop r.next text ≡ past_decimals (drop at text)
  pub low : at ≤ r.next
  pub high : r.next ≤ length text
