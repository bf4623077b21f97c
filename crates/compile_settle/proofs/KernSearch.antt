-- The search from a row with a kern: it finishes at once, with its right as it came.
-- Assumes nothing.
use mathlib.Core.Path.{◌≡◌, refl, sym, ap, ◌∙◌}
use mathlib.Core.List.{List}
use mathlib.Core.Logic.{inr}
use Prim.Native.Nat.{ℕ, ◌+◌, ◌<◌}
use native.Mathlib.Omega.{arith}
use Rattle.compiling.specs.declared.Last.TheVariants.{Known}
use Rattle.compiling.specs.Rows.{at}
use Rattle.compiling.specs.SettleSteps.{status, RuleSays, Searching, opening, finishing, Searched}
use Rattle.compiling.proofs.Known.{row_plain}
use Rattle.compiling.proofs.Stores.{opens}
use Rattle.compiling.proofs.SettleLaws.{done_few, turned_finish, going_begin, going_more, going_end}

module _ (n m k : ℕ) (w w₁ : List ℕ) (s : Searching n w 0 m) (l : k < n) (e : status w k ≡ 0) (i : w₁ ≡ opening w k 0) where
  began : Searching n w₁ 1 m
  began = (going_begin n m k w w₁ s l e i).searching

  pub kern_few : m < n
  kern_few = done_few w₁ began (omega arith)

  on_path : k ≡ at w₁ 0 8
  on_path =
      let room = s.encoded.ascending.room in
      sym (ap (λ (u : List ℕ). at u 0 8) i ∙ (opens w k 0 (omega (arith, room)) (omega (arith, room))).entry_is)

  pub kern_found : (op right : ℕ) (v : List ℕ) → op ≡ at w₁ k 3 → op ≡ 128 → right ≡ at w₁ k 1 → v ≡ finishing w₁ k m right 0 → Searched n w v k (m + 1)
  kern_found op right v a b c f =
      let small : right < 256 = omega (arith, c, began.encoded.ascending.right k l) in
      let says : RuleSays n w₁ k (Known right 0) = row_plain n w₁ k right c small (inr (inr (sym a ∙ b))) in
      let g = going_begin n m k w w₁ s l e i in
      let t = turned_finish n m w₁ k (Known right 0) says 1 right 0 v (omega arith) began on_path refl f in
      going_end n m k w w₁ s l e i v (record { path = 0; done = m + 1 })
      (going_more n k w₁ w₁ v (record { path = 1; done = m }) (record { path = 0; done = m + 1 }) l g t) (omega arith)
