-- A pair that has not finished at depth enough waits for another such pair, so it never ends; hence a pair whose reading ends has a
-- depth.
-- Assumes nothing.
use mathlib.Core.Path.{◌≡◌, refl, ◌∙◌}
use mathlib.Core.Bool.{true, false}
use mathlib.Core.List.{List, [], ◌∷◌}
use mathlib.Core.Option.{Option, none, some, map, some-ne-none}
use Prim.Native.Nat.{ℕ, suc}
use lib.ListN.{length}
use Rattle.lang.specs.declared.operation.PostLigOperation.TheVariants.{RetainBothMoveNowhere, RetainBothMoveToInserted, RetainBothMoveToRight}
use Rattle.lang.specs.declared.operation.PostLigOperation.TheVariants.{RetainRightMoveToInserted, RetainRightMoveToRight, RetainLeftMoveNowhere}
use Rattle.lang.specs.declared.operation.PostLigOperation.TheVariants.{RetainLeftMoveToInserted, RetainNeitherMoveToInserted}
use Rattle.reading.specs.Items.{Left, Rule, free, kerned, lig, Rules, plain, Head, at, head, Out}
use Rattle.reading.specs.Reading.{read, done, NeverEnds}
use Rattle.reading.specs.Depth.{Res, Finished, Pair, comp_by, raised, then_right, waits_both, waits_by}
use Rattle.reading.specs.Loops.{Ruled, finished}
use Rattle.reading.proofs.Steps.{one_end}
use Rattle.reading.proofs.Right.{right}
use Rattle.reading.proofs.Covers.{Covers}
use Rattle.reading.proofs.Enough.{once_more}
use Rattle.reading.proofs.Flags.{code_raised}
use Rattle.reading.proofs.Never.{not_both, never}

-- a pair that waits for one that has not finished
pub record Waits (f : Finished) (R : Rule) (l : Left) (r : ℕ) : Type 0 where
  pub for : Pair
  pub waits : waits_by R f l r ≡ some for
  pub open_still : f for.left for.right ≡ none

map_none : {A B : Type 0} (g : A → B) (o : Option A) → map g o ≡ none → o ≡ none
map_none g none e = refl
map_none g (some a) e = cc

module _ (f : Finished) where
  waits_both_lem : (l : Left) (r c : ℕ) (o : Option Res) → f l c ≡ o → then_right f r (map (raised false true) o) ≡ none →
      f (waits_both l c r o).left (waits_both l c r o).right ≡ none
  waits_both_lem l r c none e h = e
  waits_both_lem l r c (some p) e h = rw (← code_raised false true p) (map_none _ _ h)

  pub waits_by_lem : (R : Rule) (l : Left) (r : ℕ) → comp_by R f l r ≡ none → Waits f R l r
  waits_by_lem free l r e = absurd (some-ne-none _ e)
  waits_by_lem (kerned k) l r e = absurd (some-ne-none _ e)
  waits_by_lem (lig RetainNeitherMoveToInserted c) l r e = absurd (some-ne-none _ e)
  waits_by_lem (lig RetainRightMoveToInserted c) l r e = record { for = _; waits = refl; open_still = map_none _ _ e }
  waits_by_lem (lig RetainLeftMoveNowhere c) l r e = record { for = _; waits = refl; open_still = map_none _ _ e }
  waits_by_lem (lig RetainBothMoveNowhere c) l r e = record { for = _; waits = refl; open_still = waits_both_lem l r c (f l c) refl e }
  waits_by_lem (lig RetainRightMoveToRight c) l r e = absurd (some-ne-none _ e)
  waits_by_lem (lig RetainLeftMoveToInserted c) l r e = absurd (some-ne-none _ e)
  waits_by_lem (lig RetainBothMoveToInserted c) l r e = record { for = _; waits = refl; open_still = map_none _ _ e }
  waits_by_lem (lig RetainBothMoveToRight c) l r e = absurd (some-ne-none _ e)

module _ (rule : Rules) (ps : List Ruled) (c : Covers rule ps) where
  -- what has not finished waits for what has not
  pub unfinished_waits : (p : Pair) → finished rule ps p.left p.right ≡ none → Waits (finished rule ps) (rule p.left p.right) p.left p.right
  unfinished_waits p e = waits_by_lem (finished rule ps) (rule p.left p.right) p.left p.right (once_more rule ps c p.left p.right ∙ e)

  pub unfinished_never : (l : Left) (r : ℕ) → finished rule ps l r ≡ none → NeverEnds rule l r
  unfinished_never l r e =
      never rule (finished rule ps) (λ l r q e. (suc (length ps), e)) (λ p. finished rule ps p.left p.right ≡ none)
      (λ p s. let w = unfinished_waits p s in (w.for, w.waits, w.open_still)) (record { left = l; right = r }) e

  pub complete : (n : ℕ) (l : Left) (r : ℕ) {os : List Out} {u : Head} → read rule n (head l) (plain r ∷ []) ≡ done os u →
      (q : Res) × (finished rule ps l r ≡ some q) × (os ≡ q.outs) × (u ≡ at q.last)
  complete n l r {os} {u} e = go (finished rule ps l r) refl
    where
      go : (o : Option Res) → finished rule ps l r ≡ o → (q : Res) × (finished rule ps l r ≡ some q) × (os ≡ q.outs) × (u ≡ at q.last)
      go none i = absurd (not_both (unfinished_never l r i n) e)
      go (some q) i =
          let t = right rule (suc (length ps)) l r i in
          let s = one_end rule n t.0 (head l) (plain r ∷ []) e t.1 in
          (q, i, s.0, s.1)
