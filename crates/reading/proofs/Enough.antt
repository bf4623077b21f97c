-- One more than the number of pairs with a rule is depth enough: at each depth one more of those pairs has finished, or nothing new
-- finishes at any later depth.
-- Assumes nothing.
use mathlib.Core.Path.{◌≡◌, refl, sym, ◌∙◌, ap, fun_ext}
use mathlib.Core.Bool.{Bool, true, false≢true}
use mathlib.Core.List.{List, Memᴰ}
use mathlib.Core.Logic.{◌⊎◌, inl, inr, ⊎_elim}
use mathlib.Core.Option.{Option, none, some}
use Prim.Native.Nat.{ℕ, zero, suc, ◌+◌, ◌≤◌, ◌<◌, zero-le}
use native.Mathlib.Nat.{zero-add, suc-add}
use native.Mathlib.Numerals.{add-one}
use native.Mathlib.Omega.{arith}
use lib.ListN.{length}
use Rattle.reading.specs.Items.{Left, Rule, free, kerned, lig, Rules}
use Rattle.reading.specs.Depth.{Res, Finished, comp, comp_by}
use Rattle.reading.specs.Loops.{Ruled, is_finished, finished}
use Rattle.reading.proofs.Right.{deeper}
use Rattle.reading.proofs.Count.{count, count_all, grown}
use Rattle.reading.proofs.Covers.{Covers}

-- whether a pair has finished
abbrev pub has_finished : Finished → Ruled → Bool
has_finished f p = is_finished (f p.pair.left p.pair.right)

-- what has finished keeps its result, so where the same pairs have finished the results are the same
same_results : (o o' : Option Res) → ((q : Res) → o ≡ some q → o' ≡ some q) → is_finished o ≡ is_finished o' → o ≡ o'
same_results none none k e = refl
same_results none (some q) k e = absurd (false≢true e)
same_results (some q) o' k e = sym (k q refl)

still_finished : (o o' : Option Res) → ((q : Res) → o ≡ some q → o' ≡ some q) → is_finished o ≡ true → is_finished o' ≡ true
still_finished none o' k e = absurd (false≢true e)
still_finished (some q) o' k e = rw (k q refl) refl

-- a rule is none or some
pub rule_or_none : (R : Rule) → (R ≡ free) ⊎ (R ≡ free → ⊥)
rule_or_none free = inl refl
rule_or_none (kerned k) = inr (λ e. let z : ◌≡◌ {A = ℕ} 0 1 = cc in omega arith)
rule_or_none (lig o k) = inr (λ e. let z : ◌≡◌ {A = ℕ} 0 1 = cc in omega arith)

module _ (rule : Rules) where
  one_more : (d : ℕ) (l : Left) (r : ℕ) (q : Res) → comp rule d l r ≡ some q → comp rule (suc d) l r ≡ some q
  one_more d l r q e = rw add-one at (deeper rule d 1 l r e)

  -- nothing more finishes at one more depth
  abbrev Settled : ℕ → Type 0
  Settled d = comp rule d ≡ comp rule (suc d)

  -- nor at any later one: the results at a depth depend on nothing but those at the depth before
  same_next : (d e : ℕ) → comp rule d ≡ comp rule e → comp rule (suc d) ≡ comp rule (suc e)
  unfolding comp
  same_next d e i = ap {B = Finished} (λ f l r. comp_by (rule l r) f l r) i

  settled_later : (d k : ℕ) → Settled d → comp rule d ≡ comp rule (k + d)
  settled_later d zero e = rw zero-add
  settled_later d (suc k) e = rw suc-add (e ∙ same_next d (k + d) (settled_later d k e))

  -- a pair without a rule has finished at depth 1
  free_same : (d : ℕ) (l : Left) (r : ℕ) → rule l r ≡ free → comp rule (suc d) l r ≡ comp rule (suc (suc d)) l r
  unfolding comp
  free_same d l r e = rw e

  module _ (ps : List Ruled) (c : Covers rule ps) where
    -- how many of the pairs have finished at a depth
    abbrev finishedAt : ℕ → ℕ
    finishedAt d = count (has_finished (comp rule d)) ps

    -- none of them finishes at one more depth
    abbrev SameAt : ℕ → Type 0
    SameAt d = (p : Ruled) → Memᴰ p ps → has_finished (comp rule d) p ≡ has_finished (comp rule (suc d)) p

    same-everywhere : (d : ℕ) → SameAt (suc d) → (l : Left) (r : ℕ) → (rule l r ≡ free) ⊎ (rule l r ≡ free → ⊥) →
        comp rule (suc d) l r ≡ comp rule (suc (suc d)) l r
    same-everywhere d same l r (inl e) = free_same d l r e
    same-everywhere d same l r (inr ruled) =
        same_results (comp rule (suc d) l r) (comp rule (suc (suc d)) l r) (one_more (suc d) l r) (same _ (c.covers l r ruled).1)

    -- where d pairs have finished, one more finishes at the next depth, or nothing more will
    more-finish : (d : ℕ) → d ≤ finishedAt (suc d) → (finishedAt (suc d) < finishedAt (suc (suc d))) ⊎ SameAt (suc d) →
        (suc d ≤ finishedAt (suc (suc d))) ⊎ Settled (suc d)
    more-finish d h (inl k) = inl (omega arith)
    more-finish d h (inr same) = inr (fun_ext (λ l. fun_ext (λ r. same-everywhere d same l r (rule_or_none (rule l r)))))

    further : (d : ℕ) → (d ≤ finishedAt (suc d)) ⊎ Settled (suc d) → (suc d ≤ finishedAt (suc (suc d))) ⊎ Settled (suc d)
    further d (inl h) =
        more-finish d h
        (grown (has_finished (comp rule (suc d))) (has_finished (comp rule (suc (suc d))))
        (λ p. still_finished _ _ (one_more (suc d) p.pair.left p.pair.right)) ps).less
    further d (inr e) = inr e

    reaches : (d : ℕ) → (d ≤ finishedAt (suc d)) ⊎ Settled (suc d)
    reaches zero = inl zero-le
    reaches (suc d) = ⊎_elim inl (λ e. inr (same_next (suc d) (suc (suc d)) e)) (further d (reaches d))

    too_many : suc (length ps) ≤ finishedAt (suc (suc (length ps))) → ⊥
    too_many h = omega (arith, count_all (has_finished (comp rule (suc (suc (length ps))))) ps)

    settled : Settled (suc (length ps))
    settled = go (further (length ps) (reaches (length ps)))
      where
        go : (suc (length ps) ≤ finishedAt (suc (suc (length ps)))) ⊎ Settled (suc (length ps)) → Settled (suc (length ps))
        go (inl h) = absurd (too_many h)
        go (inr e) = e

    pub depth_enough : (d : ℕ) (l : Left) (r : ℕ) {q : Res} → comp rule d l r ≡ some q → finished rule ps l r ≡ some q
    depth_enough d l r e = rw (settled_later (suc (length ps)) d settled) (deeper rule d (suc (length ps)) l r e)

    -- the finished pairs, computed once more from themselves, are the same
    pub once_more : (l : Left) (r : ℕ) → comp_by (rule l r) (finished rule ps) l r ≡ finished rule ps l r
    unfolding comp
    once_more l r = ap (λ (f : Finished). f l r) (sym settled)
