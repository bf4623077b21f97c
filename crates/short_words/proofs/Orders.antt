-- The order of words: the next word comes after, and the order is one. Assumes nothing.
use mathlib.Core.Path.{◌≡◌, refl, sym, ap, subst, ◌∙◌}
use mathlib.Core.Bool.{Bool, true, false, cond}
use mathlib.Core.List.{List, [], ◌∷◌}
use mathlib.Core.Logic.{◌⊎◌, inl, inr}
use mathlib.Core.Option.{Option, none, some}
use Prim.Native.Nat.{ℕ, zero, suc, ◌-◌, ◌<◌, ◌≤◌}
use native.Mathlib.Omega.{arith}
use lib.Dec.{ltb}
use lib.ListN.{length, replicate, length-replicate}
use Rattle.letter_set.specs.LetterSets.{letter_in, letter_from}
use Rattle.letter_set.proofs.Least.{found}
use Rattle.short_words.specs.ShortWords.{CodesBelow, Earlier}
use Rattle.short_words.specs.NextWords.{advanced_to, kept_before, next_as_long, or_longer, next_by_least, next_short_word}
use Rattle.short_words.proofs.Listing.{long_nil, long_cons}

-- ---- an order

below_join : (u v w : List ℕ) → CodesBelow u v → CodesBelow v w → CodesBelow u w
unfolding CodesBelow
below_join [] v w p q = p
below_join (a ∷ u) [] w p q = absurd p
below_join (a ∷ u) (b ∷ v) [] p q = q
below_join (a ∷ u) (b ∷ v) (c ∷ w) (inl p) (inl q) = inl (omega arith)
below_join (a ∷ u) (b ∷ v) (c ∷ w) (inl p) (inr q) = inl (omega (arith, q.0))
below_join (a ∷ u) (b ∷ v) (c ∷ w) (inr p) (inl q) = inl (omega (arith, p.0))
below_join (a ∷ u) (b ∷ v) (c ∷ w) (inr p) (inr q) = inr (p.0 ∙ q.0, below_join u v w p.1 q.1)

pub earlier_join : (u v w : List ℕ) → Earlier u v → Earlier v w → Earlier u w
earlier_join u v w (inl p) (inl q) = inl (omega arith)
earlier_join u v w (inl p) (inr q) = inl (omega (arith, q.0))
earlier_join u v w (inr p) (inl q) = inl (omega (arith, p.0))
earlier_join u v w (inr p) (inr q) = inr (p.0 ∙ q.0, below_join u v w p.1 q.1)

not_below : (u : List ℕ) → CodesBelow u u → ⊥
unfolding CodesBelow
not_below [] p = p
not_below (a ∷ u) (inl p) = omega arith
not_below (a ∷ u) (inr p) = not_below u p.1

pub not_earlier : (u : List ℕ) → Earlier u u → ⊥
not_earlier u (inl p) = omega arith
not_earlier u (inr p) = not_below u p.1

-- ---- the next word

abbrev AsLong : List ℕ → List ℕ → Type 0
AsLong u v = (length u ≡ length v) × CodesBelow u v

module _ (letters : List ℕ) (least : ℕ) where
  below_first : (c d : ℕ) (u v : List ℕ) → c < d → CodesBelow (c ∷ u) (d ∷ v)
  unfolding CodesBelow
  below_first c d u v l = inl l

  below_rest : (c : ℕ) (u v : List ℕ) → CodesBelow u v → CodesBelow (c ∷ u) (c ∷ v)
  unfolding CodesBelow
  below_rest c u v p = inr (refl, p)

  kept_rises : (c : ℕ) (cs w : List ℕ) (o : Option (List ℕ)) (a : Option ℕ) → letter_from letters (suc c) ≡ a →
      ((v : List ℕ) → o ≡ some v → AsLong cs v) → kept_before c o (advanced_to a (length cs) least) ≡ some w → AsLong (c ∷ cs) w
  kept_rises c cs w none none e h q = absurd (let z : ◌≡◌ {A = ℕ} 0 1 = cc in omega arith)
  kept_rises c cs w none (some d) e h q =
      let l : suc c ≤ d = (found (letter_in letters) (256 - suc c) (suc c) d e).from in
      let r : d ∷ replicate (length cs) least ≡ w = cc in
      let p : AsLong (c ∷ cs) (d ∷ replicate (length cs) least) =
      (ap suc (sym (length-replicate (length cs) least)), below_first c d cs (replicate (length cs) least) l) in
      subst (AsLong (c ∷ cs)) r p
  kept_rises c cs w (some v) a e h q =
      let p = h v refl in
      let r : c ∷ v ≡ w = cc in
      let g : AsLong (c ∷ cs) (c ∷ v) = (ap suc p.0, below_rest c cs v p.1) in
      subst (AsLong (c ∷ cs)) r g

  long_rises : (u v : List ℕ) → next_as_long letters least u ≡ some v → AsLong u v
  long_rises [] v e = absurd (let q = sym (long_nil letters least) ∙ e in let z : ◌≡◌ {A = ℕ} 0 1 = cc in omega arith)
  long_rises (c ∷ cs) v e =
      kept_rises c cs v (next_as_long letters least cs) (letter_from letters (suc c)) refl (long_rises cs) (sym (long_cons letters least c cs) ∙ e)

  longer_by : (u v : List ℕ) (t : Bool) → cond t (some (replicate (suc (length u)) least)) none ≡ some v → length u < length v
  longer_by u v true e = let q : replicate (suc (length u)) least ≡ v = cc in omega (arith, ap length q, length-replicate (suc (length u)) least)
  longer_by u v false e = absurd (let z : ◌≡◌ {A = ℕ} 0 1 = cc in omega arith)

  or_rises : (u v : List ℕ) (o : Option (List ℕ)) → next_as_long letters least u ≡ o → or_longer o (length u) least ≡ some v → Earlier u v
  or_rises u v none e q = inl (longer_by u v (ltb (length u) 4) q)
  or_rises u v (some w) e q = inr (long_rises u v (e ∙ q))

next_by_lem : (letters u v : List ℕ) (o : Option ℕ) → next_by_least o letters u ≡ some v → Earlier u v
next_by_lem letters u v none e = absurd (let z : ◌≡◌ {A = ℕ} 0 1 = cc in omega arith)
next_by_lem letters u v (some least) e = or_rises letters least u v (next_as_long letters least u) refl e

pub next_rises : (letters u v : List ℕ) → next_short_word letters u ≡ some v → Earlier u v
next_rises letters u v e = next_by_lem letters u v (letter_from letters 0) e
