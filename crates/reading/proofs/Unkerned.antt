-- The size of a kern makes no difference but to the kern: what a pair waits for, whether it finishes and how many ops it has go by the rules with kerns of
-- zero, and so does the loop list. Assumes nothing.
use mathlib.Core.Path.{◌≡◌, refl, sym, ap, ◌∙◌, fun_ext}
use mathlib.Core.Bool.{Bool, true, false}
use mathlib.Core.List.{List, [], ◌∷◌, ◌++◌}
use mathlib.Core.Option.{Option, none, some, map, some-injective, none-ne-some}
use Prim.Native.Nat.{ℕ, zero, suc}
use native.Mathlib.Omega.{arith}
use lib.IntN.{pos}
use lib.ListN.{length, length-append}
use Rattle.lang.specs.declared.operation.PostLigOperation.TheVariants.{RetainBothMoveNowhere, RetainBothMoveToInserted, RetainBothMoveToRight}
use Rattle.lang.specs.declared.operation.PostLigOperation.TheVariants.{RetainRightMoveToInserted, RetainRightMoveToRight, RetainLeftMoveNowhere}
use Rattle.lang.specs.declared.operation.PostLigOperation.TheVariants.{RetainLeftMoveToInserted, RetainNeitherMoveToInserted}
use Rattle.reading.specs.Items.{Left, bnd, chr, Rule, free, kerned, lig, Rules, Item, code, head, Out, glyph, kern, fin}
use Rattle.reading.specs.Depth.{Res, Finished, raise, before, raise_left, raised, then_right, comp_by, comp, Pair, waits_both, waits_by}
use Rattle.reading.specs.Loops.{Ruled, ordered, is_finished, unfinished, follow, waits, walks, finished, loop_list}
use Rattle.reading.proofs.Flags.{code_raised}

-- a rule with a kern of zero for its kern
abbrev pub unkerned : Rule → Rule
unkerned free = free
unkerned (kerned k) = kerned (pos 0)
unkerned (lig o c) = lig o c

-- a font's rules with kerns of zero
abbrev pub unkerned_rules : Rules → Rules
unkerned_rules rule l r = unkerned (rule l r)

-- of a finished pair the code of its last, which is all that others, which wait for it, look at, and how many ops it has
pub record Seen : Type 0 where
  pub last : ℕ
  pub ops : ℕ

abbrev pub seen_of : Res → Seen
seen_of q = record { last = code q.last; ops = length q.outs }

abbrev pub seen : Option Res → Option Seen
seen o = map seen_of o

-- ---- of entries that are seen as the same

raise_count : (b : Bool) (os : List Out) (x : Item) → length (raise_left b os x).outs ≡ length os
unfolding raise_left
raise_count b [] x = refl
raise_count b (glyph y ∷ os) x = refl
raise_count b (kern k ∷ os) x = ap suc (raise_count b os x)

raised_seen : (a b : Bool) (q : Res) → seen_of (raised a b q) ≡ seen_of q
raised_seen a b q = λ i. record { last = code_raised a b q i; ops = raise_count a q.outs (raise b q.last) i }

before_seen : (os os' : List Out) (q q' : Res) → length os ≡ length os' → seen_of q ≡ seen_of q' → seen_of (before os q) ≡ seen_of (before os' q')
before_seen os os' q q' l e =
    let n : length (os ++ q.outs) ≡ length (os' ++ q'.outs) =
    omega (arith, length-append os q.outs, length-append os' q'.outs, l, ap (λ (s : Seen). s.ops) e) in
    λ i. record { last = (e i).last; ops = n i }

raised_same : (a b : Bool) (q q' : Res) → seen_of q ≡ seen_of q' → seen_of (raised a b q) ≡ seen_of (raised a b q')
raised_same a b q q' e = raised_seen a b q ∙ e ∙ sym (raised_seen a b q')

mapped_same : (g h : Res → Res) → ((q q' : Res) → seen_of q ≡ seen_of q' → seen_of (g q) ≡ seen_of (h q')) → (o o' : Option Res) → seen o ≡ seen o' →
    seen (map g o) ≡ seen (map h o')
mapped_same g h k none none e = refl
mapped_same g h k none (some q) e = absurd (none-ne-some (seen_of q) e)
mapped_same g h k (some p) none e = absurd (none-ne-some (seen_of p) (sym e))
mapped_same g h k (some p) (some q) e = ap some (k p q (some-injective (seen_of p) (seen_of q) e))

same_finished : (o o' : Option Res) → seen o ≡ seen o' → is_finished o ≡ is_finished o'
same_finished none none e = refl
same_finished none (some q) e = absurd (none-ne-some (seen_of q) e)
same_finished (some p) none e = absurd (none-ne-some (seen_of p) (sym e))
same_finished (some p) (some q) e = refl

same_waits : (l : Left) (c r : ℕ) (o o' : Option Res) → seen o ≡ seen o' → waits_both l c r o ≡ waits_both l c r o'
same_waits l c r none none e = refl
same_waits l c r none (some q) e = absurd (none-ne-some (seen_of q) e)
same_waits l c r (some p) none e = absurd (none-ne-some (seen_of p) (sym e))
same_waits l c r (some p) (some q) e =
    ap {B = Pair} (λ (s : Seen). record { left = chr s.last; right = r }) (some-injective (seen_of p) (seen_of q) e)

-- ---- of pairs that are seen as the same

module _ (f g : Finished) (same : (l : Left) (r : ℕ) → seen (f l r) ≡ seen (g l r)) where
  then_same : (r : ℕ) (o o' : Option Res) → seen o ≡ seen o' → seen (then_right f r o) ≡ seen (then_right g r o')
  then_same r none none e = refl
  then_same r none (some q) e = absurd (none-ne-some (seen_of q) e)
  then_same r (some p) none e = absurd (none-ne-some (seen_of p) (sym e))
  then_same r (some p) (some q) e =
      let d = some-injective (seen_of p) (seen_of q) e in
      mapped_same (λ s. before p.outs (raised true false s)) (λ s. before q.outs (raised true false s))
      (λ s t k. before_seen p.outs q.outs (raised true false s) (raised true false t) (ap (λ (x : Seen). x.ops) d) (raised_same true false s t k))
      (f (chr (code p.last)) r) (g (chr (code q.last)) r)
      (same (chr (code p.last)) r ∙ ap (λ (x : Seen). seen (g (chr x.last) r)) d)

  finish_same : (R : Rule) (l : Left) (r : ℕ) → seen (comp_by R f l r) ≡ seen (comp_by (unkerned R) g l r)
  finish_same free l r = refl
  finish_same (kerned k) bnd r = refl
  finish_same (kerned k) (chr c) r = refl
  finish_same (lig RetainNeitherMoveToInserted c) l r = refl
  finish_same (lig RetainLeftMoveToInserted c) l r = refl
  finish_same (lig RetainRightMoveToRight c) l r = refl
  finish_same (lig RetainBothMoveToRight c) l r = refl
  finish_same (lig RetainRightMoveToInserted c) l r =
      mapped_same (raised true false) (raised true false) (raised_same true false) (f (chr c) r) (g (chr c) r) (same (chr c) r)
  finish_same (lig RetainBothMoveToInserted c) l r =
      let h : Res → Res = λ q. before (fin (head l)) (raised true false q) in
      mapped_same h h
      (λ s t k. before_seen (fin (head l)) (fin (head l)) (raised true false s) (raised true false t) refl (raised_same true false s t k))
      (f (chr c) r) (g (chr c) r) (same (chr c) r)
  finish_same (lig RetainLeftMoveNowhere c) l r =
      mapped_same (raised false true) (raised false true) (raised_same false true) (f l c) (g l c) (same l c)
  finish_same (lig RetainBothMoveNowhere c) l r =
      then_same r (map (raised false true) (f l c)) (map (raised false true) (g l c))
      (mapped_same (raised false true) (raised false true) (raised_same false true) (f l c) (g l c) (same l c))

  wait_same : (R : Rule) (l : Left) (r : ℕ) → waits_by R f l r ≡ waits_by (unkerned R) g l r
  wait_same free l r = refl
  wait_same (kerned k) l r = refl
  wait_same (lig RetainNeitherMoveToInserted c) l r = refl
  wait_same (lig RetainLeftMoveToInserted c) l r = refl
  wait_same (lig RetainRightMoveToRight c) l r = refl
  wait_same (lig RetainBothMoveToRight c) l r = refl
  wait_same (lig RetainRightMoveToInserted c) l r = refl
  wait_same (lig RetainBothMoveToInserted c) l r = refl
  wait_same (lig RetainLeftMoveNowhere c) l r = refl
  wait_same (lig RetainBothMoveNowhere c) l r = ap some (same_waits l c r (f l c) (g l c) (same l c))

  unfinished_same : (ps : List Ruled) → unfinished f ps ≡ unfinished g ps
  unfolding unfinished
  unfinished_same [] = refl
  unfinished_same (p ∷ ps) =
      let l = p.pair.left in
      let r = p.pair.right in
      rw (same_finished (f l r) (g l r) (same l r), unfinished_same ps)

-- ---- the loop list

module _ (rule : Rules) where
  same_seen : (d : ℕ) (l : Left) (r : ℕ) → seen (comp rule d l r) ≡ seen (comp (unkerned_rules rule) d l r)
  unfolding comp
  same_seen zero l r = refl
  same_seen (suc d) l r = finish_same (comp rule d) (comp (unkerned_rules rule) d) (same_seen d) (rule l r) l r

  -- a pair has as many ops
  pub seen_unkerned : (ps : List Ruled) (l : Left) (r : ℕ) → seen (finished rule ps l r) ≡ seen (finished (unkerned_rules rule) ps l r)
  seen_unkerned ps l r = same_seen (suc (length ps)) l r

  pub loops_unkerned : (ps : List Ruled) → loop_list rule ps ≡ loop_list (unkerned_rules rule) ps
  unfolding loop_list
  loops_unkerned ps =
      let f = finished rule ps in
      let g = finished (unkerned_rules rule) ps in
      let same = same_seen (suc (length ps)) in
      let us = unfinished g (ordered ps) in
      ap (λ (vs : List Ruled). walks (waits rule f) (suc (length vs)) [] vs) (unfinished_same f g same (ordered ps))
      ∙ ap (λ (next : Pair → Pair). walks next (suc (length us)) [] us)
      (fun_ext (λ (p : Pair). ap (follow p) (wait_same f g same (rule p.left p.right) p.left p.right)))
