-- A reading that ends: it splits where its text does, and a pair that it reads to the end has a depth.
-- Assumes nothing.
use mathlib.Core.Path.{◌≡◌, refl, ap}
use mathlib.Core.Bool.{true, false}
use mathlib.Core.List.{List, [], ◌∷◌, ◌++◌, append_assoc}
use mathlib.Core.Option.{some}
use Prim.Native.Nat.{ℕ, zero, suc, ◌+◌, ◌≤◌}
use native.Mathlib.Nat.{add_comm}
use native.Mathlib.Omega.{arith}
use Rattle.lang.specs.declared.operation.PostLigOperation.TheVariants.{RetainBothMoveNowhere, RetainBothMoveToInserted, RetainBothMoveToRight}
use Rattle.lang.specs.declared.operation.PostLigOperation.TheVariants.{RetainRightMoveToInserted, RetainRightMoveToRight, RetainLeftMoveNowhere}
use Rattle.lang.specs.declared.operation.PostLigOperation.TheVariants.{RetainLeftMoveToInserted, RetainNeitherMoveToInserted}
use Rattle.reading.specs.Items.{Left, chr, Rule, free, kerned, lig, Rules, Item, code, inserted, Head, at, key, head, Out, fin}
use Rattle.reading.specs.Reading.{act, read, done, push}
use Rattle.reading.specs.Depth.{Res, comp, comp_by, before, raised}
use Rattle.reading.specs.Run.{head_flag}
use Rattle.reading.proofs.Steps.{more_not_done as not_more, push_done as pushed, one_end}
use Rattle.reading.proofs.Flags.{code_raised}
use Rattle.reading.proofs.Right.{deeper, flags}

-- The reading of ys ++ zs that ended within n steps with os and u, as the reading of ys and then that of zs.
pub record Split (rule : Rules) (n : ℕ) (x : Head) (ys zs : List Item) (os : List Out) (u : Head) : Type 0 where
  pub first : ℕ
  pub second : ℕ
  pub outs₁ : List Out
  pub outs₂ : List Out
  pub between : Head
  pub first≤ : first ≤ n
  pub second≤ : second ≤ n
  pub ends₁ : read rule first x ys ≡ done outs₁ between
  pub ends₂ : read rule second between zs ≡ done outs₂ u
  pub outs_are : os ≡ outs₁ ++ outs₂

split_none : (rule : Rules) (n : ℕ) (x : Head) (zs : List Item) {os : List Out} {u : Head} → read rule n x zs ≡ done os u → Split rule n x [] zs os u
unfolding read
split_none rule n x zs {os} {u} e =
    record
    { first = zero; second = n; outs₁ = []; outs₂ = os; between = x; first≤ = omega arith; second≤ = omega arith; ends₁ = refl; ends₂ = e; outs_are = refl }

-- one more step before the first part
split_more : (rule : Rules) (n : ℕ) (x : Head) (y : Item) (ys zs : List Item) {os ps : List Out} {u : Head} →
    let a = act (rule (key x) (code y)) x y in
    Split rule n a.left (a.back ++ ys) zs ps u → os ≡ a.outs ++ ps → Split rule (suc n) x (y ∷ ys) zs os u
unfolding read
split_more rule n x y ys zs s e =
    let a = act (rule (key x) (code y)) x y in
    record {
      first = suc s.first;
      second = s.second;
      outs₁ = a.outs ++ s.outs₁;
      outs₂ = s.outs₂;
      between = s.between;
      first≤ = omega arith;
      second≤ = omega arith;
      ends₁ = ap (push a.outs) s.ends₁;
      ends₂ = s.ends₂;
      outs_are = rw append_assoc (cc);
    }

-- A reading that ends splits where its text does.
pub splits : (rule : Rules) (n : ℕ) (x : Head) (ys zs : List Item) {os : List Out} {u : Head} → read rule n x (ys ++ zs) ≡ done os u → Split rule n x ys zs os u
unfolding read
splits rule zero x [] zs e = split_none rule zero x zs e
splits rule zero x (y ∷ ys) zs e = absurd (not_more e)
splits rule (suc n) x [] zs e = split_none rule (suc n) x zs e
splits rule (suc n) x (y ∷ ys) zs e =
    let a = act (rule (key x) (code y)) x y in
    let p = pushed a.outs (read rule n a.left (a.back ++ (ys ++ zs))) e in
    split_more rule n x y ys zs (splits rule n a.left (a.back ++ ys) zs (rw append_assoc p.1)) p.2

-- The pair finishes at some depth.
abbrev pub HasDepth : Rules → Left → ℕ → Type 0
HasDepth rule l r = (d : ℕ) × (q : Res) × (comp rule d l r ≡ some q)

-- Readings of a pair that end within k steps have a depth.
record Within (rule : Rules) (k : ℕ) : Type 0 where
  has : (j : ℕ) → j ≤ k → (x : Head) (y : Item) {os : List Out} {u : Head} → read rule j x (y ∷ []) ≡ done os u → HasDepth rule (key x) (code y)

-- both_z: (x, c) ends, and then its last with y
both_depth : (rule : Rules) (x : Head) (c : ℕ) (y : Item) (n : ℕ) {os : List Out} {v : Head} → read rule n x (inserted c ∷ []) ≡ done os v →
    HasDepth rule (key x) c → HasDepth rule (key v) (code y) →
    (d : ℕ) × (q : Res) × (comp_by (lig RetainBothMoveNowhere c) (comp rule d) (key x) (code y) ≡ some q)
both_depth rule x c y n {v} e p q =
    let f = flags rule p.0 x (inserted c) p.2 in
    let a : v ≡ at (raised (head_flag x) true p.1).last = (one_end rule n f.0 x (inserted c ∷ []) e f.1).1 in
    let k : key v ≡ chr (code (raised false true p.1).last) = rw (a, code_raised (head_flag x) true p.1, code_raised false true p.1) in
    let p' : comp rule (p.0 + q.0) (key x) c ≡ some p.1 = deeper rule p.0 q.0 (key x) c p.2 in
    let q' : comp rule (p.0 + q.0) (chr (code (raised false true p.1).last)) (code y)
    ≡ some q.1 = rw (← k, add_comm p.0 q.0) (deeper rule q.0 p.0 (key v) (code y) q.2) in
    (p.0 + q.0, before (raised false true p.1).outs (raised true false q.1), rw (p', q'))

-- one rule, over the pairs that ended before
depth_by : (rule : Rules) (R : Rule) (k : ℕ) (x : Head) (y : Item) {os : List Out} {u : Head} → Within rule k →
    read rule k (act R x y).left ((act R x y).back ++ []) ≡ done os u → (d : ℕ) × (q : Res) × (comp_by R (comp rule d) (key x) (code y) ≡ some q)
depth_by rule free k x y w e = (zero, _, refl)
depth_by rule (kerned z) k x y w e = (zero, _, refl)
depth_by rule (lig RetainNeitherMoveToInserted c) k x y w e = (zero, _, refl)
depth_by rule (lig RetainLeftMoveToInserted c) k x y w e = (zero, _, refl)
depth_by rule (lig RetainRightMoveToRight c) k x y w e = (zero, _, refl)
depth_by rule (lig RetainBothMoveToRight c) k x y w e = (zero, _, refl)
depth_by rule (lig RetainRightMoveToInserted c) k x y w e =
    let p = w.has k (omega arith) (at (inserted c)) y e in
    (p.0, raised true false p.1, rw p.2)
depth_by rule (lig RetainBothMoveToInserted c) k x y w e =
    let p = w.has k (omega arith) (at (inserted c)) y e in
    (p.0, before (fin (head (key x))) (raised true false p.1), rw p.2)
depth_by rule (lig RetainLeftMoveNowhere c) k x y w e =
    let p = w.has k (omega arith) x (inserted c) e in
    (p.0, raised false true p.1, rw p.2)
depth_by rule (lig RetainBothMoveNowhere c) k x y w e =
    let s = splits rule k x (inserted c ∷ []) (y ∷ []) e in
    both_depth rule x c y s.first s.ends₁ (w.has s.first s.first≤ x (inserted c) s.ends₁)
    (w.has s.second s.second≤ s.between y s.ends₂)

within : (rule : Rules) (n : ℕ) (j : ℕ) → j ≤ n → (x : Head) (y : Item) {os : List Out} {u : Head} → read rule j x (y ∷ []) ≡ done os u →
    HasDepth rule (key x) (code y)
unfolding read comp
within rule zero zero h x y e = absurd (not_more e)
within rule zero (suc j) h x y e = absurd (omega arith)
within rule (suc n) zero h x y e = absurd (not_more e)
within rule (suc n) (suc j) h x y e =
    let R = rule (key x) (code y) in
    let a = act R x y in
    let p = pushed a.outs (read rule j a.left (a.back ++ [])) e in
    let q = depth_by rule R j x y (record { has = λ i g. within rule n i (omega arith) }) p.1 in
    (suc q.0, q.1, q.2)

-- A reading that ends has a depth.
pub ends_depth : (rule : Rules) (n : ℕ) (x : Head) (y : Item) {os : List Out} {u : Head} → read rule n x (y ∷ []) ≡ done os u →
    (d : ℕ) × (q : Res) × (comp rule d (key x) (code y) ≡ some q)
ends_depth rule n x y e = within rule n n (omega arith) x y e
