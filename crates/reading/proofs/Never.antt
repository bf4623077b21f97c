-- A set of pairs that is closed under waiting never ends.
-- Assumes nothing.
use mathlib.Core.Path.{◌≡◌, refl, sym, ◌∙◌, ap}
use mathlib.Core.Bool.{true}
use mathlib.Core.List.{List, [], ◌∷◌, ◌++◌, map}
use mathlib.Core.Option.{Option, none, some}
use Prim.Native.Nat.{ℕ, zero, suc}
use native.Mathlib.Omega.{arith}
use Rattle.lang.specs.declared.operation.PostLigOperation.TheVariants.{RetainBothMoveNowhere, RetainBothMoveToInserted, RetainBothMoveToRight}
use Rattle.lang.specs.declared.operation.PostLigOperation.TheVariants.{RetainRightMoveToInserted, RetainRightMoveToRight, RetainLeftMoveNowhere}
use Rattle.lang.specs.declared.operation.PostLigOperation.TheVariants.{RetainLeftMoveToInserted, RetainNeitherMoveToInserted}
use Rattle.reading.specs.Items.{Left, chr, Rule, free, kerned, lig, Rules, Item, code, plain, inserted, Head, at, key, head, Out}
use Rattle.reading.specs.Reading.{act, Read, done, more, push, read, NeverEnds}
use Rattle.reading.specs.Depth.{Res, Finished, Pair, comp, raised, waits_both, waits_by}
use Rattle.reading.specs.Run.{head_flag}
use Rattle.reading.proofs.Steps.{push_more as more-push, key_head, begins_within, follows_within}
use Rattle.reading.proofs.Flags.{code_raised}
use Rattle.reading.proofs.Right.{flags}

-- ---- what is given does not end a reading

pub not_both : {u : Read} {os : List Out} {x : Head} → u ≡ more → u ≡ done os x → ⊥
not_both e f = let z : ◌≡◌ {A = ℕ} 0 1 = cc in omega arith

push_more : (os : List Out) {u : Read} → u ≡ more → push os u ≡ more
push_more os e = ap (push os) e

-- ---- a reading goes by codes

act_key : (R : Rule) (x x' : Head) (y y' : Item) → key x ≡ key x' → code y ≡ code y' → key (act R x y).left ≡ key (act R x' y').left
act_key free x x' y y' e f = ap chr f
act_key (kerned k) x x' y y' e f = ap chr f
act_key (lig RetainNeitherMoveToInserted c) x x' y y' e f = refl
act_key (lig RetainRightMoveToInserted c) x x' y y' e f = refl
act_key (lig RetainLeftMoveNowhere c) x x' y y' e f = e
act_key (lig RetainBothMoveNowhere c) x x' y y' e f = e
act_key (lig RetainRightMoveToRight c) x x' y y' e f = ap chr f
act_key (lig RetainLeftMoveToInserted c) x x' y y' e f = refl
act_key (lig RetainBothMoveToInserted c) x x' y y' e f = refl
act_key (lig RetainBothMoveToRight c) x x' y y' e f = ap chr f

act_codes : (R : Rule) (x x' : Head) (y y' : Item) (ys ys' : List Item) → code y ≡ code y' → map code ys ≡ map code ys' →
    map code ((act R x y).back ++ ys) ≡ map code ((act R x' y').back ++ ys')
act_codes free x x' y y' ys ys' e f = f
act_codes (kerned k) x x' y y' ys ys' e f = f
act_codes (lig RetainNeitherMoveToInserted c) x x' y y' ys ys' e f = f
act_codes (lig RetainRightMoveToInserted c) x x' y y' ys ys' e f = cc
act_codes (lig RetainLeftMoveNowhere c) x x' y y' ys ys' e f = cc
act_codes (lig RetainBothMoveNowhere c) x x' y y' ys ys' e f = cc
act_codes (lig RetainRightMoveToRight c) x x' y y' ys ys' e f = f
act_codes (lig RetainLeftMoveToInserted c) x x' y y' ys ys' e f = f
act_codes (lig RetainBothMoveToInserted c) x x' y y' ys ys' e f = cc
act_codes (lig RetainBothMoveToRight c) x x' y y' ys ys' e f = f

-- Texts with equal codes take equally many steps: where one goes on for n steps the other does.
pub blind : (rule : Rules) (n : ℕ) (x x' : Head) (ys ys' : List Item) → key x ≡ key x' → map code ys ≡ map code ys' → read rule n x ys ≡ more →
    read rule n x' ys' ≡ more
unfolding read
blind rule zero x x' [] ys' e f h = cc
blind rule zero x x' (y ∷ ys) [] e f h = cc
blind rule zero x x' (y ∷ ys) (y' ∷ ys') e f h = refl
blind rule (suc n) x x' [] ys' e f h = cc
blind rule (suc n) x x' (y ∷ ys) [] e f h = cc
blind rule (suc n) x x' (y ∷ ys) (y' ∷ ys') e f h =
    let i : code y ≡ code y' = cc in
    let j : map code ys ≡ map code ys' = cc in
    let R = rule (key x) (code y) in
    rw (← e, ← i) (push_more _ (blind rule n _ _ _ _ (act_key R x x' y y' e i) (act_codes R x x' y y' ys ys' i j) (more-push _ _ h)))

-- ---- waiting

module _ (rule : Rules) (f : Finished) (sound : (l : Left) (r : ℕ) (q : Res) → f l r ≡ some q → (d : ℕ) × (comp rule d l r ≡ some q)) (S : Pair → Type 0) where
  -- the pairs of S go on for n steps
  abbrev Goes : ℕ → Type 0
  Goes n = (p : Pair) → S p → read rule n (head p.left) (plain p.right ∷ []) ≡ more

  -- with a flag on either side
  goes_on : (n : ℕ) → Goes n → (l : Left) (r : ℕ) → S (record { left = l; right = r }) → (x : Head) (y : Item) → l ≡ key x → r ≡ code y →
      read rule n x (y ∷ []) ≡ more
  goes_on n g l r s x y e i = blind rule n (head l) x (plain r ∷ []) (y ∷ []) (key_head l ∙ e) (ap (λ c. c ∷ []) i) (g (record { left = l; right = r }) s)

  -- both_z: the inserted character first, and once that has ended, its last with the right
  goes_both : (n : ℕ) → Goes n → (l : Left) (r c : ℕ) (o : Option Res) → f l c ≡ o → S (waits_both l c r o) →
      read rule n (head l) (inserted c ∷ plain r ∷ []) ≡ more
  goes_both n g l r c none e s =
      begins_within rule n (head l) (inserted c ∷ []) (plain r ∷ []) (goes_on n g l c s (head l) (inserted c) (sym (key_head l)) refl)
  goes_both n g l r c (some p) e s =
      let t = sound l c p e in
      let i : comp rule t.0 (key (head l)) c ≡ some p = rw (key_head l) t.1 in
      let a = head_flag (head l) in
      let ends = flags rule t.0 (head l) (inserted c) i in
      follows_within rule ends.0 n (head l) (inserted c ∷ []) (plain r ∷ []) ends.1
      (goes_on n g (chr (code p.last)) r s (at (raised a true p).last) (plain r) (ap chr (sym (code_raised a true p))) refl)

  waited : {p q : Pair} → some p ≡ some q → S q → S p
  waited {p} {q} e s =
      let i : p ≡ q = cc in
      rw i s

  -- after a step of a rule that waits for a pair of S
  goes_by : (n : ℕ) → Goes n → (R : Rule) (l : Left) (r : ℕ) (q : Pair) → waits_by R f l r ≡ some q → S q →
      read rule n (act R (head l) (plain r)).left ((act R (head l) (plain r)).back ++ []) ≡ more
  goes_by n g free l r q e s = cc
  goes_by n g (kerned k) l r q e s = cc
  goes_by n g (lig RetainNeitherMoveToInserted c) l r q e s = cc
  goes_by n g (lig RetainRightMoveToInserted c) l r q e s = goes_on n g (chr c) r (waited e s) (at (inserted c)) (plain r) refl refl
  goes_by n g (lig RetainLeftMoveNowhere c) l r q e s = goes_on n g l c (waited e s) (head l) (inserted c) (sym (key_head l)) refl
  goes_by n g (lig RetainBothMoveNowhere c) l r q e s = goes_both n g l r c (f l c) refl (waited e s)
  goes_by n g (lig RetainRightMoveToRight c) l r q e s = cc
  goes_by n g (lig RetainLeftMoveToInserted c) l r q e s = cc
  goes_by n g (lig RetainBothMoveToInserted c) l r q e s = goes_on n g (chr c) r (waited e s) (at (inserted c)) (plain r) refl refl
  goes_by n g (lig RetainBothMoveToRight c) l r q e s = cc

  module _ (closed : (p : Pair) → S p → (q : Pair) × (waits_by (rule p.left p.right) f p.left p.right ≡ some q) × S q) where
    goes : (n : ℕ) → Goes n
    unfolding read
    goes zero p s = refl
    goes (suc n) p s =
        let w = closed p s in
        let R = rule (key (head p.left)) p.right in
        push_more _ (goes_by n (goes n) R p.left p.right w.0 (rw (key_head p.left) w.1) w.2)

    pub never : (p : Pair) → S p → NeverEnds rule p.left p.right
    never p s n = goes n p s
