-- The loop list (R83, R87 to R89; TFtoPL 90): pairs that never end are walked by left character, the boundary last, then by their rule's
-- index; each walk follows the pair that is waited for and stops at a pair that an earlier walk met; the first pair met again in its own
-- walk is listed. TFtoPL 95 and PLtoTF 124 go on with a value for the pair met again, and so can find that a pair which only waits for a
-- loop (both_z) loops too: docs/DIFFERENCES.md.
use Rattle.std.specs.Prelude.{Bool, true, false, cond, List, [], ◌∷◌, ◌++◌, ℕ, zero, suc, ltb, eqb, length}
use Rattle.std.proofs.Math.Option.{Option, none, some}
use Rattle.reading.specs.Items.{Left, bnd, chr, Rules}
use Rattle.reading.specs.Depth.{Finished, Res, comp, Pair, waits_by}

-- a pair that has a rule, and the index of the instruction that is its rule
pub record Ruled : Type 0 where
  pub pair : Pair
  pub index : ℕ

-- two lefts are both the boundary, or the same character
abbrev pub same_left : Left → Left → Bool
same_left bnd bnd = true
same_left bnd (chr b) = false
same_left (chr a) bnd = false
same_left (chr a) (chr b) = eqb a b

-- two pairs have the same left and the same right
abbrev pub same_pair : Pair → Pair → Bool
same_pair p q = cond (same_left p.left q.left) (eqb p.right q.right) false

-- p is a pair of a list
unfoldable pub member : Pair → List Pair → Bool
member p [] = false
member p (q ∷ qs) = cond (same_pair p q) true (member p qs)

-- ascending by character, the boundary last
abbrev pub left_before : Left → Left → Bool
left_before bnd l = false
left_before (chr a) bnd = true
left_before (chr a) (chr b) = ltb a b

-- the order of walks: by left, then by the rule's index (R87)
abbrev pub walked_before : Ruled → Ruled → Bool
walked_before p q =
    cond (same_left p.pair.left q.pair.left) (ltb p.index q.index) (left_before p.pair.left q.pair.left)

-- p is put before the first pair of a list that is walked after it
unfoldable pub insert : Ruled → List Ruled → List Ruled
insert p [] = p ∷ []
insert p (q ∷ qs) = cond (walked_before p q) (p ∷ q ∷ qs) (q ∷ insert p qs)

-- pairs in the order of walks
unfoldable pub ordered : List Ruled → List Ruled
ordered [] = []
ordered (p ∷ ps) = insert p (ordered ps)

-- a pair has finished
abbrev pub is_finished : Option Res → Bool
is_finished none = false
is_finished (some q) = true

-- the pairs of a list that have not finished
unfoldable pub unfinished : Finished → List Ruled → List Ruled
unfinished f [] = []
unfinished f (p ∷ ps) = cond (is_finished (f p.pair.left p.pair.right)) (unfinished f ps) (p ∷ unfinished f ps)

-- the pair that is followed: the one waited for (R88)
abbrev pub follow : Pair → Option Pair → Pair
follow p none = p
follow p (some q) = q

-- the pair that p waits for, given the finished pairs; p itself where it waits for nothing
abbrev pub waits : Rules → Finished → Pair → Pair
waits rule f p = follow p (waits_by (rule p.left p.right) f p.left p.right)

-- one walk: the pairs that it met, and the pair that it met again, if any (R89)
pub record Walked : Type 0 where
  pub own : List Pair
  pub found : List Pair

-- a walk of at most n pairs from p, where `met` are the pairs of earlier walks and `own` those of this one so far
unfoldable pub walk : (Pair → Pair) → ℕ → List Pair → List Pair → Pair → Walked
walk next zero met own p = record { own = own; found = [] }
walk next (suc n) met own p =
    let on = walk next n met (p ∷ own) (next p) in
    cond (member p met) (record { own = own; found = [] })
    (cond (member p own) (record { own = own; found = p ∷ [] }) on)

-- a walk from each pair in turn
unfoldable pub walks : (Pair → Pair) → ℕ → List Pair → List Ruled → List Pair
walks next n met [] = []
walks next n met (p ∷ ps) =
    let w = walk next n met [] p.pair in
    w.found ++ walks next n (w.own ++ met) ps

-- The finished pairs: depth one more than the number of pairs with a rule is enough (theorem `depth-enough`).
abbrev pub finished : Rules → List Ruled → Finished
finished rule ps = comp rule (suc (length ps))

-- the loop list of a font with these rules, ps being the pairs that have one
unfoldable pub loop_list : Rules → List Ruled → List Pair
loop_list rule ps =
    let us = unfinished (finished rule ps) (ordered ps) in
    walks (waits rule (finished rule ps)) (suc (length us)) [] us
