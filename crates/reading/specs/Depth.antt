-- A pair by depth: what a compiled entry holds (R72), computed as TFtoPL 89 to 95 computes its function f(x, y), with the classes of TFtoPL
-- 89: simple (done at once), left_z (f(z, y)), right_z (f(x, z)) and both_z (f(f(x, z), y)). The reading of specs/Reading stays the
-- definition of what is right; the theorems `right` and `complete` tie the two.
use Rattle.std.specs.Prelude.{Bool, true, false, List, [], ◌∷◌, ◌++◌, ℕ, zero, suc}
use Rattle.std.proofs.Math.Option.{Option, none, some, map}
use Rattle.lang.specs.declared.operation.PostLigOperation.TheVariants.{RetainBothMoveNowhere, RetainBothMoveToInserted}
use Rattle.lang.specs.declared.operation.PostLigOperation.TheVariants.{RetainBothMoveToRight, RetainRightMoveToInserted}
use Rattle.lang.specs.declared.operation.PostLigOperation.TheVariants.{RetainRightMoveToRight, RetainLeftMoveNowhere}
use Rattle.lang.specs.declared.operation.PostLigOperation.TheVariants.{RetainLeftMoveToInserted, RetainNeitherMoveToInserted}
use Rattle.reading.specs.Items.{Left, chr, Rule, free, kerned, lig, Rules, Item, item, code, plain, inserted, head, Out}
use Rattle.reading.specs.Items.{glyph, kern, fin}

-- a pair's entry: its ops, and its last item with its flag
pub record Res : Type 0 where
  pub outs : List Out
  pub last : Item

-- finished pairs, by left and right
abbrev pub Finished : Type 0
Finished = Left → ℕ → Option Res

-- an item that stands for a ligature is one
abbrev pub raise : Bool → Item → Item
raise true (item f c) = item true c
raise false x = x

-- an entry with these ops before its own
abbrev pub before : List Out → Res → Res
before os q = record { outs = os ++ q.outs; last = q.last }

-- the left's flag goes into the first character op, or, where there is none, into the last
unfoldable pub raise_left : Bool → List Out → Item → Res
raise_left b [] x = record { outs = []; last = raise b x }
raise_left b (glyph y ∷ os) x = record { outs = glyph (raise b y) ∷ os; last = x }
raise_left b (kern k ∷ os) x = before (kern k ∷ []) (raise_left b os x)

-- The entry for a left and a right that may be ligatures: a the left's flag, b the right's, which goes into the last.
abbrev pub raised : Bool → Bool → Res → Res
raised a b q = raise_left a q.outs (raise b q.last)

-- After the pair (l, c) has finished, its last stands left of r, and is a ligature.
abbrev pub then_right : Finished → ℕ → Option Res → Option Res
then_right f r none = none
then_right f r (some p) = map (λ q. before p.outs (raised true false q)) (f (chr (code p.last)) r)

-- One rule, over the pairs finished so far.
abbrev pub comp_by : Rule → Finished → Left → ℕ → Option Res
-- simple
comp_by free f l r = some (record { outs = fin (head l); last = plain r })
comp_by (kerned k) f l r = some (record { outs = fin (head l) ++ (kern k ∷ []); last = plain r })
comp_by (lig RetainNeitherMoveToInserted c) f l r = some (record { outs = []; last = inserted c })
comp_by (lig RetainLeftMoveToInserted c) f l r = some (record { outs = fin (head l); last = inserted c })
comp_by (lig RetainRightMoveToRight c) f l r = some (record { outs = glyph (inserted c) ∷ []; last = plain r })
comp_by (lig RetainBothMoveToRight c) f l r = some (record { outs = fin (head l) ++ (glyph (inserted c) ∷ []); last = plain r })
-- left_z
comp_by (lig RetainRightMoveToInserted c) f l r = map (raised true false) (f (chr c) r)
comp_by (lig RetainBothMoveToInserted c) f l r = map (λ q. before (fin (head l)) (raised true false q)) (f (chr c) r)
-- right_z
comp_by (lig RetainLeftMoveNowhere c) f l r = map (raised false true) (f l c)
-- both_z
comp_by (lig RetainBothMoveNowhere c) f l r = then_right f r (map (raised false true) (f l c))

-- the pairs that finish by depth d: none at 0, and at one more by their rule, over those that finish by d
unfoldable pub comp : Rules → ℕ → Finished
comp rule zero l r = none
comp rule (suc d) l r = comp_by (rule l r) (comp rule d) l r

-- a pair of a left and a right character
pub record Pair : Type 0 where
  pub left : Left
  pub right : ℕ

-- (l, c) first, and once that has finished its last with r (R86)
abbrev pub waits_both : Left → ℕ → ℕ → Option Res → Pair
waits_both l c r none = record { left = l; right = c }
waits_both l c r (some p) = record { left = chr (code p.last); right = r }

-- The pair that a pair waits for (R84 to R86), given the pairs finished so far; none where it waits for nothing.
abbrev pub waits_by : Rule → Finished → Left → ℕ → Option Pair
waits_by free f l r = none
waits_by (kerned k) f l r = none
waits_by (lig RetainNeitherMoveToInserted c) f l r = none
waits_by (lig RetainLeftMoveToInserted c) f l r = none
waits_by (lig RetainRightMoveToRight c) f l r = none
waits_by (lig RetainBothMoveToRight c) f l r = none
waits_by (lig RetainRightMoveToInserted c) f l r = some (record { left = chr c; right = r })
waits_by (lig RetainBothMoveToInserted c) f l r = some (record { left = chr c; right = r })
waits_by (lig RetainLeftMoveNowhere c) f l r = some (record { left = l; right = c })
waits_by (lig RetainBothMoveNowhere c) f l r = some (waits_both l c r (f l c))
