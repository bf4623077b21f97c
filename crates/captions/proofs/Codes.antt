-- Where rules insert codes below 256, every code in the reading of a pair of such codes is below 256.
-- Assumes nothing.
use mathlib.Core.Path.{◌≡◌, ap, subst}
use mathlib.Core.Bool.{Bool, true, false}
use mathlib.Core.List.{List, [], ◌∷◌, ◌++◌}
use mathlib.Core.Option.{some, map-eq-some_iff, some-injective, none-ne-some}
use Prim.Native.Nat.{ℕ, zero, suc, ◌<◌}
use native.Mathlib.Omega.{arith}
use lib.IntN.{ℤ}
use Rattle.lang.specs.declared.operation.PostLigOperation.TheVariants.{RetainBothMoveNowhere, RetainBothMoveToInserted, RetainBothMoveToRight}
use Rattle.lang.specs.declared.operation.PostLigOperation.TheVariants.{RetainRightMoveToInserted, RetainRightMoveToRight, RetainLeftMoveNowhere}
use Rattle.lang.specs.declared.operation.PostLigOperation.TheVariants.{RetainLeftMoveToInserted, RetainNeitherMoveToInserted}
use Rattle.reading.specs.Items.{Left, bnd, chr, Rule, free, kerned, lig, Rules, Item, item, code, head, Out, glyph, kern, fin}
use Rattle.reading.specs.Depth.{Res, Finished, raise, before, raise_left, raised, comp_by, comp}
use Rattle.reading.proofs.Flags.{code_raise}
use Rattle.reading.proofs.Right.{both_finished}
use Rattle.fonts.specs.Fonts.{number_of_left}

-- ---- what is claimed of an entry

-- every character op has a code below 256
pub data Small : List Out → Type 0 where
  nothing : Small []
  character : {f : Bool} {c : ℕ} {os : List Out} → c < 256 → Small os → Small (glyph (item f c) ∷ os)
  skip : {k : ℤ} {os : List Out} → Small os → Small (kern k ∷ os)

pub record Coded (q : Res) : Type 0 where
  pub ops : Small q.outs
  pub last : code q.last < 256

-- ---- rules

abbrev pub RuleSmall : Rule → Type 0
RuleSmall free = Unit {0}
RuleSmall (kerned k) = Unit {0}
RuleSmall (lig p c) = c < 256

-- rules that insert codes below 256
abbrev pub SmallRules : Rules → Type 0
SmallRules rule = (l : Left) (r : ℕ) → RuleSmall (rule l r)

-- ---- ops

pub small_both : {os ps : List Out} → Small os → Small ps → Small (os ++ ps)
small_both nothing t = t
small_both (character h s) t = character h (small_both s t)
small_both (skip s) t = skip (small_both s t)

fin_small : (l : Left) → number_of_left l < 257 → Small (fin (head l))
fin_small bnd h = nothing
fin_small (chr c) h = character {c = c} (omega arith) nothing

raise_small : (a : Bool) (x : Item) → code x < 256 → code (raise a x) < 256
raise_small a x h = rw (code_raise a x) h

glyph_small : {os : List Out} (x : Item) → code x < 256 → Small os → Small (glyph x ∷ os)
glyph_small (item f c) h s = character h s

left_coded : (a : Bool) (os : List Out) (x : Item) → Small os → code x < 256 → Coded (raise_left a os x)
unfolding raise_left
left_coded a [] x nothing h = record { ops = nothing; last = raise_small a x h }
left_coded a (glyph y ∷ os) x (character {f = f} {c = c} i s) h = record { ops = glyph_small (raise a (item f c)) (raise_small a (item f c) i) s; last = h }
left_coded a (kern k ∷ os) x (skip s) h =
    let t = left_coded a os x s h in
    record { ops = skip t.ops; last = t.last }

raised_coded : (a b : Bool) (q : Res) → Coded q → Coded (raised a b q)
raised_coded a b q h = left_coded a q.outs (raise b q.last) h.ops (raise_small b q.last h.last)

before_coded : {os : List Out} (q : Res) → Small os → Coded q → Coded (before os q)
before_coded q s h = record { ops = small_both s h.ops; last = h.last }

-- ---- the reading of a pair

coded_as : {p q : Res} → some p ≡ some q → Coded p → Coded q
coded_as {p} {q} e h = subst Coded (some-injective p q e) h

abbrev CodedBy : Finished → Type 0
CodedBy f = (l : Left) (r : ℕ) (q : Res) → number_of_left l < 257 → r < 256 → f l r ≡ some q → Coded q

small_by : (R : Rule) → RuleSmall R → (f : Finished) → CodedBy f → (l : Left) (r : ℕ) {q : Res} → number_of_left l < 257 → r < 256 → comp_by R f l r ≡ some q →
    Coded q
small_by free s f h l r i j e = coded_as e (record { ops = fin_small l i; last = j })
small_by (kerned k) s f h l r i j e = coded_as e (record { ops = small_both (fin_small l i) (skip nothing); last = j })
small_by (lig RetainNeitherMoveToInserted c) s f h l r i j e = coded_as e (record { ops = nothing; last = s })
small_by (lig RetainLeftMoveToInserted c) s f h l r i j e = coded_as e (record { ops = fin_small l i; last = s })
small_by (lig RetainRightMoveToRight c) s f h l r i j e = coded_as e (record { ops = character s nothing; last = j })
small_by (lig RetainBothMoveToRight c) s f h l r i j e = coded_as e (record { ops = small_both (fin_small l i) (character s nothing); last = j })
small_by (lig RetainRightMoveToInserted c) s f h l r i j e =
    let m = (map-eq-some_iff (raised true false) (f (chr c) r)).0 e in
    coded_as (ap some m.2) (raised_coded true false m.0 (h (chr c) r m.0 (omega arith) j m.1))
small_by (lig RetainBothMoveToInserted c) s f h l r i j e =
    let m = (map-eq-some_iff (λ (q : Res). before (fin (head l)) (raised true false q)) (f (chr c) r)).0 e in
    coded_as (ap some m.2)
    (before_coded (raised true false m.0) (fin_small l i) (raised_coded true false m.0 (h (chr c) r m.0 (omega arith) j m.1)))
small_by (lig RetainLeftMoveNowhere c) s f h l r i j e =
    let m = (map-eq-some_iff (raised false true) (f l c)).0 e in
    coded_as (ap some m.2) (raised_coded false true m.0 (h l c m.0 i s m.1))
small_by (lig RetainBothMoveNowhere c) s f h l r i j e =
    let m = both_finished f r (raised false true) (f l c) e in
    let p = raised false true m.0 in
    let t : Coded p = raised_coded false true m.0 (h l c m.0 i s m.1) in
    let u = h (chr (code p.last)) r m.2 (omega (arith, t.last)) j m.3 in
    coded_as (ap some m.4) (before_coded (raised true false m.2) t.ops (raised_coded true false m.2 u))

pub small_codes : (rule : Rules) → SmallRules rule → (d : ℕ) (l : Left) (r : ℕ) (q : Res) → number_of_left l < 257 → r < 256 → comp rule d l r ≡ some q → Coded q
unfolding comp
small_codes rule s zero l r q i j e = absurd (none-ne-some q e)
small_codes rule s (suc d) l r q i j e = small_by (rule l r) (s l r) (comp rule d) (λ a b p. small_codes rule s d a b p) l r i j e
