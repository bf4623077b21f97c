-- Every kern of a font is an i32, where its design size is: a rule is what its row in compiling says, whose kern is a number of 32 bits, and the reading of a
-- pair gives the kerns of rules alone. Assumes nothing.
use mathlib.Core.Path.{◌≡◌, refl, ap, subst}
use mathlib.Core.Bool.{Bool, true, false, cond}
use mathlib.Core.List.{List, [], ◌∷◌, ◌++◌}
use mathlib.Core.Logic.{◌⊎◌, inl, inr}
use mathlib.Core.Option.{Option, none, some, map-eq-some_iff, some-injective, none-ne-some}
use Prim.Native.Nat.{ℕ, zero, suc, ◌-◌, ◌^◌, ◌<◌, ◌≤◌}
use native.Mathlib.Omega.{arith}
use lib.IntN.{ℤ, pos, negsuc}
use lib.Dec.{eqb}
use lib.ListN.{set}
use borrow.Author.Tests.{le-leb, leb-true}
use mir.Syntax.{w32}
use mir.Val.{SFits}
use Rattle.words.specs.Words.{number_of}
use Rattle.words.proofs.Bits.{number_pos, number_neg}
use Rattle.words.proofs.Tests.{less_or_not}
use Rattle.lang.specs.declared.operation.PostLigOperation.TheVariants.{RetainBothMoveNowhere, RetainBothMoveToInserted, RetainBothMoveToRight}
use Rattle.lang.specs.declared.operation.PostLigOperation.TheVariants.{RetainRightMoveToInserted, RetainRightMoveToRight, RetainLeftMoveNowhere}
use Rattle.lang.specs.declared.operation.PostLigOperation.TheVariants.{RetainLeftMoveToInserted, RetainNeitherMoveToInserted}
use Rattle.lang.specs.Operations.{retains, keeps_left, keeps_right, advance}
use Rattle.lang.specs.Every.{both}
use Rattle.reading.specs.Items.{Left, bnd, chr, Rule, free, kerned, lig, Rules, Item, code, head, Out, glyph, kern, fin}
use Rattle.reading.specs.Depth.{Res, Finished, raise, before, raise_left, raised, comp_by, comp}
use Rattle.reading.proofs.Right.{both_finished}
use Rattle.fonts.specs.Fonts.{Font, index_of, table_of, rule_of_index, rules_of}
use Rattle.compiling.specs.Rows.{at, rule_of}
use Rattle.compiling.specs.PairRows.{operation_at, effect_at}
use Rattle.compiling.proofs.EncodeLaws.{encoding_none, encoding_step, encoding_end}
use Rattle.columns.specs.Purpose.{is_i32}

-- ---- the kern of a rule

number_fits : (w : ℕ) → is_i32 (number_of w) ≡ true
number_fits w = by (less_or_not w (2 ^ 31))
  where
    by : (w < 2 ^ 31) ⊎ (2 ^ 31 ≤ w) → is_i32 (number_of w) ≡ true
    by (inl h) = rw (number_pos w h) (le-leb w 2147483647 (omega arith))
    by (inr h) = rw (number_neg w h) (le-leb (2 ^ 32 - suc w) 2147483647 (omega arith))

pub i32_fits : (z : ℤ) → is_i32 z ≡ true → SFits w32 z
i32_fits (pos n) e = record { sfits = omega (arith, leb-true n 2147483647 e) }
i32_fits (negsuc n) e = record { sfits = omega (arith, leb-true n 2147483647 e) }

abbrev RuleFits : Rule → Type 0
RuleFits free = Unit {0}
RuleFits (kerned k) = is_i32 k ≡ true
RuleFits (lig p c) = Unit {0}

row_fits : (op value : ℕ) → RuleFits (rule_of op value)
row_fits op value = by (eqb op 128)
  where
    by : (b : Bool) → RuleFits (cond b (kerned (number_of value)) (lig (retains (keeps_left op) (keeps_right op) (advance op)) value))
    by true = number_fits value
    by false = tt

-- a row of one instruction, before its rule is written
abbrev row : ℕ → List ℕ
row i = 0 ∷ 0 ∷ i ∷ 0 ∷ 0 ∷ 0 ∷ 0 ∷ 0 ∷ 0 ∷ 0 ∷ 0 ∷ 0 ∷ 0 ∷ 0 ∷ 0 ∷ 0 ∷ []

module _ (f : Font) (fits : is_i32 f.design ≡ true) where
  instruction_fits : (i : ℕ) → RuleFits (rule_of_index f (some i))
  instruction_fits i =
      let s = f.instructions in
      let x = effect_at s f.kerns f.design (row i) 0 in
      let u = set (row i) 3 x.op in
      let v = set u 4 x.value in
      let b = both true x.scaled in
      let e = encoding_step s f.kerns f.design 1 (row i) (row i) u v 0 true (encoding_none s f.kerns f.design 1 (row i)) (omega arith) (omega arith)
      i (operation_at s f.kerns (row i) 0) x refl refl refl refl refl b refl in
      let w = encoding_end s f.kerns f.design 1 (row i) v 1 b e (omega arith) f.design (i32_fits f.design fits) refl in
      subst RuleFits (w.written.rules 0 (omega arith)) (row_fits (at v 0 3) (at v 0 4))

  index_fits : (o : Option ℕ) → RuleFits (rule_of_index f o)
  index_fits none = tt
  index_fits (some i) = instruction_fits i

  rules_fit : (l : Left) (r : ℕ) → RuleFits (rules_of f l r)
  rules_fit l r = index_fits (index_of f.instructions (table_of f) l r)

-- ---- the kerns of a pair's reading

pub data Kerned : List Out → Type 0 where
  nothing : Kerned []
  character : {x : Item} {os : List Out} → Kerned os → Kerned (glyph x ∷ os)
  by : {k : ℤ} {os : List Out} → is_i32 k ≡ true → Kerned os → Kerned (kern k ∷ os)

kerned_both : {os ps : List Out} → Kerned os → Kerned ps → Kerned (os ++ ps)
kerned_both nothing t = t
kerned_both (character s) t = character (kerned_both s t)
kerned_both (by e s) t = by e (kerned_both s t)

left_kerned : (l : Left) → Kerned (fin (head l))
left_kerned bnd = nothing
left_kerned (chr c) = character nothing

raised_kerned : (a : Bool) {os : List Out} (x : Item) → Kerned os → Kerned (raise_left a os x).outs
unfolding raise_left
raised_kerned a x nothing = nothing
raised_kerned a x (character s) = character s
raised_kerned a x (by e s) = by e (raised_kerned a x s)

kerned_as : {p q : Res} → some p ≡ some q → Kerned p.outs → Kerned q.outs
kerned_as {p} {q} e h = subst (λ (r : Res). Kerned r.outs) (some-injective p q e) h

kerned_by : (R : Rule) → RuleFits R → (f : Finished) → ((l : Left) (r : ℕ) (q : Res) → f l r ≡ some q → Kerned q.outs) → (l : Left) (r : ℕ) {q : Res} →
    comp_by R f l r ≡ some q → Kerned q.outs
kerned_by free s f h l r e = kerned_as e (left_kerned l)
kerned_by (kerned k) s f h l r e = kerned_as e (kerned_both (left_kerned l) (by s nothing))
kerned_by (lig RetainNeitherMoveToInserted c) s f h l r e = kerned_as e nothing
kerned_by (lig RetainLeftMoveToInserted c) s f h l r e = kerned_as e (left_kerned l)
kerned_by (lig RetainRightMoveToRight c) s f h l r e = kerned_as e (character nothing)
kerned_by (lig RetainBothMoveToRight c) s f h l r e = kerned_as e (kerned_both (left_kerned l) (character nothing))
kerned_by (lig RetainRightMoveToInserted c) s f h l r e =
    let m = (map-eq-some_iff (raised true false) (f (chr c) r)).0 e in
    kerned_as (ap some m.2) (raised_kerned true m.0.last (h (chr c) r m.0 m.1))
kerned_by (lig RetainBothMoveToInserted c) s f h l r e =
    let m = (map-eq-some_iff (λ (q : Res). before (fin (head l)) (raised true false q)) (f (chr c) r)).0 e in
    kerned_as (ap some m.2) (kerned_both (left_kerned l) (raised_kerned true m.0.last (h (chr c) r m.0 m.1)))
kerned_by (lig RetainLeftMoveNowhere c) s f h l r e =
    let m = (map-eq-some_iff (raised false true) (f l c)).0 e in
    kerned_as (ap some m.2) (raised_kerned false (raise true m.0.last) (h l c m.0 m.1))
kerned_by (lig RetainBothMoveNowhere c) s f h l r e =
    let m = both_finished f r (raised false true) (f l c) e in
    let p = raised_kerned false (raise true m.0.last) (h l c m.0 m.1) in
    let u = h (chr (code (raised false true m.0).last)) r m.2 m.3 in
    kerned_as (ap some m.4) (kerned_both p (raised_kerned true m.2.last u))

kerned_codes : (rule : Rules) → ((l : Left) (r : ℕ) → RuleFits (rule l r)) → (d : ℕ) (l : Left) (r : ℕ) (q : Res) → comp rule d l r ≡ some q → Kerned q.outs
unfolding comp
kerned_codes rule s zero l r q e = absurd (none-ne-some q e)
kerned_codes rule s (suc d) l r q e = kerned_by (rule l r) (s l r) (comp rule d) (kerned_codes rule s d) l r e

-- Every kern in the reading of a pair.
pub kerns_fit : (f : Font) → is_i32 f.design ≡ true → (d : ℕ) (l : Left) (r : ℕ) (q : Res) → comp (rules_of f) d l r ≡ some q → Kerned q.outs
kerns_fit f fits = kerned_codes (rules_of f) (rules_fit f fits)
