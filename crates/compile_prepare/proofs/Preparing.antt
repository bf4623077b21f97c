-- The first stage: the rows of a font, with their rules.
-- Assumes nothing.
use mathlib.Core.Path.{◌≡◌, sym, ap, ◌∙◌, subst}
use mathlib.Core.Bool.{Bool}
use mathlib.Core.List.{List, [], ◌∷◌}
use Prim.Native.Nat.{ℕ, ◌<◌}
use native.Mathlib.Omega.{arith}
use lib.IntN.{ℤ, pos}
use lib.ListN.{length}
use Rattle.lang.specs.Answers.{reply_of, padded, list_of}
use Rattle.lang.specs.Every.{every}
use Rattle.lang.specs.Records.{instruction_at}
use Rattle.lang.proofs.Every.{every_ext}
use Rattle.lang.proofs.Refusals.{taken_reply, refused_reply}
use Rattle.lang.proofs.Filled.{refused_list}
use Rattle.program_chain.specs.Chains.{acts_as}
use Rattle.reading.specs.Loops.{Ruled}
use Rattle.fonts.specs.Fonts.{Font, table_of, pairs_of}
use Rattle.fonts.specs.Numbers.{flag_number}
use Rattle.fonts.specs.Compiled.{scales, pair_scales, all_scale}
use Rattle.fonts.proofs.Replies.{flag_known, values_known, number_known, taken_unlike}
use Rattle.compiling.specs.declared.Collected.{Collected}
use Rattle.compiling.specs.declared.Collected.TheVariants as collected
use Rattle.compiling.specs.declared.Prepared.{Prepared}
use Rattle.compiling.specs.declared.Prepared.TheVariants.{Rows, Refused}
use Rattle.compiling.specs.declared.Effect.{Effect}
use Rattle.compiling.specs.Rows.{at}
use Rattle.compiling.specs.LoopRows.{WalkOrder}
use Rattle.compiling.specs.RowNumbers.{boundary_pairs, effect_of, pair_effect, font_row_numbers}
use Rattle.compiling.specs.PairRows.{Collects, operation_at, effect_at, rows_scale, Encodes}
use Rattle.compiling.proofs.Tied.{ruled_tied, pairs_tied, rules_tied, ascending}
use Rattle.compiling.proofs.RowNumberLaws.{boundary_rows, rows_are}
use Rattle.compiling.proofs.LoopLaws.{turns_same}
use Rattle.compile_collect.specs.Collecting.{CollectsFontBy, CollectsFont}
use Rattle.compile_prepare.specs.Prepares.{prepare_refusal, PreparesBy, prepared_reply, Prepares}

-- what encoding answers, at the design size as it was lent
pub encodes_as : (s kerns : List ℤ) (d d' : ℤ) (n : ℕ) (w w' : List ℕ) (r : Bool) → Encodes s kerns d n w w' r → d ≡ d' → Encodes s kerns d' n w w' r
encodes_as s kerns d d' n w w' r e q = subst (λ (x : ℤ). Encodes s kerns x n w w' r) q e

-- what collecting answers, at the left entry as it was lent
pub collects_as : (s : List ℤ) (table : ℤ → List ℤ) (l l' : ℤ) (cap : ℕ) (w w' : List ℕ) (u t : Collected) → CollectsFont s (table l) cap w w' u → u ≡ t →
    l ≡ l' → CollectsFont s (table l') cap w w' t
collects_as s table l l' cap w w' u t h e q = subst (λ (x : ℤ). CollectsFont s (table x) cap w w' t) q (subst (CollectsFont s (table l) cap w w') e h)

module _ (f : Font) (cap : ℕ) (w : List ℕ) where
  pub unfit : (k : ℕ) (w₁ : List ℕ) → CollectsFontBy f.instructions (table_of f) cap w w₁ (collected.Refused k) → PreparesBy f cap w w₁ (Refused k)
  unfit k w₁ c = c

  module _ (n e : ℕ) (w₁ w₂ : List ℕ) (q : CollectsFontBy f.instructions (table_of f) cap w w₁ (collected.Rows n e)) (b : Bool)
      (d : Encodes f.instructions f.kerns f.design n w₁ w₂ b) where
    abbrev c : Collects f.instructions (table_of f) w w₁ n e
    c = q.2

    scales-same : (k : ℕ) → k < n → scales f.design (operation_at f.instructions f.kerns w₁ k) ≡ pair_scales f k
    scales-same k h = ap (λ (x : Ruled). scales f.design (acts_as f.kerns (instruction_at f.instructions x.index).operation)) (c.pair k h)

    all_same : rows_scale f.instructions f.kerns f.design w₁ n ≡ all_scale f
    all_same = every_ext n _ _ scales-same ∙ ap (λ (j : ℕ). every j (pair_scales f)) c.all

    turns : WalkOrder n e w₂
    turns =
        let r = d.written in
        turns_same n e w₁ w₂ (λ k g h l. r.same k g (omega arith) (λ i. omega arith) (λ i. omega arith))
        (λ k h. r.same k 15 (omega arith) (λ i. omega arith) (λ i. omega arith)) c.turns

    -- a number that is neither a pair's nor a rule's
    blank : (k g : ℕ) → k < n → 4 < g → g < 15 → at w₂ k g ≡ 0
    blank k g h i l = d.written.same k g (omega arith) (λ j. omega arith) (λ j. omega arith) ∙ c.rest k g h (omega arith) l

    -- the effect of row k is that of the font's pair k
    effect-same : (k : ℕ) → k < n → effect_at f.instructions f.kerns f.design w₁ k ≡ pair_effect f k
    effect-same k h = ap (λ (x : Ruled). effect_of f.design (acts_as f.kerns (instruction_at f.instructions x.index).operation)) (c.pair k h)

    numbers : w₂ ≡ padded 0 (length w) (font_row_numbers f)
    numbers =
        let r = d.written in
        rows_are (pairs_of f) n e w₂ (ascending f w w₁ w₂ n e c r) c.all (ruled_tied f w w₁ w₂ n e c r) turns (λ k. (pair_effect f k).op)
        (λ k. (pair_effect f k).value)
        (λ k h. r.op k h ∙ ap (λ (x : Effect). x.op) (effect-same k h))
        (λ k h. r.value k h ∙ ap (λ (x : Effect). x.value) (effect-same k h))
        blank
        (λ k g h i. r.after k g h i ∙ c.after k g h i)
        ∙ ap (λ (m : ℕ). padded 0 m (font_row_numbers f)) (r.same_length ∙ c.same_length)

    pub prepared : PreparesBy f cap w w₂ (Rows n e b)
    prepared =
        let r = d.written in (
          q.0,
          r.same_length ∙ c.same_length,
          d.answer ∙ all_same,
          q.1,
          record {
            encoded = record { ascending = ascending f w w₁ w₂ n e c r; ops = r.ops };
            pairs_are = pairs_tied f w w₁ w₂ n e c r;
            rules_are = rules_tied f w w₁ w₂ n e c r;
            turns = turns;
            new = λ k h. blank k 5 h (omega arith) (omega arith);
            unmet = λ k h. blank k 14 h (omega arith) (omega arith);
            count_is = c.all;
          },
          numbers,
        )

-- ---- the contract, from what the answer says

module _ (f : Font) (cap : ℕ) (w w' : List ℕ) where
  -- the values of an answer that is taken
  abbrev replied : List ℤ
  replied = pos (length (pairs_of f)) ∷ pos (boundary_pairs (pairs_of f)) ∷ flag_number (all_scale f) ∷ []

  reply_by_lem : (r : Prepared) → PreparesBy f cap w w' r → prepared_reply r ≡ reply_of (prepare_refusal f cap) replied
  reply_by_lem (Rows n e b) d =
      let g = d.4 in
      let x = g.count_is in
      let y = boundary_rows (pairs_of f) n e w' g.encoded.ascending g.pairs_are x g.turns in
      let z = d.2 in
      (λ i. reply_of 0 (pos (x i) ∷ pos (y i) ∷ flag_number (z i) ∷ [])) ∙ taken_reply replied d.0
  reply_by_lem (Refused k) d = refused_reply replied (sym d.0) (λ z. omega (arith, d.1))

  work_by : (r : Prepared) → PreparesBy f cap w w' r → w' ≡ list_of (prepare_refusal f cap) 0 (length w) (font_row_numbers f)
  work_by (Rows n e b) d = rw d.0 d.5
  work_by (Refused k) d = refused_list 0 (length w) (font_row_numbers f) (sym d.0) (λ z. omega (arith, d.1)) d.2

  pub prepares : (r : Prepared) → PreparesBy f cap w w' r → Prepares f cap w w' r
  prepares r d = record { reply = reply_by_lem r d; work = work_by r d; rows = d }

-- ---- the answer is known from its reply

pub prepared_determined : (a b : Prepared) → prepared_reply a ≡ prepared_reply b → a ≡ b
prepared_determined (Rows n e b) (Rows n' e' b') q = let v = values_known q in let z = flag_known b b' (cc) in cc
prepared_determined (Rows n e b) (Refused k) q = taken_unlike q
prepared_determined (Refused k) (Rows n e b) q = taken_unlike (sym q)
prepared_determined (Refused j) (Refused k) q = ap Refused (number_known q)
