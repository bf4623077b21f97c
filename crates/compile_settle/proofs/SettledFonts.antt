-- The rows of a font that were prepared, once they are settled: they are the font's still, in the same order.
-- Assumes nothing.
use mathlib.Core.Path.{◌≡◌, sym, ap, ◌∙◌}
use mathlib.Core.Bool.{Bool}
use mathlib.Core.List.{List, [], ◌∷◌}
use Prim.Native.Nat.{ℕ}
use native.Mathlib.Omega.{arith}
use lib.IntN.{ℤ, pos}
use lib.ListN.{length}
use Rattle.lang.specs.Answers.{reply_of}
use Rattle.lang.proofs.Refusals.{taken_reply, refused_reply}
use Rattle.fonts.specs.Fonts.{Font, pairs_of}
use Rattle.fonts.specs.Numbers.{flag_number}
use Rattle.fonts.specs.Compiled.{table_pairs, all_scale}
use Rattle.fonts.proofs.Replies.{flag_known, values_known, number_known, taken_unlike}
use Rattle.compiling.specs.declared.Prepared.TheVariants as prepared
use Rattle.compiling.specs.declared.SettledFont.{SettledFont}
use Rattle.compiling.specs.declared.SettledFont.TheVariants.{Rows, Refused}
use Rattle.compiling.specs.SettledRows.{Settled}
use Rattle.compiling.specs.RowNumbers.{boundary_pairs}
use Rattle.compiling.proofs.RowLaws.{settled_self, encoded_same, rules_same, pairs_same}
use Rattle.compiling.proofs.LoopLaws.{turns_same}
use Rattle.compiling.proofs.RowNumberLaws.{boundary_rows}
use Rattle.compiling.proofs.TableCount.{finished_count}
use Rattle.compile_prepare.specs.Prepares.{prepare_refusal, PreparesBy}
use Rattle.compile_settle.specs.Settles.{SettlesBy, settled_reply, Settles}

module _ (f : Font) (cap : ℕ) (w w₁ : List ℕ) where
  pub unfit : (k : ℕ) → PreparesBy f cap w w₁ (prepared.Refused k) → SettlesBy f cap w w₁ (Refused k)
  unfit k p = p

  pub settled : (n e m : ℕ) (b : Bool) (w₂ : List ℕ) → PreparesBy f cap w w₁ (prepared.Rows n e b) → Settled n w₁ w₂ m → SettlesBy f cap w w₂ (Rows n e m b)
  settled n e m b w₂ p s =
      let g = p.4 in
      let same = s.rows.same in (
        p.0,
        s.rows.same_length ∙ p.1,
        p.2,
        p.3,
        record {
          encoded = encoded_same n w₁ w₂ same s.rows.same_length g.encoded;
          pairs_are = pairs_same n w₁ w₂ same ∙ g.pairs_are;
          rules_are = rules_same n w₁ w₂ same ∙ g.rules_are;
          turns = turns_same n e w₁ w₂ (λ k i h l. same k i h (omega arith)) s.rows.same_turns g.turns;
          unmet = λ k h. s.rows.same_marks k h ∙ g.unmet k h;
          settled = settled_self n m w₁ w₂ s;
          count_is = g.count_is;
        },
      )

-- ---- the contract, from what the answer says

module _ (f : Font) (cap : ℕ) (w w' : List ℕ) where
  -- the values of an answer that is taken
  abbrev replied : List ℤ
  replied = pos (length (pairs_of f)) ∷ pos (boundary_pairs (pairs_of f)) ∷ pos (table_pairs f) ∷ flag_number (all_scale f) ∷ []

  reply_by_lem : (r : SettledFont) → SettlesBy f cap w w' r → settled_reply r ≡ reply_of (prepare_refusal f cap) replied
  reply_by_lem (Rows n e m b) d =
      let g = d.4 in
      let x = g.count_is in
      let y = boundary_rows (pairs_of f) n e w' g.encoded.ascending g.pairs_are x g.turns in
      let z = finished_count f n w' g.pairs_are g.rules_are x m g.encoded g.settled in
      let v = d.2 in
      (λ i. reply_of 0 (pos (x i) ∷ pos (y i) ∷ pos (z i) ∷ flag_number (v i) ∷ [])) ∙ taken_reply replied d.0
  reply_by_lem (Refused k) d = refused_reply replied (sym d.0) (λ z. omega (arith, d.1))

  pub settles : (r : SettledFont) → SettlesBy f cap w w' r → Settles f cap w w' r
  settles r d = record { reply = reply_by_lem r d; rows = d }

-- ---- the answer is known from its reply

pub settled_determined : (a b : SettledFont) → settled_reply a ≡ settled_reply b → a ≡ b
settled_determined (Rows n e m b) (Rows n' e' m' b') q = let v = values_known q in let z = flag_known b b' (cc) in cc
settled_determined (Rows n e m b) (Refused k) q = taken_unlike q
settled_determined (Refused k) (Rows n e m b) q = taken_unlike (sym q)
settled_determined (Refused j) (Refused k) q = ap Refused (number_known q)
