-- The rows of a font that were settled, once its loops are listed: they are the font's still, and settled.
-- Assumes nothing.
use mathlib.Core.Path.{◌≡◌, sym, ap, ◌∙◌}
use mathlib.Core.Bool.{Bool}
use mathlib.Core.List.{List, [], ◌∷◌}
use Prim.Native.Nat.{ℕ}
use native.Mathlib.Omega.{arith}
use lib.IntN.{ℤ, pos}
use lib.ListN.{length}
use Rattle.lang.specs.Answers.{reply_of}
use Rattle.lang.proofs.Refusals.{taken_reply, refused_reply}
use Rattle.reading.specs.Loops.{loop_list}
use Rattle.fonts.specs.Fonts.{Font, pairs_of}
use Rattle.fonts.specs.Numbers.{flag_number}
use Rattle.fonts.specs.Compiled.{loops_of_font, table_pairs, all_scale}
use Rattle.fonts.proofs.Replies.{flag_known, values_known, number_known, taken_unlike}
use Rattle.compiling.specs.declared.SettledFont.TheVariants as settled
use Rattle.compiling.specs.declared.WalkedFont.{WalkedFont}
use Rattle.compiling.specs.declared.WalkedFont.TheVariants.{Rows, Refused}
use Rattle.compiling.specs.LoopRows.{Listed, loops_of}
use Rattle.compiling.proofs.RowLaws.{Keeps, keeps_rules, settled_kept, encoded_same, rules_same, pairs_same}
use Rattle.compiling.proofs.LoopLaws.{listed_count, listing_of, listed_pairs}
use Rattle.compiling.proofs.TableCount.{finished_count}
use Rattle.compile_prepare.specs.Prepares.{prepare_refusal}
use Rattle.compile_settle.specs.Settles.{SettlesBy}
use Rattle.compile_loops.specs.FindsLoops.{FindsLoopsBy, walked_reply, FindsLoops}

module _ (f : Font) (cap : ℕ) (w w₁ : List ℕ) where
  pub unfit : (k : ℕ) → SettlesBy f cap w w₁ (settled.Refused k) → FindsLoopsBy f cap w w₁ (Refused k)
  unfit k p = p

  pub walked : (n e m r : ℕ) (b : Bool) (w₂ : List ℕ) → SettlesBy f cap w w₁ (settled.Rows n e m b) → Listed n w₁ w₂ r → FindsLoopsBy f cap w w₂ (Rows n m r b)
  walked n e m r b w₂ p l =
      let g = p.4 in
      let keeps : Keeps n w₁ w₂ = λ k i h a c. l.rows k i h (omega arith) c (omega arith) in
      let same = keeps_rules w₁ w₂ keeps in
      let loops : loops_of n w₁ ≡ loops_of_font f = (let x = g.pairs_are in let y = g.rules_are in λ i. loop_list (y i) (x i)) in (
        p.0,
        l.same_length ∙ p.1,
        p.2,
        p.3,
        record {
          encoded = encoded_same n w₁ w₂ same l.same_length g.encoded;
          pairs_are = pairs_same n w₁ w₂ same ∙ g.pairs_are;
          rules_are = rules_same n w₁ w₂ same ∙ g.rules_are;
          settled = settled_kept n m w₁ w₂ keeps g.settled;
          count_is = g.count_is;
          loops_are = listed_pairs n r w₁ w₂ l ∙ loops;
          rows = λ i h. (l.listed i h).0;
          listing = listing_of n r w₁ w₂ l g.encoded.ascending;
          few = l.few;
        },
      )

-- ---- the contract, from what the answer says

module _ (f : Font) (cap : ℕ) (w w' : List ℕ) where
  -- the values of an answer that is taken
  abbrev replied : List ℤ
  replied = pos (length (pairs_of f)) ∷ pos (table_pairs f) ∷ pos (length (loops_of_font f)) ∷ flag_number (all_scale f) ∷ []

  reply_by_lem : (r : WalkedFont) → FindsLoopsBy f cap w w' r → walked_reply r ≡ reply_of (prepare_refusal f cap) replied
  reply_by_lem (Rows n m r b) d =
      let g = d.4 in
      let x = g.count_is in
      let y = finished_count f n w' g.pairs_are g.rules_are x m g.encoded g.settled in
      let z = listed_count r w' g.loops_are in
      let v = d.2 in
      (λ i. reply_of 0 (pos (x i) ∷ pos (y i) ∷ pos (z i) ∷ flag_number (v i) ∷ [])) ∙ taken_reply replied d.0
  reply_by_lem (Refused k) d = refused_reply replied (sym d.0) (λ z. omega (arith, d.1))

  pub finds_loops : (r : WalkedFont) → FindsLoopsBy f cap w w' r → FindsLoops f cap w w' r
  finds_loops r d = record { reply = reply_by_lem r d; rows = d }

-- ---- the answer is known from its reply

pub walked_determined : (a b : WalkedFont) → walked_reply a ≡ walked_reply b → a ≡ b
walked_determined (Rows n m r b) (Rows n' m' r' b') q = let v = values_known q in let z = flag_known b b' (cc) in cc
walked_determined (Rows n m r b) (Refused k) q = taken_unlike q
walked_determined (Refused k) (Rows n m r b) q = taken_unlike (sym q)
walked_determined (Refused j) (Refused k) q = ap Refused (number_known q)
