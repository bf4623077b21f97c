-- The rows of a font with their ops counted: the contract of `count`.
use Rattle.std.specs.Prelude.{◌≡◌, Bool, cond, List, [], ◌∷◌, ℕ, ◌*◌, ◌<◌, ◌≤◌, pos, leb, length, replicate}
use Rattle.words.specs.Lists.{tabulate}
use Rattle.lang.specs.Every.{both}
use Rattle.lang.specs.Checks.{or_else}
use Rattle.lang.specs.Answers.{Reply, reply_of, room_refusal}
use Rattle.fonts.specs.Fonts.{Font, pairs_of, rules_of}
use Rattle.fonts.specs.Compiled.{Room, total_ops, loops_of_font, table_pairs, build_refusal}
use Rattle.compiling.specs.declared.CountedFont.{CountedFont}
use Rattle.compiling.specs.declared.CountedFont.TheVariants.{Sizes, Refused}
use Rattle.compiling.specs.Rows.{at, pair_at, pairs, rules}
use Rattle.compiling.specs.OpRows.{Ready}
use Rattle.compiling.specs.LoopSteps.{Listing}

-- 13, then 14, then 15 (R93), by whether every kern scales, the total of the ops, the number of loops, and the room for both
abbrev pub sizes_refusal : Bool → ℕ → ℕ → ℕ → ℕ → ℕ
sizes_refusal scaled total loops opRoom loopRoom =
    or_else (cond scaled 0 13)
    (or_else (cond (both (leb total 2147483647) (leb (2 * total) opRoom)) 0 14) (room_refusal (2 * loops) loopRoom))

-- n rows are the font's, of which m finish; op counts and first ops stand in them, and numbers 8 of the first r name the rows of the loop
-- list
pub record FontCounted (f : Font) (w : List ℕ) (n m r : ℕ) : Type 0 where
  pub ready : Ready n m w
  pub pairs_are : pairs n w ≡ pairs_of f
  pub rules_are : rules n w ≡ rules_of f
  pub count_is : n ≡ length (pairs_of f)
  pub loops_are : tabulate r (λ i. pair_at w (at w i 8)) ≡ loops_of_font f
  pub listing : Listing r w
  pub few : r ≤ n

-- what counting the rows of a font leaves, by the answer
abbrev pub MeasuresBy : Font → Bool → ℕ → ℕ → ℕ → ℕ → ℕ → List ℕ → List ℕ → CountedFont → Type 0
MeasuresBy f scaled opRoom loopRoom n m r w w' (Sizes n' m' total r') =
    (sizes_refusal scaled (total_ops f) (length (loops_of_font f)) opRoom loopRoom ≡ 0) × (length w' ≡ length w)
    × (total ≡ total_ops f) × (n' ≡ n) × FontCounted f w' n' m' r'
MeasuresBy f scaled opRoom loopRoom n m r w w' (Refused k) =
    (sizes_refusal scaled (total_ops f) (length (loops_of_font f)) opRoom loopRoom ≡ k) × (0 < k) × (w' ≡ replicate (length w) 0)

-- by the answer: the rows, or the number, with the work all zeros
abbrev pub CountsBy : Font → Room → List ℕ → List ℕ → CountedFont → Type 0
CountsBy f room w w' (Sizes n m total r) =
    (build_refusal f room ≡ 0) × (length w' ≡ length w) × (total ≡ total_ops f) × (6 * n ≤ room.pairs) × FontCounted f w' n m r
CountsBy f room w w' (Refused k) = (build_refusal f room ≡ k) × (0 < k) × (w' ≡ replicate (length w) 0)

-- what count answers, as a number and values (R285): how many rows, how many of them finish, how many ops, and how many loops; or the
-- number
abbrev pub counted_reply : CountedFont → Reply
counted_reply (Sizes n m total r) = reply_of 0 (pos n ∷ pos m ∷ pos total ∷ pos r ∷ [])
counted_reply (Refused k) = record { number = k; values = [] }

-- THE contract of count: the answer by equation, and what the rows are good for
pub record CountsFont (f : Font) (room : Room) (w w' : List ℕ) (r : CountedFont) : Type 0 where
  pub reply : counted_reply r ≡
      reply_of (build_refusal f room)
      (pos (length (pairs_of f)) ∷ pos (table_pairs f) ∷ pos (total_ops f) ∷ pos (length (loops_of_font f)) ∷ [])
  pub rows : CountsBy f room w w' r
