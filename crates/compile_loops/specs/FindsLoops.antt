-- The rows of a font with its loops listed: the contract of `find_loops`. The loop list itself is `loopsOfFont` of crate `fonts` (R83, R87
-- to R89).
use Rattle.std.specs.Prelude.{◌≡◌, List, [], ◌∷◌, ℕ, ◌<◌, ◌≤◌, pos, length, replicate}
use Rattle.words.specs.Lists.{tabulate}
use Rattle.lang.specs.Answers.{Reply, reply_of}
use Rattle.fonts.specs.Fonts.{Font, pairs_of, rules_of}
use Rattle.fonts.specs.Numbers.{flag_number}
use Rattle.fonts.specs.Compiled.{loops_of_font, table_pairs, all_scale}
use Rattle.compiling.specs.declared.WalkedFont.{WalkedFont}
use Rattle.compiling.specs.declared.WalkedFont.TheVariants.{Rows, Refused}
use Rattle.compiling.specs.Rows.{at, pair_at, pairs, rules, Encoded}
use Rattle.compiling.specs.SettledRows.{Settled}
use Rattle.compiling.specs.LoopSteps.{Listing}
use Rattle.compile_prepare.specs.Prepares.{prepare_refusal}

-- n rows are the font's, of which m finish, and numbers 8 of the first r name the rows of the loop list; numbers 9 of the rows that
-- finish and numbers 14 are left free, and so are numbers 8 past the first r
pub record FontWalked (f : Font) (w : List ℕ) (n m r : ℕ) : Type 0 where
  pub encoded : Encoded n w
  pub pairs_are : pairs n w ≡ pairs_of f
  pub rules_are : rules n w ≡ rules_of f
  pub settled : Settled n w w m
  pub count_is : n ≡ length (pairs_of f)
  pub loops_are : tabulate r (λ i. pair_at w (at w i 8)) ≡ loops_of_font f
  pub rows : (i : ℕ) → i < r → at w i 8 < n
  pub listing : Listing r w
  pub few : r ≤ n

-- by the answer: the rows, and whether every kern that is a rule scales; or the number, with the work all zeros
abbrev pub FindsLoopsBy : Font → ℕ → List ℕ → List ℕ → WalkedFont → Type 0
FindsLoopsBy f cap w w' (Rows n m r b) =
    (prepare_refusal f cap ≡ 0) × (length w' ≡ length w) × (b ≡ all_scale f) × (n ≤ cap) × FontWalked f w' n m r
FindsLoopsBy f cap w w' (Refused k) = (prepare_refusal f cap ≡ k) × (0 < k) × (w' ≡ replicate (length w) 0)

-- what find_loops answers, as a number and values (R285): how many rows, how many of them finish, how many loops, and 1 where every kern
-- that is a rule scales; or the number
abbrev pub walked_reply : WalkedFont → Reply
walked_reply (Rows n m r b) = reply_of 0 (pos n ∷ pos m ∷ pos r ∷ flag_number b ∷ [])
walked_reply (Refused k) = record { number = k; values = [] }

-- THE contract of find_loops: the answer by equation, and what the rows are good for
pub record FindsLoops (f : Font) (cap : ℕ) (w w' : List ℕ) (r : WalkedFont) : Type 0 where
  pub reply : walked_reply r ≡
      reply_of (prepare_refusal f cap)
      (pos (length (pairs_of f)) ∷ pos (table_pairs f) ∷ pos (length (loops_of_font f)) ∷ flag_number (all_scale f) ∷ [])
  pub rows : FindsLoopsBy f cap w w' r
