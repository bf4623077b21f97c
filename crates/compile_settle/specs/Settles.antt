-- The rows of a font, settled: the contract of `settle`. `Settled` of crate `compiling` says what is known of each row.
use Rattle.std.specs.Prelude.{◌≡◌, List, [], ◌∷◌, ℕ, ◌<◌, ◌≤◌, pos, length, replicate}
use Rattle.lang.specs.Answers.{Reply, reply_of}
use Rattle.fonts.specs.Fonts.{Font, pairs_of, rules_of}
use Rattle.fonts.specs.Numbers.{flag_number}
use Rattle.fonts.specs.Compiled.{table_pairs, all_scale}
use Rattle.compiling.specs.declared.SettledFont.{SettledFont}
use Rattle.compiling.specs.declared.SettledFont.TheVariants.{Rows, Refused}
use Rattle.compiling.specs.Rows.{at, pairs, rules, Encoded}
use Rattle.compiling.specs.SettledRows.{Settled}
use Rattle.compiling.specs.LoopRows.{WalkOrder}
use Rattle.compiling.specs.RowNumbers.{boundary_pairs}
use Rattle.compile_prepare.specs.Prepares.{prepare_refusal}

-- n rows are the font's, of which e are the boundary's and m finish; numbers 8, and 9 of the rows that finish, are left free
pub record FontSettled (f : Font) (w : List ℕ) (n e m : ℕ) : Type 0 where
  pub encoded : Encoded n w
  pub pairs_are : pairs n w ≡ pairs_of f
  pub rules_are : rules n w ≡ rules_of f
  pub turns : WalkOrder n e w
  pub unmet : (k : ℕ) → k < n → at w k 14 ≡ 0
  pub settled : Settled n w w m
  pub count_is : n ≡ length (pairs_of f)

-- by the answer: the rows, and whether every kern that is a rule scales; or the number, with the work all zeros
abbrev pub SettlesBy : Font → ℕ → List ℕ → List ℕ → SettledFont → Type 0
SettlesBy f cap w w' (Rows n e m b) =
    (prepare_refusal f cap ≡ 0) × (length w' ≡ length w) × (b ≡ all_scale f) × (n ≤ cap) × FontSettled f w' n e m
SettlesBy f cap w w' (Refused k) = (prepare_refusal f cap ≡ k) × (0 < k) × (w' ≡ replicate (length w) 0)

-- what settle answers, as a number and values (R285): how many rows, how many of them are the boundary's, how many finish, and 1 where
-- every kern that is a rule scales; or the number
abbrev pub settled_reply : SettledFont → Reply
settled_reply (Rows n e m b) = reply_of 0 (pos n ∷ pos e ∷ pos m ∷ flag_number b ∷ [])
settled_reply (Refused k) = record { number = k; values = [] }

-- THE contract of settle: the answer by equation, and what the rows are good for
pub record Settles (f : Font) (cap : ℕ) (w w' : List ℕ) (r : SettledFont) : Type 0 where
  pub reply : settled_reply r ≡
      reply_of (prepare_refusal f cap)
      (pos (length (pairs_of f)) ∷ pos (boundary_pairs (pairs_of f)) ∷ pos (table_pairs f) ∷ flag_number (all_scale f) ∷ [])
  pub rows : SettlesBy f cap w w' r
