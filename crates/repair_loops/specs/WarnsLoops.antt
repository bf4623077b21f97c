-- The warnings of a font's loops (R178), after n others: the contract of `warn_loops`.
use Rattle.std.specs.Prelude.{◌≡◌, List, [], ◌∷◌, ℕ, zero, suc, ◌+◌, ◌*◌, ◌/◌, ℤ, pos, length, replicate, ltb}
use Rattle.std.proofs.lemmas.List.Edits.{sets}
use Rattle.lang.specs.declared.Written.{Written}
use Rattle.lang.specs.Checks.{unless, or_else}
use Rattle.lang.specs.Answers.{reply_of, written_reply}
use Rattle.fonts.specs.Fonts.{Font}
use Rattle.fonts.specs.Compiled.{loops_of_font}
use Rattle.compile_prepare.specs.Prepares.{prepare_refusal}
use Rattle.repairs.specs.Warnings.{loop_warnings}

-- by the refusal: the first where it is 0, else the second
abbrev pub if_taken {ℓ} : {A : Type ℓ} → ℕ → A → A → A
if_taken zero taken refused = taken
if_taken (suc k) taken refused = refused

-- 1, then 12, as the first stage of compiling has them; then 15 (R244), where there are 2^31 warnings before, which no i32 counts
abbrev pub loop_search_refusal : Font → ℕ → List ℕ → ℕ
loop_search_refusal f n work = or_else (prepare_refusal f (length work / 16)) (unless 15 (ltb n 2147483648))

-- THE contract of warn_loops: how many warnings there are, or the number; those of the loops after n others; and the work all zeros
pub record WarnsLoops (f : Font) (n : ℕ) (warnings : List ℤ) (work : List ℕ) (r : Written) (warnings' : List ℤ)
    (work' : List ℕ) : Type 0 where
  pub answer : written_reply r ≡ reply_of (loop_search_refusal f n work) (pos (n + length (loops_of_font f)) ∷ [])
  pub warned : warnings' ≡ sets warnings (4 * n) (if_taken (loop_search_refusal f n work) (loop_warnings (loops_of_font f)) [])
  pub cleared : work' ≡ replicate (length work) 0
