-- The number of begin's answer.
-- Assumes nothing.
use mathlib.Core.Path.{◌≡◌, refl, ap, ◌∙◌}
use mathlib.Core.List.{List}
use Prim.Native.Nat.{ℕ, zero, suc}
use lib.IntN.{ℤ}
use Rattle.lang.specs.Answers.{Reply, reply_of}
use Rattle.captions.specs.declared.RunOptions.{RunOptions}
use Rattle.captions.specs.declared.Begun.{Begun}
use Rattle.captions.specs.Replies.{begun_reply, state_numbers}
use Rattle.captions.specs.Begin.{begin_refusal, begin_reply, fresh_state}

reply_number : (n : ℕ) (vs : List ℤ) → (reply_of n vs).number ≡ n
reply_number zero vs = refl
reply_number (suc n) vs = refl

pub begun_number : (pairs ops : List ℤ) (boundary : ℤ) (word : List ℕ) (options : RunOptions) (r : Begun) →
    begun_reply r ≡ begin_reply pairs ops boundary word options → (begun_reply r).number ≡ begin_refusal pairs ops boundary word options
begun_number pairs ops boundary word options r e =
    ap (λ (x : Reply). x.number) e ∙ reply_number (begin_refusal pairs ops boundary word options) (state_numbers (fresh_state word options))
