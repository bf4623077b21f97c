-- The items of a run: their numbers are small, and what is told of them is the contract of set_word.
-- Assumes nothing.
use mathlib.Core.Path.{◌≡◌, sym, subst}
use mathlib.Core.List.{List}
use Prim.Native.Nat.{ℕ, ◌/◌}
use lib.IntN.{ℤ, pos}
use lib.ListN.{length, replicate}
use Rattle.lang.specs.declared.Written.{Written}
use Rattle.lang.specs.declared.Written.TheVariants as written
use Rattle.captions.specs.declared.RunOptions.{RunOptions}
use Rattle.captions.specs.declared.State.{State}
use Rattle.captions.specs.declared.Begun.TheVariants as begun
use Rattle.captions.specs.declared.Step.{Step}
use Rattle.captions.specs.Begin.{begin_of}
use Rattle.captions.specs.Steps.{step_of}
use Rattle.word_items.specs.ItemLists.{Small}
use Rattle.word_set.specs.Setting.{items_from, set_reply, Sets}
use Rattle.word_set.specs.Writing.{Tells}
use Rattle.word_set.proofs.Bounds.{step_small}
use Rattle.word_set.proofs.Standing.{run_items_lem, tells_run, tells_no_run}

-- the numbers of an item are small
pub item_small : (pairs ops : List ℤ) (boundary : ℤ) (word : List ℕ) (options : RunOptions) (s : State) (t : Step) →
    t ≡ step_of pairs ops boundary word options s → Small t.answer
item_small pairs ops boundary word options s t e = subst (λ (u : Step). Small u.answer) (sym e) (step_small pairs ops boundary word options s)

-- ---- from begin on

module _ (pairs ops : List ℤ) (boundary : ℤ) (word : List ℕ) (options : RunOptions) where
  -- a run that begins
  pub set_run : (s : State) → begun.Run s ≡ begin_of pairs ops boundary word options → (room : ℕ) →
      set_reply pairs ops boundary word options room ≡ items_from pairs ops boundary word options (room / 6) s
  set_run = run_items_lem (step_of pairs ops boundary word options) pairs ops boundary word options

  pub sets_run : (d₀ d : List ℤ) (s : State) → begun.Run s ≡ begin_of pairs ops boundary word options → length d ≡ length d₀ → (x : Written) (d' : List ℤ) →
      Tells (items_from pairs ops boundary word options (length d / 6) s) d x d' → Sets pairs ops boundary word options d₀ x d'
  sets_run d₀ d s e l x d' h =
      let t = tells_run (step_of pairs ops boundary word options) pairs ops boundary word options d₀ d s e l x d' h in
      record { answer = t.answer; list = t.list }

  -- a begin that is refused
  pub sets_refused : (d₀ d : List ℤ) (n : ℕ) → begun.Refused n ≡ begin_of pairs ops boundary word options → d ≡ replicate (length d₀) (pos 0) →
      Sets pairs ops boundary word options d₀ (written.Refused n) d
  sets_refused d₀ d n e z =
      let t = tells_no_run (step_of pairs ops boundary word options) pairs ops boundary word options d₀ d n e z in
      record { answer = t.answer; list = t.list }
