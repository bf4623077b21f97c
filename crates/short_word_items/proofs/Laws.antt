-- The items of a word by what they were written as. Assumes nothing.
use mathlib.Core.Path.{◌≡◌, sym, subst}
use mathlib.Core.Bool.{Bool, true, false}
use mathlib.Core.List.{List}
use Prim.Native.Nat.{ℕ, ◌/◌}
use lib.IntN.{ℤ}
use lib.ListN.{length}
use Rattle.lang.specs.declared.Written.{Written}
use Rattle.captions.specs.Begin.{fresh_state, plain_options}
use Rattle.word_set.specs.Setting.{items_from, Sets}
use Rattle.word_set.specs.Writing.{Tells}
use Rattle.short_word_items.specs.NextItems.{next_word_items}

module _ (pairs ops : List ℤ) (boundary : ℤ) (word : List ℕ) (items : List ℤ) (r : Written) (items' : List ℤ) where
  pub first_items : (t : Bool) → t ≡ true → Sets pairs ops boundary word plain_options items r items' →
      Tells (next_word_items t pairs ops boundary word (length items)) items r items'
  first_items t e h =
      subst (λ (u : Bool). Tells (next_word_items u pairs ops boundary word (length items)) items r items') (sym e)
      (record { answer = h.answer; list = h.list })

  pub other_items : (t : Bool) → t ≡ false →
      Tells (items_from pairs ops boundary word plain_options (length items / 6) (fresh_state word plain_options)) items r items' →
      Tells (next_word_items t pairs ops boundary word (length items)) items r items'
  other_items t e h = subst (λ (u : Bool). Tells (next_word_items u pairs ops boundary word (length items)) items r items') (sym e) h
