-- The whole call, with its numbers and options as they are lent. Assumes nothing.
use mathlib.Core.Path.{◌≡◌, subst, subst₂}
use mathlib.Core.List.{List}
use Prim.Native.Nat.{ℕ}
use lib.IntN.{ℤ}
use Rattle.captions.specs.declared.RunOptions.{RunOptions}
use Rattle.removals.specs.declared.Blamed.{Blamed}
use Rattle.removals.specs.declared.FontNumbers.{FontNumbers}
use Rattle.removals.specs.Removed.{font_at, size_number}
use Rattle.removals.specs.Search.{blamed_reply, Blames}
use Rattle.c_blame_write.specs.Told.{TellsBlamed}
use Rattle.c_blame.specs.Blaming.{BlamesForHost}

module _ (s kerns entries : List ℤ) (word : List ℕ) (pairs ops pairs₂ ops₂ edited pairs' ops' pairs₂' ops₂' edited' : List ℤ) (work work' : List ℕ) where
  pub told_host : {m n : FontNumbers} {o p : RunOptions} → m ≡ n → o ≡ p → (r : Blamed) →
      Blames (font_at s kerns entries m) (size_number m) word o pairs ops pairs₂ ops₂ edited work r pairs' ops' pairs₂' ops₂' edited' work' →
      (values : List ℕ) (x : ℕ) (values' : List ℕ) → TellsBlamed (blamed_reply r) values x values' →
      BlamesForHost (font_at s kerns entries n) (size_number n) word p pairs ops pairs₂ ops₂ edited work values x pairs' ops' pairs₂' ops₂' edited' work' values'
  told_host {n = n} {p = p} e f r h values x values' t =
      let g = subst₂ (λ (k : FontNumbers) (q : RunOptions).
      Blames (font_at s kerns entries k) (size_number k) word q pairs ops pairs₂ ops₂ edited work r pairs' ops' pairs₂' ops₂' edited' work') e f h in
      record { tells = subst (λ (y : Blamed). TellsBlamed (blamed_reply y) values x values') g.answer t; zeroed = g.zeroed }
