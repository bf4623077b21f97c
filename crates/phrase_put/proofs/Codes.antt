-- A character put as itself, or its code in parentheses.
-- Assumes nothing.
use mathlib.Core.Path.{◌≡◌, sym, ◌∙◌}
use mathlib.Core.Bool.{true, false}
use mathlib.Core.List.{List, [], ◌∷◌}
use Prim.Native.Nat.{ℕ, ◌%◌, ◌≤◌}
use native.Mathlib.Omega.{arith}
use borrow.Author.Tests.{leb-true}
use Rattle.lang.proofs.Every.{both_right}
use lib.Dec.{leb}
use Rattle.phrases.specs.Phrases.{PutsText, decimal_text, is_printed, paren_text, code_text, char_text}
use Rattle.phrases.proofs.Putting.{puts_more}

below : (c : ℕ) → is_printed c ≡ true → c % 256 ≡ c
below c e = let l : c ≤ 126 = leb-true c 126 (both_right (leb 33 c) (leb c 126) e) in omega arith

pub puts_printed : (c : ℕ) {out : List ℕ} {at r : ℕ} {d : List ℕ} → is_printed c ≡ true → PutsText out at (c % 256 ∷ []) r d →
    PutsText out at (code_text c) r d
puts_printed c e p = rw e (rw (below c e) at p)

pub puts_hidden : (c : ℕ) {out : List ℕ} {at r : ℕ} {d : List ℕ} → is_printed c ≡ false → PutsText out at (paren_text c) r d →
    PutsText out at (code_text c) r d × PutsText out at (char_text c) r d
puts_hidden c e p = (rw e p, rw e p)

pub puts_paren : (c : ℕ) {out : List ℕ} {at a b r : ℕ} {d e f : List ℕ} → PutsText out at (40 ∷ []) a d →
    PutsText d a (decimal_text c) b e → PutsText e b (41 ∷ []) r f → PutsText out at (paren_text c) r f
puts_paren c p q s = puts_more p (puts_more q s)

pub puts_char : (c : ℕ) {out : List ℕ} {at a b r : ℕ} {d e f : List ℕ} → is_printed c ≡ true → PutsText out at (c % 256 ∷ []) a d →
    PutsText d a (32 ∷ []) b e → PutsText e b (paren_text c) r f → PutsText out at (char_text c) r f
puts_char c h p q s = rw h (puts_more (rw (below c h) at p) (puts_more q s))
