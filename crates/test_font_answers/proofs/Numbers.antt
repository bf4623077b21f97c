-- A refusal has a number: by cases of the refusal.
use mathlib.Core.Path.{◌≡◌, ap}
use mathlib.Core.List.{List, []}
use Prim.Native.Nat.{ℕ, zero, suc}
use native.Mathlib.Omega.{arith}
use lib.IntN.{ℤ}
use Rattle.fonts.specs.Fonts.{Font}
use Rattle.fonts.specs.declared.Compiled.{Compiled}
use Rattle.fonts.specs.declared.Compiled.TheVariants.{Tables, Refused}
use Rattle.fonts.specs.Compiled.{compiled_reply, font_counts, sized_refusal, room_in, Compiles}
use Rattle.lang.specs.Answers.{Reply, reply_of}
use Rattle.test_font_answers.specs.Fonts.{Numbered}

by_number : (n : ℕ) (f : Font) (r : Compiled) → compiled_reply r ≡ reply_of n (font_counts f) → Numbered r
by_number n f (Tables p o l) e = tt
by_number zero f (Refused k) e = absurd (let v : [] ≡ font_counts f = ap (λ (r : Reply). r.values) e in let z : ◌≡◌ {A = ℕ} 0 1 = cc in omega arith)
by_number (suc n) f (Refused k) e = let z : k ≡ suc n = ap (λ (r : Reply). r.number) e in omega arith

pub numbered : {f : Font} {size : ℕ} {ps os ls : List ℤ} {w : List ℕ} {r : Compiled} {ps' os' ls' : List ℤ} {w' : List ℕ} →
    Compiles f size ps os ls w r ps' os' ls' w' → Numbered r
numbered {f} {size} {ps} {os} {ls} {w} {r} k = by_number (sized_refusal f (room_in ps os ls w) size) f r k.answer
