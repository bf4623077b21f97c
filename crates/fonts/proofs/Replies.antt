-- What compile answers is known from its reply; with the laws by which what its stages answer each other is known from theirs.
-- Assumes nothing.
use mathlib.Core.Path.{◌≡◌, refl, sym, ap}
use mathlib.Core.Bool.{Bool, true, false}
use mathlib.Core.List.{List, [], ◌∷◌}
use Prim.Native.Nat.{ℕ}
use native.Mathlib.Omega.{arith}
use lib.IntN.{ℤ}
use Rattle.words.specs.Replies.{Reply}
use Rattle.fonts.specs.declared.Compiled.{Compiled}
use Rattle.fonts.specs.declared.Compiled.TheVariants.{Tables, Refused}
use Rattle.fonts.specs.Numbers.{flag_number}
use Rattle.fonts.specs.Compiled.{compiled_reply}

pub flag_known : (a b : Bool) → flag_number a ≡ flag_number b → a ≡ b
flag_known true true e = refl
flag_known true false e = let q : ◌≡◌ {A = ℕ} 1 0 = cc in absurd (omega arith)
flag_known false true e = let q : ◌≡◌ {A = ℕ} 0 1 = cc in absurd (omega arith)
flag_known false false e = refl

module _ {x y : Reply} (e : x ≡ y) where
  pub values_known : x.values ≡ y.values
  values_known = ap (λ (r : Reply). r.values) e

  pub number_known : x.number ≡ y.number
  number_known = ap (λ (r : Reply). r.number) e

-- an answer that has values is not refused
pub taken_unlike : {A : Type 0} {v : ℤ} {vs : List ℤ} {m n : ℕ} →
    ◌≡◌ {A = Reply} (record { number = m; values = v ∷ vs }) (record { number = n; values = [] }) → A
taken_unlike e = let q = values_known e in let z : ◌≡◌ {A = ℕ} 0 1 = cc in absurd (omega arith)

pub compiled_determined : (a b : Compiled) → compiled_reply a ≡ compiled_reply b → a ≡ b
compiled_determined (Tables p o l) (Tables p' o' l') e = let q = values_known e in cc
compiled_determined (Tables p o l) (Refused n) e = taken_unlike e
compiled_determined (Refused n) (Tables p o l) e = taken_unlike (sym e)
compiled_determined (Refused m) (Refused n) e = ap Refused (number_known e)
