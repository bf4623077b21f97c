-- A number in decimal, its digits written from the last one on.
-- Assumes nothing.
use mathlib.Core.Path.{◌≡◌, ap, sym, ◌∙◌}
use mathlib.Core.List.{List, [], ◌∷◌, ◌++◌, append-nil, append_assoc}
use Prim.Native.Nat.{ℕ, zero, suc, ◌+◌, ◌-◌, ◌*◌, ◌/◌, ◌%◌, ◌^◌, ◌<◌, ◌≤◌}
use native.Mathlib.Nat.{div-lt_iff_lt-mul, pow-suc}
use native.Mathlib.Omega.{arith}
use lib.ListN.{length, take, drop, set, length-drop, drop_of_length-le, length-set}
use lib.Seq.{take_all, drop-cons, drop-set-lt, get_or-set_same}
use borrow.Author.Tests.{lt-ltb, le-ltb}
use Rattle.phrases.specs.Phrases.{PutsText, decimal_by, decimal_text}

-- the digits from place `first` on are still to be written: those of `rest`
pub record Spelling (n : ℕ) (digits : List ℕ) (first rest : ℕ) : Type 0 where
  pub long : length digits ≡ 10
  pub within : first < 10
  pub small : rest < 10 ^ suc first
  pub text : decimal_by (suc first) rest ++ drop (suc first) digits ≡ decimal_text n

pub spelling_none : (n : ℕ) (digits : List ℕ) → length digits ≡ 10 → n < 2 ^ 32 → Spelling n digits 9 n
spelling_none n digits l h =
    record {
      long = l;
      within = omega arith;
      small = omega arith;
      text = let k : length digits ≤ 10 = omega arith in rw (drop_of_length-le digits k, append-nil);
    }

-- a digit written
drop_written : (i b : ℕ) (l : List ℕ) → i < length l → drop i (set l i b) ≡ b ∷ drop (suc i) l
drop_written i b l h =
    drop-cons (set l i b) i 0 (rw length-set h) ∙ rw (get_or-set_same l i b 0 h, drop-set-lt (suc i) l i b (omega arith))

pub first_left : (n : ℕ) (digits : List ℕ) (first rest : ℕ) → 10 ≤ rest → Spelling n digits first rest → 0 < first
first_left n digits zero rest h s = omega (arith, s.small)
first_left n digits (suc f) rest h s = omega arith

decimal_one : (f n : ℕ) → n < 10 → decimal_by (suc f) n ≡ (48 + n) ∷ []
unfolding decimal_by
decimal_one f n h = rw (lt-ltb n 10 h)

decimal_more : (f n : ℕ) → 10 ≤ n → decimal_by (suc f) n ≡ decimal_by f (n / 10) ++ ((48 + n % 10) ∷ [])
unfolding decimal_by
decimal_more f n h = rw (le-ltb n 10 h)

spelling_on : (n : ℕ) (digits : List ℕ) (f rest : ℕ) → 10 ≤ rest → Spelling n digits (suc f) rest →
    Spelling n (set digits (suc f) (48 + rest % 10)) f (rest / 10)
spelling_on n digits f rest h s =
    record {
      long = rw length-set s.long;
      within = omega (arith, s.within);
      small = (div-lt_iff_lt-mul {k = 10} {x = rest} {y = 10 ^ suc f} (omega arith)).1 (rw (pow-suc 10 (suc f)) at s.small);
      text =
          rw (drop_written (suc f) (48 + rest % 10) digits (omega (arith, s.within, s.long)))
          (sym (append_assoc (decimal_by (suc f) (rest / 10)) ((48 + rest % 10) ∷ []) (drop (suc (suc f)) digits))
          ∙ ap (λ (l : List ℕ). l ++ drop (suc (suc f)) digits) (sym (decimal_more (suc f) rest h))
          ∙ s.text);
    }

pub spelling_more : (n : ℕ) (digits : List ℕ) (first rest : ℕ) → 10 ≤ rest → Spelling n digits first rest →
    Spelling n (set digits first (48 + rest % 10)) (first - 1) (rest / 10)
spelling_more n digits zero rest h s = absurd (let z : 0 < 0 = first_left n digits zero rest h s in omega arith)
spelling_more n digits (suc f) rest h s = let e : suc f - 1 ≡ f = omega arith in rw e (spelling_on n digits f rest h s)

pub spelling_end : (n : ℕ) (digits : List ℕ) (first rest : ℕ) → rest < 10 → Spelling n digits first rest →
    drop first (set digits first (48 + rest)) ≡ decimal_text n
spelling_end n digits first rest h s =
    rw (drop_written first (48 + rest) digits (omega (arith, s.within, s.long)))
    (ap (λ (l : List ℕ). l ++ drop (suc first) digits) (sym (decimal_one first rest h)) ∙ s.text)

pub written_long : (n : ℕ) (digits : List ℕ) (first rest : ℕ) → Spelling n digits first rest → length (set digits first (48 + rest)) ≡ 10
written_long n digits first rest s = rw length-set s.long

pub puts_written : (n : ℕ) (digits : List ℕ) (first rest : ℕ) {out : List ℕ} {at r : ℕ} {d : List ℕ} → rest < 10 → Spelling n digits first rest →
    PutsText out at (take (10 - first) (drop first (set digits first (48 + rest)))) r d → PutsText out at (decimal_text n) r d
puts_written n digits first rest {out} {at} {r} {d} h s p =
    let w = set digits first (48 + rest) in
    let l : length (drop first w) ≤ 10 - first = omega (arith, length-drop first w, written_long n digits first rest s) in
    rw (take_all (10 - first) (drop first w) l, spelling_end n digits first rest h s) at p
