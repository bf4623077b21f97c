-- What holds at each turn of the loop over decimals (TeX 103): those that are put, and those that are still to come.
-- Assumes nothing.
use mathlib.Core.Path.{◌≡◌, refl, sym, ap, ◌∙◌}
use mathlib.Core.List.{List, [], ◌∷◌, ◌++◌, append_assoc}
use Prim.Native.Nat.{ℕ, zero, suc, ◌+◌, ◌-◌, ◌*◌, ◌/◌, ◌%◌, ◌^◌, ◌<◌, ◌≤◌}
use native.Mathlib.Omega.{arith}
use lib.ListN.{length, set, length-append, length-set}
use lib.Seq.{length-sets}
use Rattle.points.specs.Printing.{last_rounded, decimals_from, decimals_of}
use Rattle.points.proofs.Decimals.{decimals_last, decimals_more, rounded_small}
use Rattle.point_print.specs.Putting.{PutsBytes}
use Rattle.point_print.proofs.Putting.{puts_none, puts_one, puts_more}

-- `left` digits may come behind the one that is put next
pub record DecimalTurn (out₀ : List ℕ) (at part : ℕ) (out : List ℕ) (s delta next : ℕ) : Type 0 where
  pub done : List ℕ
  pub left : ℕ
  pub text : decimals_of part ≡ done ++ decimals_from (suc left) delta s
  pub put : PutsBytes out₀ at done next out
  pub few : length done + left ≡ 4
  pub power : delta ≡ 10 ^ (5 - left)
  pub above : delta ≤ s + 5
  pub small : s < 655360

pub turn_none : (out₀ : List ℕ) (at part : ℕ) → part < 65536 → DecimalTurn out₀ at part out₀ (10 * part + 5) 10 at
turn_none out₀ at part h =
    record { done = []; left = 4; text = refl; put = puts_none out₀ at; few = refl; power = refl; above = omega arith; small = omega arith }

-- delta is 10, 100, 1,000, 10,000 or 100,000
power_least : (k : ℕ) → k ≤ 4 → (10 ≤ 10 ^ (5 - k)) × (10 ^ (5 - k) ≤ 100000)
power_least zero h = (omega arith, omega arith)
power_least (suc zero) h = (omega arith, omega arith)
power_least (suc (suc zero)) h = (omega arith, omega arith)
power_least (suc (suc (suc zero))) h = (omega arith, omega arith)
power_least (suc (suc (suc (suc zero)))) h = (omega arith, omega arith)
power_least (suc (suc (suc (suc (suc k))))) h = absurd (omega arith)

power_next : (k : ℕ) → k ≤ 3 → 10 * 10 ^ (5 - suc k) ≡ 10 ^ (5 - k)
power_next zero h = refl
power_next (suc zero) h = refl
power_next (suc (suc zero)) h = refl
power_next (suc (suc (suc zero))) h = refl
power_next (suc (suc (suc (suc k)))) h = absurd (omega arith)

module _ {out₀ : List ℕ} {at part : ℕ} {out : List ℕ} {s delta next : ℕ} (turn : DecimalTurn out₀ at part out s delta next) where
  pub turn_delta : (10 ≤ delta) × (delta ≤ 100000)
  turn_delta = let p = power_least turn.left (omega (arith, turn.few)) in (omega (arith, p.0, turn.power), omega (arith, p.1, turn.power))

  pub turn_next_lem : next ≤ at + 4
  turn_next_lem = omega (arith, turn.put.next, turn.few)

  pub turn_kept : {t : ℕ} {d : List ℕ} → t ≡ last_rounded delta s → d ≡ set out next (48 + t / 65536) → length d ≡ length out₀
  turn_kept {t} e g = ap length g ∙ length-set out next (48 + t / 65536) ∙ ap length turn.put.list ∙ length-sets out₀ at turn.done

  pub turn_digit : {t : ℕ} → t ≡ last_rounded delta s → t < 655360
  turn_digit {t} e = omega (arith, e, rounded_small delta s, turn.small)

  -- the last digit
  pub turn_last : {t : ℕ} {d : List ℕ} → t ≡ last_rounded delta s → d ≡ set out next (48 + t / 65536) → 10 * (t % 65536) ≤ 10 * delta →
      PutsBytes out₀ at (decimals_of part) (next + 1) d
  turn_last {t} {d} e g h =
      let x : decimals_from (suc turn.left) delta s ≡ (48 + t / 65536) ∷ [] = rw e (decimals_last turn.left delta s (rw e at h)) in
      rw (turn.text, x) (puts_more turn.put (puts_one out next (48 + t / 65536) g))

  -- one of several: there is a digit left, since after the fifth no more than ten times delta is left
  pub turn_more : {t : ℕ} {d : List ℕ} → t ≡ last_rounded delta s → d ≡ set out next (48 + t / 65536) → 10 * delta < 10 * (t % 65536) →
      DecimalTurn out₀ at part d (10 * (t % 65536)) (10 * delta) (next + 1)
  turn_more {t} {d} e g h = by turn.left turn.few turn.power turn.text
    where
      b : ℕ
      b = 48 + t / 65536

      by : (k : ℕ) → length turn.done + k ≡ 4 → delta ≡ 10 ^ (5 - k) → decimals_of part ≡ turn.done ++ decimals_from (suc k) delta s →
          DecimalTurn out₀ at part d (10 * (t % 65536)) (10 * delta) (next + 1)
      by zero f p x = absurd (omega arith)
      by (suc k) f p x =
          let y : decimals_from (suc (suc k)) delta s ≡ b ∷ decimals_from (suc k) (10 * delta) (10 * (t % 65536)) =
          rw e (decimals_more (suc k) delta s (rw e at h)) in
          record {
            done = turn.done ++ (b ∷ []);
            left = k;
            text = x ∙ ap (λ (l : List ℕ). turn.done ++ l) y ∙ sym (append_assoc turn.done (b ∷ []) (decimals_from (suc k) (10 * delta) (10 * (t % 65536))));
            put = puts_more turn.put (puts_one out next b g);
            few = simp length-append (omega arith);
            power = ap (λ (j : ℕ). 10 * j) p ∙ power_next k (omega arith);
            above = omega arith;
            small = omega arith;
          }
