-- A request by its refusal, and by what begin answers.
-- Assumes nothing.
use mathlib.Core.Path.{◌≡◌, refl, ap}
use Prim.Native.Nat.{ℕ, zero, suc}
use native.Mathlib.Omega.{arith}
use Rattle.std.specs.Prelude.{None}
use Rattle.captions.specs.declared.State.{State}
use Rattle.captions.specs.declared.Begun.TheVariants as begun
use Rattle.captions.specs.Begin.{begun_by}
use Rattle.font_runs.specs.declared.FontRun.{FontRun}
use Rattle.font_runs.specs.declared.Requested.TheVariants.{Taken, Refused}
use Rattle.font_runs.specs.Requests.{requested_by}

module _ (after : FontRun) {m : ℕ} where
  pub refused_by : {r : ℕ} → r ≡ m → (r ≡ 0 → ⊥) → Refused r ≡ requested_by m after
  refused_by {r} e h = by m e
    where
      by : (n : ℕ) → r ≡ n → Refused r ≡ requested_by n after
      by zero q = absurd (h q)
      by (suc n) q = rw q

  pub taken_by : m ≡ 0 → Taken after ≡ requested_by m after
  taken_by z = rw z

-- a run in a font, with nothing asked for
abbrev pub in_font : ℕ → State → FontRun
in_font number s = record { state = s; font = number; asked = None }

pub begun_taken : (m number : ℕ) (s t : State) → begun.Run s ≡ begun_by m t → Taken (in_font number s) ≡ requested_by m (in_font number t)
begun_taken zero number s t e = let q : s ≡ t = cc in ap (λ (u : State). Taken (in_font number u)) q
begun_taken (suc m) number s t e = absurd (let z : ◌≡◌ {A = ℕ} 0 1 = cc in omega arith)

pub begun_refused : (m n : ℕ) (t : State) (after : FontRun) → begun.Refused n ≡ begun_by m t → Refused n ≡ requested_by m after
begun_refused zero n t after e = absurd (let z : ◌≡◌ {A = ℕ} 0 1 = cc in omega arith)
begun_refused (suc m) n t after e = let q : n ≡ suc m = cc in ap Refused q
