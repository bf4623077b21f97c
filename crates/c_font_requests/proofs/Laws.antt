-- What is told of a request: the list has no run, it is refused, or it is taken.
-- Assumes nothing.
use mathlib.Core.Path.{◌≡◌, refl, sym, ap, subst, ◌∙◌}
use mathlib.Core.Bool.{true}
use mathlib.Core.List.{List}
use Prim.Native.Nat.{ℕ, zero, suc}
use native.Mathlib.Omega.{arith}
use lib.ListN.{length}
use Rattle.lang.specs.Checks.{unless, lower}
use Rattle.lang.proofs.Refusals.{unless_none, room_is, lower_some}
use Rattle.font_runs.specs.declared.FontRun.{FontRun}
use Rattle.font_runs.specs.declared.Requested.{Requested}
use Rattle.font_runs.specs.declared.Requested.TheVariants.{Taken, Refused}
use Rattle.font_runs.specs.Requests.{requested_by}
use Rattle.c_font_runs.specs.RunLists.{is_run, outside_run, run_moved, PutsRun}
use Rattle.c_font_runs.proofs.Laws.{run_long}
use Rattle.c_font_requests.specs.Told.{TellsRun, Refuses}

-- no refusal by a definition is 0
pub by_refuses : (m : ℕ) (after : FontRun) → Refuses (requested_by m after)
by_refuses zero after = tt
by_refuses (suc m) after = λ e. omega (arith, e)

module _ (ns : List ℕ) where
  stays : (n : ℕ) (run : FontRun) → (n ≡ 0 → ⊥) → ns ≡ run_moved n ns run
  stays zero run h = absurd (h refl)
  stays (suc n) run h = refl

  module _ {r : Requested} {m : ℕ} (stands : m ≡ unless 7 (is_run ns)) where
    pub no_run_told : (after : FontRun) → r ≡ Taken after → (m ≡ 0 → ⊥) → TellsRun r ns m ns
    no_run_told after e h =
        subst (λ (q : Requested). TellsRun q ns m ns) (sym e)
        record { number = stands; moved = stays (unless 7 (is_run ns)) after (λ z. h (stands ∙ z)) }

    pub refused_told : (n : ℕ) → r ≡ Refused n → Refuses r → {k : ℕ} → k ≡ lower n m → TellsRun r ns k ns
    refused_told n e f {k} g =
        let h : n ≡ 0 → ⊥ = subst Refuses e f in
        let q : k ≡ lower n (unless 7 (is_run ns)) = g ∙ ap (lower n) stands in
        subst (λ (q : Requested). TellsRun q ns k ns) (sym e)
        record {
          number = q;
          moved = stays (lower n (unless 7 (is_run ns))) outside_run (λ z. omega (arith, lower_some n (unless 7 (is_run ns)) h, z));
        }

    pub taken_told : (after : FontRun) → r ≡ Taken after → m ≡ 0 → {k : ℕ} {ns' : List ℕ} → PutsRun after ns k ns' → TellsRun r ns k ns'
    taken_told after e z {k} {ns'} p =
        let u : unless 7 (is_run ns) ≡ 0 = sym stands ∙ z in
        let y = room_is 12 (length ns) (run_long ns (unless_none 6 (is_run ns) u)) in
        subst (λ (q : Requested). TellsRun q ns k ns') (sym e)
        record { number = p.number ∙ y ∙ sym u; moved = p.stored ∙ ap (λ (n : ℕ). run_moved n ns after) (y ∙ sym u) }
