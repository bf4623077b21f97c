-- What asking answers and leaves: refused by the passes (1 to 4, 12) or after them (15), with zeros for the warnings; or the warnings.
-- Assumes nothing.
use mathlib.Core.Path.{◌≡◌, refl, sym, ap, ◌∙◌}
use mathlib.Core.Bool.{Bool, true, false, cond}
use mathlib.Core.List.{List}
use Prim.Native.Nat.{ℕ, ◌*◌, ◌/◌, ◌≤◌, ◌<◌}
use native.Mathlib.Omega.{arith}
use lib.IntN.{ℤ, pos}
use lib.Dec.{leb}
use lib.ListN.{length, replicate, length-replicate}
use borrow.Author.Tests.{le-leb, lt-leb, leb-true, leb-false}
use Rattle.lang.specs.declared.Written.{Written}
use Rattle.lang.specs.declared.Written.TheVariants.{Count, Refused}
use Rattle.lang.specs.Checks.{or_else}
use Rattle.lang.specs.Answers.{written_reply, room_refusal}
use Rattle.lang.proofs.Refusals.{or_else_assoc, second_is, first_refusal, room_is, room_short, refused_answer, taken_answer}
use Rattle.lang.proofs.Filled.{refused_list}
use Rattle.c_values.specs.Telling.{kept}
use Rattle.c_values.proofs.Telling.{zeroed, listed}
use Rattle.repairs.specs.declared.Validated.{Validated}
use Rattle.repairs.specs.declared.Validated.TheVariants as validated
use Rattle.repairs.specs.Damaged.{Damaged}
use Rattle.repairs.specs.Warnings.{warnings_of}
use Rattle.repairs.specs.Repairs.{damaged_refusal, repaired_pairs_refusal}
use Rattle.repairs.specs.Asking.{ask_refusal, Asks}
use Rattle.repair_places.proofs.Left.{Left, Passed, passes_refusal, warnings_long, cleared, refused, passed}
use Rattle.repair_ask.specs.Told.{told}

-- ---- what is told, by the room

pub told_count : (left : ℤ) (n room : ℕ) → n ≤ room / 4 → Count n ≡ told (validated.Fixed left n) room
told_count left n room h = sym (ap (λ (t : Bool). cond t (Count n) (Refused 15)) (le-leb (4 * n) room (omega arith)))

pub told_short : (left : ℤ) (n room : ℕ) → room / 4 < n → Refused 15 ≡ told (validated.Fixed left n) room
told_short left n room h = sym (ap (λ (t : Bool). cond t (Count n) (Refused 15)) (lt-leb (4 * n) room (omega arith)))

-- ---- the whole

module _ (d : Damaged) (warnings : List ℤ) (work : List ℕ) (blank : List ℤ) (zeros : blank ≡ replicate (length warnings) (pos 0)) (l : Left d blank work)
    (written : Written) (out : List ℤ) (answered : written ≡ told l.mended (length l.lists.warnings))
    (keeps : out ≡ kept (written_reply written).number (pos 0) l.lists.warnings) where
  abbrev number : ℕ
  number = ask_refusal d (length warnings) (length work)

  number_is : number ≡ or_else (passes_refusal d work) (room_refusal (length (warnings_of d)) (length warnings))
  number_is = or_else_assoc (damaged_refusal d) (repaired_pairs_refusal d (length work)) (room_refusal (length (warnings_of d)) (length warnings))

  long : length l.lists.warnings ≡ length warnings
  long = warnings_long d blank work l ∙ ap length zeros ∙ length-replicate (length warnings) (pos 0)

  kept_by : (w : Written) → written ≡ w → out ≡ kept (written_reply w).number (pos 0) l.lists.warnings
  kept_by w is = keeps ∙ ap (λ (x : Written). kept (written_reply x).number (pos 0) l.lists.warnings) is

  with_number : (k : ℕ) → k ≡ number → (k ≡ 0 → ⊥) → written ≡ Refused k → Asks d warnings work written out l.lists.work
  with_number k e h is =
      let cleaned : out ≡ replicate (length warnings) (pos 0) = kept_by (Refused k) is ∙ sym (zeroed (pos 0) k l.lists.warnings h refl)
      ∙ ap (λ (n : ℕ). replicate n (pos 0)) long in
      record {
        answer = ap written_reply is ∙ refused_answer (length (warnings_of d) / 4) e h;
        warned = refused_list (pos 0) (length warnings) (warnings_of d) e h cleaned;
        cleared = cleared d blank work l;
      }

  -- refused by the passes
  by_passes : (k : ℕ) → l.mended ≡ validated.Refused k → Asks d warnings work written out l.lists.work
  by_passes k is =
      let x = refused d blank work l k is in
      with_number k (first_refusal _ x.0 x.1 ∙ sym number_is) x.1
      (answered ∙ ap (λ (v : Validated). told v (length l.lists.warnings)) is)

  -- refused by none of them
  module _ (left : ℤ) (n : ℕ) (is : l.mended ≡ validated.Fixed left n) where
    abbrev known : Passed d blank work l left n
    known = passed d blank work l left n is

    last : number ≡ room_refusal (length (warnings_of d)) (length warnings)
    last = number_is ∙ second_is (passes_refusal d work) _ known.none

    said : written ≡ told (validated.Fixed left n) (length warnings)
    said = answered ∙ (λ i. told (is i) (long i))

    by-room : (t : Bool) → leb (4 * n) (length warnings) ≡ t → Asks d warnings work written out l.lists.work
    by-room true e =
        let fits : length (warnings_of d) ≤ length warnings = omega (arith, known.all, leb-true (4 * n) (length warnings) e) in
        let none : number ≡ 0 = last ∙ room_is (length (warnings_of d)) (length warnings) fits in
        let count : written ≡ Count n = said ∙ ap (λ (t : Bool). cond t (Count n) (Refused 15)) e in
        record {
          answer = ap written_reply (count ∙ ap Count known.counted) ∙ taken_answer (length (warnings_of d) / 4) none;
          warned = listed (pos 0) (length warnings) (warnings_of d) none zeros fits (kept_by (Count n) count ∙ known.warned);
          cleared = cleared d blank work l;
        }
    by-room false e =
        let short : length warnings < length (warnings_of d) = omega (arith, known.all, leb-false (4 * n) (length warnings) e) in
        with_number 15 (sym (last ∙ room_short (length (warnings_of d)) (length warnings) short)) (λ z. omega (arith, z))
        (said ∙ ap (λ (t : Bool). cond t (Count n) (Refused 15)) e)

  pub asks : Asks d warnings work written out l.lists.work
  asks = by l.mended refl
    where
      by : (v : Validated) → l.mended ≡ v → Asks d warnings work written out l.lists.work
      by (validated.Refused k) e = by_passes k e
      by (validated.Fixed left n) e = by-room left n e (leb (4 * n) (length warnings)) refl
