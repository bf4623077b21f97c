-- What committing answers and leaves: refused by the passes (1 to 4, 12) or after them (15, 25); or taken.
-- Assumes nothing.
use mathlib.Core.Path.{◌≡◌, refl, sym, ap, ◌∙◌}
use mathlib.Core.List.{List, [], ◌∷◌}
use Prim.Native.Nat.{ℕ, zero, suc, ◌*◌, ◌≤◌}
use native.Mathlib.Omega.{arith}
use lib.IntN.{ℤ, pos}
use lib.ListN.{length, replicate}
use Rattle.lang.specs.Records.{count}
use Rattle.lang.specs.Checks.{or_else}
use Rattle.lang.specs.Answers.{reply_of, list_of, room_refusal}
use Rattle.lang.proofs.Refusals.{or_else_none, or_else_assoc, second_is, first_is, room_fits, refused_reply}
use Rattle.lang.proofs.Filled.{refused_list}
use Rattle.c_values.proofs.Telling.{listed}
use Rattle.repairs.specs.declared.Validated.{Validated}
use Rattle.repairs.specs.declared.Validated.TheVariants as validated
use Rattle.repairs.specs.declared.Committed.{Committed}
use Rattle.repairs.specs.declared.Committed.TheVariants.{Fixed, Refused}
use Rattle.repairs.specs.Damaged.{Damaged, program_of, repaired_left, repaired_passthrough}
use Rattle.repairs.specs.Repaired.{repaired_instructions}
use Rattle.repairs.specs.Warnings.{warnings_of}
use Rattle.repairs.specs.Repairs.{damaged_refusal, repaired_pairs_refusal}
use Rattle.repairs.specs.Committing.{changed_refusal, CommitRoom, commit_room, commit_room_refusal, commit_refusal, committed_reply, Commits}
use Rattle.repairs.proofs.Steps.{length_upto}
use Rattle.repair_loops.specs.WarnsLoops.{if_taken}
use Rattle.repair_loops.proofs.Laws.{if_refused}
use Rattle.repair_passes.proofs.Sizes.{size, length_passthrough}
use Rattle.repair_places.specs.Writing.{over_zeros, WritesRepaired}
use Rattle.repair_places.proofs.Left.{Left, Passed, passes_refusal, warnings_long, cleared, refused, passed}
use Rattle.repair_commit_refusals.specs.Numbers.{lower_refusal, differ_refusal, finish_refusal}
use Rattle.repair_commit_refusals.proofs.Comparing.{beside_warnings}
use Rattle.repair_commit.specs.Finishing.{committed_as}

-- ---- of plain values

if_taken_lem : {A : Type 0} {k : ℕ} → k ≡ 0 → (x y : A) → x ≡ if_taken k x y
if_taken_lem z x y = ap (λ (j : ℕ). if_taken j x y) (sym z)

-- ---- what is answered

pub finished_refused : (left : ℤ) (n number : ℕ) → (number ≡ 0 → ⊥) → Refused number ≡ committed_as (validated.Fixed left n) number
finished_refused left n number h = sym (if_refused number (Fixed left) (Refused number) h)

pub finished_taken : (left : ℤ) (n number : ℕ) → number ≡ 0 → Fixed left ≡ committed_as (validated.Fixed left n) number
finished_taken left n number z = if_taken_lem z (Fixed left) (Refused number)

-- the answer by the number
by_number : (k : ℕ) (left : ℤ) → committed_reply (if_taken k (Fixed left) (Refused k)) ≡ reply_of k (left ∷ [])
by_number zero left = refl
by_number (suc k) left = refl

-- the later of two numbers counts only where the first is 0
later_is : (a b b' : ℕ) → (a ≡ 0 → b ≡ b') → or_else a b ≡ or_else a b'
later_is zero b b' f = f refl
later_is (suc a) b b' f = refl

-- a list that is written over zeros, where it fits
pub over_is : {A : Type 0} (o : A) (n : ℕ) (xs : List A) (k : ℕ) → (k ≡ 0 → length xs ≤ n) → over_zeros k o n xs ≡ list_of k o n xs
over_is o n xs zero fits = listed o n xs {m = 0} refl refl (fits refl) refl
over_is o n xs (suc k) fits = refl

-- ---- the whole

-- what the passes left, the number, the lists and the answer
pub record Course (d : Damaged) (handed fixed : List ℤ) (through : List ℕ) (found : List ℤ) (work : List ℕ) : Type 0 where
  pub left : Left d found work
  pub places : ℕ
  pub places_are : count d.instructions ≤ 32767 → places ≡ count d.instructions
  pub number : ℕ
  pub number_is : number ≡ finish_refusal left.mended (4 * places) places handed (length fixed) (length through) left.lists.warnings
  pub fixed' : List ℤ
  pub through' : List ℕ
  pub writes : WritesRepaired number left.lists.program left.lists.through fixed through fixed' through'
  pub found' : List ℤ
  pub emptied : found' ≡ replicate (length left.lists.warnings) (pos 0)
  pub answer : Committed
  pub answers : answer ≡ committed_as left.mended number

module _ (d : Damaged) (handed fixed : List ℤ) (through : List ℕ) (found : List ℤ) (work : List ℕ) (c : Course d handed fixed through found work) where
  abbrev room : CommitRoom
  room = commit_room fixed through found work

  abbrev due : ℕ
  due = commit_refusal d handed room

  abbrev Done : Type 0
  Done = Commits d handed fixed through found work c.answer c.fixed' c.through' c.found' c.left.lists.work

  due_is : due ≡ or_else (passes_refusal d work) (or_else (commit_room_refusal d handed room) (changed_refusal d handed))
  due_is = or_else_assoc (damaged_refusal d) (repaired_pairs_refusal d (length work)) (or_else (commit_room_refusal d handed room) (changed_refusal d handed))

  all_empty : c.found' ≡ replicate (length found) (pos 0)
  all_empty = c.emptied ∙ ap (λ (n : ℕ). replicate n (pos 0)) (warnings_long d found work c.left)

  -- refused by the passes
  by_passes : (k : ℕ) → c.left.mended ≡ validated.Refused k → Done
  by_passes k is =
      let x = refused d found work c.left k is in
      let first : or_else k (differ_refusal handed c.left.lists.warnings 0) ≡ k = first_is k _ x.1 in
      let same : c.number ≡ k = c.number_is
      ∙ ap (λ (v : Validated). finish_refusal v (4 * c.places) c.places handed (length fixed) (length through) c.left.lists.warnings) is
      ∙ first in
      let e : k ≡ due = x.0 ∙ sym (due_is ∙ first_is (passes_refusal d work) _ (λ z. x.1 (x.0 ∙ z))) in
      let ne : c.number ≡ 0 → ⊥ = λ z. x.1 (sym same ∙ z) in
      record {
        answer = ap committed_reply (c.answers ∙ ap (λ (v : Validated). committed_as v c.number) is) ∙ refused_reply _ e x.1;
        instructions = refused_list _ _ (repaired_instructions d) e x.1 (c.writes.instructions ∙ if_refused c.number _ _ ne);
        passthrough = refused_list _ _ (repaired_passthrough d) e x.1 (c.writes.passthrough ∙ if_refused c.number _ _ ne);
        emptied = all_empty;
        cleared = cleared d found work c.left;
      }

  -- refused by none of them
  module _ (left : ℤ) (n : ℕ) (is : c.left.mended ≡ validated.Fixed left n) where
    abbrev known : Passed d found work c.left left n
    known = passed d found work c.left left n is

    abbrev steps : ℕ
    steps = count d.instructions

    few : steps ≤ 32767
    few = size d (or_else_none (damaged_refusal d) _ known.none).0

    -- 15, as it is asked
    rooms : lower_refusal (validated.Fixed left n) (4 * c.places) c.places (length handed) (length fixed) (length through)
        (length c.left.lists.warnings)
        ≡ commit_room_refusal d handed room
    rooms =
        let p = c.places_are few in
        let w = warnings_long d found work c.left in
        λ i. or_else (room_refusal (4 * p i) (length fixed)) (or_else (room_refusal (p i) (length through)) (room_refusal (length handed) (w i)))

    -- 25, where 15 does not hold
    changed : commit_room_refusal d handed room ≡ 0 → differ_refusal handed c.left.lists.warnings n ≡ changed_refusal d handed
    changed z =
        let x = or_else_none (room_refusal (4 * steps) (length fixed)) _ z in
        let fits = room_fits (length handed) (length found) (or_else_none (room_refusal steps (length through)) _ x.1).1 in
        ap (λ (l : List ℤ). differ_refusal handed l n) known.warned
        ∙ beside_warnings (warnings_of d) found handed n known.all fits

    same : c.number ≡ due
    same =
        c.number_is
        ∙ ap (λ (v : Validated). finish_refusal v (4 * c.places) c.places handed (length fixed) (length through) c.left.lists.warnings) is
        ∙ ap (λ (k : ℕ). or_else k (differ_refusal handed c.left.lists.warnings n)) rooms
        ∙ later_is (commit_room_refusal d handed room) _ _ changed
        ∙ sym (due_is ∙ second_is (passes_refusal d work) _ known.none)

    -- the lists are long enough where it is 0
    fits : due ≡ 0 → (length (repaired_instructions d) ≤ length fixed) × (length (repaired_passthrough d) ≤ length through)
    fits e =
        let later = (or_else_none (passes_refusal d work) _ (sym due_is ∙ e)).1 in
        let x = or_else_none (room_refusal (4 * steps) (length fixed)) _ (or_else_none (commit_room_refusal d handed room) _ later).0 in (
          omega (arith, room_fits (4 * steps) _ x.0, length_upto (program_of d) steps),
          omega (arith, room_fits steps _ (or_else_none (room_refusal steps (length through)) _ x.1).0, length_passthrough d),
        )

    by-lists : Done
    by-lists =
        record {
          answer =
              ap committed_reply (c.answers ∙ (λ i. committed_as (is i) (same i))) ∙ by_number due left ∙ ap (λ (z : ℤ). reply_of due (z ∷ [])) known.entry;
          instructions =
              c.writes.instructions ∙ (λ i. over_zeros (same i) (pos 0) (length fixed) (known.instructions i))
              ∙ over_is (pos 0) (length fixed) (repaired_instructions d) due (λ e. (fits e).0);
          passthrough =
              c.writes.passthrough ∙ (λ i. over_zeros (same i) 0 (length through) (known.passthrough i))
              ∙ over_is 0 (length through) (repaired_passthrough d) due (λ e. (fits e).1);
          emptied = all_empty;
          cleared = cleared d found work c.left;
        }

  pub commits : Done
  commits = by c.left.mended refl
    where
      by : (v : Validated) → c.left.mended ≡ v → Done
      by (validated.Refused k) e = by_passes k e
      by (validated.Fixed left n) e = by-lists left n e
