-- Asking, and committing with what it told: two lists beside each other, the numbers of both calls, and what both leave together.
-- Assumes nothing.
use mathlib.Core.Path.{◌≡◌, refl, sym, ap, ◌∙◌, subst}
use mathlib.Core.Bool.{Bool, true, false}
use mathlib.Core.List.{List, [], ◌∷◌, ◌++◌}
use mathlib.Core.Logic.{◌↔◌, ◌⊎◌, inl, inr}
use Prim.Native.Nat.{ℕ, zero, suc, ◌*◌, ◌/◌, ◌%◌, ◌<◌, ◌≤◌}
use native.Mathlib.Omega.{arith}
use lib.IntN.{ℤ, pos, negsuc}
use lib.Dec.{leb, eqb}
use lib.ListN.{length, get_or, take}
use lib.Seq.{ext_get_or, take_at}
use borrow.Author.Tests.{eq-eqb, eqb-true, le-leb, leb-true}
use Rattle.lang.specs.declared.Written.TheVariants.{Count}
use Rattle.lang.specs.Every.{both, every}
use Rattle.lang.specs.Records.{count, is_instruction, absent_or}
use Rattle.lang.specs.Checks.{or_else, unless, size_refusal, program_refusal, kerns_refusal, entries_refusal, absent_refusal, entry_fits}
use Rattle.lang.specs.Answers.{Reply, reply_of, written_reply, list_of, padded, room_refusal}
use Rattle.lang.proofs.Every.{both_left, both_right, every_at, every_all}
use Rattle.lang.proofs.Refusals.{or_else_none, unless_none, room_is, taken_reply}
use Rattle.fonts.specs.Fonts.{pairs_of}
use Rattle.fonts.specs.Compiled.{loops_of_font}
use Rattle.repairs.specs.declared.Committed.{Committed}
use Rattle.repairs.specs.declared.Committed.TheVariants.{Fixed, Refused}
use Rattle.repairs.specs.declared.Validated.TheVariants as validated
use Rattle.repairs.specs.Damaged.{Damaged, repaired_left, repaired_passthrough}
use Rattle.repairs.specs.Repaired.{repaired_instructions, repaired_font}
use Rattle.repairs.specs.Warnings.{repair_warnings, loop_warnings, warnings_of}
use Rattle.repairs.specs.Repairs.{room_for, damaged_refusal, repaired_pairs_refusal, repair_refusal, Repairs}
use Rattle.repairs.specs.Asking.{ask_refusal, Asks}
use Rattle.repairs.specs.Committing.{same_number, starts_with, same_numbers, changed_refusal}
use Rattle.repairs.specs.Committing.{CommitRoom, commit_room, commit_room_refusal, commit_refusal, committed_reply, Commits}
use Rattle.repairs.specs.Purpose.{LeftAsItIs, NoneLower, CommittedBy, NothingChanged}
use Rattle.repairs.proofs.Pushing.{fours}

-- ---- two lists beside each other

number_equal : (x y : ℤ) → same_number x y ≡ true → x ≡ y
number_equal (pos m) (pos n) e = ap pos (eqb-true m n e)
number_equal (pos m) (negsuc n) e = cc
number_equal (negsuc m) (pos n) e = cc
number_equal (negsuc m) (negsuc n) e = ap negsuc (eqb-true m n e)

number_same : (x : ℤ) → same_number x x ≡ true
number_same (pos m) = eq-eqb m m refl
number_same (negsuc m) = eq-eqb m m refl

pub equal_same : (x y : ℤ) → x ≡ y → same_number x y ≡ true
equal_same x y e = ap (same_number x) (sym e) ∙ number_same x

pub differ_same : (x y : ℤ) → (x ≡ y → ⊥) → same_number x y ≡ false
differ_same x y h = by (same_number x y) refl
  where
    by : (t : Bool) → same_number x y ≡ t → t ≡ false
    by true e = absurd (h (number_equal x y e))
    by false e = refl

-- a list at the front of one that is as long is that one
starts_equal : (found handed : List ℤ) → length handed ≡ length found → starts_with found handed ≡ true → handed ≡ found
starts_equal found handed l e =
    ext_get_or (pos 0) handed found l
    (λ i h. number_equal (get_or handed i (pos 0)) (get_or found i (pos 0))
    (every_at (length handed) i (λ i. same_number (get_or handed i (pos 0)) (get_or found i (pos 0))) e h))

numbers_same : (l : List ℤ) → same_numbers l l ≡ true
numbers_same l =
    rw (
      eq-eqb (length l) (length l) refl,
      every_all (length l) (λ i. same_number (get_or l i (pos 0)) (get_or l i (pos 0))) (λ i h. number_same (get_or l i (pos 0))),
    )

pub same_when_equal : (handed found : List ℤ) → (same_numbers handed found ≡ true) ↔ (handed ≡ found)
same_when_equal handed found = (
  λ e.
      starts_equal found handed (eqb-true _ _ (both_left (eqb (length handed) (length found)) _ e))
      (both_right (eqb (length handed) (length found)) _ e),
  λ e. subst (λ (l : List ℤ). same_numbers handed l ≡ true) e (numbers_same handed),
)

-- ---- 25

pub changed_none : (d : Damaged) (handed : List ℤ) → handed ≡ warnings_of d → changed_refusal d handed ≡ 0
changed_none d handed e = ap (unless 25) ((same_when_equal handed (warnings_of d)).1 e)

equal_none : (d : Damaged) (handed : List ℤ) → changed_refusal d handed ≡ 0 → handed ≡ warnings_of d
equal_none d handed e = (same_when_equal handed (warnings_of d)).0 (unless_none 24 (same_numbers handed (warnings_of d)) e)

unless_other : (t : Bool) → (t ≡ true → ⊥) → unless 25 t ≡ 25
unless_other true h = absurd (h refl)
unless_other false h = refl

changed_is : (d : Damaged) (handed : List ℤ) → (handed ≡ warnings_of d → ⊥) → changed_refusal d handed ≡ 25
changed_is d handed h = unless_other (same_numbers handed (warnings_of d)) (λ e. h ((same_when_equal handed (warnings_of d)).0 e))

-- ---- the other numbers are lower

or_else_few : (m a b : ℕ) → a ≤ m → b ≤ m → or_else a b ≤ m
or_else_few m zero b h k = k
or_else_few m (suc a) b h k = h

unless_few : (m n : ℕ) (t : Bool) → n ≤ m → unless n t ≤ m
unless_few m n true h = omega arith
unless_few m n false h = h

damaged_few : (d : Damaged) → damaged_refusal d ≤ 15
damaged_few d =
    let s = d.instructions in
    let es = d.entries in
    or_else_few 15 (program_refusal s) _
    (or_else_few 15 (size_refusal s) _ (unless_few 15 1 (both (eqb (length s % 4) 0) (leb (count s) 32767)) (omega arith))
    (unless_few 15 2 (every (count s) (is_instruction s)) (omega arith)))
    (or_else_few 15 (kerns_refusal d.kerns) _ (unless_few 15 3 (leb (length d.kerns) 32767) (omega arith))
    (or_else_few 15 (entries_refusal 255 es) _ (unless_few 15 4 (both (eqb (length es % 2) 0) (every (length es / 2) (entry_fits 255 es))) (omega arith))
    (or_else_few 15 (absent_refusal 255 d.boundary) _ (unless_few 15 4 (absent_or 255 d.boundary) (omega arith))
    (or_else_few 15 (absent_refusal 65535 d.left) _ (unless_few 15 4 (absent_or 65535 d.left) (omega arith))
    (or_else_few 15 (unless 4 (leb d.replacement 255)) _ (unless_few 15 4 (leb d.replacement 255) (omega arith))
    (unless_few 15 4 (eqb (length d.passthrough) (count s)) (omega arith)))))))

room_few : (needed room : ℕ) → room_refusal needed room ≤ 15
room_few needed room = unless_few 15 15 (leb needed room) (omega arith)

pairs_few : (d : Damaged) (work : ℕ) → repaired_pairs_refusal d work ≤ 15
pairs_few d work = unless_few 15 12 (leb (length (pairs_of (repaired_font d))) (work / 16)) (omega arith)

module _ (d : Damaged) (handed : List ℤ) (room : CommitRoom) where
  -- 15
  rooms_few : commit_room_refusal d handed room ≤ 15
  rooms_few =
      let n = count d.instructions in
      or_else_few 15 (room_refusal (4 * n) room.instructions) _ (room_few (4 * n) room.instructions)
      (or_else_few 15 (room_refusal n room.passthrough) _ (room_few n room.passthrough) (room_few (length handed) room.found))

  -- where the number is 0, or above 15, no lower one holds
  pub none_lower : (commit_refusal d handed room ≡ 0) ⊎ (15 < commit_refusal d handed room) → NoneLower d handed room
  none_lower h =
      let a = first_none (damaged_refusal d) _ (damaged_few d) h in
      let b = first_none (repaired_pairs_refusal d room.work) _ (pairs_few d room.work) a.1 in
      let c = first_none (commit_room_refusal d handed room) _ rooms_few b.1 in
      record { font = a.0; pairs = b.0; lists = c.0 }
    where
      first_none : (a b : ℕ) → a ≤ 15 → (or_else a b ≡ 0) ⊎ (15 < or_else a b) → (a ≡ 0) × ((b ≡ 0) ⊎ (15 < b))
      first_none zero b h x = (refl, x)
      first_none (suc a) b h (inl x) = absurd (omega (arith, x))
      first_none (suc a) b h (inr x) = absurd (omega (arith, h, x))

  -- where no lower number holds, it is 25's
  pub as_changed : NoneLower d handed room → commit_refusal d handed room ≡ changed_refusal d handed
  as_changed n =
      ap (λ (k : ℕ). or_else k (or_else (repaired_pairs_refusal d room.work) (or_else (commit_room_refusal d handed room) (changed_refusal d handed)))) n.font
      ∙ ap (λ (k : ℕ). or_else k (or_else (commit_room_refusal d handed room) (changed_refusal d handed))) n.pairs
      ∙ ap (λ (k : ℕ). or_else k (changed_refusal d handed)) n.lists

-- ---- what is answered

-- the number and the left entry, from the answer
refused_as : (r k : ℕ) (v : ℤ) → committed_reply (Refused k) ≡ reply_of r (v ∷ []) → (k ≡ r) × (k ≡ 0 → ⊥)
refused_as zero k v e =
    let l : ◌≡◌ {A = ℕ} 0 1 = ap (λ (x : Reply). length x.values) e in
    absurd (omega arith)
refused_as (suc r) k v e =
    let l : k ≡ suc r = ap (λ (x : Reply). x.number) e in
    (l, λ z. omega arith)

fixed_as : (r : ℕ) (left v : ℤ) → committed_reply (Fixed left) ≡ reply_of r (v ∷ []) → (r ≡ 0) × (left ≡ v)
fixed_as zero left v e =
    let q : ◌≡◌ {A = List ℤ} (left ∷ []) (v ∷ []) = ap (λ (x : Reply). x.values) e in
    (refl, cc)
fixed_as (suc r) left v e =
    let l : ◌≡◌ {A = ℕ} 0 (suc r) = ap (λ (x : Reply). x.number) e in
    absurd (omega arith)

-- and the other way
taken_as : (k : ℕ) (v : ℤ) (r : Committed) → k ≡ 0 → committed_reply r ≡ reply_of k (v ∷ []) → r ≡ Fixed v
taken_as k v (Fixed left) z e = ap Fixed (fixed_as k left v e).1
taken_as k v (Refused n) z e = let x = refused_as k n v e in absurd (x.1 (x.0 ∙ z))

number_as : (k : ℕ) (v : ℤ) (r : Committed) → (k ≡ 0 → ⊥) → committed_reply r ≡ reply_of k (v ∷ []) → r ≡ Refused k
number_as k v (Fixed left) h e = absurd (h (fixed_as k left v e).0)
number_as k v (Refused n) h e = ap Refused (refused_as k n v e).0

module _ (d : Damaged) (handed : List ℤ) (room : CommitRoom) (r : Committed)
    (answer : committed_reply r ≡ reply_of (commit_refusal d handed room) (repaired_left d ∷ [])) where
  abbrev number : ℕ
  number = commit_refusal d handed room

  changed_lower : r ≡ Refused 25 → NoneLower d handed room × (handed ≡ warnings_of d → ⊥)
  changed_lower e =
      let k : 25 ≡ number = (refused_as number 25 (repaired_left d) (ap committed_reply (sym e) ∙ answer)).0 in
      let n = none_lower d handed room (inr (omega (arith, k))) in
      (n, λ same. let z : ◌≡◌ {A = ℕ} 25 0 = k ∙ as_changed d handed room n ∙ changed_none d handed same in omega (arith, z))

  lower_changed : NoneLower d handed room × (handed ≡ warnings_of d → ⊥) → r ≡ Refused 25
  lower_changed (n, h) =
      let k : number ≡ 25 = as_changed d handed room n ∙ changed_is d handed h in
      number_as number (repaired_left d) r (λ z. omega (arith, k, z)) answer ∙ ap Refused k

  taken_lower : (left : ℤ) → r ≡ Fixed left → NoneLower d handed room × (handed ≡ warnings_of d)
  taken_lower left e =
      let z : number ≡ 0 = (fixed_as number left (repaired_left d) (ap committed_reply (sym e) ∙ answer)).0 in
      let n = none_lower d handed room (inl z) in
      (n, equal_none d handed (sym (as_changed d handed room n) ∙ z))

  lower_taken : NoneLower d handed room × (handed ≡ warnings_of d) → r ≡ Fixed (repaired_left d)
  lower_taken (n, same) = taken_as number (repaired_left d) r (as_changed d handed room n ∙ changed_none d handed same) answer

  pub committed_by : CommittedBy d handed room r
  committed_by =
      record {
        changed = (changed_lower, lower_changed);
        taken = (λ x. taken_lower x.0 x.1, λ h. (repaired_left d, lower_taken h));
      }

-- ---- asked, and then committed

counted_as : (k n m : ℕ) → written_reply (Count n) ≡ reply_of k (pos m ∷ []) → (k ≡ 0) × (n ≡ m)
counted_as zero n m e =
    let q : ◌≡◌ {A = List ℤ} (pos n ∷ []) (pos m ∷ []) = ap (λ (x : Reply). x.values) e in
    (refl, cc)
counted_as (suc k) n m e =
    let l : ◌≡◌ {A = ℕ} 0 (suc k) = ap (λ (x : Reply). x.number) e in
    absurd (omega arith)

-- no fewer places hold the pairs
pairs_fit : (d : Damaged) (n m : ℕ) → n ≤ m → repaired_pairs_refusal d n ≡ 0 → repaired_pairs_refusal d m ≡ 0
pairs_fit d n m h e =
    let p = length (pairs_of (repaired_font d)) in
    let few : p ≤ n / 16 = leb-true p (n / 16) (unless_none 11 (leb p (n / 16)) e) in
    ap (unless 12) (le-leb p (m / 16) (omega arith))

module _ (d : Damaged) (warnings : List ℤ) (work : List ℕ) (n : ℕ) (warnings' : List ℤ) (work' : List ℕ)
    (asks : Asks d warnings work (Count n) warnings' work') where
  abbrev asked : ℕ
  asked = ask_refusal d (length warnings) (length work)

  told : (asked ≡ 0) × (n ≡ length (warnings_of d) / 4)
  told = counted_as asked n _ asks.answer

  all : 4 * n ≡ length (warnings_of d)
  all = omega (arith, told.1, fours d)

  written : warnings' ≡ padded (pos 0) (length warnings) (warnings_of d)
  written = asks.warned ∙ ap (λ (k : ℕ). list_of k (pos 0) (length warnings) (warnings_of d)) told.0

  -- cut to its count the list is the warnings
  cut : take (4 * n) warnings' ≡ warnings_of d
  cut = ap (take (4 * n)) written ∙ take_at (warnings_of d) _ (4 * n) (sym all)

  sound : damaged_refusal d ≡ 0
  sound = (or_else_none (damaged_refusal d) _ told.0).0

  pairs_held : repaired_pairs_refusal d (length work) ≡ 0
  pairs_held = (or_else_none (repaired_pairs_refusal d (length work)) _ (or_else_none (damaged_refusal d) _ told.0).1).0

  warnings_held : room_refusal (length (warnings_of d)) (length warnings) ≡ 0
  warnings_held = (or_else_none (repaired_pairs_refusal d (length work)) _ (or_else_none (damaged_refusal d) _ told.0).1).1

  module _ (fixed : List ℤ) (through : List ℕ) (found : List ℤ) (later : List ℕ) (r : Committed) (fixed' : List ℤ) (through' : List ℕ) (found' : List ℤ)
      (later' : List ℕ) (commits : Commits d (take (4 * n) warnings') fixed through found later r fixed' through' found' later')
      (long : 4 * count d.instructions ≤ length fixed) (bytes : count d.instructions ≤ length through) (places : 4 * n ≤ length found)
      (rows : length work ≤ length later) where
    abbrev room : CommitRoom
    room = commit_room fixed through found later

    lower : NoneLower d (take (4 * n) warnings') room
    lower =
        let few : length (take (4 * n) warnings') ≤ length found = omega (arith, ap length cut, all) in
        record {
          font = sound;
          pairs = pairs_fit d (length work) (length later) rows pairs_held;
          lists = rw (room_is _ _ long, room_is _ _ bytes, room_is _ _ few);
        }

    none : commit_refusal d (take (4 * n) warnings') room ≡ 0
    none = as_changed d (take (4 * n) warnings') room lower ∙ changed_none d _ cut

    -- the whole repair is not refused either
    whole : repair_refusal d (room_for fixed through warnings later) ≡ 0
    whole = rw (sound, lower.pairs, room_is _ _ long, room_is _ _ bytes, warnings_held)

    pub in_two : (r ≡ Fixed (repaired_left d)) × Repairs d fixed through warnings later (validated.Fixed (repaired_left d) n) fixed' through' warnings' later'
    in_two = (
      taken_as _ (repaired_left d) r none commits.answer,
      record {
        answer = ap (λ (m : ℕ). reply_of 0 (repaired_left d ∷ pos m ∷ [])) told.1 ∙ taken_reply _ whole;
        instructions =
            commits.instructions ∙ ap (λ (k : ℕ). list_of k (pos 0) (length fixed) (repaired_instructions d)) (none ∙ sym whole);
        passthrough = commits.passthrough ∙ ap (λ (k : ℕ). list_of k 0 (length through) (repaired_passthrough d)) (none ∙ sym whole);
        warned = asks.warned ∙ ap (λ (k : ℕ). list_of k (pos 0) (length warnings) (warnings_of d)) (told.0 ∙ sym whole);
        cleared = commits.cleared;
      },
    )

-- ---- nothing to repair

-- no warnings are no warnings of kinds 1 to 9
none_first : (xs ys : List ℤ) → xs ++ ys ≡ [] → xs ≡ []
none_first [] ys e = refl
none_first (x ∷ xs) ys e = cc

pub no_repair_warnings : (d : Damaged) → warnings_of d ≡ [] → repair_warnings d ≡ []
no_repair_warnings d e = none_first (repair_warnings d) (loop_warnings (loops_of_font (repaired_font d))) e

module _ (d : Damaged) (handed fixed : List ℤ) (through : List ℕ) (found : List ℤ) (work : List ℕ) (left : ℤ) (fixed' : List ℤ) (through' : List ℕ)
    (found' : List ℤ) (work' : List ℕ) (commits : Commits d handed fixed through found work (Fixed left) fixed' through' found' work') where
  abbrev lent : CommitRoom
  lent = commit_room fixed through found work

  -- taken: the number is 0, and the left entry is the repaired one
  answered : (commit_refusal d handed lent ≡ 0) × (left ≡ repaired_left d)
  answered = fixed_as (commit_refusal d handed lent) left (repaired_left d) commits.answer

  pub nothing_changed : warnings_of d ≡ [] → (program_refusal d.instructions ≡ 0 → LeftAsItIs d) → NothingChanged d handed fixed fixed' left
  nothing_changed e as-it-is =
      let none = none_lower d handed lent (inl answered.0) in
      let same = equal_none d handed (sym (as_changed d handed lent none) ∙ answered.0) in
      let kept = as-it-is (or_else_none (program_refusal d.instructions) _ none.font).0 in
      record {
        empty = same ∙ e;
        entry = answered.1 ∙ kept.left;
        instructions =
            commits.instructions
            ∙ (λ i. list_of (answered.0 i) (pos 0) (length fixed) (kept.instructions i));
      }
