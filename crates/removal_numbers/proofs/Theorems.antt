-- What a removal brings (specs/Purpose): it leaves an instruction where it was, and its pairs are among those of the font.
-- Assumes nothing.
use mathlib.Core.Path.{◌≡◌, refl, sym, ap, ◌∙◌}
use mathlib.Core.Bool.{Bool, true, false, cond}
use mathlib.Core.List.{List, [], ◌∷◌, ◌++◌}
use mathlib.Core.Option.{Option, none, some}
use Prim.Native.Nat.{ℕ, zero, suc, ◌+◌, ◌*◌, ◌/◌, ◌%◌, ◌<◌, ◌≤◌}
use native.Mathlib.Decide.{ℕ_discrete}
use native.Mathlib.Omega.{arith}
use lib.IntN.{ℤ, pos}
use lib.Dec.{ltb, leb, eqb}
use lib.ListN.{length, get_or, set, length-set, length-append}
use lib.Seq.{get_or-set_same, get_or-set_other}
use borrow.Author.Tests.{lt-ltb, leb-true, le-leb, eq-eqb}
use Rattle.words.specs.Words.{word_of}
use Rattle.lang.specs.Every.{both, every}
use Rattle.lang.specs.Records.{count, field, within, absent_or, operand_fits, is_instruction}
use Rattle.lang.specs.Checks.{unless, or_else, size_refusal, record_refusal, program_refusal, kerns_refusal, entries_refusal, absent_refusal, design_refusal}
use Rattle.lang.specs.Answers.{room_refusal}
use Rattle.lang.proofs.Every.{both_left, both_right, every_all}
use Rattle.lang.proofs.Refusals.{or_else_none, unless_none, program_record}
use Rattle.reading.specs.Items.{Left}
use Rattle.reading.specs.Loops.{Ruled}
use Rattle.fonts.specs.Fonts.{Font, table_of, left_of, index_of, ruled_by, row_pairs, left_pairs, pairs_of}
use Rattle.fonts.specs.Compiled.{Room, loops_of_font, font_refusal, pairs_refusal, ops_refusal, loops_refusal, sized_refusal, all_scale, total_ops}
use Rattle.removals.specs.Removed.{without_instruction, font_without}
use Rattle.removals.specs.Purpose.{rule_without}
use Rattle.removals.proofs.Passing.{rules_without}
use Rattle.removal_numbers.specs.Purpose.{PairsAmong, Brings, nothing, bad_kern, more_ops, a_loop, NumbersBrought}

-- ---- the pairs

module _ (f : Font) (i : ℕ) (h : i < count f.instructions) where
  abbrev s : List ℤ
  s = f.instructions

  abbrev t : List ℤ
  t = without_instruction f.instructions i

  rule_none : (l : Left) (r : ℕ) → index_of s (table_of f) l r ≡ none → index_of t (table_of f) l r ≡ none
  rule_none l r e = rules_without f i h l r ∙ ap (rule_without s i r) e

  fewer_by : (l : Left) (r : ℕ) (x y : Option ℕ) → (x ≡ none → y ≡ none) → length (ruled_by l r y) ≤ length (ruled_by l r x)
  fewer_by l r none y k = rw (k refl) (omega arith)
  fewer_by l r (some a) none k = omega arith
  fewer_by l r (some a) (some b) k = omega arith

  fewer_row : (l : Left) (n : ℕ) → length (row_pairs t (table_of f) l n) ≤ length (row_pairs s (table_of f) l n)
  unfolding row_pairs
  fewer_row l zero = omega arith
  fewer_row l (suc r) =
      omega (
        arith,
        length-append (row_pairs t (table_of f) l r) (ruled_by l r (index_of t (table_of f) l r)),
        length-append (row_pairs s (table_of f) l r) (ruled_by l r (index_of s (table_of f) l r)),
        fewer_row l r,
        fewer_by l r (index_of s (table_of f) l r) (index_of t (table_of f) l r) (rule_none l r),
      )

  fewer_left : (n : ℕ) → length (left_pairs t (table_of f) n) ≤ length (left_pairs s (table_of f) n)
  unfolding left_pairs
  fewer_left zero = omega arith
  fewer_left (suc n) =
      omega (
        arith,
        length-append (left_pairs t (table_of f) n) (row_pairs t (table_of f) (left_of n) 256),
        length-append (left_pairs s (table_of f) n) (row_pairs s (table_of f) (left_of n) 256),
        fewer_left n,
        fewer_row (left_of n) 256,
      )

  -- ---- the instructions

  long : length t ≡ length s
  long = length-set (set s (4 * i + 2) (pos 3)) (4 * i + 3) (pos 0) ∙ length-set s (4 * i + 2) (pos 3)

  count_same : count t ≡ count s
  count_same = ap (λ (n : ℕ). n / 4) long

  number_kept : (k : ℕ) → (k ≡ 4 * i + 2 → ⊥) → (k ≡ 4 * i + 3 → ⊥) → get_or t k (pos 0) ≡ get_or s k (pos 0)
  number_kept k a b =
      get_or-set_other (set s (4 * i + 2) (pos 3)) (4 * i + 3) k (pos 0) (pos 0) b ∙ get_or-set_other s (4 * i + 2) k (pos 3) (pos 0) a

  field_kept : (j k : ℕ) → (4 * j + k ≡ 4 * i + 2 → ⊥) → (4 * j + k ≡ 4 * i + 3 → ⊥) → field t j k ≡ field s j k
  field_kept j k a b = λ x. cond (ltb j (count_same x)) (number_kept (4 * j + k) a b x) (pos 0)

  -- a number of the removed instruction
  field_at : (k : ℕ) (z : ℤ) → get_or t (4 * i + k) (pos 0) ≡ z → field t i k ≡ z
  field_at k z e =
      (λ x. cond (ltb i (count_same x)) (get_or t (4 * i + k) (pos 0)) (pos 0))
      ∙ ap (λ (b : Bool). cond b (get_or t (4 * i + k) (pos 0)) (pos 0)) (lt-ltb i (count s) h) ∙ e

  kind_three : field t i 2 ≡ pos 3
  kind_three =
      field_at 2 (pos 3)
      (get_or-set_other (set s (4 * i + 2) (pos 3)) (4 * i + 3) (4 * i + 2) (pos 0) (pos 0) (λ e. omega (arith, e))
      ∙ get_or-set_same s (4 * i + 2) (pos 3) (pos 0) (omega (arith, h)))

  operand_none : field t i 3 ≡ pos 0
  operand_none =
      field_at 3 (pos 0)
      (get_or-set_same (set s (4 * i + 2) (pos 3)) (4 * i + 3) (pos 0) (pos 0) (omega (arith, h, length-set s (4 * i + 2) (pos 3))))

  module _ (taken : program_refusal s ≡ 0) where
    record_by : (j : ℕ) → j < count s → Dec (j ≡ i) → is_instruction t j ≡ true
    record_by j l (yes e) =
        let was = program_record s taken i h in
        let next = both_left (absent_or 255 (field s i 0)) _ was in
        let right = both_left (within 255 (field s i 1)) _ (both_right (absent_or 255 (field s i 0)) _ was) in
        rw e
        ((λ x. both (absent_or 255 (field_kept i 0 (λ z. omega (arith, z)) (λ z. omega (arith, z)) x))
        (both (within 255 (field_kept i 1 (λ z. omega (arith, z)) (λ z. omega (arith, z)) x))
        (operand_fits (word_of (kind_three x)) (operand_none x))))
        ∙ rw (next, right))
    record_by j l (no ne) =
        (λ x. both (absent_or 255 (field_kept j 0 (λ e. ne (omega (arith, e))) (λ e. ne (omega (arith, e))) x))
        (both (within 255 (field_kept j 1 (λ e. ne (omega (arith, e))) (λ e. ne (omega (arith, e))) x))
        (operand_fits (word_of (field_kept j 2 (λ e. ne (omega (arith, e))) (λ e. ne (omega (arith, e))) x))
        (field_kept j 3 (λ e. ne (omega (arith, e))) (λ e. ne (omega (arith, e))) x))))
        ∙ program_record s taken j l

    program_taken : program_refusal t ≡ 0
    program_taken =
        let size : size_refusal t ≡ 0 = (λ x. unless 1 (both (eqb (long x % 4) 0) (leb (count_same x) 32767)))
        ∙ (or_else_none (size_refusal s) (record_refusal s) taken).0 in
        let all : every (count t) (is_instruction t) ≡ true =
        every_all (count t) (is_instruction t) (λ j l. record_by j (omega (arith, l, count_same)) (ℕ_discrete j i)) in
        let records : record_refusal t ≡ 0 = ap (unless 2) all in
        rw (size, records)

pub pairs_among : PairsAmong
pairs_among f i h = (rule_none f i h, fewer_left f i h 257)

-- ---- the numbers

font_taken : (f : Font) (i : ℕ) → i < count f.instructions → font_refusal f ≡ 0 → font_refusal (font_without f i) ≡ 0
font_taken f i h e =
    let others = or_else (kerns_refusal f.kerns)
    (or_else (entries_refusal 65535 f.entries)
    (or_else (absent_refusal 255 f.boundary) (or_else (absent_refusal 65535 f.left) (design_refusal f.design)))) in
    let q = or_else_none (program_refusal f.instructions) others e in
    ap (λ (n : ℕ). or_else n others) (program_taken f i h q.0) ∙ q.1

few_by : (a b m n : ℕ) (t : Bool) → a ≤ b → both (leb b m) (leb b n) ≡ true → both (leb a m) (leb a n) ≡ true
few_by a b m n t l e =
    rw (le-leb a m (omega (arith, l, leb-true b m (both_left (leb b m) _ e))), le-leb a n (omega (arith, l, leb-true b n (both_right (leb b m) _ e))))

pairs_taken : (f : Font) (room : Room) (i : ℕ) → i < count f.instructions → pairs_refusal f room ≡ 0 → pairs_refusal (font_without f i) room ≡ 0
pairs_taken f room i h e =
    ap (λ (b : Bool). cond b 0 12)
    (few_by (length (pairs_of (font_without f i))) (length (pairs_of f)) (room.work / 16) (room.pairs / 6) true (pairs_among f i h).1
    (unless_none 11 (both (leb (length (pairs_of f)) (room.work / 16)) (leb (length (pairs_of f)) (room.pairs / 6))) e))

module _ (g : Font) (room : Room) where
  loop_by : (b : Bool) → leb (2 * length (loops_of_font g)) room.loops ≡ b → Brings g (or_else (cond b 0 15) 0)
  loop_by true e = nothing refl
  loop_by false e = a_loop refl (no_room (length (loops_of_font g)) e)
    where
      no_room : (n : ℕ) → leb (2 * n) room.loops ≡ false → 0 < n
      no_room zero q =
          absurd
          (let z : ◌≡◌ {A = Bool} true false = sym (le-leb 0 room.loops (omega arith)) ∙ q in let w : ◌≡◌ {A = ℕ} 0 1 = cc in omega arith)
      no_room (suc n) q = omega arith

  ops_by : (b : Bool) → Brings g (or_else (loops_refusal g room) 0) → Brings g (or_else (or_else (cond b 0 14) (loops_refusal g room)) 0)
  ops_by true h = h
  ops_by false h = more_ops refl

  kern_by_lem : (b : Bool) → Brings g (or_else (or_else (ops_refusal g room) (loops_refusal g room)) 0) →
      Brings g (or_else (or_else (cond b 0 13) (or_else (ops_refusal g room) (loops_refusal g room))) 0)
  kern_by_lem true h = h
  kern_by_lem false h = bad_kern refl

  brings : font_refusal g ≡ 0 → pairs_refusal g room ≡ 0 → Brings g (sized_refusal g room 0)
  brings e p =
      rw (e, p)
      (kern_by_lem (all_scale g)
      (ops_by (both (leb (total_ops g) 2147483647) (leb (2 * total_ops g) room.ops))
      (loop_by (leb (2 * length (loops_of_font g)) room.loops) refl)))

pub numbers_brought : NumbersBrought
numbers_brought f room i h e p = brings (font_without f i) room (font_taken f i h e) (pairs_taken f room i h p)
