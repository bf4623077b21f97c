-- `reach::reachable_iter` meets its contract. A program that is not refused has at most as many instructions as the local array has
-- places, so the marks are its front, and the output is two numbers for each instruction and the zeros behind them. Assumes nothing.
use mathlib.Core.Path.{◌≡◌, sym, ap, ◌∙◌}
use mathlib.Core.List.{List, ◌++◌}
use Prim.Native.Nat.{ℕ, ◌*◌, ◌≤◌}
use native.Mathlib.Omega.{arith}
use lib.IntN.{ℤ, pos}
use lib.ListN.{length, take, drop, replicate, length-append}
use lib.Seq.{length-take-le, take_at}
use borrow.Author.Rules.{rules}
use Rattle.words.specs.Words.{number_of, word_of}
use Rattle.words.specs.Lists.{tabulate}
use Rattle.words.proofs.Bits.{number_word}
use Rattle.lang.specs.Records.{count}
use Rattle.lang.specs.Checks.{program_refusal, entries_refusal, absent_refusal, passthrough_refusal}
use Rattle.lang.specs.Answers.{list_of}
use Rattle.reach_marks.specs.Marks.{reachable}
use Rattle.reach_marks.proofs.Marks.{marks_whole}
use Rattle.reach.specs.Reach.{reach_number, reach_list, reach_refusal}
use Rattle.lang.proofs.Refusals.{or_else_none, program_size, room_fits, refused_answer, taken_answer}
use Rattle.lang.proofs.Filled.{refused_list, written_list}
use Rattle.reach.proofs.reachable_iter.Statement.{statement}
use Rattle.reach.proofs.reachable_iter.Tie as tie

-- of lists and numbers alone

same_refusal : (s es : List ℤ) (left left' : ℤ) (p : List ℕ) (n n' r : ℕ) → r ≡ reach_refusal s es left' p n' → left' ≡ left → n' ≡ n →
    r ≡ reach_refusal s es left p n
same_refusal s es left left' p n n' r e f g = e ∙ ap (λ (z : ℤ). reach_refusal s es z p n') f ∙ ap (λ (k : ℕ). reach_refusal s es left p k) g

program_fits : (s es : List ℤ) (left : ℤ) (p : List ℕ) (n : ℕ) → reach_refusal s es left p n ≡ 0 → count s ≤ 32767
program_fits s es left p n e = program_size s (or_else_none (program_refusal s) _ e).0

enough : (s es : List ℤ) (left : ℤ) (p : List ℕ) (n : ℕ) → reach_refusal s es left p n ≡ 0 → 2 * count s ≤ n
enough s es left p n e =
    room_fits (2 * count s) n
    (or_else_none (passthrough_refusal p s) _
    (or_else_none (absent_refusal 65535 left) _ (or_else_none (entries_refusal 65535 es) _ (or_else_none (program_refusal s) _ e).1).1).1).1

front_length : (n : ℕ) (m q : List ℕ) → length m ≡ n → length (take n (m ++ drop n q)) ≡ n
front_length n m q l = ap length (take_at m (drop n q) n l) ∙ l

written : (s es : List ℤ) (left : ℤ) (p m : List ℕ) (n : ℕ) (out₁ out₂ : List ℤ) → reach_refusal s es left p n ≡ 0 → m ≡ reachable s es left →
    out₁ ≡ replicate n (pos 0) → out₂ ≡ tabulate (2 * count s) (reach_number s m p) ++ drop (2 * count s) out₁ →
    out₂ ≡ list_of (reach_refusal s es left p n) (pos 0) n (reach_list s es left p)
written s es left p m n out₁ out₂ z e f g =
    written_list (pos 0) n (2 * count s) (reach_number s (reachable s es left) p) z f
    (g ∙ ap (λ (k : List ℕ). tabulate (2 * count s) (reach_number s k p) ++ drop (2 * count s) out₁) e)

-- what is known at a place

refusal_is : (c : tie.After-reach_refusal-refusal) → let a = c.args in
    c.reach_refusal-refusal.result ≡ reach_refusal a.instructions.now a.entries.now a.left_entry a.passthrough.now (length a.out.now)
refusal_is c =
    same_refusal c.args.instructions.now c.args.entries.now c.args.left_entry (number_of (word_of c.args.left_entry))
    c.args.passthrough.now (length c.args.out.now) (length c.zero_all.new.s) _
    c.reach_refusal-refusal.ensures
    (number_word c.args.left_entry c.ranges.left_entry)
    c.zero_all.auto.s

none-holds : (c : tie.Else-refusal-ne0) → let a = c.args in
    reach_refusal a.instructions.now a.entries.now a.left_entry a.passthrough.now (length a.out.now) ≡ 0
none-holds c = sym (refusal_is c.before) ∙ c.if-refusal-ne0.false

places-enough : (c : tie.After-places-marks) → count c.args.instructions.now ≤ length c.places-marks.result
places-enough c =
    let a = c.args in
    omega (
      arith,
      c.places-marks.ensures,
      program_fits a.instructions.now a.entries.now a.left_entry a.passthrough.now (length a.out.now) (none-holds c.before),
    )

-- the marks: as many as there are instructions
marks-length : (c : tie.After-reachable_array) →
    length c.reachable_array.new.marks ≡ count c.args.instructions.now
marks-length c =
    c.reachable_array.auto.marks
    ∙ length-take-le (count c.args.instructions.now)
    c.places-marks.result (places-enough c.before.before)

front : (c : tie.After-reachable_array) → let n = count c.args.instructions.now in
    length (take n (c.reachable_array.new.marks ++ drop n c.places-marks.result)) ≡ n
front c =
    front_length (count c.args.instructions.now)
    c.reachable_array.new.marks c.places-marks.result (marks-length c)

zero-all-requires : tie.Need-zero_all-requires
zero-all-requires c κs = search rules

reach-refusal-requires : tie.Need-reach_refusal-refusal-requires
reach-refusal-requires c κs = search rules

same_length : tie.Need-shape_of-out-then-refusal-ne0
same_length c = search rules

returns : tie.Need-returns-then-refusal-ne0
returns c =
    let a = c.args in
    let e = refusal_is c.before in
    record {
      answer = refused_answer (count a.instructions.now) e c.if-refusal-ne0.true;
      list =
          refused_list (pos 0) (length a.out.now) (reach_list a.instructions.now a.entries.now a.left_entry a.passthrough.now) e
          c.if-refusal-ne0.true c.zero_all.ensures;
    }

places-requires : tie.Need-places-marks-requires
places-requires c κs = search rules

array-borrow-prefix-marks : tie.Need-slice_bounds-marks-end
array-borrow-prefix-marks c = places-enough c

slice-aggregate-reachable-array : tie.Need-slice_bounds-reachable_array-end
slice-aggregate-reachable-array c =
    sym (length-take-le (count c.args.instructions.now) c.places-marks.result
    (places-enough c.before))

reachable-array-requires : tie.Need-reachable_array-requires
reachable-array-requires c κs = search rules

array-share-prefix-marks : tie.Need-slice_bounds-marks-end-2
array-share-prefix-marks c =
    let m = c.reachable_array.new.marks in
    omega (
      arith,
      marks-length c.before,
      length-append m
          (drop (count c.args.instructions.now)
          c.places-marks.result),
    )

slice-aggregate-write-reach : tie.Need-slice_bounds-write_reach-end
slice-aggregate-write-reach c = sym (front c.before.before)

write-reach-requires : tie.Need-write_reach-requires
write-reach-requires c κs =
    let a = c.args in (
      front c.before.before.before,
      omega (
        arith,
        c.zero_all.auto.s,
        enough a.instructions.now a.entries.now a.left_entry a.passthrough.now (length a.out.now)
            (none-holds c.before.before.before.before.before.before),
      ),
    )

same-length-2 : tie.Need-shape_of-out
same-length-2 c = search rules

returns-2 : tie.Need-returns
returns-2 c =
    let a = c.args in
    let none = none-holds c.before.before.before.before.before.before.before.before in
    record {
      answer = taken_answer (count a.instructions.now) none;
      list =
          written a.instructions.now a.entries.now a.left_entry a.passthrough.now _ (length a.out.now) _ _ none
          (take_at c.reachable_array.new.marks (drop (count a.instructions.now) c.places-marks.result)
          (count a.instructions.now) (marks-length (c.before.before.before.before.before))
          ∙ marks_whole a.instructions.now a.entries.now (number_of (word_of a.left_entry))
          (length (take (count a.instructions.now) c.places-marks.result))
          (length-take-le (count a.instructions.now) c.places-marks.result (places-enough c.before.before.before.before.before.before.before))
          c.reachable_array.ensures
          ∙ ap (λ (z : ℤ). reachable a.instructions.now a.entries.now z) (number_word a.left_entry c.ranges.left_entry))
          c.zero_all.ensures
          c.write_reach.ensures;
    }

pub reachable_iter_spec : {M : Type 1} → statement M
reachable_iter_spec =
    tie.close
    (tie.spec
    zero-all-requires
    reach-refusal-requires
    same_length
    returns
    places-requires
    array-borrow-prefix-marks
    slice-aggregate-reachable-array
    reachable-array-requires
    array-share-prefix-marks
    slice-aggregate-write-reach
    write-reach-requires
    same-length-2
    returns-2)
