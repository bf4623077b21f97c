-- `repair_commit::commit_repair` meets its contract: proofs/Committing, by what the passes and the last part leave.
-- Assumes nothing.
use mathlib.Core.Path.{◌≡◌, sym, ap, ◌∙◌, subst, subst₂, refl}
use mathlib.Core.List.{List, ◌++◌}
use Prim.Native.Nat.{ℕ, ◌*◌, ◌≤◌}
use native.Mathlib.Omega.{arith}
use lib.IntN.{ℤ}
use lib.ListN.{length, length-append, take, drop}
use lib.Seq.{length-take-le, take_at}
use Rattle.words.specs.Words.{word_of, number_of}
use Rattle.words.proofs.Bits.{number_word}
use Rattle.lang.specs.Records.{count}
use Rattle.repairs.specs.Damaged.{Damaged}
use Rattle.repairs.specs.Repairs.{damaged_of}
use Rattle.repair_passes.specs.Mending.{MendLists, mend_lists, Mends}
use Rattle.repair_places.specs.Writing.{WritesRepaired}
use Rattle.repair_places.proofs.Left.{Left}
use Rattle.repair_commit.proofs.Committing.{Course, commits}
use borrow.Author.Rules.{rules}
use Rattle.repair_commit.proofs.commit_repair.Statement.{statement}
use Rattle.repair_commit.proofs.commit_repair.Tie as tie

-- ---- of plain lists

front : {A : Type 0} (n : ℕ) (m q : List A) → length m ≡ n → take n (m ++ drop n q) ≡ m
front n m q l = take_at m (drop n q) n l

front_long : {A : Type 0} (n : ℕ) (m q : List A) → length m ≡ n → n ≤ length (m ++ drop n q)
front_long n m q l = omega (arith, length-append m (drop n q))

-- ---- the local lists, and how much of them is lent

programs-long : (c : tie.After-programs-program) → 4 * c.placed-n.result ≤ length c.programs-program.result
programs-long c = omega (arith, c.placed-n.ensures, c.programs-program.ensures)

places-long : (c : tie.After-places-passed) → c.placed-n.result ≤ length c.places-passed.result
places-long c = omega (arith, c.placed-n.ensures, c.places-passed.ensures)

-- ---- what the passes left

module _ (c : tie.After-mend-mended) where
  abbrev local : tie.After-places-passed
  local = c.before.before.before.before.before

  abbrev placed : tie.After-placed-n
  placed = local.before.before

  abbrev places : ℕ
  places = placed.placed-n.result

  abbrev lent : tie.Start
  lent = placed.before.before.before.before

  -- a font of what was lent, with these boundary character, left entry and replacement
  abbrev font : ℤ → ℤ → ℤ → Damaged
  font x y z =
      let a = lent.args in
      damaged_of a.instructions.now a.kerns.now a.entries.now x y z a.existing.now a.passthrough.now

  abbrev damaged : Damaged
  damaged = let a = lent.args in font a.boundary a.left_entry a.replacement

  abbrev program : List ℤ
  program = c.mend-mended.new.program

  abbrev passed : List ℕ
  passed = c.mend-mended.new.through

  abbrev lists : MendLists
  lists =
      mend_lists program passed c.mend-mended.new.warnings c.mend-mended.new.work

  program-length : length program ≡ 4 * places
  program-length = c.mend-mended.auto.program ∙ length-take-le (4 * places) local.programs-program.result (programs-long local.before)

  passed_length : length passed ≡ places
  passed_length = c.mend-mended.auto.through ∙ length-take-le places local.places-passed.result (places-long local)

  -- what was lent of the local lists
  abbrev program-lent : List ℤ
  program-lent = take (4 * places) local.programs-program.result

  abbrev passed-lent : List ℕ
  passed-lent = take places local.places-passed.result

  -- how many instructions there are
  abbrev steps : ℕ
  steps = count lent.args.instructions.now

  all_placed : steps ≤ 32767 → places ≡ steps
  all_placed h = omega (arith, placed.placed-n.ensures)

  program-places : steps ≤ 32767 → length program-lent ≡ 4 * steps
  program-places h =
      omega (arith, length-take-le (4 * places) local.programs-program.result (programs-long local.before), all_placed h)

  passed-places : steps ≤ 32767 → length passed-lent ≡ steps
  passed-places h = omega (arith, length-take-le places local.places-passed.result (places-long local), all_placed h)

  -- of the font as it was lent
  abbrev Mended : Damaged → Type 0
  Mended d = Mends d (mend_lists program-lent passed-lent lent.args.found.now lent.args.work.now) c.mend-mended.result lists

  mends : Mended damaged
  mends =
      let x = number_word lent.args.boundary lent.ranges.boundary in
      let y = number_word lent.args.left_entry lent.ranges.left_entry in
      let z = number_word lent.args.replacement lent.ranges.replacement in
      let same : font (number_of (word_of lent.args.boundary)) (number_of (word_of lent.args.left_entry)) (number_of (word_of lent.args.replacement))
      ≡ damaged = (λ i. font (x i) (y i) (z i)) in
      subst Mended same c.mend-mended.ensures

  abbrev left : Left damaged lent.args.found.now lent.args.work.now
  left =
      record {
        program = program-lent;
        passed = passed-lent;
        program_long = program-places;
        passed_long = passed-places;
        mended = c.mend-mended.result;
        lists = lists;
        mends = mends;
      }

-- from the number back to the passes
abbrev mended-before : tie.After-commit_refusal-number → tie.After-mend-mended
mended-before c = c.before.before.before.before.before.before

-- what is lent to be copied is as long as what the passes left
program-shared : (c : tie.After-commit_refusal-number) → let m = mended-before c in
    length (take (4 * places m) (program m ++ drop (4 * places m) (local m).before.programs-program.result)) ≡ 4 * places m
program-shared c =
    let m = mended-before c in ap length (front _ (program m) (local m).before.programs-program.result (program-length m)) ∙ program-length m

passed-shared : (c : tie.After-commit_refusal-number) → let m = mended-before c in
    length (take (places m) (passed m ++ drop (places m) (local m).places-passed.result)) ≡ places m
passed-shared c = let m = mended-before c in ap length (front _ (passed m) (local m).places-passed.result (passed_length m)) ∙ passed_length m

-- ---- the end

module _ (f : tie.After-finished) where
  abbrev emptied : tie.After-zero_all
  emptied = f.before.before

  abbrev wrote : tie.After-write_repaired
  wrote = emptied.before.before.before.before.before

  abbrev refusal : tie.After-commit_refusal-number
  refusal = wrote.before.before.before.before.before

  abbrev ended : tie.After-mend-mended
  ended = mended-before refusal

  abbrev fixed-last : List ℤ
  fixed-last = wrote.write_repaired.new.fixed

  abbrev through-last : List ℕ
  through-last = wrote.write_repaired.new.through

  abbrev Written : List ℤ → List ℕ → Type 0
  Written p q =
      WritesRepaired refusal.commit_refusal-number.result p q (lent ended).args.fixed.now (lent ended).args.through.now fixed-last through-last

  writes : Written (program ended) (passed ended)
  writes =
      subst₂ Written (front _ (program ended) (local ended).before.programs-program.result (program-length ended))
      (front _ (passed ended) (local ended).places-passed.result (passed_length ended)) wrote.write_repaired.ensures

  abbrev course : let a = (lent ended).args in Course (damaged ended) a.warnings.now a.fixed.now a.through.now a.found.now a.work.now
  course =
      record {
        left = left ended;
        places = places ended;
        places_are = all_placed ended;
        number = refusal.commit_refusal-number.result;
        number_is = refusal.commit_refusal-number.ensures;
        fixed' = fixed-last;
        through' = through-last;
        writes = writes;
        found' = emptied.zero_all.new.s;
        emptied = emptied.zero_all.ensures;
        answer = f.finished.result;
        answers = f.finished.ensures;
      }

placed-requires : tie.Need-placed-n-requires
placed-requires c κs = search rules

programs-requires : tie.Need-programs-program-requires
programs-requires c κs = search rules

places-requires : tie.Need-places-passed-requires
places-requires c κs = search rules

mul-program : tie.Need-overflow_mul-program
mul-program c = search rules

array-borrow-prefix-program : tie.Need-slice_bounds-program-end
array-borrow-prefix-program c = programs-long c.before

slice-aggregate-mend : tie.Need-slice_bounds-mend-end
slice-aggregate-mend c = sym (length-take-le _ c.programs-program.result (programs-long c.before.before))

array-borrow-prefix-passed : tie.Need-slice_bounds-passed-end
array-borrow-prefix-passed c = places-long c.before

slice-aggregate-mend-2 : tie.Need-slice_bounds-mend-end-2
slice-aggregate-mend-2 c = sym (length-take-le _ c.places-passed.result (places-long c.before.before))

mend-requires : tie.Need-mend-mended-requires
mend-requires c κs = search rules

mul-commit-refusal : tie.Need-overflow_mul-n
mul-commit-refusal c = search rules

commit-refusal-requires : tie.Need-commit_refusal-number-requires
commit-refusal-requires c κs = search rules

mul-program-2 : tie.Need-overflow_mul-program-2
mul-program-2 c = search rules

array-share-prefix-program : tie.Need-slice_bounds-program-end-2
array-share-prefix-program c =
    let m = mended-before c in front_long _ (program m) (local m).before.programs-program.result (program-length m)

slice-aggregate-write-repaired : tie.Need-slice_bounds-write_repaired-end
slice-aggregate-write-repaired c = sym (program-shared c.before)

array-share-prefix-passed : tie.Need-slice_bounds-passed-end-2
array-share-prefix-passed c =
    let m = mended-before c.before in front_long _ (passed m) (local m).places-passed.result (passed_length m)

slice-aggregate-write-repaired-2 : tie.Need-slice_bounds-write_repaired-end-2
slice-aggregate-write-repaired-2 c = sym (passed-shared c.before.before)

write-repaired-requires : tie.Need-write_repaired-requires
write-repaired-requires c κs = search rules

zero-all-requires : tie.Need-zero_all-requires
zero-all-requires c κs = search rules

finished-requires : tie.Need-finished-requires
finished-requires c κs = search rules

same_length : tie.Need-shape_of-fixed
same_length c = (wrote c).write_repaired.auto.fixed

same-length-2 : tie.Need-shape_of-through
same-length-2 c = (wrote c).write_repaired.auto.through

same-length-3 : tie.Need-shape_of-found
same-length-3 c = search rules

same-length-4 : tie.Need-shape_of-work
same-length-4 c = search rules

returns : tie.Need-returns
returns c =
    let a = (lent (ended c)).args in
    commits (damaged (ended c)) a.warnings.now a.fixed.now a.through.now a.found.now a.work.now (course c)

pub commit_repair_spec : {M : Type 1} → statement M
commit_repair_spec =
    tie.close
    (tie.spec
    placed-requires
    programs-requires
    places-requires
    mul-program
    array-borrow-prefix-program
    slice-aggregate-mend
    array-borrow-prefix-passed
    slice-aggregate-mend-2
    mend-requires
    mul-commit-refusal
    commit-refusal-requires
    mul-program-2
    array-share-prefix-program
    slice-aggregate-write-repaired
    array-share-prefix-passed
    slice-aggregate-write-repaired-2
    write-repaired-requires
    zero-all-requires
    finished-requires
    same_length
    same-length-2
    same-length-3
    same-length-4
    returns)
