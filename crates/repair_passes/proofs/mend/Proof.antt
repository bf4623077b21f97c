-- `repair_passes::mend` meets its contract: proofs/Laws, of what each pass left.
-- Assumes nothing.
use mathlib.Core.Path.{◌≡◌, refl, sym, ap, ◌∙◌}
use mathlib.Core.Bool.{true}
use mathlib.Core.List.{List, ◌++◌}
use Prim.Native.Nat.{ℕ, ◌*◌, ◌/◌, ◌<◌, ◌≤◌}
use native.Mathlib.Omega.{arith}
use lib.IntN.{ℤ}
use lib.Dec.{eqb}
use lib.ListN.{length, length-append, take, drop}
use lib.Seq.{length-take-le, take_at}
use Rattle.words.specs.Words.{word_of, number_of}
use Rattle.words.proofs.Bits.{number_word}
use Rattle.lang.specs.Every.{both}
use Rattle.lang.specs.Records.{count}
use Rattle.lang.specs.Checks.{or_else, unless}
use Rattle.repairs.specs.Damaged.{Damaged}
use Rattle.repairs.specs.Repairs.{damaged_of, damaged_refusal}
use Rattle.repair_entries.specs.Entering.{EntersFrom, is_enterable}
use Rattle.repair_passes.specs.Mending.{MendLists, mend_lists, lent_refusal}
use Rattle.repair_passes.proofs.Sizes.{size, few_entries}
use Rattle.repair_passes.proofs.Laws.{AfterEntries, Stations, taken, enterable, through_long, entries_within, entries_few, left_is, not_mended, mended}
use borrow.Author.Rules.{rules}
use Rattle.repair_passes.proofs.mend.Statement.{statement}
use Rattle.repair_passes.proofs.mend.Tie as tie

-- ---- what was lent, and whether it is refused

abbrev font : tie.Start → Damaged
font s =
    let a = s.args in
    damaged_of a.instructions.now a.kerns.now a.entries.now a.boundary a.left_entry a.replacement a.existing.now a.passthrough.now

abbrev lists : tie.Start → MendLists
lists s = let a = s.args in mend_lists a.program.now a.through.now a.warnings.now a.work.now

-- how many instructions there are
abbrev steps : tie.Start → ℕ
steps s = count s.args.instructions.now

abbrev asked : tie.After-damaged_refusal-font → tie.Start
asked c = c.before.before.before.before

font-refusal : (c : tie.After-damaged_refusal-font) → c.damaged_refusal-font.result ≡ damaged_refusal (font (asked c))
font-refusal c =
    let s = asked c in
    let a = s.args in
    let x = number_word a.boundary s.ranges.boundary in
    let y = number_word a.left_entry s.ranges.left_entry in
    let z = number_word a.replacement s.ranges.replacement in
    c.damaged_refusal-font.ensures a.existing.now
    ∙ (λ i. damaged_refusal
    (damaged_of a.instructions.now a.kerns.now a.entries.now (x i) (y i) (z i) a.existing.now a.passthrough.now))

refusal_is : (c : tie.After-lent_refusal-number) → c.lent_refusal-number.result ≡ lent_refusal (font (asked c.before)) (lists (asked c.before))
refusal_is c =
    let s = asked c.before in
    let a = s.args in
    c.lent_refusal-number.ensures
    ∙ ap (λ (k : ℕ). or_else k (unless 15 (both (eqb (length a.program.now) (4 * steps s)) (eqb (length a.through.now) (steps s)))))
    (font-refusal c.before)

-- ---- it is not

abbrev start : tie.Else-number-ne0 → tie.Start
start c = asked c.before.before

ok : (c : tie.Else-number-ne0) → lent_refusal (font (start c)) (lists (start c)) ≡ 0
ok c = sym (refusal_is c.before) ∙ c.if-number-ne0.false

fine : (c : tie.Else-number-ne0) → damaged_refusal (font (start c)) ≡ 0
fine c = taken (font (start c)) (lists (start c)) (ok c)

places-long : (c : tie.After-mark_places-marks) → steps (start c.before.before) ≤ length c.mark_places-marks.result
places-long c = omega (arith, c.mark_places-marks.ensures, size (font (start c.before.before)) (fine c.before.before))

-- ---- what the first pass left

module _ (c : tie.After-enter-entered) where
  -- the local lists, made after the test
  abbrev made : tie.After-mark_places-marks
  made = c.before.before.before.before.before

  abbrev tested : tie.Else-number-ne0
  tested = made.before.before

  abbrev lent : tie.Start
  lent = start tested

  -- the places for marks
  abbrev places : List ℕ
  places = made.mark_places-marks.result

  -- the marks
  abbrev marked : List ℕ
  marked = c.enter-entered.new.marks

  abbrev handed : ℤ
  handed = number_of (word_of lent.args.left_entry)

  from-lent : EntersFrom (font lent) lent.args.instructions.now lent.args.entries.now handed lent.args.passthrough.now
  from-lent =
      record {
        lists = record { instructions = refl; entries = refl };
        left_entry_lem = sym (number_word lent.args.left_entry lent.ranges.left_entry);
        passed = refl;
      }

  abbrev after : AfterEntries (font lent) (lists lent).through (lists lent).warnings
  after =
      record {
        places = made.before.entry_places-unpacked.result;
        long = made.before.entry_places-unpacked.ensures;
        entries = c.enter-entered.new.unpacked;
        through' = c.enter-entered.new.through;
        warnings' = c.enter-entered.new.warnings;
        entered = c.enter-entered.result;
        enters = (c.enter-entered.ensures (font lent) from-lent).0;
      }

  few : is_enterable (font lent) ≡ true
  few = enterable (font lent) (lists lent) (ok tested)

  within : 2 * c.enter-entered.result.entries ≤ length c.enter-entered.new.unpacked
  within = entries_within few after

  -- as many marks as there are instructions
  marks-length : length marked ≡ steps lent
  marks-length = c.enter-entered.auto.marks ∙ length-take-le (steps lent) places (places-long made)

  marks-front : take (steps lent) (marked ++ drop (steps lent) places) ≡ marked
  marks-front = take_at marked (drop (steps lent) places) (steps lent) marks-length

  front_long : steps lent ≤ length (marked ++ drop (steps lent) places)
  front_long = omega (arith, length-append marked (drop (steps lent) places), marks-length)

-- from the steps back to it
abbrev entered_before : tie.After-word_of → tie.After-enter-entered
entered_before c = c.before.before.before.before.before.before

abbrev worded : tie.After-fix_program-count → tie.After-word_of
worded c = c.before.before.before.before

-- from the loops back to the left entry and the steps
abbrev fixed-before : tie.After-repaired_left-left → tie.After-fix_program-count
fixed-before c = c.before.before.before

abbrev left-before : tie.After-struct_known-1 → tie.After-repaired_left-left
left-before c = c.before

-- ---- all passes are done

module _ (c : tie.After-warn_loops-written) where
  abbrev left-asked : tie.After-repaired_left-left
  left-asked = left-before c.before.before.before.before

  abbrev fixed : tie.After-fix_program-count
  fixed = fixed-before left-asked

  abbrev entered : tie.After-enter-entered
  entered = entered_before (worded fixed)

  abbrev stations : Stations (font (lent entered)) (lists (lent entered))
  stations =
      let s = lent entered in
      let o = (worded fixed).word_of in
      let l = left-asked.repaired_left-left in
      record {
        first = after entered;
        boundary = _;
        boundary_is = number_word s.args.boundary s.ranges.boundary;
        replacement = o.result;
        replacement_is = o.ensures ∙ ap word_of (number_word s.args.replacement s.ranges.replacement);
        marks = _;
        marks_are = marks-front entered ∙ (entered.enter-entered.ensures (font s) (from-lent entered)).1;
        program = fixed.fix_program-count.new.fixed;
        warnings = fixed.fix_program-count.new.warnings;
        warned = fixed.fix_program-count.result;
        fixes = fixed.fix_program-count.ensures;
        left = _;
        left_was = left_is (font s) s.ranges.left_entry refl (number_word s.args.left_entry s.ranges.left_entry) l.ensures;
        warnings' = c.warn_loops-written.new.warnings;
        work = c.warn_loops-written.new.work;
        answer = c.warn_loops-written.result;
        loops = c.warn_loops-written.ensures s.args.boundary;
      }

damaged-refusal-requires : tie.Need-damaged_refusal-font-requires
damaged-refusal-requires c κs = search rules

lent-refusal-requires : tie.Need-lent_refusal-number-requires
lent-refusal-requires c κs = search rules

zero-all-requires : tie.Need-zero_all-requires
zero-all-requires c κs = search rules

same_length : tie.Need-shape_of-work-then-number-ne0
same_length c = search rules

returns : tie.Need-returns-then-number-ne0
returns c =
    let s = asked c.before.before.before.before.before.before in
    not_mended (font s) (lists s) c.lent_refusal-number.result c.zero_all.new.s (refusal_is c.before.before.before.before.before) c.if-number-ne0.true c.zero_all.ensures

entry-places-requires : tie.Need-entry_places-unpacked-requires
entry-places-requires c κs = search rules

mark-places-requires : tie.Need-mark_places-marks-requires
mark-places-requires c κs = search rules

slice-aggregate-enter : tie.Need-slice_bounds-enter-end
slice-aggregate-enter c = search rules

array-borrow-prefix-marks : tie.Need-slice_bounds-marks-end
array-borrow-prefix-marks c = places-long c.before

slice-aggregate-enter-2 : tie.Need-slice_bounds-enter-end-2
slice-aggregate-enter-2 c = sym (length-take-le _ c.mark_places-marks.result (places-long c.before.before))

enter-requires : tie.Need-enter-entered-requires
enter-requires c κs =
    let s = start (c.before.before.before.before.before.before) in (
      size (font s) (fine (c.before.before.before.before.before.before)),
      few_entries (font s) (fine (c.before.before.before.before.before.before)),
      c.entry_places-unpacked.ensures,
      length-take-le _ c.mark_places-marks.result (places-long (c.before.before.before.before)),
      through_long (font s) (lists s) (ok (c.before.before.before.before.before.before)),
    )

word-of-requires : tie.Need-word_of-requires
word-of-requires c κs = search rules

array-share-prefix-marks : tie.Need-slice_bounds-marks-end-2
array-share-prefix-marks c = front_long (entered_before c)

slice-aggregate-fix-program : tie.Need-slice_bounds-fix_program-end
slice-aggregate-fix-program c = let k = entered_before c.before in sym (ap length (marks-front k) ∙ marks-length k)

fix-program-requires : tie.Need-fix_program-count-requires
fix-program-requires c κs = search rules

repaired-left-requires : tie.Need-repaired_left-left-requires
repaired-left-requires c κs = search rules

-- the entries that are lent on, after what was repaired
abbrev unpacked : tie.After-struct_known-1 → tie.After-enter-entered
unpacked c = entered_before (worded (fixed-before (left-before c)))

mul-unpacked : tie.Need-overflow_mul-unpacked
mul-unpacked c = omega (arith, entries_few (few (unpacked c)) (after (unpacked c)))

array-share-prefix-unpacked : tie.Need-slice_bounds-unpacked-end
array-share-prefix-unpacked c = within (unpacked c)

slice-aggregate-warn-loops : tie.Need-slice_bounds-warn_loops-end
slice-aggregate-warn-loops c = let k = unpacked c.before in sym (length-take-le _ k.enter-entered.new.unpacked (within k))

warn-loops-requires : tie.Need-warn_loops-written-requires
warn-loops-requires c κs = search rules

handed_on-requires : tie.Need-handed_on-requires
handed_on-requires c κs = search rules

same-length-2 : tie.Need-shape_of-program
same-length-2 c = search rules

same-length-3 : tie.Need-shape_of-through
same-length-3 c = search rules

same-length-4 : tie.Need-shape_of-warnings
same-length-4 c = search rules

same-length-5 : tie.Need-shape_of-work
same-length-5 c = search rules

returns-2 : tie.Need-returns
returns-2 c =
    let s = lent (entered (c.before.before.before.before)) in
    mended (font s) (lists s) (ok (tested (entered (c.before.before.before.before)))) (stations (c.before.before.before.before)) c.handed_on.result c.handed_on.ensures

pub mend_spec : {M : Type 1} → statement M
mend_spec =
    tie.close
    (tie.spec
    damaged-refusal-requires
    lent-refusal-requires
    zero-all-requires
    same_length
    returns
    entry-places-requires
    mark-places-requires
    slice-aggregate-enter
    array-borrow-prefix-marks
    slice-aggregate-enter-2
    enter-requires
    word-of-requires
    array-share-prefix-marks
    slice-aggregate-fix-program
    fix-program-requires
    repaired-left-requires
    mul-unpacked
    array-share-prefix-unpacked
    slice-aggregate-warn-loops
    warn-loops-requires
    handed_on-requires
    same-length-2
    same-length-3
    same-length-4
    same-length-5
    returns-2)
