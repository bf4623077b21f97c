-- `repair_ask::ask_repair` meets its contract: proofs/Asking, by what the passes leave.
-- Assumes nothing.
use mathlib.Core.Path.{◌≡◌, sym, ap, ◌∙◌, subst}
use mathlib.Core.List.{List}
use Prim.Native.Nat.{ℕ, ◌*◌, ◌≤◌}
use native.Mathlib.Omega.{arith}
use lib.IntN.{ℤ, pos}
use lib.ListN.{length, take}
use lib.Seq.{length-take-le}
use Rattle.words.specs.Words.{word_of, number_of}
use Rattle.words.proofs.Bits.{number_word}
use Rattle.lang.specs.Records.{count}
use Rattle.lang.specs.Answers.{written_reply}
use Rattle.c_values.specs.Telling.{kept}
use Rattle.repairs.specs.Damaged.{Damaged}
use Rattle.repairs.specs.Repairs.{damaged_of}
use Rattle.repair_passes.specs.Mending.{mend_lists, Mends}
use Rattle.repair_places.proofs.Left.{Left}
use Rattle.repair_ask.proofs.Asking.{asks}
use borrow.Author.Rules.{rules}
use Rattle.repair_ask.proofs.ask_repair.Statement.{statement}
use Rattle.repair_ask.proofs.ask_repair.Tie as tie

-- ---- the local lists, and how much of them is lent

programs-long : (c : tie.After-programs-program) → 4 * c.placed-n.result ≤ length c.programs-program.result
programs-long c = omega (arith, c.placed-n.ensures, c.programs-program.ensures)

places-long : (c : tie.After-places-passed) → c.placed-n.result ≤ length c.places-passed.result
places-long c = omega (arith, c.placed-n.ensures, c.places-passed.ensures)

-- ---- what the passes left

module _ (c : tie.After-mend-mended) where
  abbrev local : tie.After-places-passed
  local = c.before.before.before.before.before

  abbrev placed : tie.After-placed-n
  placed = local.before.before

  abbrev places : ℕ
  places = placed.placed-n.result

  abbrev blank : tie.After-zero_all
  blank = placed.before.before

  abbrev lent : tie.Start
  lent = blank.before.before.before.before

  -- a font of what was lent, with these boundary character, left entry and replacement
  abbrev font : ℤ → ℤ → ℤ → Damaged
  font x y z =
      let a = lent.args in
      damaged_of a.instructions.now a.kerns.now a.entries.now x y z a.existing.now a.passthrough.now

  abbrev damaged : Damaged
  damaged = let a = lent.args in font a.boundary a.left_entry a.replacement

  abbrev warnings : List ℤ
  warnings = c.mend-mended.new.warnings

  abbrev work : List ℕ
  work = c.mend-mended.new.work

  -- what was lent of the local lists
  abbrev program-lent : List ℤ
  program-lent = take (4 * places) local.programs-program.result

  abbrev passed-lent : List ℕ
  passed-lent = take places local.places-passed.result

  -- how many instructions there are
  abbrev steps : ℕ
  steps = count lent.args.instructions.now

  program-places : steps ≤ 32767 → length program-lent ≡ 4 * steps
  program-places h = omega (arith, length-take-le (4 * places) local.programs-program.result (programs-long local.before), placed.placed-n.ensures)

  passed-places : steps ≤ 32767 → length passed-lent ≡ steps
  passed-places h = omega (arith, length-take-le places local.places-passed.result (places-long local), placed.placed-n.ensures)

  -- of the font as it was lent
  abbrev Mended : Damaged → Type 0
  Mended d =
      Mends d (mend_lists program-lent passed-lent blank.zero_all.new.s lent.args.work.now) c.mend-mended.result
      (mend_lists c.mend-mended.new.program c.mend-mended.new.through warnings work)

  mends : Mended damaged
  mends =
      let x = number_word lent.args.boundary lent.ranges.boundary in
      let y = number_word lent.args.left_entry lent.ranges.left_entry in
      let z = number_word lent.args.replacement lent.ranges.replacement in
      let same : font (number_of (word_of lent.args.boundary)) (number_of (word_of lent.args.left_entry)) (number_of (word_of lent.args.replacement))
      ≡ damaged = (λ i. font (x i) (y i) (z i)) in
      subst Mended same c.mend-mended.ensures

  abbrev left : Left damaged blank.zero_all.new.s lent.args.work.now
  left =
      record {
        program = program-lent;
        passed = passed-lent;
        program_long = program-places;
        passed_long = passed-places;
        mended = c.mend-mended.result;
        lists = mend_lists c.mend-mended.new.program c.mend-mended.new.through warnings work;
        mends = mends;
      }

zero-all-requires : tie.Need-zero_all-requires
zero-all-requires c κs = search rules

placed-requires : tie.Need-placed-n-requires
placed-requires c κs = search rules

programs-requires : tie.Need-programs-program-requires
programs-requires c κs = search rules

places-requires : tie.Need-places-passed-requires
places-requires c κs = search rules

mul-program : tie.Need-overflow_mul-program
mul-program c = search rules

array-borrow-prefix-program : tie.Need-slice_bounds-program-end
array-borrow-prefix-program c = programs-long c.before

slice-aggregate-mend : tie.Need-slice_bounds-mend-end
slice-aggregate-mend c = sym (length-take-le _ c.programs-program.result (programs-long c.before.before))

array-borrow-prefix-passed : tie.Need-slice_bounds-passed-end
array-borrow-prefix-passed c = places-long c.before

slice-aggregate-mend-2 : tie.Need-slice_bounds-mend-end-2
slice-aggregate-mend-2 c = sym (length-take-le _ c.places-passed.result (places-long c.before.before))

mend-requires : tie.Need-mend-mended-requires
mend-requires c κs = search rules

told-requires : tie.Need-told-written-requires
told-requires c κs = search rules

number-of-requires : tie.Need-number_of-requires
number-of-requires c κs = search rules

keep-list-requires : tie.Need-keep_list-requires
keep-list-requires c κs = search rules

same_length : tie.Need-shape_of-warnings
same_length c = search rules

same-length-2 : tie.Need-shape_of-work
same-length-2 c = search rules

returns : tie.Need-returns
returns c =
    let a = (lent (c.before.before.before.before.before.before.before.before.before.before)).args in
    asks (damaged (c.before.before.before.before.before.before.before.before.before.before)) a.warnings.now a.work.now (blank (c.before.before.before.before.before.before.before.before.before.before)).zero_all.new.s (blank (c.before.before.before.before.before.before.before.before.before.before)).zero_all.ensures
    (left (c.before.before.before.before.before.before.before.before.before.before)) c.told-written.result c.keep_list.new.out c.told-written.ensures
    (c.keep_list.ensures ∙ ap (λ (j : ℕ). kept j (pos 0) (warnings (c.before.before.before.before.before.before.before.before.before.before))) c.number_of.ensures)

pub ask_repair_spec : {M : Type 1} → statement M
ask_repair_spec =
    tie.close
    (tie.spec
    zero-all-requires
    placed-requires
    programs-requires
    places-requires
    mul-program
    array-borrow-prefix-program
    slice-aggregate-mend
    array-borrow-prefix-passed
    slice-aggregate-mend-2
    mend-requires
    told-requires
    number-of-requires
    keep-list-requires
    same_length
    same-length-2
    returns)
