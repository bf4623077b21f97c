-- `repair_passes::enter` meets its contract: proofs/Laws, of the entries that were unpacked.
-- Assumes nothing.
use mathlib.Core.Path.{◌≡◌, refl, sym, ap, ◌∙◌, subst}
use mathlib.Core.Bool.{Bool, true, cond}
use mathlib.Core.List.{List, []}
use Prim.Native.Nat.{◌*◌, ◌/◌, ◌≤◌}
use native.Mathlib.Omega.{arith}
use lib.IntN.{ℤ, pos}
use lib.Dec.{leb}
use lib.ListN.{length}
use lib.Seq.{length-take-le}
use mir.Syntax.{w32}
use mir.Val.{SFits}
use borrow.Author.Tests.{le-leb, eq-eqb}
use Rattle.words.proofs.Bits.{number_word}
use Rattle.lang.specs.Every.{both}
use Rattle.lang.specs.Records.{count}
use Rattle.reach_marks.specs.Marks.{reachable}
use Rattle.repairs.specs.Damaged.{Damaged, repaired_left}
use Rattle.repairs.specs.Repairs.{damaged_of}
use Rattle.repair_entries.specs.Entering.{EntersFrom, is_enterable}
use Rattle.repair_passes.proofs.Laws.{AfterEntries, entries_within, entries_few, entries_are, left_is}
use borrow.Author.Rules.{rules}
use Rattle.repair_passes.proofs.enter.Statement.{statement}
use Rattle.repair_passes.proofs.enter.Tie as tie

-- ---- what unpacking left, of any font that has what was lent

module _ (c : tie.After-unpack_entries-entered) where
  abbrev start : tie.Start
  start = c.before.before.before.before.before.before.before

  abbrev Lent : Damaged → Type 0
  Lent d = let a = start.args in EntersFrom d a.instructions.now a.entries.now a.left_entry a.passthrough.now

  -- the font of what was lent, and nothing else
  abbrev bare : Damaged
  bare = let a = start.args in damaged_of a.instructions.now [] a.entries.now (pos 0) a.left_entry (pos 0) [] a.passthrough.now

  bare-lent : Lent bare
  bare-lent = record { lists = record { instructions = refl; entries = refl }; left_entry_lem = refl; passed = refl }

  few : (d : Damaged) → Lent d → is_enterable d ≡ true
  few d f =
      (λ i. both (leb (count (f.lists.instructions i)) 32767) (leb (length (f.lists.entries i) / 2) 256))
      ∙ (λ i. both (le-leb _ 32767 start.requires.0 i) (le-leb _ 256 start.requires.1 i))

  abbrev after : (d : Damaged) → Lent d → AfterEntries d start.args.through.now start.args.warnings.now
  after d f =
      let left = sym (number_word start.args.left_entry start.ranges.left_entry) in
      record {
        places = start.args.unpacked.now;
        long = start.requires.2;
        entries = c.unpack_entries-entered.new.unpacked;
        through' = c.unpack_entries-entered.new.through;
        warnings' = c.unpack_entries-entered.new.warnings;
        entered = c.unpack_entries-entered.result;
        enters = c.unpack_entries-entered.ensures d (record { lists = f.lists; left_entry_lem = f.left_entry_lem ∙ left; passed = f.passed });
      }

  within : 2 * c.unpack_entries-entered.result.entries ≤ length c.unpack_entries-entered.new.unpacked
  within = entries_within (few bare bare-lent) (after bare bare-lent)

-- a test that holds
chosen : {A : Type 0} {t : Bool} {x z : A} (y : A) → t ≡ true → z ≡ cond t x y → z ≡ x
chosen {x = x} y e f = f ∙ ap (λ (t : Bool). cond t x y) e

unpack-entries-requires : tie.Need-unpack_entries-entered-requires
unpack-entries-requires c κs = search rules

repaired-left-requires : tie.Need-repaired_left-left-requires
repaired-left-requires c κs = search rules

mul-reachable-array : tie.Need-overflow_mul-entered
mul-reachable-array c =
    omega (arith, entries_few (few (c.before.before.before.before.before.before) (bare (c.before.before.before.before.before.before)) (bare-lent (c.before.before.before.before.before.before))) (after (c.before.before.before.before.before.before) (bare (c.before.before.before.before.before.before)) (bare-lent (c.before.before.before.before.before.before))))

slice-reshare-prefix-reachable-array : tie.Need-slice_bounds-reachable_array-end
slice-reshare-prefix-reachable-array c = within c.before.before.before.before.before.before

slice-aggregate-reachable-array : tie.Need-slice_bounds-reachable_array-end-2
slice-aggregate-reachable-array c =
    sym (length-take-le (2 * c.unpack_entries-entered.result.entries) c.unpack_entries-entered.new.unpacked (within (c.before.before.before.before.before.before)))

reachable-array-requires : tie.Need-reachable_array-requires
reachable-array-requires c κs = search rules

same_length : tie.Need-shape_of-unpacked
same_length c = search rules

same-length-2 : tie.Need-shape_of-marks
same-length-2 c = search rules

same-length-3 : tie.Need-shape_of-through
same-length-3 c = search rules

same-length-4 : tie.Need-shape_of-warnings
same-length-4 c = search rules

returns : tie.Need-returns
returns c = λ d f.
    let s = start (c.before.before.before.before.before.before.before.before.before.before) in
    let es = entries_are (few (c.before.before.before.before.before.before.before.before.before.before) d f) (after (c.before.before.before.before.before.before.before.before.before.before) d f) in
    let fits : SFits w32 d.left = subst (SFits w32) (sym f.left_entry_lem) s.ranges.left_entry in
    let lent = number_word s.args.left_entry s.ranges.left_entry ∙ sym f.left_entry_lem in
    let left = left_is d fits (ap count (sym f.lists.instructions)) lent c.repaired_left-left.ensures in (
      (after (c.before.before.before.before.before.before.before.before.before.before) d f).enters,
      chosen _ (eq-eqb _ _ s.requires.3) c.reachable_array.ensures ∙ (λ i. reachable (sym f.lists.instructions i) (es i) (left i)),
    )

pub enter_spec : {M : Type 1} → statement M
enter_spec =
    tie.close
    (tie.spec
    unpack-entries-requires
    repaired-left-requires
    mul-reachable-array
    slice-reshare-prefix-reachable-array
    slice-aggregate-reachable-array
    reachable-array-requires
    same_length
    same-length-2
    same-length-3
    same-length-4
    returns)
