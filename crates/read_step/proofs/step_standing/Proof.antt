-- `read_step::step_standing` meets its contract, a way for each answer.
-- Assumes nothing.
use mathlib.Core.Path.{refl}
use Prim.Native.Nat.{suc}
use native.Mathlib.Omega.{arith}
use lib.IntN.{ℤ, pos}
use Rattle.words.proofs.Bits.{number_word}
use Rattle.reading.specs.Items.{Rules}
use Rattle.fonts.specs.Fonts.{Font, font_of, rules_of}
use Rattle.fonts.proofs.Lent.{lent_as}
use Rattle.readings.specs.Lists.{stand_item, replaced_at}
use Rattle.read_change.specs.declared.Change.{Change}
use Rattle.read_change.specs.Changes.{ChangesAs}
use Rattle.read_step.proofs.Stepping.{ended, too_long, stepped}
use borrow.Author.Rules.{rules}
use Rattle.read_step.proofs.step_standing.Statement.{statement}
use Rattle.read_step.proofs.step_standing.Tie as tie

-- the rules of the font as it was lent
abbrev font_rules : tie.Start → ℤ → Rules
font_rules s b =
    rules_of (font_of s.args.instructions.now s.args.kerns.now s.args.entries.now b s.args.left_entry s.args.design_size)

-- the change at the cursor, of the font as it was lent
change : (c : tie.After-change_at-change) (b : ℤ) →
    let a = c.args in
    ChangesAs (replaced_at (font_rules c.before.before b) a.items.now a.cursor) (stand_item a.items.now a.cursor)
    (stand_item a.items.now (suc a.cursor)) c.change_at-change.result
change c b =
    let a = c.args in
    lent_as
    (λ (f : Font) (r : Change).
    ChangesAs (replaced_at (rules_of f) a.items.now a.cursor) (stand_item a.items.now a.cursor) (stand_item a.items.now (suc a.cursor)) r)
    a.instructions.now a.kerns.now a.entries.now b _ a.left_entry _ a.design_size c.change_at-change.result c.change_at-change.result
    (c.change_at-change.ensures b) refl (number_word a.left_entry c.ranges.left_entry) (number_word a.design_size c.ranges.design_size)

add-if1 : tie.Need-overflow_add-cursor
add-if1 c = search rules

mul-remove : tie.Need-overflow_mul-count
mul-remove c = search rules

mul-remove-2 : tie.Need-overflow_mul-count-then-count-cursor
mul-remove-2 c = search rules

sub-remove : tie.Need-overflow_sub-room
sub-remove c = search rules

remove-requires : tie.Need-remove-requires
remove-requires c κs = search rules

same_length : tie.Need-shape_of-items-then-count-cursor
same_length c = search rules

returns : tie.Need-returns-then-count-cursor
returns c = λ b.
    let a = c.args in
    ended (font_rules (c.before.before.before.before) b) a.items.now a.count a.cursor c.remove.new.s c.requires.0 c.requires.1 c.if-count-cursor.true c.remove.ensures

change-at-requires : tie.Need-change_at-change-requires
change-at-requires c κs = search rules

count-after-requires : tie.Need-count_after-n-requires
count-after-requires c κs =
    let q = change c (pos 0) in
    omega (arith, q.left, q.right, c.requires, c.well_formed.1.1.1.1.1.0, c.if-count-cursor.false)

zero-all-requires : tie.Need-zero_all-requires
zero-all-requires c κs = search rules

same-length-2 : tie.Need-shape_of-items-then-room-n
same-length-2 c = search rules

returns-2 : tie.Need-returns-then-room-n
returns-2 c = λ b.
    let a = c.args in
    too_long (font_rules (c.before.before.before.before.before.before.before) b) a.items.now a.count a.cursor c.zero_all.new.s c.requires.0 c.requires.1 c.if-count-cursor.false c.change_at-change.result
    (change (c.before.before.before.before.before) b) c.count_after-n.result c.count_after-n.ensures c.if-room-n.true c.zero_all.ensures

change-items-requires : tie.Need-change_items-requires
change-items-requires c κs =
    let q = change (c.before.before.before) (pos 0) in
    record {
      there = omega (arith, c.if-count-cursor.false);
      within = omega (arith, c.requires);
      left = q.left;
      right = q.right;
      kind = q.kind;
      room = omega (arith, c.count_after-n.ensures, c.if-room-n.false);
    }

add-moved : tie.Need-overflow_add-moved
add-moved c =
    let q = change (c.before.before.before.before.before.before) (pos 0) in
    omega (arith, q.advance, c.requires, c.well_formed.1.1.1.1.1.0)

same-length-3 : tie.Need-shape_of-items
same-length-3 c = search rules

returns-3 : tie.Need-returns
returns-3 c = λ b.
    let a = c.args in
    stepped (font_rules (c.before.before.before.before.before.before.before.before) b) a.items.now a.count a.cursor c.change_items.new.items c.requires.0 c.requires.1 c.if-count-cursor.false c.change_at-change.result
    (change (c.before.before.before.before.before.before) b) c.count_after-n.result c.count_after-n.ensures c.if-room-n.false c.change_items.ensures

pub step_standing_spec : {M : Type 1} → statement M
step_standing_spec =
    tie.close
    (tie.spec
    add-if1
    mul-remove
    mul-remove-2
    sub-remove
    remove-requires
    same_length
    returns
    change-at-requires
    count-after-requires
    zero-all-requires
    same-length-2
    returns-2
    change-items-requires
    add-moved
    same-length-3
    returns-3)
