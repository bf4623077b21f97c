-- `c_chip_step::step_in` meets its contract: a step over the letters that stand in the list, from the state that stands there.
-- Assumes nothing.
use mathlib.Core.Path.{◌≡◌, sym, ap, ◌∙◌}
use Prim.Native.Nat.{ℕ, ◌-◌}
use native.Mathlib.Omega.{arith}
use lib.ListN.{length, get_or, take, drop, replicate, length-append, length-drop, length-replicate}
use lib.Seq.{length-take-le}
use Rattle.words.specs.Words.{word_of, number_of}
use Rattle.words.proofs.Bits.{number_word}
use Rattle.captions.specs.Begin.{plain_options}
use Rattle.captions.specs.Steps.{step_of}
use Rattle.captions.proofs.Replies.{stepped_is}
use Rattle.c_chips.specs.ChipLists.{letters_at}
use Rattle.c_chips.proofs.Laws.{chip_long, chip_few, letters_asked, letters_given, state_given}
use borrow.Author.Rules.{rules}
use Rattle.c_chip_step.proofs.step_in.Statement.{statement}
use Rattle.c_chip_step.proofs.step_in.Tie as tie

-- 64 letters
letters_long : (c : tie.After-letters_of-letters) → length c.letters_of-letters.result ≡ 64
letters_long c =
    let ns = c.args.list.now in
    let n = get_or ns 1 0 in
    let h = c.requires in
    let l : length (take n (drop 18 ns)) ≡ n = length-take-le n (drop 18 ns) (omega (arith, length-drop 18 ns, chip_long ns h, chip_few ns h)) in
    let e : length (letters_at n ns) ≡ 64 =
    length-append (take n (drop 18 ns)) (replicate (64 - n) 0) ∙ omega (arith, l, length-replicate {A = ℕ} (64 - n) 0, chip_few ns h) in
    ap length (c.letters_of-letters.ensures ∙ letters_given ns h) ∙ e

shared-slice-read-length : tie.Need-bounds-list-1
shared-slice-read-length c = omega (arith, chip_long c.args.list.now c.requires)

add-end : tie.Need-overflow_add-end
add-end c =
    omega (arith, chip_long c.args.list.now c.requires, chip_few c.args.list.now c.requires)

sub-letters-of : tie.Need-slice_bounds-letters_of-count
sub-letters-of c = search rules

part-letters-of-start : tie.Need-slice_bounds-letters_of-start
part-letters-of-start c = search rules

part-letters-of-end : tie.Need-slice_bounds-letters_of-end
part-letters-of-end c =
    omega (arith, chip_long c.args.list.now c.requires, chip_few c.args.list.now c.requires)

letters-of-requires : tie.Need-letters_of-letters-requires
letters-of-requires c κs = letters_asked c.args.list.now c.requires

sub-state-in : tie.Need-slice_bounds-state_in-count
sub-state-in c = omega (arith, chip_long c.args.list.now c.requires)

part-state-in-start : tie.Need-slice_bounds-state_in-start
part-state-in-start c = omega (arith, chip_long c.args.list.now c.requires)

part-state-in-end : tie.Need-slice_bounds-state_in-end
part-state-in-end c = search rules

state-in-requires : tie.Need-state_in-state-requires
state-in-requires c κs = search rules

array-share-prefix-letters : tie.Need-slice_bounds-letters-end
array-share-prefix-letters c =
    omega (arith, letters_long c.before.before, chip_few c.args.list.now c.requires)

slice-aggregate-step : tie.Need-slice_bounds-step-end
slice-aggregate-step c =
    sym (length-take-le (get_or c.args.list.now 1 0) c.letters_of-letters.result (omega (arith, letters_long (c.before.before.before), chip_few c.args.list.now c.requires)))

step-requires : tie.Need-step-requires
step-requires c κs = search rules

returns : tie.Need-returns
returns c =
    let a = c.args in
    let ns = a.list.now in
    stepped_is a.pairs.now a.ops.now (number_of (word_of a.boundary)) (take (get_or ns 1 0) c.letters_of-letters.result) plain_options c.state_in-state.result
    c.step.ensures
    ∙ (λ j. step_of a.pairs.now a.ops.now (number_word a.boundary c.ranges.boundary j)
    (take (get_or ns 1 0) ((c.letters_of-letters.ensures ∙ letters_given ns c.requires) j)) plain_options ((c.state_in-state.ensures ∙ state_given ns c.requires) j))

pub step_in_spec : {M : Type 1} → statement M
step_in_spec =
    tie.close
    (tie.spec
    shared-slice-read-length
    add-end
    sub-letters-of
    part-letters-of-start
    part-letters-of-end
    letters-of-requires
    sub-state-in
    part-state-in-start
    part-state-in-end
    state-in-requires
    array-share-prefix-letters
    slice-aggregate-step
    step-requires
    returns)
