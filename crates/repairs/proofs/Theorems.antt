-- What is proved of repair: the statements of specs/Purpose.
-- Assumes nothing.
use Prim.Native.Nat.{ℕ, ◌/◌, ◌<◌}
use native.Mathlib.Omega.{arith}
use lib.IntN.{negsuc}
use lib.ListN.{length}
use Rattle.lang.specs.Records.{count}
use Rattle.fonts.proofs.Theorems.{no_loops, reported_never}
use Rattle.repairs.specs.Damaged.{left_goes}
use Rattle.repairs.specs.Repaired.{repaired_font}
use Rattle.repairs.specs.Committing.{commit_room}
use Rattle.repairs.specs.Purpose.{Untouched, again, TakenAgain, UnpackedAgain, RepairedOnce, RepairedInVain, LoopsTrue, NoLoopAtAnySize}
use Rattle.repairs.specs.Purpose.{SameWhenEqual, AskedThenCommitted, EveryCommit, NothingToRepair}
use Rattle.repairs.proofs.Steps.{same_count}
use Rattle.repairs.proofs.Warned.{none_warned}
use Rattle.repairs.proofs.Kept.{cond_false, program_kept}
use Rattle.repairs.proofs.SameReach.{same_unpacked, left_sound}
use Rattle.repairs.proofs.Once.{skip_sound, right_sound, right_back, kern_sound, product_sound, product_back, tag_sound}
use Rattle.repairs.proofs.Taken
use Rattle.repairs.proofs.Loopless
use Rattle.repairs.proofs.Committing

-- A program without a warning of kinds 1 to 9 is left as it is.
pub untouched : Untouched
untouched d e w =
    let g = none_warned d w in
    record { left = cond_false (left_goes d) (negsuc 0) d.left g.left; instructions = program_kept d e g }

-- A font that is not refused is not refused when it is repaired and lent again, and its entries unpack to the same instructions.
pub taken_again : TakenAgain
taken_again d e = Taken.taken_again d e

pub unpacked_again : UnpackedAgain
unpacked_again d = same_unpacked d (length d.entries / 2)

-- The repaired program lent again, with a replacement that exists, is not warned of with kinds 1, 3, 4, 5, 6, 7, 8.
pub repaired_once : RepairedOnce
repaired_once d taken small exist =
    record {
      left = left_sound d;
      skips = λ i h. skip_sound d i (below h) taken;
      rights = λ i h. right_sound d i (below h) exist;
      kern_indices = λ i h. kern_sound d i (below h);
      products = λ i h. product_sound d i (below h) small exist;
      tags = λ i h. tag_sound d i (below h) small;
    }
  where
    below : {i : ℕ} → i < count (again d).instructions → i < count d.instructions
    below h = omega (arith, h, same_count d)

-- With a replacement that does not exist, 4 and 5 come back unless it is the boundary character, and 6 comes back.
pub repaired_in_vain : RepairedInVain
repaired_in_vain d small none =
    record { rights = λ i h. right_back d i h none; products = λ i h. product_back d i h small none }

-- The loops warned of never end in the repaired font, and there are none exactly when every pair of it ends.
pub loops_true : LoopsTrue
loops_true d = record { never = reported_never (repaired_font d); none = no_loops (repaired_font d) }

-- Repaired without a warning of kind 10, a font compiles without a loop at every design size.
pub no_loop_at_any_size : NoLoopAtAnySize
no_loop_at_any_size d h size = Loopless.no_loop_at_any_size d h size

-- The test of two lists says whether they are equal.
pub same_when_equal : SameWhenEqual
same_when_equal handed found = Committing.same_when_equal handed found

-- Asked, and then committed with the list cut to its count, a font is repaired as the whole repair does it.
pub asked_then_committed : AskedThenCommitted
asked_then_committed d warnings work n warnings' work' asks fixed through found later r fixed' through' found' later' commits long bytes places rows =
    Committing.in_two d warnings work n warnings' work' asks fixed through found later r fixed' through' found' later' commits long bytes places rows

-- Committing answers 25, or is taken, exactly when no lower number holds and the lists differ, or are equal.
pub every_commit : EveryCommit
every_commit d handed fixed through found work r fixed' through' found' work' commits =
    Committing.committed_by d handed (commit_room fixed through found work) r commits.answer

-- Of a font without warnings only the empty list is taken, and the left entry and the instructions stay.
pub nothing_to_repair : NothingToRepair
nothing_to_repair d handed fixed through found work left fixed' through' found' work' commits e =
    Committing.nothing_changed d handed fixed through found work left fixed' through' found' work' commits e
    (λ ok. untouched d ok (Committing.no_repair_warnings d e))
