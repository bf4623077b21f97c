-- What is proved of repair (proofs/Theorems). No contract cites this.
use Rattle.std.specs.Prelude.{◌≡◌, true, false, not, ◌↔◌, ℕ, ◌*◌, ◌/◌, ◌<◌, ◌≤◌, ℤ, pos, length, get_or, take, replicate}
use mathlib.Core.List.{List, [], Memᴰ}
use Rattle.lang.specs.declared.Written.TheVariants.{Count}
use Rattle.lang.specs.Every.{both}
use Rattle.lang.specs.Checks.{program_refusal}
use Rattle.lang.specs.Answers.{padded}
use Rattle.lang.specs.Records.{count}
use Rattle.reading.specs.Items.{Left}
use Rattle.reading.specs.Reading.{NeverEnds, Ends}
use Rattle.reading.specs.Depth.{Pair}
use Rattle.fonts.specs.declared.Compiled.{Compiled}
use Rattle.fonts.specs.declared.Compiled.TheVariants.{Tables}
use Rattle.fonts.specs.Fonts.{Font, font_of, rules_of}
use Rattle.fonts.specs.Compiled.{loops_of_font, font_loops, Compiles}
use Rattle.repairs.specs.declared.Committed.{Committed}
use Rattle.repairs.specs.declared.Committed.TheVariants.{Fixed, Refused}
use Rattle.repairs.specs.declared.Validated.TheVariants as validated
use Rattle.repairs.specs.Damaged.{Damaged, program_of, unpacked_entries, repaired_passthrough, left_goes, repaired_left}
use Rattle.repairs.specs.Repaired.{exists, is_boundary, skip_goes, right_goes, kern_goes, product_goes, tag_goes, repaired_instructions}
use Rattle.repairs.specs.Repaired.{repaired_font}
use Rattle.repairs.specs.Warnings.{repair_warnings, warnings_of}
use Rattle.repairs.specs.Repairs.{damaged_refusal, repaired_pairs_refusal, Repairs}
use Rattle.repairs.specs.Asking.{Asks}
use Rattle.repairs.specs.Committing.{same_numbers, CommitRoom, commit_room, commit_room_refusal, Commits}

-- repair leaves the left entry and the instructions as they are
pub record LeftAsItIs (d : Damaged) : Type 0 where
  pub left : repaired_left d ≡ d.left
  pub instructions : repaired_instructions d ≡ d.instructions

-- a program that is not refused, and not warned of with kinds 1 to 9, is left as it is
abbrev pub Untouched : Type 0
Untouched = (d : Damaged) → program_refusal d.instructions ≡ 0 → repair_warnings d ≡ [] → LeftAsItIs d

-- the repaired font lent again, with the same entries
abbrev pub again : Damaged → Damaged
again d =
    record {
      instructions = repaired_instructions d;
      kerns = d.kerns;
      entries = d.entries;
      boundary = d.boundary;
      left = repaired_left d;
      replacement = d.replacement;
      existing = d.existing;
      passthrough = repaired_passthrough d;
    }

-- a font that is not refused with 1 to 4 is not refused with them when it is repaired and lent again
abbrev pub TakenAgain : Type 0
TakenAgain = (d : Damaged) → damaged_refusal d ≡ 0 → damaged_refusal (again d) ≡ 0

-- its entries unpack in the repaired program as they do in the damaged one: the same ones, to the same instructions
abbrev pub UnpackedAgain : Type 0
UnpackedAgain = (d : Damaged) → unpacked_entries (again d) ≡ unpacked_entries d

-- what it is not warned of: kinds 1, 3, 4, 5, 6, 7, 8
pub record Sound (d : Damaged) : Type 0 where
  pub left : left_goes d ≡ false
  pub skips : (i : ℕ) → i < count d.instructions → skip_goes (program_of d) i ≡ false
  pub rights : (i : ℕ) → i < count d.instructions → right_goes (program_of d) i ≡ false
  pub kern_indices : (i : ℕ) → i < count d.instructions → kern_goes (program_of d) i ≡ false
  pub products : (i : ℕ) → i < count d.instructions → product_goes (program_of d) i ≡ false
  pub tags : (i : ℕ) → i < count d.instructions → tag_goes (program_of d) i ≡ false

-- with a replacement that exists none of them comes back
abbrev pub RepairedOnce : Type 0
RepairedOnce =
    (d : Damaged) → program_refusal d.instructions ≡ 0 → d.replacement < 256 → exists (program_of d) d.replacement ≡ true →
    Sound (again d)

-- with one that does not exist, 4 and 5 come back at the steps that had them, unless it is the boundary character, and 6 at those that
-- had it
pub record ComesBack (d : Damaged) : Type 0 where
  pub rights : (i : ℕ) → i < count d.instructions →
      right_goes (program_of (again d)) i ≡ both (right_goes (program_of d) i) (not (is_boundary (program_of d) (pos d.replacement)))
  pub products : (i : ℕ) → i < count d.instructions → product_goes (program_of (again d)) i ≡ product_goes (program_of d) i

-- so it is of every font whose replacement does not exist
abbrev pub RepairedInVain : Type 0
RepairedInVain = (d : Damaged) → d.replacement < 256 → exists (program_of d) d.replacement ≡ false → ComesBack d

-- ---- loops (R178)

-- those of the repaired font, which are warned of, never end, and there are none exactly when every pair of it ends
pub record WarnedLoops (d : Damaged) : Type 0 where
  pub never : (p : Pair) → Memᴰ p (loops_of_font (repaired_font d)) → NeverEnds (rules_of (repaired_font d)) p.left p.right
  pub none : (loops_of_font (repaired_font d) ≡ []) ↔ ((l : Left) (r : ℕ) → Ends (rules_of (repaired_font d)) l r)

-- so it is of every font
abbrev pub LoopsTrue : Type 0
LoopsTrue = (d : Damaged) → WarnedLoops d

-- the repaired font as it is lent to compile, at a design size: its entries are those that unpack, unpacked; its kerns and its boundary
-- character are those that repair was lent
abbrev pub compiled_at : Damaged → ℤ → Font
compiled_at d size = font_of (repaired_instructions d) d.kerns (unpacked_entries d) d.boundary (repaired_left d) size

-- no warning of a list is of a kind: they are four numbers each, the kind first (R167)
abbrev pub NoneOfKind : ℕ → List ℤ → Type 0
NoneOfKind kind warnings = (i : ℕ) → i < length warnings / 4 → get_or warnings (4 * i) (pos 0) ≡ pos kind → ⊥

-- compile, which answers r, reports no loop: it counts none (R91), and leaves zeros in the loop list that it was lent
pub record ReportsNoLoop (r : Compiled) (loops loops' : List ℤ) : Type 0 where
  pub counted : (p o l : ℕ) → r ≡ Tables p o l → l ≡ 0
  pub listed : loops' ≡ replicate (length loops) (pos 0)

-- a font has no loop, and compile reports none whatever lists it is lent beside it and whatever the number of the size is
pub record CompilesWithoutLoop (f : Font) : Type 0 where
  pub none : font_loops f ≡ []
  pub reported : (size : ℕ) (pairs ops loops : List ℤ) (work : List ℕ) (r : Compiled) (pairs' ops' loops' : List ℤ) (work' : List ℕ) →
      Compiles f size pairs ops loops work r pairs' ops' loops' work' → ReportsNoLoop r loops loops'

-- repaired without a warning of kind 10, a font compiles without a loop at every design size
abbrev pub NoLoopAtAnySize : Type 0
NoLoopAtAnySize = (d : Damaged) → NoneOfKind 10 (warnings_of d) → (size : ℤ) → CompilesWithoutLoop (compiled_at d size)

-- ---- asked, and committed (R401 to R406)

-- the test of two lists says whether they are equal
abbrev pub SameWhenEqual : Type 0
SameWhenEqual = (handed found : List ℤ) → (same_numbers handed found ≡ true) ↔ (handed ≡ found)

-- asked, and then committed with the list cut to its count, the same font is repaired, if the lists are long enough and the work is no
-- shorter than asking's; what the two calls leave is what the whole repair leaves
abbrev pub AskedThenCommitted : Type 0
AskedThenCommitted =
    (d : Damaged) (warnings : List ℤ) (work : List ℕ) (n : ℕ) (warnings' : List ℤ) (work' : List ℕ) →
    Asks d warnings work (Count n) warnings' work' →
    (fixed : List ℤ) (through : List ℕ) (found : List ℤ) (later : List ℕ) (r : Committed) (fixed' : List ℤ) (through' : List ℕ)
    (found' : List ℤ) (later' : List ℕ) →
    Commits d (take (4 * n) warnings') fixed through found later r fixed' through' found' later' →
    4 * count d.instructions ≤ length fixed → count d.instructions ≤ length through → 4 * n ≤ length found →
    length work ≤ length later →
    (r ≡ Fixed (repaired_left d))
    × Repairs d fixed through warnings later (validated.Fixed (repaired_left d) n) fixed' through' warnings' later'

-- no number of committing below 25 holds
pub record NoneLower (d : Damaged) (handed : List ℤ) (room : CommitRoom) : Type 0 where
  pub font : damaged_refusal d ≡ 0
  pub pairs : repaired_pairs_refusal d room.work ≡ 0
  pub lists : commit_room_refusal d handed room ≡ 0

-- what is answered, by the list handed over and the warnings of now: 25 exactly when no lower number holds and they differ; taken exactly
-- when no lower number holds and they are equal
pub record CommittedBy (d : Damaged) (handed : List ℤ) (room : CommitRoom) (r : Committed) : Type 0 where
  pub changed : (r ≡ Refused 25) ↔ (NoneLower d handed room × (handed ≡ warnings_of d → ⊥))
  pub taken : ((left : ℤ) × (r ≡ Fixed left)) ↔ (NoneLower d handed room × (handed ≡ warnings_of d))

-- so it is of every font and list
abbrev pub EveryCommit : Type 0
EveryCommit =
    (d : Damaged) (handed fixed : List ℤ) (through : List ℕ) (found : List ℤ) (work : List ℕ) (r : Committed) (fixed' : List ℤ)
    (through' : List ℕ) (found' : List ℤ) (work' : List ℕ) →
    Commits d handed fixed through found work r fixed' through' found' work' →
    CommittedBy d handed (commit_room fixed through found work) r

-- committed of a font without warnings: only the empty list was taken, and the left entry and the instructions are those that were lent
pub record NothingChanged (d : Damaged) (handed fixed fixed' : List ℤ) (left : ℤ) : Type 0 where
  pub empty : handed ≡ []
  pub entry : left ≡ d.left
  pub instructions : fixed' ≡ padded (pos 0) (length fixed) d.instructions

-- so it is of every font without warnings
abbrev pub NothingToRepair : Type 0
NothingToRepair =
    (d : Damaged) (handed fixed : List ℤ) (through : List ℕ) (found : List ℤ) (work : List ℕ) (left : ℤ) (fixed' : List ℤ)
    (through' : List ℕ) (found' : List ℤ) (work' : List ℕ) →
    Commits d handed fixed through found work (Fixed left) fixed' through' found' work' → warnings_of d ≡ [] →
    NothingChanged d handed fixed fixed' left
