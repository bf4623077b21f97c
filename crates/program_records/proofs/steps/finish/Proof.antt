-- `program_records::steps::finish` meets its contract: where the walk is refused the list is zeroed, else what comes after the indices is.
-- Assumes nothing.
use mathlib.Core.Path.{◌≡◌, sym, ◌∙◌}
use mathlib.Core.List.{List, ◌++◌, append-nil}
use Prim.Native.Nat.{ℕ, ◌-◌, ◌≤◌}
use native.Mathlib.Omega.{arith}
use lib.IntN.{ℤ}
use lib.ListN.{length, take, drop, replicate, length-drop, drop_of_length-le}
use lib.Seq.{length-take-le}
use mir.Syntax.{w32}
use mir.Val.{of_z, to_z, SFits}
use mir.ValLaws.{to_z-of_z}
use borrow.Author.Rules.{rules}
use borrow.Rule.Slice.PartMut.{put_mid, Post-is}
use Rattle.lang.specs.declared.Written.TheVariants.{Count, Refused}
use Rattle.lang.specs.Answers.{room_refusal}
use Rattle.lang.proofs.Refusals.{or_else_none, room_fits, refused_answer, taken_answer}
use Rattle.lang.proofs.Filled.{refused_list}
use Rattle.program_records.specs.WalkSteps.{early_refusal, refusal_by, FinishesWalk}
use Rattle.program_records.proofs.steps.finish.Statement.{statement}
use Rattle.program_records.proofs.steps.finish.Tie as tie

-- the entry was passed on as its 32 bits
module _ (n : ℕ) (entry : ℤ) (count : ℕ) (out : List ℕ) (f : SFits w32 entry) (r : ℕ) (asked : r ≡ refusal_by n (to_z w32 (of_z w32 entry)) count (length out))
  where
    refusal_is : r ≡ refusal_by n entry count (length out)
    refusal_is = asked ∙ rw (to_z-of_z w32 entry f)

    refused : (r ≡ 0 → ⊥) → (out' : List ℕ) → out' ≡ replicate (length out) 0 → FinishesWalk n entry count out (Refused r) out'
    refused h out' z =
        record {
          answer = refused_answer count refusal_is h;
          list = refused_list 0 (length out) (take count out) refusal_is h z;
        }

    module _ (taken : r ≡ 0) where
      nothing-refused : refusal_by n entry count (length out) ≡ 0
      nothing-refused = sym refusal_is ∙ taken

      room : count ≤ length out
      room = room_fits count (length out) (or_else_none (early_refusal n entry) (room_refusal count (length out)) nothing-refused).1

      -- the part from `count` on is zeroed
      zeroed : (z : List ℕ) → z ≡ replicate (length (take (length out - count) (drop count out))) 0 →
          put_mid count (length out - count) out z ≡ take count out ++ replicate (length out - length (take count out)) 0
      zeroed z e =
          let l : length (take (length out - count) (drop count out))
          ≡ length out - count = length-take-le (length out - count) (drop count out) (rw (length-drop count out) (omega arith)) in
          rw (Post-is count (length out) out room, drop_of_length-le out {i = length out} (omega arith), append-nil z, e, l, length-take-le count out room)

      written : (z : List ℕ) → z ≡ replicate (length (take (length out - count) (drop count out))) 0 →
          FinishesWalk n entry count out (Count count) (put_mid count (length out - count) out z)
      written z e =
          record {
            answer = taken_answer count nothing-refused;
            list = rw nothing-refused (zeroed z e);
          }

refusal-requires : tie.Need-refusal-refused-requires
refusal-requires c κs = search rules

zero-all-requires : tie.Need-zero_all-requires
zero-all-requires c κs = search rules

same_length : tie.Need-shape_of-out-then-refused-ne0
same_length c = search rules

returns : tie.Need-returns-then-refused-ne0
returns c =
    refused c.args.n c.args.entry c.args.count c.args.out.now c.ranges.entry c.refusal-refused.result c.refusal-refused.ensures c.if-refused-ne0.true
    c.zero_all.new.s c.zero_all.ensures

within : (c : tie.Else-refused-ne0) → c.args.count ≤ length c.args.out.now
within c =
    room c.args.n c.args.entry c.args.count c.args.out.now c.ranges.entry c.refusal-refused.result c.refusal-refused.ensures c.if-refused-ne0.false

mul-zero-u32 : tie.Need-offset_bounds-out-count
mul-zero-u32 c = omega (arith, within c, c.well_formed.1.1.1.0.1)

sub-zero-u32 : tie.Need-slice_bounds-zero_all-count
sub-zero-u32 c = within c

part-zero-u32-start : tie.Need-slice_bounds-zero_all-start
part-zero-u32-start c = within c

part-zero-u32-end : tie.Need-slice_bounds-zero_all-end
part-zero-u32-end c = search rules

zero-all-requires-2 : tie.Need-zero_all-requires-2
zero-all-requires-2 c κs = search rules

same-length-2 : tie.Need-shape_of-out
same-length-2 c = search rules

returns-2 : tie.Need-returns
returns-2 c =
    written c.args.n c.args.entry c.args.count c.args.out.now c.ranges.entry c.refusal-refused.result c.refusal-refused.ensures c.if-refused-ne0.false
    c.zero_all-2.new.s c.zero_all-2.ensures

pub finish_spec : {M : Type 1} → statement M
finish_spec =
    tie.close
    (tie.spec
    refusal-requires
    zero-all-requires
    same_length
    returns
    mul-zero-u32
    sub-zero-u32
    part-zero-u32-start
    part-zero-u32-end
    zero-all-requires-2
    same-length-2
    returns-2)
