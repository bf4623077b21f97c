-- `program_kerns::pack_kerns` meets its contract: zeros where it is refused, else the packed program and zeros.
-- Assumes nothing.
use mathlib.Core.Path.{◌≡◌, sym, ◌∙◌}
use mathlib.Core.List.{List, ◌++◌}
use Prim.Native.Nat.{ℕ, ◌≤◌}
use lib.IntN.{ℤ, pos}
use lib.ListN.{length, drop, replicate}
use Rattle.lang.specs.Records.{count, is_kind}
use Rattle.lang.specs.Checks.{program_refusal, kerns_refusal, or_else}
use Rattle.lang.specs.Answers.{room_refusal}
use Rattle.program_kerns.specs.Kerns.{changed, kern_at, packed, pack_refusal, PacksKerns}
use Rattle.lang.specs.declared.Written.TheVariants.{Count, Refused}
use Rattle.lang.proofs.Refusals.{or_else_none, room_fits, refused_answer, taken_answer}
use Rattle.lang.proofs.Filled.{refused_list, written_list}
use borrow.Author.Rules.{rules}
use Rattle.program_kerns.proofs.pack_kerns.Statement.{statement}
use Rattle.program_kerns.proofs.pack_kerns.Tie as tie

-- z is the list of zeros, r the refusal
record Begun (s kerns out z : List ℤ) (r : ℕ) : Type 0 where
  zeros : z ≡ replicate (length out) (pos 0)
  same : length z ≡ length out
  refusal : r ≡ pack_refusal s kerns (length z)

module _ {s kerns out z : List ℤ} {r : ℕ} (b : Begun s kerns out z r) where
  number : r ≡ pack_refusal s kerns (length out)
  number = rw b.same at b.refusal

  refused : (r ≡ 0 → ⊥) → PacksKerns s kerns out (Refused r) z
  refused h =
      record {
        answer = refused_answer (count s) number h;
        list = refused_list (pos 0) (length out) (packed s kerns) number h b.zeros;
      }

  enough : r ≡ 0 → length s ≤ length z
  enough e =
      room_fits (length s) (length z)
      (or_else_none (kerns_refusal kerns) (room_refusal (length s) (length z))
      (or_else_none (program_refusal s) (or_else (kerns_refusal kerns) (room_refusal (length s) (length z))) (sym b.refusal ∙ e)).1).1

  done : {out' : List ℤ} → r ≡ 0 → out' ≡ packed s kerns ++ drop (length s) z → PacksKerns s kerns out (Count (count s)) out'
  done e w =
      record {
        answer = taken_answer (count s) (sym number ∙ e);
        list = written_list (pos 0) (length out) (length s) (changed s (is_kind 1 s) (pos 0) (kern_at s kerns)) (sym number ∙ e) b.zeros w;
      }

begun : (c : tie.After-pack_refusal-refusal) →
    Begun c.args.instructions.now c.args.kerns.now
    c.args.out.now c.zero_all.new.s c.pack_refusal-refusal.result
begun c = record { zeros = c.zero_all.ensures; same = c.zero_all.auto.s; refusal = c.pack_refusal-refusal.ensures }

zero-all-requires : tie.Need-zero_all-requires
zero-all-requires c κs = search rules

pack-refusal-requires : tie.Need-pack_refusal-refusal-requires
pack-refusal-requires c κs = search rules

same_length : tie.Need-shape_of-out-then-refusal-ne0
same_length c = search rules

returns : tie.Need-returns-then-refusal-ne0
returns c = refused (begun c.before) c.if-refusal-ne0.true

write-packed-requires : tie.Need-write_packed-requires
write-packed-requires c κs = enough (begun c.before.before) c.if-refusal-ne0.false

same-length-2 : tie.Need-shape_of-out
same-length-2 c = search rules

returns-2 : tie.Need-returns
returns-2 c = done (begun c.before.before.before.before) c.if-refusal-ne0.false c.write_packed.ensures

pub pack_kerns_spec : {M : Type 1} → statement M
pack_kerns_spec =
    tie.close
    (tie.spec
    zero-all-requires
    pack-refusal-requires
    same_length
    returns
    write-packed-requires
    same-length-2
    returns-2)
