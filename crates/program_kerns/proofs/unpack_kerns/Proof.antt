-- `program_kerns::unpack_kerns` meets its contract: zeros where it is refused, also where the kerns turn out to be too many, else the unpacked program, the
-- kerns, and zeros. Assumes nothing.
use mathlib.Core.Path.{◌≡◌, refl, sym, ◌∙◌}
use mathlib.Core.List.{List, ◌++◌}
use Prim.Native.Nat.{ℕ, ◌<◌, ◌≤◌}
use native.Mathlib.Omega.{arith}
use lib.IntN.{ℤ, pos}
use lib.ListN.{length, take, drop, replicate}
use lib.Seq.{length-take-le}
use Rattle.words.specs.Lists.{tabulate}
use Rattle.words.proofs.Lists.{appending_rest}
use Rattle.lang.specs.Records.{count, field, is_kind}
use Rattle.lang.specs.Checks.{program_refusal, or_else}
use Rattle.lang.specs.Answers.{room_refusal}
use Rattle.program_kerns.specs.Kerns.{changed, kern_place, kerns_of, unpacked, unpack_kerns_refusal, UnpacksKerns}
use Rattle.program_kerns.specs.Sharing.{Linked, Gathered, Counted}
use Rattle.lang.specs.declared.Written.TheVariants.{Count, Refused}
use Rattle.lang.proofs.Refusals.{or_else_assoc, or_else_none, first_refusal, room_fits, room_short, room_is, program_size, refused_answer}
use Rattle.lang.proofs.Filled.{refused_list, written_list}
use Rattle.program_kerns.proofs.Sharing.{gathered_none, gathered_front}
use borrow.Author.Rules.{rules}
use Rattle.program_kerns.proofs.unpack_kerns.Statement.{statement}
use Rattle.program_kerns.proofs.unpack_kerns.Tie as tie

-- zeros for both lists, whatever the refusal
refused : {s out kerns out' kerns' : List ℤ} {r : ℕ} → out' ≡ replicate (length out) (pos 0) → kerns' ≡ replicate (length kerns) (pos 0) →
    r ≡ unpack_kerns_refusal s (length out) (length kerns) → (r ≡ 0 → ⊥) → UnpacksKerns s out kerns (Refused r) out' kerns'
refused {s} {out} {kerns} e f n h =
    record {
      answer = refused_answer (length (kerns_of s)) n h;
      list = refused_list (pos 0) (length out) (unpacked s) n h e;
      shares = refused_list (pos 0) (length kerns) (kerns_of s) n h f;
    }

-- z and y are the lists of zeros, r the refusal before the kerns are counted
record Begun (s out kerns z y : List ℤ) (r : ℕ) : Type 0 where
  out-zeros : z ≡ replicate (length out) (pos 0)
  out-same : length z ≡ length out
  kerns-zeros : y ≡ replicate (length kerns) (pos 0)
  kerns-same : length y ≡ length kerns
  early : r ≡ or_else (program_refusal s) (room_refusal (length s) (length z))

-- m kerns were counted
record Ended (s y kerns' : List ℤ) (links : List ℕ) (m : ℕ) : Type 0 where
  counted : Counted s (count s) (length y) kerns' links m
  kept : length kerns' ≡ length y

module _ {s out kerns z y : List ℤ} {r : ℕ} (b : Begun s out kerns z y r) where
  number : unpack_kerns_refusal s (length out) (length kerns) ≡ or_else r (room_refusal (length (kerns_of s)) (length kerns))
  number =
      or_else_assoc (program_refusal s) (room_refusal (length s) (length out)) (room_refusal (length (kerns_of s)) (length kerns))
      ∙ rw (b.early, b.out-same)

  refused-early : (r ≡ 0 → ⊥) → UnpacksKerns s out kerns (Refused r) z y
  refused-early h = refused b.out-zeros b.kerns-zeros (first_refusal (room_refusal (length (kerns_of s)) (length kerns)) refl h ∙ sym number) h

  module _ (passed : r ≡ 0) where
    -- what is left to refuse is the room for the kerns
    late : unpack_kerns_refusal s (length out) (length kerns) ≡ room_refusal (length (kerns_of s)) (length kerns)
    late = number ∙ rw passed

    size : count s ≤ 32767
    size = program_size s (or_else_none (program_refusal s) (room_refusal (length s) (length z)) (sym b.early ∙ passed)).0

    enough : length s ≤ length z
    enough = room_fits (length s) (length z) (or_else_none (program_refusal s) (room_refusal (length s) (length z)) (sym b.early ∙ passed)).1

    starts : Gathered s 0 (length y) y (replicate 65536 0) 0
    starts = gathered_none s (length y) y (replicate 65536 0) (rw b.kerns-same b.kerns-zeros) refl

    module _ {kerns' : List ℤ} {links : List ℕ} {m : ℕ} (e : Ended s y kerns' links m) where
      refused-late : {kerns'' : List ℤ} → length kerns' < m → kerns'' ≡ replicate (length kerns') (pos 0) → UnpacksKerns s out kerns (Refused 15) z kerns''
      refused-late h zeros =
          let l : length y < m = omega (arith, e.kept) in
          refused b.out-zeros (rw (← b.kerns-same, ← e.kept) zeros)
          (sym (late ∙ room_short (length (kerns_of s)) (length kerns) (omega (arith, e.counted.short l, b.kerns-same)))) (λ x. omega arith)

      module _ (h : m ≤ length kerns') where
        all : Gathered s (count s) (length y) kerns' links m
        all = e.counted.whole (omega (arith, e.kept))

        linked : Linked (take m kerns') links
        linked = rw (gathered_front all) all.linked

        done : {out' : List ℤ} →
            out' ≡ tabulate (length s) (changed s (is_kind 0 s) (pos 1) (λ i. pos (kern_place (field s i 3) (take m kerns')))) ++ drop (length s) z →
            UnpacksKerns s out kerns (Count m) out' kerns'
        done w =
            let none : unpack_kerns_refusal s (length out) (length kerns)
            ≡ 0 = late ∙ room_is (length (kerns_of s)) (length kerns) (omega (arith, all.counted, e.kept, b.kerns-same)) in
            record {
              answer = rw (none, all.counted);
              list =
                  written_list (pos 0) (length out) (length s) (changed s (is_kind 0 s) (pos 1) (λ i. pos (kern_place (field s i 3) (kerns_of s)))) none
                  b.out-zeros (rw (gathered_front all) at w);
              shares = rw (none, ← b.kerns-same) (appending_rest (replicate (length y) (pos 0)) (pos 0) (length y) refl all.stands);
            }

begun : (c : tie.After-unpack_refusal-refusal) → Begun c.args.instructions.now c.args.out.now c.args.kerns.now c.zero_all.new.s
    c.zero_all-2.new.s c.unpack_refusal-refusal.result
begun c =
    record { out-zeros = c.zero_all.ensures; out-same = c.zero_all.auto.s; kerns-zeros = c.zero_all-2.ensures; kerns-same = c.zero_all-2.auto.s; early = c.unpack_refusal-refusal.ensures }

ended : (c : tie.After-gather-m) → Ended c.args.instructions.now c.zero_all-2.new.s c.gather-m.new.kerns c.gather-m.new.links c.gather-m.result
ended c = record { counted = c.gather-m.ensures; kept = c.gather-m.auto.kerns }

zero-all-requires : tie.Need-zero_all-requires
zero-all-requires c κs = search rules

zero-all-requires-2 : tie.Need-zero_all-requires-2
zero-all-requires-2 c κs = search rules

unpack-refusal-requires : tie.Need-unpack_refusal-refusal-requires
unpack-refusal-requires c κs = search rules

same_length : tie.Need-shape_of-out-then-refusal-ne0
same_length c = search rules

same-length-2 : tie.Need-shape_of-kerns-then-refusal-ne0
same-length-2 c = search rules

returns : tie.Need-returns-then-refusal-ne0
returns c = refused-early (begun c.before) c.if-refusal-ne0.true

gather-requires : tie.Need-gather-m-requires
gather-requires c κs = let b = begun c.before.before.before in (size b c.if-refusal-ne0.false, starts b c.if-refusal-ne0.false)

zero-all-requires-3 : tie.Need-zero_all-requires-then-kerns-m
zero-all-requires-3 c κs = search rules

same-length-3 : tie.Need-shape_of-out-then-kerns-m
same-length-3 c = search rules

same-length-4 : tie.Need-shape_of-kerns-then-kerns-m
same-length-4 c = search rules

returns-2 : tie.Need-returns-then-kerns-m
returns-2 c =
    refused-late (begun c.before.before.before.before.before.before.before.before.before) c.if-refusal-ne0.false (ended (c.before.before.before.before.before)) c.if-kerns-m.true
    c.zero_all-then-kerns-m.ensures

slice-reshare-prefix-write-unpacked : tie.Need-slice_bounds-write_unpacked-end
slice-reshare-prefix-write-unpacked c = search rules

slice-aggregate-write-unpacked : tie.Need-slice_bounds-write_unpacked-end-2
slice-aggregate-write-unpacked c = sym (length-take-le c.gather-m.result c.gather-m.new.kerns c.if-kerns-m.false)

write-unpacked-requires : tie.Need-write_unpacked-requires
write-unpacked-requires c κs =
    let b = begun c.before.before.before.before.before.before.before.before in
    (linked b c.if-refusal-ne0.false (ended (c.before.before.before.before)) c.if-kerns-m.false, enough b c.if-refusal-ne0.false)

same-length-5 : tie.Need-shape_of-out
same-length-5 c = search rules

same-length-6 : tie.Need-shape_of-kerns
same-length-6 c = search rules

returns-3 : tie.Need-returns
returns-3 c =
    done (begun c.before.before.before.before.before.before.before.before.before.before) c.if-refusal-ne0.false (ended (c.before.before.before.before.before.before)) c.if-kerns-m.false
    c.write_unpacked.ensures

pub unpack_kerns_spec : {M : Type 1} → statement M
unpack_kerns_spec =
    tie.close
    (tie.spec
    zero-all-requires
    zero-all-requires-2
    unpack-refusal-requires
    same_length
    same-length-2
    returns
    gather-requires
    zero-all-requires-3
    same-length-3
    same-length-4
    returns-2
    slice-reshare-prefix-write-unpacked
    slice-aggregate-write-unpacked
    write-unpacked-requires
    same-length-5
    same-length-6
    returns-3)
