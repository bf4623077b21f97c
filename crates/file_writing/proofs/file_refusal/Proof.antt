-- `file_writing::file_refusal` meets its contract: the first of three numbers that is not 0.
-- Assumes nothing.
use mathlib.Core.Path.{◌≡◌, sym, ap, ◌∙◌}
use Prim.Native.Nat.{ℕ, ◌*◌, ◌≤◌}
use native.Mathlib.Omega.{arith}
use Rattle.words.proofs.Bits.{number_word}
use Rattle.lang.specs.Answers.{room_refusal}
use Rattle.lang.proofs.Refusals.{first_refusal, later_refusal_lem}
use Rattle.files.specs.declared.FileLengths.{FileLengths}
use Rattle.files.specs.Writing.{Writable, writable, writable_refusal, written_size, written_lengths}
use Rattle.files.proofs.Taken.{font_writes}
use borrow.Author.Rules.{rules}
use Rattle.file_writing.proofs.file_refusal.Statement.{statement}
use Rattle.file_writing.proofs.file_refusal.Tie as tie

-- the function's start, from where 18 is asked
abbrev start : tie.After-writable_refusal-font → tie.Start
start w = w.before.before.before

-- the font that is lent
abbrev font : tie.Start → Writable
font s = let a = s.args in writable a.instructions.now a.kerns.now a.entries.now a.boundary a.left_entry

asked : (w : tie.After-writable_refusal-font) → let s = start w in
    w.writable_refusal-font.result ≡ writable_refusal s.args.old.now (font s) s.args.n s.args.k
asked w =
    let s = start w in
    let a = s.args in
    w.writable_refusal-font.ensures
    ∙ (λ i. writable_refusal a.old.now
    (writable a.instructions.now a.kerns.now a.entries.now (number_word a.boundary s.ranges.boundary i)
    (number_word a.left_entry s.ranges.left_entry i)) a.n a.k)

-- where 18 is not answered the file is small enough
small : (e : tie.Else-font-ne0) → let a = (start e.before.before).args in written_size a.old.now a.n a.k ≤ 32767
small e =
    let s = start e.before.before in
    (font_writes s.args.old.now (font s) s.args.n s.args.k (sym (asked e.before.before) ∙ e.if-font-ne0.false)).size

size : (m : tie.After-written_size) → let a = (start m.before.before.before.before).args in
    m.written_size.result ≡ written_size a.old.now a.n a.k
size m =
    let a = (start m.before.before.before.before).args in
    m.written_size.ensures ∙ ap (λ (l : FileLengths). (written_lengths l a.n a.k).lf) m.lengths_of.ensures

lengths-refusal-requires : tie.Need-lengths_refusal-lengths-requires
lengths-refusal-requires c κs = search rules

returns : tie.Need-returns-then-lengths-ne0
returns c = first_refusal _ c.lengths_refusal-lengths.ensures c.if-lengths-ne0.true

writable-refusal-requires : tie.Need-writable_refusal-font-requires
writable-refusal-requires c κs = search rules

returns-2 : tie.Need-returns-then-font-ne0
returns-2 c =
    later_refusal_lem c.lengths_refusal-lengths.ensures c.if-lengths-ne0.false (first_refusal _ (asked (c.before.before)) c.if-font-ne0.true)

lengths-of-requires : tie.Need-lengths_of-requires
lengths-of-requires c κs = search rules

cast-written-size : tie.Need-overflow_cast-n
cast-written-size c = omega (arith, small c.before)

cast-written-size-2 : tie.Need-overflow_cast-k
cast-written-size-2 c = omega (arith, small c.before)

written-size-requires : tie.Need-written_size-requires
written-size-requires c κs = search rules

mul-room-refusal : tie.Need-overflow_mul-written_size
mul-room-refusal c = omega (arith, small c.before.before, size c)

room-refusal-requires : tie.Need-room_refusal-requires
room-refusal-requires c κs = search rules

returns-3 : tie.Need-returns
returns-3 c =
    later_refusal_lem c.lengths_refusal-lengths.ensures c.if-lengths-ne0.false
    (later_refusal_lem (asked (c.before.before.before.before.before)) c.if-font-ne0.false
    (c.room_refusal.ensures ∙ ap (λ (n : ℕ). room_refusal (4 * n) (start (c.before.before.before.before.before)).args.room) (size (c.before))))

pub file_refusal_spec : {M : Type 1} → statement M
file_refusal_spec =
    tie.close
    (tie.spec
    lengths-refusal-requires
    writable-refusal-requires
    returns
    returns-2
    lengths-of-requires
    cast-written-size
    cast-written-size-2
    written-size-requires
    mul-room-refusal
    room-refusal-requires
    returns-3)
