-- `file_sections::write_front` meets its contract: each run of stores goes on where the one before it ended.
-- Assumes nothing.
use mathlib.Core.Path.{◌≡◌, ap, ◌∙◌}
use mathlib.Core.List.{List, ◌++◌}
use Prim.Native.Nat.{ℕ, ◌+◌, ◌*◌}
use native.Mathlib.Omega.{arith}
use lib.ListN.{length, length-append}
use lib.Seq.{sets}
use Rattle.files.specs.Lengths.{char_start}
use Rattle.files.specs.Sections.{file_bytes, half_bytes}
use Rattle.files.specs.Writing.{written_lengths}
use Rattle.files.proofs.Parts.{length_bytes}
use Rattle.file_sections.proofs.Lending.{runs_join}
use borrow.Author.Rules.{rules}
use Rattle.file_sections.proofs.write_front.Statement.{statement}
use Rattle.file_sections.proofs.write_front.Tie as tie

cast-written-size : tie.Need-overflow_cast-n
cast-written-size c = search rules

cast-written-size-2 : tie.Need-overflow_cast-k
cast-written-size-2 c = search rules

written-size-requires : tie.Need-written_size-requires
written-size-requires c κs = search rules

cast-put-half : tie.Need-overflow_cast-written_size
cast-put-half c = search rules

put-half-requires : tie.Need-put_half-requires
put-half-requires c κs = search rules

copy-part-requires : tie.Need-copy_part-requires
copy-part-requires c κs = search rules

cast-put-half-2 : tie.Need-overflow_cast-n-2
cast-put-half-2 c = search rules

put-half-requires-2 : tie.Need-put_half-requires-2
put-half-requires-2 c κs = search rules

cast-put-half-3 : tie.Need-overflow_cast-k-2
cast-put-half-3 c = search rules

put-half-requires-3 : tie.Need-put_half-requires-3
put-half-requires-3 c κs = search rules

char-start-requires : tie.Need-char_start-requires
char-start-requires c κs = search rules

mul-copy-part : tie.Need-overflow_mul-char_start
mul-copy-part c = search rules

copy-part-requires-2 : tie.Need-copy_part-requires-2
copy-part-requires-2 c κs = search rules

same_length : tie.Need-shape_of-out
same_length c = search rules

returns : tie.Need-returns
returns c =
    let a = c.args in
    let old = a.old.now in
    let l = a.l in
    let out = a.out.now in
    let A = half_bytes (written_lengths l a.n a.k).lf in
    let B = file_bytes old 2 16 in
    let b : length B ≡ 14 = length_bytes old 2 16 (omega (arith, c.requires.0)) in
    let three : length (A ++ B ++ half_bytes a.n) ≡ 18 = length-append (A ++ B) (half_bytes a.n) ∙ omega (arith, b) in
    let four : length (A ++ B ++ half_bytes a.n ++ half_bytes a.k) ≡ 20 =
    length-append (A ++ B ++ half_bytes a.n) (half_bytes a.k) ∙ omega (arith, three) in
    let j1 = c.put_half.ensures ∙ ap (λ (n : ℕ). sets out 0 (half_bytes n)) c.written_size.ensures in
    let j2 = runs_join out 0 2 A B j1 c.copy_part.ensures (omega arith) in
    let j3 = runs_join out 0 16 (A ++ B) (half_bytes a.n) j2 c.put_half-2.ensures (omega (arith, b)) in
    let j4 = runs_join out 0 18 (A ++ B ++ half_bytes a.n) (half_bytes a.k) j3 c.put_half-3.ensures (omega (arith, three)) in
    runs_join out 0 20 (A ++ B ++ half_bytes a.n ++ half_bytes a.k) (file_bytes old 20 (4 * char_start l)) j4
    (c.copy_part-2.ensures ∙ ap (λ (n : ℕ). sets c.put_half-3.new.out 20 (file_bytes old 20 (4 * n))) c.char_start.ensures)
    (omega (arith, four))

pub write_front_spec : {M : Type 1} → statement M
write_front_spec =
    tie.close
    (tie.spec
    cast-written-size
    cast-written-size-2
    written-size-requires
    cast-put-half
    put-half-requires
    copy-part-requires
    cast-put-half-2
    put-half-requires-2
    cast-put-half-3
    put-half-requires-3
    char-start-requires
    mul-copy-part
    copy-part-requires-2
    same_length
    returns)
