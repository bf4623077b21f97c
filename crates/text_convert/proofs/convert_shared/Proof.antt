-- `text_convert::convert_shared` meets its contract: the number and zeros, or what `put_converted` wrote. Assumes nothing.
use mathlib.Core.Path.{◌≡◌, sym, subst, ◌∙◌}
use mathlib.Core.List.{List}
use Prim.Native.Nat.{ℕ}
use native.Mathlib.Omega.{arith}
use lib.IntN.{ℤ}
use lib.ListN.{length, drop}
use borrow.Author.Rules.{rules}
use Rattle.captions.specs.Begin.{letters_refusal}
use Rattle.columns.specs.Lines.{lines_of}
use Rattle.text_convert_lines.specs.Anew.{lines_anew, PutsAnew}
use Rattle.text_convert_refusal.specs.Judging.{anew_refusal}
use Rattle.text_convert_refusal.proofs.Laws.{none_refused}
use Rattle.text_convert.proofs.Laws.{number_answers, bytes_answer, rest_is}
use Rattle.text_convert.proofs.convert_shared.Statement.{statement}
use Rattle.text_convert.proofs.convert_shared.Tie as tie

abbrev start : tie.After-convert_refusal-number → tie.Start
start r = r.before.before.before.before.before

abbrev lines : tie.After-convert_refusal-number → List ℕ
lines r = let a = (start r).args in lines_anew a.instructions.now (drop a.k a.kerns.now) (lines_of a.text.now)

-- the number, of what is written
told : (r : tie.After-convert_refusal-number) → let a = (start r).args in
    r.convert_refusal-number.result ≡ anew_refusal (length a.kerns.now) (length (lines r)) a.bad (letters_refusal a.word.now) (length a.out.now)
told r =
    let s = start r in
    let a = s.args in
    let n = sym s.requires.long in
    let l = r.letters_refusal.ensures in
    r.convert_refusal-number.ensures ∙ (λ i. anew_refusal (length a.kerns.now) (n i) a.bad (l i) (length a.out.now))

sub-n : tie.Need-overflow_sub-n
sub-n c = search rules

mul-n : tie.Need-overflow_mul-n
mul-n c = search rules

add-n : tie.Need-overflow_add-n
add-n c = search rules

letters-refusal-requires : tie.Need-letters_refusal-requires
letters-refusal-requires c κs = search rules

convert-refusal-requires : tie.Need-convert_refusal-number-requires
convert-refusal-requires c κs = search rules

zero-all-requires : tie.Need-zero_all-requires
zero-all-requires c κs = search rules

same_length : tie.Need-shape_of-out-then-number-ne0
same_length c = search rules

returns : tie.Need-returns-then-number-ne0
returns c =
    let a = (start (c.before.before.before.before.before)).args in
    number_answers c.convert_refusal-number.result (anew_refusal (length a.kerns.now) (length (lines (c.before.before.before.before.before))) a.bad (letters_refusal a.word.now) (length a.out.now)) (lines (c.before.before.before.before.before))
    a.out.now c.zero_all.new.s (told (c.before.before.before.before.before)) c.if-number-ne0.true c.zero_all.ensures

mul-put-converted : tie.Need-offset_bounds-kerns-k
mul-put-converted c = search rules

sub-put-converted : tie.Need-slice_bounds-put_converted-count
sub-put-converted c = search rules

part-put-converted-start : tie.Need-slice_bounds-put_converted-start
part-put-converted-start c = search rules

part-put-converted-end : tie.Need-slice_bounds-put_converted-end
part-put-converted-end c = search rules

put-converted-requires : tie.Need-put_converted-requires
put-converted-requires c κs = search rules

same-length-2 : tie.Need-shape_of-out
same-length-2 c = search rules

returns-2 : tie.Need-returns
returns-2 c =
    let a = (start (c.before.before.before.before.before.before)).args in
    let z : anew_refusal (length a.kerns.now) (length (lines (c.before.before.before.before.before.before))) a.bad (letters_refusal a.word.now) (length a.out.now) ≡ 0 = sym (told (c.before.before.before.before.before.before)) ∙ c.if-number-ne0.false in
    let o = c.put_converted.new.out in
    bytes_answer (anew_refusal (length a.kerns.now) (length (lines (c.before.before.before.before.before.before))) a.bad (letters_refusal a.word.now) (length a.out.now)) (lines (c.before.before.before.before.before.before)) a.out.now o
    c.put_converted.result z
    (none_refused (length a.kerns.now) (length (lines (c.before.before.before.before.before.before))) a.bad (letters_refusal a.word.now) (length a.out.now) z).1
    (subst (λ (l : List ℤ). PutsAnew (lines_anew a.instructions.now l (lines_of a.text.now)) a.out.now c.put_converted.result o)
    (rest_is a.k a.kerns.now) c.put_converted.ensures)

pub convert_shared_spec : {M : Type 1} → statement M
convert_shared_spec =
    tie.close
    (tie.spec
    sub-n
    mul-n
    add-n
    letters-refusal-requires
    convert-refusal-requires
    zero-all-requires
    same_length
    returns
    mul-put-converted
    sub-put-converted
    part-put-converted-start
    part-put-converted-end
    put-converted-requires
    same-length-2
    returns-2)
