-- `test_file_reading::put_font` stays within the answer, as its parts do.
-- Assumes nothing.
use mathlib.Core.Path.{◌≡◌, ◌∙◌}
use mathlib.Core.List.{List}
use Prim.Native.Nat.{ℕ, ◌+◌, ◌<◌}
use native.Mathlib.Omega.{arith}
use lib.IntN.{ℤ}
use lib.ListN.{length}
use borrow.Author.Rules.{rules}
use borrow.Author.Tests.{lt-ltb}
use Rattle.test_requests.specs.Answers.{Put}
use Rattle.test_file_reading.proofs.put_font.Statement.{statement}
use Rattle.test_file_reading.proofs.put_font.Tie as tie

-- a number that there is room for is followed by the next place
put_on : {d d' : List ℤ} {i w r : ℕ} → Put d i w r d' → i < length d → r ≡ i + 1
put_on {d} {d'} {i} p h = p.next ∙ rw (lt-ltb i (length d) h)

enum-known-answer : tie.Need-enum_known-answer
enum-known-answer c = search rules

cast-t18 : tie.Need-overflow_cast-sizes
cast-t18 c = search rules

cast-t19 : tie.Need-overflow_cast-sizes-in-Font
cast-t19 c = search rules

cast-t20 : tie.Need-overflow_cast-sizes-in-Font-2
cast-t20 c = search rules

word-of-requires : tie.Need-word_of-requires
word-of-requires c κs = search rules

word-of-requires-2 : tie.Need-word_of-requires-in-Font
word-of-requires-2 c κs = search rules

slice-aggregate-put-words : tie.Need-slice_bounds-put_words-end
slice-aggregate-put-words c = search rules

put-words-requires : tie.Need-put_words-requires
put-words-requires c κs = search rules

mul-put-lists : tie.Need-overflow_mul-a
mul-put-lists c = search rules

mul-put-lists-2 : tie.Need-overflow_mul-c
mul-put-lists-2 c = search rules

put-lists-requires : tie.Need-put_lists-requires
put-lists-requires c κs = search rules

enum-known-answer-2 : tie.Need-enum_known-answer-in-Refused-1
enum-known-answer-2 c = search rules

put-one-requires : tie.Need-put_one-at-requires
put-one-requires c κs = search rules

left-over-of-requires : tie.Need-left_over_of-requires
left-over-of-requires c κs = search rules

put-count-requires : tie.Need-put_count-requires
put-count-requires c κs = search rules

same_length : tie.Need-shape_of-out-in-Font
same_length c = search rules

returns : tie.Need-returns-in-Font
returns c =
    let k = c.put_words.auto.out in
    λ h. let e = c.put_lists.ensures (omega (arith, k)) in (omega (arith, e.0), e.1)

same-length-2 : tie.Need-shape_of-out-in-Refused
same-length-2 c = search rules

returns-2 : tie.Need-returns-in-Refused
returns-2 c =
    λ h.
    let e = put_on c.put_one-at.ensures (omega arith) in
    let f = put_on c.put_count.ensures (omega (arith, e, c.put_one-at.auto.out)) in
    (omega (arith, e, f), omega (arith, e, f, c.put_one-at.auto.out, c.put_count.auto.out))

pub put_font_spec : {M : Type 1} → statement M
put_font_spec =
    tie.close
    (tie.spec
    enum-known-answer
    cast-t18
    cast-t19
    cast-t20
    word-of-requires
    word-of-requires-2
    slice-aggregate-put-words
    put-words-requires
    mul-put-lists
    mul-put-lists-2
    put-lists-requires
    enum-known-answer-2
    put-one-requires
    left-over-of-requires
    put-count-requires
    same_length
    returns
    same-length-2
    returns-2)
