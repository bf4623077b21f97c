-- `blame_numbers::word_number` meets its contract: the number of begin's answer.
-- Assumes nothing.
use mathlib.Core.Path.{◌≡◌, sym, ap, ◌∙◌}
use mathlib.Core.List.{[]}
use Prim.Native.Nat.{ℕ, zero, suc}
use lib.IntN.{ℤ}
use borrow.Author.Rules.{rules}
use Rattle.words.specs.Words.{word_of, number_of}
use Rattle.words.proofs.Bits.{number_word}
use Rattle.captions.specs.declared.Begun.{Begun}
use Rattle.captions.specs.Replies.{begun_reply}
use Rattle.captions.specs.Begin.{begin_refusal}
use Rattle.blame_numbers.proofs.Replies.{begun_number}
use Rattle.blame_numbers.proofs.word_number.Statement.{statement}
use Rattle.blame_numbers.proofs.word_number.Tie as tie

array-share-prefix-no-pairs : tie.Need-slice_bounds-no_pairs-end
array-share-prefix-no-pairs c = search rules

slice-aggregate-begin : tie.Need-slice_bounds-begin-end
slice-aggregate-begin c = search rules

array-share-prefix-no-ops : tie.Need-slice_bounds-no_ops-end
array-share-prefix-no-ops c = search rules

slice-aggregate-begin-2 : tie.Need-slice_bounds-begin-end-2
slice-aggregate-begin-2 c = search rules

begin-requires : tie.Need-begin-requires
begin-requires c κs = search rules

enum-known-n : tie.Need-enum_known-n
enum-known-n c = search rules

enum_told : tie.Need-enum_told-1
enum_told c = search rules

returns : tie.Need-returns-in-Refused
returns c =
    ap (λ (x : Begun). (begun_reply x).number) (sym c.in-Refused.is) ∙ begun_number [] [] (number_of (word_of c.args.boundary))
    c.args.word.now c.args.options c.begin.result c.begin.ensures
    ∙ ap (λ (z : ℤ). begin_refusal [] [] z c.args.word.now c.args.options) (number_word c.args.boundary c.ranges.boundary)

returns-2 : tie.Need-returns-in-Run
returns-2 c =
    ap (λ (x : Begun). (begun_reply x).number) (sym c.in-Run.is) ∙ begun_number [] [] (number_of (word_of c.args.boundary))
    c.args.word.now c.args.options c.begin.result c.begin.ensures
    ∙ ap (λ (z : ℤ). begin_refusal [] [] z c.args.word.now c.args.options) (number_word c.args.boundary c.ranges.boundary)

pub word_number_spec : {M : Type 1} → statement M
word_number_spec =
    tie.close
    (tie.spec
    array-share-prefix-no-pairs
    slice-aggregate-begin
    array-share-prefix-no-ops
    slice-aggregate-begin-2
    begin-requires
    enum-known-n
    enum_told
    returns
    returns-2)
