-- `pl_read::read_list` meets its contract.
-- Assumes nothing.
use mathlib.Core.Path.{◌≡◌, refl, ap, ◌∙◌}
use lib.IntN.{pos}
use Prim.Native.Nat.{ℕ}
use lib.ListN.{length}
use Rattle.pl_read.proofs.Answering.{answer_none, answer_refused, answer_font, followed_on}
use Rattle.words.proofs.Bits.{number_is}
use Rattle.property_lists.specs.declared.Property.TheVariants as property
use lib.ListN.{length-replicate, replicate}
use Rattle.words.proofs.Bits.{number_word}
use borrow.Author.Rules.{rules}
use native.Mathlib.Omega.{arith}
use Rattle.pl_read.proofs.read_list.Statement.{statement}
use Rattle.pl_read.proofs.read_list.Tie as tie

zero-all-requires : tie.Need-zero_all-requires
zero-all-requires c κs = search rules

zero-all-requires-2 : tie.Need-zero_all-requires-2
zero-all-requires-2 c κs = search rules

slice-aggregate-scan : tie.Need-slice_bounds-scan-end
slice-aggregate-scan c = search rules

scan-requires : tie.Need-scan-requires
scan-requires c κs = refl

enum-known-s : tie.Need-enum_known-s
enum-known-s c = search rules

enum_told : tie.Need-enum_told-1
enum_told c = search rules

zero-all-requires-3 : tie.Need-zero_all-requires-in_default
zero-all-requires-3 c κs = search rules

same_length : tie.Need-shape_of-instructions-in_default
same_length c = search rules

same-length-2 : tie.Need-shape_of-entries-in_default
same-length-2 c = search rules

returns : tie.Need-returns-in_default
returns c =
    let args = c.args in
    let h : length c.scan.new.instructions ≡ length args.instructions.now = omega arith in
    answer_none args.text.now args.instructions.now args.entries.now c.scan.ensures c.in_default.is
    (c.zero_all-in_default.ensures ∙ ap (λ (n : ℕ). replicate n (pos 0)) h) c.zero_all-2.ensures

slice-aggregate-put-label-entries : tie.Need-slice_bounds-put_label_entries-end
slice-aggregate-put-label-entries c = search rules

put-label-entries-requires : tie.Need-put_label_entries-n-requires
put-label-entries-requires c κs = search rules

list-refusal-requires : tie.Need-list_refusal-refusal-requires
list-refusal-requires c κs = search rules

zero-all-requires-4 : tie.Need-zero_all-requires-then-refusal-ne0
zero-all-requires-4 c κs = search rules

zero-all-requires-5 : tie.Need-zero_all-requires-then-refusal-ne0-2
zero-all-requires-5 c κs = search rules

same-length-3 : tie.Need-shape_of-instructions-then-refusal-ne0
same-length-3 c = search rules

same-length-4 : tie.Need-shape_of-entries-then-refusal-ne0
same-length-4 c = search rules

returns-2 : tie.Need-returns-then-refusal-ne0
returns-2 c =
    let args = c.args in
    let h : length c.scan.new.instructions ≡ length args.instructions.now = omega arith in
    let g : length c.zero_all-2.new.s ≡ length args.entries.now = ap length c.zero_all-2.ensures ∙ length-replicate _ _ in
    let k : length c.put_label_entries-n.new.entries ≡ length args.entries.now = omega (arith, g) in
    answer_refused args.text.now args.instructions.now args.entries.now (followed_on (rw c.zero_all.ensures at c.scan.ensures) c.in-Some.is)
    c.put_label_entries-n.ensures.1
    c.list_refusal-refusal.ensures h k c.if-refusal-ne0.true (c.zero_all-then-refusal-ne0.ensures ∙ ap (λ (n : ℕ). replicate n (pos 0)) h)
    (c.zero_all-then-refusal-ne0-2.ensures ∙ ap (λ (n : ℕ). replicate n (pos 0)) k)

number-of-requires : tie.Need-number_of-requires
number-of-requires c κs = search rules

slice-aggregate-word-at : tie.Need-slice_bounds-word_at-end
slice-aggregate-word-at c = search rules

word-at-requires : tie.Need-word_at-requires
word-at-requires c κs = search rules

number-of-requires-2 : tie.Need-number_of-requires-2
number-of-requires-2 c κs = search rules

same-length-5 : tie.Need-shape_of-instructions
same-length-5 c = search rules

same-length-6 : tie.Need-shape_of-entries
same-length-6 c = search rules

returns-3 : tie.Need-returns
returns-3 c =
    let args = c.args in
    let h : length c.scan.new.instructions ≡ length args.instructions.now = omega arith in
    let g : length c.zero_all-2.new.s ≡ length args.entries.now = ap length c.zero_all-2.ensures ∙ length-replicate _ _ in
    let k : length c.put_label_entries-n.new.entries ≡ length args.entries.now = omega (arith, g) in
    let b = number_word c.number_of.result (record { sfits = c.number_of.type_inv }) ∙ c.number_of.ensures in
    let l = number_word c.number_of-2.result (record { sfits = c.number_of-2.type_inv }) ∙ c.number_of-2.ensures ∙ number_is c.word_at.ensures in
    answer_font args.text.now args.instructions.now args.entries.now (followed_on (rw c.zero_all.ensures at c.scan.ensures) c.in-Some.is)
    c.put_label_entries-n.ensures.1
    c.list_refusal-refusal.ensures h k c.if-refusal-ne0.false refl (c.put_label_entries-n.ensures.0 ∙ rw c.zero_all-2.ensures) b l

pub read_list_spec : {M : Type 1} → statement M
read_list_spec =
    tie.close
    (tie.spec
    zero-all-requires
    zero-all-requires-2
    slice-aggregate-scan
    scan-requires
    enum-known-s
    enum_told
    zero-all-requires-3
    same_length
    same-length-2
    returns
    slice-aggregate-put-label-entries
    put-label-entries-requires
    list-refusal-requires
    zero-all-requires-4
    zero-all-requires-5
    same-length-3
    same-length-4
    returns-2
    number-of-requires
    slice-aggregate-word-at
    word-at-requires
    number-of-requires-2
    same-length-5
    same-length-6
    returns-3)
