-- `font_unpack::unpacked_font` meets its contract: zeros where the font is refused, and else what is left and zeros.
-- Assumes nothing.
use mathlib.Core.Path.{◌≡◌, sym, ap, subst, ◌∙◌}
use mathlib.Core.List.{List}
use lib.IntN.{ℤ, pos}
use lib.ListN.{length, replicate}
use native.Mathlib.Omega.{arith}
use borrow.Author.Rules.{rules}
use Rattle.words.specs.Words.{number_of}
use Rattle.words.proofs.Bits.{number_word}
use Rattle.pack.proofs.Packing.{lent_number, zeroed_length}
use Rattle.lang.specs.Answers.{reply_of}
use Rattle.font_unpackings.specs.declared.UnpackedFont.{UnpackedFont}
use Rattle.font_unpackings.specs.declared.UnpackedFont.TheVariants.{Own, Kept}
use Rattle.font_unpackings.specs.Unpackings.{left_moved_back, unpack_font_refusal, unpacked_font_reply, unpacked_font_values, UnpacksFont}
use Rattle.font_unpack.specs.OwnPart.{own_part_count, FindsPart}
use Rattle.font_unpack.proofs.Standing.{part_within}
use Rattle.font_unpack.proofs.Written.{Taken, taken, refusal_as, kept_answer, own_answer, unpacks_refused, unpacks_taken}
use Rattle.font_unpack.proofs.unpacked_font.Statement.{statement}
use Rattle.font_unpack.proofs.unpacked_font.Tie as tie

abbrev start : tie.After-find_part-own → tie.Start
start f = f.before.before.before.before.before.before.before.before

-- the outputs once they are zeroed
abbrev zeros : tie.After-find_part-own → List ℤ
zeros f = f.zero_all.new.s

abbrev zerosOut : tie.After-find_part-own → List ℤ
zerosOut f = f.zero_all-2.new.s

zeroed : (f : tie.After-find_part-own) → zeros f ≡ replicate (length (start f).args.out.now) (pos 0)
zeroed f = f.zero_all.ensures

zeroedOut : (f : tie.After-find_part-own) → zerosOut f ≡ replicate (length (start f).args.entries_out.now) (pos 0)
zeroedOut f = f.zero_all-2.ensures

-- the left entry, by its word
lent : (f : tie.After-find_part-own) → number_of f.word_of-left.result ≡ (start f).args.left_entry
lent f = lent_number (start f).args.left_entry (start f).ranges.left_entry f.word_of-left.ensures

part : (f : tie.After-find_part-own) → let a = (start f).args in FindsPart a.instructions.now a.entries.now a.left_entry f.find_part-own.result
part f =
    let a = (start f).args in
    subst (λ (z : ℤ). FindsPart a.instructions.now a.entries.now z f.find_part-own.result) (lent f) f.find_part-own.ensures

-- what is refused
asked : (r : tie.After-unpack_refusal-refusal) → let a = (start r.before).args in
    r.unpack_refusal-refusal.result ≡ unpack_font_refusal a.instructions.now a.entries.now a.left_entry (length a.out.now) (length a.entries_out.now)
asked r =
    let s = start r.before in
    let a = s.args in
    refusal_as a.instructions.now a.entries.now r.unpack_refusal-refusal.ensures (number_word a.left_entry s.ranges.left_entry)
    (zeroed_length a.out.now (zeroed r.before)) (zeroed_length a.entries_out.now (zeroedOut r.before))

-- nothing is
none : (e : tie.Else-refusal-ne0) → let a = (start e.before.before).args in
    unpack_font_refusal a.instructions.now a.entries.now a.left_entry (length a.out.now) (length a.entries_out.now) ≡ 0
none e = sym (asked e.before) ∙ e.if-refusal-ne0.false

known : (e : tie.Else-refusal-ne0) → let a = (start e.before.before).args in
    Taken a.instructions.now a.entries.now a.left_entry (length a.out.now) (length a.entries_out.now)
known e =
    let a = (start e.before.before).args in
    taken a.instructions.now a.entries.now a.left_entry (length a.out.now) (length a.entries_out.now) (none e)

-- what is written, whatever is answered
written : (w : tie.After-put_entries) (t : UnpackedFont) → let a = (start w.before.before.before.before.before.before.before).args in
    unpacked_font_reply t ≡ reply_of 0 (unpacked_font_values a.instructions.now a.entries.now a.left_entry) →
    UnpacksFont a.instructions.now a.entries.now a.left_entry a.out.now a.entries_out.now t w.put_own.new.out
    w.put_entries.new.out
written w t h =
    let a = (start (w.before.before.before.before.before.before.before)).args in
    let r = w.find_part-own.result in
    unpacks_taken a.instructions.now a.entries.now a.left_entry a.out.now a.entries_out.now (zeros (w.before.before.before.before.before.before.before)) (zerosOut (w.before.before.before.before.before.before.before)) (zeroed (w.before.before.before.before.before.before.before)) (zeroedOut (w.before.before.before.before.before.before.before)) t
    r.front r.count w.put_own.new.out w.put_entries.new.out (none (w.before.before.before.before.before)) (part (w.before.before.before.before.before.before.before)).front (part (w.before.before.before.before.before.before.before)).own w.put_own.ensures
    w.put_entries.ensures h

zero-all-requires : tie.Need-zero_all-requires
zero-all-requires c κs = search rules

zero-all-requires-2 : tie.Need-zero_all-requires-2
zero-all-requires-2 c κs = search rules

word-of-requires : tie.Need-word_of-left-requires
word-of-requires c κs = search rules

find-part-requires : tie.Need-find_part-own-requires
find-part-requires c κs = search rules

unpack-refusal-requires : tie.Need-unpack_refusal-refusal-requires
unpack-refusal-requires c κs =
    let s = start c in
    let a = s.args in
    (part c).own ∙ ap (λ (z : ℤ). own_part_count a.instructions.now a.entries.now z) (sym (number_word a.left_entry s.ranges.left_entry))

same_length : tie.Need-shape_of-out-then-refusal-ne0
same_length c = search rules

same-length-2 : tie.Need-shape_of-entries_out-then-refusal-ne0
same-length-2 c = search rules

returns : tie.Need-returns-then-refusal-ne0
returns c =
    let a = (start (c.before.before)).args in
    unpacks_refused a.instructions.now a.entries.now a.left_entry a.out.now a.entries_out.now (zeros (c.before.before)) (zerosOut (c.before.before)) (zeroed (c.before.before)) (zeroedOut (c.before.before))
    c.unpack_refusal-refusal.result (asked (c.before)) c.if-refusal-ne0.true

put-own-requires : tie.Need-put_own-requires
put-own-requires c κs =
    let a = (start (c.before.before.before)).args in
    let w = part_within a.instructions.now a.entries.now a.left_entry in
    (omega (arith, (part (c.before.before.before)).front, (part (c.before.before.before)).own, w), omega (arith, (part (c.before.before.before)).own, (known (c.before)).size, zeroed_length a.out.now (zeroed (c.before.before.before))))

put-entries-requires : tie.Need-put_entries-requires
put-entries-requires c κs =
    ((known (c.before.before.before.before)).entered, omega (arith, (known (c.before.before.before.before)).entry_size, zeroed_length (start (c.before.before.before.before.before.before)).args.entries_out.now (zeroedOut (c.before.before.before.before.before.before))))

moved-back-requires : tie.Need-moved_back-requires
moved-back-requires c κs = search rules

number-of-requires : tie.Need-number_of-requires
number-of-requires c κs = search rules

same-length-3 : tie.Need-shape_of-out-then-own
same-length-3 c = search rules

same-length-4 : tie.Need-shape_of-entries_out-then-own
same-length-4 c = search rules

returns-2 : tie.Need-returns-then-own
returns-2 c =
    let a = (start (c.before.before.before.before.before.before.before.before.before.before.before)).args in
    let r = c.find_part-own.result in
    let l : c.number_of.result ≡ left_moved_back a.left_entry r.front =
    c.number_of.ensures ∙ c.moved_back.ensures ∙ ap (λ (z : ℤ). left_moved_back z r.front) (lent (c.before.before.before.before.before.before.before.before.before.before.before)) in
    written (c.before.before.before.before) (Own r.front r.count _)
    (own_answer a.instructions.now a.entries.now a.left_entry (sym (part (c.before.before.before.before.before.before.before.before.before.before.before)).packed ∙ c.if-own.true) (part (c.before.before.before.before.before.before.before.before.before.before.before)).front (part (c.before.before.before.before.before.before.before.before.before.before.before)).own
    (number_word c.number_of.result (record { sfits = c.number_of.type_inv }) ∙ l))

same-length-5 : tie.Need-shape_of-out-else-own
same-length-5 c = search rules

same-length-6 : tie.Need-shape_of-entries_out-else-own
same-length-6 c = search rules

returns-3 : tie.Need-returns-else-own
returns-3 c =
    let a = (start (c.before.before.before.before.before.before.before.before.before)).args in
    written (c.before.before) Kept (kept_answer a.instructions.now a.entries.now a.left_entry (sym (part (c.before.before.before.before.before.before.before.before.before)).packed ∙ c.if-own.false))

pub unpacked_font_spec : {M : Type 1} → statement M
unpacked_font_spec =
    tie.close
    (tie.spec
    zero-all-requires
    zero-all-requires-2
    word-of-requires
    find-part-requires
    unpack-refusal-requires
    same_length
    same-length-2
    returns
    put-own-requires
    put-entries-requires
    moved-back-requires
    number-of-requires
    same-length-3
    same-length-4
    returns-2
    same-length-5
    same-length-6
    returns-3)
