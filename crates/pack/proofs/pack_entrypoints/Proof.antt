-- `pack::pack_entrypoints` meets its contract: zeros where the font is refused, and else what is written and zeros.
-- Assumes nothing.
use mathlib.Core.Path.{◌≡◌, refl, sym, ap, ◌∙◌}
use mathlib.Core.List.{List}
use lib.IntN.{ℤ, pos}
use lib.ListN.{length, replicate}
use Rattle.words.specs.Words.{number_of}
use Rattle.words.proofs.Bits.{number_word}
use Rattle.pack.specs.Packing.{Packable, packable, packable_refusal}
use Rattle.pack.proofs.Packing.{lent_font, lent_number, packing_first, zeroed_length, zeroed_is, packs_refused, packs_lengths}
use borrow.Author.Rules.{rules}
use Rattle.pack.proofs.pack_entrypoints.Statement.{statement}
use Rattle.pack.proofs.pack_entrypoints.Tie as tie

abbrev font : tie.Start → Packable
font s = packable s.args.instructions.now s.args.entries.now s.args.boundary s.args.left_entry

abbrev start : tie.After-packable_refusal-font → tie.Start
start r = r.before.before.before.before.before.before.before

-- the outputs once they are zeroed
abbrev zeros : tie.After-packable_refusal-font → List ℤ
zeros r = r.zero_all.new.s

abbrev zerosOut : tie.After-packable_refusal-font → List ℤ
zerosOut r = r.zero_all-2.new.s

zeroed : (r : tie.After-packable_refusal-font) → zeros r ≡ replicate (length (start r).args.out.now) (pos 0)
zeroed r = r.zero_all.ensures

zeroedOut : (r : tie.After-packable_refusal-font) → zerosOut r ≡ replicate (length (start r).args.entries_out.now) (pos 0)
zeroedOut r = r.zero_all-2.ensures

asked : (r : tie.After-packable_refusal-font) → r.packable_refusal-font.result ≡ packable_refusal (font (start r))
asked r =
    let s = start r in
    r.packable_refusal-font.ensures
    ∙ ap packable_refusal
    (lent_font s.args.instructions.now s.args.entries.now (number_word s.args.boundary s.ranges.boundary)
    (number_word s.args.left_entry s.ranges.left_entry))

-- by the words of the boundary character and of the left entry
same : (w : tie.After-word_of-left) → let s = start w.before.before.before in
    packable s.args.instructions.now s.args.entries.now (number_of w.word_of-bound.result) (number_of w.word_of-left.result) ≡ font s
same w =
    let s = start w.before.before.before in
    lent_font s.args.instructions.now s.args.entries.now (lent_number s.args.boundary s.ranges.boundary w.word_of-bound.ensures)
    (lent_number s.args.left_entry s.ranges.left_entry w.word_of-left.ensures)

zero-all-requires : tie.Need-zero_all-requires
zero-all-requires c κs = search rules

zero-all-requires-2 : tie.Need-zero_all-requires-2
zero-all-requires-2 c κs = search rules

packable-refusal-requires : tie.Need-packable_refusal-font-requires
packable-refusal-requires c κs = search rules

same_length : tie.Need-shape_of-out-then-font-ne0
same_length c = search rules

same-length-2 : tie.Need-shape_of-entries_out-then-font-ne0
same-length-2 c = search rules

returns : tie.Need-returns-then-font-ne0
returns c =
    let s = start (c.before) in
    let z = zeroed_is s.args.out.now (zeroed (c.before)) in
    let y = zeroed_is s.args.entries_out.now (zeroedOut (c.before)) in
    packs_lengths s.args.out.now (zeros (c.before)) s.args.entries_out.now (zerosOut (c.before)) refl (zeroed_length s.args.out.now (zeroed (c.before)))
    (zeroed_length s.args.entries_out.now (zeroedOut (c.before)))
    (packs_refused (font s) (zeros (c.before)) (zerosOut (c.before)) z y c.packable_refusal-font.result
    (packing_first (font s) (length (zeros (c.before))) (length (zerosOut (c.before))) (asked (c.before)) c.if-font-ne0.true) c.if-font-ne0.true)

word-of-requires : tie.Need-word_of-bound-requires
word-of-requires c κs = search rules

word-of-requires-2 : tie.Need-word_of-left-requires
word-of-requires-2 c κs = search rules

pack-font-requires : tie.Need-pack_font-requires
pack-font-requires c κs =
    let s = start (c.before.before.before.before.before) in (
      ap packable_refusal (same (c.before.before)) ∙ sym (asked (c.before.before.before.before.before)) ∙ c.if-font-ne0.false,
      (zeroed_is s.args.out.now (zeroed (c.before.before.before.before.before)), zeroed_is s.args.entries_out.now (zeroedOut (c.before.before.before.before.before))),
    )

same-length-3 : tie.Need-shape_of-out
same-length-3 c = search rules

same-length-4 : tie.Need-shape_of-entries_out
same-length-4 c = search rules

returns-2 : tie.Need-returns
returns-2 c =
    let s = start (c.before.before.before.before.before.before.before.before) in
    packs_lengths s.args.out.now (zeros (c.before.before.before.before.before.before.before.before)) s.args.entries_out.now (zerosOut (c.before.before.before.before.before.before.before.before)) (same (c.before.before.before.before.before)) (zeroed_length s.args.out.now (zeroed (c.before.before.before.before.before.before.before.before)))
    (zeroed_length s.args.entries_out.now (zeroedOut (c.before.before.before.before.before.before.before.before)))
    c.pack_font.ensures

pub pack_entrypoints_spec : {M : Type 1} → statement M
pack_entrypoints_spec =
    tie.close
    (tie.spec
    zero-all-requires
    zero-all-requires-2
    packable-refusal-requires
    same_length
    same-length-2
    returns
    word-of-requires
    word-of-requires-2
    pack-font-requires
    same-length-3
    same-length-4
    returns-2)
