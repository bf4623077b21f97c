-- `file_packing::entered_refusal` meets its contract: the number that packing an empty program answers.
-- Assumes nothing.
use mathlib.Core.Path.{◌≡◌, sym, ap, ◌∙◌}
use mathlib.Core.List.{[]}
use native.Mathlib.Omega.{arith}
use lib.IntN.{pos}
use lib.ListN.{replicate, length-replicate}
use Rattle.words.proofs.Bits.{number_word}
use Rattle.pack.specs.declared.Packed.{Packed}
use Rattle.pack.specs.Packing.{packed_reply}
use Rattle.files.specs.Writing.{writable, pack_font_refusal}
use Rattle.file_packing.proofs.Packing.{empty_answered}
use borrow.Author.Rules.{rules}
use Rattle.file_packing.proofs.entered_refusal.Statement.{statement}
use Rattle.file_packing.proofs.entered_refusal.Tie as tie

told : (c : tie.After-pack_entrypoints-answer) → let s = c.before.before.before.before in
    (packed_reply c.pack_entrypoints-answer.result).number ≡ pack_font_refusal (writable [] [] c.args.entries.now c.args.boundary c.args.left_entry)
told c =
    let s = c.before.before.before.before in
    empty_answered c.args.entries.now (replicate 1028 (pos 0)) (replicate 512 (pos 0)) (number_word c.args.boundary c.ranges.boundary)
    (number_word c.args.left_entry c.ranges.left_entry) (omega (arith, length-replicate 1028 (pos 0))) (omega (arith, length-replicate 512 (pos 0)))
    c.pack_entrypoints-answer.ensures

slice-aggregate-pack-entrypoints : tie.Need-slice_bounds-pack_entrypoints-end
slice-aggregate-pack-entrypoints c = search rules

slice-aggregate-pack-entrypoints-2 : tie.Need-slice_bounds-pack_entrypoints-end-2
slice-aggregate-pack-entrypoints-2 c = search rules

slice-aggregate-pack-entrypoints-3 : tie.Need-slice_bounds-pack_entrypoints-end-3
slice-aggregate-pack-entrypoints-3 c = search rules

pack-entrypoints-requires : tie.Need-pack_entrypoints-answer-requires
pack-entrypoints-requires c κs = search rules

enum-known-answer : tie.Need-enum_known-answer
enum-known-answer c = search rules

enum_told : tie.Need-enum_told-1
enum_told c = search rules

returns : tie.Need-returns-in-Refused
returns c = ap (λ (x : Packed). (packed_reply x).number) (sym c.in-Refused.is) ∙ told c.before.before.before

returns-2 : tie.Need-returns-in-Sizes
returns-2 c = ap (λ (x : Packed). (packed_reply x).number) (sym c.in-Sizes.is) ∙ told c.before.before.before

pub entered_refusal_spec : {M : Type 1} → statement M
entered_refusal_spec =
    tie.close
    (tie.spec
    slice-aggregate-pack-entrypoints
    slice-aggregate-pack-entrypoints-2
    slice-aggregate-pack-entrypoints-3
    pack-entrypoints-requires
    enum-known-answer
    enum_told
    returns
    returns-2)
