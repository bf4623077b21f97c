-- `c_repair_ask::ligkern_ask_repair` meets its contract. Assumes nothing.
use mathlib.Core.List.{[], ◌∷◌}
use Prim.Native.Nat.{◌/◌}
use lib.IntN.{ℤ, pos}
use lib.ListN.{length}
use Rattle.words.specs.Words.{word_of, number_of}
use Rattle.words.proofs.Bits.{number_word}
use Rattle.repairs.specs.Damaged.{Damaged}
use Rattle.repairs.specs.Warnings.{warnings_of}
use Rattle.repairs.specs.Repairs.{damaged_of}
use Rattle.repairs.specs.Asking.{ask_refusal}
use Rattle.c_values.proofs.Telling.{gives, lent_three}
use Rattle.c_repair_ask.specs.Asking.{HostAsks}
use borrow.Author.Rules.{rules}
use Rattle.c_repair_ask.proofs.ligkern_ask_repair.Statement.{statement}
use Rattle.c_repair_ask.proofs.ligkern_ask_repair.Tie as tie

ask-repair-requires : tie.Need-ask_repair-written-requires
ask-repair-requires c κs = search rules

tell-requires : tie.Need-tell-number-requires
tell-requires c κs = search rules

keep-list-requires : tie.Need-keep_list-requires
keep-list-requires c κs = search rules

same_length : tie.Need-shape_of-warnings
same_length c = search rules

same-length-2 : tie.Need-shape_of-work
same-length-2 c = search rules

same-length-3 : tie.Need-shape_of-values
same-length-3 c = search rules

returns : tie.Need-returns
returns c =
    let a = c.args in
    let e = a.from_0 ∷ a.from_64 ∷ a.from_128 ∷ a.from_192 ∷ [] in
    let font : ℤ → ℤ → ℤ → Damaged = (λ x y z. damaged_of a.instructions.now a.kerns.now a.entries.now x y z e a.passthrough.now) in
    let d = font (number_of (word_of a.boundary)) (number_of (word_of a.left_entry)) (number_of (word_of a.replacement)) in
    lent_three
    (λ (x y z : ℤ). HostAsks (font x y z) a.warnings.now a.work.now a.values.now c.tell-number.result c.keep_list.new.out
    c.ask_repair-written.new.work c.tell-number.new.values) (number_word a.boundary c.ranges.boundary)
    (number_word a.left_entry c.ranges.left_entry) (number_word a.replacement c.ranges.replacement)
    (record {
      gives =
          gives (pos 0) (ask_refusal d (length a.warnings.now) (length a.work.now)) (pos (length (warnings_of d) / 4) ∷ []) (warnings_of d)
          a.warnings.now a.values.now c.ask_repair-written.ensures.answer c.tell-number.ensures c.ask_repair-written.ensures.warned
          c.ask_repair-written.auto.warnings c.keep_list.ensures;
      cleared = c.ask_repair-written.ensures.cleared;
    })

pub ligkern_ask_repair_spec : {M : Type 1} → statement M
ligkern_ask_repair_spec =
    tie.close
    (tie.spec
    ask-repair-requires
    tell-requires
    keep-list-requires
    same_length
    same-length-2
    same-length-3
    returns)
