-- `text_scan::progress::heads_of` meets its contract. Assumes nothing.
use mathlib.Core.Path.{◌≡◌, ◌∙◌}
use mathlib.Core.List.{[], ◌∷◌}
use lib.IntN.{pos}
use Rattle.words.specs.Words.{word_of, number_of}
use Rattle.words.proofs.Bits.{number_word}
use borrow.Author.Rules.{rules}
use Rattle.text_scan.proofs.progress.heads_of.Statement.{statement}
use Rattle.text_scan.proofs.progress.heads_of.Tie as tie

number-of-requires : tie.Need-number_of-requires
number-of-requires c κs = search rules

number-of-requires-2 : tie.Need-number_of-requires-2
number-of-requires-2 c κs = search rules

number-of-requires-3 : tie.Need-number_of-requires-3
number-of-requires-3 c κs = search rules

number-of-requires-4 : tie.Need-number_of-requires-4
number-of-requires-4 c κs = search rules

returns : tie.Need-returns
returns c =
    let p = c.args.p in
    let d : number_of (word_of c.number_of.result) ≡ number_of p.design = number_word c.number_of.result (record { sfits = c.number_of.type_inv }) ∙ c.number_of.ensures in
    let b : number_of (word_of c.number_of-2.result) ≡ number_of p.boundary = number_word c.number_of-2.result (record { sfits = c.number_of-2.type_inv }) ∙ c.number_of-2.ensures in
    let l : number_of (word_of c.number_of-3.result) ≡ number_of p.left = number_word c.number_of-3.result (record { sfits = c.number_of-3.type_inv }) ∙ c.number_of-3.ensures in
    let n : number_of (word_of c.number_of-4.result)
    ≡ number_of c.args.letters = number_word c.number_of-4.result (record { sfits = c.number_of-4.type_inv }) ∙ c.number_of-4.ensures in
    (λ i. d i ∷ b i ∷ l i ∷ pos p.instructions ∷ pos p.kerns ∷ pos p.entries ∷ n i ∷ [])

pub heads_of_spec : {M : Type 1} → statement M
heads_of_spec =
    tie.close
    (tie.spec
    number-of-requires
    number-of-requires-2
    number-of-requires-3
    number-of-requires-4
    returns)
