-- `same_answer::same_answer` meets its contract, arm by arm.
-- Assumes nothing.
use mathlib.Core.Path.{ap, ◌∙◌}
use borrow.Author.Rules.{rules}
use lib.IntN.{ℤ}
use Rattle.words.proofs.Bits.{number_word}
use Rattle.same_answer.specs.Answers.{is_kern_item}
use Rattle.same_answer.proofs.same_answer.Statement.{statement}
use Rattle.same_answer.proofs.same_answer.Tie as tie

enum-known-a : tie.Need-enum_known-a
enum-known-a c = search rules

is-character-item-requires : tie.Need-is_character_item-requires
is-character-item-requires c κs = search rules

enum-known-a-2 : tie.Need-enum_known-a-in-Ligature-1
enum-known-a-2 c = search rules

is-ligature-item-requires : tie.Need-is_ligature_item-requires
is-ligature-item-requires c κs = search rules

enum-known-a-3 : tie.Need-enum_known-a-in-Kern-1
enum-known-a-3 c = search rules

is-kern-item-requires : tie.Need-is_kern_item-requires
is-kern-item-requires c κs = search rules

enum_told : tie.Need-enum_told-1
enum_told c = search rules

is-end-requires : tie.Need-is_end-requires
is-end-requires c κs = search rules

enum-told-2 : tie.Need-enum_told-in-Refused
enum-told-2 c = search rules

returns : tie.Need-returns-in-Char
returns c = rw c.in-Char.is c.is_character_item.ensures

returns-2 : tie.Need-returns-in-Ligature
returns-2 c = rw c.in-Ligature.is c.is_ligature_item.ensures

returns-3 : tie.Need-returns-in-Kern
returns-3 c =
    let b = c.args.b in
    rw c.in-Kern.is
    (c.is_kern_item.ensures ∙ ap (λ (k : ℤ). is_kern_item k b) (number_word c.in-Kern.k (record { sfits = search rules })))

returns-4 : tie.Need-returns-in-End
returns-4 c = search rules

returns-5 : tie.Need-returns-in-Refused
returns-5 c = search rules

pub same_answer_spec : {M : Type 1} → statement M
same_answer_spec =
    tie.close
    (tie.spec
    enum-known-a
    is-character-item-requires
    enum-known-a-2
    is-ligature-item-requires
    enum-known-a-3
    is-kern-item-requires
    enum_told
    is-end-requires
    enum-told-2
    returns
    returns-2
    returns-3
    returns-4
    returns-5)
