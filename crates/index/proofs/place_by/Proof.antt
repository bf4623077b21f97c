-- `index::place_by` meets its contract, by what the look_up answers.
-- Assumes nothing.
use mathlib.Core.Path.{sym, ap, ◌∙◌}
use native.Mathlib.Numerals.{add-one}
use Rattle.captions.specs.Tables.{pair_count}
use Rattle.index.specs.Index.{looked_place}
use borrow.Author.Rules.{rules}
use Rattle.index.proofs.place_by.Statement.{statement}
use Rattle.index.proofs.place_by.Tie as tie

look-up-requires : tie.Need-look_up-requires
look-up-requires c κs = search rules

enum_told : tie.Need-enum_told-1
enum_told c = search rules

enum-known-k : tie.Need-enum_known-k
enum-known-k c = search rules

enum-told-2 : tie.Need-enum_told-in-Wrong
enum-told-2 c = search rules

add-result : tie.Need-overflow_add-result
add-result c = search rules

returns : tie.Need-returns-in-Missing
returns c =
    let a = c.args in
    ap (looked_place (pair_count a.pairs.now)) (sym c.in-Missing.is ∙ c.look_up.ensures)

returns-2 : tie.Need-returns-in-At
returns-2 c =
    let a = c.args in
    ap (looked_place (pair_count a.pairs.now)) (sym c.in-At.is ∙ c.look_up.ensures)

returns-3 : tie.Need-returns-in-Wrong
returns-3 c =
    let a = c.args in
    add-one (pair_count a.pairs.now) ∙ ap (looked_place (pair_count a.pairs.now)) (sym c.in-Wrong.is ∙ c.look_up.ensures)

pub place_by_spec : {M : Type 1} → statement M
place_by_spec =
    tie.close
    (tie.spec
    look-up-requires
    enum_told
    enum-known-k
    enum-told-2
    add-result
    returns
    returns-2
    returns-3)
