-- `font_free::free::is_left_free` meets its contract, by what is next.
-- Assumes nothing.
use mathlib.Core.Path.{◌≡◌, sym, ap, ◌∙◌}
use Rattle.words.specs.Words.{number_of}
use Rattle.captions.specs.Steps.{or_boundary}
use Rattle.font_runs.specs.Changes.{left_free}
use borrow.Author.Rules.{rules}
use Rattle.font_free.proofs.free.is_left_free.Statement.{statement}
use Rattle.font_free.proofs.free.is_left_free.Tie as tie

enum_told : tie.Need-enum_told-1
enum_told c = search rules

is-boundary-free-requires : tie.Need-is_boundary_free-requires
is-boundary-free-requires c κs = search rules

enum-known-left : tie.Need-enum_known-left
enum-known-left c = search rules

is-character-free-requires : tie.Need-is_character_free-requires
is-character-free-requires c κs = search rules

enum-told-2 : tie.Need-enum_told-in-Lig
enum-told-2 c = search rules

enum-told-3 : tie.Need-enum_told-in-FinalLig
enum-told-3 c = search rules

enum-told-4 : tie.Need-enum_told-in-None
enum-told-4 c = search rules

returns : tie.Need-returns-in-Boundary
returns c =
    let a = c.args in
    c.is_boundary_free.ensures
    ∙ ap (left_free a.pairs.now (or_boundary (number_of a.right)) a.word.now a.read) (sym c.in-Boundary.is)

returns-2 : tie.Need-returns-in-Char
returns-2 c =
    let a = c.args in
    c.is_character_free.ensures
    ∙ ap (left_free a.pairs.now (or_boundary (number_of a.right)) a.word.now a.read) (sym c.in-Char.is)

returns-3 : tie.Need-returns-in-Lig
returns-3 c = search rules

returns-4 : tie.Need-returns-in-FinalLig
returns-4 c = search rules

returns-5 : tie.Need-returns-in-None
returns-5 c = search rules

pub is_left_free_spec : {M : Type 1} → statement M
is_left_free_spec =
    tie.close
    (tie.spec
    enum_told
    is-boundary-free-requires
    enum-known-left
    is-character-free-requires
    enum-told-2
    enum-told-3
    enum-told-4
    returns
    returns-2
    returns-3
    returns-4
    returns-5)
