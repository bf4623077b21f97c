-- `font_requests::start_word` meets its contract: by what is asked for.
-- Assumes nothing.
use mathlib.Core.Path.{◌≡◌, sym, ap, ◌∙◌}
use mathlib.Core.List.{List}
use Prim.Native.Nat.{ℕ}
use lib.IntN.{ℤ}
use Rattle.std.specs.Prelude.{Option}
use Rattle.words.proofs.Bits.{number_word}
use Rattle.captions.specs.declared.RunOptions.{RunOptions}
use Rattle.font_runs.specs.declared.FontRun.{FontRun}
use Rattle.font_runs.specs.declared.Requested.{Requested}
use Rattle.font_runs.specs.Requests.{LentFont, lending, requested_by, by_asked, start_font, starting, start_refusal}
use borrow.Author.Rules.{rules}
use Rattle.font_requests.proofs.start_word.Statement.{statement}
use Rattle.font_requests.proofs.start_word.Tie as tie

-- a word started in a font
abbrev start_in : List ℕ → RunOptions → ℕ → LentFont → Requested
start_in word options number font = requested_by (start_refusal font word options) (starting number word options)

-- by what is asked for
abbrev start_by : LentFont → LentFont → List ℕ → RunOptions → FontRun → Option ℕ → Requested
start_by font other word options run x = start_in word options (by_asked x run.font (λ n. n)) (start_font font other x)

enum_told : tie.Need-enum_told-1
enum_told c = search rules

start-in-requires : tie.Need-start_in-requires
start-in-requires c κs = search rules

enum-known-asked : tie.Need-enum_known-asked
enum-known-asked c = search rules

start-in-requires-2 : tie.Need-start_in-requires-in-Some
start-in-requires-2 c κs = search rules

returns : tie.Need-returns-in-None
returns c =
    let a = c.args in
    c.start_in.ensures
    ∙ ap (λ (z : ℤ). start_in a.word.now a.options a.run.font (lending a.pairs.now a.ops.now z))
    (number_word a.boundary c.ranges.boundary)
    ∙ ap (start_by (lending a.pairs.now a.ops.now a.boundary) (lending a.asked_pairs.now a.asked_ops.now a.asked_boundary)
    a.word.now a.options a.run) (sym c.in-None.is)

returns-2 : tie.Need-returns-in-Some
returns-2 c =
    let a = c.args in
    c.start_in-in-Some.ensures
    ∙ ap (λ (z : ℤ). start_in a.word.now a.options c.in-Some.n (lending a.asked_pairs.now a.asked_ops.now z))
    (number_word a.asked_boundary c.ranges.asked_boundary)
    ∙ ap (start_by (lending a.pairs.now a.ops.now a.boundary) (lending a.asked_pairs.now a.asked_ops.now a.asked_boundary)
    a.word.now a.options a.run) (sym c.in-Some.is)

pub start_word_spec : {M : Type 1} → statement M
start_word_spec =
    tie.close
    (tie.spec
    enum_told
    start-in-requires
    enum-known-asked
    start-in-requires-2
    returns
    returns-2)
