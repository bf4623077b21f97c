-- `font_requests::start_in` meets its contract: by what begin answers.
-- Assumes nothing.
use mathlib.Core.Path.{◌≡◌, sym, ap, ◌∙◌}
use lib.IntN.{ℤ}
use Rattle.words.specs.Words.{word_of, number_of}
use Rattle.words.proofs.Bits.{number_word}
use Rattle.captions.specs.Begin.{fresh_state, begin_of, begin_refusal}
use Rattle.captions.proofs.Replies.{begin_is}
use Rattle.font_runs.specs.Requests.{starting}
use Rattle.font_requests.proofs.Laws.{begun_taken, begun_refused}
use borrow.Author.Rules.{rules}
use Rattle.font_requests.proofs.start_in.Statement.{statement}
use Rattle.font_requests.proofs.start_in.Tie as tie

-- begin, of the boundary character as it was lent
begins : (c : tie.After-begin) → let a = c.args in
    c.begin.result ≡ begin_of a.pairs.now a.ops.now a.boundary a.word.now a.options
begins c =
    let a = c.args in
    begin_is a.pairs.now a.ops.now (number_of (word_of a.boundary)) a.word.now a.options c.begin.result c.begin.ensures
    ∙ ap (λ (z : ℤ). begin_of a.pairs.now a.ops.now z a.word.now a.options) (number_word a.boundary c.ranges.boundary)

begin-requires : tie.Need-begin-requires
begin-requires c κs = search rules

enum-known-state : tie.Need-enum_known-state
enum-known-state c = search rules

enum-known-n : tie.Need-enum_known-n
enum-known-n c = search rules

returns : tie.Need-returns-in-Run
returns c =
    let a = c.args in
    begun_taken (begin_refusal a.pairs.now a.ops.now a.boundary a.word.now a.options) a.number c.in-Run.state
    (fresh_state a.word.now a.options) (sym c.in-Run.is ∙ begins (c.before))

returns-2 : tie.Need-returns-in-Refused
returns-2 c =
    let a = c.args in
    begun_refused (begin_refusal a.pairs.now a.ops.now a.boundary a.word.now a.options) c.in-Refused.n
    (fresh_state a.word.now a.options) (starting a.number a.word.now a.options) (sym c.in-Refused.is ∙ begins (c.before))

pub start_in_spec : {M : Type 1} → statement M
start_in_spec =
    tie.close
    (tie.spec
    begin-requires
    enum-known-state
    enum-known-n
    returns
    returns-2)
