-- `caption_run::begin::begin_refusal` meets its contract: the first of four numbers that is not 0.
-- Assumes nothing.
use mathlib.Core.Path.{◌≡◌, sym, ap, ◌∙◌}
use Prim.Native.Nat.{ℕ}
use lib.IntN.{ℤ}
use Rattle.words.proofs.Bits.{number_word}
use Rattle.lang.proofs.Refusals.{first_refusal, later_refusal_lem, second_none}
use Rattle.lang.specs.Checks.{or_else}
use Rattle.captions.specs.Begin.{edges_refusal}
use borrow.Author.Rules.{rules}
use Rattle.caption_run.proofs.begin.begin_refusal.Statement.{statement}
use Rattle.caption_run.proofs.begin.begin_refusal.Tie as tie

edges : (c : tie.After-edges_refusal-edges) → c.edges_refusal-edges.result ≡ edges_refusal c.args.boundary c.args.options
edges c =
    c.edges_refusal-edges.ensures ∙ ap (λ (z : ℤ). edges_refusal z c.args.options) (number_word c.args.boundary c.ranges.boundary)

-- the table is told where the number that is asked before it is 0
late-none : {t m n r : ℕ} → r ≡ t → m ≡ 0 → m ≡ n → r ≡ or_else t n
late-none {t} e z g = e ∙ sym (second_none t) ∙ ap (or_else t) (sym z ∙ g)

edges-refusal-requires : tie.Need-edges_refusal-edges-requires
edges-refusal-requires c κs = search rules

returns : tie.Need-returns-then-edges-ne0
returns c = first_refusal _ (edges c.before) c.if-edges-ne0.true

word-refusal-requires : tie.Need-word_refusal-long-requires
word-refusal-requires c κs = search rules

returns-2 : tie.Need-returns-then-long-ne0
returns-2 c =
    later_refusal_lem (edges c.before.before.before) c.if-edges-ne0.false (first_refusal _ c.word_refusal-long.ensures c.if-long-ne0.true)

codes-refusal-requires : tie.Need-codes_refusal-codes-requires
codes-refusal-requires c κs = search rules

late-refusal-requires : tie.Need-late_refusal-requires
late-refusal-requires c κs = search rules

returns-3 : tie.Need-returns-then-codes-ne0
returns-3 c =
    let h = c.late_refusal.ensures in
    later_refusal_lem (edges c.before.before.before.before.before.before) c.if-edges-ne0.false
    (later_refusal_lem c.word_refusal-long.ensures c.if-long-ne0.false (rw c.codes_refusal-codes.ensures at h))

table-refusal-requires : tie.Need-table_refusal-requires
table-refusal-requires c κs = search rules

returns-4 : tie.Need-returns
returns-4 c =
    later_refusal_lem (edges c.before.before.before.before.before.before) c.if-edges-ne0.false
    (later_refusal_lem c.word_refusal-long.ensures c.if-long-ne0.false
    (late-none c.table_refusal.ensures c.if-codes-ne0.false c.codes_refusal-codes.ensures))

pub begin_refusal_spec : {M : Type 1} → statement M
begin_refusal_spec =
    tie.close
    (tie.spec
    edges-refusal-requires
    returns
    word-refusal-requires
    returns-2
    codes-refusal-requires
    late-refusal-requires
    returns-3
    table-refusal-requires
    returns-4)
