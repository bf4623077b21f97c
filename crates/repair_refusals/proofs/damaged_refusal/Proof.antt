-- `repair_refusals::damaged_refusal` meets its contract: the first refusal that is not 0.
-- Assumes nothing.
use mathlib.Core.Path.{◌≡◌, sym, ap, ◌∙◌}
use mathlib.Core.List.{List, []}
use Prim.Native.Nat.{ℕ}
use lib.Dec.{leb}
use Rattle.words.specs.Words.{word_of}
use Rattle.words.proofs.Bits.{number_word}
use Rattle.lang.specs.Checks.{program_refusal, kerns_refusal, entries_refusal, absent_refusal, passthrough_refusal, or_else, unless}
use Rattle.lang.proofs.Refusals.{first_refusal, later_refusal_lem, or_else_assoc}
use Rattle.repairs.specs.Damaged.{Damaged}
use Rattle.repairs.specs.Repairs.{damaged_of, damaged_refusal}
use borrow.Author.Rules.{rules}
use Rattle.repair_refusals.proofs.damaged_refusal.Statement.{statement}
use Rattle.repair_refusals.proofs.damaged_refusal.Tie as tie

-- three refusals in a row, and then others
grouped : (a b c x : ℕ) → or_else (or_else a (or_else b c)) x ≡ or_else a (or_else b (or_else c x))
grouped a b c x = sym (or_else_assoc a (or_else b c) x) ∙ ap (or_else a) (sym (or_else_assoc b c x))

-- those of the lists, and those of the boundary character, the left entry and the replacement
abbrev of-lists : Damaged → ℕ
of-lists d = or_else (program_refusal d.instructions) (or_else (kerns_refusal d.kerns) (entries_refusal 255 d.entries))

abbrev of-edges : Damaged → ℕ
of-edges d = or_else (absent_refusal 255 d.boundary) (or_else (absent_refusal 65535 d.left) (unless 4 (leb d.replacement 255)))

-- all seven, as the function asks them
asked : (d : Damaged) → or_else (of-lists d) (or_else (of-edges d) (passthrough_refusal d.passthrough d.instructions)) ≡ damaged_refusal d
asked d =
    ap (or_else (of-lists d)) (grouped (absent_refusal 255 d.boundary) (absent_refusal 65535 d.left) (unless 4 (leb d.replacement 255)) _)
    ∙ grouped (program_refusal d.instructions) (kerns_refusal d.kerns) (entries_refusal 255 d.entries) _

-- the font as it was lent; the characters that exist are not asked for
abbrev font : tie.Start → List ℕ → Damaged
font s existing =
    let a = s.args in
    damaged_of a.instructions.now a.kerns.now a.entries.now a.boundary a.left_entry a.replacement existing a.passthrough.now

abbrev start : tie.After-edge_refusal-edges → tie.Start
start c = c.before.before.before.before

edges : (c : tie.After-edge_refusal-edges) → c.edge_refusal-edges.result ≡ of-edges (font (start c) [])
edges c =
    let s = start c in
    let x = number_word s.args.boundary s.ranges.boundary in
    let y = number_word s.args.left_entry s.ranges.left_entry in
    let z = number_word s.args.replacement s.ranges.replacement in
    c.edge_refusal-edges.ensures ∙ (λ i. or_else (absent_refusal 255 (x i)) (or_else (absent_refusal 65535 (y i)) (unless 4 (leb (word_of (z i)) 255))))

lists-refusal-requires : tie.Need-lists_refusal-lists-requires
lists-refusal-requires c κs = search rules

returns : tie.Need-returns-then-lists-ne0
returns c = λ x. first_refusal _ c.lists_refusal-lists.ensures c.if-lists-ne0.true ∙ asked (font c.before.before.before x)

edge-refusal-requires : tie.Need-edge_refusal-edges-requires
edge-refusal-requires c κs = search rules

returns-2 : tie.Need-returns-then-edges-ne0
returns-2 c = λ x.
    later_refusal_lem c.lists_refusal-lists.ensures c.if-lists-ne0.false (first_refusal _ (edges c.before) c.if-edges-ne0.true) ∙ asked (font (start c.before) x)

passthrough-refusal-requires : tie.Need-passthrough_refusal-requires
passthrough-refusal-requires c κs = search rules

returns-3 : tie.Need-returns
returns-3 c = λ x.
    later_refusal_lem c.lists_refusal-lists.ensures c.if-lists-ne0.false (later_refusal_lem (edges c.before.before) c.if-edges-ne0.false c.passthrough_refusal.ensures)
    ∙ asked (font (start c.before.before) x)

pub damaged_refusal_spec : {M : Type 1} → statement M
damaged_refusal_spec =
    tie.close
    (tie.spec
    lists-refusal-requires
    returns
    edge-refusal-requires
    returns-2
    passthrough-refusal-requires
    returns-3)
