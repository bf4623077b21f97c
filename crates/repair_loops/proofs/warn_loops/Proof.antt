-- `repair_loops::warn_loops` meets its contract: proofs/Laws, of the rows in which the loops are listed.
-- Assumes nothing.
use mathlib.Core.Path.{◌≡◌, refl}
use mathlib.Core.List.{List}
use Prim.Native.Nat.{ℕ, ◌/◌, min}
use native.Mathlib.Omega.{arith}
use lib.IntN.{ℤ, pos}
use lib.ListN.{length}
use Rattle.words.proofs.Bits.{number_word}
use Rattle.fonts.specs.Fonts.{Font, font_of}
use Rattle.fonts.proofs.Lent.{lent_as}
use Rattle.compiling.specs.declared.WalkedFont.{WalkedFont}
use Rattle.compile_loops.specs.FindsLoops.{FindsLoopsBy, FindsLoops}
use Rattle.repair_loops.proofs.Laws.{unfit, few, too_many, listed}
use borrow.Author.Rules.{rules}
use Rattle.repair_loops.proofs.warn_loops.Statement.{statement}
use Rattle.repair_loops.proofs.warn_loops.Tie as tie

-- ---- the font, and the rows that the search leaves

module _ (c : tie.After-find_loops) where
  abbrev start : tie.Start
  start = c.before.before.before.before.before

  abbrev font : ℤ → Font
  font b =
      let a = start.args in font_of a.instructions.now a.kerns.now a.entries.now b a.left_entry (pos 10485760)

  abbrev rows : List ℕ
  rows = c.find_loops.new.work

  abbrev room : ℕ
  room = min (length start.args.work.now / 16) (length start.args.work.now / 16)

  found : (b : ℤ) {r : WalkedFont} → c.find_loops.result ≡ r → FindsLoopsBy (font b) room start.args.work.now rows r
  found b e =
      let a = start.args in
      (lent_as (λ (f : Font) (r : WalkedFont). FindsLoops f room a.work.now rows r) a.instructions.now a.kerns.now a.entries.now b _
      a.left_entry _ (pos 10485760) c.find_loops.result _ (c.find_loops.ensures b) e
      (number_word a.left_entry start.ranges.left_entry) refl).rows

-- where loops are listed, the search is five places before
abbrev searched : tie.In-Rows → tie.After-find_loops
searched c = c.before.before.before

mul-dummy-design-size : tie.Need-overflow_mul-dummy_design_size
mul-dummy-design-size c = search rules

find-loops-requires : tie.Need-find_loops-requires
find-loops-requires c κs = search rules

enum-known-number : tie.Need-enum_known-number
enum-known-number c = search rules

enum-known-r : tie.Need-enum_known-r
enum-known-r c = search rules

zero-all-requires : tie.Need-zero_all-requires
zero-all-requires c κs = search rules

same_length : tie.Need-shape_of-work-then-n-gt2147483647
same_length c = search rules

returns : tie.Need-returns-then-n-gt2147483647
returns c = λ b.
    let k = searched c.before.before.before.before.before in
    let a = (start k).args in
    too_many (font k b) a.n a.warnings.now a.work.now (rows k) _ _ _ _ (found k b c.in-Rows.is) c.zero_all.new.s c.if-n-gt2147483647.true
    c.zero_all.ensures

warn-rows-requires : tie.Need-warn_rows-count-requires
warn-rows-requires c κs =
    let k = searched c.before.before in
    let a = (start k).args in
    let p = found k (pos 0) c.in-Rows.is in (
      few (font k (pos 0)) a.n a.warnings.now a.work.now (rows k) _ _ _ _ p,
      omega (arith, c.if-n-gt2147483647.false),
      p.4.listing,
    )

zero-all-requires-2 : tie.Need-zero_all-requires-in-Rows
zero-all-requires-2 c κs = search rules

same-length-2 : tie.Need-shape_of-work-in-Refused
same-length-2 c = search rules

returns-2 : tie.Need-returns-in-Refused
returns-2 c = λ b.
    let a = (start (c.before.before.before)).args in
    unfit (font (c.before.before.before) b) a.n a.warnings.now a.work.now (rows (c.before.before.before)) c.in-Refused.number (found (c.before.before.before) b c.in-Refused.is)

same-length-3 : tie.Need-shape_of-warnings
same-length-3 c = search rules

same-length-4 : tie.Need-shape_of-work-else-n-gt2147483647
same-length-4 c = search rules

returns-3 : tie.Need-returns-else-n-gt2147483647
returns-3 c = λ b.
    let k = searched c.before.before.before.before.before.before.before.before in
    let a = (start k).args in
    listed (font k b) a.n a.warnings.now a.work.now (rows k) _ _ _ _ (found k b c.in-Rows.is) c.warn_rows-count.new.warnings c.zero_all-in-Rows.new.s
    c.warn_rows-count.result (omega (arith, c.if-n-gt2147483647.false)) c.warn_rows-count.ensures c.zero_all-in-Rows.ensures

pub warn_loops_spec : {M : Type 1} → statement M
warn_loops_spec =
    tie.close
    (tie.spec
    mul-dummy-design-size
    find-loops-requires
    enum-known-number
    enum-known-r
    zero-all-requires
    same_length
    returns
    warn-rows-requires
    zero-all-requires-2
    same-length-2
    returns-2
    same-length-3
    same-length-4
    returns-3)
