-- `same_answer::is_ligature_item` meets its contract, arm by arm; in that of a ligature, number by number.
-- Assumes nothing.
use borrow.Author.Rules.{rules}
use mathlib.Core.Path.{sym, ◌∙◌}
use borrow.Author.Tests.{eq-eqb, ne_eqb}
use Rattle.same_answer.proofs.is_ligature_item.Statement.{statement}
use Rattle.same_answer.proofs.is_ligature_item.Tie as tie

enum-known-b : tie.Need-enum_known-b
enum-known-b c = search rules

returns : tie.Need-returns-then-code-c
returns c = rw (c.in-Ligature.is, ne_eqb _ c.in-Ligature.c c.if-code-c.true)

returns-2 : tie.Need-returns-then-start-at
returns-2 c = rw (
  c.in-Ligature.is,
  eq-eqb _ c.in-Ligature.c c.if-code-c.false,
  ne_eqb _ c.in-Ligature.at
      c.if-start-at.true,
)

returns-3 : tie.Need-returns-then-n-m
returns-3 c =
    rw (
      c.in-Ligature.is,
      eq-eqb _ c.in-Ligature.c c.if-code-c.false,
      eq-eqb _ c.in-Ligature.at c.if-start-at.false,
      ne_eqb _ c.in-Ligature.m c.if-n-m.true,
    )

same-flag-requires : tie.Need-same_flag-requires
same-flag-requires c κs = search rules

same-flag-requires-2 : tie.Need-same_flag-requires-then-same_flag
same-flag-requires-2 c κs = search rules

enum_told : tie.Need-enum_told-1
enum_told c = search rules

enum-told-2 : tie.Need-enum_told-in-Kern
enum-told-2 c = search rules

enum-told-3 : tie.Need-enum_told-in-End
enum-told-3 c = search rules

enum-told-4 : tie.Need-enum_told-in-Refused
enum-told-4 c = search rules

returns-4 : tie.Need-returns-then-same_flag
returns-4 c =
    rw (
      c.in-Ligature.is,
      eq-eqb _ c.in-Ligature.c c.if-code-c.false,
      eq-eqb _ c.in-Ligature.at c.if-start-at.false,
      eq-eqb _ c.in-Ligature.m c.if-n-m.false,
      ← c.same_flag.ensures,
      c.if-same_flag.true,
    ) c.same_flag-then-same_flag.ensures

returns-5 : tie.Need-returns-else-same_flag
returns-5 c =
    rw (
      c.in-Ligature.is,
      eq-eqb _ c.in-Ligature.c c.if-code-c.false,
      eq-eqb _ c.in-Ligature.at c.if-start-at.false,
      eq-eqb _ c.in-Ligature.m c.if-n-m.false,
      ← c.same_flag.ensures,
      c.if-same_flag.false,
    )

returns-6 : tie.Need-returns-in-Char
returns-6 c = search rules

returns-7 : tie.Need-returns-in-Kern
returns-7 c = search rules

returns-8 : tie.Need-returns-in-End
returns-8 c = search rules

returns-9 : tie.Need-returns-in-Refused
returns-9 c = search rules

pub is_ligature_item_spec : {M : Type 1} → statement M
is_ligature_item_spec =
    tie.close
    (tie.spec
    enum-known-b
    returns
    returns-2
    returns-3
    same-flag-requires
    same-flag-requires-2
    enum_told
    enum-told-2
    enum-told-3
    enum-told-4
    returns-4
    returns-5
    returns-6
    returns-7
    returns-8
    returns-9)
