-- `word_items::is_small` meets its contract, arm by arm.
-- Assumes nothing.
use borrow.Author.Tests.{le-leb, lt-leb, lt-ltb, le-ltb}
use borrow.Author.Rules.{rules}
use Rattle.word_items.proofs.is_small.Statement.{statement}
use Rattle.word_items.proofs.is_small.Tie as tie

enum-known-answer : tie.Need-enum_known-answer
enum-known-answer c = search rules

enum-known-answer-2 : tie.Need-enum_known-answer-in-Ligature-1
enum-known-answer-2 c = search rules

returns : tie.Need-returns-then-c-gt1114111
returns c = rw (c.in-Ligature.is, lt-leb c.in-Ligature.c 1114111 c.if-c-gt1114111.true)

enum_told : tie.Need-enum_told-1
enum_told c = search rules

enum-told-2 : tie.Need-enum_told-in-End
enum-told-2 c = search rules

enum-known-answer-3 : tie.Need-enum_known-answer-in-Refused-1
enum-known-answer-3 c = search rules

returns-2 : tie.Need-returns-then-c-le1114111
returns-2 c = rw (c.in-Char.is, le-leb c.in-Char.c 1114111 c.if-c-le1114111.true)

returns-3 : tie.Need-returns-else-c-le1114111
returns-3 c = rw (c.in-Char.is, lt-leb c.in-Char.c 1114111 c.if-c-le1114111.false)

returns-4 : tie.Need-returns-then-start-le65535
returns-4 c =
    rw (c.in-Ligature.is, le-leb c.in-Ligature.c 1114111 c.if-c-gt1114111.false, le-leb c.in-Ligature.start 65535 c.if-start-le65535.true)

returns-5 : tie.Need-returns-else-start-le65535
returns-5 c =
    rw (c.in-Ligature.is, le-leb c.in-Ligature.c 1114111 c.if-c-gt1114111.false, lt-leb c.in-Ligature.start 65535 c.if-start-le65535.false)

returns-6 : tie.Need-returns-in-Kern
returns-6 c = search rules

returns-7 : tie.Need-returns-in-End
returns-7 c = search rules

returns-8 : tie.Need-returns-then-n-gt0
returns-8 c = rw (c.in-Refused.is, lt-ltb 0 c.in-Refused.n c.if-n-gt0.true)

returns-9 : tie.Need-returns-else-n-gt0
returns-9 c = rw (c.in-Refused.is, le-ltb 0 c.in-Refused.n c.if-n-gt0.false)

pub is_small_spec : {M : Type 1} → statement M
is_small_spec =
    tie.close
    (tie.spec
    enum-known-answer
    enum-known-answer-2
    returns
    enum_told
    enum-told-2
    enum-known-answer-3
    returns-2
    returns-3
    returns-4
    returns-5
    returns-6
    returns-7
    returns-8
    returns-9)
