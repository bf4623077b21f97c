-- `c_queries::answers::reply_of` meets its contract: each case has the same number and values. Assumes nothing.
use mathlib.Core.Path.{refl}
use borrow.Author.Rules.{rules}
use Rattle.c_queries.proofs.answers.reply_of.Statement.{statement}
use Rattle.c_queries.proofs.answers.reply_of.Tie as tie

enum-known-answer : tie.Need-enum_known-answer
enum-known-answer c = search rules

enum-known-answer-2 : tie.Need-enum_known-answer-in-Is-1
enum-known-answer-2 c = search rules

returns : tie.Need-returns-in-Refused
returns c = rw c.in-Refused.is refl

returns-2 : tie.Need-returns-then-yes
returns-2 c = rw (c.in-Is.is, c.if-yes.true) refl

returns-3 : tie.Need-returns-else-yes
returns-3 c = rw (c.in-Is.is, c.if-yes.false) refl

pub reply_of_spec : {M : Type 1} → statement M
reply_of_spec =
    tie.close
    (tie.spec
    enum-known-answer
    enum-known-answer-2
    returns
    returns-2
    returns-3)
