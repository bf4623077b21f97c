-- `font_steps::in_asked` meets its contract, by the arm that is taken.
-- Assumes nothing.
use mathlib.Core.Path.{◌≡◌, sym, ap}
use Rattle.captions.specs.declared.Answer.{Answer}
use Rattle.font_runs.specs.declared.FontStep.{FontStep}
use Rattle.font_runs.specs.Changes.{hand_run, in_asked}
use borrow.Author.Rules.{rules}
use Rattle.font_steps.proofs.in_asked.Statement.{statement}
use Rattle.font_steps.proofs.in_asked.Tie as tie

enum_told : tie.Need-enum_told-1
enum_told c = search rules

enum-told-2 : tie.Need-enum_told-in-Ligature
enum-told-2 c = search rules

enum-told-3 : tie.Need-enum_told-in-Kern
enum-told-3 c = search rules

enum-told-4 : tie.Need-enum_told-in-End
enum-told-4 c = search rules

enum-told-5 : tie.Need-enum_told-in-Refused
enum-told-5 c = search rules

returns : tie.Need-returns-in-Char
returns c = rw c.in-Char.is

returns-2 : tie.Need-returns-in-Ligature
returns-2 c = rw c.in-Ligature.is

returns-3 : tie.Need-returns-in-Kern
returns-3 c = rw c.in-Kern.is

returns-4 : tie.Need-returns-in-End
returns-4 c = rw c.in-End.is

returns-5 : tie.Need-returns-in-Refused
returns-5 c = rw c.in-Refused.is

pub in_asked_spec : {M : Type 1} → statement M
in_asked_spec =
    tie.close
    (tie.spec
    enum_told
    enum-told-2
    enum-told-3
    enum-told-4
    enum-told-5
    returns
    returns-2
    returns-3
    returns-4
    returns-5)
