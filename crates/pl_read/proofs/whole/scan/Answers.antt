use mathlib.Core.Path.{sym, ◌∙◌}
use Rattle.pl_read.proofs.Running.{scan_bad}
use Rattle.pl_read.proofs.whole.scan.Goals as goal

pub returns-then-not-good_indents : goal.returns-then-not-good_indents
returns-then-not-good_indents c = scan_bad c.args.text.now (sym c.good_indents.ensures ∙ c.if-not-good_indents.true)
