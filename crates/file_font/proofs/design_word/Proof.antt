-- `file_font::design_word` meets its contract: its tests are those of the definition.
-- Assumes nothing.
use borrow.Author.Rules.{rules}
use Rattle.file_font.proofs.Designs.{no_design, small_design, own_design, negative_design}
use Rattle.file_font.proofs.design_word.Statement.{statement}
use Rattle.file_font.proofs.design_word.Tie as tie

kern-word-requires : tie.Need-kern_word-design-requires
kern-word-requires c κs = search rules

file-half-requires : tie.Need-file_half-requires
file-half-requires c κs = search rules

returns : tie.Need-returns-then-file_half-lt2
returns c =
    no_design c.args.file.now c.file_half.ensures c.if-file_half-lt2.true

returns-2 : tie.Need-returns-then-design-lt16
returns-2 c =
    small_design c.args.file.now c.file_half.ensures c.if-file_half-lt2.false c.kern_word-design.result c.kern_word-design.ensures c.if-design-lt16.true

returns-3 : tie.Need-returns-then-design-lt2147483648
returns-3 c =
    own_design c.args.file.now c.file_half.ensures c.if-file_half-lt2.false c.kern_word-design.result c.kern_word-design.ensures c.if-design-lt16.false
    c.if-design-lt2147483648.true

returns-4 : tie.Need-returns-else-design-lt2147483648
returns-4 c =
    negative_design c.args.file.now c.file_half.ensures c.if-file_half-lt2.false c.kern_word-design.result c.kern_word-design.ensures
    c.if-design-lt2147483648.false

pub design_word_spec : {M : Type 1} → statement M
design_word_spec =
    tie.close
    (tie.spec
    kern-word-requires
    file-half-requires
    returns
    returns-2
    returns-3
    returns-4)
