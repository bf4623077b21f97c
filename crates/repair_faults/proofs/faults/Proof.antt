-- `repair_faults::faults` meets its contract: what each test answers, at the boundary character that was lent.
-- Assumes nothing.
use Rattle.lang.proofs.Records.{word_passed}
use Rattle.repair_faults.proofs.Steps.{faults_are}
use borrow.Author.Rules.{rules}
use Rattle.repair_faults.proofs.faults.Statement.{statement}
use Rattle.repair_faults.proofs.faults.Tie as tie

word-of-requires : tie.Need-word_of-edge-requires
word-of-requires c κs = search rules

skip-goes-requires : tie.Need-skip_goes-requires
skip-goes-requires c κs = search rules

redirect-warns-requires : tie.Need-redirect_warns-requires
redirect-warns-requires c κs = search rules

right-goes-requires : tie.Need-right_goes-requires
right-goes-requires c κs = search rules

kern-goes-requires : tie.Need-kern_goes-requires
kern-goes-requires c κs = search rules

product-goes-requires : tie.Need-product_goes-requires
product-goes-requires c κs = search rules

tag-goes-requires : tie.Need-tag_goes-requires
tag-goes-requires c κs = search rules

returns : tie.Need-returns
returns c =
    faults_are c.args.instructions.now c.args.kerns.now c.args.boundary c.args.existing.now c.args.marks.now
    c.args.passthrough.now c.args.i
    (word_passed c.ranges.boundary c.word_of-edge.ensures) c.skip_goes.ensures c.redirect_warns.ensures
    c.right_goes.ensures
    c.kern_goes.ensures c.product_goes.ensures c.tag_goes.ensures

pub faults_spec : {M : Type 1} → statement M
faults_spec =
    tie.close
    (tie.spec
    word-of-requires
    skip-goes-requires
    redirect-warns-requires
    right-goes-requires
    kern-goes-requires
    product-goes-requires
    tag-goes-requires
    returns)
