-- `text_shared::read_shared` meets its contract: 16, or what was read with its kern values shared. Assumes nothing.
use Rattle.std.proofs.Common.{rules, ◌≡◌, ◌∙◌, ap, length}
use lib.IntN.{pos}
use lib.ListN.{replicate, length-replicate}
use Rattle.columns.specs.Texts.{read_text}
use Rattle.text_shared.proofs.Laws.{blank_of, shared_none, read_and_shared}
use Rattle.text_shared.proofs.read_shared.Goals as goal

pub returns-in_default : goal.returns-in_default
returns-in_default c =
    let long : length c.args.kerns.now ≡ 1024 = search rules in
    let z : c.zero_all.new.s ≡ replicate 1024 (pos 0) = blank_of c.args.kerns.now c.zero_all.new.s 1024 long c.zero_all.ensures in
    shared_none (read_text c.args.text.now) c.in_default.ensures z (ap length z ∙ length-replicate 1024 (pos 0))

pub returns : goal.returns
returns c = rw c.with_kerns.ensures (read_and_shared (read_text c.args.text.now) c.in-Some.ensures c.share_text-m.ensures)
