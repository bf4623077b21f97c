-- `text_scan::zero_lists` meets its contract. Assumes nothing.
use lib.IntN.{pos}
use Rattle.text_scan.proofs.Clearing.{zeroed}
use borrow.Author.Rules.{rules}
use Rattle.text_scan.proofs.zero_lists.Statement.{statement}
use Rattle.text_scan.proofs.zero_lists.Tie as tie

zero-i32-requires : tie.Need-zero_all-requires
zero-i32-requires c κs = search rules

zero-i32-requires-2 : tie.Need-zero_all-requires-2
zero-i32-requires-2 c κs = search rules

zero-i32-requires-3 : tie.Need-zero_all-requires-3
zero-i32-requires-3 c κs = search rules

zero-u32-requires : tie.Need-zero_all-requires-4
zero-u32-requires c κs = search rules

returns : tie.Need-returns
returns c =
    let a = c.args in
    record {
      no_instructions = zeroed (pos 0) 2048 a.instructions.now c.zero_all.new.s c.zero_all-arg-1.given.0.1 c.zero_all.ensures;
      no_kerns = zeroed (pos 0) 512 a.kerns.now c.zero_all-2.new.s c.zero_all-arg-2-1.given.0.1 c.zero_all-2.ensures;
      no_entries = zeroed (pos 0) 5040 a.entries.now c.zero_all-3.new.s c.zero_all-arg-3-1.given.0.1 c.zero_all-3.ensures;
      no_word = zeroed 0 64 a.word.now c.zero_all-4.new.s c.zero_all-arg-4-1.given.0.1 c.zero_all-4.ensures;
    }

pub zero_lists_spec : {M : Type 1} → statement M
zero_lists_spec =
    tie.close
    (tie.spec
    zero-i32-requires
    zero-i32-requires-2
    zero-i32-requires-3
    zero-u32-requires
    returns)
