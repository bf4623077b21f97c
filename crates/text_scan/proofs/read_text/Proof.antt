-- `text_scan::read_text` meets its contract. Assumes nothing.
use Rattle.text_scan.proofs.Clearing.{clears}
use borrow.Author.Rules.{rules}
use Rattle.text_scan.proofs.read_text.Statement.{statement}
use Rattle.text_scan.proofs.read_text.Tie as tie

zero-lists-requires : tie.Need-zero_lists-requires
zero-lists-requires c κs = search rules

read-zeroed-requires : tie.Need-read_zeroed-read-requires
read-zeroed-requires c κs = search rules

enum_told : tie.Need-enum_told-1
enum_told c = search rules

enum-told-2 : tie.Need-enum_told-in-None
enum-told-2 c = search rules

zero-lists-requires-2 : tie.Need-zero_lists-requires-in-None
zero-lists-requires-2 c κs = search rules

returns : tie.Need-returns-in-Some
returns c =
    c.read_zeroed-read.ensures.on c.in-Some.field-0 c.in-Some.is

returns-2 : tie.Need-returns-in-None
returns-2 c =
    let a = c.args in
    clears a.text.now c.read_zeroed-read.result c.zero_lists-in-None.new.instructions c.zero_lists-in-None.new.kerns c.zero_lists-in-None.new.entries c.zero_lists-in-None.new.word c.in-None.is
    (c.read_zeroed-read.ensures.stuck c.in-None.is) c.zero_lists-in-None.ensures

pub read_text_spec : {M : Type 1} → statement M
read_text_spec =
    tie.close
    (tie.spec
    zero-lists-requires
    read-zeroed-requires
    enum_told
    enum-told-2
    zero-lists-requires-2
    returns
    returns-2)
