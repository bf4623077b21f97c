-- `file_reading::deserialize` meets its contract: zeros where the file is refused, and else its lists and zeros.
-- Assumes nothing.
use mathlib.Core.Path.{◌≡◌, sym, ◌∙◌}
use lib.ListN.{length}
use Rattle.files.specs.Reading.{deserialize_refusal}
use Rattle.file_reading.proofs.Reading.{reads_refused, reads_taken}
use borrow.Author.Rules.{rules}
use Rattle.file_reading.proofs.deserialize.Statement.{statement}
use Rattle.file_reading.proofs.deserialize.Tie as tie

abbrev start : tie.After-deserialize_refusal-refusal → tie.Start
start r = r.before.before.before.before.before.before.before.before.before.before.before

-- what is refused of the lists as they were lent
asked : (r : tie.After-deserialize_refusal-refusal) → let a = (start r).args in
    r.deserialize_refusal-refusal.result ≡ deserialize_refusal a.file.now (length a.instructions.now) (length a.kerns.now) (length a.entries.now)
asked r =
    r.deserialize_refusal-refusal.ensures ∙ rw (r.zero_all.auto.s, r.zero_all-2.auto.s, r.zero_all-3.auto.s)

zero-all-requires : tie.Need-zero_all-requires
zero-all-requires c κs = search rules

zero-all-requires-2 : tie.Need-zero_all-requires-2
zero-all-requires-2 c κs = search rules

zero-all-requires-3 : tie.Need-zero_all-requires-3
zero-all-requires-3 c κs = search rules

deserialize-refusal-requires : tie.Need-deserialize_refusal-refusal-requires
deserialize-refusal-requires c κs = search rules

same_length : tie.Need-shape_of-instructions-then-refusal-ne0
same_length c = search rules

same-length-2 : tie.Need-shape_of-kerns-then-refusal-ne0
same-length-2 c = search rules

same-length-3 : tie.Need-shape_of-entries-then-refusal-ne0
same-length-3 c = search rules

returns : tie.Need-returns-then-refusal-ne0
returns c =
    reads_refused c.zero_all.ensures c.zero_all-2.ensures c.zero_all-3.ensures (asked (c.before)) c.if-refusal-ne0.true

write-font-requires : tie.Need-write_font-requires
write-font-requires c κs = sym c.deserialize_refusal-refusal.ensures ∙ c.if-refusal-ne0.false

same-length-4 : tie.Need-shape_of-instructions
same-length-4 c = search rules

same-length-5 : tie.Need-shape_of-kerns
same-length-5 c = search rules

same-length-6 : tie.Need-shape_of-entries
same-length-6 c = search rules

returns-2 : tie.Need-returns
returns-2 c =
    reads_taken c.zero_all.ensures c.zero_all-2.ensures c.zero_all-3.ensures (sym (asked (c.before.before.before.before.before.before.before.before)) ∙ c.if-refusal-ne0.false) c.write_font.ensures

pub deserialize_spec : {M : Type 1} → statement M
deserialize_spec =
    tie.close
    (tie.spec
    zero-all-requires
    zero-all-requires-2
    zero-all-requires-3
    deserialize-refusal-requires
    same_length
    same-length-2
    same-length-3
    returns
    write-font-requires
    same-length-4
    same-length-5
    same-length-6
    returns-2)
