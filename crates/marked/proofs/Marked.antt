-- Every marked reading (R266 to R273) holds of the definitions: what each row gives is what the rule says. antt computes all but the rows of whole fonts, which
-- are lemmas. Assumes nothing.
use mathlib.Core.Path.{◌≡◌, refl}
use mathlib.Core.List.{map}
use Rattle.tfm.specs.Scaled.{to_scaled, halve}
use Rattle.lang.specs.Operations.{from_bytes, ligature}
use Rattle.pack_labels.specs.Labels.{insert_label, labels, redirects_from}
use Rattle.pack.specs.Packing.{place_among, redirects_to}
use Rattle.reading.specs.Depth.{comp, raise_left}
use Rattle.reading.specs.Loops.{loop_list, insert, ordered, unfinished, walk, walks, member}
use Rattle.fonts.specs.Numbers.{loop_numbers}
use Rattle.reach_marks.specs.Marks.{entries_marked, marks_after}
use Rattle.repairs.specs.Damaged.{unpacked_upto}
use Rattle.repairs.specs.Repaired.{repaired_upto}
use Rattle.repairs.specs.Warnings.{entry_warnings, skip_warnings, steps_warnings}
use Rattle.marked.specs.Rows.{MarkedRow, other_rows, rows, rules_by, pairs_from}
use Rattle.marked.proofs.Compiling.{one_loop, accepted, table, ops, word}

others : map (λ (row : MarkedRow). row.given) other_rows ≡ map (λ (row : MarkedRow). row.said) other_rows
unfolding other_rows rules_by pairs_from loop_numbers to_scaled halve from_bytes ligature comp raise_left loop_list insert ordered unfinished walk walks member
    insert_label labels redirects_from place_among redirects_to unpacked_upto entries_marked marks_after repaired_upto entry_warnings skip_warnings steps_warnings
others = refl

pub marked : map (λ (row : MarkedRow). row.given) rows ≡ map (λ (row : MarkedRow). row.said) rows
marked = rw (one_loop, accepted, table, ops, word, others) refl
