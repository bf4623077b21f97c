-- `point_scan::scan_points` meets its contract: the parts before and behind the first point, or the text alone.
-- Assumes nothing.
use mathlib.Core.Path.{sym, ap, ◌∙◌}
use Prim.Native.Nat.{◌≤◌}
use native.Mathlib.Omega.{arith}
use lib.ListN.{length}
use lib.Seq.{length-take-le}
use Rattle.points.specs.Scanning.{scanned_as}
use Rattle.point_scan.proofs.Parts.{parts_point, parts_alone}
use borrow.Author.Rules.{rules}
use Rattle.point_scan.proofs.scan_points.Statement.{statement}
use Rattle.point_scan.proofs.scan_points.Tie as tie

point-place-requires : tie.Need-point_place-point-requires
point-place-requires c κs = search rules

sub-scan-parts : tie.Need-slice_bounds-scan_parts-count
sub-scan-parts c = search rules

part-scan-parts-start : tie.Need-slice_bounds-scan_parts-start
part-scan-parts-start c = search rules

part-scan-parts-end : tie.Need-slice_bounds-scan_parts-end
part-scan-parts-end c = search rules

scan-parts-requires : tie.Need-scan_parts-requires
scan-parts-requires c κs = search rules

returns : tie.Need-returns-then-end-point
returns c =
    let s = c.args in
    c.scan_parts.ensures ∙ ap scanned_as (parts_alone s.text.now c.point_place-point.result c.point_place-point.ensures c.if-end-point.true)

slice-aggregate-scan-parts : tie.Need-slice_bounds-scan_parts-end-2
slice-aggregate-scan-parts c =
    let h : c.point_place-point.result ≤ length c.args.text.now = omega arith in
    sym (length-take-le c.point_place-point.result c.args.text.now h)

add-scan-parts : tie.Need-overflow_add-point
add-scan-parts c = search rules

sub-scan-parts-2 : tie.Need-slice_bounds-scan_parts-count-2
sub-scan-parts-2 c = search rules

part-scan-parts-start-2 : tie.Need-slice_bounds-scan_parts-start-2
part-scan-parts-start-2 c = search rules

part-scan-parts-end-2 : tie.Need-slice_bounds-scan_parts-end-2
part-scan-parts-end-2 c = search rules

scan-parts-requires-2 : tie.Need-scan_parts-requires-2
scan-parts-requires-2 c κs = search rules

returns-2 : tie.Need-returns
returns-2 c =
    let s = c.args in
    c.scan_parts-2.ensures ∙ ap scanned_as (parts_point s.text.now c.point_place-point.result c.point_place-point.ensures)

asked-slice_bounds-scan_parts-start : tie.Need-slice_bounds-scan_parts-start
asked-slice_bounds-scan_parts-start = search rules

asked-slice_bounds-scan_parts-end : tie.Need-slice_bounds-scan_parts-end
asked-slice_bounds-scan_parts-end = search rules

asked-slice_bounds-scan_parts-start-2 : tie.Need-slice_bounds-scan_parts-start-2
asked-slice_bounds-scan_parts-start-2 = search rules

asked-slice_bounds-scan_parts-end-3 : tie.Need-slice_bounds-scan_parts-end-3
asked-slice_bounds-scan_parts-end-3 = search rules

pub scan_points_spec : {M : Type 1} → statement M
scan_points_spec =
    tie.close
    (tie.spec
    point-place-requires
    sub-scan-parts
    asked-slice_bounds-scan_parts-start
    asked-slice_bounds-scan_parts-end
    scan-parts-requires
    returns
    slice-aggregate-scan-parts
    add-scan-parts
    sub-scan-parts-2
    asked-slice_bounds-scan_parts-start-2
    asked-slice_bounds-scan_parts-end-3
    scan-parts-requires-2
    returns-2)
