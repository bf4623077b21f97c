-- `ligkern_compile` for C promises what the call that it makes promises: an i32 that is passed on is what it was.
use Rattle.std.proofs.Common.{w32}
use mir.ValLaws.{to_z-of_z}
use Rattle.ligkern_c.proofs.c_compile_calls.ligkern_compile.Goals as goal

pub returns : goal.returns
returns c =
    let b = to_z-of_z w32 c.args.boundary c.ranges.boundary in
    let l = to_z-of_z w32 c.args.left_entry c.ranges.left_entry in
    let d = to_z-of_z w32 c.args.design_size c.ranges.design_size in
    let s = to_z-of_z w32 c.args.size c.ranges.size in
    let m = to_z-of_z w32 c.args.magnification c.ranges.magnification in
    rw (b, l, d, s, m) at c.ligkern_compile.ensures
