-- `kern_share::share_kerns` meets its contract: the kerns are gathered, then the instructions shared. Assumes nothing.
use mathlib.Core.Path.{◌≡◌, sym, ap, ◌∙◌}
use mathlib.Core.Bool.{true}
use mathlib.Core.List.{List}
use native.Mathlib.Omega.{arith}
use lib.IntN.{ℤ}
use lib.ListN.{length}
use borrow.Author.Tests.{not-true, not-false}
use borrow.Author.Rules.{rules}
use Rattle.program_kerns.specs.SharedKerns.{has_kern_room}
use Rattle.kern_share.proofs.Laws.{shares_nothing, shares_all, room_few, room_here, all_few, front_is}
use Rattle.kern_share.proofs.share_kerns.Statement.{statement}
use Rattle.kern_share.proofs.share_kerns.Tie as tie

-- there is room
room : (c : tie.Else-not-has_room) → has_kern_room c.args.instructions.now c.args.kerns.now c.args.k ≡ true
room c = sym c.has_room.ensures ∙ c.if-not-has_room.false

has-room-requires : tie.Need-has_room-requires
has-room-requires c κs = search rules

returns : tie.Need-returns-then-not-has_room
returns c =
    let a = c.args in
    shares_nothing a.instructions.now a.kerns.now a.k (sym c.has_room.ensures ∙ c.if-not-has_room.true)

gather-requires : tie.Need-gather-m-requires
gather-requires c κs =
    let a = c.args in
    room_here a.instructions.now a.kerns.now a.k (room (c.before))

slice-reshare-prefix-share-all : tie.Need-slice_bounds-share_all-end
slice-reshare-prefix-share-all c = search rules

slice-aggregate-share-all : tie.Need-slice_bounds-share_all-end-2
slice-aggregate-share-all c =
    let a = c.args in
    c.gather-m.ensures.0
    ∙ sym (ap (λ (l : List ℤ). length l) (front_is a.instructions.now a.kerns.now a.k (room (c.before.before.before.before)) c.gather-m.ensures.0 c.gather-m.ensures.1))

share-all-requires : tie.Need-share_all-requires
share-all-requires c κs =
    let a = c.args in
    let f = front_is a.instructions.now a.kerns.now a.k (room (c.before.before.before.before)) c.gather-m.ensures.0 c.gather-m.ensures.1 in
    rw f (omega (arith, all_few a.instructions.now a.kerns.now a.k (room (c.before.before.before.before)), room_few a.instructions.now a.kerns.now a.k (room (c.before.before.before.before))))

same_length : tie.Need-shape_of-instructions
same_length c = search rules

same-length-2 : tie.Need-shape_of-kerns
same-length-2 c = search rules

returns-2 : tie.Need-returns
returns-2 c =
    let a = c.args in
    shares_all a.instructions.now a.kerns.now a.k (room (c.before.before.before.before.before.before)) c.gather-m.ensures.0 c.gather-m.ensures.1 c.share_all.ensures

pub share_kerns_spec : {M : Type 1} → statement M
share_kerns_spec =
    tie.close
    (tie.spec
    has-room-requires
    returns
    gather-requires
    slice-reshare-prefix-share-all
    slice-aggregate-share-all
    share-all-requires
    same_length
    same-length-2
    returns-2)
