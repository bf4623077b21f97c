-- `text_shared::share_text` meets its contract: the kerns copied behind zeros, and the program shared. Assumes nothing.
use mathlib.Core.Path.{◌≡◌, ap}
use mathlib.Core.Logic.{◌⊎◌, inl, inr}
use Prim.Native.Nat.{◌<◌, ◌≤◌}
use native.Mathlib.Omega.{arith}
use lib.IntN.{pos}
use lib.ListN.{length, replicate, length-replicate}
use borrow.Author.Rules.{rules}
use Rattle.text_shared.proofs.Laws.{blank_of, text_past, text_shared}
use Rattle.text_shared.proofs.share_text.Statement.{statement}
use Rattle.text_shared.proofs.share_text.Tie as tie
use Rattle.text_shared.proofs.share_text.Lts.{then-i-gt2048-via-then-i-gt2048, then-i-gt2048-via-else-i-gt2048+then-k-gt512}

-- the list of kerns, zeros
blank : (z : tie.After-zero_all) → z.zero_all.new.s ≡ replicate 1024 (pos 0)
blank z = blank_of z.args.kerns.now z.zero_all.new.s 1024 z.zero_all-arg-1.given.0.1 z.zero_all.ensures

-- past the limits, by either test
past : (j : tie.Joined-then-i-gt2048) → let a = j.args in (2048 < a.i) ⊎ (512 < a.k)
past j =
    elim j.then-i-gt2048.branch [
      | then-i-gt2048-via-then-i-gt2048 w ↦ inl w.if-i-gt2048.true
      | then-i-gt2048-via-else-i-gt2048+then-k-gt512 w ↦ inr w.if-k-gt512.true
    ]

-- within them
few : (e : tie.Else-k-gt512) → let a = e.args in (a.i ≤ 2048) × (a.k ≤ 512)
few e = (e.if-i-gt2048.false, e.if-k-gt512.false)

zero-all-requires : tie.Need-zero_all-requires
zero-all-requires c κs = search rules

returns : tie.Need-returns-then-i-gt2048
returns c =
    let a = c.args in
    text_past a.i a.k a.instructions.now a.own.now (past c) (blank (c.before))

own-long : (c : tie.After-copy_front-arg-2-1) → let a = c.args in length a.own.now ≡ 512
own-long c = search rules

copy-front-requires : tie.Need-copy_front-requires
copy-front-requires c κs =
    (omega (arith, (few (c.before.before)).1, own-long c), omega (arith, (few (c.before.before)).1, ap length (blank (c.before.before.before.before)), length-replicate 1024 (pos 0)))

program_long : (c : tie.After-share_front-arg-2-1) → let a = c.args in
    length a.instructions.now ≡ 2048
program_long c = search rules

share-front-requires : tie.Need-share_front-requires
share-front-requires c κs =
    omega (arith, (few (c.before.before.before.before.before)).0, program_long c)

returns-2 : tie.Need-returns
returns-2 c =
    let a = c.args in
    text_shared a.i a.k a.instructions.now a.own.now (few (c.before.before.before.before.before.before)).0 (few (c.before.before.before.before.before.before)).1 (program_long (c.before)) (own-long (c.before.before.before.before)) (blank (c.before.before.before.before.before.before.before.before)) c.copy_front.ensures
    c.share_front.ensures

pub share_text_spec : {M : Type 1} → statement M
share_text_spec =
    tie.close
    (tie.spec
    zero-all-requires
    returns
    copy-front-requires
    share-front-requires
    returns-2)
