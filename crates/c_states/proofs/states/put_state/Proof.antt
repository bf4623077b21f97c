-- `c_states::states::put_state` meets its contract: no room; or the nine numbers, each from its part of the state.
-- Assumes nothing.
use mathlib.Core.Path.{◌≡◌, sym, ◌∙◌}
use mathlib.Core.List.{[], ◌∷◌}
use native.Mathlib.Omega.{arith}
use lib.ListN.{length}
use lib.Seq.{sets}
use Rattle.words.proofs.Lists.{sets_front}
use Rattle.lang.proofs.Refusals.{room_is, room_short}
use Rattle.c_states.specs.States.{numbers_of}
use borrow.Author.Rules.{rules}
use Rattle.c_states.proofs.states.put_state.Statement.{statement}
use Rattle.c_states.proofs.states.put_state.Tie as tie

returns : tie.Need-returns-then-list-lt9
returns c =
    let a = c.args in
    let e = room_short 9 (length a.list.now) c.if-list-lt9.true in
    record { number = sym e; stored = rw e; code = λ z. absurd (omega (arith, z)) }

next-kind-requires : tie.Need-next_kind-kind-requires
next-kind-requires c κs = search rules

next-code-requires : tie.Need-next_code-code-requires
next-code-requires c κs = search rules

cast-put-nine : tie.Need-overflow_cast-code
cast-put-nine c = search rules

bit-requires : tie.Need-bit-requires
bit-requires c κs = search rules

consumes-number-requires : tie.Need-consumes_number-requires
consumes-number-requires c κs = search rules

put-nine-requires : tie.Need-put_nine-requires
put-nine-requires c κs = search rules

same_length : tie.Need-shape_of-list
same_length c = search rules

returns-2 : tie.Need-returns
returns-2 c =
    let a = c.args in
    let s = a.s in
    let e = room_is 9 (length a.list.now) c.if-list-lt9.false in
    let d : c.put_nine.new.s ≡ sets a.list.now 0 (numbers_of s) = c.put_nine.ensures
    ∙ (λ j. sets a.list.now 0
    (c.next_kind-kind.ensures j ∷ c.next_code-code.ensures j ∷ s.op ∷ s.ops ∷ s.read ∷ s.given ∷ s.pending ∷ c.bit.ensures j ∷ c.consumes_number.ensures j ∷ [])) in
    record { number = sym e; stored = rw e (d ∙ sets_front (numbers_of s) a.list.now c.if-list-lt9.false); code = λ _. omega (arith, c.next_code-code.ensures) }

pub put_state_spec : {M : Type 1} → statement M
put_state_spec =
    tie.close
    (tie.spec
    returns
    next-kind-requires
    next-code-requires
    cast-put-nine
    bit-requires
    consumes-number-requires
    put-nine-requires
    same_length
    returns-2)
