-- `program_kerns::share::slot_of` meets its contract. The loop's invariant: the search came to the slot by `bit` values, all others. The measure is what is
-- left of the 32 values that a search passes at most. Assumes nothing.
use mathlib.Core.Path.{◌≡◌, refl, sym, ◌∙◌}
use mathlib.Core.List.{List}
use Prim.Native.Nat.{ℕ, ◌+◌, ◌-◌, ◌*◌, ◌/◌, ◌%◌, ◌^◌, ◌<◌}
use native.Mathlib.Numerals.{add-one}
use native.Mathlib.Omega.{arith}
use lib.IntN.{ℤ}
use lib.ListN.{get_or}
use lib.Pow.{shr_le}
use Rattle.program_kerns.specs.Sharing.{word_at, slot_after, Descends, SearchEnds, Linked}
use Rattle.program_kerns.proofs.Tree.{descends_none, descends_more, descends_few, slot_lt, link_lt}
use borrow.Author.Rules.{rules}
use Rattle.program_kerns.proofs.share.slot_of.Statement.{statement}
use Rattle.program_kerns.proofs.share.slot_of.Tie as tie

-- the search for w came to the slot
record Comes (ks : List ℤ) (links : List ℕ) (w slot bit : ℕ) : Type 0 where
  slot_is : slot ≡ slot_after links w bit
  descends : Descends ks links w bit

module _ {ks : List ℤ} {links : List ℕ} {w slot bit : ℕ} (c : Linked ks links) (s : Comes ks links w slot bit) where
  comes-lt : slot < 65535
  comes-lt = rw s.slot_is (slot_lt c w bit s.descends)

  ends : w < 2 ^ 32 → ((get_or links slot 0 ≡ 0 → ⊥) → word_at ks (get_or links slot 0 - 1) ≡ w) → SearchEnds ks links w slot
  ends l h = record { depth = bit; near = descends_few c w bit l s.descends; descends = s.descends; slot_is = s.slot_is; stops = h }

  -- it goes on past another value
  module _ {r : ℕ} (some : get_or links slot 0 ≡ 0 → ⊥) (read : r ≡ word_at ks (get_or links slot 0 - 1)) (other : r ≡ w → ⊥) where
    onward : Descends ks links w (bit + 1)
    onward = descends_more s.descends (rw (← s.slot_is) some) (rw (← s.slot_is) (λ e. other (read ∙ e)))

    bit-lt : w < 2 ^ 32 → bit < 32
    bit-lt l = omega (arith, descends_few c w (bit + 1) l onward)

    goes : Comes ks links w (2 * (get_or links slot 0 - 1) + 1 + w / 2 ^ bit % 2) (bit + 1)
    unfolding slot_after
    goes = record { slot_is = rw (s.slot_is, add-one bit); descends = onward }

abbrev invariant-loop : tie.invariant-loop-slot
invariant-loop kerns links word slot₀ bit₀ slot bit = Comes kerns links word slot bit

abbrev decreases-loop : tie.decreases-loop-slot
decreases-loop kerns links word slot₀ bit₀ slot bit = 32 - bit

loop-holds : tie.Need-loop-slot-init invariant-loop decreases-loop
unfolding slot_after
loop-holds c = record { slot_is = refl; descends = descends_none c.args.kerns.now c.args.links.now c.args.word }

mul-if1 : tie.Need-offset_bounds-links-slot invariant-loop decreases-loop
mul-if1 c = omega (arith, comes-lt c.requires c.loop-slot.invariant)

element-copy-out-if1 : tie.Need-bounds-links-slot invariant-loop decreases-loop
element-copy-out-if1 c = omega (arith, comes-lt c.requires c.loop-slot.invariant)

mul_at : tie.Need-offset_bounds-links-slot-in-loop-slot invariant-loop decreases-loop
mul_at c = omega (arith, comes-lt c.requires c.loop-slot.invariant)

element-copy-out-at : tie.Need-bounds-links-slot-in-loop-slot invariant-loop decreases-loop
element-copy-out-at c = omega (arith, comes-lt c.requires c.loop-slot.invariant)

cast-at : tie.Need-overflow_cast-at invariant-loop decreases-loop
cast-at c = omega (arith, link_lt c.requires c.loop-slot.slot)

sub_at : tie.Need-overflow_sub-at invariant-loop decreases-loop
sub_at c = omega (arith, c.loop-slot-test.true)

word-at-requires : tie.Need-word_at-requires invariant-loop decreases-loop
word-at-requires c κs = search rules

returns : tie.Need-returns-then-word_at-word invariant-loop decreases-loop
returns c =
    ends c.requires c.loop-slot.invariant c.ranges.word.fits (λ some. sym c.word_at.ensures.is ∙ c.if-word_at-word.true)

-- a value is passed, so that a bit is left to go on by
bit-lt-at : (c : tie.Else-word_at-word invariant-loop decreases-loop) → c.loop-slot.bit < 32
bit-lt-at c =
    bit-lt c.requires c.loop-slot.invariant c.loop-slot-test.true c.word_at.ensures.is c.if-word_at-word.false
    c.ranges.word.fits

mul-slot : tie.Need-overflow_mul-slot invariant-loop decreases-loop
mul-slot c =
    omega (arith, link_lt c.requires c.loop-slot.slot)

add-slot : tie.Need-overflow_add-slot invariant-loop decreases-loop
add-slot c =
    omega (arith, link_lt c.requires c.loop-slot.slot)

shr-slot : tie.Need-overflow_shr-slot invariant-loop decreases-loop
shr-slot c = bit-lt-at c

cast-slot : tie.Need-overflow_cast-slot invariant-loop decreases-loop
cast-slot c =
    omega (arith, shr_le c.args.word c.loop-slot.bit, c.ranges.word.fits)

add-slot-2 : tie.Need-overflow_add-slot-in-loop-slot invariant-loop decreases-loop
add-slot-2 c =
    omega (arith, link_lt c.requires c.loop-slot.slot)

add-bit : tie.Need-overflow_add-bit invariant-loop decreases-loop
add-bit c = omega (arith, bit-lt-at c)

loop-less : tie.Need-loop-slot-smaller invariant-loop decreases-loop
loop-less c = omega (arith, bit-lt-at c)

loop-again : tie.Need-loop-slot-preserved invariant-loop decreases-loop
loop-again c =
    goes c.requires c.loop-slot.invariant c.loop-slot-test.true c.word_at.ensures.is c.if-word_at-word.false

returns-2 : tie.Need-returns invariant-loop decreases-loop
returns-2 c = ends c.requires c.loop-slot.invariant c.ranges.word.fits (λ some. absurd (some c.loop-slot-test.false))

pub slot_of_spec : {M : Type 1} → statement M
slot_of_spec =
    tie.close
    (tie.spec
    invariant-loop
    decreases-loop
    loop-holds
    mul-if1
    element-copy-out-if1
    mul_at
    element-copy-out-at
    cast-at
    sub_at
    word-at-requires
    returns
    mul-slot
    add-slot
    shr-slot
    cast-slot
    add-slot-2
    add-bit
    loop-less
    loop-again
    returns-2)
