-- `tfm::scaled_from` meets its contract: by the top byte, the low bytes' sum, that less alpha * z, or a refusal.
-- Both numbers are below 2 ^ 31, so that they and their difference are i32. Assumes nothing.
use mathlib.Core.Path.{◌≡◌, sym}
use Prim.Native.Nat.{ℕ, ◌*◌, ◌/◌, ◌^◌, ◌<◌}
use native.Mathlib.Omega.{arith}
use lib.IntN.{pos, ◌-ℤ◌}
use mir.Syntax.{w32}
use mir.Val.{SFits}
use borrow.Author.Rules.{rules}
use Rattle.std.specs.Prelude.{Ok}
use Rattle.words.specs.Words.{word_of, number_of}
use Rattle.words.proofs.Bits.{number_pos, number_word}
use Rattle.tfm.specs.declared.Multiplier.{Multiplier}
use Rattle.tfm.specs.Scaled.{Below, multiplier, scaled_from}
use Rattle.tfm.proofs.Halving.{multiplier_halved}
use Rattle.tfm.proofs.Products.{alpha_times, low_bytes_below}
use Rattle.tfm.proofs.Differences.{difference_fits}
use Rattle.tfm.proofs.TopByte.{low_of, top_0, top_255, top_other}
use Rattle.tfm.proofs.scaled_from.Statement.{statement}
use Rattle.tfm.proofs.scaled_from.Tie as tie

-- what is known after the two calls
record Known (z w : ℕ) (m : Multiplier) (low : ℕ) : Type 0 where
  small : z < 2 ^ 27
  halved : m ≡ multiplier z
  summed : low ≡ low_of m w

m-below : (z : ℕ) (m : Multiplier) → z < 2 ^ 27 → m ≡ multiplier z → Below m
m-below z m h e = rw e (multiplier_halved z h).below

module _ {z w low : ℕ} {m : Multiplier} (k : Known z w m low) where
  low-lt : low < 2 ^ 31
  low-lt = rw k.summed (low_bytes_below m (m-below z m k.small k.halved) (w / 65536) (w / 256) w)

  times-lt : m.alpha * m.z < 2 ^ 31
  times-lt = alpha_times m (m-below z m k.small k.halved)

  -- the difference in the code's own form, and that it is an i32
  difference : number_of low -ℤ number_of (m.alpha * m.z) ≡ pos low -ℤ pos (m.alpha * m.z)
  difference = rw (number_pos low low-lt, number_pos (m.alpha * m.z) times-lt)

  fits : SFits w32 (number_of low -ℤ number_of (m.alpha * m.z))
  fits = rw difference (difference_fits low (m.alpha * m.z) low-lt times-lt)

  -- the answer by the top byte
  at-0 : w / 16777216 ≡ 0 → Ok (number_of low) ≡ scaled_from z w
  at-0 e = rw (number_pos low low-lt, k.summed, k.halved, top_0 z w e)

  at-255 : w / 16777216 ≡ 255 → Ok (number_of (word_of (number_of low -ℤ number_of (m.alpha * m.z)))) ≡ scaled_from z w
  at-255 e = rw (number_word (number_of low -ℤ number_of (m.alpha * m.z)) fits, difference, k.summed, k.halved, top_255 z w e)

known : (c : tie.After-low_bytes-low) → Known c.args.z c.args.word c.halve-m.result c.low_bytes-low.result
known c = record { small = c.requires; halved = c.halve-m.ensures; summed = c.low_bytes-low.ensures }

halve-requires : tie.Need-halve-m-requires
halve-requires c κs = search rules

low-bytes-requires : tie.Need-low_bytes-low-requires
low-bytes-requires c κs = m-below c.args.z c.halve-m.result c.requires c.halve-m.ensures

cast-v : tie.Need-overflow_cast-v
cast-v c = record { sfits = low-lt (known c.before) }

returns : tie.Need-returns-then-top-eq0
returns c = at-0 (known c.before) c.if-top-eq0.true

mul-sixteen : tie.Need-overflow_mul-sixteen
mul-sixteen c = omega (arith, times-lt (known c.before.before.before))

cast-v-2 : tie.Need-overflow_cast-v-then-top-eq255
cast-v-2 c = record { sfits = low-lt (known c.before.before.before) }

cast-v-3 : tie.Need-overflow_cast-v-then-top-eq255-2
cast-v-3 c = record { sfits = times-lt (known c.before.before.before) }

sub-v : tie.Need-overflow_sub-v
sub-v c = fits (known c.before.before.before)

returns-2 : tie.Need-returns-then-top-eq255
returns-2 c = at-255 (known c.before.before.before) c.if-top-eq255.true

returns-3 : tie.Need-returns
returns-3 c = let a = c.args in sym (top_other a.z a.word c.if-top-eq0.false c.if-top-eq255.false)

pub scaled_from_spec : {M : Type 1} → statement M
scaled_from_spec =
    tie.close
    (tie.spec
    halve-requires
    low-bytes-requires
    cast-v
    returns
    mul-sixteen
    cast-v-2
    cast-v-3
    sub-v
    returns-2
    returns-3)
