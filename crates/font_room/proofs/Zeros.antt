-- An array of zeros, by a law: to compute its length costs by the length.
-- Assumes nothing.
use mathlib.Core.Path.{refl, sym}
use Prim.Native.Nat.{ℕ}
use lib.ListN.{replicate, length-replicate}
use Rattle.font_room.specs.Rooms.{ZeroRoom}

pub zeroed : {A : Type 0} (n : ℕ) (a : A) → ZeroRoom n a (replicate n a)
zeroed n a = record { long = sym (length-replicate n a); zeros = refl }
