-- Which instructions unpacking leaves: the font's own, or all of them where a redirect stands elsewhere.
use Rattle.std.specs.Prelude.{◌≡◌, cond, List, ℕ, ℤ}
use Rattle.lang.specs.Records.{count}
use Rattle.font_unpackings.specs.Unpackings.{own_start, own_count, stands_packed}
use Rattle.font_unpack.specs.declared.OwnPart.{OwnPart}

-- how many instructions are taken away in front
abbrev pub part_front : List ℤ → List ℤ → ℤ → ℕ
part_front s es left = cond (stands_packed s es left) (own_start s left) 0

-- how many are left
abbrev pub own_part_count : List ℤ → List ℤ → ℤ → ℕ
own_part_count s es left = cond (stands_packed s es left) (own_count s left) (count s)

-- what the passes over a font find
pub record FindsPart (s es : List ℤ) (left : ℤ) (r : OwnPart) : Type 0 where
  pub packed : r.packed ≡ stands_packed s es left
  pub front : r.front ≡ part_front s es left
  pub own : r.count ≡ own_part_count s es left
