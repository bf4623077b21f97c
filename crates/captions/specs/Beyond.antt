-- Letters beyond the font (R371, R372): what is said of a code above 255. No font has a rule for one, so that it is set as itself; and a
-- caption of ordinary letters is set as before, since up to 255 a pair is looked up as it stands in the table. That the steps answer the
-- reading of every word of letters is specs/Demand3. Proved in proofs/Beyond.
use Rattle.std.specs.Prelude.{◌≡◌, true, List, ◌⊎◌, ℕ, ◌<◌, ◌≤◌, ℤ}
use Rattle.reading.specs.Items.{Left, free}
use Rattle.fonts.specs.Fonts.{number_of_left, Font, rules_of}
use Rattle.captions.specs.Tables.{key_by, find}
use Rattle.captions.specs.Form.{table_form}
use Rattle.captions.specs.Steps.{find_within}

-- of any font, a left or a right above 255 has no rule
abbrev pub FreeBeyond : Type 0
FreeBeyond = (f : Font) (x : Left) (y : ℕ) → (256 < number_of_left x) ⊎ (255 < y) → rules_of f x y ≡ free

-- in any table, a left and a right up to 255 are looked up; x is the left's place, one more than its code
abbrev pub LooksUpWithin : Type 0
LooksUpWithin = (pairs : List ℤ) (x y : ℕ) → x ≤ 256 → y ≤ 255 → find_within pairs x y ≡ find pairs (key_by x y)

-- in a table of the form every left and right are: to look up those above 255 would find nothing. A right is a u32: keys are of no other
-- rights.
abbrev pub LooksUpAll : Type 0
LooksUpAll =
    (pairs ops : List ℤ) → table_form pairs ops ≡ true → (x y : ℕ) → y < 4294967296 → find_within pairs x y ≡ find pairs (key_by x y)
