-- `font_check_parts::checked_font` meets its contract: the answer by what was read.
-- Assumes nothing.
use mathlib.Core.Path.{◌≡◌}
use Prim.Native.Nat.{ℕ}
use lib.IntN.{ℤ}
use borrow.Author.Rules.{rules}
use Rattle.words.proofs.Bits.{number_word}
use Rattle.file_fonts.specs.declared.FileFont.{FileFont}
use Rattle.file_fonts.specs.declared.FileFont.TheVariants as Read
use Rattle.font_checks.specs.declared.Checked.TheVariants as Answer
use Rattle.font_check_parts.specs.CheckParts.{checked_font}
use Rattle.font_check_parts.proofs.checked_font.Statement.{statement}
use Rattle.font_check_parts.proofs.checked_font.Tie as tie

module _ {font : FileFont} (p o q : ℕ) where
  answer_font : {n k e m : ℕ} {b l g b' l' g' : ℤ} → font ≡ Read.Font n k e m b l g → b' ≡ b → l' ≡ l → g' ≡ g →
      Answer.Font n k e m b' l' g' p o q ≡ checked_font font p o q
  answer_font h x y z = rw (h, x, y, z)

  answer_refused : {x : ℕ} → font ≡ Read.Refused x → Answer.Refused x ≡ checked_font font p o q
  answer_refused h = rw h

enum-known-font : tie.Need-enum_known-font
enum-known-font c = search rules

enum-known-font-2 : tie.Need-enum_known-font-in-Refused-1
enum-known-font-2 c = search rules

returns : tie.Need-returns-in-Font
returns c =
    let a = c.args in
    answer_font a.pairs a.ops a.loops c.in-Font.is
    (number_word c.in-Font.boundary (record { sfits = c.in-Font.known_told-1-own.given.1.1.1.1.0.1 }))
    (number_word c.in-Font.left (record { sfits = c.in-Font.known_told-1-own.given.1.1.1.1.1.0.1 }))
    (number_word c.in-Font.design (record { sfits = c.in-Font.known_told-1-own.given.1.1.1.1.1.1.0.1 }))

returns-2 : tie.Need-returns-in-Refused
returns-2 c =
    let a = c.args in
    answer_refused a.pairs a.ops a.loops c.in-Refused.is

pub checked_font_spec : {M : Type 1} → statement M
checked_font_spec =
    tie.close
    (tie.spec
    enum-known-font
    enum-known-font-2
    returns
    returns-2)
