-- R456: indentation (PLtoTF 21, 28, 29). A line starts with as many blanks for each open parenthesis as the lines before it; where that is
-- broken after ten good lines, PLtoTF reports it, so the text is 23. Lines of comments count, and blank lines do not.
use Rattle.std.specs.Prelude.{◌≡◌, Bool, true, false, cond, List, [], ◌∷◌, ℕ, ◌+◌, ◌-◌, ◌/◌, ◌%◌, leb, eqb}
use Rattle.std.proofs.Math.Option.{Option, none, some}
use Rattle.lang.specs.Every.{both}
use Rattle.property_lists.specs.declared.Indents.{Indents}
use Rattle.property_lists.specs.declared.Indented.{Indented}
use Rattle.property_lists.specs.declared.Indented.TheVariants as indented
use Rattle.property_lists.specs.Chars.{then_by}

abbrev pub indents_by : ℕ → ℕ → ℕ → ℕ → ℕ → Indents
indents_by mode blanks level good indent = record { mode = mode; blanks = blanks; level = level; good = good; indent = indent }

-- another count of good lines and another indentation
abbrev pub with_lines : Indents → ℕ → ℕ → Indents
with_lines s good indent = indents_by s.mode s.blanks s.level good indent

-- the macro bad_indent
abbrev pub bad_indent : Indents → Option Indents
bad_indent s = cond (leb 10 s.good) none (some (with_lines s 0 0))

-- a line whose first character stands here; `indent` times the level is how many blanks there should be
abbrev pub line_starts : Indents → Option Indents
line_starts s =
    cond (eqb s.level 0)
    (cond (eqb s.blanks 0) (some (with_lines s (s.good + 1) s.indent)) (bad_indent s))
    (cond (eqb s.indent 0)
    (cond (eqb (s.blanks % s.level) 0) (some (with_lines s 1 (s.blanks / s.level))) (some (with_lines s 0 s.indent)))
    (cond (both (eqb (s.blanks % s.level) 0) (eqb (s.blanks / s.level) s.indent)) (some (with_lines s (s.good + 1) s.indent)) (bad_indent s)))

-- behind a byte of a line, that has a character before it or is one
abbrev pub inside_line : ℕ → Indents → Indents
inside_line b s =
    indents_by 1 0 (cond (eqb b 40) (s.level + 1) (cond (eqb b 41) (s.level - 1) s.level)) s.good s.indent

-- behind any byte. Blanks and a line's end, with carriage returns directly before its line feed, make a blank line
abbrev pub after_byte : ℕ → Indents → Option Indents
after_byte b s =
    cond (eqb b 10) (some (indents_by 0 0 s.level s.good s.indent))
    (cond (eqb s.mode 1) (some (inside_line b s))
    (cond (eqb b 13) (some (indents_by 2 s.blanks s.level s.good s.indent))
    (cond (both (eqb b 32) (eqb s.mode 0)) (some (indents_by 0 (s.blanks + 1) s.level s.good s.indent))
    (then_by (line_starts s) (λ t. some (inside_line b t))))))

-- all bytes
abbrev pub kept_on : Option Indents → (Indents → Bool) → Bool
kept_on none f = false
kept_on (some s) f = f s

unfoldable pub indents_kept : Indents → List ℕ → Bool
indents_kept s [] = true
indents_kept s (b ∷ bs) = kept_on (after_byte b s) (λ t. indents_kept t bs)

-- a text
abbrev pub good_indents : List ℕ → Bool
good_indents text = indents_kept (indents_by 0 0 0 0 0) text

-- what a function answers for one byte
abbrev pub indented_to : Indented → Option Indents
indented_to (indented.To s) = some s
indented_to indented.Refused = none
