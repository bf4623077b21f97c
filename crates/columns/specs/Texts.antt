-- A text as a font and a word (R188 to R199). D first and once; then R and L at most once each and I, K and E repeated, in any order; then
-- at most one W, and nothing after it. At most 65,536 bytes, 512 I, 512 K and 64 characters a word. What does not read so is 16.
use Rattle.std.specs.Prelude.{cond, List, [], ◌∷◌, ◌++◌, ℕ, suc, ◌/◌, ℤ, negsuc, leb, eqb, length}
use Rattle.std.proofs.Math.Option.{Option, none, some}
use Rattle.lang.specs.Every.{both}
use Rattle.program_kerns.specs.SharedKerns.{all_kerns, share_kerns}
use Rattle.fonts.specs.Fonts.{Font, font_of}
use Rattle.columns.specs.Lines.{Line, lines_of, read_line}

-- what was read so far: R, L and W are none until their line comes (R193)
pub record Text : Type 0 where
  pub design : ℤ
  pub boundary : Option ℤ
  pub left : Option ℤ
  pub instructions : List ℤ
  pub kerns : List ℤ
  pub entries : List ℤ
  pub word : Option (List ℤ)

-- the same, by the letters of its lines: D, R, L, I, K, E, W
abbrev pub text_by : ℤ → Option ℤ → Option ℤ → List ℤ → List ℤ → List ℤ → Option (List ℤ) → Text
text_by d r l i k e w = record { design = d; boundary = r; left = l; instructions = i; kerns = k; entries = e; word = w }

-- after D: a design size, and nothing else yet
abbrev pub opened : ℤ → Text
opened design = text_by design none none [] [] [] none

-- ---- one line more

-- R: the boundary character, once at most
abbrev pub with_boundary : Text → Option ℤ → ℤ → Option Text
with_boundary t none z = some (text_by t.design (some z) t.left t.instructions t.kerns t.entries t.word)
with_boundary t (some y) z = none

-- L: the entry of the left boundary, once at most
abbrev pub with_left : Text → Option ℤ → ℤ → Option Text
with_left t none z = some (text_by t.design t.boundary (some z) t.instructions t.kerns t.entries t.word)
with_left t (some y) z = none

-- I (R190): four numbers, 512 times at most (R198)
abbrev pub with_instruction : Text → List ℤ → Option Text
with_instruction t zs =
    cond (both (eqb (length zs) 4) (leb (suc (length t.instructions / 4)) 512))
    (some (text_by t.design t.boundary t.left (t.instructions ++ zs) t.kerns t.entries t.word)) none

-- K (R190): one number, 512 times at most (R198)
abbrev pub with_kern : Text → List ℤ → Option Text
with_kern t zs =
    cond (both (eqb (length zs) 1) (leb (suc (length t.kerns)) 512))
    (some (text_by t.design t.boundary t.left t.instructions (t.kerns ++ zs) t.entries t.word)) none

-- E (R190): two numbers
abbrev pub with_entry : Text → List ℤ → Option Text
with_entry t zs =
    cond (eqb (length zs) 2)
    (some (text_by t.design t.boundary t.left t.instructions t.kerns (t.entries ++ zs) t.word)) none

-- W (R192): as many numbers as the word has characters, 64 at most (R199)
abbrev pub with_word : Text → List ℤ → Option Text
with_word t zs =
    cond (leb (length zs) 64)
    (some (text_by t.design t.boundary t.left t.instructions t.kerns t.entries (some zs))) none

-- R and L (R189): one number
abbrev pub by_one : (ℤ → Option Text) → List ℤ → Option Text
by_one f [] = none
by_one f (z ∷ []) = f z
by_one f (z ∷ y ∷ zs) = none

-- a line other than D, by its letter: E 69, I 73, K 75, L 76, R 82, W 87 (R196)
abbrev pub by_letter : Text → ℕ → List ℤ → Option Text
by_letter t letter zs =
    cond (eqb letter 73) (with_instruction t zs)
    (cond (eqb letter 75) (with_kern t zs)
    (cond (eqb letter 69) (with_entry t zs)
    (cond (eqb letter 82) (by_one (with_boundary t t.boundary) zs)
    (cond (eqb letter 76) (by_one (with_left t t.left) zs)
    (cond (eqb letter 87) (with_word t zs) none)))))

-- a line that follows W is unreadable
abbrev pub unless_word : Option (List ℤ) → Option Text → Option Text
unless_word none r = r
unless_word (some w) r = none

-- one line more; none where it is unreadable or out of place
abbrev pub add_line : Text → Option Line → Option Text
add_line t none = none
add_line t (some l) = unless_word t.word (by_letter t l.letter l.numbers)

-- ---- all lines

-- one line more after those that were read; none where they were unreadable
abbrev pub add_to : Option Text → Option Line → Option Text
add_to none l = none
add_to (some t) l = add_line t l

-- lines in order, each after what was read before it
unfoldable pub add_lines : List (List ℕ) → Option Text → Option Text
add_lines [] r = r
add_lines (l ∷ ls) r = add_lines ls (add_to r (read_line l))

-- D 68 (R188): one number
abbrev pub opened_by : Option Line → Option Text
opened_by none = none
opened_by (some l) = cond (eqb l.letter 68) (by_one (λ z. some (opened z)) l.numbers) none

-- all lines of a text, D first; none where there is none
abbrev pub read_lines : Option (List (List ℕ)) → Option Text
read_lines none = none
read_lines (some []) = none
read_lines (some (l ∷ ls)) = add_lines ls (opened_by (read_line l))

-- a text of at most 65,536 bytes; none where it is unreadable, which is 16
abbrev pub read_text : List ℕ → Option Text
read_text bytes = cond (leb (length bytes) 65536) (read_lines (lines_of bytes)) none

-- ---- what it says

-- the number of R or L, and -1 where its line is absent
abbrev pub or_absent : Option ℤ → ℤ
or_absent none = negsuc 0
or_absent (some z) = z

-- R463: a text with its kern values shared: these, and indices past the K lines, become indices to kerns that stand once (R461, R462)
abbrev pub shared_text : Text → Text
shared_text t =
    text_by t.design t.boundary t.left (share_kerns t.instructions t.kerns) (all_kerns t.instructions t.kerns) t.entries t.word

-- the font of a text's lines as they stand, kern values among them
abbrev pub font_as_it_stands : Text → Font
font_as_it_stands t = font_of t.instructions t.kerns t.entries (or_absent t.boundary) (or_absent t.left) t.design

-- the font that a text says: its kern values are shared
abbrev pub font_of_text : Text → Font
font_of_text t = font_as_it_stands (shared_text t)
