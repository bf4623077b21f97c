-- The characters of a property list, and what is passed over (PLtoTF 28, 31 to 35, 49). A scanner takes the rest of a text, a list of
-- bytes, and gives what follows in it; none is 23. Bytes are those of ASCII: 10 a line feed, 13 a carriage return, 32 a blank, 40 and 41
-- the parentheses.
use Rattle.std.specs.Prelude.{◌≡◌, Bool, true, false, cond, not, List, [], ◌∷◌, ℕ, suc, ◌+◌, ◌-◌, ◌≤◌, leb, eqb, length, drop}
use Rattle.std.specs.Prelude.{Option as Answer, Some, None}
use Rattle.std.proofs.Math.Option.{Option, none, some}
use Rattle.lang.specs.Every.{both}

-- one of two tests passes
abbrev pub one_of : Bool → Bool → Bool
one_of true b = true
one_of false b = b

-- a letter in upper case (PLtoTF 32)
abbrev pub upper_case : ℕ → ℕ
upper_case b = cond (both (leb 97 b) (leb b 122)) (b - 32) b

abbrev pub is_capital : ℕ → Bool
is_capital b = both (leb 65 b) (leb b 90)

-- a digit: 48 to 57
abbrev pub is_figure : ℕ → Bool
is_figure b = both (leb 48 b) (leb b 57)

-- a character of a name (PLtoTF 31): /, >, a digit or a letter
abbrev pub in_name : ℕ → Bool
in_name b = one_of (eqb b 47) (one_of (eqb b 62) (one_of (is_figure b) (is_capital (upper_case b))))

abbrev pub is_paren : ℕ → Bool
is_paren b = one_of (eqb b 40) (eqb b 41)

-- a character that shows in print (PLtoTF 52), parentheses aside
abbrev pub is_visible : ℕ → Bool
is_visible b = both (leb 33 b) (both (leb b 126) (not (is_paren b)))

-- ---- going on

-- with what a scanner gives, where it gives something
abbrev pub then_by : {A B : Type 0} → Option A → (A → Option B) → Option B
then_by none f = none
then_by (some a) f = f a

-- ---- blanks

-- R450: a line's end is a line feed with the carriage returns directly before it. So a carriage return that nothing but these follow
-- is none. `held`: one was passed
abbrev pub unless_held : Bool → List ℕ → Option (List ℕ)
unless_held held bs = cond held none (some bs)

-- which bytes are passed over: blanks alone, or with `all` every legal character but parentheses (skip_to_paren, PLtoTF 34)
abbrev pub is_passed : Bool → Bool → ℕ → Bool
is_passed all held b =
    one_of (eqb b 10) (one_of (eqb b 13) (both (not held) (one_of (eqb b 32) (both all (is_visible b)))))

unfoldable pub pass_over : Bool → Bool → List ℕ → Option (List ℕ)
pass_over all held [] = unless_held held []
pass_over all held (b ∷ bs) = cond (is_passed all held b) (pass_over all (eqb b 13) bs) (unless_held held (b ∷ bs))

-- from the first byte that is no blank
abbrev pub past_blanks : List ℕ → Option (List ℕ)
past_blanks bs = pass_over false false bs

-- from the first parenthesis on, or what is no character
abbrev pub to_paren : List ℕ → Option (List ℕ)
to_paren bs = pass_over true false bs

-- ---- parentheses

-- R451: the rest of a comment, up to the parenthesis that closes it; only parentheses count, `depth` of them open (PLtoTF 33)
unfoldable pub past_comment : ℕ → List ℕ → Option (List ℕ)
past_comment depth [] = none
past_comment depth (b ∷ bs) =
    cond (eqb b 41) (cond (eqb depth 0) (some bs) (past_comment (depth - 1) bs))
    (cond (eqb b 40) (past_comment (suc depth) bs) (past_comment depth bs))

-- the byte that stands here, and no other
abbrev pub past_byte : ℕ → List ℕ → Option (List ℕ)
past_byte a [] = none
past_byte a (b ∷ bs) = cond (eqb b a) (some bs) none

-- the end of a property: blanks, and the parenthesis that closes it (PLtoTF 35)
abbrev pub past_end : List ℕ → Option (List ℕ)
past_end bs = then_by (past_blanks bs) (past_byte 41)

-- ---- names

-- no more characters of a name
abbrev pub name_ends : List ℕ → Option (List ℕ)
name_ends [] = some []
name_ends (b ∷ bs) = cond (in_name b) none (some (b ∷ bs))

-- R452: the name stands here, in either case, and no more of a name after it (PLtoTF 31, 49)
unfoldable pub past_name : List ℕ → List ℕ → Option (List ℕ)
past_name [] bs = name_ends bs
past_name (a ∷ more) [] = none
past_name (a ∷ more) (b ∷ bs) = cond (eqb (upper_case b) a) (past_name more bs) none

-- ---- the contract of functions that pass over a part of a text: the place that follows it, or none for 23

-- the rest of the text after it
abbrev pub text_after : List ℕ → Answer ℕ → Option (List ℕ)
text_after text (Some n) = some (drop n text)
text_after text None = none

-- the place that follows; d where there is none
abbrev pub place_after : ℕ → Answer ℕ → ℕ
place_after d (Some n) = n
place_after d None = d

-- the rest is what the scanner gives, `least` bytes or more behind the place
pub record Passes (o : Option (List ℕ)) (text : List ℕ) (at least : ℕ) (r : Answer ℕ) : Type 0 where
  pub is : text_after text r ≡ o
  pub low : at ≤ length text → at + least ≤ place_after (at + least) r
  pub high : place_after (length text) r ≤ length text
