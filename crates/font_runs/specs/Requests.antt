-- A font as it is lent, a request for one, and the start of a word (R471 to R473). The host numbers its fonts.
use Rattle.std.specs.Prelude.{List, ℕ, zero, suc, ℤ, Option, Some, None}
use Rattle.lang.specs.Checks.{or_else, absent_refusal}
use Rattle.captions.specs.declared.RunOptions.{RunOptions}
use Rattle.captions.specs.Form.{table_refusal}
use Rattle.captions.specs.Begin.{fresh_state, begin_refusal}
use Rattle.font_runs.specs.declared.FontRun.{FontRun}
use Rattle.font_runs.specs.declared.Requested.{Requested}
use Rattle.font_runs.specs.declared.Requested.TheVariants.{Taken, Refused}

-- a font: its pairs, its ops and its boundary character
pub record LentFont : Type 0 where
  pub pairs : List ℤ
  pub ops : List ℤ
  pub boundary : ℤ

abbrev pub lending : List ℤ → List ℤ → ℤ → LentFont
lending pairs ops boundary = record { pairs = pairs; ops = ops; boundary = boundary }

-- by the refusal: the run, or its number
abbrev pub requested_by : ℕ → FontRun → Requested
requested_by zero run = Taken run
requested_by (suc n) run = Refused (suc n)

-- ---- a request (R472)

-- 4 for the boundary character, 7 for a table that is not of the form
abbrev pub request_refusal : LentFont → ℕ
request_refusal font = or_else (absent_refusal 255 font.boundary) (table_refusal font.pairs font.ops)

-- the run with this font asked for, whatever was asked for before
abbrev pub asking : ℕ → FontRun → FontRun
asking number run = record { state = run.state; font = run.font; asked = Some number }

-- THE contract of ask_font
abbrev pub ask_font : ℕ → LentFont → FontRun → Requested
ask_font number font run = requested_by (request_refusal font) (asking number run)

-- ---- the start of a word (R473)

-- of a value for the font in force and one for the font asked for: that of the font on which a word starts
abbrev pub by_asked {ℓ} : {A : Type ℓ} → Option ℕ → A → (ℕ → A) → A
by_asked None here there = here
by_asked (Some n) here there = there n

-- the font on which a word starts, and its number
abbrev pub start_font : LentFont → LentFont → Option ℕ → LentFont
start_font font other a = by_asked a font (λ n. other)

abbrev pub start_number : FontRun → ℕ
start_number run = by_asked run.asked run.font (λ n. n)

-- a fresh run in a font, with nothing asked for
abbrev pub starting : ℕ → List ℕ → RunOptions → FontRun
starting number word options = record { state = fresh_state word options; font = number; asked = None }

-- 4, 6, 7 or 20, as begin refuses
abbrev pub start_refusal : LentFont → List ℕ → RunOptions → ℕ
start_refusal font word options = begin_refusal font.pairs font.ops font.boundary word options

-- THE contract of start_word: begin, on the font asked for, which is then in force; else on the one in force
abbrev pub start_word : LentFont → LentFont → List ℕ → RunOptions → FontRun → Requested
start_word font other word options run =
    requested_by (start_refusal (start_font font other run.asked) word options) (starting (start_number run) word options)
