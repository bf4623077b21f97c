-- The shift (R477): from a free state a run goes on as a run over the rest of the word, with what it tells moved by the letters before it.
-- Proved: proofs/Theorems.
use Rattle.std.specs.Prelude.{◌≡◌, Bool, true, false, List, map, ℕ, suc, ◌+◌, ◌<◌, ◌≤◌, length, get_or, drop}
use Rattle.lang.specs.Records.{absent_or}
use Rattle.captions.specs.declared.RunOptions.{RunOptions}
use Rattle.captions.specs.declared.NextLeft.{NextLeft}
use Rattle.captions.specs.declared.NextLeft.TheVariants as next
use Rattle.captions.specs.declared.State.{State}
use Rattle.captions.specs.declared.Answer.{Answer}
use Rattle.captions.specs.declared.Answer.TheVariants.{Char, Ligature, Kern, End, Refused}
use Rattle.captions.specs.declared.Step.{Step}
use Rattle.captions.specs.declared.Begun.TheVariants.{Run}
use Rattle.captions.specs.Form.{table_refusal}
use Rattle.captions.specs.Begin.{fresh_state, begin_of}
use Rattle.captions.specs.Runs.{answers}
use Rattle.captions.specs.Demand3.{Caption}
use Rattle.font_runs.specs.Requests.{LentFont}
use Rattle.font_runs.specs.Changes.{restarted}

-- a state over the rest of a word, as one over the word: the g letters before it were read and given
abbrev pub later_state : ℕ → State → State
later_state g s =
    record {
      next_left = s.next_left;
      op = s.op;
      ops = s.ops;
      read = g + s.read;
      given = g + s.given;
      pending = s.pending;
      pending_boundary = s.pending_boundary;
      consumes_left = s.consumes_left;
    }

-- an answer with its start moved
abbrev pub later_answer : ℕ → Answer → Answer
later_answer g (Char c start) = Char c (g + start)
later_answer g (Ligature c start n left right) = Ligature c (g + start) n left right
later_answer g (Kern k) = Kern k
later_answer g End = End
later_answer g (Refused n) = Refused n

-- a step with both
abbrev pub later_step : ℕ → Step → Step
later_step g t = record { answer = later_answer g t.answer; state = later_state g t.state }

-- whether a run whose next left is this goes on without a left boundary: it has one only where that is next
abbrev pub without_left : NextLeft → Bool
without_left next.Boundary = false
without_left (next.Char c) = true
without_left (next.Lig c) = true
without_left (next.FinalLig c) = true
without_left next.None = true

-- how the rest is set: with a left boundary or without one, and the same override
abbrev pub rest_options : Bool → RunOptions → RunOptions
rest_options without options = record { disable_left_boundary = without; right_boundary_override = options.right_boundary_override }

-- where a free state of a run stands, with g letters given and r read: at the left boundary every letter that was read was given; a character
-- is the one letter read that was not
abbrev pub RunStandsAt : List ℕ → ℕ → ℕ → NextLeft → Type 0
RunStandsAt word g r next.Boundary = (r ≡ g) × (g ≤ length word)
RunStandsAt word g r (next.Char c) = (r ≡ suc g) × (g < length word) × (get_or word g 0 ≡ c)
RunStandsAt word g r (next.Lig c) = ⊥
RunStandsAt word g r (next.FinalLig c) = ⊥
RunStandsAt word g r next.None = ⊥

-- a font that a request or a start takes, of the form and with a boundary character of -1 to 255
pub record FontFits (font : LentFont) : Type 0 where
  pub form : table_refusal font.pairs font.ops ≡ 0
  pub edge : absent_or 255 font.boundary ≡ true

-- the rest of the word at a state, and how it is set
abbrev pub rest_at : List ℕ → State → List ℕ
rest_at word s = drop s.given word

abbrev pub options_at : RunOptions → State → RunOptions
options_at options s = rest_options (without_left s.next_left) options

-- SHIFT: in any font that fits, over any caption: from a state where a free one stands, restarted, the answers of any number of steps are
-- those of begin and steps over the rest of the word, with starts moved by the letters given; and begin is not refused.
abbrev pub Shift : Type 0
Shift =
    (font : LentFont) (word : List ℕ) (options : RunOptions) (s : State) → FontFits font → Caption word options →
    RunStandsAt word s.given s.read s.next_left →
    (begin_of font.pairs font.ops font.boundary (rest_at word s) (options_at options s) ≡ Run (fresh_state (rest_at word s) (options_at options s)))
    × ((n : ℕ) →
    answers font.pairs font.ops font.boundary word options n (restarted s) ≡
    map (later_answer s.given)
    (answers font.pairs font.ops font.boundary (rest_at word s) (options_at options s) n (fresh_state (rest_at word s) (options_at options s))))
