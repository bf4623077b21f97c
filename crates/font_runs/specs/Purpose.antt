-- What a change of font is for (R477, R479): whatever a host asks for, starts and steps, its answers are those of runs over parts of the words,
-- each part in one font. Proved: proofs/Theorems. No contract cites this.
use Rattle.std.specs.Prelude.{◌≡◌, Bool, ℕ, zero, suc, ◌+◌, drop, Option as Asked, Some, None}
use mathlib.Core.List.{List, [], ◌∷◌, ◌++◌, Memᴰ}
use Rattle.std.proofs.Math.Option.{Option, none, some}
use Rattle.captions.specs.declared.RunOptions.{RunOptions}
use Rattle.captions.specs.declared.NextLeft.TheVariants as next
use Rattle.captions.specs.declared.State.{State}
use Rattle.captions.specs.declared.Answer.{Answer}
use Rattle.captions.specs.declared.Answer.TheVariants.{Refused}
use Rattle.captions.specs.Begin.{fresh, fresh_state, plain_options}
use Rattle.captions.specs.Runs.{answers}
use Rattle.captions.specs.Letters.{state_after, answer_after}
use Rattle.font_runs.specs.declared.FontRun.{FontRun}
use Rattle.font_runs.specs.declared.FontStep.{FontStep}
use Rattle.font_runs.specs.declared.Requested.{Requested}
use Rattle.font_runs.specs.declared.Requested.TheVariants as requested
use Rattle.font_runs.specs.Requests.{LentFont, by_asked, start_number, start_refusal, ask_font, start_word}
use Rattle.font_runs.specs.Changes.{first_free, font_step}
use Rattle.font_runs.specs.Shift.{later_state, later_answer, without_left, rest_options, FontFits}

-- ---- a host

-- what a host does: it asks for the font of a number, starts a word, or makes a step
pub data HostAct : Type 0 where
  asks : ℕ → HostAct
  starts : List ℕ → RunOptions → HostAct
  steps : HostAct

-- what it has: the run, the word that it lends and its options, and the answers of its steps so far
pub record Hosted : Type 0 where
  pub run : FontRun
  pub word : List ℕ
  pub options : RunOptions
  pub answers : List Answer

-- before the first word: a run in the font of some number, and no letters
abbrev pub first_hosted : ℕ → Hosted
first_hosted number =
    record { run = record { state = fresh next.Boundary 0; font = number; asked = None }; word = []; options = plain_options; answers = [] }

-- the fonts that it lends, by their numbers: that in force, and that asked for. With nothing asked for the second is not read
abbrev pub force_font : (ℕ → LentFont) → FontRun → LentFont
force_font fonts run = fonts run.font

abbrev pub asked_font : (ℕ → LentFont) → FontRun → LentFont
asked_font fonts run = by_asked run.asked (fonts run.font) fonts

-- a refused request, or start, leaves all as it was
abbrev pub after_asking : Requested → Hosted → Hosted
after_asking (requested.Taken run) h = record { run = run; word = h.word; options = h.options; answers = h.answers }
after_asking (requested.Refused n) h = h

abbrev pub after_starting : Requested → List ℕ → RunOptions → Hosted → Hosted
after_starting (requested.Taken run) word options h = record { run = run; word = word; options = options; answers = h.answers }
after_starting (requested.Refused n) word options h = h

abbrev pub after_stepping : FontStep → Hosted → Hosted
after_stepping t h = record { run = t.run; word = h.word; options = h.options; answers = h.answers ++ (t.answer ∷ []) }

-- one act
abbrev pub act_on : (ℕ → LentFont) → HostAct → Hosted → Hosted
act_on fonts (asks n) h = after_asking (ask_font n (fonts n) h.run) h
act_on fonts (starts word options) h =
    after_starting (start_word (force_font fonts h.run) (asked_font fonts h.run) word options h.run) word options h
act_on fonts steps h = after_stepping (font_step (force_font fonts h.run) (asked_font fonts h.run) h.word h.options h.run) h

-- any list of them
unfoldable pub hosting : (ℕ → LentFont) → List HostAct → Hosted → Hosted
hosting fonts [] h = h
hosting fonts (a ∷ acts) h = hosting fonts acts (act_on fonts a h)

-- ---- the same by parts of words

-- a part of a word: the font that it is set in, and what is asked for; the word and its options; how many letters are before the part,
-- whether it is without a left boundary, and how many steps were made in it; and the answers so far
pub record Part : Type 0 where
  pub font : ℕ
  pub asked : Asked ℕ
  pub word : List ℕ
  pub options : RunOptions
  pub before : ℕ
  pub without : Bool
  pub made : ℕ
  pub answers : List Answer

abbrev pub opening_part : ℕ → Part
opening_part number =
    record {
      font = number;
      asked = None;
      word = [];
      options = plain_options;
      before = 0;
      without = plain_options.disable_left_boundary;
      made = 0;
      answers = [];
    }

-- its letters, and how they are set
abbrev pub part_word : Part → List ℕ
part_word p = drop p.before p.word

abbrev pub part_options : Part → RunOptions
part_options p = rest_options p.without p.options

-- the run over it alone, after the steps that were made: begin's state, and steps in its font
abbrev pub part_state : (ℕ → LentFont) → Part → State
part_state fonts p =
    state_after (fonts p.font).pairs (fonts p.font).ops (fonts p.font).boundary (part_word p) (part_options p) p.made
    (fresh_state (part_word p) (part_options p))

-- its next answer, with the start moved
abbrev pub part_answer : (ℕ → LentFont) → Part → Answer
part_answer fonts p =
    later_answer p.before
    (answer_after (fonts p.font).pairs (fonts p.font).ops (fonts p.font).boundary (part_word p) (part_options p) p.made
    (fresh_state (part_word p) (part_options p)))

-- one step more in the part
abbrev pub onward : (ℕ → LentFont) → Part → Part
onward fonts p =
    record {
      font = p.font;
      asked = p.asked;
      word = p.word;
      options = p.options;
      before = p.before;
      without = p.without;
      made = suc p.made;
      answers = p.answers ++ (part_answer fonts p ∷ []);
    }

-- a new part from a free state on, in the font asked for: past the letters given, with the left boundary only where that is next
abbrev pub changed_part : ℕ → State → Part → Part
changed_part number s p =
    record {
      font = number;
      asked = None;
      word = p.word;
      options = p.options;
      before = p.before + s.given;
      without = without_left s.next_left;
      made = 0;
      answers = p.answers;
    }

-- a step: with nothing asked for, or no free state before its answer, the part goes on; else a new one begins
abbrev pub stepped_part : (ℕ → LentFont) → Part → Asked ℕ → Option State → Part
stepped_part fonts p None o = onward fonts p
stepped_part fonts p (Some n) none = onward fonts p
stepped_part fonts p (Some n) (some s) = onward fonts (changed_part n s p)

-- the later of two requests stands
abbrev pub asked_part : ℕ → Part → Part
asked_part n p =
    record {
      font = p.font;
      asked = Some n;
      word = p.word;
      options = p.options;
      before = p.before;
      without = p.without;
      made = p.made;
      answers = p.answers;
    }

-- a word that begin takes: one part, in the font that is still asked for, else in that in force
abbrev pub started_part : ℕ → ℕ → List ℕ → RunOptions → Part → Part
started_part zero number word options p =
    record {
      font = number;
      asked = None;
      word = word;
      options = options;
      before = 0;
      without = options.disable_left_boundary;
      made = 0;
      answers = p.answers;
    }
started_part (suc n) number word options p = p

-- the number of the font that a word starts in
abbrev pub part_number : Part → ℕ
part_number p = by_asked p.asked p.font (λ n. n)

abbrev pub act_on_part : (ℕ → LentFont) → HostAct → Part → Part
act_on_part fonts (asks n) p = asked_part n p
act_on_part fonts (starts word options) p = started_part (start_refusal (fonts (part_number p)) word options) (part_number p) word options p
act_on_part fonts steps p =
    stepped_part fonts p p.asked (first_free (fonts p.font) (part_word p) (part_options p) (part_state fonts p))

unfoldable pub parting : (ℕ → LentFont) → List HostAct → Part → Part
parting fonts [] p = p
parting fonts (a ∷ acts) p = parting fonts acts (act_on_part fonts a p)

-- ---- what is proved

-- the answers of a host and of its parts are the same, and so are the font in force and what is asked for; and no answer is a refusal
pub record SameAnswers (h : Hosted) (p : Part) : Type 0 where
  pub given : h.answers ≡ p.answers
  pub font : h.run.font ≡ p.font
  pub asked : h.run.asked ≡ p.asked
  pub none_refused : (n : ℕ) → Memᴰ (Refused n) h.answers → ⊥

-- THE WHOLE: for any fonts by number that fit, and any list of requests, words and steps
abbrev pub TheWhole : Type 0
TheWhole =
    (fonts : ℕ → LentFont) → ((n : ℕ) → FontFits (fonts n)) → (number : ℕ) (acts : List HostAct) →
    SameAnswers (hosting fonts acts (first_hosted number)) (parting fonts acts (opening_part number))

-- ---- without a request

-- the answers of n steps, each handed the run that the last returned
unfoldable pub font_answers : LentFont → LentFont → List ℕ → RunOptions → ℕ → FontRun → List Answer
font_answers font other word options zero run = []
font_answers font other word options (suc n) run =
    (font_step font other word options run).answer ∷ font_answers font other word options n (font_step font other word options run).run

-- WITHOUT A REQUEST a run answers what its state's run answers, of which demand 3 speaks; whatever the tables, the word and the run
abbrev pub WithoutRequest : Type 0
WithoutRequest =
    (font other : LentFont) (word : List ℕ) (options : RunOptions) (n : ℕ) (run : FontRun) → run.asked ≡ None →
    font_answers font other word options n run ≡ answers font.pairs font.ops font.boundary word options n run.state

-- ---- a request for the font in force

-- ASKED FOR THE FONT IN FORCE, a host's run answers what it answers without that request: for any fonts by number that fit, after any acts
-- that leave nothing asked for, and whatever acts follow
abbrev pub AskedInForce : Type 0
AskedInForce =
    (fonts : ℕ → LentFont) → ((n : ℕ) → FontFits (fonts n)) → (number : ℕ) (before : List HostAct) (h : Hosted) →
    hosting fonts before (first_hosted number) ≡ h → h.run.asked ≡ None → (later : List HostAct) →
    (hosting fonts (asks h.run.font ∷ later) h).answers ≡ (hosting fonts later h).answers
