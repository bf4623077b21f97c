-- A text that is answered: no loop is written exactly when every pair ends; its word's run ends, and the items are those of the reading of the word, if that
-- ends, which it does where no loop is written.
-- Assumes nothing.
use mathlib.Core.Path.{◌≡◌, refl, sym, ap, ◌∙◌, subst}
use mathlib.Core.Bool.{Bool, true, false, cond}
use mathlib.Core.List.{List, [], ◌∷◌, map}
use mathlib.Core.Logic.{◌↔◌}
use mathlib.Core.Option.{Option, some}
use Prim.Native.Nat.{ℕ, zero, suc, ◌≤◌}
use native.Mathlib.Omega.{arith}
use lib.IntN.{ℤ}
use lib.Dec.{leb, leb-suc-suc}
use lib.ListN.{length, length-map}
use Rattle.words.specs.Words.{word_of}
use Rattle.lang.specs.Checks.{or_else, lower}
use Rattle.lang.specs.Answers.{Reply, reply_of, room_refusal}
use Rattle.lang.proofs.Refusals.{or_else_none, lower_none, room_fits, room_is, room_short}
use Rattle.reading.specs.Items.{Left, Out}
use Rattle.reading.specs.Reading.{Ends}
use Rattle.reading.specs.Depth.{Pair}
use Rattle.fonts.specs.Fonts.{Font, rules_of}
use Rattle.fonts.specs.Numbers.{loop_numbers}
use Rattle.fonts.specs.Compiled.{loops_of_font, font_table, font_ops, font_loops, compile_refusal}
use Rattle.fonts.proofs.Theorems.{no_loops}
use Rattle.captions.specs.declared.RunOptions.{RunOptions}
use Rattle.captions.specs.declared.State.{State}
use Rattle.captions.specs.declared.Answer.{Answer}
use Rattle.captions.specs.declared.Answer.TheVariants.{Char, Ligature, Kern, End, Refused}
use Rattle.captions.specs.Begin.{letters_refusal, plain_options}
use Rattle.captions.specs.Steps.{step_of}
use Rattle.captions.specs.Runs.{answers, Shown, shows, ends, shown, then_ends}
use Rattle.captions.specs.Demand3.{Caption, Answered, Reads}
use Rattle.word_set.specs.Setting.{and_then, items_by, items_from, set_reply}
use Rattle.word_set.specs.Purpose.{SetAs}
use Rattle.word_set.proofs.Laws.{set_run}
use Rattle.word_set.proofs.Theorems.{every_word}
use Rattle.columns.specs.Texts.{Text, font_of_text}
use Rattle.columns.specs.Scanned.{letters_of, length_of_word}
use Rattle.columns.specs.Replying.{reply_refusal}
use Rattle.columns.specs.Ligcols.{column_room, item_room, column_items, column_bytes, signs_refusal, or_lower, word_number}
use Rattle.columns.specs.Ligcols.{alone_number, word_of_text, number_of_text}
use Rattle.columns.specs.ReplyRead.{WordReads, WordRuns, WordWritten}
use Rattle.columns.proofs.FontBegins.{demand_of, letters_caption}
use Rattle.columns.proofs.TextLaws.{Known}

-- ---- what is not refused

-- where the word has no number, each of its letters is one
pub word_none : (m n : ℕ) → or_lower m n ≡ 0 → m ≡ 0
word_none zero n e = refl
word_none (suc m) n e = (lower_none (suc m) n e).0

pub record Accepted (t : Text) : Type 0 where
  pub compiled : compile_refusal (font_of_text t) column_room ≡ 0
  pub letters : letters_refusal (word_of_text t) ≡ 0
  pub set : (column_items (font_of_text t) (length_of_word t.word) (word_of_text t)).number ≡ 0

pub accepted : (t : Text) (room : ℕ) → number_of_text (some t) room ≡ 0 → Accepted t
accepted t room e =
    let f = font_of_text t in
    let n = length_of_word t.word in
    let w = word_of_text t in
    let i = (column_items f n w).number in
    let r = reply_refusal (column_bytes f n w) room in
    let v = word_number (font_table f) (font_ops f) (font_loops f) w room in
    let a = or_else_none (lower (compile_refusal f column_room) (signs_refusal w)) (or_else v (or_else i r)) e in
    let b = or_else_none v (or_else i r) a.1 in
    record {
      compiled = (lower_none (compile_refusal f column_room) (signs_refusal w) a.0).0;
      letters = word_none (letters_refusal w) (alone_number (font_table f) (font_ops f) (font_loops f) room) b.0;
      set = (or_else_none i r b.1).0;
    }

-- ---- the meter

none_numbered : (ps : List Pair) → loop_numbers ps ≡ [] → ps ≡ []
unfolding loop_numbers
none_numbered [] e = refl
none_numbered (p ∷ ps) e = absurd (let z : ◌≡◌ {A = ℕ} 0 1 = cc in omega arith)

none_listed : (ps : List Pair) → ps ≡ [] → loop_numbers ps ≡ []
unfolding loop_numbers
none_listed ps e = ap loop_numbers e

pub meter : (f : Font) → (font_loops f ≡ []) ↔ ((x : Left) (y : ℕ) → Ends (rules_of f) x y)
meter f = (λ e. (no_loops f).0 (none_numbered (loops_of_font f) e), λ h. none_listed (loops_of_font f) ((no_loops f).1 h))

-- ---- a run that ends: its items are set, or 15 where there are more than there is room for

reply_number : (n : ℕ) (vs : List ℤ) → (reply_of n vs).number ≡ n
reply_number zero vs = refl
reply_number (suc n) vs = refl

-- an item before a reply leaves its number
item_number : (a : Answer) (o : Out) (r : Reply) → shown a ≡ shows o → (and_then a r).number ≡ r.number
item_number (Char c p) o r e = reply_number r.number _
item_number (Ligature c p n x y) o r e = reply_number r.number _
item_number (Kern k) o r e = reply_number r.number _
item_number End o r e = absurd (let z : ◌≡◌ {A = ℕ} 0 1 = cc in omega arith)
item_number (Refused n) o r e = absurd (let z : ◌≡◌ {A = ℕ} 0 1 = cc in omega arith)

-- the first of what is shown, and the rest
abbrev first_of : List Shown → Shown
first_of [] = ends
first_of (x ∷ xs) = x

abbrev others_of : List Shown → List Shown
others_of [] = []
others_of (x ∷ xs) = xs

-- the end leaves 0
end_number : (a : Answer) (r : Reply) → shown a ≡ ends → (and_then a r).number ≡ 0
end_number (Char c p) r e = absurd (let z : ◌≡◌ {A = ℕ} 0 1 = cc in omega arith)
end_number (Ligature c p n x y) r e = absurd (let z : ◌≡◌ {A = ℕ} 0 1 = cc in omega arith)
end_number (Kern k) r e = absurd (let z : ◌≡◌ {A = ℕ} 0 1 = cc in omega arith)
end_number End r e = refl
end_number (Refused n) r e = absurd (let z : ◌≡◌ {A = ℕ} 0 1 = cc in omega arith)

module _ (pairs ops : List ℤ) (boundary : ℤ) (word : List ℕ) (options : RunOptions) where
  items_number : (items : List Out) (n : ℕ) (s : State) → ((m : ℕ) → map shown (answers pairs ops boundary word options m s) ≡ then_ends m items) →
      (items_from pairs ops boundary word options n s).number ≡ room_refusal (length items) n
  unfolding answers then_ends items_by
  items_number [] zero s h = end_number (step_of pairs ops boundary word options s).answer _ (ap first_of (h 1))
  items_number [] (suc n) s h = end_number (step_of pairs ops boundary word options s).answer _ (ap first_of (h 1)) ∙ sym (room_is 0 (suc n) (omega arith))
  items_number (o ∷ items) zero s h =
      item_number (step_of pairs ops boundary word options s).answer o (reply_of 15 []) (ap first_of (h 1))
      ∙ sym (room_short (suc (length items)) 0 (omega arith))
  items_number (o ∷ items) (suc n) s h =
      let t = step_of pairs ops boundary word options s in
      item_number t.answer o (items_from pairs ops boundary word options n t.state) (ap first_of (h 1))
      ∙ items_number items n t.state (λ m. ap others_of (h (suc m)))
      ∙ ap (λ (b : Bool). cond b 0 15) (sym (leb-suc-suc (length items) n))

-- ---- the word

module _ (f : Font) (word : List ℕ) (taken : compile_refusal f column_room ≡ 0) (letters : letters_refusal word ≡ 0) (short : length word ≤ 65535) where
  font_caption : Caption word plain_options
  font_caption = letters_caption word letters short

  -- setting it is refused by 15 alone
  set_number : (items : List Out) → Answered f (font_table f) (font_ops f) word plain_options items →
      (set_reply (font_table f) (font_ops f) f.boundary word plain_options item_room).number ≡ room_refusal (length items) 885
  set_number items a =
      ap (λ (r : Reply). r.number) (set_run (font_table f) (font_ops f) f.boundary word plain_options a.start (sym a.begins) item_room)
      ∙ items_number (font_table f) (font_ops f) f.boundary word plain_options items 885 a.start a.answered

  font_run : (items : List Out) × Answered f (font_table f) (font_ops f) word plain_options items
  font_run = (demand_of f column_room taken).run_ends word plain_options font_caption

  pub set_or_15 : (k : ℕ) × ((set_reply (font_table f) (font_ops f) f.boundary word plain_options item_room).number ≡ room_refusal k 885)
  set_or_15 = (length font_run.0, set_number font_run.0 font_run.1)

  font_reads : (items : List Out) → Reads f word plain_options items → Answered f (font_table f) (font_ops f) word plain_options items
  font_reads = (demand_of f column_room taken).run_reads word plain_options font_caption

  font_word : font_loops f ≡ [] → (items : List Out) × Reads f word plain_options items × Answered f (font_table f) (font_ops f) word plain_options items
  font_word e = (demand_of f column_room taken).set_as_read (ap length (none_numbered (loops_of_font f) e)) word plain_options font_caption

  set_as : (set_reply (font_table f) (font_ops f) f.boundary word plain_options item_room).number ≡ 0 → (items : List Out) →
      Answered f (font_table f) (font_ops f) word plain_options items → SetAs f (font_table f) (font_ops f) word plain_options item_room items
  set_as set items a =
      let l = room_fits (length items) 885 (sym (set_number items a) ∙ set) in
      every_word f (font_table f) (font_ops f) word plain_options items item_room a (omega (arith, l))

pub word_short : (t : Text) → Known t → length (word_of_text t) ≤ 65535
word_short t k = omega (arith, length-map (letters_of t.word) word_of, k.short)

module _ (t : Text) (k : Known t) (a : Accepted t) where
  module _ (letters : List ℤ) (w : t.word ≡ some letters) where
    written : (items : List Out) → WordRuns t items → WordWritten t items
    written =
        set_as (font_of_text t) (word_of_text t) a.compiled a.letters (word_short t k)
        (subst (λ (o : Option (List ℤ)). (column_items (font_of_text t) (length_of_word o) (word_of_text t)).number ≡ 0) w a.set)

    pub run_ends : (items : List Out) × WordRuns t items × WordWritten t items
    run_ends =
        let r = font_run (font_of_text t) (word_of_text t) a.compiled a.letters (word_short t k) in
        (r.0, r.1, written r.0 r.1)

    pub run_reads : (items : List Out) → WordReads t items → WordWritten t items
    run_reads items r = written items (font_reads (font_of_text t) (word_of_text t) a.compiled a.letters (word_short t k) items r)

  pub word_read : font_loops (font_of_text t) ≡ [] → (letters : List ℤ) → t.word ≡ some letters → (items : List Out) × WordReads t items × WordWritten t items
  word_read e letters w =
      let r = font_word (font_of_text t) (word_of_text t) a.compiled a.letters (word_short t k) e in
      (r.0, r.1, written letters w r.0 r.2)
