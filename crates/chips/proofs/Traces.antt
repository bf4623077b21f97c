-- Commands one after the other: what stands after each. The items taken, then those that the chip's run still gives, are those of the words that were ended.
-- Assumes nothing.
use mathlib.Core.Path.{◌≡◌, refl, sym, ap, subst, ◌∙◌}
use mathlib.Core.Bool.{Bool, true, false, not}
use mathlib.Core.List.{List, [], ◌∷◌, ◌++◌, append_assoc, append-nil}
use mathlib.Core.Logic.{◌⊎◌, inl, inr}
use Prim.Native.Nat.{ℕ, zero, suc, ◌<◌, ◌≤◌}
use native.Mathlib.Nat.{eq-or-lt_of_le, le_of_suc-le-suc}
use native.Mathlib.Omega.{arith}
use lib.Dec.{leb}
use lib.IntN.{ℤ}
use lib.ListN.{length, get_or, set, length-set, length-take}
use lib.Seq.{length-take-le, take-suc-set, get_or-set_same, get_or-set_other}
use borrow.Author.Tests.{le-leb}
use Rattle.lang.specs.Every.{both, every}
use Rattle.lang.specs.Checks.{unless, absent_refusal}
use Rattle.lang.proofs.Every.{every_none, every_all, every_at}
use Rattle.captions.specs.declared.State.{State}
use Rattle.captions.specs.declared.Answer.{Answer}
use Rattle.captions.specs.Form.{table_refusal}
use Rattle.captions.specs.Replies.{is_end}
use Rattle.captions.specs.Begin.{fresh_state, plain_options}
use Rattle.chips.specs.declared.Chip.{Chip}
use Rattle.chips.specs.Blocks.{block_byte, block_caller, block_letter, item_ready, item_bytes}
use Rattle.chips.specs.Commands.{fresh_chip, chip_word, chip_refusal, chip_begun, chip_added, chip_step, counted_word, chip_stepped, chip_after}
use Rattle.chips.specs.Commands.{answer_number, may_begin, may_add, command_refusal, commanded_by, command_of}
use Rattle.chips.specs.Purpose.{Trace, trace_by, trace_from, RunGives, WordGives, WordsGive, Untaken}
use Rattle.chips.specs.Purpose.WordsGive.{no_words, one_more}
use Rattle.chips.proofs.Steps.{step_fits, stands}
use Rattle.chips.proofs.Runs.{Worded, word_gives, last_answer, item_answer, is_item_lem, others, item_ready_lem, item_number}
use Rattle.chips.proofs.Turns.{few_letters, low_letters, item_stands_lem, low_caller, none_ready, may_end_lem, every_taken, all_taken, may_count}
use Rattle.chips.proofs.Turns.{word_open, word_room}
use Rattle.chips.proofs.Turns.{Taken, Turn, begins, adds, ends, takes, taken, turn_of}
use Rattle.chips.proofs.Blocks.{shown_item}

no : {A : Type 0} {b : Bool} → b ≡ true → b ≡ false → A
no e f = absurd (let z : ◌≡◌ {A = ℕ} 0 1 = cc in omega arith)

module _ (pairs ops : List ℤ) (boundary : ℤ) where
  -- ---- what stands between two commands

  -- of the chip, the letters added since the last begin, the words ended and the items taken
  pub record Standing (chip : Chip) (word : List ℕ) (ended : List (List ℕ)) (passed : List Answer) : Type 0 where
    pub items : List Answer
    pub of_words : WordsGive pairs ops boundary ended items
    pub untaken : List Answer
    pub to_take : Untaken pairs ops boundary chip untaken
    pub joined : passed ++ untaken ≡ items
    pub letters_long : length chip.letters ≡ 64
    pub length_few : chip.length ≤ 64
    -- while a word is open it is the chip's, the table is of the form, and its run is fresh
    pub same_word : chip.opened ≡ true → word ≡ chip_word chip
    pub formed : chip.opened ≡ true → table_refusal pairs ops ≡ 0
    pub run_fresh : chip.opened ≡ true → chip.state ≡ fresh_state [] plain_options

  pub fresh_stands : Standing fresh_chip [] [] []
  fresh_stands =
      record {
        items = [];
        of_words = no_words;
        untaken = [];
        to_take = refl;
        joined = refl;
        letters_long = refl;
        length_few = omega arith;
        same_word = λ e. no e refl;
        formed = λ e. no e refl;
        run_fresh = λ e. no e refl;
      }

  -- nothing is ready: nothing is untaken
  none_untaken : (chip : Chip) (us : List Answer) → Untaken pairs ops boundary chip us → item_ready chip ≡ false → us ≡ []
  none_untaken chip [] u f = refl
  none_untaken chip (i ∷ us) u f = no u.0 f

  -- a step of a run that gives these items shows the first, and leaves the others
  shows : (chip : Chip) (counts : List ℕ) (us : List Answer) → RunGives pairs ops boundary (chip_word chip) chip.state us →
      Untaken pairs ops boundary (chip_stepped counts (chip_step pairs ops boundary chip) chip) us
  shows chip counts [] g = ap (λ (a : Answer). not (is_end a)) (last_answer pairs ops boundary (chip_word chip) g)
  shows chip counts (i ∷ us) g =
      let w = chip_word chip in
      let e = item_answer pairs ops boundary w g in (
        ap (λ (a : Answer). not (is_end a)) e ∙ ap not (item_ready_lem i (is_item_lem pairs ops boundary w g)),
        e,
        others pairs ops boundary w g,
      )

  -- it is not refused
  not_refused : (chip : Chip) (us : List Answer) → RunGives pairs ops boundary (chip_word chip) chip.state us →
      answer_number (chip_step pairs ops boundary chip).answer ≡ 0
  not_refused chip [] g = ap answer_number (last_answer pairs ops boundary (chip_word chip) g)
  not_refused chip (i ∷ us) g =
      let w = chip_word chip in
      ap answer_number (item_answer pairs ops boundary w g) ∙ item_number i (is_item_lem pairs ops boundary w g)

  module _ {chip : Chip} {word : List ℕ} {ended : List (List ℕ)} {passed : List Answer} (s : Standing chip word ended passed) where
    -- where nothing is ready, all was taken
    all-passed : item_ready chip ≡ false → passed ≡ s.items
    all-passed f =
        sym (append-nil passed) ∙ ap (λ (us : List Answer). passed ++ us) (sym (none_untaken chip s.untaken s.to_take f)) ∙ s.joined

    -- ---- begin and add

    begun : (caller : ℕ) → table_refusal pairs ops ≡ 0 → may_begin caller chip ≡ true → Standing (chip_begun caller chip) [] ended passed
    begun caller t m =
        let f = all_taken caller chip m in
        record {
          items = s.items;
          of_words = s.of_words;
          untaken = [];
          to_take = f;
          joined = append-nil passed ∙ all-passed f;
          letters_long = s.letters_long;
          length_few = omega arith;
          same_word = λ _. refl;
          formed = λ _. t;
          run_fresh = λ _. refl;
        }

    added : (letter : ℕ) → chip_refusal chip ≡ 0 → may_add chip ≡ true → Standing (chip_added letter chip) (word ++ (letter ∷ [])) ended passed
    added letter l m =
        let o = word_open chip m in
        let f = none_ready chip l o in
        let r : chip.length < length chip.letters = omega (arith, s.letters_long, word_room chip m) in
        record {
          items = s.items;
          of_words = s.of_words;
          untaken = [];
          to_take = f;
          joined = append-nil passed ∙ all-passed f;
          letters_long = length-set chip.letters chip.length letter ∙ s.letters_long;
          length_few = omega (arith, word_room chip m);
          same_word = λ _.
              ap (λ (w : List ℕ). w ++ (letter ∷ [])) (s.same_word o) ∙ sym (take-suc-set chip.letters chip.length letter r);
          formed = λ _. s.formed o;
          run_fresh = λ _. s.run_fresh o;
        }

    -- ---- end and take

    -- the chip's word is one that begin takes
    module _ (edge : absent_refusal 255 boundary ≡ 0) (l : chip_refusal chip ≡ 0) (o : chip.opened ≡ true) where
      worded : Worded pairs ops boundary (chip_word chip)
      worded =
          let h : chip.length ≤ length chip.letters = omega (arith, s.letters_long, s.length_few) in
          word_gives pairs ops boundary (chip_word chip) (s.formed o) edge
          (omega (arith, length-take-le chip.length chip.letters h, s.length_few))
          (every_taken (λ x. leb x 255) chip.length chip.letters h ∙ low_letters chip l)

      run : RunGives pairs ops boundary (chip_word chip) chip.state worded.items
      run = subst (λ (t : State). RunGives pairs ops boundary (chip_word chip) t worded.items) (sym (s.run_fresh o)) worded.run

      pub end_taken : answer_number (chip_step pairs ops boundary chip).answer ≡ 0
      end_taken = not_refused chip worded.items run

      ended-word : Standing (chip_stepped (counted_word chip) (chip_step pairs ops boundary chip) chip) word (ended ++ (word ∷ [])) passed
      ended-word =
          record {
            items = s.items ++ worded.items;
            of_words = one_more s.of_words word worded.items
                (subst (λ (w : List ℕ). WordGives pairs ops boundary w worded.items) (sym (s.same_word o)) worded.whole);
            untaken = worded.items;
            to_take = shows chip (counted_word chip) worded.items run;
            joined = ap (λ (p : List Answer). p ++ worded.items) (all-passed (none_ready chip l o));
            letters_long = s.letters_long;
            length_few = s.length_few;
            same_word = λ e. no e refl;
            formed = λ e. no e refl;
            run_fresh = λ e. no e refl;
          }

    -- an item that is ready is the first that is untaken
    took_by : (us : List Answer) → Untaken pairs ops boundary chip us → passed ++ us ≡ s.items → item_ready chip ≡ true →
        Standing (chip_stepped chip.counts (chip_step pairs ops boundary chip) chip) word ended (passed ++ (chip.item ∷ []))
    took_by [] u j f = no f u
    took_by (i ∷ us) u j f =
        record {
          items = s.items;
          of_words = s.of_words;
          untaken = us;
          to_take = shows chip chip.counts us u.2;
          joined = append_assoc passed (chip.item ∷ []) us ∙ ap (λ (a : Answer). passed ++ (a ∷ us)) u.1 ∙ j;
          letters_long = s.letters_long;
          length_few = s.length_few;
          same_word = λ e. no e refl;
          formed = λ e. no e refl;
          run_fresh = λ e. no e refl;
        }

    took : item_ready chip ≡ true →
        Standing (chip_stepped chip.counts (chip_step pairs ops boundary chip) chip) word ended (passed ++ (chip.item ∷ []))
    took f = took_by s.untaken s.to_take s.joined f

    take_by : (us : List Answer) → Untaken pairs ops boundary chip us → item_ready chip ≡ true → answer_number (chip_step pairs ops boundary chip).answer ≡ 0
    take_by [] u f = no f u
    take_by (i ∷ us) u f = not_refused chip us u.2

    pub take_taken : item_ready chip ≡ true → answer_number (chip_step pairs ops boundary chip).answer ≡ 0
    take_taken f = take_by s.untaken s.to_take f

  -- ---- one command, by its refusal

  abbrev pub Stands : Trace → Type 0
  Stands t = Standing t.chip t.word t.ended t.passed

  module _ (block : List ℕ) (t : Trace) where
    abbrev after : Chip
    after = chip_after pairs ops boundary block t.chip

    turned : Stands t → Taken pairs ops boundary block t.chip → Turn pairs ops boundary block t.chip → Stands (trace_by 0 block after t)
    turned s k (begins e f m l) = rw e (begun s (block_caller block) f m)
    turned s k (adds e m) = rw e (added s (block_letter block) k.legal m)
    turned s k (ends e o z) = rw e (ended-word s k.edge k.legal o)
    turned s k (takes e f z) = rw e (took s f)

    by_refusal : (n : ℕ) → command_refusal pairs ops boundary block t.chip ≡ n → Stands t →
        Stands (trace_by (commanded_by n after t.chip).number block (commanded_by n after t.chip).chip t)
    by_refusal zero e s = let k = taken pairs ops boundary block t.chip e in turned s k (turn_of pairs ops boundary block t.chip k.turn)
    by_refusal (suc n) e s = s

    abbrev pub next : Trace
    next = trace_by (command_of pairs ops boundary block t.chip).number block (command_of pairs ops boundary block t.chip).chip t

    one-command : Stands t → Stands next
    one-command s = by_refusal (command_refusal pairs ops boundary block t.chip) refl s

  -- any number of them
  pub all_commands : (blocks : List (List ℕ)) (t : Trace) → Stands t → Stands (trace_from pairs ops boundary t blocks)
  unfolding trace_from
  all_commands [] t s = s
  all_commands (block ∷ blocks) t s = all_commands blocks (next block t) (one-command block t s)

  -- ---- a chip that stands, by bytes

  begun_legal : (caller : ℕ) (chip : Chip) → chip_refusal chip ≡ 0 → may_begin caller chip ≡ true → caller ≤ 7 → chip_refusal (chip_begun caller chip) ≡ 0
  begun_legal caller chip l m h =
      rw (
        every_none (λ i. leb (get_or chip.letters i 0) 255),
        item_stands_lem chip l,
        le-leb caller 7 h,
        all_taken caller chip m,
        may_count caller chip m,
      )

  added_low : (n letter : ℕ) (letters : List ℕ) → n < length letters → letter < 256 → every n (λ i. leb (get_or letters i 0) 255) ≡ true →
      every (suc n) (λ i. leb (get_or (set letters n letter) i 0) 255) ≡ true
  added_low n letter letters r b e =
      every_all (suc n) (λ i. leb (get_or (set letters n letter) i 0) 255) (λ i h. go i (eq-or-lt_of_le (le_of_suc-le-suc h)))
    where
      go : (i : ℕ) → (i ≡ n) ⊎ (i < n) → leb (get_or (set letters n letter) i 0) 255 ≡ true
      go i (inl q) = rw (q, get_or-set_same letters n letter 0 r) (le-leb letter 255 (omega (arith, b)))
      go i (inr h) = rw (get_or-set_other letters n i letter 0 (λ q. omega (arith, q, h))) (every_at n i (λ i. leb (get_or letters i 0) 255) e h)

  added_legal : (letter : ℕ) (chip : Chip) → letter < 256 → length chip.letters ≡ 64 → chip_refusal chip ≡ 0 → may_add chip ≡ true →
      chip_refusal (chip_added letter chip) ≡ 0
  added_legal letter chip b h l m =
      let o = word_open chip m in
      let low = added_low chip.length letter chip.letters (omega (arith, h, word_room chip m)) b (low_letters chip l) in
      rw (
        le-leb (suc chip.length) 64 (word_room chip m),
        low,
        item_stands_lem chip l,
        le-leb chip.caller 7 (low_caller chip l),
        o,
        none_ready chip l o,
        may_end_lem chip l o,
      )

  stepped_legal : (counts : List ℕ) (chip : Chip) → chip_refusal chip ≡ 0 → answer_number (chip_step pairs ops boundary chip).answer ≡ 0 →
      chip_refusal (chip_stepped counts (chip_step pairs ops boundary chip) chip) ≡ 0
  stepped_legal counts chip l z =
      let few : length (chip_word chip) ≤ 64 = omega (arith, length-take chip.length chip.letters, few_letters chip l) in
      ap (unless 7)
      (five (le-leb chip.length 64 (few_letters chip l)) (low_letters chip l)
      (stands (step_fits pairs ops boundary (chip_word chip) plain_options chip.state) few z) (le-leb chip.caller 7 (low_caller chip l)) refl)
    where
      five : {a b c d e : Bool} → a ≡ true → b ≡ true → c ≡ true → d ≡ true → e ≡ true → both a (both b (both c (both d e))) ≡ true
      five p q r t u = rw (p, q, r, t, u)

  module _ (block : List ℕ) (bytes : (j : ℕ) → block_byte block j < 256) (t : Trace) (s : Stands t) where
    turned-legal : Taken pairs ops boundary block t.chip → Turn pairs ops boundary block t.chip →
        chip_refusal (chip_after pairs ops boundary block t.chip) ≡ 0
    turned-legal k (begins e f m h) = rw e (begun_legal (block_caller block) t.chip k.legal m h)
    turned-legal k (adds e m) = rw e (added_legal (block_letter block) t.chip (bytes 1) s.letters_long k.legal m)
    turned-legal k (ends e o z) = rw e (stepped_legal (counted_word t.chip) t.chip k.legal z)
    turned-legal k (takes e f z) = rw e (stepped_legal t.chip.counts t.chip k.legal z)

    by-legal : (n : ℕ) → command_refusal pairs ops boundary block t.chip ≡ n → chip_refusal t.chip ≡ 0 →
        chip_refusal (commanded_by n (after block t) t.chip).chip ≡ 0
    by-legal zero e l = let k = taken pairs ops boundary block t.chip e in turned-legal k (turn_of pairs ops boundary block t.chip k.turn)
    by-legal (suc n) e l = l

    one-legal : chip_refusal t.chip ≡ 0 → chip_refusal (next block t).chip ≡ 0
    one-legal l = chip-of (command_refusal pairs ops boundary block t.chip) (by-legal (command_refusal pairs ops boundary block t.chip) refl l)
      where
        chip-of : (n : ℕ) → chip_refusal (commanded_by n (after block t) t.chip).chip ≡ 0 →
            chip_refusal (trace_by (commanded_by n (after block t) t.chip).number block (commanded_by n (after block t) t.chip).chip t).chip ≡ 0
        chip-of zero h = h
        chip-of (suc n) h = h

  pub all_legal : (blocks : List (List ℕ)) → ((i j : ℕ) → block_byte (get_or blocks i []) j < 256) → (t : Trace) → Stands t → chip_refusal t.chip ≡ 0 →
      chip_refusal (trace_from pairs ops boundary t blocks).chip ≡ 0
  unfolding trace_from
  all_legal [] b t s l = l
  all_legal (block ∷ blocks) b t s l =
      all_legal blocks (λ i j. b (suc i) j) (next block t) (one-command block t s) (one-legal block (b 0) t s l)

  -- ---- what is shown

  abbrev pub Shown : Trace → Type 0
  Shown t = t.shown ≡ item_bytes t.chip.item

  one_shown : (block : List ℕ) (t : Trace) → Shown t → Shown (next block t)
  one_shown block t s = by (command_refusal pairs ops boundary block t.chip) refl
    where
      by : (n : ℕ) → command_refusal pairs ops boundary block t.chip ≡ n →
          Shown (trace_by (commanded_by n (after block t) t.chip).number block (commanded_by n (after block t) t.chip).chip t)
      by zero e = shown_item block (after block t) (taken pairs ops boundary block t.chip e).long
      by (suc n) e = s

  pub all_shown : (blocks : List (List ℕ)) (t : Trace) → Shown t → Shown (trace_from pairs ops boundary t blocks)
  unfolding trace_from
  all_shown [] t s = s
  all_shown (block ∷ blocks) t s = all_shown blocks (next block t) (one_shown block t s)
