-- From the parts of a text's answer to the whole: a refusal, a table with its items, a font with its word, a text. Over plain values.
-- Assumes nothing.
use mathlib.Core.Path.{◌≡◌, refl, sym, ap, subst, subst₃, ◌∙◌}
use mathlib.Core.Bool.{true}
use mathlib.Core.List.{List, [], ◌∷◌}
use mathlib.Core.Logic.{◌⊎◌, inl, inr}
use Prim.Native.Nat.{ℕ, zero, suc, ◌*◌, ◌/◌, ◌<◌, ◌≤◌}
use native.Mathlib.Omega.{arith}
use lib.IntN.{ℤ, pos, negsuc}
use lib.Dec.{ltb}
use lib.ListN.{length, get_or, replicate, take}
use borrow.Author.Tests.{lt-leb, le-ltb}
use Rattle.words.specs.Words.{Word}
use Rattle.words.proofs.Bits.{read_pos, read_neg}
use Rattle.words.proofs.Tests.{less_or_not}
use Rattle.lang.specs.declared.Written.{Written}
use Rattle.lang.specs.declared.Written.TheVariants as written
use Rattle.lang.specs.Every.{every}
use Rattle.lang.specs.Checks.{or_else, lower}
use Rattle.lang.specs.Answers.{Reply, reply_of, written_reply, list_of}
use Rattle.lang.proofs.Every.{every_to, every_fails}
use Rattle.lang.proofs.Refusals.{first_is, second_is, second_none, or_else_none, lower_some}
use Rattle.fonts.specs.Fonts.{Font}
use Rattle.fonts.specs.declared.Compiled.TheVariants as compiled
use Rattle.fonts.specs.Compiled.{room_of, room_in, loops_of_font, total_ops, font_table, table_pairs, font_ops, font_loops, compile_refusal, sized_refusal, Compiles}
use Rattle.columns.proofs.Saying.{front, room_known}
use Rattle.columns.proofs.FontBegins.{lists_of}
use Rattle.captions.specs.declared.State.{State}
use Rattle.captions.specs.declared.Answer.{Answer}
use Rattle.captions.specs.declared.Answer.TheVariants.{Refused}
use Rattle.captions.specs.Form.{table_refusal}
use Rattle.captions.specs.Begin.{fresh_state, edges_refusal, letters_refusal, word_refusal, begin_refusal, plain_options}
use Rattle.captions.specs.Steps.{right_item, ran_from, step_refusal, stepped_by, step_of}
use Rattle.word_set.specs.Setting.{and_then, items_by, items_from, after_begin, set_reply}
use Rattle.word_set.specs.Writing.{Tells}
use Rattle.word_set.proofs.Few.{items_sixes}
use Rattle.columns.specs.Replying.{reply_bytes, reply_refusal, WritesReply}
use Rattle.columns.proofs.FontBegins.{font_begins}
use Rattle.columns.proofs.WordRead.{word_none}
use Rattle.columns.specs.Ligcols.{column_number}
use Rattle.columns.specs.Ligcols.{column_room, item_room, column_items, column_bytes, signs_refusal, or_lower, alone_number, word_number}
use Rattle.text_font_reply.specs.Answering.{AnswersBytes, fresh_items, fresh_bytes, fresh_number}

-- ---- a refusal

pub refused : (n : ℕ) (reply reply' : List ℕ) → 0 < n → reply' ≡ replicate (length reply) 0 → AnswersBytes n [] reply (written.Refused n) reply'
refused zero reply reply' h e = absurd (omega (arith, h))
refused (suc n) reply reply' h e = record { answer = refl; list = e }

pub refused_as : {bytes reply reply' : List ℕ} {r : Written} (m n : ℕ) → m ≡ n → 0 < n → AnswersBytes n [] reply r reply' → AnswersBytes m bytes reply r reply'
refused_as m zero e h a = absurd (omega (arith, h))
refused_as zero (suc n) e h a = absurd (omega (arith, e))
refused_as {reply = reply} {reply' = reply'} (suc m) (suc n) e h a =
    record { answer = a.answer ∙ ap (λ (k : ℕ). record { number = k; values = [] }) (sym e); list = a.list }

-- a reply is known by its length
pub refused_over : {n : ℕ} {reply d d' : List ℕ} {r : Written} → length d ≡ length reply → AnswersBytes n [] d r d' → AnswersBytes n [] reply r d'
refused_over {n} l a = record { answer = a.answer; list = a.list ∙ ap (λ (k : ℕ). list_of n 0 k []) l }

-- the bytes do not matter where the number refuses
refused_bytes : {bytes bytes' reply reply' : List ℕ} {r : Written} (m n k : ℕ) → m ≡ suc k → n ≡ suc k → AnswersBytes m bytes reply r reply' →
    AnswersBytes n bytes' reply r reply'
refused_bytes {bytes} {bytes'} {reply} m n k e f a =
    record {
      answer = a.answer ∙ ap (λ (j : ℕ). reply_of j (pos (length bytes) ∷ [])) e ∙ sym (ap (λ (j : ℕ). reply_of j (pos (length bytes') ∷ [])) f);
      list = a.list ∙ ap (λ (j : ℕ). list_of j 0 (length reply) bytes) e ∙ sym (ap (λ (j : ℕ). list_of j 0 (length reply) bytes') f);
    }

-- ---- a letter below 0

module _ (word : List ℕ) where
  pub signs_each : (i : ℕ) → every i (λ j. ltb (get_or word j 0) 2147483648) ≡ true → i ≤ length word → length word ≤ i → 0 ≡ signs_refusal word
  signs_each i e h l = rw (every_to (length word) i (λ j. ltb (get_or word j 0) 2147483648) e h l)

  pub signs_fail : (i : ℕ) → i < length word → 2147483648 ≤ get_or word i 0 → 4 ≡ signs_refusal word
  signs_fail i h e = rw (every_fails (length word) i (λ j. ltb (get_or word j 0) 2147483648) h (le-ltb (get_or word i 0) 2147483648 e))

-- ---- what a function that fills a list answered

pub count_known : (n k m : ℕ) → written_reply (written.Count k) ≡ reply_of n (pos m ∷ []) → (n ≡ 0) × (k ≡ m)
count_known zero k m e = let v : pos k ∷ [] ≡ pos m ∷ [] = ap (λ (r : Reply). r.values) e in (refl, cc)
count_known (suc n) k m e = absurd (let z : 0 ≡ suc n = ap (λ (r : Reply). r.number) e in omega arith)

-- a number alone is no answer that has values
pub number_known : (n k : ℕ) (v : ℤ) (vs : List ℤ) → ◌≡◌ {A = Reply} (record { number = k; values = [] }) (reply_of n (v ∷ vs)) → (k ≡ n) × (0 < k)
number_known zero k v vs e = absurd (let q : ◌≡◌ {A = List ℤ} [] (v ∷ vs) = ap (λ (r : Reply). r.values) e in let z : ◌≡◌ {A = ℕ} 0 1 = cc in omega arith)
number_known (suc n) k v vs e = let z : k ≡ suc n = ap (λ (r : Reply). r.number) e in (z, omega (arith, z))

pub refused_known : (n k m : ℕ) → written_reply (written.Refused k) ≡ reply_of n (pos m ∷ []) → (k ≡ n) × (0 < k)
refused_known n k m e = number_known n k (pos m) [] e

-- ---- a table with its items

-- the items of a fresh run
abbrev pub fresh_run : List ℤ → List ℤ → ℤ → List ℕ → Reply
fresh_run pairs ops boundary word = items_from pairs ops boundary word plain_options 885 (fresh_state word plain_options)

-- what set_fresh left in a list of 5,310 numbers
module _ (pairs ops : List ℤ) (boundary : ℤ) (word : List ℕ) (items items' : List ℤ) (m : 5310 ≡ length items) (k : ℕ)
    (t : Tells (fresh_run pairs ops boundary word) items (written.Count k) items') where
  abbrev known : ((fresh_run pairs ops boundary word).number ≡ 0) × (k ≡ length (fresh_run pairs ops boundary word).values / 6)
  known = count_known (fresh_run pairs ops boundary word).number k (length (fresh_run pairs ops boundary word).values / 6) t.answer

  six : length (fresh_run pairs ops boundary word).values ≡ 6 * k
  six = omega (arith, known.1, items_sixes pairs ops boundary word plain_options 885 (fresh_state word plain_options))

  listed : items' ≡ list_of (fresh_run pairs ops boundary word).number (pos 0) 5310 (fresh_run pairs ops boundary word).values
  listed = t.list ∙ ap (λ (j : ℕ). list_of (fresh_run pairs ops boundary word).number (pos 0) j (fresh_run pairs ops boundary word).values) (sym m)

  pub items_room : length items' ≡ 5310 → 6 * k ≤ 5310
  items_room l =
      omega (
        arith,
        six,
        room_known (pos 0) (fresh_run pairs ops boundary word).number 5310 (fresh_run pairs ops boundary word).values items' listed known.0 l,
      )

  items_front : take (6 * k) items' ≡ (fresh_run pairs ops boundary word).values
  items_front = front (pos 0) (fresh_run pairs ops boundary word).number 5310 (6 * k) (fresh_run pairs ops boundary word).values items' listed known.0 six

module _ (reply : List ℕ) (r : Written) (reply' : List ℕ) where
  written_as : (m : ℕ) (bytes bytes' : List ℕ) → bytes' ≡ bytes → m ≡ reply_refusal bytes (length reply) → WritesReply bytes' reply r reply' →
      AnswersBytes m bytes reply r reply'
  written_as m bytes bytes' e n a =
      let b : AnswersBytes (reply_refusal bytes' (length reply)) bytes' reply r reply' = record { answer = a.answer; list = a.list } in
      let c : AnswersBytes (reply_refusal bytes (length reply)) bytes reply r reply' =
      subst (λ (bs : List ℕ). AnswersBytes (reply_refusal bs (length reply)) bs reply r reply') e b in
      subst (λ (k : ℕ). AnswersBytes k bytes reply r reply') (sym n) c

  module _ (pairs ops loops : List ℤ) (boundary : ℤ) (word : List ℕ) where
    abbrev Answered : ℤ → Type 0
    Answered z = AnswersBytes (fresh_number pairs ops loops boundary z word (length reply)) (fresh_bytes pairs ops loops boundary z word) reply r reply'

    pub table_alone : (z : ℤ) (w : ℕ) → Word z w → 2147483648 ≤ w → WritesReply (reply_bytes pairs ops loops z []) reply r reply' → Answered z
    table_alone (pos n) w h l a = absurd (let e = read_neg h l in let z : ◌≡◌ {A = ℕ} 0 1 = cc in omega arith)
    table_alone (negsuc n) w h l a = record { answer = a.answer; list = a.list }

    pub table_set : (items items' : List ℤ) → 5310 ≡ length items → (k : ℕ) → Tells (fresh_run pairs ops boundary word) items (written.Count k) items' →
        (z : ℤ) (w : ℕ) → Word z w → w < 2147483648 → WritesReply (reply_bytes pairs ops loops z (take (6 * k) items')) reply r reply' → Answered z
    table_set items items' m k t (pos n) w h l a =
        written_as (fresh_number pairs ops loops boundary (pos n) word (length reply)) (fresh_bytes pairs ops loops boundary (pos n) word)
        (reply_bytes pairs ops loops (pos n) (take (6 * k) items'))
        (ap (reply_bytes pairs ops loops (pos n)) (items_front pairs ops boundary word items items' m k t))
        (second_is (fresh_run pairs ops boundary word).number (reply_refusal (fresh_bytes pairs ops loops boundary (pos n) word) (length reply))
        (known pairs ops boundary word items items' m k t).0)
        a
    table_set items items' m k t (negsuc n) w h l a = absurd (let e = read_pos h l in let z : ◌≡◌ {A = ℕ} 0 1 = cc in omega arith)

    pub table_refused : (items items' : List ℤ) (k : ℕ) → Tells (fresh_run pairs ops boundary word) items (written.Refused k) items' → (z : ℤ) (w : ℕ) →
        Word z w → w < 2147483648 → AnswersBytes k [] reply r reply' → Answered z
    table_refused items items' k t (pos n) w h l a =
        let b = refused_known (fresh_run pairs ops boundary word).number k (length (fresh_run pairs ops boundary word).values / 6) t.answer in
        refused_as (fresh_number pairs ops loops boundary (pos n) word (length reply)) k
        (first_is (fresh_run pairs ops boundary word).number (reply_refusal (fresh_bytes pairs ops loops boundary (pos n) word) (length reply))
        (λ e. omega (arith, e, b.0, b.1)) ∙ sym b.0) b.1 a
    table_refused items items' k t (negsuc n) w h l a = absurd (let e = read_pos h l in let z : ◌≡◌ {A = ℕ} 0 1 = cc in omega arith)

-- ---- a word with what is no letter

-- no lines without a word are answered but by their own number
pub alone_number_lem : (bytes reply : List ℕ) (r : Written) (reply' : List ℕ) (n : ℕ) → WritesReply bytes reply r reply' → n ≡ (written_reply r).number →
    n ≡ reply_refusal bytes (length reply)
alone_number_lem bytes reply r reply' n a e = e ∙ ap (λ (x : Reply). x.number) a.answer ∙ by (reply_refusal bytes (length reply))
  where
    by : (m : ℕ) → (reply_of m (pos (length bytes) ∷ [])).number ≡ m
    by zero = refl
    by (suc m) = refl

or_lower_lem : (m n : ℕ) → (m ≡ 0 → ⊥) → or_lower m n ≡ lower m n
or_lower_lem zero n h = absurd (h refl)
or_lower_lem (suc m) n h = refl

module _ (pairs ops loops : List ℤ) (boundary letters : ℤ) (word reply : List ℕ) (r : Written) (reply' : List ℕ) (bad : ℕ) (e : bad ≡ letters_refusal word) where
  abbrev Word-answered : Type 0
  Word-answered = AnswersBytes
      (or_else (word_number pairs ops loops word (length reply)) (fresh_number pairs ops loops boundary letters word (length reply)))
      (fresh_bytes pairs ops loops boundary letters word) reply r reply'

  pub word_refused : (bad ≡ 0 → ⊥) → AnswersBytes (lower bad (alone_number pairs ops loops (length reply))) [] reply r reply' → Word-answered
  word_refused h a =
      let alone = alone_number pairs ops loops (length reply) in
      let w : word_number pairs ops loops word (length reply) ≡ lower bad alone =
      ap (λ (m : ℕ). or_lower m alone) (sym e) ∙ or_lower_lem bad alone h in
      let some = lower_some bad alone h in
      refused_as (or_else (word_number pairs ops loops word (length reply)) (fresh_number pairs ops loops boundary letters word (length reply))) (lower bad alone)
      (first_is (word_number pairs ops loops word (length reply)) (fresh_number pairs ops loops boundary letters word (length reply))
      (λ z. omega (arith, z, w, some)) ∙ w) some a

  pub word_taken : bad ≡ 0 → AnswersBytes (fresh_number pairs ops loops boundary letters word (length reply)) (fresh_bytes pairs ops loops boundary letters word)
      reply r reply' → Word-answered
  word_taken z a =
      subst (λ (m : ℕ). AnswersBytes m (fresh_bytes pairs ops loops boundary letters word) reply r reply')
      (sym (second_is (word_number pairs ops loops word (length reply)) (fresh_number pairs ops loops boundary letters word (length reply))
      (ap (λ (m : ℕ). or_lower m (alone_number pairs ops loops (length reply))) (sym e ∙ z)))) a

-- ---- a font compiled, in the room that a text has

module _ (f : Font) (pairs ops loops : List ℤ) (work : List ℕ) (a : 3072 ≡ length pairs) (b : 4096 ≡ length ops) (d : 128 ≡ length loops)
    (e : 8192 ≡ length work) where
  room_is : room_in pairs ops loops work ≡ column_room
  room_is i = room_of (sym a i) (sym b i) (sym d i) (sym e i)

  -- at the design size no size is refused
  at_design_size : sized_refusal f (room_in pairs ops loops work) 0 ≡ compile_refusal f column_room
  at_design_size = second_none (compile_refusal f (room_in pairs ops loops work)) ∙ ap (compile_refusal f) room_is

  module _ {pairs' ops' loops' : List ℤ} {work' : List ℕ} where
    pub not_compiled : (n : ℕ) → Compiles f 0 pairs ops loops work (compiled.Refused n) pairs' ops' loops' work' → (n ≡ compile_refusal f column_room) × (0 < n)
    not_compiled n c =
        let k = number_known (sized_refusal f (room_in pairs ops loops work) 0) n (pos (table_pairs f)) (pos (total_ops f) ∷ pos (length (loops_of_font f)) ∷ [])
        c.answer in
        (k.0 ∙ at_design_size, k.1)

    module _ {p o l : ℕ} (c : Compiles f 0 pairs ops loops work (compiled.Tables p o l) pairs' ops' loops' work') where
      pub compiled_taken : compile_refusal f column_room ≡ 0
      compiled_taken = sym at_design_size ∙ (lists_of c).0

      pub pairs_fit : length pairs' ≡ length pairs → 6 * p ≤ 3072
      pairs_fit k =
          omega (
            arith,
            room_known (pos 0) (sized_refusal f (room_in pairs ops loops work) 0) (length pairs) (font_table f) pairs' c.lists.table (lists_of c).0 k,
            (lists_of c).1.table_long,
          )

      pub ops_fit_lem : length ops' ≡ length ops → 2 * o ≤ 4096
      ops_fit_lem k =
          omega (
            arith,
            room_known (pos 0) (sized_refusal f (room_in pairs ops loops work) 0) (length ops) (font_ops f) ops' c.lists.ops_table_lem (lists_of c).0 k,
            (lists_of c).1.op_table_long,
          )

      pub loops_fit : length loops' ≡ length loops → 2 * l ≤ 128
      loops_fit k =
          omega (
            arith,
            room_known (pos 0) (sized_refusal f (room_in pairs ops loops work) 0) (length loops) (font_loops f) loops' c.lists.loop_list_lem (lists_of c).0 k,
            (lists_of c).1.loop_table_long,
          )

-- ---- a font with its word

no_letters : letters_refusal [] ≡ 0
unfolding every
no_letters = refl

-- a word over 65,535 is 6: at the first step of a run, and at begin
module _ (pairs ops : List ℤ) (boundary : ℤ) (word : List ℕ) (edges : edges_refusal boundary plain_options ≡ 0) (long : 65535 < length word) where
  word_long : word_refusal word ≡ 6
  word_long = rw (lt-leb (length word) 65535 long)

  step_long : (s : State) → (step_of pairs ops boundary word plain_options s).answer ≡ Refused 6
  step_long s =
      let e : step_refusal boundary word plain_options ≡ 6 = second_is (edges_refusal boundary plain_options) (word_refusal word) edges ∙ word_long in
      ap (λ (n : ℕ). (stepped_by n s (ran_from pairs ops (right_item boundary (negsuc 0)) word s)).answer) e

  run_long : (n : ℕ) (s : State) → items_from pairs ops boundary word plain_options n s ≡ reply_of 6 []
  unfolding items_by
  run_long zero s = ap (λ (x : Answer). and_then x (reply_of 15 [])) (step_long s)
  run_long (suc n) s =
      ap (λ (x : Answer). and_then x (items_from pairs ops boundary word plain_options n (step_of pairs ops boundary word plain_options s).state)) (step_long s)

  begin_long : begin_refusal pairs ops boundary word plain_options ≡ 6
  begin_long =
      second_is (edges_refusal boundary plain_options) (or_else (word_refusal word) (or_else (table_refusal pairs ops) (or_else (letters_refusal word) 0))) edges
      ∙ ap (λ (n : ℕ). or_else n (or_else (table_refusal pairs ops) (or_else (letters_refusal word) 0))) word_long

module _ (f : Font) (letters : ℤ) (word reply : List ℕ) (r : Written) (reply' : List ℕ) where
  abbrev Font-answered : Type 0
  Font-answered = AnswersBytes (column_number f letters word (length reply)) (column_bytes f letters word) reply r reply'

  abbrev lettered : ℕ
  lettered = word_number (font_table f) (font_ops f) (font_loops f) word (length reply)

  abbrev setting : ℕ
  setting = or_else (column_items f letters word).number (reply_refusal (column_bytes f letters word) (length reply))

  -- the number of compiling, or of a letter below 0
  pub number_first : (m : ℕ) → m ≡ lower (compile_refusal f column_room) (signs_refusal word) → 0 < m → AnswersBytes m [] reply r reply' → Font-answered
  number_first m e h a =
      refused_as (column_number f letters word (length reply)) m
      (first_is (lower (compile_refusal f column_room) (signs_refusal word)) (or_else lettered setting) (λ z. omega (arith, z, e, h)) ∙ sym e) h a

  -- the items of a table that compiling wrote, which begin would take, but for a word that is too long
  items_by_lem : compile_refusal f column_room ≡ 0 → letters_refusal word ≡ 0 → (length word < 65536) ⊎ (65536 ≤ length word) →
      fresh_run (font_table f) (font_ops f) f.boundary word ≡ set_reply (font_table f) (font_ops f) f.boundary word plain_options item_room
  items_by_lem c n (inl h) =
      sym (ap (λ (k : ℕ). after_begin k (fresh_run (font_table f) (font_ops f) f.boundary word)) (font_begins f column_room word c n (omega (arith, h))))
  items_by_lem c n (inr h) =
      let e : edges_refusal f.boundary plain_options ≡ 0 =
      (or_else_none (edges_refusal f.boundary plain_options)
      (or_else (word_refusal []) (or_else (table_refusal (font_table f) (font_ops f)) (or_else (letters_refusal []) 0)))
      (font_begins f column_room [] c no_letters (omega arith))).0 in
      let l : 65535 < length word = omega (arith, h) in
      run_long (font_table f) (font_ops f) f.boundary word e l 885 (fresh_state word plain_options)
      ∙ sym (ap (λ (k : ℕ). after_begin k (fresh_run (font_table f) (font_ops f) f.boundary word))
      (begin_long (font_table f) (font_ops f) f.boundary word e l))

  fresh_items_lem : (z : ℤ) → compile_refusal f column_room ≡ 0 → letters_refusal word ≡ 0 →
      fresh_items (font_table f) (font_ops f) f.boundary z word ≡ column_items f z word
  fresh_items_lem (pos n) c e = items_by_lem c e (less_or_not (length word) 65536)
  fresh_items_lem (negsuc n) c e = refl

  -- what is answered for the lists of the font, by the number of the word
  set_by : compile_refusal f column_room ≡ 0 → (m : ℕ) → lettered ≡ m →
      AnswersBytes (or_else m (fresh_number (font_table f) (font_ops f) (font_loops f) f.boundary letters word (length reply)))
      (fresh_bytes (font_table f) (font_ops f) (font_loops f) f.boundary letters word) reply r reply' →
      AnswersBytes (or_else m setting) (column_bytes f letters word) reply r reply'
  set_by c zero e a =
      let n = word_none (letters_refusal word) (alone_number (font_table f) (font_ops f) (font_loops f) (length reply)) e in
      subst (λ (i : Reply). AnswersBytes
      (or_else i.number (reply_refusal (reply_bytes (font_table f) (font_ops f) (font_loops f) letters i.values) (length reply)))
      (reply_bytes (font_table f) (font_ops f) (font_loops f) letters i.values) reply r reply') (fresh_items_lem letters c n) a
  set_by c (suc m) e a = refused_bytes (suc m) (suc m) m refl refl a

  pub font_set : compile_refusal f column_room ≡ 0 → signs_refusal word ≡ 0 → (pairs ops loops : List ℤ) → pairs ≡ font_table f → ops ≡ font_ops f →
      loops ≡ font_loops f →
      AnswersBytes (or_else (word_number pairs ops loops word (length reply)) (fresh_number pairs ops loops f.boundary letters word (length reply)))
      (fresh_bytes pairs ops loops f.boundary letters word) reply r reply' → Font-answered
  font_set c n pairs ops loops p o x a =
      let b = subst₃ (λ (xs ys zs : List ℤ). AnswersBytes
      (or_else (word_number xs ys zs word (length reply)) (fresh_number xs ys zs f.boundary letters word (length reply)))
      (fresh_bytes xs ys zs f.boundary letters word) reply r reply') p o x a in
      let k : lower (compile_refusal f column_room) (signs_refusal word) ≡ 0 = rw (c, n) in
      subst (λ (m : ℕ). AnswersBytes m (column_bytes f letters word) reply r reply')
      (sym (second_is (lower (compile_refusal f column_room) (signs_refusal word)) (or_else lettered setting) k)) (set_by c lettered refl b)
