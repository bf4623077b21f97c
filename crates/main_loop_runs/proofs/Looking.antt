-- A left that is looked up: a step from any sound state gives the first of the nodes that remain.
-- Assumes nothing.
use mathlib.Core.Path.{◌≡◌, refl, sym, ap, ◌∙◌}
use mathlib.Core.Bool.{Bool, true, false, cond}
use mathlib.Core.List.{List, [], ◌∷◌, ◌++◌}
use mathlib.Core.Option.{Option, none, some, map}
use Prim.Native.Nat.{ℕ, zero, suc, ◌+◌, ◌-◌, ◌<◌, ◌≤◌}
use native.Mathlib.Omega.{arith}
use lib.IntN.{ℤ}
use lib.Dec.{ltb}
use lib.ListN.{length, get_or, take, drop, length-drop, drop_of_length-le}
use lib.Seq.{drop-cons, take-suc, get_or-drop}
use borrow.Author.Tests.{ltb-true, ltb-false, ne_eqb, eqb-true, le-leb}
use Rattle.words.specs.Words.{word_of}
use Rattle.lang.specs.Checks.{is_letter}
use Rattle.reading.specs.Items.{Left, bnd, chr, Item, item, plain, at, Out, glyph}
use Rattle.reading.specs.Form.{no_plain, last_form}
use Rattle.reading.specs.Depth.{Res, Finished}
use Rattle.fonts.specs.Fonts.{left_of}
use Rattle.captions.specs.declared.NextLeft.{NextLeft}
use Rattle.captions.specs.declared.NextLeft.TheVariants as next
use Rattle.captions.specs.declared.Consumes.{Consumes}
use Rattle.captions.specs.declared.Consumes.TheVariants as consumes
use Rattle.captions.specs.declared.State.{State}
use Rattle.captions.specs.declared.Turned.{Turned}
use Rattle.captions.specs.declared.Answer.TheVariants.{Char, Ligature}
use Rattle.captions.specs.Tables.{op_count, number, first_op, count_of, last_code, last_flag, entry_of_pair, entries, ops_from}
use Rattle.captions.specs.Form.{table_form}
use Rattle.captions.specs.Steps.{refused, left_letters, is_none, takes_boundary, left_place_of, left_consumed, after_right, read_on, entered_at, find_within, turn_by}
use Rattle.captions.specs.Steps.{turn_at_end}
use Rattle.captions.specs.Steps.{give_character, turn_at_letter, turn, goes_on, run_on}
use Rattle.captions.proofs.Beyond.{within_some, held_looked}
use Rattle.captions.proofs.FontTable.{below}
use Rattle.captions.proofs.Sound.{state, Sound}
use Rattle.captions.proofs.Following.{Formed, found_formed, all_ops, is_now}
use Rattle.captions.proofs.Turning.{Lefts, boundary, character, ligature, clear, no_char, no_lig, now_final, follows_entry, entered_sound}
use Rattle.captions.proofs.Lettered.{plains_are, Own, Lettered}
use Rattle.captions.proofs.Letters.{found_right, form_last, own_next, own_letter, own_end_lem, Stands, entered_lettered}
use Rattle.main_loops.specs.Nodes.{Node, char_node, ligature_node}
use Rattle.main_loops.specs.Loop.{subtype_of}
use Rattle.main_loops.proofs.Lettered.{letter, made, Place, start, on, place_key}
use Rattle.main_loop_pairs.proofs.Held.{Held, hold, none_own, give_all, head_flag_of}
use Rattle.main_loop_pairs.proofs.Pairs.{ends_by}
use Rattle.main_loop_pairs.proofs.Phases.{end_place}
use Rattle.main_loop_pairs.proofs.Made.{res_or, taking, last_nodes, end_nodes, word_nodes}
use Rattle.main_loop_runs.proofs.Remaining.{takes_b, held_run, next_nodes, remaining, ClearB, Makes}
use Rattle.main_loop_runs.proofs.Giving.{original_is, makes_item, makes_now}

-- ---- one pair, by what the table says of it

-- with a letter
look_letter : (table : Finished) (right : Option ℕ) (y : ℕ) (ys : List ℕ) (x : Place) (lft : Bool) (ns : List Node) (t : Option Res) →
    table (place_key x) y ≡ t →
    word_nodes table right (y ∷ ys) x lft ns ≡
    word_nodes table right ys
    (end_place (letter y) (at (res_or t (place_key x) y).last) (give_all false (taking x lft ns) (res_or t (place_key x) y).outs).letters)
    (cond (head_flag_of (at (res_or t (place_key x) y).last)) (give_all false (taking x lft ns) (res_or t (place_key x) y).outs).lft false)
    (give_all false (taking x lft ns) (res_or t (place_key x) y).outs).nodes
unfolding word_nodes
look_letter table right y ys x lft ns t e =
    ap (λ (o : Option Res). word_nodes table right ys
    (end_place (letter y) (at (res_or o (place_key x) y).last) (give_all false (taking x lft ns) (res_or o (place_key x) y).outs).letters)
    (cond (head_flag_of (at (res_or o (place_key x) y).last)) (give_all false (taking x lft ns) (res_or o (place_key x) y).outs).lft false)
    (give_all false (taking x lft ns) (res_or o (place_key x) y).outs).nodes) e

-- with the right item
look_right : (table : Finished) (r : ℕ) (x : Place) (lft : Bool) (ns : List Node) (t : Option Res) → table (place_key x) r ≡ t →
    end_nodes table (some r) x lft ns ≡
    last_nodes (res_or t (place_key x) r).last
    (give_all (ends_by true (at (res_or t (place_key x) r).last)) (taking x lft ns) (res_or t (place_key x) r).outs)
look_right table r x lft ns t e =
    ap (λ (o : Option Res). last_nodes (res_or o (place_key x) r).last
    (give_all (ends_by true (at (res_or o (place_key x) r).last)) (taking x lft ns) (res_or o (place_key x) r).outs)) e

word_end : (table : Finished) (right : Option ℕ) (x : Place) (lft : Bool) (ns : List Node) → word_nodes table right [] x lft ns ≡ end_nodes table right x lft ns
unfolding word_nodes
word_end table right x lft ns = refl

-- ---- a left as it is looked up

module _ (word : List ℕ) where
  abbrev place_at : NextLeft → ℕ → ℕ → Place
  place_at next.Boundary g p = start
  place_at (next.Char c) g p = on (letter c)
  place_at (next.Lig c) g p = on (made c (take p (drop g word)))
  place_at (next.FinalLig c) g p = start
  place_at next.None g p = start

  abbrev lft_at : NextLeft → Bool → Bool
  lft_at next.Boundary b = false
  lft_at (next.Char c) b = false
  lft_at (next.Lig c) b = b
  lft_at (next.FinalLig c) b = false
  lft_at next.None b = false

  or_none : (b : Bool) → cond b true false ≡ b
  or_none true = refl
  or_none false = refl

  plus_none : (p : ℕ) → suc p + 0 ≡ suc p
  plus_none p = omega arith

  -- what its pair's ops take in of it
  takes_left : (table : Finished) (right : Option ℕ) {x : NextLeft} {p : ℕ} → Lefts x p → (g : ℕ) (b : Bool) → ClearB table right word p b → Stands word g x →
      g + (p + left_letters (left_consumed x)) ≤ length word →
      held_run table right word g p b (left_consumed x) ≡ taking (place_at x g p) (lft_at x b) []
  takes_left table right boundary g b l s i = rw l refl
  takes_left table right (character c) g b l s i =
      rw (l, drop-cons word g 0 (omega arith), s) refl
  takes_left table right (ligature c p) g b l s i = rw (plus_none p, or_none b) refl

  -- what is next after a pair with a letter
  next_letter_lem : (table : Finished) (right : Option ℕ) (r y : ℕ) (f : Bool) (c : ℕ) (H : Held) (os : List Out) → get_or word r 0 ≡ y →
      last_form y (item f c) ≡ true →
      next_nodes table right word (after_right true (item f c)) (suc r) (give_all (is_none (after_right true (item f c))) H os) ≡
      word_nodes table right (drop (suc r) word) (end_place (letter y) (at (item f c)) (give_all false H os).letters)
      (cond (head_flag_of (at (item f c))) (give_all false H os).lft false) (give_all false H os).nodes
  next_letter_lem table right r y true c H os e h =
      let d : suc r - 1 ≡ r = omega arith in
      rw (d, e) refl
  next_letter_lem table right r y false c H os e h = rw (eqb-true c y h) refl

  -- .. and with the right item
  next_right : (table : Finished) (right : Option ℕ) (r : ℕ) (f : Bool) (c : ℕ) (H : Held) (os : List Out) →
      next_nodes table right word (after_right false (item f c)) r (give_all (is_none (after_right false (item f c))) H os) ≡
      last_nodes (item f c) (give_all (ends_by true (at (item f c))) H os)
  next_right table right r true c H os = refl
  next_right table right r false c H os = refl

module _ (pairs ops : List ℤ) (table : table_form pairs ops ≡ true) (word : List ℕ) (right : Option ℕ)
    (letters : (i : ℕ) → i < length word → is_letter (get_or word i 0) ≡ true) where
  abbrev look : NextLeft → State → Turned
  look = turn pairs ops right word

  abbrev held : Finished
  held = below 256 (entries pairs ops)

  -- what the table holds of a left
  held_left : {x : NextLeft} {p : ℕ} → Lefts x p → (g y : ℕ) →
      held (place_key (place_at word x g p)) y ≡ map (entry_of_pair pairs ops) (find_within pairs (left_place_of x) y)
  held_left boundary g y = held_looked pairs ops table 0 y
  held_left (character c) g y = held_looked pairs ops table (suc c) y
  held_left (ligature c p) g y = held_looked pairs ops table (suc c) y

  -- from every sound state with fuel enough
  abbrev Goal : ℕ → Type 0
  Goal F =
      (n : NextLeft) (o m r g p : ℕ) (b : Bool) (k : Consumes) → (is_now m n ≡ false → length word - r < F) →
      Sound ops word (state n o m r g p b k) (ops_from ops o m) → Lettered ops word (state n o m r g p b k) (ops_from ops o m) → ClearB held right word p b →
      Makes held right word ops (remaining held right word n r g p b k (ops_from ops o m)) (run_on ops look F (state n o m r g p b k))

  -- a left that is given as it stands, before what is next
  gives_left : (n : NextLeft) (o r g c p : ℕ) (b : Bool) (all : List Node) → g + suc p ≤ r → r ≤ length word →
      all ≡ next_nodes held right word n r (hold (ligature_node c (take (suc p) (drop g word)) (subtype_of b false) ∷ []) none_own [] false) →
      Makes held right word ops all (give_character c (state n o 0 r g (suc p) b consumes.Nothing))
  unfolding ops_from give_all
  gives_left n o r g c p b all l i e =
      rw (ne_eqb (suc p) 0 (λ q. omega (arith, q)))
      (makes_item held right word ops n o 0 r g (suc p) b consumes.Nothing (Ligature c g (suc p) b false) (suc p)
      (ligature_node c (take (suc p) (drop g word)) (subtype_of b false)) all (λ q. let z : ◌≡◌ {A = ℕ} 0 1 = cc in omega arith)
      (ap (λ (ls : List ℕ). ligature_node c ls (subtype_of b false) ∷ []) (original_is held right word ops g (suc p) (omega arith))) l e)

  gives_char : (n : NextLeft) (o r g c : ℕ) (b : Bool) (all : List Node) → g + 1 ≤ r →
      all ≡ next_nodes held right word n r (hold (char_node c ∷ []) none_own [] false) →
      Makes held right word ops all (give_character c (state n o 0 r g 0 b consumes.Nothing))
  unfolding ops_from give_all
  gives_char n o r g c b all l e =
      makes_item held right word ops n o 0 r g 0 b consumes.Nothing (Char c g) 1 (char_node c) all (λ q. let z : ◌≡◌ {A = ℕ} 0 1 = cc in omega arith) refl l e

  -- a letter
  at_letter : (F : ℕ) → Goal F → {x : NextLeft} {p : ℕ} → Lefts x p → (o r g y : ℕ) (b : Bool) (k : Consumes) → suc r ≤ length word → is_letter y ≡ true →
      get_or word r 0 ≡ y → length word - r < suc F → o ≤ op_count ops → g + (p + left_letters (left_consumed x)) ≡ r → Stands word g x →
      ClearB held right word p b →
      (e : Option ℕ) → find_within pairs (left_place_of x) y ≡ e →
      Makes held right word ops (word_nodes held right (y ∷ drop (suc r) word) (place_at word x g p) (lft_at word x b) [])
      (goes_on (run_on ops look F) (turn_by pairs ops x true y (state x o 0 r g p b k) e))
  unfolding ops_from no_plain plains_are give_all
  at_letter F ih boundary o r g y b k i small is enough u h z l none e =
      rw (look_letter held right y (drop (suc r) word) start false [] none (held_left boundary g y ∙ ap (map (entry_of_pair pairs ops)) e))
      (ih (next.Char y) o 0 (suc r) g 0 b consumes.Nothing (λ _. omega arith)
      record { inside = i; counted = omega arith; among = omega arith; fits = small; holds = refl }
      record { own = own_next word r y is; plains = refl } l)
  at_letter F ih (character c) o r g y b k i small is enough u h z l none e =
      gives_char (next.Char y) o (suc r) g c b _ (omega arith)
      (look_letter held right y (drop (suc r) word) (on (letter c)) false [] none (held_left (character c) g y ∙ ap (map (entry_of_pair pairs ops)) e))
  at_letter F ih (ligature c p) o r g y b k i small is enough u h z l none e =
      gives_left (next.Char y) o (suc r) g c p b _ (omega arith) i
      (look_letter held right y (drop (suc r) word) (on (made c (take (suc p) (drop g word)))) b [] none
      (held_left (ligature c p) g y ∙ ap (map (entry_of_pair pairs ops)) e))
  at_letter F ih {x} {p} s o r g y b k i small is enough u h z l (some j) e =
      let z' = within_some pairs (left_place_of x) y j e in
      let f = found_formed pairs ops table (left_place_of x) y j z'.0 z'.1 in
      let fl = last_flag pairs j in
      let lc = last_code pairs j in
      let os = ops_from ops (first_op pairs j) (count_of pairs j) in
      let lf : last_form y (item fl lc) ≡ true =
      rw (found_right pairs ops (left_place_of x) y j z'.0 z'.1 f) at
      (form_last (left_of (left_place_of x)) (word_of (number pairs j 1)) (entry_of_pair pairs ops j) f.form) in
      let all : word_nodes held right (y ∷ drop (suc r) word) (place_at word x g p) (lft_at word x b) [] ≡
      remaining held right word (after_right true (item fl lc)) (suc r) g p b (left_consumed x) os =
      look_letter held right y (drop (suc r) word) (place_at word x g p) (lft_at word x b) [] (some (entry_of_pair pairs ops j))
      (held_left s g y ∙ ap (map (entry_of_pair pairs ops)) e)
      ∙ sym (ap (λ (H : Held). next_nodes held right word (after_right true (item fl lc)) (suc r) (give_all (is_none (after_right true (item fl lc))) H os))
      (takes_left word held right s g b l z (omega arith))
      ∙ next_letter_lem word held right r y fl lc (taking (place_at word x g p) (lft_at word x b) []) os is lf) in
      rw (follows_entry pairs ops table word right letters s f, all)
      (ih (after_right true (item fl lc)) (first_op pairs j) (count_of pairs j) (suc r) g p b (left_consumed x) (λ _. omega arith)
      (entered_sound pairs ops table word right letters s true o 0 r g j b k f i h)
      (entered_lettered pairs ops table word right letters s true o 0 r g j b k f (own_letter word r y fl lc is lf) z) l)

  -- whatever fuel is left
  run_now : (F : ℕ) (n : NextLeft) (o m r g p : ℕ) (b : Bool) (k : Consumes) → is_now m n ≡ true → Sound ops word (state n o m r g p b k) (ops_from ops o m) →
      ClearB held right word p b →
      Makes held right word ops (remaining held right word n r g p b k (ops_from ops o m)) (run_on ops look F (state n o m r g p b k))
  unfolding run_on
  run_now zero n o m r g p b k h s l = makes_now held right word ops (all_ops pairs ops table) look (refused 7) n o m r g p b k h s l
  run_now (suc F) n o m r g p b k h s l = makes_now held right word ops (all_ops pairs ops table) look (run_on ops look F) n o m r g p b k h s l

  -- the word's end, with a right item
  at_right : (F : ℕ) {x : NextLeft} {p : ℕ} → Lefts x p → (x ≡ next.Boundary → ⊥) → (o r g y : ℕ) (b : Bool) (k : Consumes) → r ≡ length word →
      o ≤ op_count ops → g + (p + left_letters (left_consumed x)) ≡ r → Stands word g x → ClearB held right word p b →
      (e : Option ℕ) → find_within pairs (left_place_of x) y ≡ e →
      Makes held right word ops (end_nodes held (some y) (place_at word x g p) (lft_at word x b) [])
      (goes_on (run_on ops look F) (turn_by pairs ops x false y (state x o 0 r g p b k) e))
  unfolding ops_from no_plain give_all
  at_right F boundary z o r g y b k d u h w l none e = absurd (z refl)
  at_right F (character c) z o r g y b k d u h w l none e =
      gives_char next.None o r g c b _ (omega arith)
      (look_right held y (on (letter c)) false [] none (held_left (character c) g y ∙ ap (map (entry_of_pair pairs ops)) e))
  at_right F (ligature c p) z o r g y b k d u h w l none e =
      gives_left next.None o r g c p b _ (omega arith) (omega arith)
      (look_right held y (on (made c (take (suc p) (drop g word)))) b [] none (held_left (ligature c p) g y ∙ ap (map (entry_of_pair pairs ops)) e))
  at_right F {x} {p} s z o r g y b k d u h w l (some j) e =
      let z' = within_some pairs (left_place_of x) y j e in
      let f = found_formed pairs ops table (left_place_of x) y j z'.0 z'.1 in
      let fl = last_flag pairs j in
      let lc = last_code pairs j in
      let os = ops_from ops (first_op pairs j) (count_of pairs j) in
      let t = after_right false (item fl lc) in
      let all : end_nodes held (some y) (place_at word x g p) (lft_at word x b) [] ≡ remaining held right word t r g p b (left_consumed x) os =
      look_right held y (place_at word x g p) (lft_at word x b) [] (some (entry_of_pair pairs ops j)) (held_left s g y ∙ ap (map (entry_of_pair pairs ops)) e)
      ∙ sym (ap (λ (H : Held). next_nodes held right word t r (give_all (is_none t) H os)) (takes_left word held right s g b l w (omega arith))
      ∙ next_right word held right r fl lc (taking (place_at word x g p) (lft_at word x b) []) os) in
      rw (follows_entry pairs ops table word right letters s f, all)
      (run_now F t (first_op pairs j) (count_of pairs j) r g p b (left_consumed x) (now_final (count_of pairs j) fl lc)
      (entered_sound pairs ops table word right letters s false o 0 r g j b k f (omega arith) h) l)

  -- .. or without
  at_end_lem : (F : ℕ) {x : NextLeft} {p : ℕ} → Lefts x p → (x ≡ next.Boundary → ⊥) → (e : Option ℕ) → right ≡ e → (o r g : ℕ) (b : Bool) (k : Consumes) →
      r ≡ length word → o ≤ op_count ops → g + (p + left_letters (left_consumed x)) ≡ r → Stands word g x → ClearB held right word p b →
      Makes held right word ops (end_nodes held e (place_at word x g p) (lft_at word x b) [])
      (goes_on (run_on ops look F) (turn_at_end pairs ops e x (state x o 0 r g p b k)))
  at_end_lem F boundary z e q o r g b k d u h w l = absurd (z refl)
  at_end_lem F (character c) z none q o r g b k d u h w l = gives_char next.None o r g c b _ (omega arith) refl
  at_end_lem F (character c) z (some y) q o r g b k d u h w l =
      at_right F (character c) (λ e. no_char e) o r g y b k d u h w l (find_within pairs (suc c) y) refl
  at_end_lem F (ligature c p) z none q o r g b k d u h w l = gives_left next.None o r g c p b _ (omega arith) (omega arith) refl
  at_end_lem F (ligature c p) z (some y) q o r g b k d u h w l =
      at_right F (ligature c p) (λ e. no_lig e) o r g y b k d u h w l (find_within pairs (suc c) y) refl

  -- a left with what is next in the word
  at_left : (F : ℕ) → Goal F → {x : NextLeft} {p : ℕ} → Lefts x p → (x ≡ next.Boundary → ⊥) → (o r g : ℕ) (b : Bool) (k : Consumes) → r ≤ length word →
      length word - r < suc F → o ≤ op_count ops → g + (p + left_letters (left_consumed x)) ≡ r → Stands word g x → ClearB held right word p b →
      (t : Bool) → ltb r (length word) ≡ t →
      Makes held right word ops (word_nodes held right (drop r word) (place_at word x g p) (lft_at word x b) [])
      (goes_on (run_on ops look F)
      (cond t (turn_at_letter pairs ops x (get_or word r 0) (state x o 0 r g p b k)) (turn_at_end pairs ops right x (state x o 0 r g p b k))))
  at_left F ih {x} {p} s z o r g b k i enough u h w l true e =
      let j : r < length word = ltb-true r (length word) e in
      let t = letters r j in
      rw (t, drop-cons word r 0 j)
      (at_letter F ih s o r g (get_or word r 0) b k j t refl enough u h w l (find_within pairs (left_place_of x) (get_or word r 0)) refl)
  at_left F ih {x} {p} s z o r g b k i enough u h w l false e =
      let d : drop r word ≡ [] = drop_of_length-le word (ltb-false r (length word) e) in
      rw (d, word_end held right (place_at word x g p) (lft_at word x b) [])
      (at_end_lem F s z right refl o r g b k (omega (arith, ltb-false r (length word) e)) u h w l)

  -- a left that is no ligature
  at_boundary : (F : ℕ) → Goal F → (o r g : ℕ) (b : Bool) (k : Consumes) → r ≤ length word → length word - r < suc F → o ≤ op_count ops → g + (0 + 0) ≡ r →
      ClearB held right word 0 b → (t : Bool) → ltb r (length word) ≡ t →
      Makes held right word ops (next_nodes held right word next.Boundary r (hold [] none_own [] false))
      (goes_on (run_on ops look F)
      (cond t (turn_at_letter pairs ops next.Boundary (get_or word r 0) (state next.Boundary o 0 r g 0 b k))
      (turn_at_end pairs ops right next.Boundary (state next.Boundary o 0 r g 0 b k))))
  unfolding ops_from give_all
  at_boundary F ih o r g b k i enough u h l true e =
      let j : r < length word = ltb-true r (length word) e in
      let t = letters r j in
      rw (t, drop-cons word r 0 j)
      (at_letter F ih boundary o r g (get_or word r 0) b k j t refl enough u h tt l (find_within pairs 0 (get_or word r 0)) refl)
  at_boundary F ih o r g b k i enough u h l false e =
      let d : drop r word ≡ [] = drop_of_length-le word (ltb-false r (length word) e) in
      rw d
      record { gives = rw d refl; ends = λ _. refl; clears = l }

  from_boundary : (F : ℕ) → Goal F → (o r g p : ℕ) (b : Bool) (k : Consumes) → length word - r < suc F →
      Sound ops word (state next.Boundary o 0 r g p b k) (ops_from ops o 0) → p + left_letters k ≡ 0 → ClearB held right word p b →
      Makes held right word ops (remaining held right word next.Boundary r g p b k (ops_from ops o 0))
      (goes_on (run_on ops look F) (look next.Boundary (state next.Boundary o 0 r g p b k)))
  unfolding ops_from give_all
  from_boundary F ih o r g zero b k enough s e l =
      at_boundary F ih o r g b k s.inside enough (omega (arith, s.among)) (omega (arith, s.counted)) l (ltb r (length word)) refl
  from_boundary F ih o r g (suc p) b k enough s e l = absurd (omega (arith, e))

  from_character : (F : ℕ) → Goal F → (c o r g p : ℕ) (b : Bool) (k : Consumes) → length word - r < suc F →
      Sound ops word (state (next.Char c) o 0 r g p b k) (ops_from ops o 0) → Lettered ops word (state (next.Char c) o 0 r g p b k) (ops_from ops o 0) →
      p + left_letters k ≡ 0 → ClearB held right word p b →
      Makes held right word ops (remaining held right word (next.Char c) r g p b k (ops_from ops o 0))
      (goes_on (run_on ops look F) (look (next.Char c) (state (next.Char c) o 0 r g p b k)))
  unfolding ops_from give_all
  from_character F ih c o r g zero b k enough s t e l =
      let d : r - 1 ≡ g = omega (arith, s.counted) in
      at_left F ih (character c) (λ q. no_char q) o r g b k s.inside enough (omega (arith, s.among)) (omega (arith, s.counted)) (rw d at t.own) l
      (ltb r (length word)) refl
  from_character F ih c o r g (suc p) b k enough s t e l = absurd (omega (arith, e))

  -- a ligature with the letter that it was made of
  gathered_letters : (g t r : ℕ) → g + t + 1 ≡ r → r ≤ length word → take t (drop g word) ++ (get_or word (r - 1) 0 ∷ []) ≡ take (suc t) (drop g word)
  gathered_letters g t r e i =
      let d : r - 1 ≡ g + t = omega arith in
      rw (d, ← get_or-drop g word t 0) (sym (take-suc (drop g word) t 0 (rw (length-drop g word) (omega arith))))

  from_ligature : (F : ℕ) → Goal F → (c o r g p : ℕ) (b : Bool) (k : Consumes) → length word - r < suc F →
      Sound ops word (state (next.Lig c) o 0 r g p b k) (ops_from ops o 0) →
      Makes held right word ops (remaining held right word (next.Lig c) r g p b k (ops_from ops o 0))
      (goes_on (run_on ops look F) (look (next.Lig c) (state (next.Lig c) o 0 r g p b k)))
  unfolding ops_from give_all
  from_ligature F ih c o r g p b k enough s =
      rw (gathered_letters g (p + left_letters k) r (omega (arith, s.counted)) s.inside)
      (at_left F ih (ligature c (p + left_letters k)) (λ q. no_lig q) o r g (takes_boundary (state (next.Lig c) o 0 r g p b k)) consumes.Nothing
      s.inside enough
      (omega (arith, s.among)) (omega (arith, s.counted)) tt tt (ltb r (length word)) refl)

  no_fuel : Goal 0
  no_fuel n o (suc m) r g p b k enough s t l = run_now 0 n o (suc m) r g p b k refl s l
  no_fuel (next.FinalLig c) o zero r g p b k enough s t l = run_now 0 (next.FinalLig c) o zero r g p b k refl s l
  no_fuel next.None o zero r g p b k enough s t l = run_now 0 next.None o zero r g p b k refl s l
  no_fuel next.Boundary o zero r g p b k enough s t l = absurd (omega (arith, enough refl))
  no_fuel (next.Char c) o zero r g p b k enough s t l = absurd (omega (arith, enough refl))
  no_fuel (next.Lig c) o zero r g p b k enough s t l = absurd (omega (arith, enough refl))

  one_more : (F : ℕ) → Goal F → Goal (suc F)
  unfolding run_on ops_from
  one_more F ih n o (suc m) r g p b k enough s t l = run_now (suc F) n o (suc m) r g p b k refl s l
  one_more F ih (next.FinalLig c) o zero r g p b k enough s t l = run_now (suc F) (next.FinalLig c) o zero r g p b k refl s l
  one_more F ih next.None o zero r g p b k enough s t l = run_now (suc F) next.None o zero r g p b k refl s l
  one_more F ih next.Boundary o zero r g p b k enough s t l =
      from_boundary F ih o r g p b k (enough refl) s (clear p k next.Boundary refl s.holds) l
  one_more F ih (next.Char c) o zero r g p b k enough s t l =
      from_character F ih c o r g p b k (enough refl) s t (clear p k (next.Char c) refl s.holds) l
  one_more F ih (next.Lig c) o zero r g p b k enough s t l = from_ligature F ih c o r g p b k (enough refl) s

  -- THE law of a step: it gives the first of the nodes that remain
  pub makes : (F : ℕ) → Goal F
  makes zero = no_fuel
  makes (suc F) = one_more F (makes F)
