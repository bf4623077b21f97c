-- Letters given by a loop, one after the other, by any step that keeps the laws of specs/Purpose: the state and the list that the loop leaves.
-- Assumes nothing.
use Rattle.std.proofs.Common.{◌≡◌, ℕ, suc, ◌+◌, ◌-◌, ◌*◌, ◌/◌, ◌%◌, ◌^◌, ◌<◌, ◌≤◌, Bool, true, false, leb, List, [], ◌∷◌, length, get_or, ℤ, pos, sym, refl, ap, ◌∙◌, subst, ap₂, add-one, arith, lt-ltb, ne_eqb, le-leb, leb-true}
use lib.Seq.{sets, length-sets}
use Rattle.words.specs.Words.{Word, word_of, number_of}
use Rattle.words.proofs.Bits.{number_pos, number_is}
use Rattle.lang.proofs.Refusals.{or_else_none, unless_none}
use Rattle.captions.specs.declared.RunOptions.{RunOptions}
use Rattle.captions.specs.declared.NextLeft.{NextLeft}
use Rattle.captions.specs.declared.NextLeft.TheVariants as next
use Rattle.captions.specs.declared.Consumes.TheVariants as consumes
use Rattle.captions.specs.declared.State.{State}
use Rattle.captions.specs.declared.Answer.TheVariants.{Char, Kern}
use Rattle.captions.specs.declared.Step.{Step}
use Rattle.captions.specs.Replies.{answer_reply}
use Rattle.captions.specs.Tables.{pair_count, op_count, number, op_value, first_op, count_of, last_code, last_flag}
use Rattle.captions.specs.Begin.{edges_refusal, word_refusal}
use Rattle.captions.specs.Steps.{after_right}
use Rattle.reading.specs.Items.{item}
use Rattle.step_quick.specs.Quick.{plain_code, next_letter, is_quick, given_plain, given_first, given_kern}
use Rattle.step_quick.proofs.Theorems.{quick_is, quick_moves}
use Rattle.step_quick_pair.specs.KernPairs.{is_kern_pair, amid_pair, after_pair}
use Rattle.step_quick_pair.proofs.Laws.{Pair, pair_is}
use Rattle.step_quick_pair.proofs.Theorems.{pair_kerns, pair_moves}
use Rattle.word_plain_letters.specs.PlainLetters.{plain_left, is_given, GivesItems, nothing, more, letter_item, kern_six, GivesPair}
use Rattle.word_plain_letters.specs.PlainLetters.{stops, kerns, Stand, none_stand, one_stands, letters_moved, letters_end}
use Rattle.word_plain_letters.specs.declared.LettersGiven.{LettersGiven}
use Rattle.word_plain_letters.specs.Purpose.{StepsQuickly}

-- the word is short, and the numbers of a quick state's item are small
pub quick_short : (ops : List ℤ) (boundary : ℤ) (word : List ℕ) (options : RunOptions) (s : State) → is_quick ops boundary word options s ≡ true →
    (length word ≤ 65535) × (plain_code s.next_left ≤ 255) × (s.given ≤ 65535)
quick_short ops boundary word options s q =
    let f = quick_is ops boundary word options s q in
    let l = leb-true (length word) 65535
    (unless_none 5 (leb (length word) 65535) (or_else_none (edges_refusal boundary options) (word_refusal word) f.calm.taken).1) in
    (l, f.calm.code, omega (arith, l, f.there, f.waits))

-- .. and so are those of every letter after it
pub quick_starts : (ops : List ℤ) (boundary : ℤ) (word : List ℕ) (options : RunOptions) (s : State) → is_quick ops boundary word options s ≡ true →
    s.given + (length word - s.read) ≤ 65535
quick_starts ops boundary word options s q =
    let f = quick_is ops boundary word options s q in
    let l = (quick_short ops boundary word options s q).0 in
    omega (arith, l, f.there, f.waits)

-- ---- the numbers of a character and of a kern

pub letter_numbers_lem : (c p : ℕ) → c ≤ 255 → p ≤ 65535 → letter_item c p ≡ (answer_reply (Char c p)).values
letter_numbers_lem c p h g =
    λ i. number_pos 0 (omega arith) i ∷ number_pos c (omega (arith, h)) i ∷ number_pos p (omega (arith, g)) i ∷ number_pos 1 (omega arith) i
    ∷ number_pos 0 (omega arith) i ∷ number_pos 0 (omega arith) i ∷ []

pub kern_numbers : (v : ℤ) → kern_six v ≡ (answer_reply (Kern v)).values
kern_numbers v =
    λ i. number_pos 2 (omega arith) i ∷ v ∷ number_pos 0 (omega arith) i ∷ number_pos 0 (omega arith) i ∷ number_pos 0 (omega arith) i
    ∷ number_pos 0 (omega arith) i ∷ []

-- ---- a kern pair, by what was read of its entry

pub gives_kerns : (pairs ops : List ℤ) (place start : ℕ) (items : List ℤ) (at : ℕ) → is_kern_pair pairs ops place ≡ true → at + 12 ≤ length items →
    {q v w n : ℕ} {d d' : List ℤ} → q ≡ suc (first_op pairs place) → Word (get_or ops (2 * (q - 1) + 1) (pos 0)) v → Word (get_or ops (2 * q + 1) (pos 0)) w →
    Word (number pairs place 2) n → d ≡ sets items at (letter_item v start) → d' ≡ sets d (at + 6) (kern_six (number_of w)) →
    GivesPair pairs ops place start items at (q + 1) n d'
gives_kerns pairs ops place start items at pair room {q} {v} {w} {n} {d} {d'} e g h c a b =
    let first = first_op pairs place in
    let one : q - 1 ≡ first = omega (arith, e) in
    let value : v ≡ word_of (op_value ops first) = g.is ∙ ap (λ (j : ℕ). word_of (op_value ops j)) one in
    let kern : number_of w ≡ op_value ops (suc first) = number_is h ∙ ap (op_value ops) e in
    let next : q + 1 ≡ suc (suc first) = omega (arith, e) in
    let list : d' ≡ sets (sets items at (letter_item (word_of (op_value ops first)) start)) (at + 6) (kern_six (op_value ops (suc first))) =
    b ∙ (λ j. sets ((a ∙ (λ i. sets items at (letter_item (value i) start))) j) (at + 6) (kern_six (kern j))) in
    subst (λ (x : ℕ). GivesPair pairs ops place start items at x n d') (sym next)
    (subst (λ (x : ℕ). GivesPair pairs ops place start items at (suc (suc first)) x d') (sym c.is)
    (subst (λ (x : List ℤ). GivesPair pairs ops place start items at (suc (suc first)) (last_code pairs place) x) (sym list)
    (kerns pair room)))

-- ---- letters that stand

module _ {place : ℕ → ℕ → ℕ} {none : ℕ} {word : List ℕ} {read given left : ℕ} {items : List ℤ} {k : ℕ} where
  pub stand_length : {l n : ℕ} {d : List ℤ} → Stand place none word read given left items k l n d → length d ≡ length items
  stand_length none_stand = refl
  stand_length (one_stands {l} {n} {d} h t f e r) = length-sets d (6 * (k + n)) (letter_item (l - 1) (given + n)) ∙ stand_length h

  pub stand_left : 0 < left → left ≤ 256 → {l n : ℕ} {d : List ℤ} → Stand place none word read given left items k l n d → (0 < l) × (l ≤ 256)
  stand_left z m none_stand = (z, m)
  stand_left z m (one_stands h t f e r) = (omega arith, omega (arith, f))

  -- one more
  pub stand_more : {l n : ℕ} {d : List ℤ} → Stand place none word read given left items k l n d → read + n < length word → {y p : ℕ} →
      y ≡ get_or word (read + n) 0 → y ≤ 255 → p ≡ place l y → p ≡ none → k + n < length d / 6 → {d' : List ℤ} →
      d' ≡ sets d (6 * (k + n)) (letter_item (l - 1) (given + n)) → Stand place none word read given left items k (y + 1) (n + 1) d'
  stand_more {l} {n} {d} h t {y} {p} e f g a r {d'} w =
      subst (λ (x : ℕ). Stand place none word read given left items k x (n + 1) d') (sym (add-one y ∙ ap suc e))
      (subst (λ (x : ℕ). Stand place none word read given left items k (suc (get_or word (read + n) 0)) x d') (sym (add-one n))
      (subst (λ (x : List ℤ). Stand place none word read given left items k (suc (get_or word (read + n) 0)) (suc n) x) (sym w)
      (one_stands h t (subst (λ (x : ℕ). x ≤ 255) e f) (ap (place l) (sym e) ∙ sym g ∙ a) r)))

-- ---- one step more

module _ (step : State → Step) (s : State) (items : List ℤ) (k : ℕ) where
  pub gives_more : {u : State} {m : ℕ} {d : List ℤ} → GivesItems step s items k u m d → (t : Step) → step u ≡ t → is_given t.answer ≡ true →
      k + m < length d / 6 → (d' : List ℤ) → d' ≡ sets d (6 * (k + m)) (answer_reply t.answer).values → GivesItems step s items k t.state (suc m) d'
  gives_more {u} {m} {d} g t e h l d' w =
      subst (λ (x : List ℤ). GivesItems step s items k t.state (suc m) x) (sym w)
      (subst (λ (x : Step). GivesItems step s items k x.state (suc m) (sets d (6 * (k + m)) (answer_reply x.answer).values)) e
      (more g (ap (λ (x : Step). is_given x.answer) e ∙ h) l))

  pub gives_length : {u : State} {m : ℕ} {d : List ℤ} → GivesItems step s items k u m d → length d ≡ length items
  gives_length nothing = refl
  gives_length (more {u} {m} {d} g h l) = length-sets d (6 * (k + m)) (answer_reply (step u).answer).values ∙ gives_length g

-- ---- letters so far

module _ (place : ℕ → ℕ → ℕ) (pairs ops : List ℤ) (boundary : ℤ) (word : List ℕ) (options : RunOptions) (step : State → Step)
    (law : StepsQuickly place pairs ops boundary word options step) (s : State) (items₀ : List ℤ) (k : ℕ) where
  -- i letters were given as m items: the run stands at a state whose left is l, and which is quick wherever a letter in range comes next
  pub record LettersSoFar (l o i m : ℕ) (items : List ℤ) : Type 0 where
    pub at : State
    pub gives : GivesItems step s items₀ k at m items
    pub left : l ≡ plain_left at
    pub small : l ≤ 256
    pub op : o ≡ at.op
    pub reads : at.read ≡ s.read + i
    pub gave : at.given ≡ s.given + i
    pub quick : at.read < length word → leb (next_letter word at) 255 ≡ true → is_quick ops boundary word options at ≡ true
    pub is : at ≡ letters_moved s (plain_code at.next_left) at.op i
    pub room : k + m ≤ length items / 6

  pub letters_none : is_quick ops boundary word options s ≡ true → (l : ℕ) → l ≡ plain_left s → k ≤ length items₀ / 6 → LettersSoFar l s.op 0 0 items₀
  letters_none q l e r =
      record {
        at = s;
        gives = nothing;
        left = e;
        small = omega (arith, e, (quick_short ops boundary word options s q).1);
        op = refl;
        reads = omega arith;
        gave = omega arith;
        quick = λ a b. q;
        is = refl;
        room = omega (arith, r);
      }

  module _ {l o i m : ℕ} {items : List ℤ} (g : LettersSoFar l o i m items) where
    pub letters_length : length items ≡ length items₀
    letters_length = gives_length step s items₀ k g.gives

    -- what the loop leaves
    module _ {p : ℕ} {r : LettersGiven} (e : r ≡ letters_end s l o i m p) where
      pub letters_state : r.state ≡ g.at
      letters_state =
          let code : l - 1 ≡ plain_code g.at.next_left = omega (arith, g.left) in
          ap (λ (x : LettersGiven). x.state) e ∙ (λ j. letters_moved s (code j) (g.op j) i) ∙ sym g.is

      pub letters_left : GivesItems step s items₀ k r.state r.count items
      letters_left =
          subst (λ (x : State). GivesItems step s items₀ k x r.count items) (sym letters_state)
          (subst (λ (x : ℕ). GivesItems step s items₀ k g.at x items) (sym (ap (λ (x : LettersGiven). x.count) e)) g.gives)

    -- ---- a letter that is there and in range

    module _ (there : s.read + i < length word) {y : ℕ} (e : y ≡ get_or word (s.read + i) 0) (fits : y ≤ 255) where
      abbrev u : State
      u = g.at

      next_letter_lem : next_letter word u ≡ y
      next_letter_lem = ap (λ (j : ℕ). get_or word j 0) g.reads ∙ sym e

      pub is_quick_lem : is_quick ops boundary word options u ≡ true
      is_quick_lem = g.quick (omega (arith, g.reads, there)) (rw next_letter_lem (le-leb y 255 fits))

      pub letter_start : s.given + i ≤ 65535
      letter_start = omega (arith, g.gave, (quick_short ops boundary word options u is_quick_lem).2)

      found : {p : ℕ} → p ≡ place l y → place (plain_left u) (next_letter word u) ≡ p
      found {p} h = sym (h ∙ ap₂ place g.left (sym next_letter_lem))

      -- the state after one letter more, in whatever way it is given
      moved : (v : State) (c o' : ℕ) → v.next_left ≡ next.Char c → v.op ≡ o' → v.ops ≡ 0 → v.read ≡ suc u.read → v.given ≡ suc u.given →
          v.pending ≡ 0 → v.pending_boundary ≡ false → v.consumes_left ≡ consumes.Nothing → v ≡ letters_moved s c o' (i + 1)
      moved v c o' a b d r w p f n =
          let short = quick_short ops boundary word options u is_quick_lem in
          let reads : suc u.read ≡ (s.read + (i + 1)) % 2 ^ 64 = omega (arith, g.reads, there, short.0) in
          let gives : suc u.given ≡ (s.given + (i + 1)) % 2 ^ 64 = omega (arith, g.gave, letter_start) in
          rw (ne_eqb (i + 1) 0 (λ z. omega (arith, z)))
          (λ j. record {
            next_left = a j;
            op = b j;
            ops = d j;
            read = (r ∙ reads) j;
            given = (w ∙ gives) j;
            pending = p j;
            pending_boundary = f j;
            consumes_left = n j;
          })

      -- .. as it stands
      pub letters_stand : {p : ℕ} → p ≡ place l y → p ≡ pair_count pairs → (c : ℕ) → c + 1 ≡ l → 6 * (k + m) + 6 ≤ length items → (items' : List ℤ) →
          items' ≡ sets items (6 * (k + m)) (letter_item c (s.given + i)) → LettersSoFar (suc y) o (i + 1) (m + 1) items'
      letters_stand {p} h n c a r items' w =
          let t = given_plain word u in
          let short = quick_short ops boundary word options u is_quick_lem in
          let code : c ≡ plain_code u.next_left = omega (arith, a, g.left) in
          let same : items' ≡ sets items (6 * (k + m)) (answer_reply t.answer).values =
          w ∙ ap (sets items (6 * (k + m)))
          ((λ j. letter_item (code j) (sym g.gave j)) ∙ letter_numbers_lem (plain_code u.next_left) u.given short.1 short.2) in
          let long : length items' ≡ length items = ap length w ∙ length-sets items (6 * (k + m)) (letter_item c (s.given + i)) in
          record {
            at = t.state;
            gives = subst (λ (x : ℕ). GivesItems step s items₀ k t.state x items') (sym (add-one m))
                (gives_more step s items₀ k g.gives t (law.plain u is_quick_lem (found h ∙ n)) refl (omega (arith, r)) items' same);
            left = ap suc (sym next_letter_lem);
            small = omega arith;
            op = g.op;
            reads = omega (arith, g.reads);
            gave = omega (arith, g.gave);
            quick = λ b f. quick_moves ops boundary word options u is_quick_lem b f;
            is = moved t.state (next_letter word u) u.op refl refl refl refl refl refl refl refl;
            room = omega (arith, r, long);
          }

      -- .. as a kern pair
      module _ {p : ℕ} (h : p ≡ place l y) (pair : is_kern_pair pairs ops p ≡ true) where
        is-pair : Pair pairs ops p
        is-pair = pair_is pairs ops p pair

        abbrev first : ℕ
        first = first_op pairs p

        -- its last is next, a character
        unflagged : after_right true (item (last_flag pairs p) (last_code pairs p)) ≡ next.Char (last_code pairs p)
        unflagged = ap (λ (b : Bool). after_right true (item b (last_code pairs p))) is-pair.unflagged

        kern_given : given_kern ops (amid_pair pairs ops p u) ≡ record { answer = Kern (op_value ops (suc first)); state = after_pair pairs ops p u }
        kern_given = rw (lt-ltb (suc first) (op_count ops) (omega (arith, is-pair.among)))

        pub letters_kern : 6 * (k + m) + 12 ≤ length items → (items' : List ℤ) →
            items' ≡
            sets (sets items (6 * (k + m)) (letter_item (word_of (op_value ops first)) (s.given + i))) (6 * (k + m) + 6) (kern_six (op_value ops (suc first))) →
            LettersSoFar (suc (last_code pairs p)) (suc (suc first)) (i + 1) (m + 2) items'
        letters_kern r items' w =
            let short = quick_short ops boundary word options u is_quick_lem in
            let t = given_first pairs ops p u in
            let v = after_pair pairs ops p u in
            let amid = sets items (6 * (k + m)) (letter_item (word_of (op_value ops first)) (s.given + i)) in
            let same : amid ≡ sets items (6 * (k + m)) (answer_reply t.answer).values =
            ap (sets items (6 * (k + m)))
            ((λ j. letter_item (word_of (op_value ops first)) (sym g.gave j))
            ∙ letter_numbers_lem (word_of (op_value ops first)) u.given is-pair.value short.2) in
            let mid : length amid ≡ length items = length-sets items (6 * (k + m)) (letter_item (word_of (op_value ops first)) (s.given + i)) in
            let long : length items' ≡ length items = ap length w ∙ length-sets amid (6 * (k + m) + 6) (kern_six (op_value ops (suc first))) ∙ mid in
            let at : 6 * (k + m) + 6 ≡ 6 * (k + suc m) = omega arith in
            let one = gives_more step s items₀ k g.gives t (law.first u p is_quick_lem (found h) is-pair.there is-pair.reads) refl (omega (arith, r)) amid
            same in
            let two = gives_more step s items₀ k one (record { answer = Kern (op_value ops (suc first)); state = v })
            (law.kern (amid_pair pairs ops p u) (pair_kerns pairs ops boundary word options u p is_quick_lem pair) ∙ kern_given) refl (omega (arith, r, mid)) items'
            (w ∙ (λ j. sets amid (at j) (kern_numbers (op_value ops (suc first)) j))) in
            let none_left : count_of pairs p - 1 - 1 ≡ 0 = omega (arith, is-pair.two) in
            let count : suc (suc m) ≡ m + 2 = omega arith in
            record {
              at = v;
              gives = subst (λ (x : ℕ). GivesItems step s items₀ k v x items') count two;
              left = ap (λ (x : NextLeft). suc (plain_code x)) (sym unflagged);
              small = omega (arith, is-pair.code);
              op = refl;
              reads = omega (arith, g.reads);
              gave = omega (arith, g.gave);
              quick = λ b f. pair_moves pairs ops boundary word options u p is_quick_lem pair b f;
              is =
                  moved v (last_code pairs p) (suc (suc first)) unflagged refl none_left refl refl refl refl refl
                  ∙ ap (λ (x : NextLeft). letters_moved s (plain_code x) (suc (suc first)) (i + 1)) (sym unflagged);
              room = omega (arith, r, long);
            }

      -- .. as what is written of its pair, and that is not nothing
      pub letters_more : {p o' n : ℕ} {items' : List ℤ} → p ≡ place l y → GivesPair pairs ops p (s.given + i) items (6 * (k + m)) o' n items' →
          (o' ≡ 0 → ⊥) → LettersSoFar (n + 1) o' (i + 1) (m + 2) items'
      letters_more h stops z = absurd (z refl)
      letters_more {p} h (kerns e r) z =
          let d = sets (sets items (6 * (k + m)) (letter_item (word_of (op_value ops (first_op pairs p))) (s.given + i))) (6 * (k + m) + 6)
          (kern_six (op_value ops (suc (first_op pairs p)))) in
          subst (λ (x : ℕ). LettersSoFar x (suc (suc (first_op pairs p))) (i + 1) (m + 2) d) (sym (add-one (last_code pairs p))) (letters_kern h e r d refl)

      -- the pair that stops it is the one that is looked up next
      pub letters_stop : {p q : ℕ} {r : LettersGiven} → p ≡ place l y → r ≡ letters_end s l o i m q →
          (is_quick ops boundary word options r.state ≡ true) × (p ≡ place (plain_left r.state) (next_letter word r.state))
      letters_stop h e =
          let w = letters_state e in
          (ap (is_quick ops boundary word options) w ∙ is_quick_lem, sym (found h) ∙ ap (λ (x : State). place (plain_left x) (next_letter word x)) (sym w))

  -- one letter that stands, after letters so far and letters that stand
  stands_after : (l o i m n : ℕ) {d : List ℤ} → LettersSoFar l o (i + n) (m + n) d → s.read + i + n < length word → get_or word (s.read + i + n) 0 ≤ 255 →
      place l (get_or word (s.read + i + n) 0) ≡ pair_count pairs → k + m + n < length d / 6 →
      LettersSoFar (suc (get_or word (s.read + i + n) 0)) o (i + suc n) (m + suc n) (sets d (6 * (k + m + n)) (letter_item (l - 1) (s.given + i + n)))
  stands_after l o i m n {d} w t f e r =
      let y = get_or word (s.read + i + n) 0 in
      let at : s.read + i + n ≡ s.read + (i + n) = omega arith in
      let to : 6 * (k + m + n) ≡ 6 * (k + (m + n)) = omega arith in
      let start : s.given + i + n ≡ s.given + (i + n) = omega arith in
      let a : i + n + 1 ≡ i + suc n = omega arith in
      let b : m + n + 1 ≡ m + suc n = omega arith in
      let d' = sets d (6 * (k + m + n)) (letter_item (l - 1) (s.given + i + n)) in
      subst (λ (x : ℕ). LettersSoFar (suc y) o x (m + suc n) d') a
      (subst (λ (x : ℕ). LettersSoFar (suc y) o (i + n + 1) x d') b
      (letters_stand w (omega (arith, t)) (ap (λ (j : ℕ). get_or word j 0) at) f (sym e) refl (l - 1) (omega (arith, w.left)) (omega (arith, r)) d'
      (λ j. sets d (to j) (letter_item (l - 1) (start j)))))

  -- letters that stand, after letters so far
  pub letters_plain : {l o i m : ℕ} {items : List ℤ} → LettersSoFar l o i m items → {l' n : ℕ} {items' : List ℤ} →
      Stand place (pair_count pairs) word (s.read + i) (s.given + i) l items (k + m) l' n items' → LettersSoFar l' o (i + n) (m + n) items'
  letters_plain {l} {o} {i} {m} {items} g none_stand =
      let a : i ≡ i + 0 = omega arith in
      let b : m ≡ m + 0 = omega arith in
      subst (λ (x : ℕ). LettersSoFar l o x (m + 0) items) a (subst (λ (x : ℕ). LettersSoFar l o i x items) b g)
  letters_plain {o = o} {i = i} {m = m} g (one_stands {l} {n} h t f e r) = stands_after l o i m n (letters_plain g h) t f e r

-- nothing is written where nothing is given
pub stopped_same : {pairs ops : List ℤ} {place start : ℕ} {items : List ℤ} {at o n : ℕ} {items' : List ℤ} →
    GivesPair pairs ops place start items at o n items' → o ≡ 0 → items' ≡ items
stopped_same stops e = refl
stopped_same (kerns h r) e = absurd (omega (arith, e))

-- the list stays as long
pub given_length : {pairs ops : List ℤ} {place start : ℕ} {items : List ℤ} {at o n : ℕ} {items' : List ℤ} →
    GivesPair pairs ops place start items at o n items' → length items' ≡ length items
given_length stops = refl
given_length {pairs = pairs} {ops = ops} {place = place} {start = start} {items = items} {at = at} (kerns h r) =
    length-sets (sets items at (letter_item (word_of (op_value ops (first_op pairs place))) start)) (at + 6) (kern_six (op_value ops (suc (first_op pairs place))))
    ∙ length-sets items at (letter_item (word_of (op_value ops (first_op pairs place))) start)
