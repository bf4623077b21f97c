-- Fields read one after the other and stored; and the line feed after them.
-- Assumes nothing.
use mathlib.Core.Path.{◌≡◌, refl, sym, ap, ◌∙◌}
use mathlib.Core.Bool.{Bool, true, false, cond}
use mathlib.Core.List.{List, [], ◌∷◌, ◌++◌, map, map-append}
use mathlib.Core.Option.{Option, none, some, some-injective}
use Prim.Native.Nat.{ℕ, zero, suc, ◌+◌, ◌-◌, ◌*◌, ◌/◌, ◌<◌, ◌≤◌}
use native.Mathlib.Numerals.{add-one}
use native.Mathlib.Omega.{arith}
use lib.IntN.{ℤ, pos, negsuc}
use lib.Dec.{leb, ltb, eqb}
use lib.ListN.{length, get_or, take, drop, set, length-drop, length-map}
use lib.Seq.{sets, drop-drop, get_or-drop}
use mir.Syntax.{w32}
use mir.Val.{SFits}
use borrow.Author.Tests.{lt-ltb, le-ltb, le-leb, lt-leb, leb-true, leb-false, ltb-true}
use Rattle.words.specs.Words.{word_of, number_of}
use Rattle.words.proofs.Bits.{number_word}
use Rattle.words.proofs.Lists.{sets_append}
use Rattle.lang.specs.Answers.{Reply, reply_of}
use Rattle.lang.proofs.Every.{both_left}
use Rattle.columns.specs.Numbers.{unsigned, with_sign, without_sign, read_field}
use Rattle.columns.specs.Lines.{read_fields}
use Rattle.columns.specs.Scanned.{number_reply, field_at}
use Rattle.columns.proofs.Options.{none_some, cond_some, and_some}
use Rattle.text_line_numbers.specs.LineNumbers.{line_ends, numbers_on, numbers_in, numbers_at, words_of}
use Rattle.text_line_numbers.specs.LineNumbers.{leading_fields, leading_in, leading_at, Stores}

-- ---- as many numbers as fields

pub fields_count : (n : ℕ) (bs : List ℕ) (zs : List ℤ) → read_fields n bs ≡ some zs → length zs ≡ n
unfolding read_fields
fields_count zero bs zs e = ap length (sym (some-injective [] zs e))
fields_count (suc n) bs zs e =
    let g = and_some (read_field (take 12 bs)) (read_fields n (drop 12 bs)) zs e in
    ap length (sym g.all) ∙ ap suc (fields_count n (drop 12 bs) g.others g.are_others)

-- ---- where a line ends

-- past the text, or before its end
pub ends_past : (text : List ℕ) (at n : ℕ) → length text ≤ at → line_ends n (drop at text) ≡ false
ends_past text at n h = rw (le-ltb (12 * n) (length (drop at text)) (simp length-drop (omega arith)))

pub ends_before : (text : List ℕ) (at n : ℕ) → at < length text → (length text - at - 1) / 12 < n → line_ends n (drop at text) ≡ false
ends_before text at n i h = rw (le-ltb (12 * n) (length (drop at text)) (simp length-drop (omega arith)))

pub ends_by : (text : List ℕ) (at n : ℕ) → at < length text → n ≤ (length text - at - 1) / 12 → line_ends n (drop at text) ≡ eqb (get_or text (at + 12 * n) 0) 10
ends_by text at n i h = rw (lt-ltb (12 * n) (length (drop at text)) (simp length-drop (omega arith)), get_or-drop at text (12 * n) 0)

-- there it is inside
pub ends_inside : (text : List ℕ) (at n : ℕ) → line_ends n (drop at text) ≡ true → at + 12 * n < length text
ends_inside text at n e =
    let l = ltb-true (12 * n) (length (drop at text)) (both_left (ltb (12 * n) (length (drop at text))) (eqb (get_or (drop at text) (12 * n) 0) 10) e) in
    omega (arith, l, length-drop at text)

-- ---- a field

pub number_some : (o : Option ℤ) (z : ℤ) → number_reply o ≡ reply_of 0 (z ∷ []) → o ≡ some z
number_some none z e = absurd (let k : ◌≡◌ {A = ℕ} 16 0 = ap (λ (r : Reply). r.number) e in omega arith)
number_some (some y) z e = let k : ◌≡◌ {A = List ℤ} (y ∷ []) (z ∷ []) = ap (λ (r : Reply). r.values) e in cc

pub number_none : (o : Option ℤ) → number_reply o ≡ reply_of 16 [] → o ≡ none
number_none none e = refl
number_none (some y) e = absurd (let k : ◌≡◌ {A = ℕ} 0 16 = ap (λ (r : Reply). r.number) e in omega arith)

-- the field that is the j-th from a place on
pub field_some : (text : List ℕ) (at j : ℕ) (z : ℤ) → field_at text (at + 12 * j) ≡ reply_of 0 (z ∷ []) →
    read_field (take 12 (drop (12 * j) (drop at text))) ≡ some z
field_some text at j z e = rw (drop-drop (12 * j) at text) (number_some (read_field (take 12 (drop (at + 12 * j) text))) z e)

pub field_none : (text : List ℕ) (at j : ℕ) → field_at text (at + 12 * j) ≡ reply_of 16 [] → read_field (take 12 (drop (12 * j) (drop at text))) ≡ none
field_none text at j e = rw (drop-drop (12 * j) at text) (number_none (read_field (take 12 (drop (at + 12 * j) text))) e)

-- what is read is an i32
with_fits : (r : Option ℕ) (z : ℤ) → with_sign r ≡ some z → SFits w32 z
with_fits none z e = absurd (none_some e)
with_fits (some zero) z e = absurd (none_some e)
with_fits (some (suc n)) z e =
    let c = cond_some (leb n 2147483647) (some (negsuc n)) z e in
    let q : negsuc n ≡ z = some-injective (negsuc n) z c.1 in
    rw (← q) (record { sfits = omega (arith, leb-true n 2147483647 c.0) })

without_fits : (r : Option ℕ) (z : ℤ) → without_sign r ≡ some z → SFits w32 z
without_fits none z e = absurd (none_some e)
without_fits (some n) z e =
    let c = cond_some (leb n 2147483647) (some (pos n)) z e in
    let q : pos n ≡ z = some-injective (pos n) z c.1 in
    rw (← q) (record { sfits = omega (arith, leb-true n 2147483647 c.0) })

pub field_fits : (bs : List ℕ) (z : ℤ) → read_field bs ≡ some z → SFits w32 z
unfolding read_field
field_fits [] z e = absurd (none_some e)
field_fits (b ∷ bs) z e = by (eqb b 32) (eqb b 45) e (field_fits bs z)
  where
    by : (s t : Bool) → cond s (read_field bs) (cond t (with_sign (unsigned bs)) (without_sign (unsigned (b ∷ bs)))) ≡ some z →
        (read_field bs ≡ some z → SFits w32 z) → SFits w32 z
    by true t e k = k e
    by false true e k = with_fits (unsigned bs) z e
    by false false e k = without_fits (unsigned (b ∷ bs)) z e

-- ---- a line's numbers, where there is room for them

pub at_past : (long place n : ℕ) (bs : List ℕ) → long < place + n → numbers_at long place n bs ≡ none
at_past long place n bs h = rw (lt-leb (place + n) long h)

pub at_room : (long place n : ℕ) (bs : List ℕ) → place ≤ long → numbers_at long place n bs ≡ numbers_in (long - place) n bs
at_room long place n bs h = ap (λ (b : Bool). cond b (numbers_on n bs) none) (by (leb n (long - place)) refl)
  where
    by : (b : Bool) → leb n (long - place) ≡ b → leb (place + n) long ≡ b
    by true e = le-leb (place + n) long (omega (arith, h, leb-true n (long - place) e))
    by false e = lt-leb (place + n) long (omega (arith, h, leb-false n (long - place) e))

pub in_short : (room n : ℕ) (bs : List ℕ) → room < n → numbers_in room n bs ≡ none
in_short room n bs h = rw (lt-leb n room h)

pub in_unended : (room n : ℕ) (bs : List ℕ) → line_ends n bs ≡ false → numbers_in room n bs ≡ none
in_unended room n bs e = rw e (by (leb n room))
  where
    by : (t : Bool) → cond {A = Option (List ℤ)} t none none ≡ none
    by true = refl
    by false = refl

pub in_is : (room n : ℕ) (bs : List ℕ) → n ≤ room → line_ends n bs ≡ true → numbers_in room n bs ≡ read_fields n bs
in_is room n bs h e = rw (le-leb n room h, e)

pub in_some : (room n : ℕ) (bs : List ℕ) (zs : List ℤ) → numbers_in room n bs ≡ some zs → (n ≤ room) × (read_fields n bs ≡ some zs)
in_some room n bs zs e =
    let c = cond_some (leb n room) (numbers_on n bs) zs e in
    (leb-true n room c.0, (cond_some (line_ends n bs) (read_fields n bs) zs c.1).1)

-- ---- fields one after the other

-- one more at the end
fields_more : (j : ℕ) (bs : List ℕ) (zs : List ℤ) (z : ℤ) → read_fields j bs ≡ some zs → read_field (take 12 (drop (12 * j) bs)) ≡ some z →
    read_fields (suc j) bs ≡ some (zs ++ (z ∷ []))
unfolding read_fields
fields_more zero bs zs z e f = let q : [] ≡ zs = some-injective [] zs e in rw (f, ← q)
fields_more (suc j) bs zs z e f =
    let g = and_some (read_field (take 12 bs)) (read_fields j (drop 12 bs)) zs e in
    let k : 12 * suc j ≡ 12 + 12 * j = omega arith in
    let h : read_field (take 12 (drop (12 * j) (drop 12 bs))) ≡ some z = rw (drop-drop (12 * j) 12 bs, ← k) f in
    rw (g.is_first, fields_more j (drop 12 bs) g.others z g.are_others h) (ap (λ (ys : List ℤ). some (ys ++ (z ∷ []))) g.all)

-- one that is unreadable
fields_stop : (j n : ℕ) (bs : List ℕ) (zs : List ℤ) → read_fields j bs ≡ some zs → read_field (take 12 (drop (12 * j) bs)) ≡ none → j < n → read_fields n bs ≡ none
unfolding read_fields
fields_stop zero zero bs zs e f h = absurd (omega arith)
fields_stop zero (suc n) bs zs e f h = rw f
fields_stop (suc j) zero bs zs e f h = absurd (omega arith)
fields_stop (suc j) (suc n) bs zs e f h =
    let g = and_some (read_field (take 12 bs)) (read_fields j (drop 12 bs)) zs e in
    let k : 12 * suc j ≡ 12 + 12 * j = omega arith in
    let l : read_field (take 12 (drop (12 * j) (drop 12 bs))) ≡ none = rw (drop-drop (12 * j) 12 bs, ← k) f in
    rw (g.is_first, fields_stop j n (drop 12 bs) g.others g.are_others l (omega arith))

-- ---- the fields before one that is unreadable

leading_stop : (j n : ℕ) (bs : List ℕ) (zs : List ℤ) → read_fields j bs ≡ some zs → read_field (take 12 (drop (12 * j) bs)) ≡ none → j < n →
    leading_fields n bs ≡ zs
unfolding read_fields leading_fields
leading_stop zero zero bs zs e f h = absurd (omega arith)
leading_stop zero (suc n) bs zs e f h = let q : [] ≡ zs = some-injective [] zs e in rw (f, ← q)
leading_stop (suc j) zero bs zs e f h = absurd (omega arith)
leading_stop (suc j) (suc n) bs zs e f h =
    let g = and_some (read_field (take 12 bs)) (read_fields j (drop 12 bs)) zs e in
    let k : 12 * suc j ≡ 12 + 12 * j = omega arith in
    let l : read_field (take 12 (drop (12 * j) (drop 12 bs))) ≡ none = rw (drop-drop (12 * j) 12 bs, ← k) f in
    rw (g.is_first, leading_stop j n (drop 12 bs) g.others g.are_others l (omega arith)) g.all

-- all of them, where every field is readable
pub leading_all : (n : ℕ) (bs : List ℕ) (zs : List ℤ) → read_fields n bs ≡ some zs → leading_fields n bs ≡ zs
unfolding read_fields leading_fields
leading_all zero bs zs e = some-injective [] zs e
leading_all (suc n) bs zs e =
    let g = and_some (read_field (take 12 bs)) (read_fields n (drop 12 bs)) zs e in
    rw (g.is_first, leading_all n (drop 12 bs) g.others g.are_others) g.all

-- what is stored of a line that is taken is what was read
pub leading_at_lem : (long place n : ℕ) (bs : List ℕ) (zs : List ℤ) → numbers_at long place n bs ≡ some zs → leading_at long place n bs ≡ zs
leading_at_lem long place n bs zs e =
    let c = cond_some (leb (place + n) long) (numbers_on n bs) zs e in
    let d = cond_some (line_ends n bs) (read_fields n bs) zs c.1 in
    rw (c.0, d.0) (leading_all n bs zs d.1)

pub leading_in_lem : (room n : ℕ) (bs : List ℕ) (zs : List ℤ) → numbers_in room n bs ≡ some zs → leading_in room n bs ≡ zs
leading_in_lem room n bs zs e =
    let c = cond_some (leb n room) (numbers_on n bs) zs e in
    let d = cond_some (line_ends n bs) (read_fields n bs) zs c.1 in
    rw (c.0, d.0) (leading_all n bs zs d.1)

-- .. and so of its words
pub leading_words : (room n : ℕ) (bs ws : List ℕ) → words_of (numbers_in room n bs) ≡ some ws → map word_of (leading_in room n bs) ≡ ws
leading_words room n bs ws e = go (numbers_in room n bs) refl e
  where
    go : (o : Option (List ℤ)) → numbers_in room n bs ≡ o → words_of o ≡ some ws → map word_of (leading_in room n bs) ≡ ws
    go none i j = absurd (none_some j)
    go (some zs) i j = ap (map word_of) (leading_in_lem room n bs zs i) ∙ some-injective (map word_of zs) ws j

-- nothing is stored of a line without room, or of one that does not end there
pub leading_past : (long place n : ℕ) (bs : List ℕ) → long < place + n → leading_at long place n bs ≡ []
leading_past long place n bs h = rw (lt-leb (place + n) long h)

pub leading_short : (room n : ℕ) (bs : List ℕ) → room < n → leading_in room n bs ≡ []
leading_short room n bs h = rw (lt-leb n room h)

unended_by : (t : Bool) → cond {A = List ℤ} t [] [] ≡ []
unended_by true = refl
unended_by false = refl

pub leading_unended : (room n : ℕ) (bs : List ℕ) → line_ends n bs ≡ false → leading_in room n bs ≡ []
leading_unended room n bs e = rw e (unended_by (leb n room))

pub leading_unended_at : (long place n : ℕ) (bs : List ℕ) → line_ends n bs ≡ false → leading_at long place n bs ≡ []
leading_unended_at long place n bs e = rw e (unended_by (leb (place + n) long))

pub leading_is : (room n : ℕ) (bs : List ℕ) → n ≤ room → line_ends n bs ≡ true → leading_in room n bs ≡ leading_fields n bs
leading_is room n bs h e = rw (le-leb n room h, e)

pub leading_is_at : (long place n : ℕ) (bs : List ℕ) → place + n ≤ long → line_ends n bs ≡ true → leading_at long place n bs ≡ leading_fields n bs
leading_is_at long place n bs h e = rw (le-leb (place + n) long h, e)

-- ---- stored

-- the first j fields are read, and what f makes of their numbers is stored from a place on
pub record Storing {A : Type 0} (f : List ℤ → List A) (bs : List ℕ) (list₀ list : List A) (place j : ℕ) : Type 0 where
  pub numbers : List ℤ
  pub reads : read_fields j bs ≡ some numbers
  pub stored : list ≡ sets list₀ place (f numbers)

-- nothing was read, and nothing stored
pub stores_nothing : {A : Type 0} (o : Option (List A)) (vs list : List A) (place : ℕ) → o ≡ none → vs ≡ [] → Stores o vs list place false list
stores_nothing o vs list place e i = record { answer = rw e; stored = rw i }

module _ {A : Type 0} (f : List ℤ → List A) (g : ℤ → A) (one : (zs : List ℤ) (z : ℤ) → f (zs ++ (z ∷ [])) ≡ f zs ++ (g z ∷ []))
    (same : (zs : List ℤ) → length (f zs) ≡ length zs) (bs : List ℕ) (list₀ : List A) (place : ℕ) where
  storing_none : f [] ≡ [] → Storing f bs list₀ list₀ place 0
  unfolding read_fields
  storing_none e = record { numbers = []; reads = refl; stored = rw e }

  storing_more : {list : List A} {j : ℕ} (z : ℤ) → Storing f bs list₀ list place j → read_field (take 12 (drop (12 * j) bs)) ≡ some z →
      Storing f bs list₀ (set list (place + j) (g z)) place (j + 1)
  storing_more {list} {j} z s e =
      let l : length (f s.numbers) ≡ j = same s.numbers ∙ fields_count j bs s.numbers s.reads in
      record {
        numbers = s.numbers ++ (z ∷ []);
        reads = rw add-one (fields_more j bs s.numbers z s.reads e);
        stored =
            rw (s.stored, one s.numbers z, sets_append (f s.numbers) (g z ∷ []) list₀ place, l);
      }

-- as they are; and as words
abbrev pub plain : List ℤ → List ℤ
plain zs = zs

abbrev pub worded : List ℤ → List ℕ
worded zs = map word_of zs

module _ (bs : List ℕ) (list₀ : List ℤ) (place : ℕ) where
  pub numbers_none : Storing plain bs list₀ list₀ place 0
  numbers_none = storing_none plain (λ z. z) (λ zs z. refl) (λ zs. refl) bs list₀ place refl

  pub numbers_more : {list : List ℤ} {j : ℕ} (z : ℤ) → Storing plain bs list₀ list place j → read_field (take 12 (drop (12 * j) bs)) ≡ some z →
      Storing plain bs list₀ (set list (place + j) (number_of (word_of z))) place (j + 1)
  numbers_more {list} {j} z s e =
      rw (number_word z (field_fits (take 12 (drop (12 * j) bs)) z e))
      (storing_more plain (λ z. z) (λ zs z. refl) (λ zs. refl) bs list₀ place z s e)

  pub numbers_stop : {list : List ℤ} {j : ℕ} (n : ℕ) → Storing plain bs list₀ list place j → read_field (take 12 (drop (12 * j) bs)) ≡ none → j < n →
      Stores (read_fields n bs) (leading_fields n bs) list₀ place false list
  numbers_stop {list} {j} n s e h =
      record { answer = rw (fields_stop j n bs s.numbers s.reads e h); stored = rw (leading_stop j n bs s.numbers s.reads e h) s.stored }

  pub numbers_all : {list : List ℤ} {j : ℕ} (n : ℕ) → Storing plain bs list₀ list place j → j ≡ n →
      Stores (read_fields n bs) (leading_fields n bs) list₀ place true list
  numbers_all {list} {j} n s e =
      let r : read_fields n bs ≡ some s.numbers = rw (← e) s.reads in
      record { answer = rw r; stored = rw (leading_all n bs s.numbers r) s.stored }

module _ (bs : List ℕ) (word₀ : List ℕ) where
  abbrev last : (zs : List ℤ) (z : ℤ) → worded (zs ++ (z ∷ [])) ≡ worded zs ++ (word_of z ∷ [])
  last zs z = map-append word_of zs (z ∷ [])

  abbrev same : (zs : List ℤ) → length (worded zs) ≡ length zs
  same zs = length-map zs word_of

  pub letters_none : Storing worded bs word₀ word₀ 0 0
  letters_none = storing_none worded word_of last same bs word₀ 0 refl

  pub letters_more : {word : List ℕ} {j : ℕ} (z : ℤ) (w : ℕ) → Storing worded bs word₀ word 0 j → read_field (take 12 (drop (12 * j) bs)) ≡ some z →
      w ≡ word_of (number_of (word_of z)) → Storing worded bs word₀ (set word j w) 0 (j + 1)
  letters_more {word} {j} z w s e i =
      let k : 0 + j ≡ j = omega arith in
      rw (i, number_word z (field_fits (take 12 (drop (12 * j) bs)) z e)) (rw k at (storing_more worded word_of last same bs word₀ 0 z s e))

  pub letters_stop : {word : List ℕ} {j : ℕ} (n : ℕ) → Storing worded bs word₀ word 0 j → read_field (take 12 (drop (12 * j) bs)) ≡ none → j < n →
      Stores (words_of (read_fields n bs)) (worded (leading_fields n bs)) word₀ 0 false word
  letters_stop {word} {j} n s e h =
      record { answer = rw (fields_stop j n bs s.numbers s.reads e h); stored = rw (leading_stop j n bs s.numbers s.reads e h) s.stored }

  pub letters_all : {word : List ℕ} {j : ℕ} (n : ℕ) → Storing worded bs word₀ word 0 j → j ≡ n →
      Stores (words_of (read_fields n bs)) (worded (leading_fields n bs)) word₀ 0 true word
  letters_all {word} {j} n s e =
      let r : read_fields n bs ≡ some s.numbers = rw (← e) s.reads in
      record { answer = rw r; stored = rw (leading_all n bs s.numbers r) s.stored }
