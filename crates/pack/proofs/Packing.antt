-- Laws of packing: refusals in their order, the numbers of the packed instructions and entries, and the answer.
-- Assumes nothing.
use mathlib.Core.Path.{◌≡◌, refl, sym, ap, ◌∙◌}
use mathlib.Core.Bool.{Bool, true, false, cond}
use mathlib.Core.List.{List, [], ◌∷◌, ◌++◌}
use Prim.Native.Nat.{ℕ, zero, suc, ◌+◌, ◌*◌, ◌-◌, ◌/◌, ◌%◌, ◌<◌, ◌≤◌}
use native.Mathlib.Nat.{zero-add}
use native.Mathlib.Omega.{arith}
use lib.IntN.{ℤ, pos, negsuc}
use lib.Dec.{leb, ltb, eqb}
use lib.ListN.{length, get_or, replicate, length-append, length-replicate, get_or-append}
use lib.Seq.{get_or-append-add, ext_get_or}
use lib.Signed.{non_neg}
use mir.Syntax.{w32}
use mir.Val.{SFits}
use borrow.Author.Tests.{lt-ltb, le-ltb, le-leb, lt-leb, eq-eqb, ne_eqb, ltb-true, ltb-false, leb-true}
use Rattle.words.specs.Words.{word_of, number_of}
use Rattle.words.specs.Lists.{tabulate, Filling, Appending}
use Rattle.words.proofs.Bits.{number_pos, number_neg, number_word}
use Rattle.words.proofs.Lists.{length_tabulate, get_d_tabulate, appending_rest}
use Rattle.lang.specs.Checks.{program_refusal, entries_refusal, absent_refusal, or_else}
use Rattle.pack.specs.declared.Packed.{Packed}
use Rattle.pack.specs.declared.Packed.TheVariants.{Sizes, Refused}
use Rattle.lang.specs.Answers.{Reply, reply_of, room_refusal}
use Rattle.lang.proofs.Refusals.{first_refusal, second_is, or_else_none, unless_none, room_fits, refused_reply}
use Rattle.lang.proofs.Filled.{refused_list}
use Rattle.pack_labels.specs.Labels.{labels_of, redirects_of, offset_by, largest}
use Rattle.pack_labels.proofs.Redirects.{Under, labels_under, largest_le, redirects_le}
use Rattle.pack.specs.Packing.{Packable, packable, redirects_to, redirect, present_or, left_or, front, back, font_redirects, font_offset, packable_refusal}
use Rattle.pack.specs.Packing.{redirect_refusal, fits_shifted, shift_refusal, packing_refusal, packed_instructions, packed_entry, entry_number, packed_entries}
use Rattle.pack.specs.Packing.{packed_sizes, packed_reply, place_among, Packs}
use Rattle.lang.proofs.Entered.{entry_le}
use Rattle.pack.proofs.Places.{present_test, present_is}

-- ---- refusals in their order

-- the refusals of a font that is taken so far, from the numbers that decide them
abbrev pub refusal_by : ℕ → ℕ → ℕ → ℕ → ℕ → ℕ → ℕ → ℕ → ℕ
refusal_by redirects offset big left size room n entryRoom =
    or_else (redirect_refusal redirects)
    (or_else (shift_refusal big left offset)
    (or_else (room_refusal size room) (room_refusal n entryRoom)))

-- 11: by the two tests
module _ (big left o : ℕ) where
  pub shift_first : 65535 < big + o → 11 ≡ shift_refusal big left o
  shift_first h = rw (lt-leb (big + o) 65535 h)

  pub shift_left : big + o ≤ 65535 → 65535 < left + o → 11 ≡ shift_refusal big left o
  shift_left g h = rw (le-leb (big + o) 65535 g, lt-leb (left + o) 65535 h)

  pub shift_none : big + o ≤ 65535 → left + o ≤ 65535 → 0 ≡ shift_refusal big left o
  shift_none g h = rw (le-leb (big + o) 65535 g, le-leb (left + o) 65535 h)

-- 10 is asked first, and 15 last
pub redirects_many : {k : ℕ} (n : ℕ) → 255 < k → 10 ≡ or_else (redirect_refusal k) n
redirects_many {k} n h = rw (lt-leb k 255 h)

pub redirects_few : {k n r : ℕ} → k ≤ 255 → r ≡ n → r ≡ or_else (redirect_refusal k) n
redirects_few {k} h e = rw (le-leb k 255 h) e

module _ (size room n entryRoom : ℕ) where
  pub room_first : room < size → 15 ≡ or_else (room_refusal size room) (room_refusal n entryRoom)
  room_first h = rw (lt-leb size room h)

  pub room_entries : size ≤ room → entryRoom < n → 15 ≡ or_else (room_refusal size room) (room_refusal n entryRoom)
  room_entries g h = rw (le-leb size room g, lt-leb n entryRoom h)

  pub room_none : size ≤ room → n ≤ entryRoom → 0 ≡ or_else (room_refusal size room) (room_refusal n entryRoom)
  room_none g h = rw (le-leb size room g, le-leb n entryRoom h)

-- what a font is that can be packed
pub record Taken (f : Packable) (room entryRoom : ℕ) : Type 0 where
  pub entered : entries_refusal 65535 f.entries ≡ 0
  pub few : font_redirects f ≤ 255
  pub shifts : largest (labels_of f.entries) + font_offset f ≤ 65535
  pub shifts_left : left_or f.left + font_offset f ≤ 65535
  pub size : length (packed_instructions f) ≤ room
  pub entry_size : length f.entries ≤ entryRoom

shift_zero : (a b : Bool) → ◌≡◌ {A = ℕ} (cond a (cond b 0 11) 11) 0 → (a ≡ true) × (b ≡ true)
shift_zero true b e = (refl, unless_none 10 b e)
shift_zero false b e = absurd (omega arith)

module _ (k o big left size room n entryRoom : ℕ) (e : refusal_by k o big left size room n entryRoom ≡ 0) where
  parts : (k ≤ 255) × (big + o ≤ 65535) × (left + o ≤ 65535) × (size ≤ room) × (n ≤ entryRoom)
  parts =
      let b = or_else_none (redirect_refusal k) (or_else (shift_refusal big left o) (or_else (room_refusal size room) (room_refusal n entryRoom))) e in
      let c = or_else_none (shift_refusal big left o) (or_else (room_refusal size room) (room_refusal n entryRoom)) b.1 in
      let d = or_else_none (room_refusal size room) (room_refusal n entryRoom) c.1 in
      let g = shift_zero (fits_shifted big o) (fits_shifted left o) c.0 in (
        leb-true k 255 (unless_none 9 (leb k 255) b.0),
        leb-true (big + o) 65535 g.0,
        leb-true (left + o) 65535 g.1,
        room_fits size room d.0,
        room_fits n entryRoom d.1,
      )

second : (a b c : ℕ) → or_else a (or_else b c) ≡ 0 → b ≡ 0
second a b c e = (or_else_none b c (or_else_none a (or_else b c) e).1).0

-- a font that is taken has entries that are taken
pub font_entered : (f : Packable) → packable_refusal f ≡ 0 → entries_refusal 65535 f.entries ≡ 0
font_entered f e =
    second (program_refusal f.instructions) (entries_refusal 65535 f.entries) (or_else (absent_refusal 255 f.boundary) (absent_refusal 65535 f.left)) e

-- what is refused of f once it is taken so far
abbrev pub later_refusal : Packable → ℕ → ℕ → ℕ
later_refusal f room entryRoom =
    refusal_by (font_redirects f) (font_offset f) (largest (labels_of f.entries)) (left_or f.left) (length (packed_instructions f)) room (length f.entries)
    entryRoom

pub taken : (f : Packable) (room entryRoom : ℕ) → packing_refusal f room entryRoom ≡ 0 → Taken f room entryRoom
taken f room entryRoom e =
    let a = or_else_none (packable_refusal f) (later_refusal f room entryRoom) e in
    let t = parts (font_redirects f) (font_offset f) (largest (labels_of f.entries)) (left_or f.left) (length (packed_instructions f)) room
    (length f.entries) entryRoom a.1 in
    record {
      entered = font_entered f a.0;
      few = t.0;
      shifts = t.1;
      shifts_left = t.2;
      size = t.3;
      entry_size = t.4;
    }

-- ---- the numbers of the packed instructions

module _ (right : ℤ) (o : ℕ) where
  length_redirects : (k : ℕ) (ls : List ℕ) → k ≤ length ls → length (redirects_to right o k ls) ≡ 4 * k
  unfolding redirects_to
  length_redirects zero ls h = refl
  length_redirects (suc k) [] h = absurd (omega arith)
  length_redirects (suc k) (l ∷ ls) h = rw (length_redirects k ls (omega arith)) (omega arith)

  -- number m of redirect i
  redirects_at_lem : (k : ℕ) (ls : List ℕ) (i m : ℕ) → i < k → k ≤ length ls → m < 4 →
      get_or (redirects_to right o k ls) (4 * i + m) (pos 0) ≡ get_or (redirect right (get_or ls i 0 + o) 1) m (pos 0)
  unfolding redirects_to
  redirects_at_lem zero ls i m h g l = absurd (omega arith)
  redirects_at_lem (suc k) [] i m h g l = absurd (omega arith)
  redirects_at_lem (suc k) (x ∷ ls) zero m h g l =
      ap (λ (j : ℕ). get_or (redirect right (x + o) 1 ++ redirects_to right o k ls) j (pos 0)) (zero-add m)
      ∙ get_or-append (redirect right (x + o) 1) (redirects_to right o k ls) (pos 0) m l
  redirects_at_lem (suc k) (x ∷ ls) (suc i) m h g l =
      let e : 4 * suc i + m ≡ suc (suc (suc (suc (4 * i + m)))) = omega arith in
      rw e (redirects_at_lem k ls i m (omega arith) (omega arith) l)

-- the target of the instruction in front at i
abbrev pub target_of : ℕ → ℕ → List ℕ → ℕ → ℕ
target_of k o ls i = cond (eqb k 0) 0 (get_or ls i 0 + o)

length_front : (z : ℤ) (k o : ℕ) (ls : List ℕ) → o ≡ offset_by (non_neg z) k → k ≤ length ls → length (front z k o ls) ≡ 4 * o
length_front (pos b) zero o ls e h = rw e
length_front (negsuc b) zero o ls e h = rw e
length_front z (suc k) o ls e h = length_redirects (present_or z) o (suc k) ls h ∙ rw e

front_at : (z : ℤ) (k o : ℕ) (ls : List ℕ) (j : ℕ) → o ≡ offset_by (non_neg z) k → k ≤ length ls → j < 4 * o →
    get_or (front z k o ls) j (pos 0) ≡ get_or (redirect (present_or z) (target_of k o ls (j / 4)) 1) (j % 4) (pos 0)
front_at (pos b) zero o ls j e h l =
    let m : j % 4 ≡ j = omega arith in
    rw m
front_at (negsuc b) zero o ls j e h l = absurd (omega arith)
front_at z (suc k) o ls j e h l =
    let m : 4 * (j / 4) + j % 4 ≡ j = omega arith in
    rw (ne_eqb (suc k) 0 (λ g. omega arith))
    (ap (λ (t : ℕ). get_or (redirects_to (present_or z) o (suc k) ls) t (pos 0)) (sym m)
    ∙ redirects_at_lem (present_or z) o (suc k) ls (j / 4) (j % 4) (omega arith) h (omega arith))

-- ---- where number j stands: in front, among the old ones, at the end

module _ {A : Type 0} (xs ys zs : List A) (d : A) where
  pub get_d_first : (j : ℕ) → j < length xs → get_or (xs ++ ys ++ zs) j d ≡ get_or xs j d
  get_d_first j h =
      get_or-append (xs ++ ys) zs d j (rw length-append (omega arith)) ∙ get_or-append xs ys d j h

  pub get_d_second : (j : ℕ) → j < length ys → get_or (xs ++ ys ++ zs) (length xs + j) d ≡ get_or ys j d
  get_d_second j h =
      get_or-append (xs ++ ys) zs d (length xs + j) (rw length-append (omega arith)) ∙ get_or-append-add xs ys j d

  pub get_d_third : (j : ℕ) → get_or (xs ++ ys ++ zs) (length xs + length ys + j) d ≡ get_or zs j d
  get_d_third j = ap (λ (n : ℕ). get_or (xs ++ ys ++ zs) (n + j) d) (sym (length-append xs ys)) ∙ get_or-append-add (xs ++ ys) zs j d

length_three {ℓ} : {A : Type ℓ} (xs ys zs : List A) → length (xs ++ ys ++ zs) ≡ length xs + length ys + length zs
length_three xs ys zs = simp length-append

-- ---- the words of a redirect

-- a character or a number that may be absent, as the word that is stored
present_word : (w : ℕ) → left_or (number_of w) < 2147483648 → number_of (left_or (number_of w)) ≡ present_or (number_of w)
present_word w h = number_pos (left_or (number_of w)) h ∙ sym (present-or (number_of w))
  where
    present-or : (z : ℤ) → present_or z ≡ pos (left_or z)
    present-or (pos b) = refl
    present-or (negsuc b) = refl

left_lt : (w : ℕ) → left_or (number_of w) < 2147483648
left_lt w = go (ltb w 2147483648) refl
  where
    go : (b : Bool) → ltb w 2147483648 ≡ b → left_or (number_of w) < 2147483648
    go true e = rw (number_pos w (ltb-true w 2147483648 e)) (ltb-true w 2147483648 e)
    go false e = rw (number_neg w (ltb-false w 2147483648 e)) (omega arith)

-- ---- the end

pub back_some : (z : ℤ) (o : ℕ) → non_neg z ≡ true → back z o ≡ redirect (pos 0) (left_or z + o) 0
back_some (pos n) o e = refl
back_some (negsuc n) o e = let z : ◌≡◌ {A = ℕ} 0 1 = cc in absurd (omega arith)

pub back_none : (z : ℤ) (o : ℕ) → non_neg z ≡ false → back z o ≡ []
back_none (pos n) o e = let z : ◌≡◌ {A = ℕ} 0 1 = cc in absurd (omega arith)
back_none (negsuc n) o e = refl

-- ---- filled by its own numbers

pub tabulate_get_d {ℓ} : {A : Type ℓ} (xs : List A) (d : A) → tabulate (length xs) (λ j. get_or xs j d) ≡ xs
tabulate_get_d xs d =
    ext_get_or d (tabulate (length xs) (λ j. get_or xs j d)) xs (length_tabulate (length xs) (λ j. get_or xs j d))
    (λ i h. get_d_tabulate (length xs) (λ j. get_or xs j d) i d (rw (length_tabulate (length xs) (λ j. get_or xs j d)) at h))

pub filling_appends : {A : Type 0} (f : ℕ → A) (n : ℕ) {d₀ d : List A} → Filling f d₀ d n → Appending (tabulate n f) d₀ d
filling_appends f n v = record { within = rw (length_tabulate n f) v.within; appended = v.filled ∙ rw (length_tabulate n f) }

pub filling_is : {A : Type 0} (xs : List A) (z : A) {d₀ d : List A} → Filling (λ j. get_or xs j z) d₀ d (length xs) → Appending xs d₀ d
filling_is xs z v = rw (tabulate_get_d xs z) at (filling_appends (λ j. get_or xs j z) (length xs) v)

-- ---- what the numbers in front, the old ones and those at the end are

abbrev pub packed_at : ℤ → ℕ → ℕ → List ℕ → List ℤ → ℤ → ℕ → ℤ
packed_at z k o ls s l j = get_or (front z k o ls ++ s ++ back l o) j (pos 0)

module _ (z : ℤ) (k o : ℕ) (ls : List ℕ) (s : List ℤ) (l : ℤ) (os : o ≡ offset_by (non_neg z) k) (few : k ≤ length ls) where
  pub number_front : (j : ℕ) → j < 4 * o → get_or (redirect (present_or z) (target_of k o ls (j / 4)) 1) (j % 4) (pos 0) ≡ packed_at z k o ls s l j
  number_front j h =
      sym (front_at z k o ls j os few h) ∙ sym (get_d_first (front z k o ls) s (back l o) (pos 0) j (rw (length_front z k o ls os few) h))

  pub number_old : (j : ℕ) → 4 * o ≤ j → j - 4 * o < length s → get_or s (j - 4 * o) (pos 0) ≡ packed_at z k o ls s l j
  number_old j h g =
      let e : length (front z k o ls) + (j - 4 * o) ≡ j = rw (length_front z k o ls os few) (omega arith) in
      sym (get_d_second (front z k o ls) s (back l o) (pos 0) (j - 4 * o) g) ∙ ap (packed_at z k o ls s l) e

  pub number_back : (j : ℕ) → 4 * o ≤ j → length s ≤ j - 4 * o → get_or (back l o) (j - 4 * o - length s) (pos 0) ≡ packed_at z k o ls s l j
  number_back j h g =
      let e : length (front z k o ls) + length s + (j - 4 * o - length s) ≡ j = rw (length_front z k o ls os few) (omega arith) in
      sym (get_d_third (front z k o ls) s (back l o) (pos 0) (j - 4 * o - length s)) ∙ ap (packed_at z k o ls s l) e

  pub number_count : length (front z k o ls ++ s ++ back l o) ≡ 4 * o + length s + length (back l o)
  number_count =
      length_three (front z k o ls) s (back l o) ∙ ap (λ (n : ℕ). n + length s + length (back l o)) (length_front z k o ls os few)

-- a redirect's numbers, from the words that are stored
words_of : (x y : ℤ) (right operand m : ℕ) → number_of right ≡ x → number_of operand ≡ y →
    get_or (negsuc 0 ∷ number_of right ∷ pos 3 ∷ number_of operand ∷ []) m (pos 0) ≡ get_or (negsuc 0 ∷ x ∷ pos 3 ∷ y ∷ []) m (pos 0)
words_of x y right operand m e g = rw (e, g)

pub target_le : (k o : ℕ) (ls : List ℕ) (i : ℕ) → ((j : ℕ) → get_or ls j 0 + o ≤ 65535) → target_of k o ls i ≤ 65535
target_le k o ls i h = go (eqb k 0)
  where
    go : (b : Bool) → cond b 0 (get_or ls i 0 + o) ≤ 65535
    go true = omega arith
    go false = h i

pub front_words : (w k o : ℕ) (ls : List ℕ) (i m right target : ℕ) → right ≡ left_or (number_of w) → target ≡ target_of k o ls i → target ≤ 65535 →
    get_or (negsuc 0 ∷ number_of right ∷ pos 3 ∷ number_of (target + 65536) ∷ []) m (pos 0)
    ≡ get_or (redirect (present_or (number_of w)) (target_of k o ls i) 1) m (pos 0)
front_words w k o ls i m right target e g h =
    words_of (present_or (number_of w)) (pos (target_of k o ls i + 65536)) right (target + 65536) m
    (ap number_of e ∙ present_word w (left_lt w)) (number_pos (target + 65536) (omega arith) ∙ ap (λ (t : ℕ). pos (t + 65536)) g)

pub present_left : (w : ℕ) → non_neg (number_of w) ≡ true → left_or (number_of w) ≡ w
present_left w e = go (ltb w 2147483648) refl
  where
    go : (b : Bool) → ltb w 2147483648 ≡ b → left_or (number_of w) ≡ w
    go true t = present_is w (ltb-true w 2147483648 t)
    go false t = let z : true ≡ false = sym e ∙ sym (present_test w false t) in let y : ◌≡◌ {A = ℕ} 0 1 = cc in absurd (omega arith)

pub back_words : (w o m : ℕ) → non_neg (number_of w) ≡ true → left_or (number_of w) + o ≤ 65535 →
    get_or (negsuc 0 ∷ number_of 0 ∷ pos 3 ∷ number_of (w + o) ∷ []) m (pos 0) ≡ get_or (back (number_of w) o) m (pos 0)
back_words w o m e h =
    let g : left_or (number_of w) ≡ w = present_left w e in
    words_of (pos 0) (pos (left_or (number_of w) + o + 0)) 0 (w + o) m refl
    (number_pos (w + o) (omega arith) ∙ ap pos (let q : w + o ≡ left_or (number_of w) + o + 0 = omega arith in q))
    ∙ rw (back_some (number_of w) o e)

-- ---- packed entries

pub entry_redirected : (k o : ℕ) (ls : List ℕ) (e p : ℕ) → p ≡ place_among e ls → p < k → k ≤ 255 → number_of p ≡ pos (packed_entry k o ls e)
entry_redirected k o ls e p g h l =
    number_pos p (omega arith) ∙ ap pos g ∙ rw (lt-ltb (place_among e ls) k (let q : place_among e ls < k = omega arith in q))

pub entry_shifted : (k o : ℕ) (ls : List ℕ) (e p : ℕ) → p ≡ place_among e ls → k ≤ p → e + o < 2147483648 → number_of (e + o) ≡ pos (packed_entry k o ls e)
entry_shifted k o ls e p g h l =
    number_pos (e + o) l ∙ rw (le-ltb (place_among e ls) k (let q : k ≤ place_among e ls = omega arith in q))

-- number j of the packed entries, by what it is
module _ (es : List ℤ) (k o : ℕ) (ls : List ℕ) where
  pub entry_char : (j : ℕ) → j % 2 ≡ 0 → get_or es j (pos 0) ≡ entry_number es k o ls j
  entry_char j h = rw (eq-eqb (j % 2) 0 h)

  pub entry_entry : (j : ℕ) → (j % 2 ≡ 0 → ⊥) → pos (packed_entry k o ls (word_of (get_or es j (pos 0)))) ≡ entry_number es k o ls j
  entry_entry j h = rw (ne_eqb (j % 2) 0 h)

-- ---- the redirects and the offset of a font, from its labels

pub offset_le : (b : Bool) (k : ℕ) → offset_by b k ≤ k + 1
offset_le true zero = omega arith
offset_le false zero = omega arith
offset_le b (suc k) = omega arith

refusal_same : {k k' o o' big big' size size' : ℕ} (left room n entryRoom : ℕ) → k ≡ k' → o ≡ o' → big ≡ big' → size ≡ size' →
    refusal_by k o big left size room n entryRoom ≡ refusal_by k' o' big' left size' room n entryRoom
refusal_same left room n entryRoom a b c d = rw (a, b, c, d)

pub under : (limit : ℕ) (es : List ℤ) → entries_refusal limit es ≡ 0 → Under (suc limit) (labels_of es)
under limit es ok = labels_under es (suc limit) (length es / 2) (λ i h. omega (arith, entry_le limit es ok i h))

-- ls are the labels of f, b says whether it has a boundary character, k and o are its redirects and its offset
pub record Plan (f : Packable) (ls : List ℕ) (b : Bool) (k o : ℕ) : Type 0 where
  pub same : ls ≡ labels_of f.entries
  pub bounded : b ≡ non_neg f.boundary
  pub redirects : k ≡ redirects_of b ls
  pub offset : o ≡ offset_by b k

module _ {f : Packable} {ls : List ℕ} {b : Bool} {k o : ℕ} (p : Plan f ls b k o) where
  pub plan_redirects : k ≡ font_redirects f
  plan_redirects = p.redirects ∙ rw (p.bounded, p.same)

  pub plan_front : o ≡ offset_by (non_neg f.boundary) k
  plan_front = p.offset ∙ rw p.bounded

  pub plan_offset : o ≡ font_offset f
  plan_offset = plan_front ∙ ap (offset_by (non_neg f.boundary)) plan_redirects

  pub plan_few : k ≤ length ls
  plan_few = rw p.redirects (redirects_le b ls)

  pub plan_packed : front f.boundary k o ls ++ f.instructions ++ back f.left o ≡ packed_instructions f
  plan_packed =
      ap (λ (n : ℕ). front f.boundary n o ls ++ f.instructions ++ back f.left o) plan_redirects
      ∙ ap (λ (n : ℕ). front f.boundary (font_redirects f) n ls ++ f.instructions ++ back f.left n) plan_offset
      ∙ ap (λ (t : List ℕ). front f.boundary (font_redirects f) (font_offset f) t ++ f.instructions ++ back f.left (font_offset f)) p.same

  pub plan_size : length (packed_instructions f) ≡ 4 * o + length f.instructions + length (back f.left o)
  plan_size =
      ap length (sym plan_packed) ∙ number_count f.boundary k o ls f.instructions f.left plan_front plan_few

  pub plan_refusal : (room entryRoom size : ℕ) → packable_refusal f ≡ 0 → size ≡ 4 * o + length f.instructions + length (back f.left o) →
      refusal_by k o (largest ls) (left_or f.left) size room (length f.entries) entryRoom ≡ packing_refusal f room entryRoom
  plan_refusal room entryRoom size ok sizes =
      refusal_same (left_or f.left) room (length f.entries) entryRoom plan_redirects plan_offset (ap largest p.same) (sizes ∙ sym plan_size)
      ∙ sym (second_is (packable_refusal f) (later_refusal f room entryRoom) ok)

  pub plan_offset_lt : length ls ≤ 256 → o < 65536
  plan_offset_lt h = omega (arith, p.offset, offset_le b k, plan_few)

  pub plan_offset_le : font_redirects f ≤ 255 → o ≤ 256
  plan_offset_le h = omega (arith, p.offset, offset_le b k, plan_redirects)

  pub plan_entries : tabulate (length f.entries) (entry_number f.entries k o ls) ≡ packed_entries f
  plan_entries =
      ap (λ (n : ℕ). tabulate (length f.entries) (entry_number f.entries n o ls)) plan_redirects
      ∙ ap (λ (n : ℕ). tabulate (length f.entries) (entry_number f.entries (font_redirects f) n ls)) plan_offset
      ∙ ap (λ (t : List ℕ). tabulate (length f.entries) (entry_number f.entries (font_redirects f) (font_offset f) t)) p.same

  pub plan_answer : (size : ℕ) → size ≡ 4 * o + length f.instructions + length (back f.left o) →
      packed_reply (Sizes (size / 4) o k) ≡ reply_of 0 (packed_sizes f)
  plan_answer size e = rw (e, ← plan_size, plan_redirects, plan_offset)

  -- every label, shifted, fits
  pub plan_shifts : {room entryRoom : ℕ} → Taken f room entryRoom → (j : ℕ) → get_or ls j 0 + o ≤ 65535
  plan_shifts q j =
      let u : Under 65536 (labels_of f.entries) = under 65535 f.entries q.entered in
      rw (p.same, plan_offset) (omega (arith, largest_le u j, q.shifts))

-- ---- numbers that are lent

-- a number that was passed on, and its word
pub lent_number : {w : ℕ} (z : ℤ) → SFits w32 z → w ≡ word_of (number_of (word_of z)) → number_of w ≡ z
lent_number z h e = ap number_of e ∙ ap (λ (x : ℤ). number_of (word_of x)) (number_word z h) ∙ number_word z h

pub lent_font : (s es : List ℤ) {b b' l l' : ℤ} → b' ≡ b → l' ≡ l → packable s es b' l' ≡ packable s es b l
lent_font s es e g = rw (e, g)

-- ---- the answer and both lists

pub packing_first : (f : Packable) (room entryRoom : ℕ) {r : ℕ} → r ≡ packable_refusal f → (r ≡ 0 → ⊥) → r ≡ packing_refusal f room entryRoom
packing_first f room entryRoom e h = first_refusal (later_refusal f room entryRoom) e h

-- by the outputs, which are zero
module _ (f : Packable) (out entriesOut : List ℤ) (zeros : out ≡ replicate (length out) (pos 0)) (zerosOut : entriesOut ≡ replicate (length entriesOut) (pos 0))
  where
    pub packs_refused : (r : ℕ) → r ≡ packing_refusal f (length out) (length entriesOut) → (r ≡ 0 → ⊥) → Packs f out entriesOut (Refused r) out entriesOut
    packs_refused r t h =
        record {
          answer = refused_reply (packed_sizes f) t h;
          instructions = refused_list (pos 0) (length out) (packed_instructions f) t h zeros;
          entries = refused_list (pos 0) (length entriesOut) (packed_entries f) t h zerosOut;
        }

    pub packs_taken : (r : Packed) (out' entriesOut' : List ℤ) → packing_refusal f (length out) (length entriesOut) ≡ 0 →
        packed_reply r ≡ reply_of 0 (packed_sizes f) → Appending (packed_instructions f) out out' → Appending (packed_entries f) entriesOut entriesOut' →
        Packs f out entriesOut r out' entriesOut'
    packs_taken r out' entriesOut' q a x y =
        record {
          answer = rw q a;
          instructions = rw q (appending_rest out (pos 0) (length out) zeros x);
          entries = rw q (appending_rest entriesOut (pos 0) (length entriesOut) zerosOut y);
        }

-- an output that was zeroed
pub zeroed_length : (out : List ℤ) {zeros : List ℤ} → zeros ≡ replicate (length out) (pos 0) → length zeros ≡ length out
zeroed_length out e = ap length e ∙ length-replicate (length out) (pos 0)

pub zeroed_is : (out : List ℤ) {zeros : List ℤ} → zeros ≡ replicate (length out) (pos 0) → zeros ≡ replicate (length zeros) (pos 0)
zeroed_is out e = e ∙ ap (λ (n : ℕ). replicate n (pos 0)) (sym (zeroed_length out e))

-- only the lengths of the outputs matter
pub packs_lengths : {f g : Packable} (out out₀ entriesOut entriesOut₀ : List ℤ) {r : Packed} {out' entriesOut' : List ℤ} → f ≡ g → length out₀ ≡ length out →
    length entriesOut₀ ≡ length entriesOut → Packs f out₀ entriesOut₀ r out' entriesOut' → Packs g out entriesOut r out' entriesOut'
packs_lengths out out₀ entriesOut entriesOut₀ e n m p =
    record { answer = rw (e, n, m) at p.answer; instructions = rw (e, n, m) at p.instructions; entries = rw (e, n, m) at p.entries }

-- ---- the answer is known from its reply

pub packed_injective : (x y : Packed) → packed_reply x ≡ packed_reply y → x ≡ y
packed_injective (Sizes a b c) (Sizes a' b' c') e =
    let q : ◌≡◌ {A = List ℤ} (pos a ∷ pos b ∷ pos c ∷ []) (pos a' ∷ pos b' ∷ pos c' ∷ []) = ap (λ (r : Reply). r.values) e in cc
packed_injective (Sizes a b c) (Refused n) e =
    let q : ◌≡◌ {A = List ℤ} (pos a ∷ pos b ∷ pos c ∷ []) [] = ap (λ (r : Reply). r.values) e in let z : ◌≡◌ {A = ℕ} 0 1 = cc in absurd (omega arith)
packed_injective (Refused m) (Sizes a b c) e =
    let q : ◌≡◌ {A = List ℤ} [] (pos a ∷ pos b ∷ pos c ∷ []) = ap (λ (r : Reply). r.values) e in let z : ◌≡◌ {A = ℕ} 0 1 = cc in absurd (omega arith)
packed_injective (Refused m) (Refused n) e = ap Refused (ap (λ (r : Reply). r.number) e)
