-- The end of a text, with a word and without one.
-- Assumes nothing.
use mathlib.Core.Path.{◌≡◌, refl, sym, ap, ◌∙◌}
use mathlib.Core.Bool.{cond}
use mathlib.Core.List.{List, [], ◌∷◌, ◌++◌, map}
use mathlib.Core.Option.{Option, none, some, some-injective}
use Prim.Native.Nat.{ℕ, ◌+◌, ◌*◌, ◌/◌, ◌%◌, ◌≤◌}
use native.Mathlib.Omega.{arith}
use lib.IntN.{ℤ, pos, negsuc}
use lib.Dec.{leb, eqb}
use lib.ListN.{length, get_or, drop, replicate, length-drop, length-map, length-replicate, drop_of_length-le}
use lib.Seq.{sets, length-sets}
use borrow.Author.Tests.{le-leb, leb-true, eqb-true}
use Rattle.words.specs.Words.{word_of, number_of}
use Rattle.words.specs.Lists.{Appending}
use Rattle.words.proofs.Lists.{appending_length, appending_rest, sets_front, drop_replicate}
use Rattle.lang.specs.Answers.{Reply, reply_of, padded}
use Rattle.columns.specs.declared.TextHeads.{TextHeads}
use Rattle.std.specs.Prelude as rust
use Rattle.columns.specs.Texts.{Text, or_absent, add_line, read_text}
use Rattle.columns.specs.Scanned.{letters_of, head_numbers, text_read_reply, text_heads, ReadsText}
use Rattle.columns.proofs.Options.{none_some, cond_some}
use Rattle.text_scan.specs.declared.progress.TextProgress.{TextProgress}
use Rattle.text_scan.specs.Following.{rest_of, line_of, numbers_on, word_on}
use Rattle.text_scan.specs.Standing.{zeros, heads_of, TellsText, Scanning, Before, word_reply, EndsWord, ReadsLists}
use Rattle.text_line_numbers.proofs.Storing.{fields_count}
use Rattle.text_scan.proofs.Following.{Opened, numbered, rest_stuck, rest_added, rest_after_word, rest_none_left}
use Rattle.text_scan.proofs.Adding.{zeros_long, from_here, further}
use Rattle.text_scan.proofs.Letters.{adds}

-- ---- the lists

zeros_are : {A : Type 0} (o : A) (n : ℕ) → zeros o n ≡ replicate n o
unfolding zeros
zeros_are o n = refl

held_is : (done list : List ℤ) (n : ℕ) → Appending done (zeros (pos 0) n) list → list ≡ padded (pos 0) n done
held_is done list n h = appending_rest (zeros (pos 0) n) (pos 0) n (zeros_are (pos 0) n) h

held_long : (done list : List ℤ) (n : ℕ) → Appending done (zeros (pos 0) n) list → length list ≡ n
held_long done list n h = appending_length (zeros (pos 0) n) h ∙ zeros_long (pos 0) n

front_is : (n : ℕ) (xs : List ℕ) → length xs ≤ n → sets (zeros 0 n) 0 xs ≡ padded 0 n xs
front_is n xs h =
    ap (λ (l : List ℕ). sets l 0 xs) (zeros_are 0 n) ∙ sets_front xs (replicate n 0) (omega (arith, length-replicate {A = ℕ} n 0))
    ∙ ap (λ (l : List ℕ). xs ++ l) (drop_replicate (length xs) n 0)

-- ---- where everything is read

module _ (text : List ℕ) (t : Text) (is : read_text text ≡ some t) (instructions kerns entries : List ℤ) (word : List ℕ) where
  said : (r : rust.Option TextHeads) → text_read_reply r ≡ reply_of 0 (text_heads t) → Appending t.instructions (zeros (pos 0) 2048) instructions →
      Appending t.kerns (zeros (pos 0) 512) kerns → Appending t.entries (zeros (pos 0) 5040) entries → length word ≡ 64 →
      word ≡ padded 0 64 (map word_of (letters_of t.word)) → ReadsText text r instructions kerns entries word
  said r a i k e l w =
      record {
        answer = rw is a;
        long = (held_long t.instructions instructions 2048 i, held_long t.kerns kerns 512 k, held_long t.entries entries 5040 e, l);
        instructions = rw is (held_is t.instructions instructions 2048 i);
        kerns = rw is (held_is t.kerns kerns 512 k);
        entries = rw is (held_is t.entries entries 5040 e);
        word = rw is w;
      }

  pub reads_all : (r : rust.Option TextHeads) → ReadsText text r instructions kerns entries word → (text_read_reply r).number ≡ 0 →
      ReadsLists text instructions kerns entries word r
  reads_all rust.None s e = absurd (omega (arith, e))
  reads_all (rust.Some h) s e = record { on = λ _ _. s; stuck = λ i. absurd (let o : ◌≡◌ {A = ℕ} 0 1 = cc in omega arith) }

pub reads_none : (text : List ℕ) (instructions kerns entries : List ℤ) (word : List ℕ) (r : rust.Option TextHeads) → read_text text ≡ none → (text_read_reply r).number ≡ 16 →
    ReadsLists text instructions kerns entries word r
reads_none text instructions kerns entries word rust.None n e =
    record { on = λ h i. absurd (let o : ◌≡◌ {A = ℕ} 0 1 = cc in omega arith); stuck = λ _. n }
reads_none text instructions kerns entries word (rust.Some h) n e = absurd (omega (arith, e))

-- the heads are those of the text
heads_are : (text : List ℕ) (p : TextProgress) (t : Text) (l : ℤ) → TellsText text p t →
    heads_of p l ≡ (t.design ∷ or_absent t.boundary ∷ or_absent t.left ∷ pos (length t.instructions) ∷ pos (length t.kerns)
    ∷ pos (length t.entries) ∷ l ∷ [])
heads_are text p t l c = rw (c.design, c.boundary.said, c.left.said, c.instructions, c.kerns, c.entries)

module _ (text : List ℕ) (p : TextProgress) (instructions kerns entries : List ℤ) (s : Scanning text p instructions kerns entries) where
  -- ---- without a word

  pub ends_plain : (h : TextHeads) (w : List ℕ) → length text ≤ p.at → head_numbers h ≡ heads_of p (number_of 4294967295) → w ≡ zeros 0 64 →
      ReadsLists text instructions kerns entries w (rust.Some h)
  ends_plain h w l e z =
      let t = s.says in
      let c = s.tells in
      let is : read_text text ≡ some t = sym c.rest ∙ ap (λ (bs : List ℕ). rest_of bs (some t)) (drop_of_length-le text {i = p.at} l) ∙ rest_none_left t in
      reads_all text t is instructions kerns entries w (rust.Some h)
      (said text t is instructions kerns entries w (rust.Some h)
      (ap (reply_of 0) (e ∙ heads_are text p t (negsuc 0) c) ∙ rw c.word) s.in_instructions s.in_kerns s.in_entries (ap length z ∙ zeros_long 0 64)
      (z ∙ zeros_are 0 64 ∙ rw c.word))
      refl

  -- ---- with one

  module _ (before : Before text p) (is : get_or text p.at 0 ≡ 87) where
    abbrev bs : List ℕ
    bs = drop (p.at + 1) text

    abbrev worded : List ℤ → Text
    worded zs =
        let t = s.says in
        record
        { design = t.design; boundary = t.boundary; left = t.left; instructions = t.instructions; kerns = t.kerns; entries = t.entries; word = some zs }

    word-only : (zs : List ℤ) (u : Text) → add_line s.says (some (line_of 87 zs)) ≡ some u → (length zs ≤ 64) × (worded zs ≡ u)
    word-only zs u e =
        let c = cond_some (leb (length zs) 64) (some (worded zs)) u (sym (adds s.says 87 zs s.tells.word) ∙ e) in
        (leb-true (length zs) 64 c.0, some-injective (worded zs) u c.1)

    -- nothing is left after it
    none_left : (zs : List ℤ) (cs : List ℕ) (u : Text) → rest_of cs (some (worded zs)) ≡ some u → cs ≡ []
    none_left zs [] u e = refl
    none_left zs (b ∷ cs) u e = absurd (none_some (sym (rest_after_word (worded zs) zs refl b cs) ∙ e))

    word_back : (u : Text) → Opened (add_line s.says) 87 bs u → word_on bs ≡ none → ⊥
    word_back u g e =
        let m = length g.zs in
        let a = rest_added (drop (12 * m + 1) bs) (add_line s.says (some (line_of 87 g.zs))) u g.rest in
        let o = word-only g.zs a.text a.is in
        let k : drop (12 * m + 1) bs ≡ [] = none_left g.zs (drop (12 * m + 1) bs) u
        (ap (λ (x : Text). rest_of (drop (12 * m + 1) bs) (some x)) o.1 ∙ ap (rest_of (drop (12 * m + 1) bs)) (sym a.is) ∙ g.rest) in
        let n = numbered m bs g.zs g.numbers in
        let l : length bs ≡ 12 * m + 1 = omega (arith, ap length k, length-drop (12 * m + 1) bs, n.long) in
        let r : length bs % 12 ≡ 1 = omega arith in
        let d : length bs / 12 ≡ m = omega arith in
        let w : word_on bs ≡ some g.zs = rw (r, d, le-leb m 64 o.0) g.numbers in
        none_some (sym e ∙ w)

    word_none : word_on bs ≡ none → read_text text ≡ none
    word_none e = sym (from_here text p s.says s.tells before 87 is) ∙ rest_stuck s.says 87 bs (λ u g. word_back u g e)

    word_some : (zs : List ℤ) → word_on bs ≡ some zs → (length zs ≤ 64) × (read_text text ≡ some (worded zs))
    word_some zs e =
        let c = cond_some (eqb (length bs % 12) 1) (cond (leb (length bs / 12) 64) (numbers_on (length bs / 12) bs) none) zs e in
        let d = cond_some (leb (length bs / 12) 64) (numbers_on (length bs / 12) bs) zs c.1 in
        let n = length bs / 12 in
        let r : length bs % 12 ≡ 1 = eqb-true (length bs % 12) 1 c.0 in
        let m : length zs ≡ n = fields_count n bs zs (numbered n bs zs d.1).reads in
        let f : length zs ≤ 64 = omega (arith, m, leb-true n 64 d.0) in
        let g = further text p s.says s.tells before 87 is n zs (worded zs) (λ x. omega (arith, x)) d.1
        (adds s.says 87 zs s.tells.word ∙ rw (le-leb (length zs) 64 f)) in
        let l : length text ≤ p.at + (12 * n + 2) = omega (arith, length-drop (p.at + 1) text, before.inside) in
        (f, sym g ∙ ap (λ (cs : List ℕ). rest_of cs (some (worded zs))) (drop_of_length-le text {i = p.at + (12 * n + 2)} l) ∙ rest_none_left (worded zs))

    by_word : (v : Option (List ℤ)) → word_on bs ≡ v → (r : rust.Option TextHeads) (w w' : List ℕ) → w ≡ zeros 0 64 → text_read_reply r ≡ word_reply p v →
        ((zs : List ℤ) → v ≡ some zs → w' ≡ sets w 0 (map word_of zs)) → ReadsLists text instructions kerns entries w' r
    by_word none i r w w' z a k = reads_none text instructions kerns entries w' r (word_none i) (ap (λ (x : Reply). x.number) a)
    by_word (some zs) i r w w' z a k =
        let x = word_some zs i in
        let l : length (map word_of zs) ≤ 64 = omega (arith, length-map zs word_of, x.0) in
        let heads : reply_of 0 (heads_of p (pos (length zs)))
        ≡ reply_of 0 (text_heads (worded zs)) = ap (reply_of 0) (heads_are text p s.says (pos (length zs)) s.tells) in
        let long : length w' ≡ 64 = ap length (k zs refl) ∙ length-sets w 0 (map word_of zs) ∙ ap length z ∙ zeros_long 0 64 in
        let front : w' ≡ padded 0 64 (map word_of zs) = k zs refl ∙ ap (λ (y : List ℕ). sets y 0 (map word_of zs)) z ∙ front_is 64 (map word_of zs) l in
        reads_all text (worded zs) x.1 instructions kerns entries w' r
        (said text (worded zs) x.1 instructions kerns entries w' r (a ∙ heads) s.in_instructions s.in_kerns s.in_entries long front)
        (ap (λ (y : Reply). y.number) a)

    pub ends_word_lem : (r : rust.Option TextHeads) (w w' : List ℕ) → w ≡ zeros 0 64 → EndsWord (word_on bs) p w r w' → ReadsLists text instructions kerns entries w' r
    ends_word_lem r w w' z e = by_word (word_on bs) refl r w w' z e.answer e.stored
