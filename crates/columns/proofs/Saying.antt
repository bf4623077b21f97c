-- A text that was read, from what was answered and left in the lists; the front of a list that was padded. Assumes nothing.
use mathlib.Core.Path.{◌≡◌, refl, sym, ap, ◌∙◌}
use mathlib.Core.List.{List, [], ◌∷◌, map}
use mathlib.Core.Option.{Option, none, some}
use Prim.Native.Nat.{ℕ, zero, suc, ◌+◌, ◌-◌, ◌≤◌}
use native.Mathlib.Omega.{arith}
use lib.IntN.{ℤ, pos}
use lib.ListN.{length, take, replicate, length-append, length-replicate}
use lib.Seq.{take_at}
use Rattle.words.specs.Words.{word_of}
use Rattle.lang.specs.Answers.{Reply, reply_of, list_of}
use Rattle.columns.specs.declared.TextHeads.{TextHeads}
use Rattle.std.specs.Prelude as rust
use Rattle.columns.specs.Texts.{Text, or_absent}
use Rattle.columns.specs.Scanned.{letters_of, length_of_word, letters_in, head_numbers, text_refusal, said_by, text_heads, ReadsTextAs}

-- ---- a list that was padded

-- its front
pub front : {A : Type 0} (o : A) (n m k : ℕ) (xs ys : List A) → ys ≡ list_of n o m xs → n ≡ 0 → length xs ≡ k → take k ys ≡ xs
front o zero m k xs ys e z l = rw e (take_at xs (replicate (m - length xs) o) k l)
front o (suc n) m k xs ys e z l = absurd (omega (arith, z))

-- .. which has room for it, where it is as long as it was
pub room_known : {A : Type 0} (o : A) (n m : ℕ) (xs ys : List A) → ys ≡ list_of n o m xs → n ≡ 0 → length ys ≡ m → length xs ≤ m
room_known o zero m xs ys e z l =
    let t : length ys ≡ length xs + (m - length xs) = ap length e ∙ length-append xs (replicate (m - length xs) o)
    ∙ ap (λ (j : ℕ). length xs + j) (length-replicate (m - length xs) o) in
    omega (arith, t, l)
room_known o (suc n) m xs ys e z l = absurd (omega (arith, z))

-- ---- a text that is not read

not_read_by : (o : Option Text) → reply_of 16 [] ≡ reply_of (text_refusal o) (text_heads (said_by o)) → o ≡ none
not_read_by none e = refl
not_read_by (some t) e = absurd (let z : ◌≡◌ {A = ℕ} 16 0 = ap (λ (r : Reply). r.number) e in omega arith)

pub not_read : {o : Option Text} {room : ℕ} {is ks es : List ℤ} {ws : List ℕ} → ReadsTextAs o room rust.None is ks es ws → o ≡ none
not_read {o} h = not_read_by o h.answer

-- ---- a text that is read

pub record Said (o : Option Text) (room : ℕ) (h : TextHeads) (is ks es : List ℤ) (ws : List ℕ) : Type 0 where
  pub said : Text
  pub read : o ≡ some said
  pub design : h.design ≡ said.design
  pub boundary : h.boundary ≡ or_absent said.boundary
  pub left : h.left ≡ or_absent said.left
  pub letters : h.letters ≡ length_of_word said.word
  pub instructions : take h.instructions is ≡ said.instructions
  pub kerns : take h.kerns ks ≡ said.kerns
  pub entries : take h.entries es ≡ said.entries
  pub word : take (letters_in h.letters) ws ≡ map word_of (letters_of said.word)
  pub few_instructions : h.instructions ≤ 2048
  pub few_kerns : h.kerns ≤ room
  pub few_entries : h.entries ≤ 5040
  pub few_letters : letters_in h.letters ≤ 64

letters_long : (w : Option (List ℤ)) → length (map word_of (letters_of w)) ≡ letters_in (length_of_word w)
letters_long none = refl
letters_long (some zs) = mapped zs
  where
    mapped : (xs : List ℤ) → length (map word_of xs) ≡ length xs
    mapped [] = refl
    mapped (x ∷ xs) = ap suc (mapped xs)

module _ {o : Option Text} {room : ℕ} {h : TextHeads} {is ks es : List ℤ} {ws : List ℕ} (a : ReadsTextAs o room (rust.Some h) is ks es ws) where
  said_by_lem : (p : Option Text) → o ≡ p → Said o room h is ks es ws
  said_by_lem none e =
      absurd
      (let z : ◌≡◌ {A = ℕ} 0 16 = ap (λ (r : Reply). r.number) (a.answer ∙ ap (λ (o : Option Text). reply_of (text_refusal o) (text_heads (said_by o))) e) in
      omega arith)
  said_by_lem (some t) e =
      let v : head_numbers h ≡ text_heads t = ap (λ (r : Reply). r.values)
      (a.answer ∙ ap (λ (o : Option Text). reply_of (text_refusal o) (text_heads (said_by o))) e) in
      let i : h.instructions ≡ length t.instructions = cc in
      let k : h.kerns ≡ length t.kerns = cc in
      let n : h.entries ≡ length t.entries = cc in
      let w : h.letters ≡ length_of_word t.word = cc in
      let pi : is ≡ list_of 0 (pos 0) 2048 t.instructions = a.instructions
      ∙ ap (λ (o : Option Text). list_of (text_refusal o) (pos 0) 2048 (said_by o).instructions) e in
      let pk : ks ≡ list_of 0 (pos 0) room t.kerns = a.kerns ∙ ap (λ (o : Option Text). list_of (text_refusal o) (pos 0) room (said_by o).kerns) e in
      let pe : es ≡ list_of 0 (pos 0) 5040 t.entries = a.entries ∙ ap (λ (o : Option Text). list_of (text_refusal o) (pos 0) 5040 (said_by o).entries) e in
      let pw : ws ≡ list_of 0 0 64 (map word_of (letters_of t.word)) = a.word
      ∙ ap (λ (o : Option Text). list_of (text_refusal o) 0 64 (map word_of (letters_of (said_by o).word))) e in
      let nw : length (map word_of (letters_of t.word)) ≡ letters_in h.letters = letters_long t.word ∙ ap letters_in (sym w) in
      record {
        said = t;
        read = e;
        design = cc;
        boundary = cc;
        left = cc;
        letters = w;
        instructions = front (pos 0) 0 2048 h.instructions t.instructions is pi refl (sym i);
        kerns = front (pos 0) 0 room h.kerns t.kerns ks pk refl (sym k);
        entries = front (pos 0) 0 5040 h.entries t.entries es pe refl (sym n);
        word = front 0 0 64 (letters_in h.letters) (map word_of (letters_of t.word)) ws pw refl nw;
        few_instructions = omega (arith, i, room_known (pos 0) 0 2048 t.instructions is pi refl a.long.0);
        few_kerns = omega (arith, k, room_known (pos 0) 0 room t.kerns ks pk refl a.long.1);
        few_entries = omega (arith, n, room_known (pos 0) 0 5040 t.entries es pe refl a.long.2);
        few_letters = omega (arith, nw, room_known 0 0 64 (map word_of (letters_of t.word)) ws pw refl a.long.3);
      }

  pub text_said : Said o room h is ks es ws
  text_said = said_by_lem o refl
