-- Laws of a whole file: what is known of a font that is packed, and the answer, refused or written.
-- Assumes nothing.
use mathlib.Core.Path.{◌≡◌, refl, sym, ap, subst, ◌∙◌}
use mathlib.Core.List.{List, [], ◌∷◌, ◌++◌}
use Prim.Native.Nat.{ℕ, zero, suc, ◌+◌, ◌-◌, ◌*◌, ◌/◌, ◌%◌, ◌<◌, ◌≤◌}
use native.Mathlib.Omega.{arith}
use lib.IntN.{ℤ, pos, negsuc}
use lib.ListN.{length, get_or, take, drop, replicate, length-append, length-replicate}
use lib.Seq.{sets, take_at}
use borrow.Author.Tests.{le-leb, eq-eqb}
use Rattle.words.specs.Replies.{Reply, reply_of}
use Rattle.words.proofs.Lists.{length_tabulate, drop_replicate, sets_front}
use Rattle.lang.specs.declared.Written.{Written}
use Rattle.lang.specs.declared.Written.TheVariants.{Count, Refused}
use Rattle.lang.specs.Records.{count}
use Rattle.lang.specs.Checks.{or_else}
use Rattle.lang.specs.Answers.{room_refusal, list_of, written_reply}
use Rattle.lang.specs.Entries.{entries_table}
use Rattle.lang.proofs.Refusals.{first_refusal, second_is, or_else_none, room_fits, room_is, refused_answer, taken_answer}
use Rattle.pack.specs.Packing.{packed_entries, packed_entry_number}
use Rattle.files.specs.declared.PackedFont.{PackedFont}
use Rattle.files.specs.declared.PackedFont.TheVariants as packed-font
use Rattle.files.specs.Lengths.{lengths_of, lengths_refusal}
use Rattle.files.specs.Writing.{Writable, shared_font, written_instructions, written_kerns, written_table, written_size, written_file, joined_file}
use Rattle.files.specs.Writing.{pack_font_refusal, pack_font_number, packed_font_reply, writable_refusal, write_refusal, PacksFont, ReplacesProgram}
use Rattle.files.proofs.Taken.{font_packs, font_writes}
use Rattle.files.proofs.Font.{font_fours}
use Rattle.files.proofs.Packed.{packed_fours}
use Rattle.files.proofs.Lengths.{taken_fits}
use Rattle.files.proofs.Laid.{joined_laid}
use Rattle.file_sections.specs.Fitting.{file_in_front}
use Rattle.file_writing.specs.Holding.{Holds}

-- ---- a font that is packed

-- the length of a list that is kept shows that what is written fits
fits : {A : Type 0} (o : A) (n : ℕ) (xs : List A) {d : List A} → d ≡ list_of 0 o n xs → length d ≡ n → length xs ≤ n
fits o n xs {d} e l =
    omega (arith, l, ap length e ∙ length-append xs (replicate (n - length xs) o))

front : {A : Type 0} (o : A) (n : ℕ) (xs : List A) {d : List A} → d ≡ list_of 0 o n xs → take (length xs) d ≡ xs
front o n xs e = ap (λ d. take (length xs) d) e ∙ take_at xs (replicate (n - length xs) o) (length xs) refl

abbrev natural_of : ℤ → ℕ
natural_of (pos n) = n
natural_of (negsuc n) = 0

-- value i of a reply, as a natural number
abbrev value : Reply → ℕ → ℕ
value x i = natural_of (get_or x.values i (pos 0))

or_else_none_after : (m : ℕ) → or_else m 0 ≡ m
or_else_none_after zero = refl
or_else_none_after (suc m) = refl

-- with lists that are long enough, the number is that of the font
font_number : (f : Writable) (a b c : ℕ) → 132096 ≤ a → 32767 ≤ b → 512 ≤ c → pack_font_number f a b c ≡ pack_font_refusal f
font_number f a b c x y z = rw (room_is 132096 a x, room_is 32767 b y, room_is 512 c z) (or_else_none_after (pack_font_refusal f))

sized_zero : (m n k : ℕ) (vs : List ℤ) → packed_font_reply (packed-font.Sizes n k) ≡ reply_of m vs → m ≡ 0
sized_zero zero n k vs e = refl
sized_zero (suc m) n k vs e = absurd (omega (arith, ap (λ (x : Reply). x.number) e))

refused_number : (m n : ℕ) (v : ℤ) (vs : List ℤ) → packed_font_reply (packed-font.Refused n) ≡ reply_of m (v ∷ vs) → (n ≡ m) × (n ≡ 0 → ⊥)
refused_number zero n v vs e = absurd (omega (arith, ap (λ (x : Reply). length x.values) e))
refused_number (suc m) n v vs e = let q = ap (λ (x : Reply). x.number) e in (q, λ z. omega (arith, q, z))

module _ (f : Writable) {out ko eo out' ko' eo' : List ℤ} (long : 132096 ≤ length out) (kerns_long : 32767 ≤ length ko) (entries_long : 512 ≤ length eo) where
  pub packed_holds : (n k : ℕ) → PacksFont f out ko eo (packed-font.Sizes n k) out' ko' eo' → length out' ≡ length out → length ko' ≡ length ko →
      length eo' ≡ length eo → Holds f out' ko' eo' n k
  packed_holds n k p a b c =
      let z = sized_zero (pack_font_number f (length out) (length ko) (length eo)) n k
      (pos (count (written_instructions f)) ∷ pos (length (written_kerns f)) ∷ []) p.answer in
      let answer = p.answer
      ∙ ap (λ (m : ℕ). reply_of m (pos (count (written_instructions f)) ∷ pos (length (written_kerns f)) ∷ [])) z in
      let t : pack_font_refusal f ≡ 0 = sym (font_number f (length out) (length ko) (length eo) long kerns_long entries_long) ∙ z in
      let w : n ≡ count (written_instructions f) = ap (λ (x : Reply). value x 0) answer in
      let s : k ≡ length (written_kerns f) = ap (λ (x : Reply). value x 1) answer in
      let program = p.program ∙ ap (λ (m : ℕ). list_of m (pos 0) (length out) (written_instructions f)) z in
      let kern_list = p.kern_list ∙ ap (λ (m : ℕ). list_of m (pos 0) (length ko) (written_kerns f)) z in
      let entry_list = p.entry_list ∙ ap (λ (m : ℕ). list_of m (pos 0) (length eo) (packed_entries (shared_font f))) z in
      let fours = packed_fours (shared_font f) (font_fours f (font_packs f t)) in
      let many = length_tabulate (length f.entries) (packed_entry_number (shared_font f)) in
      record {
        taken = t;
        words = w;
        shared = s;
        program_long = omega (arith, w, fours, fits (pos 0) (length out) (written_instructions f) program a, a);
        kerns_long = omega (arith, s, fits (pos 0) (length ko) (written_kerns f) kern_list b, b);
        entries_long = omega (arith, many, fits (pos 0) (length eo) (packed_entries (shared_font f)) entry_list c, c);
        program_is = ap (λ (m : ℕ). take m out') (let q : 4 * n ≡ length (written_instructions f) = omega (arith, w, fours) in q)
            ∙ front (pos 0) (length out) (written_instructions f) program;
        kerns_are = ap (λ (m : ℕ). take m ko') s ∙ front (pos 0) (length ko) (written_kerns f) kern_list;
        entries_are = ap (λ (m : ℕ). take m eo') (sym many) ∙ front (pos 0) (length eo) (packed_entries (shared_font f)) entry_list;
      }

  pub packed_refused : (n : ℕ) → PacksFont f out ko eo (packed-font.Refused n) out' ko' eo' → (n ≡ pack_font_refusal f) × (n ≡ 0 → ⊥)
  packed_refused n p =
      let q = refused_number (pack_font_number f (length out) (length ko) (length eo)) n (pos (count (written_instructions f)))
      (pos (length (written_kerns f)) ∷ []) p.answer in
      (q.0 ∙ font_number f (length out) (length ko) (length eo) long kerns_long entries_long, q.1)

-- ---- the answer

pub zeros_long : (n : ℕ) {d : List ℕ} → d ≡ replicate n 0 → d ≡ replicate (length d) 0
zeros_long n e = e ∙ ap (λ (m : ℕ). replicate m 0) (sym (ap length e ∙ length-replicate n 0))

list_refused : {A : Type 0} (o : A) (m n : ℕ) (xs : List A) {d : List A} → (m ≡ 0 → ⊥) → d ≡ replicate n o → d ≡ list_of m o n xs
list_refused o zero n xs h e = absurd (h refl)
list_refused o (suc m) n xs h e = e

module _ (old : List ℕ) (f : Writable) (out : List ℕ) where
  pub file_refused : (r : ℕ) {d : List ℕ} → r ≡ write_refusal old f (length out) → (r ≡ 0 → ⊥) → d ≡ replicate (length out) 0 →
      ReplacesProgram old f out (Refused r) d
  file_refused r e h z =
      record {
        answer = refused_answer (4 * written_size old (count (written_instructions f)) (length (written_kerns f))) e h;
        file = list_refused 0 (write_refusal old f (length out)) (length out) (written_file old f) (λ q. h (e ∙ q)) z;
      }

  -- what packing refuses is the number
  pub pack_number : (r : ℕ) → r ≡ pack_font_refusal f → (r ≡ 0 → ⊥) → r ≡ write_refusal old f (length out)
  pack_number r e h =
      first_refusal
      (or_else (lengths_refusal old)
      (or_else (writable_refusal old f (count (written_instructions f)) (length (written_kerns f)))
      (room_refusal (4 * written_size old (count (written_instructions f)) (length (written_kerns f))) (length out)))) e h

  -- the same of an equal font and a list of that length
  pub replaced_same : (g : Writable) (d : List ℕ) {r : Written} {d' : List ℕ} → g ≡ f → length d ≡ length out → ReplacesProgram old g d r d' →
      ReplacesProgram old f out r d'
  replaced_same g d e l p =
      record {
        answer = p.answer
            ∙ (λ i. reply_of (write_refusal old (e i) (l i))
            (pos (4 * written_size old (count (written_instructions (e i))) (length (written_kerns (e i)))) ∷ []));
        file = p.file ∙ (λ i. list_of (write_refusal old (e i) (l i)) 0 (l i) (written_file old (e i)));
      }

  module _ {program kerns entries : List ℤ} {n k : ℕ} (g : Holds f program kerns entries n k) where
    pub number_is : (r : ℕ) →
        r ≡ or_else (lengths_refusal old) (or_else (writable_refusal old f n k) (room_refusal (4 * written_size old n k) (length out))) →
        r ≡ write_refusal old f (length out)
    number_is r e =
        e
        ∙ (λ i. or_else (lengths_refusal old)
        (or_else (writable_refusal old f (g.words i) (g.shared i)) (room_refusal (4 * written_size old (g.words i) (g.shared i)) (length out))))
        ∙ sym (second_is (pack_font_refusal f)
        (or_else (lengths_refusal old)
        (or_else (writable_refusal old f (count (written_instructions f)) (length (written_kerns f)))
        (room_refusal (4 * written_size old (count (written_instructions f)) (length (written_kerns f))) (length out)))) g.taken)

    module _ (e : or_else (lengths_refusal old) (or_else (writable_refusal old f n k) (room_refusal (4 * written_size old n k) (length out))) ≡ 0) where
      pub none_first : lengths_refusal old ≡ 0
      none_first =
          (or_else_none (lengths_refusal old) (or_else (writable_refusal old f n k) (room_refusal (4 * written_size old n k) (length out))) e).0

      later : or_else (writable_refusal old f n k) (room_refusal (4 * written_size old n k) (length out)) ≡ 0
      later = (or_else_none (lengths_refusal old) (or_else (writable_refusal old f n k) (room_refusal (4 * written_size old n k) (length out))) e).1

      pub small : written_size old n k ≤ 32767
      small =
          (font_writes old f n k (or_else_none (writable_refusal old f n k) (room_refusal (4 * written_size old n k) (length out)) later).0).size

      pub roomy : 4 * written_size old n k ≤ length out
      roomy =
          room_fits (4 * written_size old n k) (length out)
          (or_else_none (writable_refusal old f n k) (room_refusal (4 * written_size old n k) (length out)) later).1

      size_is : written_size old n k ≡ written_size old (count (written_instructions f)) (length (written_kerns f))
      size_is = λ i. written_size old (g.words i) (g.shared i)

      file-long : length (written_file old f) ≡ 4 * written_size old n k
      file-long =
          let t = taken_fits old none_first in
          (joined_laid old (lengths_of old) (written_instructions f) (written_kerns f) (written_table f) f.boundary (omega (arith, t.whole, t.sum))).long
          ∙ ap (λ (m : ℕ). 4 * m) (sym size_is)

      -- the file is written
      in-front-is : file_in_front old (written_instructions f) (written_kerns f) (written_table f) f.boundary out ≡ sets out 0 (written_file old f)
      in-front-is =
          rw (
            eq-eqb (lengths_refusal old) 0 none_first,
            le-leb (written_size old (count (written_instructions f)) (length (written_kerns f))) 32767 (omega (arith, small, size_is)),
            le-leb (4 * written_size old (count (written_instructions f)) (length (written_kerns f))) (length out) (omega (arith, roomy, size_is)),
          )

      pub file_written : (size : ℕ) {d : List ℕ} → size ≡ written_size old n k → out ≡ replicate (length out) 0 →
          d ≡ file_in_front old (take (4 * n) program) (take k kerns) (entries_table (take (length f.entries) entries) (negsuc 0)) f.boundary out →
          ReplacesProgram old f out (Count (4 * size)) d
      file_written size s z w =
          let r : write_refusal old f (length out) ≡ 0 = sym (number_is 0 (sym e)) in
          let x = w
          ∙ (λ i. file_in_front old (g.program_is i) (g.kerns_are i) (entries_table (g.entries_are i) (negsuc 0)) f.boundary out)
          ∙ in-front-is
          ∙ sets_front (written_file old f) out (omega (arith, file-long, roomy))
          ∙ ap (λ (xs : List ℕ). written_file old f ++ drop (length (written_file old f)) xs) z
          ∙ ap (λ (xs : List ℕ). written_file old f ++ xs) (drop_replicate (length (written_file old f)) (length out) 0) in
          record {
            answer = ap (λ (m : ℕ). written_reply (Count (4 * m))) (s ∙ size_is)
                ∙ taken_answer (4 * written_size old (count (written_instructions f)) (length (written_kerns f))) r;
            file = x ∙ ap (λ (m : ℕ). list_of m 0 (length out) (written_file old f)) (sym r);
          }
