-- Laws of reading the font that a file means: what is known of a file that was read, and the contract by each answer.
-- Assumes nothing.
use mathlib.Core.Path.{◌≡◌, refl, sym, ap, ◌∙◌}
use mathlib.Core.Bool.{Bool, true, false, cond}
use mathlib.Core.List.{List, [], ◌∷◌}
use Prim.Native.Nat.{ℕ, zero, suc, ◌+◌, ◌-◌, ◌*◌, ◌/◌, ◌%◌, ◌≤◌}
use native.Mathlib.Numerals.{add-one}
use native.Mathlib.Omega.{arith}
use lib.IntN.{ℤ, pos}
use lib.Dec.{leb}
use lib.ListN.{length, take, replicate, length-append, length-replicate}
use lib.Seq.{take_at, sets}
use borrow.Author.Tests.{le-leb}
use Rattle.words.proofs.Lists.{sets_front, appending_rest}
use Rattle.lang.specs.declared.Written.{Written}
use Rattle.lang.specs.declared.Written.TheVariants as Unpack
use Rattle.lang.specs.Records.{count}
use Rattle.lang.specs.Checks.{unless, or_else}
use Rattle.lang.specs.Answers.{Reply, reply_of, room_refusal, written_reply, list_of}
use Rattle.lang.proofs.Refusals.{second_is, first_refusal, or_else_none, room_is, room_fits, refused_reply, taken_reply}
use Rattle.lang.proofs.Filled.{refused_list}
use Rattle.files.specs.declared.Deserialized.{Deserialized}
use Rattle.files.specs.declared.Deserialized.TheVariants as Read
use Rattle.files.specs.Lengths.{lengths_of, char_count, char_start, command_start, lengths_refusal}
use Rattle.files.specs.Commands.{is_lig_tagged, word_byte}
use Rattle.files.specs.Reading.{entries_from, file_instructions, file_kerns, file_entries, file_boundary, file_left, font_values, deserialize_refusal, Deserializes}
use Rattle.files.proofs.Lengths.{taken_fits}
use Rattle.file_reading.proofs.Laws.{length_commands, length_entries_none, length_entries_more}
use Rattle.fonts.proofs.Replies.{number_known, values_known, taken_unlike}
use Rattle.file_fonts.specs.declared.FileFont.TheVariants as Answer
use Rattle.file_fonts.specs.Meant.{meant_entries, lost_chars, file_design, read_font_refusal, meant_values, ReadsFont}
use Rattle.file_unpacking.specs.Unpacking.{unpack_all_refusal, all_or_none, UnpacksWithin}
use Rattle.file_unpacking.proofs.Unpacking.{leading_few, leading_twos, lost_count}

-- ---- the entries of a file are in twos, of 256 characters at most

two_or_none : (b : Bool) (x y : ℤ) → (length (cond b (x ∷ y ∷ []) []) % 2 ≡ 0) × (length (cond b (x ∷ y ∷ []) []) ≤ 2)
two_or_none true x y = (refl, omega arith)
two_or_none false x y = (refl, omega arith)

module _ (file : List ℕ) (c w : ℕ) where
  twos_more : (n : ℕ) → (length (entries_from file c w n) % 2 ≡ 0) × (length (entries_from file c w n) ≤ 2 * n) →
      (length (entries_from file c w (n + 1)) % 2 ≡ 0) × (length (entries_from file c w (n + 1)) ≤ 2 * (n + 1))
  twos_more n k =
      let m = length_entries_more file c w n in
      let t = two_or_none (is_lig_tagged file (w + n)) (pos (c + n)) (pos (word_byte file (w + n) 3)) in
      (omega (arith, m, t.0, k.0), omega (arith, m, t.1, k.1))

  twos : (n : ℕ) → (length (entries_from file c w n) % 2 ≡ 0) × (length (entries_from file c w n) ≤ 2 * n)
  twos zero = let z = length_entries_none file c w in (omega (arith, z), omega (arith, z))
  twos (suc n) = rw add-one at (twos_more n (twos n))

file_twos : (file : List ℕ) → length (file_entries file) % 2 ≡ 0
file_twos file = (twos file (lengths_of file).bc (char_start (lengths_of file)) (char_count (lengths_of file))).0

file_few : (file : List ℕ) → lengths_refusal file ≡ 0 → length (file_entries file) ≤ 512
file_few file ok =
    let f = taken_fits file ok in
    omega (arith, (twos file (lengths_of file).bc (char_start (lengths_of file)) (char_count (lengths_of file))).1, f.low, f.high)

-- ---- the refusal, of which the part that was asked first is 0

unshort : (l a b z x : ℕ) → (l ≡ 0 → z ≡ 0) → or_else (or_else l (or_else a (or_else b z))) x ≡ or_else l (or_else a (or_else b x))
unshort (suc l) a b z x h = refl
unshort zero (suc a) b z x h = refl
unshort zero zero (suc b) z x h = refl
unshort zero zero zero z x h = rw (h refl)

-- an answer that is a refusal, and one that is not, by what it must be
pub refused_known : (m : ℕ) {n : ℕ} (v : ℤ) (vs : List ℤ) → ◌≡◌ {A = Reply} (record { number = n; values = [] }) (reply_of m (v ∷ vs)) → (n ≡ m) × (n ≡ 0 → ⊥)
refused_known zero v vs e = taken_unlike (sym e)
refused_known (suc m) {n} v vs e = let q : n ≡ suc m = number_known e in (q, λ z. omega (arith, q, z))

pub taken_known : (m : ℕ) {u : ℤ} {us : List ℤ} (v : ℤ) (vs : List ℤ) → ◌≡◌ {A = Reply} (record { number = 0; values = u ∷ us }) (reply_of m (v ∷ vs)) →
    (m ≡ 0) × (◌≡◌ {A = List ℤ} (u ∷ us) (v ∷ vs))
taken_known zero v vs e = (refl, values_known e)
taken_known (suc m) v vs e = taken_unlike e

-- ---- a file that was read: what is known of its answer and its lists

-- n instructions, k kerns and e entries, the boundary character b and the left entry l
pub record FontRead (file : List ℕ) (is ks packed : List ℤ) (n k e : ℕ) (b l : ℤ) (is' ks' packed' : List ℤ) : Type 0 where
  pub none : deserialize_refusal file (length is) (length ks) (length packed) ≡ 0
  pub values : ◌≡◌ {A = List ℤ} (pos n ∷ pos k ∷ pos e ∷ b ∷ l ∷ []) (font_values file)
  pub small : n ≤ 32767
  pub few : count (file_instructions file) ≤ 32767
  pub fits : 4 * n ≤ length is'
  pub room : 2 * e ≤ 512
  pub packed_fits : 2 * e ≤ length packed'
  pub program : take (4 * n) is' ≡ file_instructions file
  pub entries : take (2 * e) packed' ≡ file_entries file
  pub program_list : is' ≡ list_of 0 (pos 0) (length is) (file_instructions file)
  pub kern_list : ks' ≡ list_of 0 (pos 0) (length ks) (file_kerns file)

pub front_fits : (n k : ℕ) (xs : List ℤ) {d : List ℤ} → length xs ≡ k → d ≡ list_of 0 (pos 0) n xs → k ≤ length d
front_fits n k xs e g = rw (g, ← e) (simp length-append (omega arith))

pub front : (n k : ℕ) (xs : List ℤ) {d : List ℤ} → length xs ≡ k → d ≡ list_of 0 (pos 0) n xs → take k d ≡ xs
front n k xs e g = rw g (take_at xs (replicate (n - length xs) (pos 0)) k e)

pub font_read : {file : List ℕ} {is ks packed : List ℤ} {r : Deserialized} {n k e : ℕ} {b l : ℤ} {is' ks' packed' : List ℤ} →
    Deserializes file is ks packed r is' ks' packed' → r ≡ Read.Font n k e b l → FontRead file is ks packed n k e b l is' ks' packed'
font_read {file} {is} {ks} {packed} {n = n} {k} {e} {b} {l} d h =
    let t = taken_known (deserialize_refusal file (length is) (length ks) (length packed)) _ _ (rw h at d.answer) in
    let z = t.0 in
    let v = t.1 in
    let i : n ≡ (lengths_of file).nl = cc in
    let j : e ≡ length (file_entries file) / 2 = cc in
    let ok = (or_else_none (lengths_refusal file) _ z).0 in
    let p : length (file_instructions file) ≡ 4 * n =
    length_commands file (command_start (lengths_of file)) (lengths_of file).nl ∙ ap (λ (m : ℕ). 4 * m) (sym i) in
    let q : length (file_entries file) ≡ 2 * e = omega (arith, j, file_twos file) in
    let f = rw z at d.program in
    let g = rw z at d.entry_list in
    record {
      none = z;
      values = v;
      small = omega (arith, i, (taken_fits file ok).small_nl);
      few = omega (arith, p, i, (taken_fits file ok).small_nl);
      fits = front_fits (length is) (4 * n) (file_instructions file) p f;
      room = omega (arith, q, file_few file ok);
      packed_fits = front_fits (length packed) (2 * e) (file_entries file) q g;
      program = front (length is) (4 * n) (file_instructions file) p f;
      entries = front (length packed) (2 * e) (file_entries file) q g;
      program_list = f;
      kern_list = rw z at d.kern_list;
    }

-- ---- the contract

-- what is written over zeros
written_by : (m n : ℕ) (xs : List ℤ) {d₀ d : List ℤ} → d₀ ≡ replicate n (pos 0) → (m ≡ 0 → length xs ≤ n) → d ≡ sets d₀ 0 (all_or_none m xs) →
    d ≡ list_of m (pos 0) n xs
written_by zero n xs {d₀} a h e =
    let l : length xs ≤ length d₀ = omega (arith, h refl, ap length a ∙ length-replicate n (pos 0)) in
    appending_rest d₀ {done = xs} (pos 0) n a (record { within = l; appended = e ∙ sets_front xs d₀ l })
written_by (suc m) n xs a h e = e ∙ a

-- room for any file's packed entries, and two lists that were zeroed
pub record Zeroed (file : List ℕ) (is ks es ls packed es₀ ls₀ : List ℤ) : Type 0 where
  pub long : 512 ≡ length packed
  pub entries : es₀ ≡ replicate (length es) (pos 0)
  pub lost : ls₀ ≡ replicate (length ls) (pos 0)

module _ {file : List ℕ} {is ks es ls packed es₀ ls₀ : List ℤ} (c : Zeroed file is ks es ls packed es₀ ls₀) where
  abbrev refusal : ℕ
  refusal = read_font_refusal file (length is) (length ks) (length es) (length ls)

  abbrev unpacking : ℕ
  unpacking = unpack_all_refusal (file_instructions file) (file_entries file) (length es) (length ls)

  abbrev listing : ℕ
  listing = or_else (room_refusal (length (meant_entries file)) (length es)) (room_refusal (length (lost_chars file)) (length ls))

  parted : or_else (deserialize_refusal file (length is) (length ks) (length packed)) listing ≡ refusal
  parted =
      unshort (lengths_refusal file) (room_refusal (length (file_instructions file)) (length is)) (room_refusal (length (file_kerns file)) (length ks))
      (room_refusal (length (file_entries file)) (length packed)) listing
      (λ z. room_is (length (file_entries file)) (length packed) (omega (arith, c.long, file_few file z)))

  -- refused as it was read
  pub font_refused : {r : Deserialized} {x : ℕ} {is' ks' packed' : List ℤ} → Deserializes file is ks packed r is' ks' packed' → r ≡ Read.Refused x →
      ReadsFont file is ks es ls (Answer.Refused x) is' ks' es₀ ls₀
  font_refused {x = x} d h =
      let t = refused_known (deserialize_refusal file (length is) (length ks) (length packed)) _ _ (rw h at d.answer) in
      let e : x ≡ refusal = first_refusal _ t.0 t.1 ∙ parted in
      record {
        answer = refused_reply (meant_values file) e t.1;
        program = refused_list (pos 0) (length is) (file_instructions file) e t.1
            (d.program ∙ sym (refused_list (pos 0) (length is) (file_instructions file) t.0 t.1 refl));
        kern_list = refused_list (pos 0) (length ks) (file_kerns file) e t.1
            (d.kern_list ∙ sym (refused_list (pos 0) (length ks) (file_kerns file) t.0 t.1 refl));
        entry_list = refused_list (pos 0) (length es) (meant_entries file) e t.1 c.entries;
        lost_list = refused_list (pos 0) (length ls) (lost_chars file) e t.1 c.lost;
      }

  module _ {n k e : ℕ} {y z : ℤ} {is' ks' packed' : List ℤ} (d : FontRead file is ks packed n k e y z is' ks' packed') {w : Written}
      {es' ls' : List ℤ} (u : UnpacksWithin (take (4 * n) is') (take (2 * e) packed') es₀ ls₀ w es' ls') where
    few : unless 1 (leb (count (file_instructions file)) 32767) ≡ 0
    few = rw (le-leb (count (file_instructions file)) 32767 d.few)

    listed : listing ≡ refusal
    listed = sym (second_is _ listing d.none) ∙ parted

    asked : unpacking ≡ refusal
    asked = second_is _ listing few ∙ listed

    places : length es₀ ≡ length es
    places = ap length c.entries ∙ length-replicate (length es) (pos 0)

    lost-places : length ls₀ ≡ length ls
    lost-places = ap length c.lost ∙ length-replicate (length ls) (pos 0)

    answered : written_reply w ≡ reply_of unpacking (pos (length (meant_entries file) / 2) ∷ [])
    answered = rw (d.program, d.entries, places, lost-places) at u.answer

    room : refusal ≡ 0 → (length (meant_entries file) ≤ length es) × (length (lost_chars file) ≤ length ls)
    room h =
        let o = or_else_none (room_refusal (length (meant_entries file)) (length es)) _ (listed ∙ h) in
        (room_fits (length (meant_entries file)) (length es) o.0, room_fits (length (lost_chars file)) (length ls) o.1)

    entries_are : es' ≡ list_of refusal (pos 0) (length es) (meant_entries file)
    entries_are =
        written_by refusal (length es) (meant_entries file) c.entries (λ h. (room h).0)
        (rw (d.program, d.entries, places, lost-places, asked) at u.entry_list)

    lost-are : ls' ≡ list_of refusal (pos 0) (length ls) (lost_chars file)
    lost-are =
        written_by refusal (length ls) (lost_chars file) c.lost (λ h. (room h).1)
        (rw (d.program, d.entries, places, lost-places, asked) at u.lost_list)

    -- refused as it was unpacked: the lists that were read are zeroed
    pub font_short : {r : ℕ} → w ≡ Unpack.Refused r → {is'' ks'' : List ℤ} → length is' ≡ length is → length ks' ≡ length ks →
        is'' ≡ replicate (length is') (pos 0) → ks'' ≡ replicate (length ks') (pos 0) → ReadsFont file is ks es ls (Answer.Refused r) is'' ks'' es' ls'
    font_short {r} h i j f g =
        let t = refused_known unpacking _ _ (rw h at answered) in
        let x : r ≡ refusal = t.0 ∙ asked in
        record {
          answer = refused_reply (meant_values file) x t.1;
          program = refused_list (pos 0) (length is) (file_instructions file) x t.1 (f ∙ ap (λ (m : ℕ). replicate m (pos 0)) i);
          kern_list = refused_list (pos 0) (length ks) (file_kerns file) x t.1 (g ∙ ap (λ (m : ℕ). replicate m (pos 0)) j);
          entry_list = entries_are;
          lost_list = lost-are;
        }

    module _ {m : ℕ} (h : w ≡ Unpack.Count m) where
      told : (unpacking ≡ 0) × (m ≡ length (meant_entries file) / 2)
      told =
          let t = taken_known unpacking _ _ (rw h at answered) in
          let v = t.1 in
          (t.0, cc)

      half : length (meant_entries file) ≡ 2 * m
      half = omega (arith, told.1, leading_twos (file_instructions file) (file_entries file) (length (file_entries file) / 2))

      own : e ≡ length (file_entries file) / 2
      own = let v = d.values in cc

      pub led_few : m ≤ e
      led_few = omega (arith, own, leading_few (file_instructions file) (file_entries file) (length (file_entries file) / 2) m half)

      pub font_taken : {y' z' g : ℤ} → y' ≡ y → z' ≡ z → g ≡ file_design file →
          ReadsFont file is ks es ls (Answer.Font n k m (e - m) y' z' g) is' ks' es' ls'
      font_taken {y'} {z'} b l f =
          let v = d.values in
          let i : n ≡ (lengths_of file).nl = cc in
          let j : k ≡ (lengths_of file).nk = cc in
          let q : y' ≡ file_boundary file = cc in
          let o : z' ≡ file_left file = cc in
          let t : e - m ≡ length (lost_chars file) =
          ap (λ (x : ℕ). x - m) own ∙ sym (lost_count (file_instructions file) (file_entries file) (length (file_entries file) / 2) m half) in
          let x : refusal ≡ 0 = sym asked ∙ told.0 in
          record {
            answer = rw (t, i, j, q, o, f, told.1) (taken_reply (meant_values file) x);
            program = rw x d.program_list;
            kern_list = rw x d.kern_list;
            entry_list = entries_are;
            lost_list = lost-are;
          }
