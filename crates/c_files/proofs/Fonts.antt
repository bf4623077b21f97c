-- Laws of what reading a font file tells: the edges and the counts over zeros, and the lists kept or zeroed by the number. Assumes nothing.
use mathlib.Core.Path.{◌≡◌, refl, sym, ap, ◌∙◌}
use mathlib.Core.List.{List, [], ◌∷◌}
use Prim.Native.Nat.{ℕ, zero, suc, ◌/◌, ◌≤◌}
use native.Mathlib.Omega.{arith}
use lib.IntN.{ℤ, pos}
use lib.ListN.{length, length-replicate, replicate}
use lib.Seq.{sets}
use Rattle.lang.specs.Checks.{lower}
use Rattle.lang.specs.Answers.{Reply, reply_of, room_refusal, list_of}
use Rattle.lang.proofs.Refusals.{or_else_none, room_fits, lower_first, lower_none}
use Rattle.lang.proofs.Filled.{refused_list}
use Rattle.files.specs.declared.Deserialized.{Deserialized}
use Rattle.files.specs.declared.Deserialized.TheVariants.{Font, Refused}
use Rattle.files.specs.Lengths.{lengths_of}
use Rattle.files.specs.Reading.{file_instructions, file_kerns, file_entries, file_boundary, file_left, font_values}
use Rattle.files.specs.Reading.{deserialized_reply, deserialize_refusal, Deserializes}
use Rattle.c_values.specs.Telling.{kept}
use Rattle.c_values.proofs.Telling.{none_listed, listed, reply_number, kept_list}
use Rattle.c_files.specs.Files.{fixed_refusal, edges_of, file_counts, TellsFont, HostDeserializes}

-- ---- the number, the edges and the counts, told

-- two edges and three counts have room
pub fixed_fits : (edges counts : ℕ) {r : ℕ} → r ≡ fixed_refusal edges counts → r ≡ 0 → (2 ≤ edges) × (3 ≤ counts)
fixed_fits edges counts e z =
    let n = or_else_none (room_refusal 2 edges) (room_refusal 3 counts) (sym e ∙ z) in
    (room_fits 2 edges n.0, room_fits 3 counts n.1)

module _ (edges : List ℤ) (counts : List ℕ) {y : List ℤ} {z : List ℕ} {fixed : ℕ} (a : y ≡ replicate (length edges) (pos 0))
    (b : z ≡ replicate (length counts) 0) (f : fixed ≡ fixed_refusal (length y) (length z)) where
  -- the lists are as long as they were lent
  lent : fixed ≡ fixed_refusal (length edges) (length counts)
  lent =
      f
      ∙ (λ j. fixed_refusal ((ap length a ∙ length-replicate (length edges) (pos 0)) j) ((ap length b ∙ length-replicate (length counts) 0) j))

  pub font_refused : (n : ℕ) {r : ℕ} → r ≡ lower fixed n → TellsFont (Refused n) edges counts r y z
  font_refused n {r} e =
      record {
        number = e ∙ ap (λ (m : ℕ). lower m n) lent;
        edge_list = none_listed (pos 0) (length edges) r a;
        count_list = none_listed 0 (length counts) r b;
      }

  module _ (i k e : ℕ) (boundary left : ℤ) where
    pub font_short : (fixed ≡ 0 → ⊥) → TellsFont (Font i k e boundary left) edges counts fixed y z
    font_short h =
        record {
          number = lent ∙ lower_first (fixed_refusal (length edges) (length counts)) 0 refl;
          edge_list = refused_list (pos 0) (length edges) (boundary ∷ left ∷ []) {m = fixed} refl h a;
          count_list = refused_list 0 (length counts) (i ∷ k ∷ e ∷ []) {m = fixed} refl h b;
        }

    pub font_told : fixed ≡ 0 → {y' : List ℤ} {z' : List ℕ} → y' ≡ sets y 0 (boundary ∷ left ∷ []) → z' ≡ sets z 0 (i ∷ k ∷ e ∷ []) →
        TellsFont (Font i k e boundary left) edges counts 0 y' z'
    font_told h v w =
        let room = fixed_fits (length edges) (length counts) lent h in
        record {
          number = sym h ∙ lent ∙ lower_first (fixed_refusal (length edges) (length counts)) 0 refl;
          edge_list = listed (pos 0) (length edges) (boundary ∷ left ∷ []) {m = 0} refl a room.0 v;
          count_list = listed 0 (length counts) (i ∷ k ∷ e ∷ []) {m = 0} refl b room.1 w;
        }

-- ---- the contract

-- a list by a number that refuses, or of values that are the same
pub listed_alike : {A : Type 0} (o : A) (k n : ℕ) {xs ys : List A} → (n ≡ 0 → xs ≡ ys) → list_of n o k xs ≡ list_of n o k ys
listed_alike {A} o k zero e = ap (λ (l : List A). list_of 0 o k l) (e refl)
listed_alike o k (suc n) e = refl

-- the edges and the counts of an answer that is not refused are those of its reply
font_known : (font : Deserialized) (i k e : ℕ) (y z : ℤ) → deserialized_reply font ≡ reply_of 0 (pos i ∷ pos k ∷ pos e ∷ y ∷ z ∷ []) →
    (edges_of font ≡ y ∷ z ∷ []) × (file_counts font ≡ i ∷ k ∷ e ∷ [])
font_known (Font i' k' e' y' z') i k e y z h =
    let q : ◌≡◌ {A = List ℤ} (pos i' ∷ pos k' ∷ pos e' ∷ y' ∷ z' ∷ []) (pos i ∷ pos k ∷ pos e ∷ y ∷ z ∷ []) = ap (λ (r : Reply). r.values) h in
    (cc, cc)
font_known (Refused n) i k e y z h =
    let q : ◌≡◌ {A = List ℤ} [] (pos i ∷ pos k ∷ pos e ∷ y ∷ z ∷ []) = ap (λ (r : Reply). r.values) h in
    let o : ◌≡◌ {A = ℕ} 0 1 = cc in
    absurd (omega (arith, o))

module _ (file : List ℕ) (is ks es edges : List ℤ) (counts : List ℕ) where
  abbrev refusal : ℕ
  refusal = deserialize_refusal file (length is) (length ks) (length es)

  pub host_deserializes : {font : Deserialized} {r : ℕ} {is₁ is₂ ks₁ ks₂ es₁ es₂ edges' : List ℤ} {counts' : List ℕ} →
      Deserializes file is ks es font is₁ ks₁ es₁ → TellsFont font edges counts r edges' counts' → length is₁ ≡ length is → length ks₁ ≡ length ks →
      length es₁ ≡ length es → is₂ ≡ kept r (pos 0) is₁ → ks₂ ≡ kept r (pos 0) ks₁ → es₂ ≡ kept r (pos 0) es₁ →
      HostDeserializes file is ks es edges counts r is₂ ks₂ es₂ edges' counts'
  host_deserializes {font} {r} d t l m n a b c =
      let fixed = fixed_refusal (length edges) (length counts) in
      let own : (deserialized_reply font).number ≡ refusal = ap (λ (x : Reply). x.number) d.answer ∙ reply_number refusal (font_values file) in
      let number : r ≡ lower fixed refusal = t.number ∙ ap (lower fixed) own in
      let none : r ≡ 0 → refusal ≡ 0 = λ z. (lower_none fixed refusal (sym number ∙ z)).1 in
      let known : r ≡ 0 → (edges_of font ≡ file_boundary file ∷ file_left file ∷ []) × (file_counts font
      ≡ (lengths_of file).nl ∷ (lengths_of file).nk ∷ length (file_entries file) / 2 ∷ []) = λ z.
      font_known font (lengths_of file).nl (lengths_of file).nk (length (file_entries file) / 2) (file_boundary file) (file_left file)
      (d.answer ∙ ap (λ (x : ℕ). reply_of x (font_values file)) (none z)) in
      record {
        number = number;
        program = kept_list (pos 0) (length is) r refusal (file_instructions file) none d.program l a;
        kern_list = kept_list (pos 0) (length ks) r refusal (file_kerns file) none d.kern_list m b;
        entry_list = kept_list (pos 0) (length es) r refusal (file_entries file) none d.entry_list n c;
        edge_list = t.edge_list ∙ listed_alike (pos 0) (length edges) r (λ z. (known z).0);
        count_list = t.count_list ∙ listed_alike 0 (length counts) r (λ z. (known z).1);
      }
