-- What reading a property list tells: the edges and the counts over zeros, and the lists kept or zeroed by the number. Assumes nothing.
use mathlib.Core.Path.{◌≡◌, refl, sym, ap, ◌∙◌}
use mathlib.Core.List.{List, [], ◌∷◌}
use mathlib.Core.Option.{Option, none, some}
use Prim.Native.Nat.{ℕ, ◌≤◌}
use native.Mathlib.Omega.{arith}
use lib.IntN.{ℤ, pos}
use lib.ListN.{length, length-replicate, replicate}
use lib.Seq.{sets}
use Rattle.lang.specs.Checks.{lower}
use Rattle.lang.specs.Answers.{Reply, reply_of, room_refusal, list_of}
use Rattle.lang.proofs.Refusals.{or_else_none, room_fits, lower_first, lower_none}
use Rattle.lang.proofs.Filled.{refused_list}
use Rattle.property_lists.specs.declared.Listed.{Listed}
use Rattle.property_lists.specs.declared.Listed.TheVariants.{Font, Refused}
use Rattle.property_lists.specs.ListReading.{ListRead, pl_read, pl_shared, pl_kerns, pl_entries, pl_values, pl_refusal, listed_reply, ReadsList}
use Rattle.c_values.specs.Telling.{kept}
use Rattle.c_values.proofs.Telling.{none_listed, listed, reply_number, kept_list}
use Rattle.c_files.proofs.Fonts.{listed_alike}
use Rattle.c_list_read.specs.Source.{list_fixed_refusal, pl_edges, pl_counts, listed_edges, listed_counts, TellsList, HostReadsList}

-- ---- the number, the edges and the counts, told

-- two edges and three counts have room
pub fixed_room : (edges counts : ℕ) {r : ℕ} → r ≡ list_fixed_refusal edges counts → r ≡ 0 → (2 ≤ edges) × (3 ≤ counts)
fixed_room edges counts e z =
    let n = or_else_none (room_refusal 2 edges) (room_refusal 3 counts) (sym e ∙ z) in
    (room_fits 2 edges n.0, room_fits 3 counts n.1)

module _ (edges : List ℤ) (counts : List ℕ) {y : List ℤ} {z : List ℕ} {fixed : ℕ} (a : y ≡ replicate (length edges) (pos 0))
    (b : z ≡ replicate (length counts) 0) (f : fixed ≡ list_fixed_refusal (length y) (length z)) where
  -- the lists are as long as they were lent
  lent : fixed ≡ list_fixed_refusal (length edges) (length counts)
  lent =
      f
      ∙ (λ j. list_fixed_refusal ((ap length a ∙ length-replicate (length edges) (pos 0)) j) ((ap length b ∙ length-replicate (length counts) 0) j))

  pub list_refused : (n : ℕ) {r : ℕ} → r ≡ lower fixed n → TellsList (Refused n) edges counts r y z
  list_refused n {r} e =
      record {
        number = e ∙ ap (λ (m : ℕ). lower m n) lent;
        edge_list = none_listed (pos 0) (length edges) r a;
        count_list = none_listed 0 (length counts) r b;
      }

  module _ (i k e : ℕ) (boundary left : ℤ) where
    pub list_short : (fixed ≡ 0 → ⊥) → TellsList (Font i k e boundary left) edges counts fixed y z
    list_short h =
        record {
          number = lent ∙ lower_first (list_fixed_refusal (length edges) (length counts)) 0 refl;
          edge_list = refused_list (pos 0) (length edges) (boundary ∷ left ∷ []) {m = fixed} refl h a;
          count_list = refused_list 0 (length counts) (i ∷ k ∷ e ∷ []) {m = fixed} refl h b;
        }

    pub list_told : fixed ≡ 0 → {y' : List ℤ} {z' : List ℕ} → y' ≡ sets y 0 (boundary ∷ left ∷ []) → z' ≡ sets z 0 (i ∷ k ∷ e ∷ []) →
        TellsList (Font i k e boundary left) edges counts 0 y' z'
    list_told h v w =
        let room = fixed_room (length edges) (length counts) lent h in
        record {
          number = sym h ∙ lent ∙ lower_first (list_fixed_refusal (length edges) (length counts)) 0 refl;
          edge_list = listed (pos 0) (length edges) (boundary ∷ left ∷ []) {m = 0} refl a room.0 v;
          count_list = listed 0 (length counts) (i ∷ k ∷ e ∷ []) {m = 0} refl b room.1 w;
        }

-- ---- the contract

-- the edges and the counts of an answer that is not refused are those of what was read
list_known : (font : Listed) (read : Option ListRead) (room more space : ℕ) → listed_reply font ≡ reply_of (pl_refusal read room more space) (pl_values read) →
    pl_refusal read room more space ≡ 0 → (listed_edges font ≡ pl_edges read) × (listed_counts font ≡ pl_counts read)
list_known font none room more space h n = absurd (omega (arith, n))
list_known (Font i k e y z) (some r) room more space h n =
    let q : ◌≡◌ {A = List ℤ} (pos i ∷ pos k ∷ pos e ∷ y ∷ z ∷ []) (pl_values (some r)) =
    ap (λ (x : Reply). x.values) h ∙ ap (λ (x : ℕ). (reply_of x (pl_values (some r))).values) n in
    (cc, cc)
list_known (Refused m) (some r) room more space h n =
    let q : ◌≡◌ {A = List ℤ} [] (pl_values (some r)) =
    ap (λ (x : Reply). x.values) h ∙ ap (λ (x : ℕ). (reply_of x (pl_values (some r))).values) n in
    let o : ◌≡◌ {A = ℕ} 0 1 = cc in
    absurd (omega (arith, o))

module _ (text : List ℕ) (is ks es edges : List ℤ) (counts : List ℕ) where
  abbrev refusal : ℕ
  refusal = pl_refusal (pl_read text) (length is) (length ks) (length es)

  pub host_reads : {font : Listed} {r : ℕ} {is₁ is₂ ks₁ ks₂ es₁ es₂ edges' : List ℤ} {counts' : List ℕ} → ReadsList text is ks es font is₁ ks₁ es₁ →
      TellsList font edges counts r edges' counts' → length is₁ ≡ length is → length ks₁ ≡ length ks → length es₁ ≡ length es → is₂ ≡ kept r (pos 0) is₁ →
      ks₂ ≡ kept r (pos 0) ks₁ → es₂ ≡ kept r (pos 0) es₁ → HostReadsList text is ks es edges counts r is₂ ks₂ es₂ edges' counts'
  host_reads {font} {r} d t l m n a b c =
      let fixed = list_fixed_refusal (length edges) (length counts) in
      let own : (listed_reply font).number ≡ refusal = ap (λ (x : Reply). x.number) d.answer ∙ reply_number refusal (pl_values (pl_read text)) in
      let number : r ≡ lower fixed refusal = t.number ∙ ap (lower fixed) own in
      let none : r ≡ 0 → refusal ≡ 0 = λ z. (lower_none fixed refusal (sym number ∙ z)).1 in
      let known : r ≡ 0 → (listed_edges font ≡ pl_edges (pl_read text)) × (listed_counts font ≡ pl_counts (pl_read text)) = λ z.
      list_known font (pl_read text) (length is) (length ks) (length es) d.answer (none z) in
      record {
        number = number;
        program = kept_list (pos 0) (length is) r refusal (pl_shared (pl_read text)) none d.program l a;
        kern_list = kept_list (pos 0) (length ks) r refusal (pl_kerns (pl_read text)) none d.shares m b;
        entry_list = kept_list (pos 0) (length es) r refusal (pl_entries (pl_read text)) none d.labels n c;
        edge_list = t.edge_list ∙ listed_alike (pos 0) (length edges) r (λ z. (known z).0);
        count_list = t.count_list ∙ listed_alike 0 (length counts) r (λ z. (known z).1);
      }
