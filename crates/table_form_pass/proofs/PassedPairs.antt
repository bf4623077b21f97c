-- The pass over the pairs of a table tests the form: what holds where some pairs are passed, and what follows at the next pair and at the end.
-- Assumes nothing.
use mathlib.Core.Path.{◌≡◌, refl, sym, ◌∙◌}
use mathlib.Core.Bool.{Bool, true, false, cond}
use mathlib.Core.List.{List}
use Prim.Native.Nat.{ℕ, zero, suc, ◌+◌, ◌^◌, ◌<◌, ◌≤◌}
use native.Mathlib.Nat.{add-zero}
use native.Mathlib.Numerals.{add-one}
use native.Mathlib.Omega.{arith}
use lib.IntN.{ℤ}
use lib.Dec.{ltb, leb, eqb}
use borrow.Author.Tests.{lt-ltb, le-leb, leb-true, eq-eqb, eqb-true}
use Rattle.words.specs.Words.{Word, word_of}
use Rattle.lang.specs.Every.{both, every}
use Rattle.lang.specs.Records.{within, absent_or}
use Rattle.lang.proofs.Every.{both_left, both_right, both_false, every_none, every_more, every_at}
use Rattle.lang.proofs.Records.{within_bound}
use Rattle.reading.specs.Items.{Left, Item, item}
use Rattle.reading.specs.Form.{last_form, ops_form, formed}
use Rattle.fonts.specs.Fonts.{left_of}
use Rattle.captions.specs.Tables.{pair_count, op_count, number, left_place, key_at, first_op, count_of, last_code, last_flag, ops_from, entry_of_pair, op_holds, op_fits}
use Rattle.captions.specs.Tables.{record_fits}
use Rattle.captions.specs.Form.{ops_end, comes_after, key_form, pair_form}
use Rattle.table_numbers.specs.Parts.{last_fits}
use Rattle.table_numbers.proofs.Records.{record_by}
use Rattle.table_form_pass.specs.Parts.{ops_hold, pair_passes, least_at, content_form}
use Rattle.table_form_pass.proofs.KeyLaws.{after_least, not_after}
use Rattle.table_form_pass.proofs.Entries.{record_last, record_end}

-- ---- ops that hold what their kinds must, one pair's after the other's

pub hold_more : (ops : List ℤ) (i n : ℕ) → every i (op_fits ops) ≡ true → i + n ≤ op_count ops → ops_hold ops i n ≡ true → every (i + n) (op_fits ops) ≡ true
unfolding ops_hold
hold_more ops i zero t h e = rw (add-zero i) t
hold_more ops i (suc n) t h e =
    let f : op_fits ops i ≡ true = rw (lt-ltb i (op_count ops) (omega arith)) (both_left (op_holds ops i) (ops_hold ops (suc i) n) e) in
    let j : i + suc n ≡ suc i + n = omega arith in
    rw j (hold_more ops (suc i) n (rw add-one at (every_more i (op_fits ops) t f)) (omega arith) (both_right (op_holds ops i) (ops_hold ops (suc i) n) e))

pub hold_of : (ops : List ℤ) (i n : ℕ) → every (op_count ops) (op_fits ops) ≡ true → i + n ≤ op_count ops → ops_hold ops i n ≡ true
unfolding ops_hold
hold_of ops i zero t h = refl
hold_of ops i (suc n) t h =
    rw (
      both_right (ltb i (op_count ops)) (op_holds ops i) (every_at (op_count ops) i (op_fits ops) t (omega arith)),
      hold_of ops (suc i) n t (omega arith),
    )

-- ---- one pair

module _ (pairs ops : List ℤ) (k : ℕ) where
  abbrev L : Left
  L = left_of (left_place (number pairs k 0))

  abbrev X : Item
  X = item (last_flag pairs k) (last_code pairs k)

  -- a last that fits is of the form
  last_form_lem : last_fits pairs k ≡ true → last_form (word_of (number pairs k 1)) X ≡ true
  last_form_lem u = go (last_flag pairs k) refl
    where
      go : (f : Bool) → last_flag pairs k ≡ f → last_form (word_of (number pairs k 1)) (item f (last_code pairs k)) ≡ true
      go true e = refl
      go false e =
          let v = both_right (within 255 (number pairs k 2))
          (both (within 1 (number pairs k 3)) (cond (last_flag pairs k) true (eqb (last_code pairs k) (word_of (number pairs k 1))))) u in
          rw e at (both_right (within 1 (number pairs k 3)) (cond (last_flag pairs k) true (eqb (last_code pairs k) (word_of (number pairs k 1)))) v)

  -- what a pair that passes has, part by part
  pub record Passes (at : ℕ) : Type 0 where
    pub left : absent_or 255 (number pairs k 0) ≡ true
    pub right : within 255 (number pairs k 1) ≡ true
    pub last : last_fits pairs k ≡ true
    pub begins : first_op pairs k ≡ at
    pub ends : at + count_of pairs k ≤ op_count ops
    pub hold : ops_hold ops at (count_of pairs k) ≡ true
    pub form : ops_form L (ops_from ops at (count_of pairs k)) X ≡ true

  module _ (at : ℕ) where
    abbrev H : Bool
    H = ops_hold ops at (count_of pairs k)

    abbrev F : Bool
    F = ops_form L (ops_from ops at (count_of pairs k)) X

    abbrev E : Bool
    E = leb (at + count_of pairs k) (op_count ops)

    pub passes : pair_passes pairs ops k at ≡ true → Passes at
    passes t =
        let a = absent_or 255 (number pairs k 0) in
        let w = within 255 (number pairs k 1) in
        let l = last_fits pairs k in
        let b = eqb (first_op pairs k) at in
        let t1 : both w (both l (both b (both E (both H F)))) ≡ true = both_right a (both w (both l (both b (both E (both H F))))) t in
        let t2 : both l (both b (both E (both H F))) ≡ true = both_right w (both l (both b (both E (both H F)))) t1 in
        let t3 : both b (both E (both H F)) ≡ true = both_right l (both b (both E (both H F))) t2 in
        let t4 : both E (both H F) ≡ true = both_right b (both E (both H F)) t3 in
        let t5 : both H F ≡ true = both_right E (both H F) t4 in
        record {
          left = both_left a (both w (both l (both b (both E (both H F))))) t;
          right = both_left w (both l (both b (both E (both H F)))) t1;
          last = both_left l (both b (both E (both H F))) t2;
          begins = eqb-true (first_op pairs k) at (both_left b (both E (both H F)) t3);
          ends = leb-true (at + count_of pairs k) (op_count ops) (both_left E (both H F) t4);
          hold = both_left H F t5;
          form = both_right H F t5;
        }

    pub passing : Passes at → pair_passes pairs ops k at ≡ true
    passing s =
        rw (
          s.left,
          s.right,
          s.last,
          eq-eqb (first_op pairs k) at s.begins,
          le-leb (at + count_of pairs k) (op_count ops) s.ends,
          s.hold,
          s.form,
        )

    -- its key is small
    pub key_small : Passes at → key_at pairs k + 1 < 2 ^ 64
    key_small s = omega (arith, within_bound 255 (number pairs k 1) s.right)

    module _ (e : at ≡ ops_end pairs k) where
      -- it is of the form, where it comes after the pair before it
      pub passes_form : Passes at → comes_after pairs k ≡ true → pair_form pairs ops k ≡ true
      passes_form s a =
          let r : record_fits pairs ops k ≡ true = sym (record_by pairs ops k)
          ∙ rw (s.last, s.begins, le-leb (at + count_of pairs k) (op_count ops) s.ends) in
          let f : formed L (word_of (number pairs k 1)) (entry_of_pair pairs ops k) ≡ true = rw (last_form_lem s.last, s.begins) s.form in
          rw (s.left, s.right, a, r, eq-eqb (first_op pairs k) (ops_end pairs k) (s.begins ∙ e), f)

      -- a pair of the form passes, where every op fits
      pub form_passes : pair_form pairs ops k ≡ true → every (op_count ops) (op_fits ops) ≡ true → Passes at
      form_passes t o =
          let a = absent_or 255 (number pairs k 0) in
          let w = within 255 (number pairs k 1) in
          let r = record_fits pairs ops k in
          let b = eqb (first_op pairs k) (ops_end pairs k) in
          let f = formed L (word_of (number pairs k 1)) (entry_of_pair pairs ops k) in
          let key : key_form pairs k ≡ true = both_left (key_form pairs k) (both r (both b f)) t in
          let t1 : both r (both b f) ≡ true = both_right (key_form pairs k) (both r (both b f)) t in
          let t2 : both b f ≡ true = both_right r (both b f) t1 in
          let fits : record_fits pairs ops k ≡ true = both_left r (both b f) t1 in
          let u : last_fits pairs k ≡ true = record_last pairs ops k fits in
          let q : first_op pairs k ≡ at = eqb-true (first_op pairs k) (ops_end pairs k) (both_left b f t2) ∙ sym e in
          let d : first_op pairs k + count_of pairs k ≤ op_count ops = record_end pairs ops k fits in
          let d' : at + count_of pairs k ≤ op_count ops = omega arith in
          record {
            left = both_left a (both w (comes_after pairs k)) key;
            right = both_left w (comes_after pairs k) (both_right a (both w (comes_after pairs k)) key);
            last = u;
            begins = q;
            ends = d';
            hold = hold_of ops at (count_of pairs k) o d';
            form = rw (last_form_lem u, q) at (both_right b f t2);
          }

-- ---- the pairs passed

-- the first k pairs are of the form, and their ops, which end at op at, fit
pub record Passed (pairs ops : List ℤ) (k least at : ℕ) : Type 0 where
  pub here : at ≡ ops_end pairs k
  pub inside : at ≤ op_count ops
  pub bound : least ≡ least_at pairs k
  pub pairs_form : every k (pair_form pairs ops) ≡ true
  pub ops_fit_lem : every at (op_fits ops) ≡ true

module _ (pairs ops : List ℤ) where
  pub passed_none : Passed pairs ops 0 0 0
  passed_none =
      record { here = refl; inside = omega arith; bound = refl; pairs_form = every_none (pair_form pairs ops); ops_fit_lem = every_none (op_fits ops) }

  module _ {k least at : ℕ} (s : Passed pairs ops k least at) where
    pub passed_more : {key count : ℕ} → key ≡ key_at pairs k → least ≤ key → pair_passes pairs ops k at ≡ true → Word (number pairs k 5) count →
        Passed pairs ops (k + 1) (key + 1) (at + count)
    passed_more {key} {count} e h t w =
        let p = passes pairs ops k at t in
        let a : comes_after pairs k ≡ true = after_least pairs k (omega (arith, s.bound)) in
        let c : count ≡ count_of pairs k = w.is in
        record {
          here = rw (add-one k) (omega (arith, p.begins));
          inside = omega (arith, p.ends);
          bound = rw (add-one k, e);
          pairs_form = every_more k (pair_form pairs ops) s.pairs_form (passes_form pairs ops k at s.here p a);
          ops_fit_lem = rw c (hold_more ops at (count_of pairs k) s.ops_fit_lem p.ends p.hold);
        }

    -- what a table of the form has at the next pair
    next-form : k < pair_count pairs → content_form pairs ops ≡ true → pair_form pairs ops k ≡ true
    next-form h t =
        let a = every (op_count ops) (op_fits ops) in
        let b = every (pair_count pairs) (pair_form pairs ops) in
        let c = eqb (ops_end pairs (pair_count pairs)) (op_count ops) in
        every_at (pair_count pairs) k (pair_form pairs ops) (both_left b c (both_right a (both b c) t)) h

    next_fits : content_form pairs ops ≡ true → every (op_count ops) (op_fits ops) ≡ true
    next_fits t =
        both_left (every (op_count ops) (op_fits ops)) (both (every (pair_count pairs) (pair_form pairs ops)) (eqb (ops_end pairs (pair_count pairs)) (op_count ops)))
        t

    -- a pair that does not come after the one before it
    pub passed_key : k < pair_count pairs → key_at pairs k < least → content_form pairs ops ≡ false
    passed_key h l = go (content_form pairs ops) refl
      where
        go : (t : Bool) → content_form pairs ops ≡ t → t ≡ false
        go true e =
            let key = both_left (key_form pairs k) _ (next-form h e) in
            let w = within 255 (number pairs k 1) in
            let a = both_right w (comes_after pairs k) (both_right (absent_or 255 (number pairs k 0)) (both w (comes_after pairs k)) key) in
            sym a ∙ not_after pairs k (omega (arith, s.bound))
        go false e = refl

    -- a pair that does not pass
    pub passed_pair : k < pair_count pairs → pair_passes pairs ops k at ≡ false → content_form pairs ops ≡ false
    passed_pair h f = go (content_form pairs ops) refl
      where
        go : (t : Bool) → content_form pairs ops ≡ t → t ≡ false
        go true e = sym (passing pairs ops k at (form_passes pairs ops k at s.here (next-form h e) (next_fits e))) ∙ f
        go false e = refl

    -- the end of the pairs
    pub passed_all : pair_count pairs ≡ k → eqb at (op_count ops) ≡ content_form pairs ops
    passed_all n = go (eqb at (op_count ops)) refl
      where
        go : (t : Bool) → eqb at (op_count ops) ≡ t → t ≡ content_form pairs ops
        go true e =
            let q : op_count ops ≡ at = sym (eqb-true at (op_count ops) e) in
            let o : every (op_count ops) (op_fits ops) ≡ true = rw q s.ops_fit_lem in
            rw (o, n, s.pairs_form, ← s.here, e)
        go false e = rw (n, s.pairs_form, ← s.here, e) (sym (both_false (every (op_count ops) (op_fits ops))))
