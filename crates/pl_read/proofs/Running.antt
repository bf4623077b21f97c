-- Properties one after the other, and what is tested at the end.
-- Assumes nothing.
use mathlib.Core.Path.{◌≡◌, refl, sym, ap, ◌∙◌}
use mathlib.Core.Bool.{Bool, true, false, cond}
use mathlib.Core.List.{List}
use mathlib.Core.Option.{Option, none, some}
use Prim.Native.Nat.{ℕ, zero, suc, ◌+◌, ◌-◌, ◌*◌, ◌<◌, ◌≤◌}
use native.Mathlib.Omega.{arith}
use lib.IntN.{ℤ, negsuc}
use lib.Dec.{eqb, leb}
use lib.ListN.{length, drop, set, replicate, length-set}
use Rattle.lang.specs.Every.{both}
use Rattle.property_lists.specs.declared.Property.{Property}
use Rattle.property_lists.specs.declared.Property.TheVariants as property
use Rattle.property_lists.specs.declared.Progress.{Progress}
use Rattle.property_lists.specs.Properties.{property_at, least_bytes}
use Rattle.property_lists.specs.ListReading.{ListRead, reading_by, progress_by, may_label, may_end}
use Rattle.property_lists.specs.ListReading.{next_set, with_now}
use Rattle.property_lists.specs.ListReading.{applied, is_ended, nothing_read, read_all, list_finished, pl_read}
use Rattle.property_lists.specs.Indents.{good_indents}
use Rattle.std.specs.Prelude.{Option as Answer, Some, None}
use Rattle.pl_apply.specs.Standing.{overlay, Stands, Follows, on, stuck}
use Rattle.pl_read.specs.Going.{Going}
use Rattle.pl_apply.proofs.Laws.{overlay_set}

-- ---- a property makes no more steps than its bytes allow

let_some : {A : Type 0} (test : Bool) {u v : A} → cond test (some u) none ≡ some v → u ≡ v
let_some true e = cc
let_some false e = let n : ◌≡◌ {A = ℕ} 0 1 = cc in absurd (omega arith)

now_some : (l : ListRead) (test : Bool) {u : Progress} {v : ListRead} → with_now l (cond test (some u) none) ≡ some v → u ≡ v.now
now_some l true e = ap (λ (r : ListRead). r.now) (let_some true e)
now_some l false e = let n : ◌≡◌ {A = ℕ} 0 1 = cc in absurd (omega arith)

abbrev steps_of : ListRead → ℕ
steps_of r = r.now.steps

steps_bound : (p : Property) (l : ListRead) {r : ListRead} → applied p l ≡ some r → 4 * r.now.steps ≤ 4 * l.now.steps + least_bytes p
unfolding applied
steps_bound property.Comment l e = let s = ap steps_of (let_some true e) in omega (arith, s)
steps_bound (property.Boundary c) l e = let s = ap (λ (u : Progress). u.steps) (now_some l (eqb l.now.stage 0) e) in omega (arith, s)
steps_bound property.Table l e = let s = ap (λ (u : Progress). u.steps) (now_some l (leb l.now.stage 1) e) in omega (arith, s)
steps_bound property.Closed l e = let s = ap (λ (u : Progress). u.steps) (now_some l (eqb l.now.stage 2) e) in omega (arith, s)
steps_bound property.Ended l e = let n : ◌≡◌ {A = ℕ} 0 1 = cc in absurd (omega arith)
steps_bound (property.Label c) l e = let s = ap steps_of (let_some (may_label c l.now l.labels) e) in omega (arith, s)
steps_bound property.Stop l e = let s = ap steps_of (let_some (may_end l.now) e) in omega (arith, s)
steps_bound (property.Skip n) l e = let s = ap steps_of (let_some (both (may_end l.now) (leb n 127)) e) in omega (arith, s)
steps_bound (property.Ligature op right inserted) l e = let s = ap steps_of (let_some (eqb l.now.stage 2) e) in omega (arith, s)
steps_bound (property.Kern right bits) l e = let s = ap steps_of (let_some (eqb l.now.stage 2) e) in omega (arith, s)

some_bytes : (p : Property) → is_ended p ≡ false → 1 ≤ least_bytes p
some_bytes property.Ended e = let n : ◌≡◌ {A = ℕ} 0 1 = cc in absurd (omega arith)
some_bytes property.Closed e = omega arith
some_bytes property.Comment e = omega arith
some_bytes (property.Boundary c) e = omega arith
some_bytes property.Table e = omega arith
some_bytes (property.Label c) e = omega arith
some_bytes property.Stop e = omega arith
some_bytes (property.Skip n) e = omega arith
some_bytes (property.Ligature op right inserted) e = omega arith
some_bytes (property.Kern right bits) e = omega arith

-- only the end of the text has no bytes
pub no_bytes : (p : Property) → least_bytes p ≡ 0 → is_ended p ≡ true
no_bytes property.Ended e = refl
no_bytes property.Closed e = absurd (omega arith)
no_bytes property.Comment e = absurd (omega arith)
no_bytes (property.Boundary c) e = absurd (omega arith)
no_bytes property.Table e = absurd (omega arith)
no_bytes (property.Label c) e = absurd (omega arith)
no_bytes property.Stop e = absurd (omega arith)
no_bytes (property.Skip n) e = absurd (omega arith)
no_bytes (property.Ligature op right inserted) e = absurd (omega arith)
no_bytes (property.Kern right bits) e = absurd (omega arith)

pub any_bytes : (p : Property) → (least_bytes p ≡ 0 → ⊥) → is_ended p ≡ false
any_bytes property.Ended n = absurd (n refl)
any_bytes property.Closed n = refl
any_bytes property.Comment n = refl
any_bytes (property.Boundary c) n = refl
any_bytes property.Table n = refl
any_bytes (property.Label c) n = refl
any_bytes property.Stop n = refl
any_bytes (property.Skip n₁) n = refl
any_bytes (property.Ligature op right inserted) n = refl
any_bytes (property.Kern right bits) n = refl

-- ---- one after the other

pub going_start : (text : List ℕ) (z : List ℤ) {b : List ℤ} → b ≡ replicate 257 (negsuc 0) → Going text z (progress_by 0 4294967295 0 false 0) 0 z b
unfolding overlay
going_start text z e =
    record {
      read = nothing_read;
      stands =
          record { now_is = refl; stored = refl; labels_are = e; fours = refl; some_step = λ g. let n : ◌≡◌ {A = ℕ} 0 1 = cc in absurd (omega arith) };
      fuel = suc (length text);
      enough = omega arith;
      same = refl;
      within = omega arith;
      few = omega arith;
    }

abbrev all_read : List ℕ → Option ListRead
all_read text = read_all (suc (length text)) nothing_read text

stuck_by : (f : ℕ) (l : ListRead) (bs : List ℕ) → property_at bs ≡ none → read_all f l bs ≡ none
unfolding read_all
stuck_by zero l bs e = refl
stuck_by (suc f) l bs e = rw e

done_by : (f : ℕ) (l : ListRead) (bs : List ℕ) {p : Property} {rest : List ℕ} → 0 < f → property_at bs ≡ some (p, rest) → is_ended p ≡ true → read_all f l bs
    ≡ some l
unfolding read_all
done_by zero l bs h e g = absurd (omega arith)
done_by (suc f) l bs h e g = rw (e, g)

none_by : (f : ℕ) (l : ListRead) (bs : List ℕ) {p : Property} {rest : List ℕ} → property_at bs ≡ some (p, rest) → is_ended p ≡ false → applied p l ≡ none →
    read_all f l bs ≡ none
unfolding read_all
none_by zero l bs e g h = refl
none_by (suc f) l bs e g h = rw (e, g, h)

more_by : (f : ℕ) (l : ListRead) (bs : List ℕ) {p : Property} {rest : List ℕ} {r : ListRead} → 0 < f → property_at bs ≡ some (p, rest) → is_ended p ≡ false →
    applied p l ≡ some r → read_all f l bs ≡ read_all (f - 1) r rest
unfolding read_all
more_by zero l bs h e g k = absurd (omega arith)
more_by (suc f) l bs {p} {rest} {r} h e g k =
    let s : suc f - 1 ≡ f = omega arith in
    rw (e, g, k, s)

module _ {text : List ℕ} {z : List ℤ} {s : Progress} {at : ℕ} {i b : List ℤ} (g : Going text z s at i b) where
  has_fuel : 0 < g.fuel
  has_fuel = omega (arith, g.enough, g.within)

  pub going_stuck : {i' b' : List ℤ} → property_at (drop at text) ≡ none → Follows z (all_read text) None i' b'
  going_stuck e = stuck (sym g.same ∙ stuck_by g.fuel g.read (drop at text) e)

  pub going_done : {p : Property} {rest : List ℕ} → property_at (drop at text) ≡ some (p, rest) → is_ended p ≡ true → Follows z (all_read text) (Some s) i b
  going_done e h = on (record { read = g.read; is = sym g.same ∙ done_by g.fuel g.read (drop at text) has_fuel e h; stands = g.stands })

  module _ {p : Property} {rest : List ℕ} (e : property_at (drop at text) ≡ some (p, rest)) (h : is_ended p ≡ false) where
    pub going_refused : {r : Answer Progress} {i₁ b₁ i' b' : List ℤ} → Follows z (applied p g.read) r i₁ b₁ → r ≡ None →
        Follows z (all_read text) None i' b'
    going_refused (on st) q = let x : ◌≡◌ {A = ℕ} 0 1 = cc in absurd (omega arith)
    going_refused (stuck k) q = stuck (sym g.same ∙ none_by g.fuel g.read (drop at text) e h k)

    pub going_on : {r : Answer Progress} {t : Progress} {n : ℕ} {i' b' : List ℤ} → Follows z (applied p g.read) r i' b' → r ≡ Some t → rest ≡ drop n text →
        at + least_bytes p ≤ n → n ≤ length text → Going text z t n i' b'
    going_on (stuck k) q d m w = let x : ◌≡◌ {A = ℕ} 0 1 = cc in absurd (omega arith)
    going_on {t = t} (on {s = u} st) q d m w =
        let x : u ≡ t = cc in
        rw (← x) (record {
          read = st.read;
          stands = st.stands;
          fuel = g.fuel - 1;
          enough = omega (arith, g.enough, some_bytes p h, m);
          same = rw (← d) (sym (more_by g.fuel g.read (drop at text) has_fuel e h st.is) ∙ g.same);
          within = w;
          few = omega (
            arith,
            ap (λ (v : Progress). v.steps) st.stands.now_is,
            ap (λ (v : Progress). v.steps) g.stands.now_is,
            steps_bound p g.read st.is,
            g.few,
            m,
          );
        })

-- ---- at the end

module _ {z : List ℤ} {l : ListRead} {s : Progress} {i b : List ℤ} (st : Stands z l s i b) where
  pub finish_open : eqb s.stage 2 ≡ true → {i' : List ℤ} → Follows z (list_finished l) None i' b
  finish_open e = stuck (rw (st.now_is, e))

  pub finish_short : eqb s.stage 2 ≡ false → leb s.needed s.steps ≡ false → {i' : List ℤ} → Follows z (list_finished l) None i' b
  finish_short e f = stuck (rw (st.now_is, e, f))

  pub finish_kept : eqb s.stage 2 ≡ false → leb s.needed s.steps ≡ true → s.ending ≡ false → Follows z (list_finished l) (Some s) i b
  finish_kept e f g =
      on (record {
        read = reading_by s l.program l.labels;
        is = rw (st.now_is, e, f, g);
        stands = record { now_is = refl; stored = st.stored; labels_are = st.labels_are; fours = st.fours; some_step = st.some_step };
      })

  pub finish_ended : eqb s.stage 2 ≡ false → leb s.needed s.steps ≡ true → s.ending ≡ true → {i' : List ℤ} →
      i' ≡ set i (4 * (s.steps - 1)) (negsuc 0) → Follows z (list_finished l) (Some s) i' b
  finish_ended e f g p =
      let some-steps : 1 ≤ s.steps = st.some_step g in
      on (record {
        read = reading_by s (next_set s.steps (negsuc 0) l.program) l.labels;
        is = rw (st.now_is, e, f, g);
        stands =
            record {
              now_is = refl;
              stored = p ∙ rw st.stored (sym (overlay_set l.program z (4 * (s.steps - 1)) (negsuc 0) (omega (arith, st.fours))));
              labels_are = st.labels_are;
              fours = length-set l.program (4 * (s.steps - 1)) (negsuc 0) ∙ st.fours;
              some_step = st.some_step;
            };
      })

-- the whole
module _ (text : List ℕ) {z : List ℤ} where
  pub scan_bad : good_indents text ≡ false → {i b : List ℤ} → Follows z (pl_read text) None i b
  scan_bad e = stuck (rw e)
