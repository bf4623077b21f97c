-- The loop stops when the lettered reading ends, and then its nodes are those that the reading gives.
-- Assumes nothing.
use mathlib.Core.Path.{◌≡◌, refl, sym, ap, ◌∙◌}
use mathlib.Core.Bool.{Bool, true, false, cond}
use mathlib.Core.List.{List, [], ◌∷◌, ◌++◌, map}
use mathlib.Core.Logic.{◌⊎◌, inl, inr}
use mathlib.Core.Option.{Option, none, some}
use Prim.Native.Nat.{ℕ, zero, suc}
use native.Mathlib.Omega.{arith}
use Rattle.reading.specs.Items.{Rule, Rules}
use Rattle.main_loops.specs.Nodes.{Node, LigStack, null, character, pseudo, MainLoop, Jump, main_lig_loop, reswitch}
use Rattle.main_loops.specs.Loop.{is_null, do_command, lig_loop, turns}
use Rattle.main_loops.proofs.Lettered.{Mark, last, code_of, is_last, Place, start, on, place_key, Text, text, step_by, whole, LetteredRead, over, yet}
use Rattle.main_loops.proofs.Lettered.{read_text}
use Rattle.main_loops.proofs.Moving.{shows, marks, Stacked, empty, char, lettered, bare, Full, full_stacked, top_mark, behind, AtLoop}
use Rattle.main_loops.proofs.Turning.{AtStop, Shown, stopped, turned, turned_last, full_marks}

-- a stack is full, or null with the word fetched
split : {stack : LigStack} {rest : List ℕ} → Stacked stack rest → (Full stack rest) ⊎ ((stack ≡ null) × (rest ≡ []))
split empty = inr (refl, refl)
split (char c rest) = inl (char c rest)
split (lettered c l rest) = inl (lettered c l rest)
split (bare c link rest h) = inl (bare c link rest h)

full_top : {stack : LigStack} {rest : List ℕ} → Full stack rest → is_null stack ≡ is_last (top_mark stack)
full_top (char c rest) = refl
full_top (lettered c l rest) = refl
full_top (bare c link rest h) = refl

-- what main_lig_loop does by the search
full_turn : (rule : Rules) {stack : LigStack} {rest : List ℕ} → Full stack rest → (ns : List Node) (lft rt : Bool) (x : Place) (b : Option ℕ) →
    lig_loop rule (shows ns lft rt x stack b rest) ≡ do_command (rule (place_key x) (code_of (top_mark stack))) (shows ns lft rt x stack b rest)
full_turn rule (char c rest) ns lft rt start b = refl
full_turn rule (char c rest) ns lft rt (on y) b = refl
full_turn rule (lettered c l rest) ns lft rt start b = refl
full_turn rule (lettered c l rest) ns lft rt (on y) b = refl
full_turn rule (bare c link rest h) ns lft rt start b = refl
full_turn rule (bare c link rest h) ns lft rt (on y) b = refl

last_turn : (rule : Rules) (ns : List Node) (lft rt : Bool) (x : Place) (r : ℕ) →
    lig_loop rule (shows ns lft rt x null (some r) []) ≡ do_command (rule (place_key x) r) (shows ns lft rt x null (some r) [])
last_turn rule ns lft rt start r = refl
last_turn rule ns lft rt (on y) r = refl

shown_by : {j i : Jump} {t : Text} → j ≡ i → Shown i t → Shown j t
shown_by {j} {i} {t} e h = rw e h

-- the step of a text with y right of the cursor
abbrev pub step_text : Rules → Text → Mark → List Mark → Text
step_text rule t y ys = step_by (rule (place_key t.left) (code_of y)) t.given t.lft t.rt t.left (is_last y) y ys

-- one turn where something stands right of the cursor
goes_full : (rule : Rules) (t : Text) {stack : LigStack} {rest : List ℕ} (b : Option ℕ) (y : Mark) (ys : List Mark) → Full stack rest →
    y ∷ ys ≡ marks stack rest b → Shown (lig_loop rule (shows t.given t.lft t.rt t.left stack b rest)) (step_text rule t y ys)
goes_full rule t {stack} {rest} b y ys h e =
    let i : y ∷ ys ≡ top_mark stack ∷ behind stack rest b = e ∙ sym (full_marks h b) in
    let p : y ≡ top_mark stack = cc in
    let q : ys ≡ behind stack rest b = cc in
    shown_by (full_turn rule h t.given t.lft t.rt t.left b)
    (inl (rw (p, q, ← full_top h) (turned (rule (place_key t.left) (code_of (top_mark stack))) h t.given t.lft t.rt t.left b)))

goes_null : (rule : Rules) (t : Text) (b : Option ℕ) (y : Mark) (ys : List Mark) → y ∷ ys ≡ marks null [] b →
    Shown (lig_loop rule (shows t.given t.lft t.rt t.left null b [])) (step_text rule t y ys)
unfolding marks
goes_null rule t none y ys e = absurd (let z : ◌≡◌ {A = ℕ} 0 1 = cc in omega arith)
goes_null rule t (some r) y ys e =
    let p : y ≡ last r = cc in
    let q : ys ≡ [] = cc in
    shown_by (last_turn rule t.given t.lft t.rt t.left r)
    (rw (p, q) (turned_last (rule (place_key t.left) r) t.given t.lft t.rt t.left r))

ends_null : (rule : Rules) (t : Text) (b : Option ℕ) → [] ≡ marks null [] b →
    lig_loop rule (shows t.given t.lft t.rt t.left null b []) ≡ reswitch (whole t)
unfolding marks
ends_null rule t none e = stopped t.given t.lft t.rt t.left none
ends_null rule t (some r) e = absurd (let z : ◌≡◌ {A = ℕ} 0 1 = cc in omega arith)

ends_full : {stack : LigStack} {rest : List ℕ} (b : Option ℕ) → Full stack rest → [] ≡ marks stack rest b → ⊥
ends_full b h e =
    let i = e ∙ sym (full_marks h b) in
    let z : ◌≡◌ {A = ℕ} 0 1 = cc in omega arith

-- ---- one turn, of what a jump shows

-- at main_lig_loop with a state whose turn shows the step of the text, or stops with the text where it has ended
pub record Turns (rule : Rules) (j : Jump) (t : Text) (right : List Mark) : Type 0 where
  pub at : MainLoop
  pub jumps : j ≡ main_lig_loop at
  pub goes : (y : Mark) (ys : List Mark) → right ≡ y ∷ ys → Shown (lig_loop rule at) (step_text rule t y ys)
  pub ends : right ≡ [] → lig_loop rule at ≡ reswitch (whole t)

turns_by : (rule : Rules) {j : Jump} {t : Text} (h : AtLoop j t) → (Full h.stack h.rest) ⊎ ((h.stack ≡ null) × (h.rest ≡ [])) →
    Turns rule j t t.right
turns_by rule {j} {t} h (inl f) =
    record {
      at = shows t.given t.lft t.rt t.left h.stack h.bchar h.rest;
      jumps = h.jumps;
      goes = λ y ys e. goes_full rule t h.bchar y ys f (sym e ∙ h.marked);
      ends = λ e. absurd (ends_full h.bchar f (sym e ∙ h.marked));
    }
turns_by rule {j} {t} h (inr (e, i)) =
    let m : t.right ≡ marks null [] h.bchar = rw (e, i) at h.marked in
    record {
      at = shows t.given t.lft t.rt t.left null h.bchar [];
      jumps = rw (e, i) at h.jumps;
      goes = λ y ys k. goes_null rule t h.bchar y ys (sym k ∙ m);
      ends = λ k. ends_null rule t h.bchar (sym k ∙ m);
    }

pub one_turn : (rule : Rules) {j : Jump} {t : Text} → AtLoop j t → Turns rule j t t.right
one_turn rule h = turns_by rule h (split h.stacked)

-- ---- any number of turns

read_nothing : (rule : Rules) (n : ℕ) (t : Text) → read_text rule n t [] ≡ over (whole t)
unfolding read_text
read_nothing rule zero t = refl
read_nothing rule (suc n) t = refl

pub stays_out : (rule : Rules) (n : ℕ) (ns : List Node) → turns rule n (reswitch ns) ≡ reswitch ns
unfolding turns
stays_out rule zero ns = refl
stays_out rule (suc n) ns = refl

yet_not_over : {ns : List Node} → yet ≡ over ns → ⊥
yet_not_over {ns} e = let z : ◌≡◌ {A = ℕ} 0 1 = cc in omega arith

-- the loop stops within one turn more than the steps of a reading that has ended
abbrev StopsOver : Rules → ℕ → Type 0
StopsOver rule n = (j : Jump) (t : Text) → Shown j t → (ns : List Node) → read_text rule n t t.right ≡ over ns → turns rule (suc n) j ≡ reswitch ns

stops_loop : (rule : Rules) (n : ℕ) (j : Jump) (t : Text) (right : List Mark) → Turns rule j t right → (ns : List Node) → read_text rule n t right ≡ over ns →
    ((m : ℕ) → n ≡ suc m → StopsOver rule m) → turns rule (suc n) j ≡ reswitch ns
unfolding turns read_text
stops_loop rule zero j t [] h ns e ih = rw h.jumps (h.ends refl ∙ cc)
stops_loop rule zero j t (y ∷ ys) h ns e ih = absurd (yet_not_over e)
stops_loop rule (suc n) j t [] h ns e ih = rw h.jumps (ap (turns rule (suc n)) (h.ends refl) ∙ cc)
stops_loop rule (suc n) j t (y ∷ ys) h ns e ih = rw h.jumps (ih n refl (lig_loop rule h.at) (step_text rule t y ys) (h.goes y ys refl) ns e)

stops_out : (rule : Rules) (n : ℕ) (j : Jump) (t : Text) → AtStop j t → (ns : List Node) → read_text rule n t t.right ≡ over ns →
    turns rule (suc n) j ≡ reswitch ns
stops_out rule n j t h ns e =
    let k : over (whole t) ≡ over ns = sym (ap (read_text rule n t) h.nothing ∙ read_nothing rule n t) ∙ e in
    let w : whole t ≡ ns = cc in
    rw (h.jumps, w) (stays_out rule (suc n) ns)

pub stops_over : (rule : Rules) (n : ℕ) → StopsOver rule n
stops_over rule zero j t (inl h) ns e = stops_loop rule zero j t t.right (one_turn rule h) ns e (λ m i. absurd (let z : ◌≡◌ {A = ℕ} 0 1 = cc in omega arith))
stops_over rule zero j t (inr h) ns e = stops_out rule zero j t h ns e
stops_over rule (suc n) j t (inl h) ns e =
    stops_loop rule (suc n) j t t.right (one_turn rule h) ns e (λ m i. let k : n ≡ m = cc in rw k at (stops_over rule n))
stops_over rule (suc n) j t (inr h) ns e = stops_out rule (suc n) j t h ns e

-- a reading has ended after as many steps as the turns after which the loop has stopped
abbrev OverStops : Rules → ℕ → Type 0
OverStops rule n = (j : Jump) (t : Text) → Shown j t → (ns : List Node) → turns rule n j ≡ reswitch ns → read_text rule n t t.right ≡ over ns

over_loop : (rule : Rules) (n : ℕ) (j : Jump) (t : Text) (right : List Mark) → Turns rule j t right → (ns : List Node) → turns rule n j ≡ reswitch ns →
    ((m : ℕ) → n ≡ suc m → OverStops rule m) → read_text rule n t right ≡ over ns
unfolding turns read_text
over_loop rule zero j t right h ns e ih = absurd (let k = sym h.jumps ∙ e in let z : ◌≡◌ {A = ℕ} 0 1 = cc in omega arith)
over_loop rule (suc n) j t [] h ns e ih =
    let i : turns rule n (lig_loop rule h.at) ≡ reswitch ns = rw h.jumps at e in
    let k : turns rule n (reswitch (whole t)) ≡ reswitch ns = rw (h.ends refl) at i in
    let w : reswitch (whole t) ≡ reswitch ns = sym (stays_out rule n (whole t)) ∙ k in
    cc
over_loop rule (suc n) j t (y ∷ ys) h ns e ih =
    let i : turns rule n (lig_loop rule h.at) ≡ reswitch ns = rw h.jumps at e in
    ih n refl (lig_loop rule h.at) (step_text rule t y ys) (h.goes y ys refl) ns i

over_out : (rule : Rules) (n : ℕ) (j : Jump) (t : Text) → AtStop j t → (ns : List Node) → turns rule n j ≡ reswitch ns → read_text rule n t t.right ≡ over ns
over_out rule n j t h ns e =
    let i : turns rule n (reswitch (whole t)) ≡ reswitch ns = rw h.jumps at e in
    let w : reswitch (whole t) ≡ reswitch ns = sym (stays_out rule n (whole t)) ∙ i in
    let k : whole t ≡ ns = cc in
    ap (read_text rule n t) h.nothing ∙ read_nothing rule n t ∙ ap over k

pub over_stops : (rule : Rules) (n : ℕ) → OverStops rule n
over_stops rule zero j t (inl h) ns e = over_loop rule zero j t t.right (one_turn rule h) ns e (λ m i. absurd (let z : ◌≡◌ {A = ℕ} 0 1 = cc in omega arith))
over_stops rule zero j t (inr h) ns e = over_out rule zero j t h ns e
over_stops rule (suc n) j t (inl h) ns e =
    over_loop rule (suc n) j t t.right (one_turn rule h) ns e (λ m i. let k : n ≡ m = cc in rw k at (over_stops rule n))
over_stops rule (suc n) j t (inr h) ns e = over_out rule (suc n) j t h ns e
