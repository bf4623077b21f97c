-- The lettered reading of a pair gives the ops of its entry as nodes, and then goes on with what is behind the pair.
-- Assumes nothing.
use mathlib.Core.Path.{◌≡◌, refl, sym, ap, ◌∙◌}
use mathlib.Core.Bool.{Bool, true, false, cond}
use mathlib.Core.List.{List, [], ◌∷◌, ◌++◌}
use Prim.Native.Nat.{ℕ, zero, suc, ◌+◌, ◌<◌}
use native.Mathlib.Nat.{zero-add, suc-add}
use native.Mathlib.Omega.{arith}
use lib.ListN.{length}
use Rattle.reading.specs.Items.{Rule, Rules, Item, item, plain, inserted, code, Head, edge, at, key, head, Out}
use Rattle.reading.specs.Reading.{Act, act, done, read}
use Rattle.reading.proofs.Steps.{key_head, turn_done, nothing_right}
use Rattle.main_loops.specs.Nodes.{Node}
use Rattle.main_loops.proofs.Lettered.{Mark, made, code_of, letters_of, is_last, Place, on, place_key, lft_after, rt_hit, Text, text, step_by, read_text}
use Rattle.main_loop_pairs.proofs.Held.{Held, hold, give_all, head_flag_of}
use Rattle.main_loop_pairs.proofs.Pairs.{ends_by, none_read, Tail, came, became, under, Fore, First, fore, Stands, fresh, kept, new, over_new, over_came}
use Rattle.main_loop_pairs.proofs.Pairs.{Stepped, fore_codes, any_step}

-- the reading comes from one text to another
pub record Comes (rule : Rules) (t : Text) (right : List Mark) (v : Text) : Type 0 where
  pub steps : ℕ
  pub then : (k : ℕ) → read_text rule (steps + k) t right ≡ read_text rule k v v.right

tail_some : {y₀ : Mark} {ys : List Mark} {Y : List Item} → Tail y₀ ys Y → (0 < length ys) × (0 < length Y)
tail_some came = (omega arith, omega arith)
tail_some (became c) = (omega arith, omega arith)
tail_some (under c ys Y t) = (omega arith, omega arith)

tail_codes : {y₀ y : Mark} {ys : List Mark} {z : Item} {Y : List Item} → Tail y₀ (y ∷ ys) (z ∷ Y) → code_of y ≡ code z
tail_codes came = refl
tail_codes (became c) = refl
tail_codes (under c ys Y t) = refl

-- the last item of a pair, left of the cursor
abbrev pub end_place : Mark → Head → List ℕ → Place
end_place y₀ edge ls = on y₀
end_place y₀ (at (item false c)) ls = on y₀
end_place y₀ (at (item true c)) ls = on (made c (ls ++ letters_of y₀))

-- what stands where a pair has ended
abbrev pub end_text : Mark → Held → Head → List Mark → Text
end_text y₀ h u zs =
    text h.nodes (cond (head_flag_of u) h.lft false) (cond (is_last y₀) (head_flag_of u) false) (end_place y₀ u h.letters) zs

module _ (x₀ : Place) (lft₀ : Bool) (y₀ : Mark) where
  -- the rule is the same
  same_rule : (rule : Rules) {x : Place} {lft rt : Bool} {X : Head} {h : Held} {y : Mark} {ys : List Mark} {z : Item} {Y : List Item} →
      Stands x₀ lft₀ y₀ x lft rt X h (y ∷ ys) (z ∷ Y) → rule (place_key x) (code_of y) ≡ rule (key X) (code z)
  same_rule rule (fresh ns) = rw (key_head (place_key x₀)) refl
  same_rule rule (kept ns f) = rw (key_head (place_key x₀), fore_codes f) refl
  same_rule rule (new ns own c ls lft t) = rw (tail_codes t) refl

  none_left : {x : Place} {lft rt : Bool} {X : Head} {h : Held} {z : Item} {Y : List Item} → Stands x₀ lft₀ y₀ x lft rt X h [] (z ∷ Y) → ⊥
  none_left (new ns own c ls lft t) = omega (arith, (tail_some t).0)

  none_right : {x : Place} {lft rt : Bool} {X : Head} {h : Held} {y : Mark} {ys : List Mark} → Stands x₀ lft₀ y₀ x lft rt X h (y ∷ ys) [] → ⊥
  none_right (new ns own c ls lft t) = omega (arith, (tail_some t).1)

  or_none : (b : Bool) → cond b true false ≡ b
  or_none true = refl
  or_none false = refl

  and_none : (b : Bool) → cond b false false ≡ false
  and_none true = refl
  and_none false = refl

  over_text : {x : Place} {lft rt : Bool} {X : Head} {h : Held} → Stands x₀ lft₀ y₀ x lft rt X h [] [] → (zs : List Mark) →
      text h.nodes lft rt x zs ≡ end_text y₀ h X zs
  over_text (new ns own c ls lft t) zs = absurd (omega (arith, (tail_some t).0))
  over_text (over_new ns own c ls lft) zs = rw (or_none (is_last y₀)) refl
  over_text (over_came h) zs = rw (and_none (is_last y₀)) refl

  module _ (settled : lft_after lft₀ x₀ ≡ false) (hit₀ : rt_hit false (is_last y₀) x₀ ≡ is_last y₀) (rule : Rules) (zs : List Mark) where
    abbrev Phase : ℕ → Type 0
    Phase n =
        (x : Place) (lft rt : Bool) (X : Head) (h : Held) (ys : List Mark) (Y : List Item) (os : List Out) (u : Head) →
        Stands x₀ lft₀ y₀ x lft rt X h ys Y → read rule n X Y ≡ done os u →
        Comes rule (text h.nodes lft rt x (ys ++ zs)) (ys ++ zs) (end_text y₀ (give_all (ends_by (is_last y₀) u) h os) u zs)

    -- nothing is right of the cursor
    phase-over : (n : ℕ) (x : Place) (lft rt : Bool) (X : Head) (h : Held) (os : List Out) (u : Head) →
        Stands x₀ lft₀ y₀ x lft rt X h [] [] → read rule n X [] ≡ done os u →
        Comes rule (text h.nodes lft rt x zs) zs (end_text y₀ (give_all (ends_by (is_last y₀) u) h os) u zs)
    unfolding give_all
    phase-over n x lft rt X h os u s e =
        let q = nothing_right rule n X in
        let v : X ≡ u = cc in
        let o : os ≡ [] = cc in
        record {
          steps = 0;
          then = λ k. rw (o, ← v) (ap (λ (m : ℕ). read_text rule m (text h.nodes lft rt x zs) zs) (zero-add k)
              ∙ ap (λ (t : Text). read_text rule k t zs) (over_text s zs));
        }

    -- one step, and the rest
    phase-step : (n : ℕ) → Phase n → (x : Place) (lft rt : Bool) (X : Head) (h : Held) (y : Mark) (ys : List Mark) (z : Item) (Y : List Item) (os : List Out)
        (u : Head) → Stands x₀ lft₀ y₀ x lft rt X h (y ∷ ys) (z ∷ Y) → read rule (suc n) X (z ∷ Y) ≡ done os u →
        Comes rule (text h.nodes lft rt x (y ∷ ys ++ zs)) (y ∷ ys ++ zs) (end_text y₀ (give_all (ends_by (is_last y₀) u) h os) u zs)
    unfolding read_text
    phase-step n ih x lft rt X h y ys z Y os u s e =
        let t = turn_done rule n X z Y e in
        let R = rule (key X) (code z) in
        let d = any_step x₀ lft₀ y₀ settled hit₀ rule n t.0 u zs R s t.1 in
        let i = ih d.left d.lft d.rt (act R X z).left d.held d.right ((act R X z).back ++ Y) t.0 u d.stands t.1 in
        record {
          steps = suc i.steps;
          then =
              λ k.
              ap (λ (m : ℕ). read_text rule m (text h.nodes lft rt x (y ∷ ys ++ zs)) (y ∷ ys ++ zs)) (suc-add i.steps k)
              ∙ ap (λ (Q : Rule). read_text rule (i.steps + k) (step_by Q h.nodes lft rt x (is_last y) y (ys ++ zs))
              (step_by Q h.nodes lft rt x (is_last y) y (ys ++ zs)).right) (same_rule rule s)
              ∙ ap (λ (v : Text). read_text rule (i.steps + k) v v.right) d.text_is
              ∙ i.then k
              ∙ ap (λ (g : Held). read_text rule k (end_text y₀ g u zs) zs)
              (sym (ap (give_all (ends_by (is_last y₀) u) h) t.2 ∙ d.gives));
        }

    pub phase : (n : ℕ) → Phase n
    phase zero x lft rt X h [] [] os u s e = phase-over zero x lft rt X h os u s e
    phase zero x lft rt X h [] (z ∷ Y) os u s e = absurd (none_left s)
    phase zero x lft rt X h (y ∷ ys) [] os u s e = absurd (none_right s)
    phase zero x lft rt X h (y ∷ ys) (z ∷ Y) os u s e = absurd (none_read rule X z Y e)
    phase (suc n) x lft rt X h [] [] os u s e = phase-over (suc n) x lft rt X h os u s e
    phase (suc n) x lft rt X h [] (z ∷ Y) os u s e = absurd (none_left s)
    phase (suc n) x lft rt X h (y ∷ ys) [] os u s e = absurd (none_right s)
    phase (suc n) x lft rt X h (y ∷ ys) (z ∷ Y) os u s e = phase-step n (phase n) x lft rt X h y ys z Y os u s e
