-- The lettered reading of one pair: what its ops take in. The left's letters go to the first character that is given, the right's to the last item, and
-- what is inserted between them has none; so it is with the hits.
-- Assumes nothing.
use mathlib.Core.Path.{◌≡◌, refl, sym, ap, ◌∙◌}
use mathlib.Core.Bool.{Bool, true, false, cond, not}
use mathlib.Core.List.{List, [], ◌∷◌, ◌++◌, append-nil, append_assoc}
use mathlib.Core.Logic.{◌⊎◌, inl, inr}
use Prim.Native.Nat.{ℕ, zero, suc, ◌+◌}
use native.Mathlib.Omega.{arith}
use lib.IntN.{ℤ}
use Rattle.lang.specs.Every.{both}
use Rattle.lang.specs.declared.operation.PostLigOperation.TheVariants.{RetainBothMoveNowhere, RetainBothMoveToInserted, RetainBothMoveToRight}
use Rattle.lang.specs.declared.operation.PostLigOperation.TheVariants.{RetainRightMoveToInserted, RetainRightMoveToRight, RetainLeftMoveNowhere}
use Rattle.lang.specs.declared.operation.PostLigOperation.TheVariants.{RetainLeftMoveToInserted, RetainNeitherMoveToInserted}
use Rattle.lang.specs.declared.operation.PostLigOperation.{PostLigOperation}
use Rattle.reading.specs.Items.{Left, Rule, free, kerned, lig, Rules, Item, item, plain, inserted, code, Head, edge, at, key, head, Out, glyph, kern, fin}
use Rattle.reading.specs.Reading.{Act, act, Read, done, read}
use Rattle.reading.proofs.Steps.{turn_done, nothing_right}
use Rattle.main_loops.specs.Nodes.{Node, char_node, kern_node, ligature_node}
use Rattle.main_loops.specs.Loop.{subtype_of}
use Rattle.main_loops.proofs.Lettered.{Mark, letter, made, last, code_of, letters_of, is_last, Place, start, on, place_key, place_letters, node_of, lft_after, rt_after}
use Rattle.main_loops.proofs.Lettered.{lft_hit, rt_hit, Text, text, finish, finish_with, step_by, read_text}
use Rattle.main_loop_pairs.proofs.Held.{Held, hold, none_own, short, give_all, head_flag_of, some_glyph, no, glyph_long}

-- ---- an inserted item is given, or is the last

Given : List Out → Head → Type 0
Given os u = (some_glyph os ≡ true) ⊎ (head_flag_of u ≡ true)

turn_shown : (R : Rule) (c : ℕ) (y : Item) (os qs : List Out) (u : Head) → os ≡ (act R (at (inserted c)) y).outs ++ qs →
    ((d : ℕ) → (act R (at (inserted c)) y).left ≡ at (inserted d) → Given qs u) → Given os u
unfolding Given some_glyph
turn_shown free c y os qs u e ih = inl (rw e refl)
turn_shown (kerned k) c y os qs u e ih = inl (rw e refl)
turn_shown (lig RetainNeitherMoveToInserted d) c y os qs u e ih = rw e (ih d refl)
turn_shown (lig RetainRightMoveToInserted d) c y os qs u e ih = rw e (ih d refl)
turn_shown (lig RetainLeftMoveNowhere d) c y os qs u e ih = rw e (ih c refl)
turn_shown (lig RetainBothMoveNowhere d) c y os qs u e ih = rw e (ih c refl)
turn_shown (lig RetainRightMoveToRight d) c y os qs u e ih = inl (rw e refl)
turn_shown (lig RetainLeftMoveToInserted d) c y os qs u e ih = inl (rw e refl)
turn_shown (lig RetainBothMoveToInserted d) c y os qs u e ih = inl (rw e refl)
turn_shown (lig RetainBothMoveToRight d) c y os qs u e ih = inl (rw e refl)

pub none_read : (rule : Rules) (X : Head) (y : Item) (Y : List Item) {os : List Out} {u : Head} → read rule zero X (y ∷ Y) ≡ done os u → ⊥
unfolding read
none_read rule X y Y {os} {u} i = let z : ◌≡◌ {A = ℕ} 0 1 = cc in omega arith

ends_shown : (rule : Rules) (n : ℕ) (c : ℕ) {os : List Out} {u : Head} → read rule n (at (inserted c)) [] ≡ done os u → Given os u
unfolding Given
ends_shown rule n c {os} {u} e =
    let q : at (inserted c) ≡ u = cc (nothing_right rule n (at (inserted c))) in
    inr (rw (← q) refl)

inserted_shown : (rule : Rules) (n : ℕ) (c : ℕ) (Y : List Item) {os : List Out} {u : Head} → read rule n (at (inserted c)) Y ≡ done os u → Given os u
unfolding Given
inserted_shown rule zero c [] {os} {u} e = ends_shown rule zero c e
inserted_shown rule (suc n) c [] {os} {u} e = ends_shown rule (suc n) c e
inserted_shown rule zero c (y ∷ Y) e = absurd (none_read rule (at (inserted c)) y Y e)
inserted_shown rule (suc n) c (y ∷ Y) {os} {u} e =
    let t = turn_done rule n (at (inserted c)) y Y e in
    turn_shown (rule (key (at (inserted c))) (code y)) c y os t.0 u t.2
    (λ d i. inserted_shown rule n d ((act (rule (key (at (inserted c))) (code y)) (at (inserted c)) y).back ++ Y) (rw i at t.1))

-- whether the last of the ops is at the right boundary: at the word's end, where the last item is the right item as it came
abbrev pub ends_by : Bool → Head → Bool
ends_by e u = cond e (not (head_flag_of u)) false

not_ends : (e : Bool) (os : List Out) (u : Head) → Given os u → both (ends_by e u) (short os) ≡ false
unfolding Given
not_ends true os u (inl g) = rw (glyph_long os g) (both-none (not (head_flag_of u)))
  where
    both-none : (b : Bool) → both b false ≡ false
    both-none true = refl
    both-none false = refl
not_ends true os u (inr g) = rw g refl
not_ends false os u g = refl

after_kern : (os : List Out) (u : Head) (k : ℤ) → Given os u → Given (kern k ∷ os) u
unfolding Given some_glyph
after_kern os u k (inl g) = inl g
after_kern os u k (inr g) = inr g

-- the node of the left as it stands, by its code
abbrev pub own_of : Bool → Place → ℕ → List Node
own_of lft start c = char_node c ∷ []
own_of lft (on (letter d)) c = char_node c ∷ []
own_of lft (on (made d ls)) c = ligature_node c ls (subtype_of lft false) ∷ []
own_of lft (on (last r)) c = []

own_node : (lft : Bool) (y : Mark) → own_of lft (on y) (code_of y) ≡ node_of lft false (on y)
own_node lft (letter c) = refl
own_node lft (made c ls) = refl
own_node lft (last r) = refl

-- ---- what is right of the cursor

-- the right as it came, or a ligature in its place, behind any number of ligatures without letters; as items of the reading too
pub data Tail (y₀ : Mark) : List Mark → List Item → Type 0 where
  came : Tail y₀ (y₀ ∷ []) (plain (code_of y₀) ∷ [])
  became : (c : ℕ) → Tail y₀ (made c (letters_of y₀) ∷ []) (inserted c ∷ [])
  under : (c : ℕ) (ys : List Mark) (Y : List Item) → Tail y₀ ys Y → Tail y₀ (made c [] ∷ ys) (inserted c ∷ Y)

-- with a ligature first
pub data Fore (y₀ : Mark) : Mark → List Mark → Item → List Item → Type 0 where
  became : (c : ℕ) → Fore y₀ (made c (letters_of y₀)) [] (inserted c) []
  under : (c : ℕ) (ys : List Mark) (Y : List Item) → Tail y₀ ys Y → Fore y₀ (made c []) ys (inserted c) Y

-- ---- what stands, of the pair with x₀ on its left and y₀ on its right

pub data Stands (x₀ : Place) (lft₀ : Bool) (y₀ : Mark) : Place → Bool → Bool → Head → Held → List Mark → List Item → Type 0 where
  -- as it began
  fresh : (ns : List Node) →
      Stands x₀ lft₀ y₀ x₀ lft₀ false (head (place_key x₀)) (hold ns (own_of lft₀ x₀) (place_letters x₀) (lft_hit lft₀ x₀))
      (y₀ ∷ []) (plain (code_of y₀) ∷ [])
  -- the left as it stands, after an operation
  kept : (ns : List Node) {y : Mark} {ys : List Mark} {z : Item} {Y : List Item} → Fore y₀ y ys z Y →
      Stands x₀ lft₀ y₀ x₀ (lft_hit lft₀ x₀) (is_last y₀) (head (place_key x₀)) (hold ns (own_of lft₀ x₀) (place_letters x₀) (lft_hit lft₀ x₀))
      (y ∷ ys) (z ∷ Y)
  -- a ligature
  new : (ns : List Node) (own : ℕ → List Node) (c : ℕ) (ls : List ℕ) (lft : Bool) {ys : List Mark} {Y : List Item} → Tail y₀ ys Y →
      Stands x₀ lft₀ y₀ (on (made c ls)) lft (is_last y₀) (at (inserted c)) (hold ns own ls lft) ys Y
  -- the last item
  over_new : (ns : List Node) (own : ℕ → List Node) (c : ℕ) (ls : List ℕ) (lft : Bool) →
      Stands x₀ lft₀ y₀ (on (made c (ls ++ letters_of y₀))) lft (is_last y₀) (at (inserted c)) (hold ns own ls lft) [] []
  over_came : (h : Held) → Stands x₀ lft₀ y₀ (on y₀) false false (at (plain (code_of y₀))) h [] []

-- a step leads to what stands next, and its outs are the nodes that it gives
pub record Stepped (x₀ : Place) (lft₀ : Bool) (y₀ : Mark) (t : Text) (a : Act) (Y : List Item) (h : Held) (ends : Bool) (os : List Out) (zs : List Mark) :
    Type 0 where
  pub left : Place
  pub lft : Bool
  pub rt : Bool
  pub right : List Mark
  pub held : Held
  pub stands : Stands x₀ lft₀ y₀ left lft rt a.left held right (a.back ++ Y)
  pub text_is : t ≡ text held.nodes lft rt left (right ++ zs)
  pub gives : give_all ends h (a.outs ++ os) ≡ give_all ends held os

text_same : {ns ms : List Node} {a b c d : Bool} {x z : Place} (ys : List Mark) → ns ≡ ms → a ≡ b → c ≡ d → x ≡ z → text ns a c x ys ≡ text ms b d z ys
text_same ys e f g h = rw (e, f, g, h) refl

-- ---- the hits

hit_again : (lft : Bool) (x : Place) → lft_hit (lft_hit lft x) x ≡ lft_hit lft x
hit_again lft start = refl
hit_again lft (on y) = refl

rt_again : (e : Bool) (x : Place) → rt_hit e false x ≡ e
rt_again e start = refl
rt_again e (on y) = refl

true_or : (e : Bool) → cond e true e ≡ e
true_or true = refl
true_or false = refl

and_self : (e : Bool) → cond e e false ≡ e
and_self true = refl
and_self false = refl

none_either : (e : Bool) → cond e false false ≡ false
none_either true = refl
none_either false = refl

none_self : (e : Bool) → cond e false e ≡ false
none_self true = refl
none_self false = refl

own_same : (lft : Bool) (x : Place) → node_of (lft_hit lft x) false x ≡ node_of lft false x
own_same lft start = refl
own_same lft (on (letter c)) = refl
own_same lft (on (made c ls)) = refl
own_same lft (on (last r)) = refl

-- ---- what is first right of the cursor

pub data First (y₀ : Mark) : Mark → List Mark → Item → List Item → Type 0 where
  came : First y₀ y₀ [] (plain (code_of y₀)) []
  fore : {y : Mark} {ys : List Mark} {z : Item} {Y : List Item} → Fore y₀ y ys z Y → First y₀ y ys z Y

fore_tail : {y₀ y : Mark} {ys : List Mark} {z : Item} {Y : List Item} → Fore y₀ y ys z Y → Tail y₀ (y ∷ ys) (z ∷ Y)
fore_tail (became c) = became c
fore_tail (under c ys Y t) = under c ys Y t

first_tail : {y₀ y : Mark} {ys : List Mark} {z : Item} {Y : List Item} → First y₀ y ys z Y → Tail y₀ (y ∷ ys) (z ∷ Y)
first_tail came = came
first_tail (fore f) = fore_tail f

-- a ligature in its place
in_place : {y₀ y : Mark} {ys : List Mark} {z : Item} {Y : List Item} (c : ℕ) → First y₀ y ys z Y → Fore y₀ (made c (letters_of y)) ys (inserted c) Y
in_place c came = became c
in_place c (fore (became d)) = became c
in_place c (fore (under d ys Y t)) = under c ys Y t

pub fore_codes : {y₀ y : Mark} {ys : List Mark} {z : Item} {Y : List Item} → Fore y₀ y ys z Y → code_of y ≡ code z
fore_codes (became c) = refl
fore_codes (under c ys Y t) = refl

fore_not_last : {y₀ y : Mark} {ys : List Mark} {z : Item} {Y : List Item} → Fore y₀ y ys z Y → is_last y ≡ false
fore_not_last (became c) = refl
fore_not_last (under c ys Y t) = refl

-- the right hit that is taken where the left is finished
taken_hit : {y₀ y : Mark} {ys : List Mark} {z : Item} {Y : List Item} → First y₀ y ys z Y → cond (is_last y₀) (is_last y) false ≡ is_last y
taken_hit {y₀} came = and_self (is_last y₀)
taken_hit {y₀} (fore (became c)) = none_either (is_last y₀)
taken_hit {y₀} (fore (under c ys Y t)) = none_either (is_last y₀)

rt_touched : {y₀ y : Mark} {ys : List Mark} {z : Item} {Y : List Item} → First y₀ y ys z Y → cond (is_last y) true (is_last y₀) ≡ is_last y₀
rt_touched {y₀} came = true_or (is_last y₀)
rt_touched (fore (became c)) = refl
rt_touched (fore (under c ys Y t)) = refl

-- ---- finishing the left

-- the left after an operation
pub data Touched (x₀ : Place) (lft₀ : Bool) : Place → Head → Held → Type 0 where
  kept : (ns : List Node) → Touched x₀ lft₀ x₀ (head (place_key x₀)) (hold ns (own_of lft₀ x₀) (place_letters x₀) (lft_hit lft₀ x₀))
  new : (ns : List Node) (own : ℕ → List Node) (c : ℕ) (ls : List ℕ) (lft : Bool) → Touched x₀ lft₀ (on (made c ls)) (at (inserted c)) (hold ns own ls lft)

-- it is finished, without the right hit; what is next has no letters yet
record Leaves (x : Place) (X : Head) (h : Held) (ends : Bool) (os : List Out) : Type 0 where
  nodes : List Node
  own : ℕ → List Node
  lft : Bool
  nodes_are : h.nodes ++ node_of h.lft false x ≡ nodes
  lft_is : lft_after h.lft x ≡ lft
  rt_is : (r : Bool) → rt_after r false x ≡ r
  gives : give_all ends h (fin X ++ os) ≡ give_all ends (hold nodes own [] lft) os

leave_kept : (x₀ : Place) (lft₀ : Bool) (ns : List Node) (ends : Bool) (os : List Out) → lft_after lft₀ x₀ ≡ false →
    Leaves x₀ (head (place_key x₀)) (hold ns (own_of lft₀ x₀) (place_letters x₀) (lft_hit lft₀ x₀)) ends os
unfolding give_all
leave_kept start lft₀ ns ends os s =
    record {
      nodes = ns ++ [];
      own = own_of lft₀ start;
      lft = true;
      nodes_are = refl;
      lft_is = refl;
      rt_is = λ r. refl;
      gives = ap (λ (ms : List Node). give_all ends (hold ms (own_of lft₀ start) [] true) os) (sym (append-nil ns));
    }
leave_kept (on y) lft₀ ns ends os s =
    record {
      nodes = ns ++ node_of lft₀ false (on y);
      own = none_own;
      lft = false;
      nodes_are = refl;
      lft_is = s;
      rt_is = rt-kept y;
      gives = ap (λ (ms : List Node). give_all ends (hold (ns ++ ms) none_own [] false) os) (own_node lft₀ y);
    }
  where
    rt-kept : (z : Mark) (r : Bool) → rt_after r false (on z) ≡ r
    rt-kept (letter c) r = refl
    rt-kept (made c ls) r = refl
    rt-kept (last c) r = refl

leave : {x₀ : Place} {lft₀ : Bool} {x : Place} {X : Head} {h : Held} → Touched x₀ lft₀ x X h → lft_after lft₀ x₀ ≡ false → (ends : Bool) (os : List Out) →
    both ends (short os) ≡ false → Leaves x X h ends os
unfolding give_all
leave {x₀} {lft₀} (kept ns) s ends os e = leave_kept x₀ lft₀ ns ends os s
leave (new ns own c ls lft) s ends os e =
    record {
      nodes = ns ++ (ligature_node c ls (subtype_of lft false) ∷ []);
      own = none_own;
      lft = false;
      nodes_are = refl;
      lft_is = refl;
      rt_is = λ r. refl;
      gives =
          ap (λ (f : Bool). give_all ends (hold (ns ++ (ligature_node c ls (subtype_of lft f) ∷ [])) none_own [] false) os) e;
    }

-- ---- one step

module _ (x₀ : Place) (lft₀ : Bool) (y₀ : Mark) (settled : lft_after lft₀ x₀ ≡ false) (hit₀ : rt_hit false (is_last y₀) x₀ ≡ is_last y₀) where
  -- what stands where the left without letters goes over to what is first: a ligature
  next_fore : {y : Mark} {ys : List Mark} {z : Item} {Y : List Item} → Fore y₀ y ys z Y → (ns : List Node) (own : ℕ → List Node) (lft : Bool) →
      Stands x₀ lft₀ y₀ (on y) lft (is_last y₀) (at z) (hold ns own [] lft) ys Y
  next_fore (became c) ns own lft = over_new ns own c [] lft
  next_fore (under c ys Y t) ns own lft = new ns own c [] lft t

  -- a ligature is finished, and what is first is next
  free_new : {y : Mark} {ys : List Mark} {z : Item} {Y : List Item} → First y₀ y ys z Y → (ns : List Node) (own : ℕ →
      List Node) (c : ℕ) (ls : List ℕ) (lft : Bool)
      (ends : Bool) (os : List Out) (zs : List Mark) → both ends (short os) ≡ is_last y →
      (held : Held) × (l : Bool) × (r : Bool)
      × Stands x₀ lft₀ y₀ (on y) l r (at z) held ys Y
      × (text (ns ++ (ligature_node c ls (subtype_of lft (cond (is_last y₀) (is_last y) false)) ∷ [])) false
      (cond (cond (is_last y₀) (is_last y) false) false (is_last y₀)) (on y) (ys ++ zs) ≡ text held.nodes l r (on y) (ys ++ zs))
      × (give_all ends (hold ns own ls lft) (glyph (inserted c) ∷ os) ≡ give_all ends held os)
  unfolding give_all
  free_new came ns own c ls lft ends os zs e = (
    hold (ns ++ (ligature_node c ls (subtype_of lft (is_last y₀)) ∷ [])) none_own [] false,
    false,
    false,
    over_came _,
    rw (and_self (is_last y₀), none_self (is_last y₀)) refl,
    ap (λ (f : Bool). give_all ends (hold (ns ++ (ligature_node c ls (subtype_of lft f) ∷ [])) none_own [] false) os) e,
  )
  free_new {y} {ys} (fore f) ns own c ls lft ends os zs e = (
    hold (ns ++ (ligature_node c ls (subtype_of lft false) ∷ [])) none_own [] false,
    false,
    is_last y₀,
    next_fore f (ns ++ (ligature_node c ls (subtype_of lft false) ∷ [])) none_own false,
    rw (fore_not_last f, none_either (is_last y₀)) refl,
    ap (λ (g : Bool). give_all ends (hold (ns ++ (ligature_node c ls (subtype_of lft g) ∷ [])) none_own [] false) os) (e ∙ fore_not_last f),
  )

  stay : {x : Place} {X : Head} {h : Held} {y : Mark} {ys : List Mark} {z : Item} {Y : List Item} → Touched x₀ lft₀ x X h → Fore y₀ y ys z Y →
      Stands x₀ lft₀ y₀ x h.lft (is_last y₀) X h (y ∷ ys) (z ∷ Y)
  stay (kept ns) f = kept ns f
  stay (new ns own c ls lft) f = new ns own c ls lft (fore_tail f)

  module _ (rule : Rules) (n : ℕ) (os : List Out) (u : Head) (zs : List Mark) where
    -- whether the left is at the right boundary when it is finished
    at-inserted : (c : ℕ) (Y : List Item) → read rule n (at (inserted c)) Y ≡ done os u → both (ends_by (is_last y₀) u) (short os) ≡ false
    at-inserted c Y e = not_ends (is_last y₀) os u (inserted_shown rule n c Y e)

    kern-inserted : (c : ℕ) (Y : List Item) (k : ℤ) → read rule n (at (inserted c)) Y ≡ done os u → both (ends_by (is_last y₀) u) (short (kern k ∷ os)) ≡ false
    kern-inserted c Y k e = not_ends (is_last y₀) (kern k ∷ os) u (after_kern os u k (inserted_shown rule n c Y e))

    came-ends : read rule n (at (plain (code_of y₀))) [] ≡ done os u → (os ≡ []) × (ends_by (is_last y₀) u ≡ is_last y₀)
    came-ends e =
        let q = nothing_right rule n (at (plain (code_of y₀))) in
        let v : at (plain (code_of y₀)) ≡ u = cc in
        (cc, rw (← v) (one (is_last y₀)))
      where
        one : (b : Bool) → cond b true false ≡ b
        one true = refl
        one false = refl

    both_true : (b : Bool) → both b true ≡ b
    both_true true = refl
    both_true false = refl

    at_first : {y : Mark} {ys : List Mark} {z : Item} {Y : List Item} → First y₀ y ys z Y → read rule n (at z) Y ≡ done os u →
        both (ends_by (is_last y₀) u) (short os) ≡ is_last y
    at_first came e = let q = came-ends e in rw (q.0, q.1) (both_true (is_last y₀))
    at_first (fore (became c)) e = at-inserted c [] e
    at_first (fore (under c ys Y t)) e = at-inserted c Y e

    kern_first : {y : Mark} {ys : List Mark} {z : Item} {Y : List Item} → First y₀ y ys z Y → (k : ℤ) → read rule n (at z) Y ≡ done os u →
        both (ends_by (is_last y₀) u) (short (kern k ∷ os)) ≡ is_last y
    kern_first came k e = let q = came-ends e in rw (q.0, q.1) (both_true (is_last y₀))
    kern_first (fore (became c)) k e = kern-inserted c [] k e
    kern_first (fore (under c ys Y t)) k e = kern-inserted c Y k e

    -- what a step by a rule leads to
    abbrev Leads : Rule → Place → Bool → Bool → Head → Held → Mark → List Mark → Item → List Item → Type 0
    Leads R x lft rt X h y ys z Y =
        read rule n (act R X z).left ((act R X z).back ++ Y) ≡ done os u →
        Stepped x₀ lft₀ y₀ (step_by R h.nodes lft rt x (is_last y) y (ys ++ zs)) (act R X z) Y h (ends_by (is_last y₀) u) os zs

    module _ (lft rt : Bool) {x : Place} {X : Head} {h : Held} {y : Mark} {ys : List Mark} {z : Item} {Y : List Item} (T : Touched x₀ lft₀ x X h)
        (F : First y₀ y ys z Y)
        (lh : lft_hit lft x ≡ h.lft) (rh : rt_hit rt (is_last y) x ≡ is_last y₀) (ll : place_letters x ≡ h.letters) where
      op-1 : (c : ℕ) → Leads (lig RetainRightMoveToInserted c) x lft rt X h y ys z Y
      op-1 c e =
          record {
            left = on (made c h.letters);
            lft = h.lft;
            rt = is_last y₀;
            right = y ∷ ys;
            held = h;
            stands = new h.nodes h.own c h.letters h.lft (first_tail F);
            text_is = text_same _ refl lh rh (ap (λ (ls : List ℕ). on (made c ls)) ll);
            gives = refl;
          }

      op-2 : (c : ℕ) → Leads (lig RetainLeftMoveNowhere c) x lft rt X h y ys z Y
      op-2 c e =
          record {
            left = x;
            lft = h.lft;
            rt = is_last y₀;
            right = made c (letters_of y) ∷ ys;
            held = h;
            stands = stay T (in_place c F);
            text_is = text_same _ refl lh rh refl;
            gives = refl;
          }

      op-3 : (c : ℕ) → Leads (lig RetainBothMoveNowhere c) x lft rt X h y ys z Y
      op-3 c e =
          record {
            left = x;
            lft = h.lft;
            rt = is_last y₀;
            right = made c [] ∷ y ∷ ys;
            held = h;
            stands = stay T (under c (y ∷ ys) (z ∷ Y) (first_tail F));
            text_is = text_same _ refl lh rh refl;
            gives = refl;
          }

      op-6 : (c : ℕ) → Leads (lig RetainLeftMoveToInserted c) x lft rt X h y ys z Y
      op-6 c e =
          let k = leave T settled (ends_by (is_last y₀) u) os (at-inserted c Y e) in
          record {
            left = on (made c (letters_of y));
            lft = k.lft;
            rt = is_last y₀;
            right = ys;
            held = hold k.nodes k.own [] k.lft;
            stands = next_fore (in_place c F) k.nodes k.own k.lft;
            text_is =
                rw (lh, rh, none_either (is_last y₀)) (text_same _ k.nodes_are k.lft_is (k.rt_is (is_last y₀)) refl);
            gives = k.gives;
          }

      op-7 : (c : ℕ) → Leads (lig RetainBothMoveToInserted c) x lft rt X h y ys z Y
      op-7 c e =
          let k = leave T settled (ends_by (is_last y₀) u) os (at-inserted c (z ∷ Y) e) in
          record {
            left = on (made c []);
            lft = k.lft;
            rt = is_last y₀;
            right = y ∷ ys;
            held = hold k.nodes k.own [] k.lft;
            stands = new k.nodes k.own c [] k.lft (first_tail F);
            text_is = rw (lh, rh) (text_same _ k.nodes_are k.lft_is (k.rt_is (is_last y₀)) refl);
            gives = k.gives;
          }

      op-5 : (c : ℕ) → Leads (lig RetainRightMoveToRight c) x lft rt X h y ys z Y
      op-5 c e =
          let k = free_new F h.nodes h.own c h.letters h.lft (ends_by (is_last y₀) u) os zs (at_first F e) in
          record { left = on y; lft = k.1; rt = k.2; right = ys; held = k.0; stands = k.3; text_is = rw (lh, rh, ll) k.4; gives = k.5 }

      op-11 : (c : ℕ) → Leads (lig RetainBothMoveToRight c) x lft rt X h y ys z Y
      op-11 c e =
          let d = leave T settled (ends_by (is_last y₀) u) (glyph (inserted c) ∷ os) (never (ends_by (is_last y₀) u)) in
          let k = free_new F d.nodes d.own c [] d.lft (ends_by (is_last y₀) u) os zs (at_first F e) in
          record {
            left = on y;
            lft = k.1;
            rt = k.2;
            right = ys;
            held = k.0;
            stands = k.3;
            text_is = rw (lh, rh, d.nodes_are, d.lft_is, d.rt_is (is_last y₀)) k.4;
            gives =
                ap (λ (l : List Out). give_all (ends_by (is_last y₀) u) h l) (append_assoc (fin X) (glyph (inserted c) ∷ []) os) ∙ d.gives ∙ k.5;
          }
        where
          never : (b : Bool) → both b false ≡ false
          never true = refl
          never false = refl

      op-0 : (c : ℕ) → Leads (lig RetainNeitherMoveToInserted c) x lft rt X h y ys z Y
      op-0 c e =
          let k = joined F c in
          record {
            left = on (made c (h.letters ++ letters_of y));
            lft = h.lft;
            rt = is_last y₀;
            right = ys;
            held = h;
            stands = k;
            text_is = text_same _ refl lh rh (ap (λ (ls : List ℕ). on (made c (ls ++ letters_of y))) ll);
            gives = refl;
          }
        where
          joined : {y' : Mark} {ys' : List Mark} {z' : Item} {Y' : List Item} → First y₀ y' ys' z' Y' → (d : ℕ) →
              Stands x₀ lft₀ y₀ (on (made d (h.letters ++ letters_of y'))) h.lft (is_last y₀) (at (inserted d)) h ys' Y'
          joined came d = over_new h.nodes h.own d h.letters h.lft
          joined (fore (became b)) d = over_new h.nodes h.own d h.letters h.lft
          joined (fore (under b vs W t)) d = rw (append-nil h.letters) (new h.nodes h.own d h.letters h.lft t)

      -- every ligature operation
      op-any : (o : PostLigOperation) (c : ℕ) → Leads (lig o c) x lft rt X h y ys z Y
      op-any RetainNeitherMoveToInserted c = op-0 c
      op-any RetainRightMoveToInserted c = op-1 c
      op-any RetainLeftMoveNowhere c = op-2 c
      op-any RetainBothMoveNowhere c = op-3 c
      op-any RetainRightMoveToRight c = op-5 c
      op-any RetainLeftMoveToInserted c = op-6 c
      op-any RetainBothMoveToInserted c = op-7 c
      op-any RetainBothMoveToRight c = op-11 c

    -- ---- without a rule, or with a kern

    -- the left is finished, and what is first is next
    abbrev Finishes : Place → Bool → Bool → Head → Held → Mark → List Mark → Item → List Item → List Out → Type 0
    Finishes x lft rt X h y ys z Y ps =
        (held : Held) × (l : Bool) × (r : Bool)
        × Stands x₀ lft₀ y₀ (on y) l r (at z) held ys Y
        × (finish h.nodes lft rt (cond rt (is_last y) false) x (on y) (ys ++ zs) ≡ text held.nodes l r (on y) (ys ++ zs))
        × (give_all (ends_by (is_last y₀) u) h (fin X ++ ps) ≡ give_all (ends_by (is_last y₀) u) held ps)

    rt-none : (x : Place) → rt_after false false x ≡ false
    rt-none start = refl
    rt-none (on (letter c)) = refl
    rt-none (on (made c ls)) = refl
    rt-none (on (last r)) = refl

    abbrev begun : List Node → Held
    begun ns = hold ns (own_of lft₀ x₀) (place_letters x₀) (lft_hit lft₀ x₀)

    finish-fresh : (ns : List Node) (ps : List Out) → Finishes x₀ lft₀ false (head (place_key x₀)) (begun ns) y₀ [] (plain (code_of y₀)) [] ps
    finish-fresh ns ps =
        let k = leave_kept x₀ lft₀ ns (ends_by (is_last y₀) u) ps settled in (
          hold k.nodes k.own [] k.lft,
          false,
          false,
          over_came _,
          text_same _ (ap (λ (l : List Node). ns ++ l) (sym (own_same lft₀ x₀)) ∙ k.nodes_are) settled (rt-none x₀) refl,
          k.gives,
        )

    finish_kept : (ns : List Node) (ps : List Out) {y : Mark} {ys : List Mark} {z : Item} {Y : List Item} → Fore y₀ y ys z Y →
        Finishes x₀ (lft_hit lft₀ x₀) (is_last y₀) (head (place_key x₀)) (begun ns) y ys z Y ps
    finish_kept ns ps f =
        let k = leave_kept x₀ lft₀ ns (ends_by (is_last y₀) u) ps settled in (
          hold k.nodes k.own [] k.lft,
          k.lft,
          is_last y₀,
          next_fore f k.nodes k.own k.lft,
          rw (fore_not_last f, none_either (is_last y₀)) (text_same _ k.nodes_are k.lft_is (k.rt_is (is_last y₀)) refl),
          k.gives,
        )

    -- more nodes do not change what stands
    with-nodes : {x : Place} {lft rt : Bool} {X : Head} {h : Held} {ys : List Mark} {Y : List Item} → Stands x₀ lft₀ y₀ x lft rt X h ys Y → (ms : List Node) →
        Stands x₀ lft₀ y₀ x lft rt X (hold ms h.own h.letters h.lft) ys Y
    with-nodes (fresh ns) ms = fresh ms
    with-nodes (kept ns f) ms = kept ms f
    with-nodes (new ns own c ls lft t) ms = new ms own c ls lft t
    with-nodes (over_new ns own c ls lft) ms = over_new ms own c ls lft
    with-nodes (over_came h) ms = over_came (hold ms h.own h.letters h.lft)

    free_by : (x : Place) (lft rt : Bool) (X : Head) (h : Held) (y : Mark) (ys : List Mark) (z : Item) (Y : List Item) → Finishes x lft rt X h y ys z Y os →
        Leads free x lft rt X h y ys z Y
    free_by x lft rt X h y ys z Y k e =
        record { left = on y; lft = k.1; rt = k.2; right = ys; held = k.0; stands = k.3; text_is = k.4; gives = k.5 }

    kern_by_lem : (x : Place) (lft rt : Bool) (X : Head) (h : Held) (y : Mark) (ys : List Mark) (z : Item) (Y : List Item) (k : ℤ) →
        Finishes x lft rt X h y ys z Y (kern k ∷ os) → Leads (kerned k) x lft rt X h y ys z Y
    unfolding give_all
    kern_by_lem x lft rt X h y ys z Y k d e =
        record {
          left = on y;
          lft = d.1;
          rt = d.2;
          right = ys;
          held = hold (d.0.nodes ++ (kern_node k ∷ [])) d.0.own d.0.letters d.0.lft;
          stands = with-nodes d.3 (d.0.nodes ++ (kern_node k ∷ []));
          text_is = ap (finish_with (kern_node k ∷ [])) d.4;
          gives = ap (λ (l : List Out). give_all (ends_by (is_last y₀) u) h l) (append_assoc (fin X) (kern k ∷ []) os) ∙ d.5;
        }

    -- ---- by any rule

    step-fresh : (R : Rule) (ns : List Node) → Leads R x₀ lft₀ false (head (place_key x₀)) (begun ns) y₀ [] (plain (code_of y₀)) []
    step-fresh free ns = free_by x₀ lft₀ false (head (place_key x₀)) (begun ns) y₀ [] (plain (code_of y₀)) [] (finish-fresh ns os)
    step-fresh (kerned k) ns = kern_by_lem x₀ lft₀ false (head (place_key x₀)) (begun ns) y₀ [] (plain (code_of y₀)) [] k (finish-fresh ns (kern k ∷ os))
    step-fresh (lig o c) ns = op-any lft₀ false (kept ns) came refl hit₀ refl o c

    step_kept : (R : Rule) (ns : List Node) {y : Mark} {ys : List Mark} {z : Item} {Y : List Item} → Fore y₀ y ys z Y →
        Leads R x₀ (lft_hit lft₀ x₀) (is_last y₀) (head (place_key x₀)) (begun ns) y ys z Y
    step_kept free ns {y} {ys} {z} {Y} f = free_by x₀ (lft_hit lft₀ x₀) (is_last y₀) (head (place_key x₀)) (begun ns) y ys z Y (finish_kept ns os f)
    step_kept (kerned k) ns {y} {ys} {z} {Y} f =
        kern_by_lem x₀ (lft_hit lft₀ x₀) (is_last y₀) (head (place_key x₀)) (begun ns) y ys z Y k (finish_kept ns (kern k ∷ os) f)
    step_kept (lig o c) ns f =
        op-any (lft_hit lft₀ x₀) (is_last y₀) (kept ns) (fore f) (hit_again lft₀ x₀) (rw (fore_not_last f) (rt_again (is_last y₀) x₀)) refl o c

    step-new : (R : Rule) (ns : List Node) (own : ℕ → List Node) (c : ℕ) (ls : List ℕ) (lft : Bool) {y : Mark} {ys : List Mark} {z : Item} {Y : List Item} →
        First y₀ y ys z Y →
        Leads R (on (made c ls)) lft (is_last y₀) (at (inserted c)) (hold ns own ls lft) y ys z Y
    step-new free ns own c ls lft {y} {ys} {z} {Y} F e =
        free_by (on (made c ls)) lft (is_last y₀) (at (inserted c)) (hold ns own ls lft) y ys z Y
        (free_new F ns own c ls lft (ends_by (is_last y₀) u) os zs (at_first F e)) e
    step-new (kerned k) ns own c ls lft {y} {ys} {z} {Y} F e =
        kern_by_lem (on (made c ls)) lft (is_last y₀) (at (inserted c)) (hold ns own ls lft) y ys z Y k
        (free_new F ns own c ls lft (ends_by (is_last y₀) u) (kern k ∷ os) zs (kern_first F k e)) e
    step-new (lig o d) ns own c ls lft F e = op-any lft (is_last y₀) (new ns own c ls lft) F refl (rt_touched F) refl o d e

    pub tail_first : {y : Mark} {ys : List Mark} {z : Item} {Y : List Item} → Tail y₀ (y ∷ ys) (z ∷ Y) → First y₀ y ys z Y
    tail_first came = came
    tail_first (became c) = fore (became c)
    tail_first (under c ys Y t) = fore (under c ys Y t)

    pub any_step : (R : Rule) {x : Place} {lft rt : Bool} {X : Head} {h : Held} {y : Mark} {ys : List Mark} {z : Item} {Y : List Item} →
        Stands x₀ lft₀ y₀ x lft rt X h (y ∷ ys) (z ∷ Y) → Leads R x lft rt X h y ys z Y
    any_step R (fresh ns) = step-fresh R ns
    any_step R (kept ns f) = step_kept R ns f
    any_step R (new ns own c ls lft t) = step-new R ns own c ls lft (tail_first t)
