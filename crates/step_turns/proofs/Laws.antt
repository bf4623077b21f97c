-- What a turn gives, by the tests of the code. Assumes nothing.
use mathlib.Core.Path.{◌≡◌, refl, sym, ap, ◌∙◌}
use mathlib.Core.Bool.{Bool, true, false, cond, not}
use mathlib.Core.List.{List}
use mathlib.Core.Option.{Option, none, some}
use Rattle.std.specs.Prelude as rust
use Prim.Native.Nat.{ℕ, suc, ◌+◌, ◌-◌, ◌^◌, ◌<◌, ◌≤◌}
use native.Mathlib.Omega.{arith}
use lib.IntN.{ℤ}
use lib.Dec.{leb, eqb}
use lib.ListN.{length, get_or}
use borrow.Author.Tests.{le-leb, lt-leb, lt-ltb, le-ltb, leb-true, leb-false, eq-eqb, ne_eqb}
use Rattle.words.specs.Words.{number_of, Word}
use Rattle.words.proofs.Bits.{number_pos, number_neg}
use Rattle.lang.specs.Checks.{is_letter}
use Rattle.lang.proofs.Checks.{letter_bound}
use Rattle.reading.specs.Items.{plain}
use Rattle.captions.specs.declared.NextLeft.{NextLeft}
use Rattle.captions.specs.declared.NextLeft.TheVariants as next
use Rattle.captions.specs.declared.Consumes.{Consumes}
use Rattle.captions.specs.declared.Consumes.TheVariants as consumes
use Rattle.captions.specs.declared.State.{State}
use Rattle.captions.specs.declared.Turned.{Turned}
use Rattle.captions.specs.declared.Turned.TheVariants.{Gives, Goes}
use Rattle.captions.specs.Tables.{number, found_at, record_fits}
use Rattle.captions.specs.Replies.{next_code}
use Rattle.captions.specs.Steps.{refused, ended, give_character, is_character, left_letters, with_pending, longer, ops_placed, gathered, left_place_of}
use Rattle.captions.specs.Steps.{after_right, read_on, with_next, give_left, entered_at, swallows, entry_reads, find_within, turn_by, turn_with}
use Rattle.captions.specs.Steps.{or_boundary, turn_at_end, turn_at_letter, turn, next_fits, placed, right_item_fits}
use Rattle.step_turns.specs.Turns.{turn_next, lefts}

no : {A : Type 0} → ◌≡◌ {A = Bool} false true → A
no e = absurd (let z : ◌≡◌ {A = ℕ} 0 1 = cc in omega arith)

-- ---- the left

pub letters_few : (x : Consumes) → left_letters x ≤ 1
letters_few consumes.Nothing = omega arith
letters_few consumes.Letter = omega arith
letters_few consumes.Boundary = omega arith

-- a pending ligature takes in what its left is
or_not : (b : Bool) → b ≡ cond b true false
or_not true = refl
or_not false = refl

or_true : (b : Bool) → true ≡ cond b true true
or_true true = refl
or_true false = refl

pending_as : (s : State) {m n : ℕ} {a b : Bool} → m ≡ n → a ≡ b → with_pending m a s ≡ with_pending n b s
pending_as s e f i = with_pending (e i) (f i) s

module _ (s : State) where
  pub longer_nothing : s.consumes_left ≡ consumes.Nothing → with_pending (s.pending + 1) s.pending_boundary s ≡ longer s
  longer_nothing e = let n : s.pending + 1 ≡ suc (s.pending + 0) = omega arith in rw e (pending_as s n (or_not s.pending_boundary))

  pub longer_letter : s.consumes_left ≡ consumes.Letter → with_pending (s.pending + 2) s.pending_boundary s ≡ longer s
  longer_letter e = let n : s.pending + 2 ≡ suc (s.pending + 1) = omega arith in rw e (pending_as s n (or_not s.pending_boundary))

  pub longer_boundary : s.consumes_left ≡ consumes.Boundary → with_pending (s.pending + 1) true s ≡ longer s
  longer_boundary e = let n : s.pending + 1 ≡ suc (s.pending + 0) = omega arith in rw e (pending_as s n (or_true s.pending_boundary))

-- a left that is given as it stands
pub left_gives_lem : (x : NextLeft) (s : State) → is_character x ≡ true → give_left x s ≡ Gives (give_character (next_code x) s)
left_gives_lem next.Boundary s h = no h
left_gives_lem (next.Char c) s h = refl
left_gives_lem (next.Lig c) s h = refl
left_gives_lem (next.FinalLig c) s h = no h
left_gives_lem next.None s h = no h

pub left_goes_lem : (x : NextLeft) (s : State) → is_character x ≡ false → give_left x s ≡ Goes s
left_goes_lem next.Boundary s h = refl
left_goes_lem (next.Char c) s h = no (sym h)
left_goes_lem (next.Lig c) s h = no (sym h)
left_goes_lem (next.FinalLig c) s h = refl
left_goes_lem next.None s h = refl

pub left_small : (x : NextLeft) → next_fits x ≡ true → left_place_of x ≤ 1114112
left_small next.Boundary h = omega arith
left_small (next.Char c) h = omega (arith, letter_bound c h)
left_small (next.Lig c) h = omega (arith, leb-true c 255 h)
left_small (next.FinalLig c) h = omega (arith, leb-true c 255 h)
left_small next.None h = omega arith

pub found_none : (o : Option ℕ) → found_at o ≡ rust.None → o ≡ none
found_none none h = refl
found_none (some k) h = absurd (let z : ◌≡◌ {A = ℕ} 0 1 = cc in omega arith)

pub found_some : (o : Option ℕ) (k : ℕ) → found_at o ≡ rust.Some k → o ≡ some k
found_some none k h = absurd (let z : ◌≡◌ {A = ℕ} 0 1 = cc in omega arith)
found_some (some j) k h = cc

pub gathered_read : (x : NextLeft) (s : State) → (gathered x s).read ≡ s.read
gathered_read next.Boundary s = refl
gathered_read (next.Char c) s = refl
gathered_read (next.Lig c) s = refl
gathered_read (next.FinalLig c) s = refl
gathered_read next.None s = refl

module _ (pairs ops : List ℤ) (s : State) where
  pub turn_none : (x : NextLeft) (letter : Bool) (y : ℕ) → find_within pairs (left_place_of x) y ≡ none →
      turn_with pairs ops x letter y s ≡ give_left x (with_next (after_right letter (plain y)) (read_on letter s.read) s)
  turn_none x letter y h = ap (turn_by pairs ops x letter y s) h

  pub turn_some : (x : NextLeft) (letter : Bool) (y k : ℕ) → find_within pairs (left_place_of x) y ≡ some k →
      turn_with pairs ops x letter y s ≡ cond (entry_reads pairs ops x k) (Goes (entered_at pairs x letter s k)) (Gives (refused 7 s))
  turn_some x letter y k h = ap (turn_by pairs ops x letter y s) h

  -- the word's end
  pub end_empty : (o : Option ℕ) (x : NextLeft) → is_character x ≡ false → turn_at_end pairs ops o x s ≡ Gives (ended s)
  end_empty o next.Boundary h = refl
  end_empty o (next.Char c) h = no (sym h)
  end_empty o (next.Lig c) h = no (sym h)
  end_empty o (next.FinalLig c) h = refl
  end_empty o next.None h = refl

  end_some : (r : ℕ) (x : NextLeft) → is_character x ≡ true → turn_at_end pairs ops (some r) x s ≡ turn_with pairs ops x false r s
  end_some r next.Boundary h = no h
  end_some r (next.Char c) h = refl
  end_some r (next.Lig c) h = refl
  end_some r (next.FinalLig c) h = no h
  end_some r next.None h = no h

  end_none : (x : NextLeft) → is_character x ≡ true → turn_at_end pairs ops none x s ≡ give_left x (with_next next.None s.read s)
  end_none next.Boundary h = no h
  end_none (next.Char c) h = refl
  end_none (next.Lig c) h = refl
  end_none (next.FinalLig c) h = no h
  end_none next.None h = no h

  module _ (w : ℕ) (x : NextLeft) (h : is_character x ≡ true) where
    pub end_item : w < 2 ^ 31 → turn_at_end pairs ops (or_boundary (number_of w)) x s ≡ turn_with pairs ops x false w s
    end_item l = ap (λ (z : ℤ). turn_at_end pairs ops (or_boundary z) x s) (number_pos w l) ∙ end_some w x h

    pub end_free : 2 ^ 31 ≤ w → turn_at_end pairs ops (or_boundary (number_of w)) x s ≡ give_left x (with_next next.None s.read s)
    end_free l = ap (λ (z : ℤ). turn_at_end pairs ops (or_boundary z) x s) (number_neg w l) ∙ end_none x h

  pub letter_fits : (x : NextLeft) (y : ℕ) → is_letter y ≡ true → turn_at_letter pairs ops x y s ≡ turn_with pairs ops x true y s
  letter_fits x y h = rw h

  pub letter_unfit : (x : NextLeft) (y : ℕ) → is_letter y ≡ false → turn_at_letter pairs ops x y s ≡ Gives (refused 20 s)
  letter_unfit x y h = rw h

  pub turn_letter : (o : Option ℕ) (word : List ℕ) (x : NextLeft) → s.read < length word →
      turn pairs ops o word x s ≡ turn_at_letter pairs ops x (get_or word s.read 0) (gathered x s)
  turn_letter o word x h = rw (lt-ltb s.read (length word) h)

  pub turn_end : (o : Option ℕ) (word : List ℕ) (x : NextLeft) → length word ≤ s.read → turn pairs ops o word x s ≡ turn_at_end pairs ops o x (gathered x s)
  turn_end o word x h = rw (le-ltb s.read (length word) h)

-- ---- an entry, by the words that were read

module _ (pairs : List ℤ) (x : NextLeft) (k : ℕ) where
  pub boundary_keeps : is_character x ≡ false → false ≡ swallows pairs x k
  boundary_keeps h = rw h

  module _ (h : is_character x ≡ true) {count : ℕ} (p : Word (number pairs k 5) count) where
    pub ops_keep : (count ≡ 0 → ⊥) → false ≡ swallows pairs x k
    ops_keep n = rw (h, ← p.is, ne_eqb count 0 n)

    pub last_keeps : {flag : ℕ} → count ≡ 0 → Word (number pairs k 3) flag → not (eqb flag 1) ≡ swallows pairs x k
    last_keeps e q = rw (h, ← p.is, ← q.is, eq-eqb count 0 e)

module _ (pairs ops : List ℤ) (x : NextLeft) (k : ℕ) where
  pub unread : record_fits pairs ops k ≡ false → entry_reads pairs ops x k ≡ false
  unread h = rw h

  pub swallowed : record_fits pairs ops k ≡ true → swallows pairs x k ≡ true → entry_reads pairs ops x k ≡ false
  swallowed h e = rw (h, e)

  pub followed : record_fits pairs ops k ≡ true → swallows pairs x k ≡ false → entry_reads pairs ops x k ≡ true
  followed h e = rw (h, e)

-- ---- what is checked first

-- the right item, by its bits
pub right_some : (w : ℕ) → w < 2 ^ 31 → right_item_fits (or_boundary (number_of w)) ≡ is_letter w
right_some w h = ap (λ (z : ℤ). right_item_fits (or_boundary z)) (number_pos w h)

pub right_none : (w : ℕ) → 2 ^ 31 ≤ w → right_item_fits (or_boundary (number_of w)) ≡ true
right_none w h = ap (λ (z : ℤ). right_item_fits (or_boundary z)) (number_neg w h)

-- a sum that is not made: where a is in range, b is tested against what is left
pub leb_sum : (a b n : ℕ) → a ≤ n → leb b (n - a) ≡ leb (a + b) n
leb_sum a b n h = go (leb b (n - a)) refl
  where
    go : (t : Bool) → leb b (n - a) ≡ t → t ≡ leb (a + b) n
    go true e = sym (le-leb (a + b) n (omega (arith, leb-true b (n - a) e)))
    go false e = sym (lt-leb (a + b) n (omega (arith, leb-false b (n - a) e)))

module _ (ops : List ℤ) (word : List ℕ) (s : State) where
  pub placed_read : length word < s.read → placed ops word s ≡ false
  placed_read h = rw (lt-leb s.read (length word) h)

  module _ (r : s.read ≤ length word) where
    pub placed_given : s.read < s.given → placed ops word s ≡ false
    placed_given h = rw (le-leb s.read (length word) r, lt-leb s.given s.read h)

    module _ (g : s.given ≤ s.read) where
      pub placed_pending : s.read < s.pending → placed ops word s ≡ false
      placed_pending h = rw (le-leb s.read (length word) r, le-leb s.given s.read g, lt-leb s.pending s.read h)

      pub placed_ops : s.pending ≤ s.read → ops_placed ops s ≡ false → placed ops word s ≡ false
      placed_ops p h = rw (le-leb s.read (length word) r, le-leb s.given s.read g, le-leb s.pending s.read p, h)

      pub placed_next : s.pending ≤ s.read → ops_placed ops s ≡ true → placed ops word s ≡ next_fits s.next_left
      placed_next p h = rw (le-leb s.read (length word) r, le-leb s.given s.read g, le-leb s.pending s.read p, h)

-- a left is looked up
pub looked : (look : NextLeft → State → Turned) (s : State) (x : NextLeft) → lefts x ≡ 1 → turn_next look s x ≡ look x s
looked look s next.Boundary h = refl
looked look s (next.Char c) h = refl
looked look s (next.Lig c) h = refl
looked look s (next.FinalLig c) h = absurd (omega arith)
looked look s next.None h = absurd (omega arith)

-- with nothing next the word is over
pub over_lem : (look : NextLeft → State → Turned) (s : State) (x : NextLeft) → x ≡ next.None → turn_next look s x ≡ Gives (ended s)
over_lem look s x e = rw e
