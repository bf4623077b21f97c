-- Moving on: what the labels of TeX 1036 to 1038 do to a state that shows a text.
-- Assumes nothing.
use mathlib.Core.Path.{◌≡◌, refl, sym, ap, ◌∙◌}
use mathlib.Core.Bool.{Bool, true, false, cond}
use mathlib.Core.List.{List, [], ◌∷◌, ◌++◌, map, append-nil}
use mathlib.Core.Option.{Option, none, some}
use Prim.Native.Nat.{ℕ, zero, suc}
use Rattle.main_loops.specs.Nodes.{Node, char_node, LigStack, null, character, pseudo, MainLoop, Jump, main_lig_loop, reswitch}
use Rattle.main_loops.specs.Loop.{main_loop_move1, move_by, lig_ptr}
use Rattle.main_loops.proofs.Lettered.{Mark, letter, made, last, letters_of, Place, start, on, place_code, place_letters, place_made, Text, text}

-- a state by its parts
abbrev pub state : List Node → List ℕ → Option ℕ → Option ℕ → Bool → Bool → Bool → LigStack → Option ℕ → List ℕ → MainLoop
state ns ls l r present lft rt stack b rest =
    record {
      nodes = ns;
      letters = ls;
      cur_l = l;
      cur_r = r;
      ligature_present = present;
      lft_hit = lft;
      rt_hit = rt;
      lig_stack = stack;
      bchar = b;
      rest = rest;
    }

-- cur_r by the stack
abbrev pub current_right : LigStack → Option ℕ → Option ℕ
current_right null b = b
current_right (character c) b = some c
current_right (pseudo c p link) b = some c

-- the state at main_lig_loop with this text left of the cursor
abbrev pub shows : List Node → Bool → Bool → Place → LigStack → Option ℕ → List ℕ → MainLoop
shows ns lft rt x stack b rest = state ns (place_letters x) (place_code x) (current_right stack b) (place_made x) lft rt stack b rest

-- ---- the stack as items

abbrev pub right_mark : Option ℕ → List Mark
right_mark none = []
right_mark (some r) = last r ∷ []

-- what is not fetched yet
abbrev pub rest_marks : List ℕ → Option ℕ → List Mark
rest_marks rest b = map letter rest ++ right_mark b

unfoldable pub marks : LigStack → List ℕ → Option ℕ → List Mark
marks null rest b = rest_marks rest b
marks (character c) rest b = letter c ∷ rest_marks rest b
marks (pseudo c p link) rest b = made c (lig_ptr p) ∷ marks link rest b

-- a stack that stands: only its last has a letter; without one the word is fetched whole
pub data Stacked : LigStack → List ℕ → Type 0 where
  empty : Stacked null []
  char : (c : ℕ) (rest : List ℕ) → Stacked (character c) rest
  lettered : (c l : ℕ) (rest : List ℕ) → Stacked (pseudo c (some l) null) rest
  bare : (c : ℕ) (link : LigStack) (rest : List ℕ) → Stacked link rest → Stacked (pseudo c none link) rest

-- and is not null
pub data Full : LigStack → List ℕ → Type 0 where
  char : (c : ℕ) (rest : List ℕ) → Full (character c) rest
  lettered : (c l : ℕ) (rest : List ℕ) → Full (pseudo c (some l) null) rest
  bare : (c : ℕ) (link : LigStack) (rest : List ℕ) → Stacked link rest → Full (pseudo c none link) rest

pub full_stacked : {stack : LigStack} {rest : List ℕ} → Full stack rest → Stacked stack rest
full_stacked (char c rest) = char c rest
full_stacked (lettered c l rest) = lettered c l rest
full_stacked (bare c link rest h) = bare c link rest h

-- its first item, and what stands behind that
abbrev pub top_mark : LigStack → Mark
top_mark null = last 0
top_mark (character c) = letter c
top_mark (pseudo c p link) = made c (lig_ptr p)

abbrev pub behind : LigStack → List ℕ → Option ℕ → List Mark
behind null rest b = []
behind (character c) rest b = rest_marks rest b
behind (pseudo c p link) rest b = marks link rest b

-- ---- what a jump shows

-- at main_lig_loop, with this text
pub record AtLoop (j : Jump) (t : Text) : Type 0 where
  pub stack : LigStack
  pub rest : List ℕ
  pub bchar : Option ℕ
  pub stacked : Stacked stack rest
  pub jumps : j ≡ main_lig_loop (shows t.given t.lft t.rt t.left stack bchar rest)
  pub marked : t.right ≡ marks stack rest bchar

-- the next letter is fetched, or there is none
abbrev pub fetched : List ℕ → LigStack
fetched [] = null
fetched (c ∷ cs) = character c

abbrev pub fetched_rest : List ℕ → List ℕ
fetched_rest [] = []
fetched_rest (c ∷ cs) = cs

-- ---- main_loop_move+1, with a ligature to the left: the first of the stack goes into it

pub into : {stack : LigStack} {rest : List ℕ} → Full stack rest → (ns : List Node) (ls : List ℕ) (z : ℕ) (r : Option ℕ) (lft rt : Bool) (b : Option ℕ) →
    AtLoop (main_loop_move1 stack (state ns ls (some z) r true lft rt stack b rest))
    (text ns lft rt (on (made z (ls ++ letters_of (top_mark stack)))) (behind stack rest b))
unfolding marks
into (char c []) ns ls z r lft rt b = record { stack = null; rest = []; bchar = b; stacked = empty; jumps = refl; marked = refl }
into (char c (d ∷ ds)) ns ls z r lft rt b = record { stack = character d; rest = ds; bchar = b; stacked = char d ds; jumps = refl; marked = refl }
into (lettered c l []) ns ls z r lft rt b = record { stack = null; rest = []; bchar = b; stacked = empty; jumps = refl; marked = refl }
into (lettered c l (d ∷ ds)) ns ls z r lft rt b = record { stack = character d; rest = ds; bchar = b; stacked = char d ds; jumps = refl; marked = refl }
into (bare a k i empty) ns ls z r lft rt b = record { stack = null; rest = []; bchar = b; stacked = empty; jumps = refl; marked = refl }
into (bare a k i (char c rest)) ns ls z r lft rt b = record { stack = character c; rest = rest; bchar = b; stacked = char c rest; jumps = refl; marked = refl }
into (bare a k i (lettered c l rest)) ns ls z r lft rt b =
    record { stack = pseudo c (some l) null; rest = rest; bchar = b; stacked = lettered c l rest; jumps = refl; marked = refl }
into (bare a k i (bare c link rest h)) ns ls z r lft rt b =
    record { stack = pseudo c none link; rest = rest; bchar = b; stacked = bare c link rest h; jumps = refl; marked = refl }

-- ---- main_loop_move, with nothing left to pack: the first of the stack stands left of the cursor

pub onto : {stack : LigStack} {rest : List ℕ} → Full stack rest → (ns : List Node) (ls : List ℕ) (l r : Option ℕ) (lft rt : Bool) (b : Option ℕ)
    {ms : List Node} → ns ++ map char_node ls ≡ ms →
    AtLoop (move_by stack (state ns ls l r false lft rt stack b rest)) (text ms lft rt (on (top_mark stack)) (behind stack rest b))
unfolding marks
onto (char c []) ns ls l r lft rt b e = record { stack = null; rest = []; bchar = b; stacked = empty; jumps = rw e; marked = refl }
onto (char c (d ∷ ds)) ns ls l r lft rt b e = record { stack = character d; rest = ds; bchar = b; stacked = char d ds; jumps = rw e; marked = refl }
onto (lettered c m []) ns ls l r lft rt b e = record { stack = null; rest = []; bchar = b; stacked = empty; jumps = rw e; marked = refl }
onto (lettered c m (d ∷ ds)) ns ls l r lft rt b e = record { stack = character d; rest = ds; bchar = b; stacked = char d ds; jumps = rw e; marked = refl }
onto (bare a k i empty) ns ls l r lft rt b e = record { stack = null; rest = []; bchar = b; stacked = empty; jumps = rw e; marked = refl }
onto (bare a k i (char c rest)) ns ls l r lft rt b e =
    record { stack = character c; rest = rest; bchar = b; stacked = char c rest; jumps = rw e; marked = refl }
onto (bare a k i (lettered c m rest)) ns ls l r lft rt b e =
    record { stack = pseudo c (some m) null; rest = rest; bchar = b; stacked = lettered c m rest; jumps = rw e; marked = refl }
onto (bare a k i (bare c link rest h)) ns ls l r lft rt b e =
    record { stack = pseudo c none link; rest = rest; bchar = b; stacked = bare c link rest h; jumps = rw e; marked = refl }
