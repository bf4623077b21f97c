-- What TeX's main loop works on (R491): the nodes that it makes, the stack right of its cursor, and its state, with TeX's names.
use Rattle.std.specs.Prelude.{Bool, true, false, List, [], ◌∷◌, ◌++◌, ℕ, ℤ}
use Rattle.std.proofs.Math.Option.{Option, none, some}

-- a node of a horizontal list: a character (TeX 134), a kern (TeX 155), or a ligature: its character, the letters of its lig_ptr, and its
-- subtype (TeX 143)
pub data Node : Type 0 where
  char_node : ℕ → Node
  kern_node : ℤ → Node
  ligature_node : ℕ → List ℕ → ℕ → Node

-- the stack lig_stack (TeX 1032): nothing; the char node of a letter, whose link is null; or a pseudo-ligature (TeX 144): its character,
-- the letter of its lig_ptr where it has one, and what its link leads to
pub data LigStack : Type 0 where
  null : LigStack
  character : ℕ → LigStack
  pseudo : ℕ → Option ℕ → LigStack → LigStack

-- The state (TeX 907 and 1032). The current list is `nodes`, up to cur_q, and then the char nodes of `letters`, which ends at tail. A
-- cur_l,
-- cur_r or bchar of none is non_char. `rest` is what get_next has not fetched yet of the word.
pub record MainLoop : Type 0 where
  pub nodes : List Node
  pub letters : List ℕ
  pub cur_l : Option ℕ
  pub cur_r : Option ℕ
  pub ligature_present : Bool
  pub lft_hit : Bool
  pub rt_hit : Bool
  pub lig_stack : LigStack
  pub bchar : Option ℕ
  pub rest : List ℕ

-- where control goes: to main_lig_loop, or, with the list that was made, out of the loop
pub data Jump : Type 0 where
  main_lig_loop : MainLoop → Jump
  reswitch : List Node → Jump

-- ---- assignments: the state with some of its variables changed

-- nodes and letters
abbrev pub with_list : List Node → List ℕ → MainLoop → MainLoop
with_list nodes letters s =
    record {
      nodes = nodes;
      letters = letters;
      cur_l = s.cur_l;
      cur_r = s.cur_r;
      ligature_present = s.ligature_present;
      lft_hit = s.lft_hit;
      rt_hit = s.rt_hit;
      lig_stack = s.lig_stack;
      bchar = s.bchar;
      rest = s.rest;
    }

-- cur_l and ligature_present
abbrev pub with_cur_l : Option ℕ → Bool → MainLoop → MainLoop
with_cur_l l present s =
    record {
      nodes = s.nodes;
      letters = s.letters;
      cur_l = l;
      cur_r = s.cur_r;
      ligature_present = present;
      lft_hit = s.lft_hit;
      rt_hit = s.rt_hit;
      lig_stack = s.lig_stack;
      bchar = s.bchar;
      rest = s.rest;
    }

-- lft_hit and rt_hit
abbrev pub with_hits : Bool → Bool → MainLoop → MainLoop
with_hits lft rt s =
    record {
      nodes = s.nodes;
      letters = s.letters;
      cur_l = s.cur_l;
      cur_r = s.cur_r;
      ligature_present = s.ligature_present;
      lft_hit = lft;
      rt_hit = rt;
      lig_stack = s.lig_stack;
      bchar = s.bchar;
      rest = s.rest;
    }

-- lig_stack and cur_r
abbrev pub with_stack : LigStack → Option ℕ → MainLoop → MainLoop
with_stack stack r s =
    record {
      nodes = s.nodes;
      letters = s.letters;
      cur_l = s.cur_l;
      cur_r = r;
      ligature_present = s.ligature_present;
      lft_hit = s.lft_hit;
      rt_hit = s.rt_hit;
      lig_stack = stack;
      bchar = s.bchar;
      rest = s.rest;
    }

-- bchar and what is not fetched yet
abbrev pub with_input : Option ℕ → List ℕ → MainLoop → MainLoop
with_input bchar rest s =
    record {
      nodes = s.nodes;
      letters = s.letters;
      cur_l = s.cur_l;
      cur_r = s.cur_r;
      ligature_present = s.ligature_present;
      lft_hit = s.lft_hit;
      rt_hit = s.rt_hit;
      lig_stack = s.lig_stack;
      bchar = bchar;
      rest = rest;
    }
