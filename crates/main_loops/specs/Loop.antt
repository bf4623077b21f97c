-- TeX's main loop (R492): TeX 1034 to 1040 on values, each label one definition, a label before those that jump to it. What 1039
-- finds for cur_l and cur_r is a parameter, `Rules` of crate `reading`: nothing, a kern, or a ligature operation with its character. Every
-- jump backwards goes to main_lig_loop, so one turn is what is done from there until control is there again or out of the loop.
use Rattle.std.specs.Prelude.{Bool, true, false, cond, List, [], ◌∷◌, ◌++◌, map, ℕ, zero, suc}
use Rattle.std.proofs.Math.Option.{Option, none, some}
use Rattle.lang.specs.declared.operation.PostLigOperation.TheVariants.{RetainBothMoveNowhere, RetainBothMoveToInserted}
use Rattle.lang.specs.declared.operation.PostLigOperation.TheVariants.{RetainBothMoveToRight, RetainRightMoveToInserted}
use Rattle.lang.specs.declared.operation.PostLigOperation.TheVariants.{RetainRightMoveToRight, RetainLeftMoveNowhere}
use Rattle.lang.specs.declared.operation.PostLigOperation.TheVariants.{RetainLeftMoveToInserted, RetainNeitherMoveToInserted}
use Rattle.reading.specs.Items.{Left, bnd, chr, Rule, free, kerned, lig, Rules}
use Rattle.main_loops.specs.Nodes.{Node, char_node, kern_node, ligature_node, LigStack, null, character, pseudo, MainLoop, Jump}
use Rattle.main_loops.specs.Nodes.{main_lig_loop, reswitch, with_list, with_cur_l, with_hits, with_stack, with_input}

-- lig_stack = null
abbrev pub is_null : LigStack → Bool
is_null null = true
is_null (character c) = false
is_null (pseudo c o link) = false

-- the whole list up to tail
abbrev pub to_tail : MainLoop → List Node
to_tail s = s.nodes ++ map char_node s.letters

-- ---- 1035: wrapup

-- the subtype of a new ligature: 2 for the left boundary and 1 for the right
abbrev pub subtype_of : Bool → Bool → ℕ
subtype_of false false = 0
subtype_of false true = 1
subtype_of true false = 2
subtype_of true true = 3

-- pack_lig: the letters behind cur_q go into a ligature node in their place; `right` is whether the parameter holds and lig_stack is null
abbrev pub pack_lig : ℕ → Bool → MainLoop → MainLoop
pack_lig l right s =
    with_hits false (cond right false s.rt_hit)
    (with_cur_l (some l) false
    (with_list (s.nodes ++ (ligature_node l s.letters (subtype_of s.lft_hit right) ∷ [])) [] s))

abbrev pub wrapup_by : Option ℕ → Bool → Bool → MainLoop → MainLoop
wrapup_by none present hit s = s
wrapup_by (some l) false hit s = s
wrapup_by (some l) true hit s = pack_lig l (cond hit (is_null s.lig_stack) false) s

-- wrapup(#), whose parameter is rt_hit or false
abbrev pub wrapup : Bool → MainLoop → MainLoop
wrapup hit s = wrapup_by s.cur_l s.ligature_present hit s

-- ---- 1038: main_loop_lookahead

abbrev pub lookahead_by : List ℕ → MainLoop → Jump
lookahead_by [] s = main_lig_loop (with_stack null s.bchar s)
lookahead_by (c ∷ cs) s = main_lig_loop (with_input s.bchar cs (with_stack (character c) (some c) s))

abbrev pub main_loop_lookahead : MainLoop → Jump
main_loop_lookahead s = lookahead_by s.rest s

-- ---- 1037: main_loop_move_lig

-- the letter of a lig_ptr, as a list
abbrev pub lig_ptr : Option ℕ → List ℕ
lig_ptr none = []
lig_ptr (some c) = c ∷ []

-- lig_stack is its link; at the end of the stack the next letter is fetched where the pseudo-ligature had a letter
abbrev pub past_lig : Option ℕ → LigStack → MainLoop → Jump
past_lig (some c) null s = main_loop_lookahead s
past_lig none null s = main_lig_loop (with_stack null s.bchar s)
past_lig p (character c) s = main_lig_loop (with_stack (character c) (some c) s)
past_lig p (pseudo c o link) s = main_lig_loop (with_stack (pseudo c o link) (some c) s)

-- of the pseudo-ligature with this lig_ptr and link
abbrev pub main_loop_move_lig : Option ℕ → LigStack → MainLoop → Jump
main_loop_move_lig p link s = past_lig p link (with_cur_l s.cur_l true (with_list s.nodes (s.letters ++ lig_ptr p) s))

-- ---- 1036: main_loop_move, and its two labels within

-- main_loop_move+2, of the character c at lig_stack
abbrev pub main_loop_move2 : ℕ → MainLoop → Jump
main_loop_move2 c s = main_loop_lookahead (with_list s.nodes (s.letters ++ (c ∷ [])) s)

-- main_loop_move+1; lig_stack is not null
abbrev pub main_loop_move1 : LigStack → MainLoop → Jump
main_loop_move1 null s = reswitch (to_tail s)
main_loop_move1 (character c) s = main_loop_move2 c s
main_loop_move1 (pseudo c p link) s = main_loop_move_lig p link s

-- cur_q := tail, and cur_l is the character at lig_stack
abbrev pub move_to : ℕ → MainLoop → MainLoop
move_to c s = with_cur_l (some c) s.ligature_present (with_list (to_tail s) [] s)

abbrev pub move_by : LigStack → MainLoop → Jump
move_by null s = reswitch (to_tail s)
move_by (character c) s = main_loop_move1 (character c) (move_to c s)
move_by (pseudo c p link) s = main_loop_move1 (pseudo c p link) (move_to c s)

abbrev pub main_loop_move : MainLoop → Jump
main_loop_move s = move_by s.lig_stack s

-- main_loop_wrapup (1034, 1035)
abbrev pub main_loop_wrapup : MainLoop → Jump
main_loop_wrapup s = main_loop_move (wrapup s.rt_hit s)

-- ---- 1040: what is done by the command that was found

-- a kern: the character is finished, and the kern appended
abbrev pub do_kern : MainLoop → Node → Jump
do_kern s k = main_loop_move (with_list (to_tail s ++ (k ∷ [])) [] s)

-- lft_hit or rt_hit, before a ligature command is done
abbrev pub hit_by : Option ℕ → MainLoop → MainLoop
hit_by none s = with_hits true s.rt_hit s
hit_by (some l) s = with_hits s.lft_hit (cond (is_null s.lig_stack) true s.rt_hit) s

abbrev pub hit : MainLoop → MainLoop
hit s = hit_by s.cur_l s

-- op bytes 1 and 5, and 0: cur_l is the command's character
abbrev pub left_becomes : ℕ → MainLoop → MainLoop
left_becomes c s = with_cur_l (some c) true s

-- 2 and 6: the character is put at lig_stack; the right boundary is consumed, or a char node becomes the pseudo-ligature's letter
abbrev pub right_becomes_by : LigStack → ℕ → MainLoop → MainLoop
right_becomes_by null c s = with_input none s.rest (with_stack (pseudo c none null) (some c) s)
right_becomes_by (character l) c s = with_stack (pseudo c (some l) null) (some c) s
right_becomes_by (pseudo d p link) c s = with_stack (pseudo c p link) (some c) s

abbrev pub right_becomes : ℕ → MainLoop → MainLoop
right_becomes c s = right_becomes_by s.lig_stack c s

-- 3: a pseudo-ligature without letter is pushed
abbrev pub pushed : ℕ → MainLoop → MainLoop
pushed c s = with_stack (pseudo c none s.lig_stack) (some c) s

-- 7 and 11: the left is finished, and the command's character is next, without letters
abbrev pub between : ℕ → MainLoop → MainLoop
between c s = with_cur_l (some c) true (with_list (to_tail s) [] s)

-- 0 and every other op byte: at the end the ligature is finished; else the right goes into it
abbrev pub both_become : LigStack → MainLoop → Jump
both_become null s = main_loop_wrapup s
both_become (character c) s = main_loop_move1 (character c) s
both_become (pseudo c p link) s = main_loop_move1 (pseudo c p link) s

-- what was found: nothing, a kern, or a ligature command
abbrev pub do_command : Rule → MainLoop → Jump
do_command free s = main_loop_wrapup s
do_command (kerned k) s = do_kern (wrapup s.rt_hit s) (kern_node k)
do_command (lig RetainNeitherMoveToInserted c) s = both_become s.lig_stack (left_becomes c (hit s))
do_command (lig RetainRightMoveToInserted c) s = main_lig_loop (left_becomes c (hit s))
do_command (lig RetainLeftMoveNowhere c) s = main_lig_loop (right_becomes c (hit s))
do_command (lig RetainBothMoveNowhere c) s = main_lig_loop (pushed c (hit s))
do_command (lig RetainRightMoveToRight c) s = main_loop_wrapup (left_becomes c (hit s))
do_command (lig RetainLeftMoveToInserted c) s = main_loop_wrapup (right_becomes c (hit s))
do_command (lig RetainBothMoveToInserted c) s = main_lig_loop (between c (wrapup false (hit s)))
do_command (lig RetainBothMoveToRight c) s = main_loop_wrapup (between c (wrapup false (hit s)))

-- ---- 1039: main_lig_loop

-- cur_l as the left of a pair: non_char is the left boundary
abbrev pub left_of_pair : Option ℕ → Left
left_of_pair none = bnd
left_of_pair (some c) = chr c

-- without a cur_r nothing is searched
abbrev pub lig_loop_by : Rules → Option ℕ → MainLoop → Jump
lig_loop_by rule none s = main_loop_wrapup s
lig_loop_by rule (some r) s = do_command (rule (left_of_pair s.cur_l) r) s

-- one turn of the loop
abbrev pub lig_loop : Rules → MainLoop → Jump
lig_loop rule s = lig_loop_by rule s.cur_r s

-- ---- 1034: a word

-- the state in which the first letter was fetched, and stands at lig_stack
abbrev pub started : ℕ → List ℕ → Option ℕ → MainLoop
started c cs bchar =
    record {
      nodes = [];
      letters = [];
      cur_l = some c;
      cur_r = none;
      ligature_present = false;
      lft_hit = false;
      rt_hit = false;
      lig_stack = character c;
      bchar = bchar;
      rest = cs;
    }

-- without bchar_label, or with cancel_boundary, the left boundary is passed over; else the cursor is behind it
abbrev pub start_by : Bool → ℕ → MainLoop → Jump
start_by false c s = main_loop_move2 c s
start_by true c s = main_lig_loop (with_cur_l none false (with_stack (character c) (some c) s))

-- main_loop: `boundary` is whether the left boundary is not cancelled, `label` whether the font has a bchar_label, and bchar the boundary
-- character, or another right item, or none. TeX does not come here for an empty word.
abbrev pub main_loop : Bool → Bool → List ℕ → Option ℕ → Jump
main_loop boundary label [] bchar = reswitch []
main_loop boundary label (c ∷ cs) bchar = start_by (cond boundary label false) c (started c cs bchar)

-- at most n turns
unfoldable pub turns : Rules → ℕ → Jump → Jump
turns rule zero j = j
turns rule (suc n) (reswitch ns) = reswitch ns
turns rule (suc n) (main_lig_loop s) = turns rule n (lig_loop rule s)
