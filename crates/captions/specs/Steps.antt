-- One step of a run (R98 to R118), over any table and any state; after `RunIter::next` of ligkern/mod.rs, whose call of itself is here a
-- turn that reads one letter (R286). A step checks what it reads (R264, R265), and a refused step hands its state back (R254).
use Rattle.std.specs.Prelude.{◌≡◌, Bool, true, false, cond, not, List, ℕ, zero, suc, ◌+◌, ◌-◌, ℤ, pos, negsuc, ltb, leb, eqb, length, get_or}
use Rattle.std.proofs.Math.Option.{Option, none, some}
use Rattle.words.specs.Words.{word_of}
use Rattle.lang.specs.Every.{both}
use Rattle.lang.specs.Checks.{or_else, is_letter}
use Rattle.reading.specs.Items.{Item, item, plain}
use Rattle.captions.specs.declared.RunOptions.{RunOptions}
use Rattle.captions.specs.declared.NextLeft.{NextLeft}
use Rattle.captions.specs.declared.NextLeft.TheVariants as next
use Rattle.captions.specs.declared.Consumes.{Consumes}
use Rattle.captions.specs.declared.Consumes.TheVariants as consumes
use Rattle.captions.specs.declared.State.{State}
use Rattle.captions.specs.declared.Answer.{Answer}
use Rattle.captions.specs.declared.Answer.TheVariants.{Char, Ligature, Kern, End, Refused}
use Rattle.captions.specs.declared.Step.{Step}
use Rattle.captions.specs.declared.Turned.{Turned}
use Rattle.captions.specs.declared.Turned.TheVariants.{Gives, Goes}
use Rattle.captions.specs.Tables.{op_count, op_kind, op_value, key_by, find, first_op, count_of, last_code, last_flag, op_fits, record_fits}
use Rattle.captions.specs.Replies.{answer_reply, is_end}
use Rattle.captions.specs.Begin.{edges_refusal, word_refusal}

-- a refused step: its number, and the state that it leaves
abbrev pub refused : ℕ → State → Step
refused n s = record { answer = Refused n; state = s }

-- the word is over
abbrev pub ended : State → Step
ended s = record { answer = End; state = s }

-- ---- giving an item

-- how many letters a ligature takes in of its pair's left: 1 or none (R101)
abbrev pub left_letters : Consumes → ℕ
left_letters consumes.Nothing = 0
left_letters consumes.Letter = 1
left_letters consumes.Boundary = 0

-- whether it takes in the left boundary as its pair's left
abbrev pub left_boundary : Consumes → Bool
left_boundary consumes.Nothing = false
left_boundary consumes.Letter = false
left_boundary consumes.Boundary = true

-- how many letters it takes in in all: those that a pending ligature had taken in, and that of the left (R104)
abbrev pub taken : State → ℕ
taken s = s.pending + left_letters s.consumes_left

-- whether it takes in the left boundary: a pending ligature had, or the left is it
abbrev pub takes_boundary : State → Bool
takes_boundary s = cond s.pending_boundary true (left_boundary s.consumes_left)

-- n letters more are given (R107); nothing is pending, and the left is taken (R102)
abbrev pub settled : ℕ → State → State
settled n s =
    record {
      next_left = s.next_left;
      op = s.op;
      ops = s.ops;
      read = s.read;
      given = s.given + n;
      pending = 0;
      pending_boundary = false;
      consumes_left = consumes.Nothing;
    }

-- an item whose original is n letters long; 7 where that passes the letters that were read (R118)
abbrev pub give_item : Answer → ℕ → State → Step
give_item a n s = cond (leb (s.given + n) s.read) (record { answer = a; state = settled n s }) (refused 7 s)

-- the left as it stands: a character (R108), or the ligature that is pending (R105)
abbrev pub give_character : ℕ → State → Step
give_character c s =
    cond (eqb s.pending 0)
    (give_item (Char c s.given) 1 s)
    (give_item (Ligature c s.given s.pending s.pending_boundary false) s.pending s)

-- a ligature that takes in the left (R101, R106, R109); `right` is whether it took in the right boundary
abbrev pub give_ligature : ℕ → Bool → State → Step
give_ligature c right s = give_item (Ligature c s.given (taken s) (takes_boundary s) right) (taken s) s

-- ---- ops

-- the state after an op
abbrev pub after_op : State → State
after_op s =
    record {
      next_left = s.next_left;
      op = suc s.op;
      ops = s.ops - 1;
      read = s.read;
      given = s.given;
      pending = s.pending;
      pending_boundary = s.pending_boundary;
      consumes_left = s.consumes_left;
    }

-- nothing is next
abbrev pub is_none : NextLeft → Bool
is_none next.Boundary = false
is_none (next.Char c) = false
is_none (next.Lig c) = false
is_none (next.FinalLig c) = false
is_none next.None = true

-- at the word's end, with an unflagged last, nothing or one kern only is still to be given (R111)
abbrev pub ends_word : List ℤ → State → Bool
ends_word ops s = both (is_none s.next_left) (cond (eqb s.ops 0) true (both (eqb s.ops 1) (eqb (word_of (op_kind ops s.op)) 2)))

-- the next op by its kind: 0 a character, 1 a ligature, any other a scaled kern
abbrev pub give_op : List ℤ → State → Step
give_op ops s =
    cond (eqb (word_of (op_kind ops s.op)) 0) (give_character (word_of (op_value ops s.op)) (after_op s))
    (cond (eqb (word_of (op_kind ops s.op)) 1) (give_ligature (word_of (op_value ops s.op)) (ends_word ops (after_op s)) (after_op s))
    (record { answer = Kern (op_value ops s.op); state = after_op s }))

-- a step reads the op that it gives and the one after it (R264)
abbrev pub ops_fit : List ℤ → State → Bool
ops_fit ops s = both (op_fits ops s.op) (cond (leb 2 s.ops) (op_fits ops (suc s.op)) true)

-- the next op is given, where the ops that are read fit; else 7
abbrev pub read_op : List ℤ → State → Step
read_op ops s = cond (ops_fit ops s) (give_op ops s) (refused 7 s)

-- ---- looking a left up

-- a pending ligature of n letters, which took its left in
abbrev pub with_pending : ℕ → Bool → State → State
with_pending n boundary s =
    record {
      next_left = s.next_left;
      op = s.op;
      ops = s.ops;
      read = s.read;
      given = s.given;
      pending = n;
      pending_boundary = boundary;
      consumes_left = consumes.Nothing;
    }

-- the pending ligature with one letter more
abbrev pub longer : State → State
longer s = with_pending (suc (taken s)) (takes_boundary s) s

-- a left that is a ligature takes in the letter that it was made of (R103)
abbrev pub gathered : NextLeft → State → State
gathered next.Boundary s = s
gathered (next.Char c) s = s
gathered (next.Lig c) s = longer s
gathered (next.FinalLig c) s = s
gathered next.None s = s

-- a left's place in the order of pairs: 0 the boundary, 1 + c the code c, and 0 where nothing is next
abbrev pub left_place_of : NextLeft → ℕ
left_place_of next.Boundary = 0
left_place_of (next.Char c) = suc c
left_place_of (next.Lig c) = suc c
left_place_of (next.FinalLig c) = suc c
left_place_of next.None = 0

-- what a ligature among a pair's ops takes in of this left: its letter, or the boundary; nothing of a ligature, whose letters are pending
abbrev pub left_consumed : NextLeft → Consumes
left_consumed next.Boundary = consumes.Boundary
left_consumed (next.Char c) = consumes.Letter
left_consumed (next.Lig c) = consumes.Nothing
left_consumed (next.FinalLig c) = consumes.Nothing
left_consumed next.None = consumes.Nothing

-- what is next after a right: a letter of the word (true), or the right item at the word's end (R113)
abbrev pub after_right : Bool → Item → NextLeft
after_right true (item false c) = next.Char c
after_right true (item true c) = next.Lig c
after_right false (item false c) = next.None
after_right false (item true c) = next.FinalLig c

-- letters read: one more where there is a letter
abbrev pub read_on : Bool → ℕ → ℕ
read_on true n = suc n
read_on false n = n

-- the state with another next left and r letters read, and nothing to be taken in of a left
abbrev pub with_next : NextLeft → ℕ → State → State
with_next n r s =
    record {
      next_left = n;
      op = s.op;
      ops = s.ops;
      read = r;
      given = s.given;
      pending = s.pending;
      pending_boundary = s.pending_boundary;
      consumes_left = consumes.Nothing;
    }

-- a left without an entry is given as it stands (R115); a left boundary gives nothing
abbrev pub give_left : NextLeft → State → Turned
give_left next.Boundary s = Goes s
give_left (next.Char c) s = Gives (give_character c s)
give_left (next.Lig c) s = Gives (give_character c s)
give_left (next.FinalLig c) s = Goes s
give_left next.None s = Goes s

-- the ops of an entry are to be given, and its last is next
abbrev pub entered_at : List ℤ → NextLeft → Bool → State → ℕ → State
entered_at pairs x letter s k =
    record {
      next_left = after_right letter (item (last_flag pairs k) (last_code pairs k));
      op = first_op pairs k;
      ops = count_of pairs k;
      read = read_on letter s.read;
      given = s.given;
      pending = s.pending;
      pending_boundary = s.pending_boundary;
      consumes_left = left_consumed x;
    }

-- an entry that gives nothing: no ops, and a last that is the right as it came
abbrev pub gives_nothing : List ℤ → ℕ → Bool
gives_nothing pairs k = both (eqb (count_of pairs k) 0) (not (last_flag pairs k))

-- a left that is a character, or a ligature, and not the boundary
abbrev pub is_character : NextLeft → Bool
is_character next.Boundary = false
is_character (next.Char c) = true
is_character (next.Lig c) = true
is_character (next.FinalLig c) = false
is_character next.None = false

-- a left character would be lost (R117): its entry gives nothing. A table of the form has no such entry.
abbrev pub swallows : List ℤ → NextLeft → ℕ → Bool
swallows pairs x k = both (is_character x) (gives_nothing pairs k)

-- what an entry must be for a step to follow it from a left
abbrev pub entry_reads : List ℤ → List ℤ → NextLeft → ℕ → Bool
entry_reads pairs ops x k = both (record_fits pairs ops k) (not (swallows pairs x k))

-- a left and a right y by their pair's place: without one the left is given, with one its ops are next; 7 where the entry does not read
abbrev pub turn_by : List ℤ → List ℤ → NextLeft → Bool → ℕ → State → Option ℕ → Turned
turn_by pairs ops x letter y s none = give_left x (with_next (after_right letter (plain y)) (read_on letter s.read) s)
turn_by pairs ops x letter y s (some k) = cond (entry_reads pairs ops x k) (Goes (entered_at pairs x letter s k)) (Gives (refused 7 s))

-- the pair of a left, by its place x, and a right y. One of them above 255 is not looked up (R372), so that it has no pair, whatever the
-- table holds.
abbrev pub find_within : List ℤ → ℕ → ℕ → Option ℕ
find_within pairs x y = cond (both (leb x 256) (leb y 255)) (find pairs (key_by x y)) none

-- a left and a right y, their pair looked up in the table; `letter` is whether y is a letter of the word
abbrev pub turn_with : List ℤ → List ℤ → NextLeft → Bool → ℕ → State → Turned
turn_with pairs ops x letter y s = turn_by pairs ops x letter y s (find_within pairs (left_place_of x) y)

-- the boundary character, where there is one (R112)
abbrev pub or_boundary : ℤ → Option ℕ
or_boundary (pos c) = some c
or_boundary (negsuc n) = none

-- the right item of a word: the override, else the boundary character; none where both are absent
abbrev pub right_item : ℤ → ℤ → Option ℕ
right_item boundary (pos c) = some c
right_item boundary (negsuc n) = or_boundary boundary

-- at the word's end (R112); an empty word reads as nothing (R76)
abbrev pub turn_at_end : List ℤ → List ℤ → Option ℕ → NextLeft → State → Turned
turn_at_end pairs ops right next.Boundary s = Gives (ended s)
turn_at_end pairs ops none (next.Char c) s = give_left (next.Char c) (with_next next.None s.read s)
turn_at_end pairs ops (some r) (next.Char c) s = turn_with pairs ops (next.Char c) false r s
turn_at_end pairs ops none (next.Lig c) s = give_left (next.Lig c) (with_next next.None s.read s)
turn_at_end pairs ops (some r) (next.Lig c) s = turn_with pairs ops (next.Lig c) false r s
turn_at_end pairs ops right (next.FinalLig c) s = Gives (ended s)
turn_at_end pairs ops right next.None s = Gives (ended s)

-- 20 (R373): a letter of the word that is none, as it is read
abbrev pub turn_at_letter : List ℤ → List ℤ → NextLeft → ℕ → State → Turned
turn_at_letter pairs ops x y s = cond (is_letter y) (turn_with pairs ops x true y s) (Gives (refused 20 s))

-- one turn: the next left with the next letter, or with the right item
abbrev pub turn : List ℤ → List ℤ → Option ℕ → List ℕ → NextLeft → State → Turned
turn pairs ops right word x s =
    cond (ltb s.read (length word))
    (turn_at_letter pairs ops x (get_or word s.read 0) (gathered x s))
    (turn_at_end pairs ops right x (gathered x s))

-- ---- the step

-- a turn that answers is the step; after any other the step goes on
abbrev pub goes_on : (State → Step) → Turned → Step
goes_on go (Gives t) = t
goes_on go (Goes s) = go s

-- the state with nothing next
abbrev pub with_nothing_next : State → State
with_nothing_next s =
    record {
      next_left = next.None;
      op = s.op;
      ops = s.ops;
      read = s.read;
      given = s.given;
      pending = s.pending;
      pending_boundary = s.pending_boundary;
      consumes_left = s.consumes_left;
    }

-- no ops are to be given: a last ligature is given as it stands (R110), and a left is looked up
abbrev pub by_next : (NextLeft → State → Turned) → (State → Step) → State → NextLeft → Step
by_next look go s next.Boundary = goes_on go (look next.Boundary s)
by_next look go s (next.Char c) = goes_on go (look (next.Char c) s)
by_next look go s (next.Lig c) = goes_on go (look (next.Lig c) s)
by_next look go s (next.FinalLig c) = give_ligature c true (with_nothing_next s)
by_next look go s next.None = ended s

-- one turn: an op, where any is to be given, else what is next
abbrev pub step_by : List ℤ → (NextLeft → State → Turned) → (State → Step) → State → Step
step_by ops look go s = cond (eqb s.ops 0) (by_next look go s s.next_left) (read_op ops s)

-- a step that goes on after at most n turns, and is 7 where it would go on after one more
unfoldable pub run_on : List ℤ → (NextLeft → State → Turned) → ℕ → State → Step
run_on ops look zero s = step_by ops look (refused 7) s
run_on ops look (suc n) s = step_by ops look (run_on ops look n) s

-- the next left (R265, R374): a character is a letter, and a ligature's code is one of 0 to 255
abbrev pub next_fits : NextLeft → Bool
next_fits next.Boundary = true
next_fits (next.Char c) = is_letter c
next_fits (next.Lig c) = leb c 255
next_fits (next.FinalLig c) = leb c 255
next_fits next.None = true

-- an i32 counts the ops, and those that are to be given are among them
abbrev pub ops_placed : List ℤ → State → Bool
ops_placed ops s = both (leb (op_count ops) 2147483647) (leb (s.op + s.ops) (op_count ops))

-- a state that points inside, else 7: no more is read than the word has, no more given or pending than read, and its ops and next left fit
abbrev pub placed : List ℤ → List ℕ → State → Bool
placed ops word s =
    both (leb s.read (length word))
    (both (leb s.given s.read)
    (both (leb s.pending s.read)
    (both (ops_placed ops s) (next_fits s.next_left))))

-- the right item, where there is one, is a letter
abbrev pub right_item_fits : Option ℕ → Bool
right_item_fits none = true
right_item_fits (some c) = is_letter c

-- THE contract of run: turns from a state until one answers, one letter a turn and a turn for the right item; 7 where the state points
-- outside, else 20 where the right item is no letter (R373), before anything is looked up
abbrev pub ran_from : List ℤ → List ℤ → Option ℕ → List ℕ → State → Step
ran_from pairs ops right word s =
    cond (placed ops word s)
    (cond (right_item_fits right) (run_on ops (turn pairs ops right word) (suc (length word - s.read)) s) (refused 20 s))
    (refused 7 s)

-- 4 or 6 (R265): what is checked before the state is
abbrev pub step_refusal : ℤ → List ℕ → RunOptions → ℕ
step_refusal boundary word options = or_else (edges_refusal boundary options) (word_refusal word)

-- a refused step hands back the state that it was handed (R254)
abbrev pub hand_back : State → State → Answer → Step
hand_back s t (Char c p) = record { answer = Char c p; state = t }
hand_back s t (Ligature c p n a b) = record { answer = Ligature c p n a b; state = t }
hand_back s t (Kern k) = record { answer = Kern k; state = t }
hand_back s t End = ended t
hand_back s t (Refused n) = refused n s

-- by the number of what is checked first: the step, or that number, with the state as it was
abbrev pub stepped_by : ℕ → State → Step → Step
stepped_by zero s t = hand_back s t.state t.answer
stepped_by (suc n) s t = refused (suc n) s

-- a step: its answer and the state that it leaves
abbrev pub step_of : List ℤ → List ℤ → ℤ → List ℕ → RunOptions → State → Step
step_of pairs ops boundary word options s =
    stepped_by (step_refusal boundary word options) s (ran_from pairs ops (right_item boundary options.right_boundary_override) word s)

-- THE contract of step: its answer, as a number and values (R285), and the state that it leaves. Together they say that r is `step_of`
-- (proofs/Replies).
pub record Stepped (pairs ops : List ℤ) (boundary : ℤ) (word : List ℕ) (options : RunOptions) (s : State) (r : Step) : Type 0 where
  pub reply : answer_reply r.answer ≡ answer_reply (step_of pairs ops boundary word options s).answer
  pub ends : is_end r.answer ≡ is_end (step_of pairs ops boundary word options s).answer
  pub state : r.state ≡ (step_of pairs ops boundary word options s).state
