-- Proves what specs/Purpose states.
-- Assumes nothing.
use mathlib.Core.Path.{◌≡◌, refl, ap, sym, ◌∙◌, subst}
use mathlib.Core.Bool.{Bool, true, false, cond, not}
use mathlib.Core.List.{List, [], ◌∷◌, ◌++◌, append_assoc, append-nil}
use mathlib.Core.Logic.{◌⊎◌, inl, inr}
use mathlib.Core.Option.{Option, none, some}
use Prim.Native.Nat.{ℕ, zero, suc, ◌+◌, ◌-◌, ◌*◌, ◌/◌, ◌%◌, ◌^◌, ◌<◌, ◌≤◌}
use native.Mathlib.Omega.{arith}
use lib.Dec.{leb, ltb, eqb}
use lib.IntN.{ℤ, pos, negsuc}
use lib.ListN.{length, get_or, replicate, length-append, length-set}
use lib.Seq.{get_or-set_same}
use mir.Syntax.{w32}
use mir.Val.{SFits}
use borrow.Author.Tests.{eq-eqb, ne_eqb, eqb-true, ltb-true, leb-true, le-leb}
use Rattle.words.specs.Words.{word_of, number_of}
use Rattle.words.specs.Lists.{tabulate}
use Rattle.words.proofs.Bits.{number_word, number_pos, number_fits}
use Rattle.words.proofs.Tests.{same_or_not}
use Rattle.lang.specs.Every.{both, every}
use Rattle.lang.specs.Records.{count, absent_or, is_instruction}
use Rattle.lang.specs.Checks.{entry_at, unless, or_else, program_refusal, kerns_refusal, entries_refusal, absent_refusal}
use Rattle.lang.specs.Entries.{entered, entries_table}
use Rattle.lang.proofs.Every.{both_left, both_right, every_at}
use Rattle.lang.proofs.Refusals.{or_else_none, unless_none, program_size, program_fours, program_record}
use Rattle.lang.proofs.Tables.{length_entered}
use Rattle.files.specs.Purpose.{AreI32}
use Rattle.program_kerns.specs.Kerns.{packed}
use Rattle.property_lists.specs.declared.Property.{Property}
use Rattle.property_lists.specs.declared.Property.TheVariants as property
use Rattle.property_lists.specs.Chars.{then_by, pass_over}
use Rattle.property_lists.specs.Properties.{property_at}
use Rattle.property_lists.specs.Indents.{indents_by, indents_kept, good_indents}
use Rattle.property_lists.specs.Displays.{octal_char, line_end, boundary_line, program_lines, lig_table_lines, display_text, display_fault, lent_fault, shows_all}
use Rattle.property_lists.specs.Displays.{instruction_shown, kerns_shown, entries_shown, left_shown}
use Rattle.property_lists.specs.ListReading.{ListRead, reading_by, progress_by, nothing_read, applied, is_ended, property_on, read_all, list_finished, pl_read}
use Rattle.pl_read_backs.specs.Purpose.{ListReadBack, SharedReadBack, FontReadBack}
use Rattle.pl_read_backs.proofs.Lines.{boundary_read, table_read, closed_read}
use Rattle.pl_read_backs.proofs.Kept.{plain_bytes, plain_char, inside, LevelOne, end_kept}
use Rattle.pl_read_backs.proofs.Texts.{LinesOf, lines_kept, lines_few, lines_on, property_on_lem, applied_all}
use Rattle.pl_read_backs.proofs.Labels.{table_places, labels_at, labels_none, labels_all, Standing}
use Rattle.pl_read_backs.proofs.Steps.{packed_at}
use Rattle.pl_read_backs.proofs.Programs.{ProgramRead, program_read}

-- ---- more fuel than enough

fuel_more : (a b : ℕ) (r s : ListRead) (bs : List ℕ) → a ≤ b → read_all a r bs ≡ some s → read_all b r bs ≡ some s
unfolding read_all
fuel_more zero b r s bs h e = absurd (let z : ◌≡◌ {A = ℕ} 0 1 = cc in omega arith)
fuel_more (suc a) zero r s bs h e = absurd (omega arith)
fuel_more (suc a) (suc b) r s bs h e = by (property_at bs) (λ x rest k. fuel_more a b x s rest (omega arith) k) e
  where
    then : (p : Property) (rest : List ℕ) (o : Option ListRead) → ((x : ListRead) (rest : List ℕ) → read_all a x rest ≡ some s → read_all b x rest ≡ some s) →
        then_by o (λ x. read_all a x rest) ≡ some s → then_by o (λ x. read_all b x rest) ≡ some s
    then p rest none f e = e
    then p rest (some x) f e = f x rest e

    on : (p : Property) (rest : List ℕ) (t : Bool) → ((x : ListRead) (rest : List ℕ) → read_all a x rest ≡ some s → read_all b x rest ≡ some s) →
        cond t (some r) (then_by (applied p r) (λ x. read_all a x rest)) ≡ some s → cond t (some r) (then_by (applied p r) (λ x. read_all b x rest)) ≡ some s
    on p rest true f e = e
    on p rest false f e = then p rest (applied p r) f e

    by : (o : Option (Property × List ℕ)) → ((x : ListRead) (rest : List ℕ) → read_all a x rest ≡ some s → read_all b x rest ≡ some s) →
        then_by o (property_on (read_all a) r) ≡ some s → then_by o (property_on (read_all b) r) ≡ some s
    by none f e = e
    by (some (p, rest)) f e = on p rest (is_ended p) f e

-- ---- LIGTABLE

-- the text of LIGTABLE, its properties p
abbrev table_text : List ℕ → List ℕ
table_text lines = 40 ∷ 76 ∷ 73 ∷ 71 ∷ 84 ∷ 65 ∷ 66 ∷ 76 ∷ 69 ∷ 10 ∷ (lines ++ (32 ∷ 32 ∷ 32 ∷ line_end))

table_kept : (good : ℕ) {lines : List ℕ} {ps : List Property} → LinesOf lines ps → indents_kept (indents_by 0 0 0 good 0) (table_text lines) ≡ true
unfolding indents_kept
table_kept good l = (lines_kept l (32 ∷ 32 ∷ 32 ∷ line_end) end_kept).first (good + 1)

-- from before it to behind it
table_on : (boundary stage : ℕ) → stage ≤ 1 → (lines : List ℕ) (ps : List Property) → LinesOf lines ps →
    (program labels : List ℤ) (most : ℕ) (x : ListRead) →
    applied_all ps (reading_by (progress_by 2 boundary 0 false 0) [] (replicate 257 (negsuc 0))) ≡ some x →
    (l : Standing labels program boundary most most x) →
    read_all (suc (length ps + 2)) (reading_by (progress_by stage boundary 0 false 0) [] (replicate 257 (negsuc 0))) (table_text lines) ≡
    some (reading_by (progress_by 3 boundary most false l.needed) program labels)
unfolding applied read_all pass_over
table_on boundary stage h lines ps k program labels most x e l =
    property_on_lem (length ps + 2) (reading_by (progress_by stage boundary 0 false 0) [] (replicate 257 (negsuc 0))) property.Table (table_text lines)
    (lines ++ (32 ∷ 32 ∷ 32 ∷ line_end)) (table_read (lines ++ (32 ∷ 32 ∷ 32 ∷ line_end))) refl
    ∙ opened ∙ lines_on k 2 (reading_by (progress_by 2 boundary 0 false 0) [] (replicate 257 (negsuc 0))) (32 ∷ 32 ∷ 32 ∷ line_end)
    ∙ rw e closed
  where
    opened : then_by (applied property.Table (reading_by (progress_by stage boundary 0 false 0) [] (replicate 257 (negsuc 0))))
        (λ s. read_all (length ps + 2) s (lines ++ (32 ∷ 32 ∷ 32 ∷ line_end)))
        ≡ read_all (length ps + 2) (reading_by (progress_by 2 boundary 0 false 0) [] (replicate 257 (negsuc 0))) (lines ++ (32 ∷ 32 ∷ 32 ∷ line_end))
    opened = rw (le-leb stage 1 h)

    ended : (y : ListRead) → read_all 1 y [] ≡ some y
    ended y = refl

    closed : read_all 2 x (32 ∷ 32 ∷ 32 ∷ line_end) ≡ some (reading_by (progress_by 3 boundary most false l.needed) program labels)
    closed =
        property_on_lem 1 x property.Closed (32 ∷ 32 ∷ 32 ∷ line_end) [] (closed_read []) refl
        ∙ rw (l.is, l.done refl) (ended (reading_by (progress_by 3 boundary most false l.needed) program labels))

-- ---- the boundary character in front

abbrev stage_of : ℤ → ℕ
stage_of (pos c) = 1
stage_of (negsuc m) = 0

abbrev boundary_bits : ℤ → ℕ
boundary_bits (pos c) = c
boundary_bits (negsuc m) = 4294967295

abbrev fronted : ℤ → ListRead
fronted b = reading_by (progress_by (stage_of b) (boundary_bits b) 0 false 0) [] (replicate 257 (negsuc 0))

front_on : (b : ℤ) → absent_or 255 b ≡ true → (a : ℕ) (rest : List ℕ) (x : ListRead) → read_all a (fronted b) rest ≡ some x →
    read_all (suc a) nothing_read (boundary_line b ++ rest) ≡ some x
unfolding applied
front_on (pos c) h a rest x e =
    let l : c ≤ 255 = leb-true c 255 h in
    property_on_lem a nothing_read (property.Boundary c) (boundary_line (pos c) ++ rest) rest (boundary_read rest c (omega arith)) refl ∙ e
front_on (negsuc m) h a rest x e = fuel_more a (suc a) (fronted (negsuc m)) x rest (omega arith) e

front_kept : (b : ℤ) → absent_or 255 b ≡ true → (rest : List ℕ) → ((good : ℕ) → indents_kept (indents_by 0 0 0 good 0) rest ≡ true) →
    good_indents (boundary_line b ++ rest) ≡ true
unfolding indents_kept plain_bytes
front_kept (pos c) h rest k =
    let l : c ≤ 255 = leb-true c 255 h in
    ap (λ (t : List ℕ). good_indents (40 ∷ t))
    (append_assoc (66 ∷ 79 ∷ 85 ∷ 78 ∷ 68 ∷ 65 ∷ 82 ∷ 89 ∷ 67 ∷ 72 ∷ 65 ∷ 82 ∷ octal_char c) line_end rest)
    ∙ inside 1 1 0 (66 ∷ 79 ∷ 85 ∷ 78 ∷ 68 ∷ 65 ∷ 82 ∷ 89 ∷ 67 ∷ 72 ∷ 65 ∷ 82 ∷ octal_char c) (41 ∷ 10 ∷ rest) (plain_char c (omega arith)) ∙ k 1
front_kept (negsuc m) h rest k = k 0

boundary_is : (b : ℤ) → absent_or 255 b ≡ true → number_of (boundary_bits b) ≡ b
boundary_is (pos c) h = let l : c ≤ 255 = leb-true c 255 h in number_pos c (omega arith)
boundary_is (negsuc m) h = let e : m ≡ 0 = eqb-true m 0 h in ap negsuc (sym e)

stage_few : (b : ℤ) → stage_of b ≤ 1
stage_few (pos c) = omega arith
stage_few (negsuc m) = omega arith

-- ---- the whole

module _ (s kerns es : List ℤ) (b l : ℤ) (fs : AreI32 s) (fk : AreI32 kerns) (fe : AreI32 es) (fb : SFits w32 b) (fl : SFits w32 l)
    (taken : display_fault s kerns es b l ≡ 0) where
  program_taken : program_refusal s ≡ 0
  program_taken = (or_else_none (program_refusal s) (or_else (lent_fault kerns es b l) (unless 24 (shows_all s kerns es l))) taken).0

  rest_taken : (lent_fault kerns es b l ≡ 0) × (unless 24 (shows_all s kerns es l) ≡ 0)
  rest_taken =
      or_else_none (lent_fault kerns es b l) (unless 24 (shows_all s kerns es l))
      (or_else_none (program_refusal s) (or_else (lent_fault kerns es b l) (unless 24 (shows_all s kerns es l))) taken).1

  edges_taken : (absent_refusal 255 b ≡ 0) × (absent_refusal 65535 l ≡ 0)
  edges_taken =
      let a = (or_else_none (kerns_refusal kerns) (or_else (entries_refusal 65535 es) (or_else (absent_refusal 255 b) (absent_refusal 65535 l))) rest_taken.0).1 in
      or_else_none (absent_refusal 255 b) (absent_refusal 65535 l)
      (or_else_none (entries_refusal 65535 es) (or_else (absent_refusal 255 b) (absent_refusal 65535 l)) a).1

  boundary_there : absent_or 255 b ≡ true
  boundary_there = unless_none 3 (absent_or 255 b) edges_taken.0

  left_there : absent_or 65535 l ≡ true
  left_there = unless_none 3 (absent_or 65535 l) edges_taken.1

  all_shown : shows_all s kerns es l ≡ true
  all_shown = unless_none 23 (shows_all s kerns es l) rest_taken.1

  steps_shown : every (count s) (instruction_shown s (length kerns)) ≡ true
  steps_shown =
      both_left (every (count s) (instruction_shown s (length kerns))) (both (kerns_shown kerns) (both (entries_shown (count s) es) (left_shown
      (count s) l))) all_shown

  others_shown : both (kerns_shown kerns) (both (entries_shown (count s) es) (left_shown (count s) l)) ≡ true
  others_shown =
      both_right (every (count s) (instruction_shown s (length kerns))) (both (kerns_shown kerns) (both (entries_shown (count s) es) (left_shown
      (count s) l))) all_shown

  kerns_shown_lem : kerns_shown kerns ≡ true
  kerns_shown_lem = both_left (kerns_shown kerns) (both (entries_shown (count s) es) (left_shown (count s) l)) others_shown

  leads : both (entries_shown (count s) es) (left_shown (count s) l) ≡ true
  leads = both_right (kerns_shown kerns) (both (entries_shown (count s) es) (left_shown (count s) l)) others_shown

  table_fits : (c : ℕ) → c < 257 → SFits w32 (get_or (entries_table es l) c (pos 0))
  table_fits = table_places (λ z. SFits w32 z) absent_fits es l (λ i h. fe (2 * i + 1)) fl
    where
      absent_fits : SFits w32 (negsuc 0)
      absent_fits = number_fits 4294967295 (omega arith)

  values : (c n : ℕ) → c < 257 → n < count s → word_of (get_or (entries_table es l) c (pos 0)) ≡ n → get_or (entries_table es l) c (pos 0) ≡ pos n
  values c n h k e =
      let m = program_size s program_taken in
      sym (number_word (get_or (entries_table es l) c (pos 0)) (table_fits c h)) ∙ ap number_of e ∙ number_pos n (omega arith)

  left_leads : (z : ℤ) → absent_or 65535 z ≡ true → left_shown (count s) z ≡ true → (word_of z < count s) ⊎ (z ≡ negsuc 0)
  left_leads (pos m) a e = inl (ltb-true m (count s) e)
  left_leads (negsuc m) a e = inr (ap negsuc (eqb-true m 0 a))

  table_leads : (c : ℕ) → c < 257 → (word_of (get_or (entries_table es l) c (pos 0)) < count s) ⊎ (get_or (entries_table es l) c (pos 0) ≡ negsuc 0)
  table_leads =
      table_places (λ z. (word_of z < count s) ⊎ (z ≡ negsuc 0)) (inr refl) es l
      (λ i h.
      inl (ltb-true (word_of (entry_at es i)) (count s)
      (every_at (length es / 2) i (λ j. ltb (word_of (entry_at es j)) (count s)) (both_left (entries_shown (count s) es) (left_shown (count s) l) leads) h)))
      (left_leads l left_there (both_right (entries_shown (count s) es) (left_shown (count s) l) leads))

  table_long : length (entries_table es l) ≡ 257
  unfolding entries_table
  table_long = length-set (entered es (length es / 2)) 256 l ∙ length_entered es (length es / 2)

  labels_are : labels_at (entries_table es l) (count s) 0 false ≡ entries_table es l
  labels_are = labels_all (entries_table es l) (count s) table_long table_leads

  program_is : tabulate (4 * count s) (packed_at s kerns) ≡ packed s kerns
  program_is = ap (λ (n : ℕ). tabulate n (packed_at s kerns)) (sym (program_fours s program_taken))

  -- what is read of a text in front of which the boundary character may stand
  finished_read : (text : List ℕ) (a : ℕ) (x y : ListRead) → a ≤ suc (length text) → good_indents text ≡ true → read_all a nothing_read text ≡ some x →
      list_finished x ≡ some y → pl_read text ≡ some y
  finished_read text a x y h g e f = rw (g, fuel_more a (suc (length text)) nothing_read x text h e) f

  front_finished : (z : ℤ) → list_finished (fronted z) ≡ some (fronted z)
  front_finished (pos c) = refl
  front_finished (negsuc m) = refl

  -- without instructions, and perhaps a boundary character
  front_read : (z : ℤ) → absent_or 255 z ≡ true → pl_read (boundary_line z ++ []) ≡ some (fronted z)
  unfolding read_all pass_over indents_kept
  front_read (pos c) h =
      finished_read (boundary_line (pos c) ++ []) 2 (fronted (pos c)) (fronted (pos c)) (omega arith) (front_kept (pos c) h [] (λ good. refl))
      (front_on (pos c) h 1 [] (fronted (pos c)) refl) (front_finished (pos c))
  front_read (negsuc m) h = refl

  no_table : count s ≡ 0 → ListReadBack (display_text s kerns es b l) s kerns es b l
  unfolding tabulate
  no_table e =
      let text : display_text s kerns es b l ≡ boundary_line b ++ [] =
      ap (λ (x : Bool). boundary_line b ++ cond x [] (table_text (program_lines s kerns (entries_table es l) (count s)))) (eq-eqb (count s) 0 e) in
      record {
        font = fronted b;
        read = ap pl_read text ∙ front_read b boundary_there;
        steps = sym e;
        program = sym (ap (λ (n : ℕ). tabulate n (packed_at s kerns)) (program_fours s program_taken ∙ ap (λ (n : ℕ). 4 * n) e));
        labels = labels_none (entries_table es l) ∙ ap (λ (n : ℕ). labels_at (entries_table es l) n 0 false) (sym e) ∙ labels_are;
        boundary_char = boundary_is b boundary_there;
      }

  -- with instructions
  started : Standing (labels_at (entries_table es l) 0 0 false) (tabulate (4 * 0) (packed_at s kerns)) (boundary_bits b) (count s) 0
      (reading_by (progress_by 2 (boundary_bits b) 0 false 0) [] (replicate 257 (negsuc 0)))
  unfolding tabulate
  started =
      record {
        ending = false;
        needed = 0;
        is = ap (reading_by (progress_by 2 (boundary_bits b) 0 false 0) []) (labels_none (entries_table es l));
        few = omega arith;
        done = λ q. refl;
      }

  all_read : ProgramRead s kerns (entries_table es l) (boundary_bits b) (program_size s program_taken) fs fk (program_record s program_taken)
      (λ i h. every_at (count s) i (instruction_shown s (length kerns)) steps_shown h) kerns_shown_lem values (count s)
      (reading_by (progress_by 2 (boundary_bits b) 0 false 0) [] (replicate 257 (negsuc 0)))
  all_read =
      program_read s kerns (entries_table es l) (boundary_bits b) (program_size s program_taken) fs fk (program_record s program_taken)
      (λ i h. every_at (count s) i (instruction_shown s (length kerns)) steps_shown h) kerns_shown_lem values (count s) (omega arith)
      (reading_by (progress_by 2 (boundary_bits b) 0 false 0) [] (replicate 257 (negsuc 0))) started

  with_table : (count s ≡ 0 → ⊥) → ListReadBack (display_text s kerns es b l) s kerns es b l
  with_table n =
      let p = all_read in
      let st = p.after.holds in
      let text : display_text s kerns es b l ≡ boundary_line b ++ table_text (program_lines s kerns (entries_table es l) (count s)) =
      ap (λ (x : Bool). boundary_line b ++ cond x [] (table_text (program_lines s kerns (entries_table es l) (count s)))) (ne_eqb (count s) 0 n) in
      let few = lines_few p.lines in
      let long : suc (suc (length p.props + 2)) ≤ suc (length (boundary_line b ++ table_text (program_lines s kerns (entries_table es l) (count s)))) =
      simp length-append (omega arith) in
      let on = table_on (boundary_bits b) (stage_of b) (stage_few b) (program_lines s kerns (entries_table es l) (count s)) p.props p.lines
      (tabulate (4 * count s) (packed_at s kerns)) (labels_at (entries_table es l) (count s) 0 false) (count s) p.after.reading p.after.read st in
      record {
        font = reading_by (progress_by 3 (boundary_bits b) (count s) false st.needed) (tabulate (4 * count s) (packed_at s kerns))
            (labels_at (entries_table es l) (count s) 0 false);
        read =
            ap pl_read text
            ∙ finished_read (boundary_line b ++ table_text (program_lines s kerns (entries_table es l) (count s))) (suc (suc (length p.props + 2)))
            (reading_by (progress_by 3 (boundary_bits b) (count s) false st.needed) (tabulate (4 * count s) (packed_at s kerns))
            (labels_at (entries_table es l) (count s) 0 false))
            (reading_by (progress_by 3 (boundary_bits b) (count s) false st.needed) (tabulate (4 * count s) (packed_at s kerns))
            (labels_at (entries_table es l) (count s) 0 false))
            long (front_kept b boundary_there (table_text (program_lines s kerns (entries_table es l) (count s))) (λ good. table_kept good p.lines))
            (front_on b boundary_there (suc (length p.props + 2)) (table_text (program_lines s kerns (entries_table es l) (count s)))
            (reading_by (progress_by 3 (boundary_bits b) (count s) false st.needed) (tabulate (4 * count s) (packed_at s kerns))
            (labels_at (entries_table es l) (count s) 0 false)) on)
            (rw (le-leb st.needed (count s) st.few));
        steps = refl;
        program = program_is;
        labels = labels_are;
        boundary_char = boundary_is b boundary_there;
      }

list_read_back : (s kerns es : List ℤ) (b l : ℤ) → AreI32 s → AreI32 kerns → AreI32 es → SFits w32 b → SFits w32 l → display_fault s kerns es b l ≡ 0 →
    ListReadBack (display_text s kerns es b l) s kerns es b l
list_read_back s kerns es b l fs fk fe fb fl taken = by (same_or_not (count s) 0)
  where
    by : (count s ≡ 0) ⊎ (count s ≡ 0 → ⊥) → ListReadBack (display_text s kerns es b l) s kerns es b l
    by (inl e) = no_table s kerns es b l fs fk fe fb fl taken e
    by (inr n) = with_table s kerns es b l fs fk fe fb fl taken n

-- ---- what is answered

left_at : (es : List ℤ) (l : ℤ) → get_or (entries_table es l) 256 (pos 0) ≡ l
unfolding entries_table
left_at es l = get_or-set_same (entered es (length es / 2)) 256 l (pos 0) (omega (arith, length_entered es (length es / 2)))

shared_read_back : {text : List ℕ} {s kerns es : List ℤ} {b l : ℤ} → ListReadBack text s kerns es b l → SharedReadBack text s kerns es b l
shared_read_back {es = es} {l = l} k =
    record {
      program = rw (k.read, k.program);
      shares = rw (k.read, k.program);
      entries = rw (k.read, k.labels);
      values = rw (k.read, k.steps, k.program, k.labels, k.boundary_char, left_at es l);
    }

pub font_read_back : FontReadBack
font_read_back s kerns es b l fs fk fe fb fl taken =
    let k = list_read_back s kerns es b l fs fk fe fb fl taken in
    (k, shared_read_back k)
