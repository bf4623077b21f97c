-- What is proved of a text whose kern values are shared: `SharingAltersNothing` and `NoValuesLeft` of specs/SharedPurpose.
-- Assumes nothing.
use mathlib.Core.Path.{◌≡◌, refl, sym, ap, ◌∙◌, fun_ext}
use mathlib.Core.Bool.{cond}
use mathlib.Core.List.{List, [], ◌∷◌, Memᴰ}
use mathlib.Core.Option.{Option, none, some}
use Prim.Native.Nat.{ℕ, zero, suc, ◌+◌, ◌*◌, ◌/◌, ◌%◌, ◌<◌, ◌≤◌}
use native.Mathlib.Omega.{arith}
use lib.IntN.{ℤ, pos, negsuc}
use lib.Dec.{leb, eqb}
use lib.ListN.{length}
use borrow.Author.Tests.{le-leb}
use Rattle.lang.specs.Every.{both, every}
use Rattle.lang.specs.Records.{count, instruction_at}
use Rattle.lang.specs.Checks.{unless, or_else, lower, program_refusal, kerns_refusal, entries_refusal, absent_refusal, design_refusal}
use Rattle.lang.specs.Answers.{room_refusal}
use Rattle.lang.proofs.Every.{every_ext}
use Rattle.lang.proofs.Refusals.{first_is, or_else_none, lower_some}
use Rattle.program_chain.specs.Chains.{acts_as}
use Rattle.program_kerns.specs.SharedKerns.{all_kerns, share_kerns}
use Rattle.program_kerns.proofs.SharedKerns.{kerns_few, shared_length}
use Rattle.reading.specs.Items.{Left}
use Rattle.reading.specs.Loops.{Ruled, finished, loop_list}
use Rattle.fonts.specs.Fonts.{Font, index_of, table_of, pairs_of, rule_of_operation, rule_of_index, rules_of}
use Rattle.fonts.specs.Numbers.{nth, ops_before, ops_table, pair_table, loop_numbers}
use Rattle.fonts.specs.Compiled.{Room, loops_of_font, total_ops, scales, pair_scales, all_scale, font_table, font_ops, font_loops}
use Rattle.fonts.specs.Compiled.{font_refusal, tables_refusal, compile_refusal}
use Rattle.captions.specs.Begin.{plain_options}
use Rattle.word_set.specs.Setting.{set_reply}
use Rattle.columns.specs.Texts.{Text, or_absent, font_as_it_stands, font_of_text}
use Rattle.columns.specs.Scanned.{length_of_word}
use Rattle.columns.specs.Replying.{reply_bytes, reply_refusal}
use Rattle.columns.specs.Ligcols.{column_room, item_room, column_items, column_bytes, signs_refusal, word_number, column_number, word_of_text}
use Rattle.columns.specs.SharedPurpose.{CompilesAlike, SharingAltersNothing, NoValueLeft, NoValuesLeft}
use Rattle.columns.proofs.TextLaws.{Known, text_known}
use Rattle.columns.proofs.SharedPrograms.{count_same, index_same, pairs_same, records_same, acts_same, Plain, rule_plain, pair_plain}
use Rattle.columns.proofs.SharedPrograms.{no_value_left, no_index_past}

nth_there : (ps : List Ruled) (k : ℕ) → k < length ps → Memᴰ (nth ps k) ps
nth_there [] k h = absurd (omega arith)
nth_there (p ∷ ps) zero h = Memᴰ.head refl
nth_there (p ∷ ps) (suc k) h = Memᴰ.tail (nth_there ps k (omega arith))

module _ (t : Text) (k : Known t) where
  abbrev s : List ℤ
  s = t.instructions

  abbrev ks : List ℤ
  ks = t.kerns

  -- shared, and as it stands
  abbrev F : Font
  F = font_of_text t

  abbrev G : Font
  G = font_as_it_stands t

  few : length ks + count s ≤ 65536
  few = omega (arith, k.kerns, k.instructions)

  pairs : pairs_of F ≡ pairs_of G
  pairs = pairs_same s ks (table_of G)

  -- ---- 1 to 5

  program_number : program_refusal (share_kerns s ks) ≡ program_refusal s
  program_number =
      λ x. or_else (unless 1 (both (eqb (shared_length s ks x % 4) 0) (leb (count_same s ks x) 32767)))
      (unless 2 (records_same s ks k.instruction_numbers k.kern_numbers few x))

  kerns_number : kerns_refusal (all_kerns s ks) ≡ kerns_refusal ks
  kerns_number =
      ap (unless 3)
      (le-leb (length (all_kerns s ks)) 32767 (omega (arith, kerns_few s ks (count s), k.kerns, k.instructions))
      ∙ sym (le-leb (length ks) 32767 (omega (arith, k.kerns))))

  -- 4 and 5 do not hang on it
  abbrev others : ℕ
  others =
      or_else (entries_refusal 65535 t.entries)
      (or_else (absent_refusal 255 (or_absent t.boundary)) (or_else (absent_refusal 65535 (or_absent t.left)) (design_refusal t.design)))

  font_number : font_refusal F ≡ font_refusal G
  font_number = λ x. or_else (program_number x) (or_else (kerns_number x) others)

  -- ---- where none of these refuses it

  module _ (taken : font_refusal G ≡ 0) where
    program_taken : program_refusal s ≡ 0
    program_taken = (or_else_none (program_refusal s) (or_else (kerns_refusal ks) others) taken).0

    acts : (i : ℕ) → Plain s i → acts_as (all_kerns s ks) (instruction_at (share_kerns s ks) i).operation ≡ acts_as ks (instruction_at s i).operation
    acts = acts_same s ks k.instruction_numbers k.kern_numbers few program_taken

    rule_by_lem : (o : Option ℕ) → ((i : ℕ) → o ≡ some i → Plain s i) → rule_of_index F o ≡ rule_of_index G o
    rule_by_lem none h = refl
    rule_by_lem (some i) h = ap (rule_of_operation t.design) (acts i (h i refl))

    rules-at : (l : Left) (r : ℕ) → rules_of F l r ≡ rules_of G l r
    rules-at l r =
        ap (rule_of_index F) (index_same s ks (table_of G) l r)
        ∙ rule_by_lem (index_of s (table_of G) l r) (λ i e. rule_plain s (table_of G) l r i e)

    rules : rules_of F ≡ rules_of G
    rules = fun_ext (λ l. fun_ext (λ r. rules-at l r))

    table : font_table F ≡ font_table G
    table = λ x. pair_table (finished (rules x) (pairs x)) (pairs x) (length (pairs x))

    ops : font_ops F ≡ font_ops G
    ops = λ x. ops_table (finished (rules x) (pairs x)) (pairs x) (length (pairs x))

    total : total_ops F ≡ total_ops G
    total = λ x. ops_before (finished (rules x) (pairs x)) (pairs x) (length (pairs x))

    loop-pairs : loops_of_font F ≡ loops_of_font G
    loop-pairs = λ x. loop_list (rules x) (pairs x)

    loops : font_loops F ≡ font_loops G
    loops = ap loop_numbers loop-pairs

    scale_at : (j : ℕ) → j < length (pairs_of G) →
        scales t.design (acts_as (all_kerns s ks) (instruction_at (share_kerns s ks) (nth (pairs_of G) j).index).operation) ≡ pair_scales G j
    scale_at j h = ap (scales t.design) (acts (nth (pairs_of G) j).index (pair_plain s (table_of G) (nth (pairs_of G) j) (nth_there (pairs_of G) j h)))

    scale : all_scale F ≡ all_scale G
    scale =
        (λ x. every (length (pairs x)) (λ j. scales t.design (acts_as (all_kerns s ks) (instruction_at (share_kerns s ks) (nth (pairs x) j).index).operation)))
        ∙ every_ext (length (pairs_of G))
        (λ j. scales t.design (acts_as (all_kerns s ks) (instruction_at (share_kerns s ks) (nth (pairs_of G) j).index).operation)) (pair_scales G) scale_at

    tables : (room : Room) → tables_refusal F room ≡ tables_refusal G room
    tables room =
        λ x.
        or_else (cond (both (leb (length (pairs x)) (room.work / 16)) (leb (length (pairs x)) (room.pairs / 6))) 0 12)
        (or_else (cond (scale x) 0 13)
        (or_else (cond (both (leb (total x) 2147483647) (leb (2 * total x) room.ops)) 0 14) (room_refusal (2 * length (loop-pairs x)) room.loops)))

    items : (letters : ℤ) (word : List ℕ) → column_items F letters word ≡ column_items G letters word
    items (pos n) word = λ x. set_reply (table x) (ops x) (or_absent t.boundary) word plain_options item_room
    items (negsuc n) word = refl

    bytes : (letters : ℤ) (word : List ℕ) → column_bytes F letters word ≡ column_bytes G letters word
    bytes letters word = λ x. reply_bytes (table x) (ops x) (loops x) letters (items letters word x).values

  -- ---- whatever refuses it

  number_by : (n : ℕ) → font_refusal G ≡ n → (room : Room) → or_else n (tables_refusal F room) ≡ or_else n (tables_refusal G room)
  number_by zero e room = tables e room
  number_by (suc n) e room = refl

  number : (room : Room) → compile_refusal F room ≡ compile_refusal G room
  number room = ap (λ (n : ℕ). or_else n (tables_refusal F room)) font_number ∙ number_by (font_refusal G) refl room

  module _ (letters : ℤ) (word : List ℕ) (room : ℕ) where
    -- the number of the word and of the reply, after those of the font
    abbrev after : Font → ℕ
    after f =
        or_else (word_number (font_table f) (font_ops f) (font_loops f) word room)
        (or_else (column_items f letters word).number (reply_refusal (column_bytes f letters word) room))

    reply_by_lem : (n : ℕ) → font_refusal G ≡ n →
        or_else (lower (compile_refusal G column_room) (signs_refusal word)) (after F) ≡ or_else (lower (compile_refusal G column_room) (signs_refusal word)) (after G)
    reply_by_lem zero e =
        λ x.
        or_else (lower (compile_refusal G column_room) (signs_refusal word))
        (or_else (word_number (table e x) (ops e x) (loops e x) word room)
        (or_else (items e letters word x).number (reply_refusal (bytes e letters word x) room)))
    reply_by_lem (suc n) e =
        let c : compile_refusal G column_room ≡ suc n = ap (λ (m : ℕ). or_else m (tables_refusal G column_room)) e in
        let l = lower (compile_refusal G column_room) (signs_refusal word) in
        let o : 0 < l = lower_some (compile_refusal G column_room) (signs_refusal word) (λ z. omega (arith, z, c)) in
        first_is l (after F) (λ z. omega (arith, z, o)) ∙ sym (first_is l (after G) (λ z. omega (arith, z, o)))

    reply_number : column_number F letters word room ≡ column_number G letters word room
    reply_number = ap (λ (m : ℕ). or_else (lower m (signs_refusal word)) (after F)) (number column_room) ∙ reply_by_lem (font_refusal G) refl

  alike : CompilesAlike F G
  alike = record { pairs = pairs; font_number = font_number; number = number; rules = rules-at; table = table; ops = ops; loops = loops }

  no_value : NoValueLeft F
  no_value =
      record {
        no_value = λ i h. no_value_left s ks i (omega (arith, h, count_same s ks));
        no_index_past = λ i h e z.
            no_index_past s ks i (omega (arith, h, count_same s ks)) e
            (or_else_none (program_refusal (share_kerns s ks)) (or_else (kerns_refusal (all_kerns s ks)) others) z).0;
      }

-- Sharing alters nothing that a text is answered with.
pub sharing_alters_nothing : SharingAltersNothing
sharing_alters_nothing text t e =
    let k = text_known text t e in
    record {
      compiles = alike t k;
      reply_number = reply_number t k (length_of_word t.word) (word_of_text t);
      reply_bytes_lem = λ z. bytes t k z (length_of_word t.word) (word_of_text t);
    }

-- No text's font holds a kern value, or an index past its kerns.
pub no_values_left : NoValuesLeft
no_values_left text t e = no_value t (text_known text t e)
