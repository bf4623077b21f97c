-- Where a character's program starts: the table of the entries of a file, unpacked, has TeX's lig_kern_start, or its lig_kern_restart.
-- Assumes nothing.
use mathlib.Core.Path.{◌≡◌, refl, sym, ap, ◌∙◌}
use mathlib.Core.Bool.{Bool, true, false, cond, not}
use mathlib.Core.List.{List, [], ◌∷◌, ◌++◌, append-nil}
use mathlib.Core.Logic.{◌⊎◌, inl, inr}
use Prim.Native.Nat.{ℕ, zero, suc, ◌+◌, ◌-◌, ◌*◌, ◌/◌, ◌%◌, ◌<◌, ◌≤◌}
use native.Mathlib.Omega.{arith}
use lib.IntN.{ℤ, pos, negsuc}
use lib.Dec.{leb, ltb, eqb}
use lib.ListN.{length, get_or, set, get_or-replicate}
use lib.Seq.{get_or-set_same, get_or-set_other}
use borrow.Author.Tests.{lt-ltb, le-ltb, le-leb, lt-leb, leb-true, leb-false, ltb-true, ltb-false, eqb-true, eqb-false, eq-eqb, ne_eqb}
use Rattle.words.specs.Words.{word_of}
use Rattle.lang.specs.Every.{both}
use Rattle.lang.specs.Records.{count, is_kind}
use Rattle.lang.specs.Entries.{entered, entries_table}
use Rattle.lang.specs.Checks.{unless, char_at, entry_at}
use Rattle.lang.proofs.Tables.{length_entered}
use Rattle.entry_targets.specs.Targets.{target_at, stands_for, entry_refusal}
use Rattle.reading.specs.Items.{Left, bnd, chr}
use Rattle.fonts.specs.Fonts.{left_entry_of, table_of}
use Rattle.files.specs.Lengths.{lengths_of, char_count, char_start, lengths_refusal}
use Rattle.files.specs.Commands.{word_byte, is_lig_tagged, char_entry}
use Rattle.files.specs.Reading.{entries_from, file_instructions, file_entries, file_left}
use Rattle.files.proofs.Entries.{table_is}
use Rattle.files.proofs.Lengths.{taken_fits}
use Rattle.file_fonts.specs.Meant.{leads, unpacked_below, meant_entries, meant_font}
use Rattle.file_fonts.specs.Purpose.{AreBytes}
use Rattle.file_fonts.proofs.Ascending.{Ascending, twos, char_before, entry_before, char_last, entry_last, one_more, file_ascending, unpacked_ascending}
use Rattle.file_fonts.proofs.Ascending.{unpacked_last}
use Rattle.main_loop_fonts.specs.Search.{skip_byte, restart_at, has_program, char_info, lig_kern_start, restarted_search}
use Rattle.main_loop_fonts.proofs.Loads.{TexLoads}
use Rattle.main_loop_fonts.proofs.Commands.{Inside, count_file, redirect_at, target_at_lem}

-- ---- a place of the table of a list of entries

abbrev lookup : List ℤ → ℕ → ℤ
lookup es c = get_or (entered es (length es / 2)) c (negsuc 0)

entered_before : (es : List ℤ) (x y : ℤ) (k : ℕ) → k ≤ length es / 2 → entered (es ++ (x ∷ y ∷ [])) k ≡ entered es k
unfolding entered
entered_before es x y zero h = refl
entered_before es x y (suc k) h = rw (entered_before es x y k (omega arith), char_before es x y k (omega arith), entry_before es x y k (omega arith))

set_by : (table : List ℤ) (x : ℕ) (y : ℤ) (c : ℕ) → x < length table → (t : Bool) → eqb c x ≡ t →
    get_or (set table x y) c (negsuc 0) ≡ cond t y (get_or table c (negsuc 0))
set_by table x y c h true t = rw (eqb-true c x t) (get_or-set_same table x y (negsuc 0) h)
set_by table x y c h false t = get_or-set_other table x c y (negsuc 0) (λ e. eqb-false c x t e)

-- one entry more
lookup_more : (es : List ℤ) (x : ℕ) (y : ℤ) (c : ℕ) → length es % 2 ≡ 0 → x < 257 → lookup (es ++ (pos x ∷ y ∷ [])) c ≡ cond (eqb c x) y (lookup es c)
unfolding entered
lookup_more es x y c e h =
    rw (one_more es (pos x) y e)
    rw (entered_before es (pos x) y (length es / 2) (omega arith), char_last es (pos x) y e, entry_last es (pos x) y e)
    (set_by (entered es (length es / 2)) x y c (rw (length_entered es (length es / 2)) h) (eqb c x) refl)

lookup_none : (c : ℕ) → c < 257 → lookup [] c ≡ negsuc 0
unfolding entered
lookup_none c h = get_or-replicate 257 c (negsuc 0) (negsuc 0) h

-- ---- an entry that TeX takes

module _ (file : List ℕ) (bytes : AreBytes file) (loads : TexLoads file) where
  target_by : (e : ℕ) → Inside file e → (t : Bool) → leb (skip_byte file e) 128 ≡ t →
      cond (not t) (target_at (file_instructions file) e) e ≡ cond t e (restart_at file e)
  target_by e h true t = refl
  target_by e h false t = target_at_lem file bytes e h (leb-false (skip_byte file e) 128 t)

  pub stands_for_lem : (e : ℕ) → Inside file e → stands_for (file_instructions file) e ≡ restarted_search file e
  stands_for_lem e h = rw (redirect_at file bytes e h) (target_by e h (leb (skip_byte file e) 128) refl)

  leads_by : (e : ℕ) → Inside file e → (t : Bool) → leb (skip_byte file e) 128 ≡ t →
      cond (not t) (unless 9 (ltb (target_at (file_instructions file) e) (count (file_instructions file)))) 0 ≡ 0
  leads_by e h true t = refl
  leads_by e h false t =
      let l = leb-false (skip_byte file e) 128 t in
      rw (target_at_lem file bytes e h l, lt-ltb (restart_at file e) (count (file_instructions file)) (omega (arith, loads.restarts e h l, count_file file)))

  leads_there : (e : ℕ) → Inside file e → leads (file_instructions file) e ≡ true
  leads_there e h =
      eq-eqb (entry_refusal (file_instructions file) e) 0
      (ap
      (λ (t : Bool). cond t
      (cond (is_kind 3 (file_instructions file) e) (unless 9 (ltb (target_at (file_instructions file) e) (count (file_instructions file)))) 0) 8) (lt-ltb e (count
      (file_instructions file)) (omega (arith, count_file file)))
      ∙ ap (λ (t : Bool). cond t (unless 9 (ltb (target_at (file_instructions file) e) (count (file_instructions file)))) 0)
      (redirect_at file bytes e h)
      ∙ leads_by e h (leb (skip_byte file e) 128) refl)

  -- ---- the entries of the first n characters

  abbrev listed : ℕ → List ℤ
  listed n = entries_from file (lengths_of file).bc (char_start (lengths_of file)) n

  abbrev unpacked : ℕ → List ℤ
  unpacked n = unpacked_below (file_instructions file) (listed n) (length (listed n) / 2)

  listed_even : (n : ℕ) → length (listed n) % 2 ≡ 0
  listed_even n = twos (file_ascending file bytes (lengths_of file).bc (char_start (lengths_of file)) n)

  unpacked_even : (n : ℕ) → length (unpacked n) % 2 ≡ 0
  unpacked_even n = twos (unpacked_ascending (file_instructions file) (file_ascending file bytes (lengths_of file).bc (char_start (lengths_of file)) n))

  -- what the word of character bc + n says
  abbrev tagged : ℕ → Bool
  tagged n = is_lig_tagged file (char_start (lengths_of file) + n)

  abbrev start_at : ℕ → ℕ
  start_at n = word_byte file (char_start (lengths_of file) + n) 3

  unpacked_by : (n : ℕ) (t : Bool) → (t ≡ true → Inside file (start_at n)) →
      unpacked_below (file_instructions file) (listed n ++ cond t (pos ((lengths_of file).bc + n) ∷ pos (start_at n) ∷ []) [])
      (length (listed n ++ cond t (pos ((lengths_of file).bc + n) ∷ pos (start_at n) ∷ []) []) / 2)
      ≡ unpacked n ++ cond t (pos ((lengths_of file).bc + n) ∷ pos (restarted_search file (start_at n)) ∷ []) []
  unpacked_by n true g =
      let h = g refl in
      unpacked_last (file_instructions file) (listed n) (pos ((lengths_of file).bc + n)) (start_at n) (listed_even n)
      ∙ rw (leads_there (start_at n) h, stands_for_lem (start_at n) h) refl
  unpacked_by n false g = rw (append-nil (listed n)) (sym (append-nil (unpacked n)))

  unpacked_more : (n : ℕ) → (tagged n ≡ true → Inside file (start_at n)) →
      unpacked (suc n) ≡ unpacked n ++ cond (tagged n) (pos ((lengths_of file).bc + n) ∷ pos (restarted_search file (start_at n)) ∷ []) []
  unfolding entries_from
  unpacked_more n g = unpacked_by n (tagged n) g

  -- the entry of character c among the first n
  abbrev among : ℕ → ℕ → Bool
  among n c = both (leb (lengths_of file).bc c) (ltb c ((lengths_of file).bc + n))

  abbrev entry_for : ℕ → ℤ
  entry_for c = cond (tagged (c - (lengths_of file).bc)) (pos (restarted_search file (start_at (c - (lengths_of file).bc)))) (negsuc 0)

  entry_by : (n c : ℕ) (t : Bool) → (lengths_of file).bc + n < 257 → lookup (unpacked n) c ≡ cond (among n c) (entry_for c) (negsuc 0) →
      lookup (unpacked n ++ cond t (pos ((lengths_of file).bc + n) ∷ pos (restarted_search file (start_at n)) ∷ []) []) c
      ≡ cond t (cond (eqb c ((lengths_of file).bc + n)) (pos (restarted_search file (start_at n))) (cond (among n c) (entry_for c) (negsuc 0)))
      (cond (among n c) (entry_for c) (negsuc 0))
  entry_by n c true h e =
      lookup_more (unpacked n) ((lengths_of file).bc + n) (pos (restarted_search file (start_at n))) c (unpacked_even n) h
      ∙ ap (λ (z : ℤ). cond (eqb c ((lengths_of file).bc + n)) (pos (restarted_search file (start_at n))) z) e
  entry_by n c false h e = rw (append-nil (unpacked n)) e

  -- at the new character, and at another
  among_new : (n c : ℕ) (t : Bool) → eqb c ((lengths_of file).bc + n) ≡ t →
      cond (tagged n) (cond t (pos (restarted_search file (start_at n))) (cond (among n c) (entry_for c) (negsuc 0))) (cond (among n c) (entry_for c) (negsuc 0))
      ≡ cond (among (suc n) c) (entry_for c) (negsuc 0)
  among_new n c true t =
      let e : c ≡ (lengths_of file).bc + n = eqb-true c ((lengths_of file).bc + n) t in
      let d : c - (lengths_of file).bc ≡ n = omega arith in
      rw (
        le-leb (lengths_of file).bc c (omega arith),
        lt-ltb c ((lengths_of file).bc + suc n) (omega arith),
        le-ltb c ((lengths_of file).bc + n)
            (omega arith),
        d,
      ) refl
  among_new n c false t =
      same (tagged n) ∙ ap (λ (b : Bool). cond (both (leb (lengths_of file).bc c) b) (entry_for c) (negsuc 0)) (other (ltb c ((lengths_of file).bc + n)) refl)
    where
      same : (b : Bool) → cond b (cond (among n c) (entry_for c) (negsuc 0)) (cond (among n c) (entry_for c) (negsuc 0)) ≡ cond (among n c) (entry_for c)
          (negsuc 0)
      same true = refl
      same false = refl

      other : (b : Bool) → ltb c ((lengths_of file).bc + n) ≡ b → ltb c ((lengths_of file).bc + n) ≡ ltb c ((lengths_of file).bc + suc n)
      other true b = b ∙ sym (lt-ltb c ((lengths_of file).bc + suc n) (omega (arith, ltb-true c ((lengths_of file).bc + n) b)))
      other false b =
          let l : (lengths_of file).bc + n ≤ c = ltb-false c ((lengths_of file).bc + n) b in
          let k = eqb-false c ((lengths_of file).bc + n) t in
          b ∙ sym (le-ltb c ((lengths_of file).bc + suc n) (past l k))
        where
          past : (lengths_of file).bc + n ≤ c → (c ≡ (lengths_of file).bc + n → ⊥) → (lengths_of file).bc + suc n ≤ c
          past l k = omega (arith, k)

  none_among : (c : ℕ) (t : Bool) → leb (lengths_of file).bc c ≡ t → negsuc 0 ≡ cond (both t (ltb c ((lengths_of file).bc + 0))) (entry_for c) (negsuc 0)
  none_among c true t = rw (le-ltb c ((lengths_of file).bc + 0) (omega (arith, leb-true (lengths_of file).bc c t))) refl
  none_among c false t = refl

  entries : (n c : ℕ) → (lengths_of file).bc + n ≤ 256 → c < 257 → ((m : ℕ) → m < n → tagged m ≡ true → Inside file (start_at m)) →
      lookup (unpacked n) c ≡ cond (among n c) (entry_for c) (negsuc 0)
  unfolding entries_from unpacked_below
  entries zero c h l g = lookup_none c l ∙ none_among c (leb (lengths_of file).bc c) refl
  entries (suc n) c h l g =
      ap (λ (es : List ℤ). lookup es c) (unpacked_more n (g n (omega arith)))
      ∙ entry_by n c (tagged n) (omega arith) (entries n c (omega arith) l (λ m k. g m (omega arith)))
      ∙ among_new n c (eqb c ((lengths_of file).bc + n)) refl

  -- ---- the table of the font that the file means

  module _ (ok : lengths_refusal file ≡ 0) where
    within : (m : ℕ) → m < char_count (lengths_of file) → tagged m ≡ true → Inside file (start_at m)
    within m h t =
        let f = taken_fits file ok in
        let c = (lengths_of file).bc + m in
        let d : c - (lengths_of file).bc ≡ m = omega arith in
        let p : has_program file c ≡ true =
        rw (le-leb (lengths_of file).bc c (omega arith), le-leb c (lengths_of file).ec (omega (arith, f.low)), d, t) in
        rw d at (loads.starts c p)

    nested : (p q t : Bool) (z : ℤ) → cond (both p q) (cond t z (negsuc 0)) (negsuc 0) ≡ cond (both p (both q t)) z (negsuc 0)
    nested true true t z = refl
    nested true false t z = refl
    nested false q t z = refl

    last-char : (c : ℕ) (t : Bool) → leb (lengths_of file).bc c ≡ t →
        both t (ltb c ((lengths_of file).bc + char_count (lengths_of file))) ≡ both t (leb c (lengths_of file).ec)
    last-char c true t = by (leb c (lengths_of file).ec) refl
      where
        by : (u : Bool) → leb c (lengths_of file).ec ≡ u → ltb c ((lengths_of file).bc + char_count (lengths_of file)) ≡ leb c (lengths_of file).ec
        by true u =
            lt-ltb c ((lengths_of file).bc + char_count (lengths_of file)) (omega (arith, leb-true c (lengths_of file).ec u, (taken_fits file ok).low)) ∙ sym u
        by false u =
            le-ltb c ((lengths_of file).bc + char_count (lengths_of file)) (omega (arith, leb-false c (lengths_of file).ec u, (taken_fits file ok).low)) ∙ sym u
    last-char c false t = refl

    -- the entry of a character up to 255
    entry_of : (c : ℕ) → c < 256 → get_or (table_of (meant_font file)) c (negsuc 0) ≡ cond (has_program file c) (pos (restarted_search file (lig_kern_start file c)))
        (negsuc 0)
    entry_of c h =
        let f = taken_fits file ok in
        table_is (meant_entries file) (file_left file) c h
        ∙ entries (char_count (lengths_of file)) c (omega (arith, f.low, f.high)) (omega arith) within
        ∙ ap (λ (t : Bool). cond t (entry_for c) (negsuc 0)) (last-char c (leb (lengths_of file).bc c) refl)
        ∙ nested (leb (lengths_of file).bc c) (leb c (lengths_of file).ec) (tagged (c - (lengths_of file).bc)) (pos (restarted_search file (lig_kern_start file c)))

    past_last : (c : ℕ) → 256 ≤ c → has_program file c ≡ false
    past_last c h = rw (lt-leb c (lengths_of file).ec (omega (arith, (taken_fits file ok).high))) (never (leb (lengths_of file).bc c))
      where
        never : (t : Bool) → both t false ≡ false
        never true = refl
        never false = refl

    entry-by-range : (c : ℕ) (t : Bool) → ltb c 256 ≡ t →
        cond t (get_or (table_of (meant_font file)) c (negsuc 0)) (negsuc 0) ≡ cond (has_program file c) (pos (restarted_search file (lig_kern_start file c))) (negsuc 0)
    entry-by-range c true t = entry_of c (ltb-true c 256 t)
    entry-by-range c false t = rw (past_last c (ltb-false c 256 t)) refl

    pub char_entry_lem : (c : ℕ) → left_entry_of (table_of (meant_font file)) (chr c) ≡ cond (has_program file c) (pos (restarted_search file (lig_kern_start file c))) (negsuc 0)
    char_entry_lem c = entry-by-range c (ltb c 256) refl

    pub left_entry_lem : left_entry_of (table_of (meant_font file)) bnd ≡ file_left file
    unfolding entries_table
    left_entry_lem =
        get_or-set_same (entered (meant_entries file) (length (meant_entries file) / 2)) 256 (file_left file) (negsuc 0)
        (rw (length_entered (meant_entries file) (length (meant_entries file) / 2)) (omega arith))

    -- a character's program starts inside
    pub starts_inside : (c : ℕ) → has_program file c ≡ true → Inside file (restarted_search file (lig_kern_start file c))
    starts_inside c t = by (leb (skip_byte file (lig_kern_start file c)) 128) refl
      where
        by : (u : Bool) → leb (skip_byte file (lig_kern_start file c)) 128 ≡ u → Inside file (cond u (lig_kern_start file c) (restart_at file (lig_kern_start file c)))
        by true u = loads.starts c t
        by false u = loads.restarts (lig_kern_start file c) (loads.starts c t) (leb-false (skip_byte file (lig_kern_start file c)) 128 u)
