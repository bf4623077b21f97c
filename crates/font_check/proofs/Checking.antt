-- Laws of checking a file: what is known of a font that was read, and the contract by what compiling it answers.
-- Assumes nothing.
use mathlib.Core.Path.{◌≡◌, sym, ap, subst, ◌∙◌}
use mathlib.Core.List.{List, [], ◌∷◌, ◌++◌}
use Prim.Native.Nat.{ℕ, ◌+◌, ◌*◌, ◌/◌, ◌≤◌}
use native.Mathlib.Omega.{arith}
use lib.IntN.{ℤ, pos}
use lib.ListN.{length, take, replicate}
use Rattle.words.proofs.Lists.{length_tabulate}
use Rattle.lang.specs.Checks.{or_else}
use Rattle.lang.specs.Answers.{reply_of, list_of}
use Rattle.lang.proofs.Refusals.{second_is, second_none, first_refusal, refused_reply}
use Rattle.lang.proofs.Filled.{refused_list}
use Rattle.files.specs.Lengths.{lengths_of, command_start, kern_start}
use Rattle.files.specs.Commands.{kern_number}
use Rattle.files.specs.Reading.{file_instructions, file_kerns, file_entries, file_boundary, file_left}
use Rattle.file_reading.proofs.Laws.{length_commands}
use Rattle.fonts.specs.declared.Compiled.{Compiled}
use Rattle.fonts.specs.declared.Compiled.TheVariants as Compile
use Rattle.fonts.specs.Fonts.{Font, font_of}
use Rattle.fonts.specs.Compiled.{room_in, compile_refusal, compiled_reply, font_counts, font_table, font_ops, font_loops, ListsWritten, Compiles}
use Rattle.file_fonts.specs.declared.FileFont.{FileFont}
use Rattle.file_fonts.specs.declared.FileFont.TheVariants as Read
use Rattle.file_fonts.specs.Meant.{meant_entries, lost_chars, file_design, meant_font, read_font_refusal, meant_values, ReadsFont}
use Rattle.file_unpacking.proofs.Unpacking.{leading_twos}
use Rattle.file_font.proofs.Reading.{refused_known, taken_known, front_fits, front}
use Rattle.font_checks.specs.declared.Checked.{Checked}
use Rattle.font_checks.specs.declared.Checked.TheVariants as Answer
use Rattle.font_checks.specs.Checked.{check_refusal, checked_values, ChecksFile}
use Rattle.font_check_parts.specs.CheckParts.{checked_font}
use Rattle.font_check.specs.Stages.{CountsFit, CompilesRead}

-- ---- a font that was read

-- n instructions, k kerns, e entries and m characters without one, with the boundary character b, the left entry l and the design size g
record FontKnown (file : List ℕ) (refusal n k e m : ℕ) (b l g : ℤ) (is ks es : List ℤ) : Type 0 where
  none : refusal ≡ 0
  values : ◌≡◌ {A = List ℤ} (pos n ∷ pos k ∷ pos e ∷ pos m ∷ b ∷ l ∷ g ∷ []) (meant_values file)
  fits : (4 * n ≤ length is) × (k ≤ length ks) × (2 * e ≤ length es)
  font : font_of (take (4 * n) is) (take k ks) (take (2 * e) es) b l g ≡ meant_font file

module _ (file : List ℕ) (is ks es ls is' ks' es' ls' : List ℤ) where
  abbrev reading : ℕ
  reading = read_font_refusal file (length is) (length ks) (length es) (length ls)

  font_known : (n k e m : ℕ) (b l g : ℤ) → ReadsFont file is ks es ls (Read.Font n k e m b l g) is' ks' es' ls' →
      FontKnown file reading n k e m b l g is' ks' es'
  font_known n k e m b l g d =
      let t = taken_known reading _ _ d.answer in
      let z = t.0 in
      let v = t.1 in
      let i : n ≡ (lengths_of file).nl = cc in
      let j : k ≡ (lengths_of file).nk = cc in
      let h : e ≡ length (meant_entries file) / 2 = cc in
      let x : b ≡ file_boundary file = cc in
      let y : l ≡ file_left file = cc in
      let w : g ≡ file_design file = cc in
      let p : length (file_instructions file) ≡ 4 * n =
      length_commands file (command_start (lengths_of file)) (lengths_of file).nl ∙ ap (λ (a : ℕ). 4 * a) (sym i) in
      let q : length (file_kerns file) ≡ k =
      length_tabulate (lengths_of file).nk (λ (a : ℕ). kern_number file (kern_start (lengths_of file) + a)) ∙ sym j in
      let r : length (meant_entries file) ≡ 2 * e =
      omega (arith, h, leading_twos (file_instructions file) (file_entries file) (length (file_entries file) / 2)) in
      let a = rw z at d.program in
      let s = rw z at d.kern_list in
      let u = rw z at d.entry_list in
      let ia = front (length is) (4 * n) (file_instructions file) p a in
      let ka = front (length ks) k (file_kerns file) q s in
      let ea = front (length es) (2 * e) (meant_entries file) r u in
      record {
        none = z;
        values = v;
        fits = (
          front_fits (length is) (4 * n) (file_instructions file) p a,
          front_fits (length ks) k (file_kerns file) q s,
          front_fits (length es) (2 * e) (meant_entries file) r u,
        );
        font = λ c. font_of (ia c) (ka c) (ea c) (x c) (y c) (w c);
      }

  pub counts_fit : (font : FileFont) → ReadsFont file is ks es ls font is' ks' es' ls' → CountsFit font is' ks' es'
  counts_fit (Read.Font n k e m b l g) d =
      let f = (font_known n k e m b l g d).fits in record { program = f.0; kern_list = f.1; entry_list = f.2 }
  counts_fit (Read.Refused x) d = record { program = omega arith; kern_list = omega arith; entry_list = omega arith }

  -- ---- what was read, compiled

  module _ (pairs ops loops : List ℤ) (work : List ℕ) (pairs' ops' loops' : List ℤ) (work' : List ℕ) where
    abbrev refusal : ℕ
    refusal = check_refusal file is ks es ls pairs ops loops work

    abbrev meant : Font
    meant = meant_font file

    -- what compile answers of the font that the file means, by the refusal of the whole
    compiled-as : (n k e m : ℕ) (b l g : ℤ) → FontKnown file reading n k e m b l g is' ks' es' → (r : Compiled) →
        Compiles (font_of (take (4 * n) is') (take k ks') (take (2 * e) es') b l g) 0 pairs ops loops work r pairs' ops' loops' work' →
        (compiled_reply r ≡ reply_of refusal (font_counts meant)) × ListsWritten meant refusal pairs ops loops pairs' ops' loops'
        × (work' ≡ replicate (length work) 0)
    compiled-as n k e m b l g f r c =
        let q = subst (λ (x : Font). Compiles x 0 pairs ops loops work r pairs' ops' loops' work') f.font c in
        let y = compile_refusal meant (room_in pairs ops loops work) in
        let z : or_else y 0 ≡ refusal = second_none y ∙ sym (second_is reading y f.none) in (
          q.answer ∙ ap (λ (x : ℕ). reply_of x (font_counts meant)) z,
          subst (λ (x : ℕ). ListsWritten meant x pairs ops loops pairs' ops' loops') z q.lists,
          q.cleared,
        )

    -- taken
    taken_by : (font : FileFont) → ReadsFont file is ks es ls font is' ks' es' ls' → (p o l : ℕ) →
        CompilesRead font is' ks' es' pairs ops loops work (Compile.Tables p o l) pairs' ops' loops' work' →
        ChecksFile file is ks es ls pairs ops loops work (checked_font font p o l) is' ks' es' ls' pairs' ops' loops' work'
    taken_by (Read.Refused x) d p o l c = let h = c.0 in let z : ◌≡◌ {A = ℕ} 0 1 = cc in absurd (omega arith)
    taken_by (Read.Font n k e m b y g) d p o l c =
        let f = font_known n k e m b y g d in
        let q = compiled-as n k e m b y g f (Compile.Tables p o l) c in
        let t = taken_known refusal _ _ q.0 in
        let s : reading ≡ refusal = f.none ∙ sym t.0 in
        let v = f.values in
        let w = t.1 in
        record {
          answer = (λ i. reply_of 0 (v i ++ w i)) ∙ ap (λ (x : ℕ). reply_of x (checked_values file)) (sym t.0);
          program = d.program ∙ ap (λ (x : ℕ). list_of x (pos 0) (length is) (file_instructions file)) s;
          kern_list = d.kern_list ∙ ap (λ (x : ℕ). list_of x (pos 0) (length ks) (file_kerns file)) s;
          entry_list = d.entry_list ∙ ap (λ (x : ℕ). list_of x (pos 0) (length es) (meant_entries file)) s;
          lost_list = d.lost_list ∙ ap (λ (x : ℕ). list_of x (pos 0) (length ls) (lost_chars file)) s;
          tables = q.1;
          cleared = q.2;
        }

    pub check_taken : (font : FileFont) → ReadsFont file is ks es ls font is' ks' es' ls' → (r : Compiled) →
        CompilesRead font is' ks' es' pairs ops loops work r pairs' ops' loops' work' → (p o l : ℕ) → r ≡ Compile.Tables p o l →
        (t : Checked) → t ≡ checked_font font p o l →
        ChecksFile file is ks es ls pairs ops loops work t is' ks' es' ls' pairs' ops' loops' work'
    check_taken font d r c p o l h t e =
        subst (λ (x : Checked). ChecksFile file is ks es ls pairs ops loops work x is' ks' es' ls' pairs' ops' loops' work') (sym e)
        (taken_by font d p o l
        (subst (λ (x : Compiled). CompilesRead font is' ks' es' pairs ops loops work x pairs' ops' loops' work') h c))

    -- refused: the lists that were read are zeroed
    module _ (is'' ks'' es'' ls'' : List ℤ) (zi : is'' ≡ replicate (length is) (pos 0)) (zk : ks'' ≡ replicate (length ks) (pos 0))
        (ze : es'' ≡ replicate (length es) (pos 0)) (zl : ls'' ≡ replicate (length ls) (pos 0)) where
      refused-with : (x : ℕ) → x ≡ refusal → (x ≡ 0 → ⊥) → ListsWritten meant refusal pairs ops loops pairs' ops' loops' →
          work' ≡ replicate (length work) 0 →
          ChecksFile file is ks es ls pairs ops loops work (Answer.Refused x) is'' ks'' es'' ls'' pairs' ops' loops' work'
      refused-with x e h t w =
          record {
            answer = refused_reply (checked_values file) e h;
            program = refused_list (pos 0) (length is) (file_instructions file) e h zi;
            kern_list = refused_list (pos 0) (length ks) (file_kerns file) e h zk;
            entry_list = refused_list (pos 0) (length es) (meant_entries file) e h ze;
            lost_list = refused_list (pos 0) (length ls) (lost_chars file) e h zl;
            tables = t;
            cleared = w;
          }

      refused_by : (font : FileFont) → ReadsFont file is ks es ls font is' ks' es' ls' → (x : ℕ) →
          CompilesRead font is' ks' es' pairs ops loops work (Compile.Refused x) pairs' ops' loops' work' →
          ChecksFile file is ks es ls pairs ops loops work (Answer.Refused x) is'' ks'' es'' ls'' pairs' ops' loops' work'
      refused_by (Read.Refused y) d x c =
          let t = refused_known reading _ _ d.answer in
          let q = c.0 in
          let s : x ≡ y = cc in
          let h : x ≡ 0 → ⊥ = λ z. t.1 (sym s ∙ z) in
          let e : x ≡ refusal = first_refusal (compile_refusal meant (room_in pairs ops loops work)) (s ∙ t.0) h in
          let z = c.1 in
          refused-with x e h
          (record {
            table = refused_list (pos 0) (length pairs) (font_table meant) e h z.table;
            ops_table_lem = refused_list (pos 0) (length ops) (font_ops meant) e h z.ops_table_lem;
            loop_list_lem = refused_list (pos 0) (length loops) (font_loops meant) e h z.loop_list_lem;
          })
          z.cleared
      refused_by (Read.Font n k e m b l g) d x c =
          let q = compiled-as n k e m b l g (font_known n k e m b l g d) (Compile.Refused x) c in
          let t = refused_known refusal _ _ q.0 in
          refused-with x t.0 t.1 q.1 q.2

      pub check_refused : (font : FileFont) → ReadsFont file is ks es ls font is' ks' es' ls' → (r : Compiled) →
          CompilesRead font is' ks' es' pairs ops loops work r pairs' ops' loops' work' → (x : ℕ) → r ≡ Compile.Refused x →
          ChecksFile file is ks es ls pairs ops loops work (Answer.Refused x) is'' ks'' es'' ls'' pairs' ops' loops' work'
      check_refused font d r c x h =
          refused_by font d x
          (subst (λ (y : Compiled). CompilesRead font is' ks' es' pairs ops loops work y pairs' ops' loops' work') h c)
