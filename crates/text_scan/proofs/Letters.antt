-- The lines by their letters: I, K, E, R and L, each added to what was read before it; and any other.
-- Assumes nothing.
use mathlib.Core.Path.{◌≡◌, refl, sym, ap, ◌∙◌}
use mathlib.Core.Bool.{true}
use mathlib.Core.List.{List, ◌++◌}
use mathlib.Core.Option.{Option, none, some}
use Prim.Native.Nat.{ℕ, suc, ◌+◌, ◌-◌, ◌/◌, ◌≤◌}
use native.Mathlib.Omega.{arith}
use lib.IntN.{ℤ, pos}
use lib.Dec.{leb, eqb}
use lib.ListN.{length, get_or, drop, length-drop, length-append}
use mir.Syntax.{w32}
use mir.Val.{SFits}
use borrow.Author.Tests.{le-leb, lt-leb, le-ltb, ne_eqb, eqb-true}
use Rattle.words.specs.Words.{word_of}
use Rattle.words.proofs.Bits.{number_word}
use Rattle.lang.proofs.Every.{both_left, both_false}
use Rattle.columns.specs.Texts.{Text, text_by, with_boundary, with_left, with_instruction, with_kern, with_entry, by_letter, unless_word, add_line}
use Rattle.columns.proofs.Options.{cond_some}
use Rattle.text_scan.specs.declared.progress.TextProgress.{TextProgress}
use Rattle.text_scan.specs.declared.progress.NextLine.{NextLine}
use Rattle.text_scan.specs.declared.progress.NextLine.TheVariants as next
use Rattle.text_scan.specs.Following.{line_of, numbers_in}
use Rattle.text_scan.specs.Standing.{HeadSaid, Scanning, Before, TakesLine, past_instruction, past_kern, past_entry, past_boundary, past_left, head_line, Goes}
use Rattle.text_scan.proofs.Adding.{zeros_long, once, same_by_one, goes_nowhere, none_short, none_refused, line_goes, head_goes}

-- ---- a text with a line more

abbrev more_instructions : Text → List ℤ → Text
more_instructions t zs = text_by t.design t.boundary t.left (t.instructions ++ zs) t.kerns t.entries t.word

abbrev more_kerns : Text → List ℤ → Text
more_kerns t zs = text_by t.design t.boundary t.left t.instructions (t.kerns ++ zs) t.entries t.word

abbrev more_entries : Text → List ℤ → Text
more_entries t zs = text_by t.design t.boundary t.left t.instructions t.kerns (t.entries ++ zs) t.word

abbrev bounded : Text → ℤ → Text
bounded t z = text_by t.design (some z) t.left t.instructions t.kerns t.entries t.word

abbrev entered : Text → ℤ → Text
entered t z = text_by t.design t.boundary (some z) t.instructions t.kerns t.entries t.word

-- before W, a line is added by its letter
pub adds : (t : Text) (b : ℕ) (zs : List ℤ) → t.word ≡ none → add_line t (some (line_of b zs)) ≡ by_letter t b zs
adds t b zs e = ap (λ (w : Option (List ℤ)). unless_word w (by_letter t b zs)) e

-- so many numbers
module _ (t : Text) (u : Text) (zs : List ℤ) where
  instruction_only : with_instruction t zs ≡ some u → length zs ≡ 4
  instruction_only e =
      eqb-true (length zs) 4 (both_left (eqb (length zs) 4) (leb (suc (length t.instructions / 4)) 512) (cond_some _ (some (more_instructions t zs)) u e).0)

  kern_only : with_kern t zs ≡ some u → length zs ≡ 1
  kern_only e = eqb-true (length zs) 1 (both_left (eqb (length zs) 1) (leb (suc (length t.kerns)) 512) (cond_some _ (some (more_kerns t zs)) u e).0)

  entry_only : with_entry t zs ≡ some u → length zs ≡ 2
  entry_only e = eqb-true (length zs) 2 (cond_some _ (some (more_entries t zs)) u e).0

-- a head that was read
head_is : (z : ℤ) → SFits w32 z → HeadSaid (some z) true (word_of z)
head_is z f = let e = number_word z f in record { is = ap some (sym e); said = sym e }

module _ (text : List ℕ) (p : TextProgress) (instructions kerns entries : List ℤ) (s : Scanning text p instructions kerns entries) (before : Before text p)
  where
    -- the places of the lists
    pub instructions_fit : p.instructions ≤ 2048
    instructions_fit = omega (arith, s.in_instructions.within, zeros_long (pos 0) 2048, s.tells.instructions)

    pub kerns_fit : p.kerns ≤ 512
    kerns_fit = omega (arith, s.in_kerns.within, zeros_long (pos 0) 512, s.tells.kerns)

    pub entries_fit : p.entries ≤ 5040
    entries_fit = omega (arith, s.in_entries.within, zeros_long (pos 0) 5040, s.tells.entries)

    -- ---- I, K, E

    pub instruction_goes : (r : NextLine) (list : List ℤ) → get_or text p.at 0 ≡ 73 →
        TakesLine (numbers_in (2048 - p.instructions) 4 (drop (p.at + 1) text)) (past_instruction p) instructions p.instructions r list →
        Goes text p list kerns entries r
    instruction_goes r list is k =
        let t = s.says in
        let c = s.tells in
        line_goes text p t c before 73 is 4 2048 p.instructions (past_instruction p) t.instructions instructions list (more_instructions t) list kerns entries
        (λ e. omega (arith, e)) c.instructions s.in_instructions
        (λ zs l h. adds t 73 zs c.word ∙ rw (l, c.instructions, le-leb (suc (p.instructions / 4)) 512 (omega (arith, h))))
        (λ zs u e. instruction_only t u zs (sym (adds t 73 zs c.word) ∙ e))
        (λ h. none_refused text p t c before 73 is
        (λ zs. adds t 73 zs c.word
        ∙ rw (c.instructions, lt-leb (suc (p.instructions / 4)) 512 (omega (arith, h, c.fours)), both_false (eqb (length zs) 4))))
        (λ zs l h e a.
        record {
          says = more_instructions t zs;
          tells =
              record {
                within = h;
                rest = e;
                word = c.word;
                design = c.design;
                boundary = c.boundary;
                left = c.left;
                instructions = length-append t.instructions zs ∙ rw (c.instructions, l);
                kerns = c.kerns;
                entries = c.entries;
                fours = omega (arith, c.fours);
                few = omega (arith, c.few);
              };
          in_instructions = a;
          in_kerns = s.in_kerns;
          in_entries = s.in_entries;
        })
        r (omega arith) k

    pub kern_goes_lem : (r : NextLine) (list : List ℤ) → get_or text p.at 0 ≡ 75 →
        TakesLine (numbers_in (512 - p.kerns) 1 (drop (p.at + 1) text)) (past_kern p) kerns p.kerns r list → Goes text p instructions list entries r
    kern_goes_lem r list is k =
        let t = s.says in
        let c = s.tells in
        line_goes text p t c before 75 is 1 512 p.kerns (past_kern p) t.kerns kerns list (more_kerns t) instructions list entries (λ e. omega (arith, e))
        c.kerns s.in_kerns
        (λ zs l h. adds t 75 zs c.word ∙ rw (l, c.kerns, le-leb (suc p.kerns) 512 (omega (arith, h))))
        (λ zs u e. kern_only t u zs (sym (adds t 75 zs c.word) ∙ e))
        (λ h. none_refused text p t c before 75 is
        (λ zs. adds t 75 zs c.word ∙ rw (c.kerns, lt-leb (suc p.kerns) 512 (omega (arith, h)), both_false (eqb (length zs) 1))))
        (λ zs l h e a.
        record {
          says = more_kerns t zs;
          tells =
              record {
                within = h;
                rest = e;
                word = c.word;
                design = c.design;
                boundary = c.boundary;
                left = c.left;
                instructions = c.instructions;
                kerns = length-append t.kerns zs ∙ rw (c.kerns, l);
                entries = c.entries;
                fours = c.fours;
                few = omega (arith, c.few);
              };
          in_instructions = s.in_instructions;
          in_kerns = a;
          in_entries = s.in_entries;
        })
        r (omega arith) k

    pub entry_goes : (r : NextLine) (list : List ℤ) → get_or text p.at 0 ≡ 69 →
        TakesLine (numbers_in (5040 - p.entries) 2 (drop (p.at + 1) text)) (past_entry p) entries p.entries r list → Goes text p instructions kerns list r
    entry_goes r list is k =
        let t = s.says in
        let c = s.tells in
        let only : (zs : List ℤ) (u : Text) → add_line t (some (line_of 69 zs)) ≡ some u →
        length zs ≡ 2 = λ zs u e. entry_only t u zs (sym (adds t 69 zs c.word) ∙ e) in
        line_goes text p t c before 69 is 2 5040 p.entries (past_entry p) t.entries entries list (more_entries t) instructions kerns list
        (λ e. omega (arith, e)) c.entries s.in_entries
        (λ zs l h. adds t 69 zs c.word ∙ rw l)
        only
        (λ h. none_short text p t c before 69 is 2 only
        (rw (le-ltb 24 (length (drop (p.at + 1) text)) (simp length-drop (omega (arith, h, c.few, before.short))))))
        (λ zs l h e a.
        record {
          says = more_entries t zs;
          tells =
              record {
                within = h;
                rest = e;
                word = c.word;
                design = c.design;
                boundary = c.boundary;
                left = c.left;
                instructions = c.instructions;
                kerns = c.kerns;
                entries = length-append t.entries zs ∙ rw (c.entries, l);
                fours = c.fours;
                few = omega (arith, c.few);
              };
          in_instructions = s.in_instructions;
          in_kerns = s.in_kerns;
          in_entries = a;
        })
        r (omega arith) k

    -- ---- R, L

    pub boundary_goes : (r : NextLine) → get_or text p.at 0 ≡ 82 → r ≡ head_line text p p.bounded (past_boundary p) → Goes text p instructions kerns entries r
    boundary_goes r is k =
        let t = s.says in
        let c = s.tells in
        head_goes text p t c before 82 is p.bounded p.boundary t.boundary (past_boundary p) (bounded t) instructions kerns entries (λ e. omega (arith, e))
        c.boundary
        (λ zs. adds t 82 zs c.word ∙ same_by_one (with_boundary t t.boundary) (λ z. once t.boundary (bounded t z)) zs (by t t.boundary))
        (λ z. omega arith)
        (λ z f h e.
        record {
          says = bounded t z;
          tells =
              record {
                within = h;
                rest = e;
                word = c.word;
                design = c.design;
                boundary = head_is z f;
                left = c.left;
                instructions = c.instructions;
                kerns = c.kerns;
                entries = c.entries;
                fours = c.fours;
                few = omega (arith, c.few);
              };
          in_instructions = s.in_instructions;
          in_kerns = s.in_kerns;
          in_entries = s.in_entries;
        })
        r k
      where
        by : (t : Text) (o : Option ℤ) (z : ℤ) → with_boundary t o z ≡ once o (bounded t z)
        by t none z = refl
        by t (some y) z = refl

    pub left_goes_lem : (r : NextLine) → get_or text p.at 0 ≡ 76 → r ≡ head_line text p p.entered (past_left p) → Goes text p instructions kerns entries r
    left_goes_lem r is k =
        let t = s.says in
        let c = s.tells in
        head_goes text p t c before 76 is p.entered p.left t.left (past_left p) (entered t) instructions kerns entries (λ e. omega (arith, e)) c.left
        (λ zs. adds t 76 zs c.word ∙ same_by_one (with_left t t.left) (λ z. once t.left (entered t z)) zs (by t t.left))
        (λ z. omega arith)
        (λ z f h e.
        record {
          says = entered t z;
          tells =
              record {
                within = h;
                rest = e;
                word = c.word;
                design = c.design;
                boundary = c.boundary;
                left = head_is z f;
                instructions = c.instructions;
                kerns = c.kerns;
                entries = c.entries;
                fours = c.fours;
                few = omega (arith, c.few);
              };
          in_instructions = s.in_instructions;
          in_kerns = s.in_kerns;
          in_entries = s.in_entries;
        })
        r k
      where
        by : (t : Text) (o : Option ℤ) (z : ℤ) → with_left t o z ≡ once o (entered t z)
        by t none z = refl
        by t (some y) z = refl

    -- ---- none of these

    pub other_goes : (b : ℕ) → get_or text p.at 0 ≡ b → (b ≡ 73 → ⊥) → (b ≡ 75 → ⊥) → (b ≡ 69 → ⊥) → (b ≡ 82 → ⊥) → (b ≡ 76 → ⊥) → (b ≡ 87 → ⊥) →
        Goes text p instructions kerns entries next.Unreadable
    other_goes b is i k e r l w =
        goes_nowhere text p instructions kerns entries next.Unreadable refl
        (none_refused text p s.says s.tells before b is
        (λ zs. adds s.says b zs s.tells.word ∙ rw (ne_eqb b 73 i, ne_eqb b 75 k, ne_eqb b 69 e, ne_eqb b 82 r, ne_eqb b 76 l, ne_eqb b 87 w)))
