-- Laws of the rule of a pair: the entry of its left, a kern that is scaled, an operation, and the rule by the index that was found.
-- Assumes nothing.
use mathlib.Core.Path.{◌≡◌, refl, sym, ap, ◌∙◌, subst}
use mathlib.Core.Bool.{Bool, true, false}
use mathlib.Core.List.{List, [], ◌∷◌}
use mathlib.Core.Option.{Option, none, some}
use Prim.Native.Nat.{ℕ, zero, suc, ◌/◌, ◌<◌, ◌≤◌}
use native.Mathlib.Nat.{le_of_suc-le-suc}
use native.Mathlib.Omega.{arith}
use lib.IntN.{ℤ, pos, negsuc}
use lib.ListN.{length, get_or, length-set}
use mir.Syntax.{w32}
use mir.Val.{SFits}
use borrow.Author.Tests.{lt-ltb}
use denote.Enum.Declared.{tag_of}
use types.Run.{OneOf, miss}
use Rattle.std.specs.declared.option.Option as rust
use Rattle.std.specs.Prelude.{Result, Ok, Err, None, Some}
use Rattle.words.specs.Words.{word_of, number_of, Word}
use Rattle.words.proofs.Bits.{number_word, read_pos, read_neg}
use Rattle.tfm.specs.declared.Char.{Char}
use Rattle.tfm.specs.declared.FixWord.{FixWord}
use Rattle.tfm.specs.declared.ScalingError.{ScalingError}
use Rattle.tfm.specs.Scaled.{to_scaled}
use Rattle.lang.specs.declared.operation.Operation.{Operation}
use Rattle.lang.specs.declared.operation.Operation.TheVariants.{Kern, KernAtIndex, Ligature, EntrypointRedirect}
use Rattle.lang.specs.declared.operation.PostLigOperation.{PostLigOperation}
use Rattle.lang.specs.Entries.{entered, entries_table}
use Rattle.lang.specs.Records.{instruction_at}
use Rattle.lang.specs.contracts.operation.Operation.{the_type as operation-type}
use Rattle.lang.proofs.Tables.{length_entered}
use Rattle.program_chain.specs.Chains.{rule_index_of, found, acts_as}
use Rattle.reading.specs.Items.{Left, Rule, free, kerned, lig}
use Rattle.fonts.specs.Fonts.{Font, left_entry_of, rule_from, index_of, table_of, scaled_kern, rule_of_operation, rule_of_index, rules_of}
use Rattle.read_rule.specs.Meant.{left_as}

-- ---- the entry of a left

default_any : (l : List ℤ) (i : ℕ) (d e : ℤ) → i < length l → get_or l i d ≡ get_or l i e
default_any [] i d e h = absurd (omega arith)
default_any (x ∷ l) zero d e h = refl
default_any (x ∷ l) (suc i) d e h = default_any l i d e (le_of_suc-le-suc h)

length_table : (es : List ℤ) (l : ℤ) → length (entries_table es l) ≡ 257
unfolding entries_table
length_table es l = length-set (entered es (length es / 2)) 256 l ∙ length_entered es (length es / 2)

module _ (es : List ℤ) (l l' : ℤ) (table : List ℤ) (b : Bool) (c r : ℕ) (is : table ≡ entries_table es l) (lent : l ≡ l') where
  pub boundary_entry : b ≡ true → Word (get_or table 256 (pos 0)) r → Word (left_entry_of (entries_table es l') (left_as b c)) r
  boundary_entry e w =
      let t = entries_table es l' in
      let q : table ≡ t = is ∙ ap (entries_table es) lent in
      rw e (subst (λ (z : ℤ). Word z r) (ap (λ (x : List ℤ). get_or x 256 (pos 0)) q
      ∙ default_any t 256 (pos 0) (negsuc 0) (omega (arith, length_table es l'))) w)

  pub character_entry : b ≡ false → c < 256 → Word (get_or table c (pos 0)) r → Word (left_entry_of (entries_table es l') (left_as b c)) r
  character_entry e h w =
      let t = entries_table es l' in
      let q : table ≡ t = is ∙ ap (entries_table es) lent in
      rw (e, lt-ltb c 256 h) (subst (λ (z : ℤ). Word z r) (ap (λ (x : List ℤ). get_or x c (pos 0)) q
      ∙ default_any t c (pos 0) (negsuc 0) (omega (arith, length_table es l'))) w)

-- ---- what an operation does

pub kern_scaled : (x : Result ℤ ScalingError) (v : ℤ) (w : ℕ) → SFits w32 v → x ≡ Ok v → w ≡ word_of v → kerned (number_of w) ≡ scaled_kern x
kern_scaled x v w f e h = rw (e, h) (ap kerned (number_word v f))

pub kern_unscaled : (x : Result ℤ ScalingError) (e : ScalingError) → x ≡ Err e → kerned (pos 0) ≡ scaled_kern x
kern_unscaled x e h = rw h

module _ (design : ℤ) (o : Operation) where
  pub kern_operation : (d : ℤ) (k : FixWord) (x : Rule) → d ≡ design → o ≡ Kern k → x ≡ scaled_kern (to_scaled k.0 d) → x ≡ rule_of_operation design o
  kern_operation d k x e i h = h ∙ rw (e, i)

  pub ligature_operation : (c : Char) (p : PostLigOperation) (t : Bool) → o ≡ Ligature c p t → lig p c.0 ≡ rule_of_operation design o
  ligature_operation c p t e = rw e

pub other_operation : (design : ℤ) (o : Operation) → OneOf (1 ∷ 3 ∷ []) (tag_of operation-type o) → free ≡ rule_of_operation design o
other_operation design (Kern k) h = absurd (miss (1 ∷ 3 ∷ []) 0 tt h)
other_operation design (KernAtIndex i) h = refl
other_operation design (Ligature c p t) h = absurd (miss (1 ∷ 3 ∷ []) 2 tt h)
other_operation design (EntrypointRedirect t g) h = refl

-- ---- the rule by what was found

found_none : (o : Option ℕ) → found o ≡ None → o ≡ none
found_none none e = refl
found_none (some i) e = absurd (let z : ◌≡◌ {A = ℕ} 0 1 = cc in omega arith)

found_some : (o : Option ℕ) (i : ℕ) → found o ≡ Some i → o ≡ some i
found_some none i e = absurd (let z : ◌≡◌ {A = ℕ} 0 1 = cc in omega arith)
found_some (some j) i e = let q : j ≡ i = cc in ap some q

module _ (f : Font) (l : Left) (r entry : ℕ) (word : Word (left_entry_of (table_of f) l) entry) where
  pub rule_absent : 2147483648 ≤ entry → free ≡ rules_of f l r
  rule_absent h = sym (ap (λ (z : ℤ). rule_of_index f (rule_from f.instructions z r)) (read_neg word h))

  module _ (h : entry < 2147483648) (x : rust.Option ℕ) (is : x ≡ found (rule_index_of f.instructions entry r)) where
    index_is : index_of f.instructions (table_of f) l r ≡ rule_index_of f.instructions entry r
    index_is = ap (λ (z : ℤ). rule_from f.instructions z r) (read_pos word h)

    pub rule_none : x ≡ None → free ≡ rules_of f l r
    rule_none e = sym (ap (rule_of_index f) (index_is ∙ found_none _ (sym is ∙ e)))

    pub rule_found : (i : ℕ) (d : ℤ) (o : Operation) (m : Rule) → x ≡ Some i → d ≡ f.design →
        o ≡ acts_as f.kerns (instruction_at f.instructions i).operation → m ≡ rule_of_operation d o → m ≡ rules_of f l r
    rule_found i d o m e g a k = k ∙ rw (g, a) (sym (ap (rule_of_index f) (index_is ∙ found_some _ i (sym is ∙ e))))
