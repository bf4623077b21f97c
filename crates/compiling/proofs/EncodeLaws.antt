-- Laws of the second pass: what the two numbers of a rule say, that no rule is a kern index or a redirect, and one row more.
-- Assumes nothing.
use mathlib.Core.Path.{◌≡◌, refl, sym, ap, ◌∙◌, subst}
use mathlib.Core.Bool.{Bool, true, false, cond, false≢true}
use mathlib.Core.List.{List, [], ◌∷◌}
use mathlib.Core.Logic.{◌⊎◌, inl, inr}
use Prim.Native.Nat.{ℕ, ◌+◌, ◌*◌, ◌/◌, ◌%◌, ◌<◌, ◌≤◌}
use native.Mathlib.Nat.{eq-or-lt_of_le}
use native.Mathlib.Omega.{arith}
use lib.IntN.{ℤ, pos, negsuc, ◌-ℤ◌}
use lib.Dec.{ltb, eqb}
use lib.ListN.{length, set, length-set}
use mir.Syntax.{w32}
use mir.Val.{SFits}
use borrow.Author.Tests.{lt-ltb}
use denote.Enum.Declared.{tag_of}
use types.Run.{OneOf, miss}
use Rattle.std.specs.Prelude.{Result, Ok, Err}
use Rattle.words.specs.Words.{word_of}
use Rattle.words.proofs.Bits.{number_word}
use Rattle.tfm.specs.declared.Char.{Char}
use Rattle.tfm.specs.declared.FixWord.{FixWord}
use Rattle.tfm.specs.declared.Multiplier.{Multiplier}
use Rattle.tfm.specs.declared.ScalingError.{ScalingError}
use Rattle.tfm.specs.declared.ScalingError.TheVariants.{TooLarge}
use Rattle.tfm.specs.Scaled.{Below, multiplier, low_bytes, to_scaled}
use Rattle.tfm.proofs.Halving.{multiplier_halved}
use Rattle.tfm.proofs.Products.{alpha_times, low_bytes_below}
use Rattle.tfm.proofs.Differences.{difference_fits}
use Rattle.lang.specs.declared.operation.Operation.{Operation}
use Rattle.lang.specs.declared.operation.Operation.TheVariants.{Kern, KernAtIndex, Ligature, EntrypointRedirect}
use Rattle.lang.specs.declared.operation.PostLigOperation.{PostLigOperation}
use Rattle.lang.specs.declared.operation.PostLigOperation.TheVariants.{RetainBothMoveNowhere, RetainBothMoveToInserted, RetainBothMoveToRight}
use Rattle.lang.specs.declared.operation.PostLigOperation.TheVariants.{RetainRightMoveToInserted, RetainRightMoveToRight, RetainLeftMoveNowhere}
use Rattle.lang.specs.declared.operation.PostLigOperation.TheVariants.{RetainLeftMoveToInserted, RetainNeitherMoveToInserted}
use Rattle.lang.specs.Every.{both, every}
use Rattle.lang.specs.Records.{field, instruction_at}
use Rattle.lang.specs.Operations.{is_standard, from_bytes, ligature}
use Rattle.lang.specs.contracts.operation.Operation.{the_type as operation-type}
use Rattle.lang.proofs.Every.{every_none, every_step}
use Rattle.program_chain.specs.Chains.{redirected, kern_of, acts_as}
use Rattle.reading.specs.Items.{kerned, lig}
use Rattle.compiling.specs.Rows.{at, rule_of, rule_fits}
use Rattle.fonts.specs.Fonts.{scaled_kern, rule_of_operation}
use Rattle.compiling.specs.RowNumbers.{byte_of_operation, effect, kern_effect, effect_of}
use Rattle.compiling.specs.PairRows.{operation_at, effect_at, Encodes}
use Rattle.fonts.specs.Compiled.{is_scaled, scales}
use Rattle.compiling.specs.declared.Effect.{Effect}
use Rattle.compiling.proofs.RowLaws.{at_stored, at_kept, at_other}

-- ---- the numbers of a kern

pub kern_scaled : (x : Result ℤ ScalingError) (v : ℤ) (w : ℕ) → x ≡ Ok v → w ≡ word_of v → effect 128 w true ≡ kern_effect x
kern_scaled x v w e h = rw (e, h)

pub kern_unscaled : (x : Result ℤ ScalingError) (e : ScalingError) → x ≡ Err e → effect 128 0 false ≡ kern_effect x
kern_unscaled x e h = rw h

-- a scaled value is an i32
module _ (m : Multiplier) (h : Below m) (b c d : ℕ) (v : ℤ) where
  scaled_by : (s t : Bool) →
      cond s (Ok (pos (low_bytes m (b % 256) (c % 256) (d % 256))))
      (cond t (Ok (pos (low_bytes m (b % 256) (c % 256) (d % 256)) -ℤ pos (m.alpha * m.z))) (Err TooLarge)) ≡ Ok v → SFits w32 v
  scaled_by true t e =
      let i : pos (low_bytes m (b % 256) (c % 256) (d % 256)) ≡ v = cc in
      subst (SFits w32) i (record { sfits = low_bytes_below m h b c d })
  scaled_by false true e =
      let i : pos (low_bytes m (b % 256) (c % 256) (d % 256)) -ℤ pos (m.alpha * m.z) ≡ v = cc in
      subst (SFits w32) i (difference_fits (low_bytes m (b % 256) (c % 256) (d % 256)) (m.alpha * m.z) (low_bytes_below m h b c d) (alpha_times m h))
  scaled_by false false e = absurd (let z : ◌≡◌ {A = ℕ} 0 1 = cc in omega arith)

scaled_fits : (k design v : ℤ) → SFits w32 design → to_scaled k design ≡ Ok v → SFits w32 v
unfolding to_scaled
scaled_fits k (negsuc n) v f e = absurd (let z : ◌≡◌ {A = ℕ} 0 1 = cc in omega arith)
scaled_fits k (pos n) v f e =
    let w = word_of k in
    scaled_by (multiplier (n / 16)) (multiplier_halved (n / 16) (omega (arith, f.sfits))).below (w / 65536) (w / 256) w v (eqb (w / 16777216) 0)
    (eqb (w / 16777216) 255) e

kern_rule : (x : Result ℤ ScalingError) → ((v : ℤ) → x ≡ Ok v → SFits w32 v) → rule_of (kern_effect x).op (kern_effect x).value ≡ scaled_kern x
kern_rule (Ok v) f = ap kerned (number_word v (f v refl))
kern_rule (Err e) f = refl

kern_scales : (x : Result ℤ ScalingError) → (kern_effect x).scaled ≡ is_scaled x
kern_scales (Ok v) = refl
kern_scales (Err e) = refl

kern_fits_lem : (x : Result ℤ ScalingError) → rule_fits (kern_effect x).op (kern_effect x).value ≡ true
kern_fits_lem (Ok v) = refl
kern_fits_lem (Err e) = refl

-- ---- the numbers of a ligature: its op byte says its name

byte_says : (p : PostLigOperation) (v : ℕ) → rule_of (byte_of_operation p) v ≡ lig p v
byte_says RetainBothMoveNowhere v = refl
byte_says RetainBothMoveToInserted v = refl
byte_says RetainBothMoveToRight v = refl
byte_says RetainRightMoveToInserted v = refl
byte_says RetainRightMoveToRight v = refl
byte_says RetainLeftMoveNowhere v = refl
byte_says RetainLeftMoveToInserted v = refl
byte_says RetainNeitherMoveToInserted v = refl

byte_fits : (p : PostLigOperation) (v : ℕ) → rule_fits (byte_of_operation p) v ≡ ltb v 256
byte_fits RetainBothMoveNowhere v = refl
byte_fits RetainBothMoveToInserted v = refl
byte_fits RetainBothMoveToRight v = refl
byte_fits RetainRightMoveToInserted v = refl
byte_fits RetainRightMoveToRight v = refl
byte_fits RetainLeftMoveNowhere v = refl
byte_fits RetainLeftMoveToInserted v = refl
byte_fits RetainNeitherMoveToInserted v = refl

-- ---- the numbers of an operation

pub kern_effect_is : (design d : ℤ) (o : Operation) (k : FixWord) (x : Effect) → d ≡ design → o ≡ Kern k → x ≡ kern_effect (to_scaled k.0 d) →
    x ≡ effect_of design o
kern_effect_is design d o k x e i h = h ∙ rw (e, i)

pub ligature_effect : (design : ℤ) (o : Operation) (c : Char) (p : PostLigOperation) (t : Bool) (op : ℕ) → o ≡ Ligature c p t → op ≡ byte_of_operation p →
    effect op c.0 true ≡ effect_of design o
ligature_effect design o c p t op e i = rw (e, i)

pub other_effect : (design : ℤ) (o : Operation) → OneOf (1 ∷ 3 ∷ []) (tag_of operation-type o) → effect 128 0 false ≡ effect_of design o
other_effect design (Kern k) h = absurd (miss (1 ∷ 3 ∷ []) 0 tt h)
other_effect design (KernAtIndex i) h = refl
other_effect design (Ligature c p t) h = absurd (miss (1 ∷ 3 ∷ []) 2 tt h)
other_effect design (EntrypointRedirect t f) h = refl

-- ---- what a rule can do: kern, or insert a character. No rule is a kern index or a redirect

abbrev acts_in_row : Operation → Bool
acts_in_row (Kern k) = true
acts_in_row (KernAtIndex i) = false
acts_in_row (Ligature c p t) = ltb c.0 256
acts_in_row (EntrypointRedirect t g) = false

-- the two numbers say it
effect_scales : (design : ℤ) (o : Operation) → acts_in_row o ≡ true → (effect_of design o).scaled ≡ scales design o
effect_scales design (Kern k) h = kern_scales (to_scaled k.0 design)
effect_scales design (KernAtIndex i) h = absurd (false≢true h)
effect_scales design (Ligature c p t) h = refl
effect_scales design (EntrypointRedirect t g) h = absurd (false≢true h)

effect_rule : (design : ℤ) (o : Operation) → SFits w32 design → acts_in_row o ≡ true →
    rule_of (effect_of design o).op (effect_of design o).value ≡ rule_of_operation design o
effect_rule design (Kern k) f h = kern_rule (to_scaled k.0 design) (λ v. scaled_fits k.0 design v f)
effect_rule design (KernAtIndex i) f h = absurd (false≢true h)
effect_rule design (Ligature c p t) f h = byte_says p c.0
effect_rule design (EntrypointRedirect t g) f h = absurd (false≢true h)

effect_fits : (design : ℤ) (o : Operation) → acts_in_row o ≡ true → rule_fits (effect_of design o).op (effect_of design o).value ≡ true
effect_fits design (Kern k) h = kern_fits_lem (to_scaled k.0 design)
effect_fits design (KernAtIndex i) h = absurd (false≢true h)
effect_fits design (Ligature c p t) h = byte_fits p c.0 ∙ h
effect_fits design (EntrypointRedirect t g) h = absurd (false≢true h)

bytes_act : (kerns : List ℤ) (op c : ℕ) → c < 256 → acts_in_row (kern_of kerns (from_bytes op c)) ≡ true
unfolding from_bytes ligature
bytes_act kerns op c h = go (ltb op 128) (is_standard op) refl refl
  where
    go : (a b : Bool) → ltb op 128 ≡ a → is_standard op ≡ b → acts_in_row (kern_of kerns (from_bytes op c)) ≡ true
    go true true e i = rw (e, i) (lt-ltb c 256 h)
    go true false e i = rw (e, i) (lt-ltb c 256 h)
    go false b e i = rw e

-- two bytes are no redirect
bytes_stay : (op c : ℕ) → redirected (from_bytes op c) ≡ from_bytes op c
unfolding from_bytes ligature
bytes_stay op c = go (ltb op 128) (is_standard op) refl refl
  where
    go : (a b : Bool) → ltb op 128 ≡ a → is_standard op ≡ b → redirected (from_bytes op c) ≡ from_bytes op c
    go true true e i = rw (e, i)
    go true false e i = rw (e, i)
    go false b e i = rw e

-- by kind
kinds_act : (kerns : List ℤ) (z : ℤ) (a b c : Bool) →
    acts_in_row
    (acts_as kerns
    (cond a (KernAtIndex (word_of z % 65536))
    (cond b (from_bytes (word_of z / 256 % 128) (word_of z % 256))
    (cond c (EntrypointRedirect (word_of z % 65536) (eqb (word_of z / 65536 % 2) 1)) (Kern (record { 0 = z })))))) ≡ true
kinds_act kerns z true b c = refl
kinds_act kerns z false true c =
    let op = word_of z / 256 % 128 in
    let inserted = word_of z % 256 in
    ap (λ (o : Operation). acts_in_row (kern_of kerns o)) (bytes_stay op inserted) ∙ bytes_act kerns op inserted (omega arith)
kinds_act kerns z false false true = bytes_act kerns (word_of z % 65536 / 256) (word_of z % 65536 % 256) (omega arith)
kinds_act kerns z false false false = refl

acts_in_row_lem : (s kerns : List ℤ) (i : ℕ) → acts_in_row (acts_as kerns (instruction_at s i).operation) ≡ true
acts_in_row_lem s kerns i =
    let k = word_of (field s i 2) in
    kinds_act kerns (field s i 3) (eqb k 1) (eqb k 2) (eqb k 3)

-- ---- the loop: the first k rows are written, and b says whether each of their kerns has a scaled value

pub record Encoding (s kerns : List ℤ) (design : ℤ) (n : ℕ) (w₀ w : List ℕ) (k : ℕ) (b : Bool) : Type 0 where
  pub within : k ≤ n
  pub same_length : length w ≡ length w₀
  pub same : (j f : ℕ) → f < 16 → (f ≡ 3 → ⊥) → (f ≡ 4 → ⊥) → at w j f ≡ at w₀ j f
  pub after : (j f : ℕ) → k ≤ j → f < 16 → at w j f ≡ at w₀ j f
  pub op : (j : ℕ) → j < k → at w j 3 ≡ (effect_at s kerns design w₀ j).op
  pub value : (j : ℕ) → j < k → at w j 4 ≡ (effect_at s kerns design w₀ j).value
  pub scaling : b ≡ every k (λ j. scales design (operation_at s kerns w₀ j))

module _ (s kerns : List ℤ) (design : ℤ) (n : ℕ) (w₀ : List ℕ) where
  pub encoding_none : Encoding s kerns design n w₀ w₀ 0 true
  encoding_none =
      record {
        within = omega arith;
        same_length = refl;
        same = λ j f h i l. refl;
        after = λ j f h i. refl;
        op = λ j h. absurd (omega arith);
        value = λ j h. absurd (omega arith);
        scaling = sym (every_none (λ j. scales design (operation_at s kerns w₀ j)));
      }

  encoded_all : (w : List ℕ) (k : ℕ) (b : Bool) → Encoding s kerns design n w₀ w k b → n ≤ k → SFits w32 design → Encodes s kerns design n w₀ w b
  encoded_all w k b h l f =
      let e : k ≡ n = omega (arith, h.within) in
      record {
        answer = h.scaling ∙ ap (λ (m : ℕ). every m (λ j. scales design (operation_at s kerns w₀ j))) e;
        written =
            record {
              same_length = h.same_length;
              same = h.same;
              after = λ j g i. h.after j g (omega arith);
              op = λ j i. h.op j (omega arith);
              value = λ j i. h.value j (omega arith);
              rules =
                  λ j i. rw (h.op j (omega arith), h.value j (omega arith))
                  (effect_rule design (operation_at s kerns w₀ j) f (acts_in_row_lem s kerns (at w₀ j 2)));
              ops =
                  λ j i. rw (h.op j (omega arith), h.value j (omega arith)) (effect_fits design (operation_at s kerns w₀ j) (acts_in_row_lem s kerns (at w₀ j 2)));
            };
      }

  pub encoding_end : (w : List ℕ) (k : ℕ) (b : Bool) → Encoding s kerns design n w₀ w k b → n ≤ k → (d : ℤ) → SFits w32 d → design ≡ d →
      Encodes s kerns d n w₀ w b
  encoding_end w k b h l d f e = subst (λ (z : ℤ). Encodes s kerns z n w₀ w b) e (encoded_all w k b h l (subst (SFits w32) (sym e) f))

  -- two stores in row k
  module _ (w u v : List ℕ) (k op value : ℕ) (eu : u ≡ set w (16 * k + 3) op) (ev : v ≡ set u (16 * k + 4) value) where
    kept : (j f : ℕ) → f < 16 → (j ≡ k → f ≡ 3 → ⊥) → (j ≡ k → f ≡ 4 → ⊥) → at v j f ≡ at w j f
    kept j f h a b = rw (ev, eu) (at_kept (set w (16 * k + 3) op) k 4 value j f (omega arith) h b ∙ at_kept w k 3 op j f (omega arith) h a)

    first_is : 16 * k + 4 < length w → at v k 3 ≡ op
    first_is l = rw (ev, eu) (at_other (set w (16 * k + 3) op) k 4 value k 3 (omega arith) (omega arith) (omega arith) ∙ at_stored w k 3 op (omega arith))

    second_is : 16 * k + 4 < length w → at v k 4 ≡ value
    second_is l = rw (ev, eu) (at_stored (set w (16 * k + 3) op) k 4 value (omega (arith, length-set w (16 * k + 3) op)))

  -- a turn: the operation of row k, and what is said of it
  module _ (w u v : List ℕ) (k : ℕ) (b : Bool) (h : Encoding s kerns design n w₀ w k b) (l : k < n) (room : 16 * n ≤ length w₀) (index : ℕ) (o : Operation)
      (x : Effect) (ei : index ≡ at w k 2) (eo : o ≡ acts_as kerns (instruction_at s index).operation) (ex : x ≡ effect_of design o)
      (eu : u ≡ set w (16 * k + 3) x.op) (ev : v ≡ set u (16 * k + 4) x.value) where
    said : x ≡ effect_at s kerns design w₀ k
    said =
        ex
        ∙ ap (effect_of design) (eo ∙ ap (λ (i : ℕ). acts_as kerns (instruction_at s i).operation) (ei ∙ h.same k 2 (omega arith) (omega arith) (omega arith)))

    fit : 16 * k + 4 < length w
    fit = omega (arith, h.same_length)

    keeps : (j f : ℕ) → f < 16 → (j ≡ k → f ≡ 3 → ⊥) → (j ≡ k → f ≡ 4 → ⊥) → at v j f ≡ at w j f
    keeps = kept w u v k x.op x.value eu ev

    op_by : (j : ℕ) → (j ≡ k) ⊎ (j < k) → at v j 3 ≡ (effect_at s kerns design w₀ j).op
    op_by j (inl e) = rw e (first_is w u v k x.op x.value eu ev fit ∙ ap (λ (y : Effect). y.op) said)
    op_by j (inr i) = keeps j 3 (omega arith) (omega arith) (omega arith) ∙ h.op j i

    value_by : (j : ℕ) → (j ≡ k) ⊎ (j < k) → at v j 4 ≡ (effect_at s kerns design w₀ j).value
    value_by j (inl e) = rw e (second_is w u v k x.op x.value eu ev fit ∙ ap (λ (y : Effect). y.value) said)
    value_by j (inr i) = keeps j 4 (omega arith) (omega arith) (omega arith) ∙ h.value j i

    pub encoding_step : (c : Bool) → c ≡ both b x.scaled → Encoding s kerns design n w₀ v (k + 1) c
    encoding_step c ec =
        let t = every_step k (λ j. scales design (operation_at s kerns w₀ j)) in
        let y : x.scaled ≡ scales design (operation_at s kerns w₀ k) = ap (λ (y : Effect). y.scaled) said
        ∙ effect_scales design (operation_at s kerns w₀ k) (acts_in_row_lem s kerns (at w₀ k 2)) in
        record {
          within = omega arith;
          same_length = ap length ev ∙ length-set u (16 * k + 4) x.value ∙ ap length eu ∙ length-set w (16 * k + 3) x.op ∙ h.same_length;
          same = λ j f i p q. keeps j f i (λ _. p) (λ _. q) ∙ h.same j f i p q;
          after = λ j f i p. keeps j f p (λ a c. omega arith) (λ a c. omega arith) ∙ h.after j f (omega arith) p;
          op = λ j i. op_by j (eq-or-lt_of_le (omega arith));
          value = λ j i. value_by j (eq-or-lt_of_le (omega arith));
          scaling = ec ∙ (λ i. both (h.scaling i) (y i)) ∙ sym t;
        }
