-- A font's rules insert codes below 256: bytes are read modulo 256. So the table that compile writes of a font has the form.
-- Assumes nothing.
use mathlib.Core.Path.{◌≡◌, refl}
use mathlib.Core.Bool.{Bool, true, false, cond}
use mathlib.Core.List.{List}
use mathlib.Core.Option.{Option, none, some}
use Prim.Native.Nat.{ℕ, ◌/◌, ◌%◌, ◌<◌, ◌≤◌}
use native.Mathlib.Omega.{arith}
use lib.IntN.{ℤ}
use lib.Dec.{ltb, eqb}
use Rattle.std.specs.Prelude.{Result, Ok, Err}
use Rattle.words.specs.Words.{word_of}
use Rattle.tfm.specs.declared.ScalingError.{ScalingError}
use Rattle.tfm.specs.Scaled.{to_scaled}
use Rattle.lang.specs.declared.operation.Operation.TheVariants.{Kern, KernAtIndex, EntrypointRedirect}
use Rattle.lang.specs.Operations.{is_standard, from_bytes, ligature}
use Rattle.lang.specs.Records.{field, operation_of}
use Rattle.program_chain.specs.Chains.{redirected, kern_of, acts_as}
use Rattle.reading.specs.Items.{Left}
use Rattle.reading.specs.Depth.{Res, comp}
use Rattle.fonts.specs.Fonts.{number_of_left, Font, index_of, table_of, scaled_kern, rule_of_operation, rule_of_index, rules_of}
use Rattle.fonts.specs.Compiled.{font_table, font_ops}
use Rattle.captions.specs.Tables.{op_count}
use Rattle.captions.specs.Form.{table_form}
use Rattle.captions.proofs.Codes.{Coded, RuleSmall, SmallRules, small_codes}
use Rattle.captions.proofs.FontTable.{font_form_by}

kern_small : (x : Result ℤ ScalingError) → RuleSmall (scaled_kern x)
kern_small (Ok v) = tt
kern_small (Err e) = tt

module _ (design : ℤ) (kerns : List ℤ) where
  -- two bytes act the same whether or not they are read from a redirect
  bytes_same : (op c : ℕ) → redirected (from_bytes op c) ≡ from_bytes op c
  unfolding from_bytes ligature
  bytes_same op c = go (ltb op 128) (is_standard op) refl refl
    where
      go : (a b : Bool) → ltb op 128 ≡ a → is_standard op ≡ b → redirected (from_bytes op c) ≡ from_bytes op c
      go true true e i = rw (e, i)
      go true false e i = rw (e, i)
      go false b e i = rw e

  bytes_small : (op c : ℕ) → c < 256 → RuleSmall (rule_of_operation design (kern_of kerns (from_bytes op c)))
  unfolding from_bytes ligature
  bytes_small op c h = go (ltb op 128) (is_standard op) refl refl
    where
      go : (a b : Bool) → ltb op 128 ≡ a → is_standard op ≡ b → RuleSmall (rule_of_operation design (kern_of kerns (from_bytes op c)))
      go true true e i = rw (e, i) h
      go true false e i = rw (e, i) h
      go false b e i = rw e (kern_small (to_scaled _ design))

  acts_small : (kind : ℕ) (z : ℤ) → RuleSmall (rule_of_operation design (acts_as kerns (operation_of kind z)))
  acts_small kind z = go (eqb kind 1) (eqb kind 2) (eqb kind 3)
    where
      go : (a b c : Bool) →
          RuleSmall
          (rule_of_operation design
          (acts_as kerns
          (cond a (KernAtIndex (word_of z % 65536))
          (cond b (from_bytes (word_of z / 256 % 128) (word_of z % 256))
          (cond c (EntrypointRedirect (word_of z % 65536) (eqb (word_of z / 65536 % 2) 1)) (Kern (record { 0 = z })))))))
      go true b c = kern_small (to_scaled _ design)
      go false true c =
          let op = word_of z / 256 % 128 in
          let e = word_of z % 256 in
          rw (bytes_same op e) (bytes_small op e (omega arith))
      go false false true = bytes_small (word_of z % 65536 / 256) (word_of z % 65536 % 256) (omega arith)
      go false false false = kern_small (to_scaled _ design)

index_small : (f : Font) (o : Option ℕ) → RuleSmall (rule_of_index f o)
index_small f none = tt
index_small f (some i) = acts_small f.design f.kerns (word_of (field f.instructions i 2)) (field f.instructions i 3)

pub rule_small : (f : Font) → SmallRules (rules_of f)
rule_small f l r = index_small f (index_of f.instructions (table_of f) l r)

-- Every code in the reading of a pair of codes below 256, whatever the font.
pub small : (f : Font) (d : ℕ) (l : Left) (r : ℕ) (q : Res) → number_of_left l < 257 → r < 256 → comp (rules_of f) d l r ≡ some q → Coded q
small f d l r q i j e = small_codes (rules_of f) (rule_small f) d l r q i j e

-- What compile writes of a font has the form of a table, where an i32 counts the ops.
pub font_form : (f : Font) → op_count (font_ops f) ≤ 2147483647 → table_form (font_table f) (font_ops f) ≡ true
font_form f few = font_form_by f (rule_small f) few
