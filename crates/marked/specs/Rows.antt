-- The marked readings (R266 to R273), one row each: what the definitions give, as numbers, and what the rule says. With them stands the
-- example of the column text (R275): a font that compiling accepts, without a loop, and a word that is read in it, so that what demand 3
-- asks of a font is met by one. The theorem `marked` of proofs/Marked says that the two columns are equal.
use Rattle.std.specs.Prelude.{Bool, true, false, cond, List, [], ◌∷◌, ℕ, suc, ℤ, pos, negsuc, eqb, Result}
use Rattle.std.proofs.Math.Option.{none}
use Rattle.tfm.specs.declared.ScalingError.{ScalingError}
use Rattle.tfm.specs.Scaled.{scaled_reply, to_scaled}
use Rattle.lang.specs.declared.operation.PostLigOperation.TheVariants.{RetainBothMoveNowhere, RetainBothMoveToInserted}
use Rattle.lang.specs.declared.operation.PostLigOperation.TheVariants.{RetainRightMoveToInserted, RetainLeftMoveNowhere}
use Rattle.lang.specs.declared.operation.PostLigOperation.TheVariants.{RetainNeitherMoveToInserted}
use Rattle.lang.specs.declared.operation.Operation.{Operation}
use Rattle.lang.specs.declared.operation.Operation.TheVariants.{Kern, KernAtIndex, Ligature, EntrypointRedirect}
use Rattle.lang.specs.Operations.{from_bytes}
use Rattle.lang.specs.Answers.{Reply, reply_of}
use Rattle.pack_labels.specs.Labels.{labels_of}
use Rattle.pack.specs.Packing.{Packable, packable, packed_entry_number, font_offset, font_redirects, front}
use Rattle.reading.specs.Items.{bnd, chr, Rule, free, lig, Rules}
use Rattle.reading.specs.Reading.{Reading, ended, going, reading}
use Rattle.reading.specs.Loops.{Ruled, loop_list}
use Rattle.compiling.specs.RowNumbers.{byte_of_operation}
use Rattle.fonts.specs.Fonts.{Font, font_of, rules_of}
use Rattle.fonts.specs.Numbers.{op_numbers, loop_numbers}
use Rattle.fonts.specs.Compiled.{room_of, compile_refusal, font_counts, font_table, font_ops, font_loops}
use Rattle.repairs.specs.Damaged.{Damaged}
use Rattle.repairs.specs.Repaired.{repaired_instructions}
use Rattle.repairs.specs.Warnings.{repair_warnings}

-- what the definitions give, and what the rule says
pub record MarkedRow : Type 0 where
  pub given : List ℤ
  pub said : List ℤ

-- ---- answers as numbers

-- the number of a reply, and its values
abbrev pub reply_numbers : Reply → List ℤ
reply_numbers r = pos r.number ∷ r.values

-- the same of a kern that is scaled
abbrev pub scaled_numbers : Result ℤ ScalingError → List ℤ
scaled_numbers x = reply_numbers (scaled_reply x)

-- 1 where an operation is marked invalid, else 0
abbrev pub invalid_mark : Bool → ℤ
invalid_mark true = pos 1
invalid_mark false = pos 0

-- a ligature: the standard op byte that it acts as, the inserted character, and 1 where it is marked invalid; else the kern, its index
-- or the target
abbrev pub operation_numbers : Operation → List ℤ
operation_numbers (Kern k) = k.0 ∷ []
operation_numbers (KernAtIndex i) = pos i ∷ []
operation_numbers (Ligature c p t) = pos (byte_of_operation p) ∷ pos c.0 ∷ invalid_mark t ∷ []
operation_numbers (EntrypointRedirect t f) = pos t ∷ []

-- the items of a reading that has ended, or -1
abbrev pub reading_numbers : Reading → List ℤ
reading_numbers (ended os) = op_numbers os
reading_numbers going = negsuc 0 ∷ []

-- ---- fonts of a few rules

-- a pair of characters and its rule
pub record Entry : Type 0 where
  pub left : ℕ
  pub right : ℕ
  pub rule : Rule

-- the first entry for a pair of characters is its rule
unfoldable pub rules_by : List Entry → ℕ → ℕ → Rule
rules_by [] l r = free
rules_by (e ∷ es) l r = cond (eqb e.left l) (cond (eqb e.right r) e.rule (rules_by es l r)) (rules_by es l r)

-- the rules of a font of these entries; the left boundary has none
abbrev pub rules_of_entries : List Entry → Rules
rules_of_entries es bnd r = free
rules_of_entries es (chr l) r = rules_by es l r

-- their pairs, with the entry's place as the rule's index
unfoldable pub pairs_from : ℕ → List Entry → List Ruled
pairs_from i [] = []
pairs_from i (e ∷ es) = record { pair = record { left = chr e.left; right = e.right }; index = i } ∷ pairs_from (suc i) es

-- their loop list, two numbers a pair
abbrev pub loops_of_entries : List Entry → List ℤ
loops_of_entries es = loop_numbers (loop_list (rules_of_entries es) (pairs_from 0 es))

-- ---- packing

-- a font of one entry, that of character 97
abbrev pub one_entry : ℕ → ℤ → Packable
one_entry e boundary = packable [] (pos 97 ∷ pos e ∷ []) boundary (negsuc 0)

-- where the entry packs to, the offset, and how many redirects there are
abbrev pub packed_numbers : Packable → List ℤ
packed_numbers f = packed_entry_number f 1 ∷ pos (font_offset f) ∷ pos (font_redirects f) ∷ []

-- ---- compiling

-- a font of one entry, that of character 65, and one instruction: right 66, op 3 inserting 66
abbrev pub one_rule : Font
one_rule = font_of (negsuc 0 ∷ pos 66 ∷ pos 2 ∷ pos 834 ∷ []) [] (pos 65 ∷ pos 0 ∷ []) (negsuc 0) (negsuc 0) (pos 10485760)

-- the font of the example, examples/ordinary.txt (R275): character 102 before 105 becomes the ligature 200, and before 33 has a kern
abbrev pub example_font : Font
example_font =
    font_of (pos 0 ∷ pos 105 ∷ pos 2 ∷ pos 200 ∷ negsuc 0 ∷ pos 33 ∷ pos 1 ∷ pos 0 ∷ []) (pos 131072 ∷ []) (pos 102 ∷ pos 0 ∷ [])
    (negsuc 0) (negsuc 0) (pos 10485760)

-- ---- repair

-- entry 65 to one instruction, which skips past the end: next 0, right 66, a kern of 5. Character 66 alone exists, and is the replacement.
abbrev pub one_skip : Damaged
one_skip =
    record {
      instructions = pos 0 ∷ pos 66 ∷ pos 0 ∷ pos 5 ∷ [];
      kerns = [];
      entries = pos 65 ∷ pos 0 ∷ [];
      boundary = negsuc 0;
      left = negsuc 0;
      replacement = 66;
      existing = 0 ∷ 4 ∷ 0 ∷ 0 ∷ [];
      passthrough = 0 ∷ [];
    }

-- ---- the table

-- entry 65 to one instruction, right 66, op 3 inserting 66: loop (65, 66), of the loop list that compiling writes (R270)
abbrev pub loop_row : MarkedRow
loop_row = record { given = font_loops one_rule; said = pos 65 ∷ pos 66 ∷ [] }

-- the example is accepted in room for two pairs, four ops and no loop: two pairs, two ops and no loop
abbrev pub accepted_row : MarkedRow
accepted_row =
    record {
      given = reply_numbers (reply_of (compile_refusal example_font (room_of 12 8 0 32)) (font_counts example_font));
      said = pos 0 ∷ pos 2 ∷ pos 2 ∷ pos 0 ∷ [];
    }

-- its pair table, as the lines P have it, with the first op before the op count: (102, 33), then (102, 105)
abbrev pub table_row : MarkedRow
table_row =
    record {
      given = font_table example_font;
      said = pos 102 ∷ pos 33 ∷ pos 33 ∷ pos 0 ∷ pos 0 ∷ pos 2 ∷ pos 102 ∷ pos 105 ∷ pos 200 ∷ pos 1 ∷ pos 2 ∷ pos 0 ∷ [];
    }

-- its ops, as the lines O have them: character 102, then the kern
abbrev pub ops_row : MarkedRow
ops_row = record { given = font_ops example_font; said = pos 0 ∷ pos 102 ∷ pos 2 ∷ pos 81920 ∷ [] }

-- its word with the left boundary and no right item, after three steps, as the lines T have it: the ligature 200, then the character 33
abbrev pub word_row : MarkedRow
word_row =
    record {
      given = reading_numbers (reading (rules_of example_font) 3 true (102 ∷ 105 ∷ 33 ∷ []) none);
      said = pos 1 ∷ pos 200 ∷ pos 0 ∷ pos 33 ∷ [];
    }

-- the others
unfoldable pub other_rows : List MarkedRow
other_rows =
    -- R266, op 4: as 0, invalid
    record { given = operation_numbers (from_bytes 4 97); said = pos 0 ∷ pos 97 ∷ pos 1 ∷ [] }
    -- R267 and R268, at 10,485,760: 131,072 gives 81,920; -131,072 gives -81,920; -1 gives -1
    ∷ record { given = scaled_numbers (to_scaled (pos 131072) (pos 10485760)); said = pos 0 ∷ pos 81920 ∷ [] }
    ∷ record { given = scaled_numbers (to_scaled (negsuc 131071) (pos 10485760)); said = pos 0 ∷ negsuc 81919 ∷ [] }
    ∷ record { given = scaled_numbers (to_scaled (negsuc 0) (pos 10485760)); said = pos 0 ∷ negsuc 0 ∷ [] }
    -- R269: 16,777,215 is scaled, to 10,485,759 (just below sixteen times the design size), and 16,777,216 is 13
    ∷ record { given = scaled_numbers (to_scaled (pos 16777215) (pos 10485760)); said = pos 0 ∷ pos 10485759 ∷ [] }
    ∷ record { given = scaled_numbers (to_scaled (pos 16777216) (pos 10485760)); said = pos 13 ∷ [] }
    -- the same rule alone, not in a font
    ∷ record {
      given = loops_of_entries (record { left = 65; right = 66; rule = lig RetainBothMoveNowhere 66 } ∷ []);
      said = pos 65 ∷ pos 66 ∷ [];
    }
    -- TFtoPL 88, first example, after a character 97: (/LIG 120 121) and (/LIG 121 120) replace x by y and y by x
    ∷ record {
      given =
          loops_of_entries
          (record { left = 97; right = 120; rule = lig RetainLeftMoveNowhere 121 }
          ∷ record { left = 97; right = 121; rule = lig RetainLeftMoveNowhere 120 } ∷ []);
      said = pos 97 ∷ pos 120 ∷ [];
    }
    -- TFtoPL 88, second example: (LIG/ 122 121) in the program of 120, and (LIG/ 122 120) in that of 121
    ∷ record {
      given =
          loops_of_entries
          (record { left = 120; right = 122; rule = lig RetainRightMoveToInserted 121 }
          ∷ record { left = 121; right = 122; rule = lig RetainRightMoveToInserted 120 } ∷ []);
      said = pos 120 ∷ pos 122 ∷ [];
    }
    -- TFtoPL 88, third example: 120 has (/LIG/ 122 119)(/LIG/> 119 121), and 121 has (LIG 119 120)
    ∷ record {
      given =
          loops_of_entries
          (record { left = 120; right = 122; rule = lig RetainBothMoveNowhere 119 }
          ∷ record { left = 120; right = 119; rule = lig RetainBothMoveToInserted 121 }
          ∷ record { left = 121; right = 119; rule = lig RetainNeitherMoveToInserted 120 } ∷ []);
      said = pos 120 ∷ pos 122 ∷ [];
    }
    -- R271: entry 254 with a boundary packs to 255
    ∷ record { given = packed_numbers (one_entry 254 (pos 65)); said = pos 255 ∷ pos 1 ∷ pos 0 ∷ [] }
    -- R272: 255 packs to 0, with a redirect to 256
    ∷ record { given = packed_numbers (one_entry 255 (pos 65)); said = pos 0 ∷ pos 1 ∷ pos 1 ∷ [] }
    ∷ record {
      given = front (pos 65) (font_redirects (one_entry 255 (pos 65))) (font_offset (one_entry 255 (pos 65)))
          (labels_of (one_entry 255 (pos 65)).entries);
      said = negsuc 0 ∷ pos 65 ∷ pos 3 ∷ pos 65792 ∷ [];
    }
    -- R273, one reachable instruction, next 0: skip warning, and it stops instead
    ∷ record { given = repair_warnings one_skip; said = pos 3 ∷ pos 0 ∷ pos 0 ∷ pos 0 ∷ [] }
    ∷ record { given = repaired_instructions one_skip; said = negsuc 0 ∷ pos 66 ∷ pos 0 ∷ pos 5 ∷ [] }
    ∷ []

-- the whole table
abbrev pub rows : List MarkedRow
rows = loop_row ∷ accepted_row ∷ table_row ∷ ops_row ∷ word_row ∷ other_rows
