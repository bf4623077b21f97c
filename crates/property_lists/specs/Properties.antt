-- One property, and what else can stand where one can (PLtoTF 44, 47, 49, 82 to 84, 94 to 102).
use Rattle.std.specs.Prelude.{◌≡◌, cond, List, [], ◌∷◌, ℕ, ◌+◌, ◌-◌, ◌≤◌, eqb, length, drop}
use Rattle.std.proofs.Math.Option.{Option, none, some}
use Rattle.property_lists.specs.declared.Property.{Property}
use Rattle.property_lists.specs.declared.Property.TheVariants as property
use Rattle.property_lists.specs.declared.PropertyRead.{PropertyRead}
use Rattle.property_lists.specs.declared.PropertyRead.TheVariants as read
use Rattle.property_lists.specs.Chars.{upper_case, then_by, past_blanks, to_paren, past_comment, past_end, past_name}
use Rattle.property_lists.specs.Values.{byte_value, real_value}

-- ---- names

-- the names of properties with PLtoTF 44's codes: COMMENT, KRN, LIG, LABEL, STOP, SKIP, LIGTABLE, BOUNDARYCHAR
abbrev pub common_names : List (ℕ × List ℕ)
common_names =
    (0, 67 ∷ 79 ∷ 77 ∷ 77 ∷ 69 ∷ 78 ∷ 84 ∷ []) ∷
    (73, 75 ∷ 82 ∷ 78 ∷ []) ∷
    (74, 76 ∷ 73 ∷ 71 ∷ []) ∷
    (70, 76 ∷ 65 ∷ 66 ∷ 69 ∷ 76 ∷ []) ∷
    (71, 83 ∷ 84 ∷ 79 ∷ 80 ∷ []) ∷
    (72, 83 ∷ 75 ∷ 73 ∷ 80 ∷ []) ∷
    (10, 76 ∷ 73 ∷ 71 ∷ 84 ∷ 65 ∷ 66 ∷ 76 ∷ 69 ∷ []) ∷
    (11, 66 ∷ 79 ∷ 85 ∷ 78 ∷ 68 ∷ 65 ∷ 82 ∷ 89 ∷ 67 ∷ 72 ∷ 65 ∷ 82 ∷ []) ∷ []

-- and those of the other ligatures, 74 + op for an op byte: LIG/, /LIG, /LIG/, LIG/>, /LIG>, /LIG/>, /LIG/>>
abbrev pub ligature_names : List (ℕ × List ℕ)
ligature_names =
    (75, 76 ∷ 73 ∷ 71 ∷ 47 ∷ []) ∷
    (76, 47 ∷ 76 ∷ 73 ∷ 71 ∷ []) ∷
    (77, 47 ∷ 76 ∷ 73 ∷ 71 ∷ 47 ∷ []) ∷
    (79, 76 ∷ 73 ∷ 71 ∷ 47 ∷ 62 ∷ []) ∷
    (80, 47 ∷ 76 ∷ 73 ∷ 71 ∷ 62 ∷ []) ∷
    (81, 47 ∷ 76 ∷ 73 ∷ 71 ∷ 47 ∷ 62 ∷ []) ∷
    (85, 47 ∷ 76 ∷ 73 ∷ 71 ∷ 47 ∷ 62 ∷ 62 ∷ []) ∷ []

-- the code of a name that stands here, where none before it does
abbrev pub or_named : Option (ℕ × List ℕ) → ℕ → Option (List ℕ) → Option (ℕ × List ℕ)
or_named (some r) code o = some r
or_named none code none = none
or_named none code (some bs) = some (code, bs)

unfoldable pub first_named : Option (ℕ × List ℕ) → List (ℕ × List ℕ) → List ℕ → Option (ℕ × List ℕ)
first_named o [] bs = o
first_named o (n ∷ ns) bs = first_named (or_named o n.0 (past_name n.1 bs)) ns bs

-- the code of the name that stands here
abbrev pub name_at : List ℕ → Option (ℕ × List ℕ)
name_at bs = first_named (first_named none common_names bs) ligature_names bs

-- ---- after a name

-- a property that ends here (PLtoTF 35)
abbrev pub closed_by : Property → List ℕ → Option (Property × List ℕ)
closed_by p bs = then_by (past_end bs) (λ rest. some (p, rest))

-- one of a byte
abbrev pub of_byte : (ℕ → Property) → List ℕ → Option (Property × List ℕ)
of_byte f bs = then_by (byte_value bs) (λ v. closed_by (f v.0) v.1)

-- a label (PLtoTF 97): B and whatever follows it is the boundary's
abbrev pub label_from : List ℕ → Option (Property × List ℕ)
label_from [] = none
label_from (b ∷ bs) = cond (eqb (upper_case b) 66) (then_by (to_paren bs) (closed_by (property.Label 256))) (of_byte property.Label (b ∷ bs))

abbrev pub label_at : List ℕ → Option (Property × List ℕ)
label_at bs = then_by (past_blanks bs) label_from

-- a comment (PLtoTF 95)
abbrev pub comment_from : List ℕ → Option (Property × List ℕ)
comment_from bs = then_by (past_comment 0 bs) (λ rest. some (property.Comment, rest))

-- a kern (PLtoTF 102)
abbrev pub kern_from : List ℕ → Option (Property × List ℕ)
kern_from bs = then_by (byte_value bs) (λ v. then_by (real_value v.1) (λ w. closed_by (property.Kern v.0 w.0) w.1))

-- a ligature (PLtoTF 101)
abbrev pub ligature_from : ℕ → List ℕ → Option (Property × List ℕ)
ligature_from op bs = then_by (byte_value bs) (λ v. then_by (byte_value v.1) (λ w. closed_by (property.Ligature op v.0 w.0) w.1))

-- by the code of its name
abbrev pub by_code : ℕ → List ℕ → Option (Property × List ℕ)
by_code code bs =
    cond (eqb code 0) (comment_from bs)
    (cond (eqb code 10) (some (property.Table, bs))
    (cond (eqb code 11) (of_byte property.Boundary bs)
    (cond (eqb code 70) (label_at bs)
    (cond (eqb code 71) (closed_by property.Stop bs)
    (cond (eqb code 72) (of_byte property.Skip bs)
    (cond (eqb code 73) (kern_from bs) (ligature_from (code - 74) bs)))))))

-- ---- the whole

abbrev pub named_from : List ℕ → Option (Property × List ℕ)
named_from bs = then_by (name_at bs) (λ n. by_code n.0 n.1)

abbrev pub property_from : List ℕ → Option (Property × List ℕ)
property_from [] = some (property.Ended, [])
property_from (b ∷ bs) = cond (eqb b 41) (some (property.Closed, bs)) (cond (eqb b 40) (then_by (past_blanks bs) named_from) none)

-- R455: blanks, and a property; or the parenthesis that closes LIGTABLE, or the end of the text
abbrev pub property_at : List ℕ → Option (Property × List ℕ)
property_at bs = then_by (past_blanks bs) property_from

-- ---- the contract of functions that read a property

abbrev pub property_after : List ℕ → PropertyRead → Option (Property × List ℕ)
property_after text (read.Read p n) = some (p, drop n text)
property_after text read.Refused = none

abbrev pub place_property : ℕ → PropertyRead → ℕ
place_property d (read.Read p n) = n
place_property d read.Refused = d

-- how many bytes were read at least: a step, four
abbrev pub least_bytes : Property → ℕ
least_bytes property.Ended = 0
least_bytes property.Closed = 1
least_bytes property.Comment = 4
least_bytes (property.Boundary c) = 4
least_bytes property.Table = 4
least_bytes (property.Label c) = 4
least_bytes property.Stop = 4
least_bytes (property.Skip n) = 4
least_bytes (property.Ligature op right inserted) = 4
least_bytes (property.Kern right bits) = 4

-- behind a parenthesis three of them, and behind a name none
abbrev pub three_bytes : Property → ℕ
three_bytes p = 3

abbrev pub no_bytes : Property → ℕ
no_bytes p = 0

abbrev pub least_read : (Property → ℕ) → PropertyRead → ℕ
least_read least (read.Read p n) = least p
least_read least read.Refused = 0

pub record ReadsProperty (o : Option (Property × List ℕ)) (text : List ℕ) (at : ℕ) (least : Property → ℕ) (r : PropertyRead) : Type 0 where
  pub is : property_after text r ≡ o
  pub low : at ≤ length text → at + least_read least r ≤ place_property at r
  pub high : place_property (length text) r ≤ length text
