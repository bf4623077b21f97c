-- Texts as lines: what each is read as, and what all of them are read as.
-- Assumes nothing.
use mathlib.Core.Path.{◌≡◌, refl, ap, sym, ◌∙◌, subst}
use mathlib.Core.Bool.{Bool, true, false, cond}
use mathlib.Core.List.{List, [], ◌∷◌, ◌++◌, append-nil, append_assoc}
use mathlib.Core.Option.{Option, none, some}
use Prim.Native.Nat.{ℕ, zero, suc, ◌+◌, ◌*◌, ◌<◌, ◌≤◌}
use native.Mathlib.Omega.{arith}
use lib.IntN.{ℤ, pos, negsuc}
use lib.ListN.{length, length-append}
use Rattle.lang.specs.Operations.{is_standard}
use Rattle.property_lists.specs.RealTexts.{real_text}
use Rattle.property_lists.specs.Displays.{octal_char, line_end, label_line, boundary_label_line, lig_name, lig_line, krn_line, next_line}
use Rattle.property_lists.specs.Chars.{then_by}
use Rattle.property_lists.specs.declared.Property.{Property}
use Rattle.property_lists.specs.declared.Property.TheVariants as property
use Rattle.property_lists.specs.Properties.{property_at}
use Rattle.property_lists.specs.ListReading.{ListRead, applied, is_ended, property_on, read_all}
use Rattle.points.specs.Printing.{whole_text}
use Rattle.pl_read_backs.proofs.Values.{bits_read, size_of}
use Rattle.pl_read_backs.proofs.Lines.{label_read, boundary_label_read, stop_read, skip_read, lig_read, krn_read, line_feed_read}
use Rattle.pl_read_backs.proofs.Kept.{LevelOne, plain_bytes, plain_append, plain_char, plain_name, plain_real, plain_whole, whole_line}

-- ---- one line of LIGTABLE

pub record LineOf (text : List ℕ) (p : Property) : Type 0 where
  pub read : (r : List ℕ) → property_at (text ++ r) ≡ some (p, 10 ∷ r)
  pub kept : (r : List ℕ) → LevelOne r → LevelOne (text ++ r)
  pub going : is_ended p ≡ false
  pub long : 1 ≤ length text

pub label_line_lem : (c : ℕ) → c < 256 → LineOf (label_line c) (property.Label c)
unfolding plain_bytes
label_line_lem c h =
    record {
      read = λ r. label_read r c h;
      kept = λ r n. whole_line (76 ∷ 65 ∷ 66 ∷ 69 ∷ 76 ∷ octal_char c) r (plain_char c h) n;
      going = refl;
      long = omega arith;
    }

pub boundary_label_line_lem : LineOf boundary_label_line (property.Label 256)
unfolding plain_bytes
boundary_label_line_lem =
    record {
      read = boundary_label_read;
      kept = λ r n.
          whole_line
          (76 ∷ 65 ∷ 66 ∷ 69 ∷ 76 ∷ 32 ∷ 66 ∷ 79 ∷ 85 ∷ 78 ∷ 68 ∷ 65 ∷ 82 ∷ 89 ∷ 67 ∷ 72 ∷ 65 ∷ 82 ∷ []) r refl n;
      going = refl;
      long = omega arith;
    }

pub stop_line : (m : ℕ) → LineOf (next_line (negsuc m)) property.Stop
unfolding plain_bytes
stop_line m =
    record { read = λ r. stop_read r m; kept = λ r n. whole_line (83 ∷ 84 ∷ 79 ∷ 80 ∷ []) r refl n; going = refl; long = omega arith }

pub skip_line : (m : ℕ) → m < 127 → LineOf (next_line (pos (suc m))) (property.Skip (suc m))
unfolding plain_bytes
skip_line m h =
    record {
      read = λ r. skip_read r m h;
      kept = λ r n. whole_line (83 ∷ 75 ∷ 73 ∷ 80 ∷ 32 ∷ 68 ∷ 32 ∷ whole_text (suc m)) r (plain_whole (suc m)) n;
      going = refl;
      long = omega arith;
    }

two_in : (a b c : List ℕ) → a ++ (b ++ c) ≡ (a ++ b) ++ c
two_in a b c = sym (append_assoc a b c)

pub lig_line_lem : (op right inserted : ℕ) → op < 128 → is_standard op ≡ true → right < 256 → inserted < 256 →
    LineOf (lig_line op right inserted) (property.Ligature op right inserted)
lig_line_lem op right inserted h s a b =
    let e : lig_name op ++ (octal_char right ++ (octal_char inserted ++ line_end)) ≡ (lig_name op ++ (octal_char right ++ octal_char inserted)) ++ line_end =
    simp append_assoc in
    let p : plain_bytes (lig_name op ++ (octal_char right ++ octal_char inserted)) ≡ true =
    plain_append (lig_name op) (octal_char right ++ octal_char inserted) (plain_name op h)
    (plain_append (octal_char right) (octal_char inserted) (plain_char right a) (plain_char inserted b)) in
    record {
      read = λ r. lig_read op right inserted r h s a b;
      kept = λ r n.
          let k = whole_line (lig_name op ++ (octal_char right ++ octal_char inserted)) r p n in
          let g : 32 ∷ 32 ∷ 32 ∷ 40 ∷ ((lig_name op ++ (octal_char right ++ octal_char inserted)) ++ line_end) ≡ lig_line op right inserted =
          ap (λ (t : List ℕ). 32 ∷ 32 ∷ 32 ∷ 40 ∷ t) (sym e) in
          subst (λ (t : List ℕ). LevelOne (t ++ r)) g k;
      going = refl;
      long = omega arith;
    }

pub krn_line_lem : (right : ℕ) (z : ℤ) → right < 256 → size_of z < 2147483648 → LineOf (krn_line right z) (property.Kern right (bits_read z))
unfolding plain_bytes
krn_line_lem right z h l =
    let e : octal_char right ++ (32 ∷ 82 ∷ 32 ∷ (real_text z ++ line_end)) ≡ (octal_char right ++ (32 ∷ 82 ∷ 32 ∷ real_text z)) ++ line_end =
    two_in (octal_char right) (32 ∷ 82 ∷ 32 ∷ real_text z) line_end in
    let p : plain_bytes (octal_char right ++ (32 ∷ 82 ∷ 32 ∷ real_text z)) ≡ true =
    plain_append (octal_char right) (32 ∷ 82 ∷ 32 ∷ real_text z) (plain_char right h) (plain_real z l) in
    record {
      read = λ r. krn_read right z r h l;
      kept = λ r n.
          let k = whole_line (75 ∷ 82 ∷ 78 ∷ (octal_char right ++ (32 ∷ 82 ∷ 32 ∷ real_text z))) r p n in
          let g : 32 ∷ 32 ∷ 32 ∷ 40 ∷ 75 ∷ 82 ∷ 78 ∷ ((octal_char right ++ (32 ∷ 82 ∷ 32 ∷ real_text z)) ++ line_end) ≡ krn_line right z =
          ap (λ (t : List ℕ). 32 ∷ 32 ∷ 32 ∷ 40 ∷ 75 ∷ 82 ∷ 78 ∷ t) (sym e) in
          subst (λ (t : List ℕ). LevelOne (t ++ r)) g k;
      going = refl;
      long = omega arith;
    }

-- ---- several lines

pub data LinesOf : List ℕ → List Property → Type 0 where
  no_lines : LinesOf [] []
  line_more : {text : List ℕ} {p : Property} {bs : List ℕ} {ps : List Property} → LineOf text p → LinesOf bs ps → LinesOf (text ++ bs) (p ∷ ps)

pub lines_append : {bs : List ℕ} {ps : List Property} {cs : List ℕ} {qs : List Property} → LinesOf bs ps → LinesOf cs qs → LinesOf (bs ++ cs) (ps ++ qs)
lines_append no_lines l = l
lines_append {cs = cs} {qs} (line_more {text} {p} {bs} {ps} x k) l = rw (append_assoc text bs cs) (line_more x (lines_append k l))

pub one_line : {text : List ℕ} {p : Property} → LineOf text p → LinesOf text (p ∷ [])
one_line {text} {p} x = let k : LinesOf (text ++ []) (p ∷ []) = line_more x no_lines in rw append-nil at k

-- all properties one after the other
unfoldable pub applied_all : List Property → ListRead → Option ListRead
applied_all [] r = some r
applied_all (p ∷ ps) r = then_by (applied p r) (applied_all ps)

pub lines_kept : {bs : List ℕ} {ps : List Property} → LinesOf bs ps → (r : List ℕ) → LevelOne r → LevelOne (bs ++ r)
lines_kept no_lines r n = n
lines_kept (line_more {text} {p} {bs} {ps} x k) r n = rw (append_assoc text bs r) (x.kept (bs ++ r) (lines_kept k r n))

pub lines_few : {bs : List ℕ} {ps : List Property} → LinesOf bs ps → length ps ≤ length bs
lines_few no_lines = omega arith
lines_few (line_more {text} {p} {bs} {ps} x k) = simp length-append (omega (arith, x.long, lines_few k))

feed_read : (f : ℕ) (r : ListRead) (bs : List ℕ) → read_all f r (10 ∷ bs) ≡ read_all f r bs
unfolding read_all
feed_read zero r bs = refl
feed_read (suc f) r bs = ap (λ (o : Option (Property × List ℕ)). then_by o (property_on (read_all f) r)) (line_feed_read bs)

-- one property, where it is not the end
pub property_on_lem : (f : ℕ) (r : ListRead) (p : Property) (bs rest : List ℕ) → property_at bs ≡ some (p, 10 ∷ rest) → is_ended p ≡ false →
    read_all (suc f) r bs ≡ then_by (applied p r) (λ s. read_all f s rest)
unfolding read_all
property_on_lem f r p bs rest e g = rw (e, g) (by (applied p r))
  where
    by : (o : Option ListRead) → then_by o (λ s. read_all f s (10 ∷ rest)) ≡ then_by o (λ s. read_all f s rest)
    by none = refl
    by (some s) = feed_read f s rest

pub lines_on : {bs : List ℕ} {ps : List Property} → LinesOf bs ps → (f : ℕ) (r : ListRead) (rest : List ℕ) →
    read_all (length ps + f) r (bs ++ rest) ≡ then_by (applied_all ps r) (λ s. read_all f s rest)
unfolding applied_all
lines_on no_lines f r rest = ap (λ (k : ℕ). read_all k r rest) (let e : 0 + f ≡ f = omega arith in e)
lines_on (line_more {text} {p} {bs} {ps} x k) f r rest =
    let e : suc (length ps) + f ≡ suc (length ps + f) = omega arith in
    rw (append_assoc text bs rest, e)
    (property_on_lem (length ps + f) r p (text ++ (bs ++ rest)) (bs ++ rest) (x.read (bs ++ rest)) x.going
    ∙ by (applied p r) (λ s. lines_on k f s rest))
  where
    by : (o : Option ListRead) → ((s : ListRead) → read_all (length ps + f) s (bs ++ rest) ≡ then_by (applied_all ps s) (λ t. read_all f t rest)) →
        then_by o (λ s. read_all (length ps + f) s (bs ++ rest)) ≡ then_by (then_by o (applied_all ps)) (λ s. read_all f s rest)
    by none h = refl
    by (some s) h = h s
