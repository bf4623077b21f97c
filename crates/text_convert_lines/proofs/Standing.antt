-- The loop over the lines of a text: what is written, and what is left; and the end. Assumes nothing.
use mathlib.Core.Path.{◌≡◌, refl, sym, ap, ◌∙◌, subst}
use mathlib.Core.Bool.{Bool, true, false, not, cond}
use mathlib.Core.List.{List, [], ◌∷◌, ◌++◌, append_assoc}
use mathlib.Core.Logic.{◌⊎◌, inl, inr}
use mathlib.Core.Option.{Option, none, some}
use Prim.Native.Nat.{ℕ, suc, ◌+◌, ◌-◌, ◌*◌, ◌/◌, ◌^◌, ◌<◌, ◌≤◌}
use native.Mathlib.Omega.{arith}
use lib.IntN.{ℤ}
use lib.Dec.{leb, eqb, ltb}
use lib.ListN.{length, get_or, take, drop, replicate, length-append, length-replicate, length-drop}
use lib.Seq.{sets, take_all, drop-drop, drop_at, get_or-drop}
use borrow.Author.Tests.{le-leb, lt-leb, ltb-true, ltb-false}
use Rattle.words.proofs.Lists.{sets_front, drop_replicate}
use Rattle.words.proofs.Tests.{less_or_not}
use Rattle.lang.specs.Answers.{list_of}
use Rattle.columns.specs.Lines.{lines_of, text_of}
use Rattle.columns.specs.Replying.{bytes_of}
use Rattle.columns.specs.Converting.{begins_with, instruction_line, kern_lines, converted_lines}
use Rattle.columns.proofs.Fields.{lines_written}
use Rattle.columns.proofs.ConvertedLengths.{kern_lines_long, instruction_line_long}
use Rattle.property_lists.specs.Putting.{PutsCounted}
use Rattle.text_lines.specs.Writing.{lines_from, lines_fit, Puts, PutsWhere}
use Rattle.text_lines.proofs.Steps.{puts_none, puts_both, puts_length, lines_none}
use Rattle.text_lines.proofs.Taken.{where_puts, taken_is, line_fits}
use Rattle.text_convert_lines.specs.Anew.{line_length, is_before_word, instructions_in, line_anew, lines_anew, PutsNext, PutsEnd, PutsAnew}
use Rattle.text_convert_lines.proofs.Cutting.{First, first_line_lem, one_more, AllLines}
use Rattle.text_convert_lines.proofs.Turning.{starts_word, turned, turned_none, turned_word, instruction_bytes, kern_bytes}

-- ---- a line

-- bytes that are counted are put so
pub counted_next : {out : List ℕ} {to : ℕ} {bytes : List ℕ} {r : ℕ} {out' : List ℕ} → PutsCounted out to bytes r out' → PutsNext bytes out to r out'
counted_next p = record { next = p.next; written = λ h. p.list }

pub next_as : {xs ys out : List ℕ} {to r : ℕ} {out' : List ℕ} → xs ≡ ys → PutsNext xs out to r out' → PutsNext ys out to r out'
next_as {out = out} {to} {r} {out'} e p = subst (λ (x : List ℕ). PutsNext x out to r out') e p

-- the line of an instruction
module _ (s : List ℤ) (i : ℕ) (out : List ℕ) (to : ℕ) (h : 50 * i ≤ to) (room : to ≤ length out) (few : length out < 2 ^ 63) {next : ℕ} {out' : List ℕ}
    (p : PutsWhere (lines_fit 4 i 1 to (length out)) (bytes_of (lines_from 73 4 s i 1)) out to next out') where
  abbrev line : List ℕ
  line = instruction_line s i ++ (10 ∷ [])

  fifty_long : length line ≡ 50
  fifty_long = omega (arith, length-append (instruction_line s i) (10 ∷ []), instruction_line_long s i)

  taken : to + 50 ≤ length out → lines_fit 4 i 1 to (length out) ≡ true
  taken l = taken_is 73 4 s i 1 out to (omega arith) (omega (arith, h, room, few)) (omega (arith, ap length (instruction_bytes s i), fifty_long, l))

  puts : to + 50 ≤ length out → Puts line out to next out'
  puts l =
      let q = where_puts (lines_fit 4 i 1 to (length out)) (taken l) p in
      record { next = q.next ∙ ap (λ (bs : List ℕ). to + length bs) (instruction_bytes s i); written = q.written ∙ ap (sets out to) (instruction_bytes s i) }

  left : length out < to + 50 → next ≡ to
  left l = p.next ∙ by (lines_fit 4 i 1 to (length out)) refl
    where
      by : (t : Bool) → lines_fit 4 i 1 to (length out) ≡ t → cond t (to + length (bytes_of (lines_from 73 4 s i 1))) to ≡ to
      by true e = absurd (omega (arith, line_fits 73 4 s i 1 out to e 0 (omega arith) (lines_none 73 4 s i out to), l))
      by false e = refl

  pub instruction_put : (next ≡ to → ⊥) → PutsNext line out to next out'
  instruction_put ne = by (less_or_not (length out) (to + 50))
    where
      by : (length out < to + 50) ⊎ (to + 50 ≤ length out) → PutsNext line out to next out'
      by (inl l) = absurd (ne (left l))
      by (inr l) = let q = puts l in record { next = omega (arith, q.next, fifty_long, l); written = λ k. q.written }

  pub instruction_left : next ≡ to → (r : ℕ) → r ≡ length out + 1 → PutsNext line out to r out'
  instruction_left e r q = by (less_or_not (length out) (to + 50))
    where
      by : (length out < to + 50) ⊎ (to + 50 ≤ length out) → PutsNext line out to r out'
      by (inl l) = record { next = omega (arith, fifty_long, l, q); written = λ k. absurd (omega (arith, k, q)) }
      by (inr l) = absurd (omega (arith, (puts l).next, fifty_long, e))

-- the first line of a text: that of an instruction, or as it stands
pub line_is : (s : List ℤ) (i : ℕ) (text : List ℕ) (n : ℕ) {out : List ℕ} {to r : ℕ} {out' : List ℕ} → instructions_in text 0 ≡ 1 →
    PutsNext (instruction_line s i ++ (10 ∷ [])) out to r out' → PutsNext (line_anew s i text n) out to r out'
line_is s i text n {out} {to} {r} {out'} e p = by (eqb (get_or text 0 0) 73) e
  where
    by : (t : Bool) → ◌≡◌ {A = ℕ} (cond t 1 0) 1 → PutsNext (cond t (instruction_line s i ++ (10 ∷ [])) (take n text)) out to r out'
    by true e = p
    by false e = absurd (omega (arith, e))

pub line_stays : (s : List ℤ) (i : ℕ) (text : List ℕ) (n : ℕ) {out : List ℕ} {to r : ℕ} {out' : List ℕ} → (instructions_in text 0 ≡ 1 → ⊥) →
    PutsNext (take n text) out to r out' → PutsNext (line_anew s i text n) out to r out'
line_stays s i text n {out} {to} {r} {out'} e p = by (eqb (get_or text 0 0) 73) e
  where
    by : (t : Bool) → (◌≡◌ {A = ℕ} (cond t 1 0) 1 → ⊥) → PutsNext (cond t (instruction_line s i ++ (10 ∷ [])) (take n text)) out to r out'
    by true e = absurd (e refl)
    by false e = p

pub instructions_few : (text : List ℕ) (at : ℕ) → instructions_in text at ≤ 1
instructions_few text at = by (eqb (get_or text at 0) 73)
  where
    by : (t : Bool) → cond t 1 0 ≤ 1
    by true = omega arith
    by false = omega arith

-- what is left of a text, as it is lent
pub left_is : (at : ℕ) (text : List ℕ) → take (length text - at) (drop at text) ≡ drop at text
left_is at text = take_all (length text - at) (drop at text) (omega (arith, length-drop at text))

-- ---- the loop

-- the lines before a place are written, i instructions among them, up to `to`; what is left comes after them, whatever is added
pub record Anew (s : List ℤ) (text out₀ out : List ℕ) (at to i : ℕ) : Type 0 where
  pub all : List (List ℕ)
  pub are : lines_of text ≡ some all
  pub left : List (List ℕ)
  pub follow : lines_of (drop at text) ≡ some left
  pub place : at ≤ length text
  pub done : List ℕ
  pub put : Puts done out₀ 0 to out
  pub room : to ≤ length out₀
  pub fifty : 50 * i ≤ to
  pub whole : (added : List ℤ) → done ++ text_of (converted_lines s added i left) ≡ text_of (converted_lines s added 0 all)

pub anew_none : (s : List ℤ) (text out₀ : List ℕ) → AllLines text → Anew s text out₀ out₀ 0 0 0
anew_none s text out₀ l =
    record {
      all = l.lines;
      are = l.are;
      left = l.lines;
      follow = l.are;
      place = omega arith;
      done = [];
      put = puts_none out₀ 0;
      room = omega arith;
      fifty = omega arith;
      whole = λ added. refl;
    }

before_within : (text : List ℕ) (at : ℕ) → is_before_word text at ≡ true → (at < length text) × (eqb (get_or text at 0) 87 ≡ false)
before_within text at e = by (ltb at (length text)) refl (eqb (get_or text at 0) 87) e
  where
    by : (t : Bool) → ltb at (length text) ≡ t → (w : Bool) → cond t (not w) false ≡ true → (at < length text) × (w ≡ false)
    by true t true e = absurd (let z : ◌≡◌ {A = ℕ} 0 1 = cc in omega arith)
    by true t false e = (ltb-true at (length text) t, refl)
    by false t w e = absurd (let z : ◌≡◌ {A = ℕ} 0 1 = cc in omega arith)

first_of_lem : (text : List ℕ) (at : ℕ) → get_or (drop at text) 0 0 ≡ get_or text at 0
first_of_lem text at = get_or-drop at text 0 0 ∙ ap (λ (k : ℕ). get_or text k 0) (let e : at + 0 ≡ at = omega arith in e)

module _ {s : List ℤ} {text out₀ out : List ℕ} {at to i : ℕ} (a : Anew s text out₀ out at to i) where
  pub anew_length : length out ≡ length out₀
  anew_length = puts_length a.put

  module _ (before : is_before_word text at ≡ true) (n : ℕ) (e : n ≡ line_length (drop at text)) where
    within : at < length text
    within = (before_within text at before).0

    abbrev a-line : (l : List ℕ) × (ks : List (List ℕ)) × (a.left ≡ l ∷ ks)
    a-line = one_more text at a.left within a.follow

    abbrev its-line : List ℕ
    its-line = a-line.0

    abbrev others : List (List ℕ)
    others = a-line.1

    first : First (drop at text) its-line others
    first = first_line_lem (drop at text) its-line others (a.follow ∙ ap some a-line.2)

    line-long : n ≡ suc (length its-line)
    line-long = e ∙ first.long

    no_word : begins_with 87 its-line ≡ false
    no_word =
        sym (starts_word its-line first.rest (drop at text) first.bytes) ∙ ap (λ (b : ℕ). eqb b 87) (first_of_lem text at) ∙ (before_within text at before).1

    abbrev line-bytes : List ℕ
    line-bytes = line_anew s i (drop at text) n

    -- what is written, whatever is added: what is done, this line, and what is left then
    goes_on : (added : List ℤ) →
        (a.done ++ line-bytes) ++ text_of (converted_lines s added (i + instructions_in (drop at text) 0) others) ≡ text_of (converted_lines s added 0 a.all)
    goes_on added =
        append_assoc a.done line-bytes (text_of (converted_lines s added (i + instructions_in (drop at text) 0) others))
        ∙ ap (λ (x : List ℕ). a.done ++ x) (sym (turned s added its-line first.rest (drop at text) others i n first.bytes line-long no_word))
        ∙ ap (λ (x : List (List ℕ)). a.done ++ text_of (converted_lines s added i x)) (sym a-line.2)
        ∙ a.whole added

    -- the line lies within the text
    pub line_within : n ≤ length (drop at text)
    line_within = omega (arith, line-long, ap length first.bytes, length-append its-line (10 ∷ first.rest))

    pub place_within : at + n ≤ length text
    place_within = omega (arith, line_within, length-drop at text, within)

    pub line_some : 0 < n
    line_some = omega (arith, line-long)

    fifty-more : 50 * instructions_in (drop at text) 0 ≤ length line-bytes
    fifty-more = by (eqb (get_or (drop at text) 0 0) 73)
      where
        by : (t : Bool) → 50 * cond t 1 0 ≤ length (cond t (instruction_line s i ++ (10 ∷ [])) (take n (drop at text)))
        by true = omega (arith, length-append (instruction_line s i) (10 ∷ []), instruction_line_long s i)
        by false = omega arith

    module _ {r : ℕ} {out' : List ℕ} (p : PutsNext line-bytes out to r out') where
      -- there is room for it
      pub anew_more : r ≤ length out → (k : ℕ) → k ≡ instructions_in text at → Anew s text out₀ out' (at + n) r (i + k)
      anew_more h k q =
          let g : k ≡ instructions_in (drop at text) 0 = q ∙ ap (λ (b : ℕ). cond (eqb b 73) 1 0) (sym (first_of_lem text at)) in
          let j : r ≡ to + length line-bytes = omega (arith, p.next, h) in
          let u : Puts line-bytes out to r out' = record { next = j; written = p.written h } in
          let d : drop (at + n) text ≡ first.rest = sym (drop-drop n at text) ∙ ap (drop n) (first.bytes ∙ sym (append_assoc its-line (10 ∷ []) first.rest))
          ∙ drop_at (its-line ++ (10 ∷ [])) first.rest n (omega (arith, length-append its-line (10 ∷ []), line-long)) in
          record {
            all = a.all;
            are = a.are;
            left = others;
            follow = ap lines_of d ∙ first.lines;
            place = place_within;
            done = a.done ++ line-bytes;
            put = puts_both a.put u;
            room = omega (arith, h, anew_length);
            fifty = omega (arith, a.fifty, fifty-more, g, j);
            whole = λ added. ap (λ (m : ℕ). (a.done ++ line-bytes) ++ text_of (converted_lines s added (i + m) others)) g ∙ goes_on added;
          }

      -- there is none
      pub anew_short : length out < r → (added : List ℤ) → length out₀ < length (lines_anew s added (lines_of text))
      anew_short h added =
          let rest = text_of (converted_lines s added (i + instructions_in (drop at text) 0) others) in
          let w : length (lines_anew s added (lines_of text)) ≡ length (text_of (converted_lines s added 0 a.all)) = ap
          (λ (o : Option (List (List ℕ))). length (lines_anew s added o)) a.are in
          omega (
            arith,
            h,
            p.next,
            w,
            ap length (goes_on added),
            length-append (a.done ++ line-bytes) rest,
            length-append a.done line-bytes,
            a.put.next,
            anew_length,
          )

-- ---- the end

-- too long: zeros
pub short_anew : (bytes out out' : List ℕ) → length out < length bytes → out' ≡ replicate (length out) 0 → PutsAnew bytes out 0 out'
short_anew bytes out out' h e =
    let t : leb (length bytes) (length out) ≡ false = lt-leb (length bytes) (length out) h in
    record {
      answer = sym (ap (λ (b : Bool). cond b (length bytes) 0) t);
      list = e ∙ sym (ap (λ (b : Bool). list_of (cond b 0 15) 0 (length out) bytes) t);
    }

-- no lines: zeros
pub none_anew : (s added : List ℤ) (text out out' : List ℕ) → lines_of text ≡ none → out' ≡ replicate (length out) 0 →
    PutsAnew (lines_anew s added (lines_of text)) out 0 out'
none_anew s added text out out' n e =
    let t : leb 0 (length out) ≡ true = le-leb 0 (length out) (omega arith) in
    subst (λ (o : Option (List (List ℕ))). PutsAnew (lines_anew s added o) out 0 out') (sym n)
    (record {
      answer = sym (ap (λ (b : Bool). cond b 0 0) t);
      list =
          e ∙ ap (λ (m : ℕ). replicate {A = ℕ} m 0) (let m : length out ≡ length out - 0 = omega arith in m)
          ∙ sym (ap (λ (b : Bool). list_of {A = ℕ} (cond b 0 15) 0 (length out) []) t);
    })

module _ {s : List ℤ} {text : List ℕ} (out : List ℕ) (added : List ℤ) {out₁ : List ℕ} {at to i : ℕ} (a : Anew s text (replicate (length out) 0) out₁ at to i)
    (end : is_before_word text at ≡ false) where
  abbrev bytes : List ℕ
  bytes = text_of (kern_lines added) ++ drop at text

  lines_are : (ls : List (List ℕ)) → lines_of (drop at text) ≡ some ls → text_of (converted_lines s added i ls) ≡ text_of (kern_lines added) ++ text_of ls
  lines_are [] q = turned_none s added i
  lines_are (l ∷ ks) q = turned_word s added l ks i (by (ltb at (length text)) refl (eqb (get_or text at 0) 87) refl end)
    where
      f : First (drop at text) l ks
      f = first_line_lem (drop at text) l ks q

      by : (t : Bool) → ltb at (length text) ≡ t → (w : Bool) → eqb (get_or text at 0) 87 ≡ w → cond t (not w) false ≡ false → begins_with 87 l ≡ true
      by true t true w e = sym (starts_word l f.rest (drop at text) f.bytes) ∙ ap (λ (b : ℕ). eqb b 87) (first_of_lem text at) ∙ w
      by true t false w e = absurd (let z : ◌≡◌ {A = ℕ} 0 1 = cc in omega arith)
      by false t w x e =
          absurd (omega (arith, ltb-false at (length text) t, length-drop at text, ap length f.bytes, length-append l (10 ∷ f.rest)))

  whole_is : lines_anew s added (lines_of text) ≡ a.done ++ bytes
  whole_is =
      ap (lines_anew s added) a.are
      ∙ sym (a.whole added)
      ∙ ap (λ (x : List ℕ). a.done ++ x) (lines_are a.left a.follow ∙ ap (λ (x : List ℕ). text_of (kern_lines added) ++ x) (lines_written (drop at text) a.left a.follow))

  long_is : length (lines_anew s added (lines_of text)) ≡ to + length bytes
  long_is = omega (arith, ap length whole_is, length-append a.done bytes, a.put.next)

  out_long : length out₁ ≡ length out
  out_long = anew_length a ∙ length-replicate (length out) 0

  module _ {r : ℕ} {out' : List ℕ} (p : PutsEnd bytes out₁ to r out') where
    pub anew_end : PutsAnew (lines_anew s added (lines_of text)) out r out'
    anew_end = by (less_or_not (length out) (to + length bytes))
      where
        by : (length out < to + length bytes) ⊎ (to + length bytes ≤ length out) → PutsAnew (lines_anew s added (lines_of text)) out r out'
        by (inl h) =
            let t : leb (to + length bytes) (length out₁) ≡ false = lt-leb (to + length bytes) (length out₁) (omega (arith, h, out_long)) in
            let r₀ : r ≡ 0 = p.answer ∙ ap (λ (b : Bool). cond b (to + length bytes) 0) t in
            let e : out' ≡ replicate (length out) 0 = p.written ∙ ap (λ (b : Bool). cond b (sets out₁ to bytes) (replicate (length out₁) 0)) t
            ∙ ap (λ (n : ℕ). replicate n 0) out_long in
            subst (λ (x : ℕ). PutsAnew (lines_anew s added (lines_of text)) out x out') (sym r₀)
            (short_anew (lines_anew s added (lines_of text)) out out' (omega (arith, h, long_is)) e)
        by (inr h) =
            let t : leb (to + length bytes) (length out₁) ≡ true = le-leb (to + length bytes) (length out₁) (omega (arith, h, out_long)) in
            let u : leb (length (lines_anew s added (lines_of text))) (length out) ≡ true = le-leb (length (lines_anew s added (lines_of text))) (length out)
            (omega (arith, h, long_is)) in
            let q : Puts bytes out₁ to (to + length bytes) out' = record {
              next = refl;
              written = p.written ∙ ap (λ (b : Bool). cond b (sets out₁ to bytes) (replicate (length out₁) 0)) t;
            } in
            let w = puts_both a.put q in
            record {
              answer =
                  p.answer ∙ ap (λ (b : Bool). cond b (to + length bytes) 0) t
                  ∙ sym long_is
                  ∙ sym (ap (λ (b : Bool). cond b (length (lines_anew s added (lines_of text))) 0) u);
              list =
                  w.written
                  ∙ ap (sets (replicate (length out) 0) 0) (sym whole_is)
                  ∙ sets_front (lines_anew s added (lines_of text)) (replicate (length out) 0) (omega (arith, h, long_is, length-replicate {A = ℕ} (length out) 0))
                  ∙ ap (λ (x : List ℕ). lines_anew s added (lines_of text) ++ x) (drop_replicate (length (lines_anew s added (lines_of text))) (length out) 0)
                  ∙ sym (ap (λ (b : Bool). list_of (cond b 0 15) 0 (length out) (lines_anew s added (lines_of text))) u);
            }

-- ---- what comes last

module _ (added : List ℤ) (text out : List ℕ) (to : ℕ) (room : to ≤ length out) where
  abbrev last : List ℕ
  last = text_of (kern_lines added) ++ text

  last_long : length last ≡ 14 * length added + length text
  last_long = omega (arith, length-append (text_of (kern_lines added)) text, kern_lines_long added)

  pub end_short : {out' : List ℕ} → (length out - to < length text) ⊎ ((length out - to - length text) / 14 < length added) → out' ≡ replicate (length out) 0 →
      PutsEnd last out to 0 out'
  end_short {out'} s e =
      let l : length out < to + length last = by s in
      let t : leb (to + length last) (length out) ≡ false = lt-leb (to + length last) (length out) l in
      record {
        answer = sym (ap (λ (b : Bool). cond b (to + length last) 0) t);
        written = e ∙ sym (ap (λ (b : Bool). cond b (sets out to last) (replicate (length out) 0)) t);
      }
    where
      by : (length out - to < length text) ⊎ ((length out - to - length text) / 14 < length added) → length out < to + length last
      by (inl h) = omega (arith, h, last_long)
      by (inr h) = omega (arith, h, last_long)

  module _ (h : length text ≤ length out - to) (k : length added ≤ (length out - to - length text) / 14) where
    fits : to + length last ≤ length out
    fits = omega (arith, h, k, last_long, room)

    pub end_put : {next r : ℕ} {out₁ out' : List ℕ} →
        PutsWhere (lines_fit 1 0 (length added) to (length out)) (bytes_of (lines_from 75 1 added 0 (length added))) out to next out₁ →
        PutsCounted out₁ next text r out' → PutsEnd last out to r out'
    end_put {next} {r} {out₁} {out'} p q =
        let n : length (bytes_of (lines_from 75 1 added 0 (length added))) ≡ 14 * length added = ap length (kern_bytes added) ∙ kern_lines_long added in
        let t : lines_fit 1 0 (length added) to (length out) ≡ true = taken_is 75 1 added 0 (length added) out to (omega arith) (omega arith)
        (omega (arith, n, fits, last_long)) in
        let w = where_puts (lines_fit 1 0 (length added) to (length out)) t p in
        let v : Puts (text_of (kern_lines added)) out to next out₁ = record {
          next = w.next ∙ ap (λ (x : List ℕ). to + length x) (kern_bytes added);
          written = w.written ∙ ap (sets out to) (kern_bytes added);
        } in
        let m : length out₁ ≡ length out = puts_length v in
        let x : Puts text out₁ next r out' = record { next = omega (arith, q.next, m, v.next, kern_lines_long added, fits, last_long); written = q.list } in
        let y = puts_both v x in
        let u : leb (to + length last) (length out) ≡ true = le-leb (to + length last) (length out) fits in
        record {
          answer = y.next ∙ sym (ap (λ (b : Bool). cond b (to + length last) 0) u);
          written = y.written ∙ sym (ap (λ (b : Bool). cond b (sets out to last) (replicate (length out) 0)) u);
        }
