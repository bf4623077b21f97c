-- `pack::pack_font` meets its contract: a font that is taken so far has at most 256 entries, so that there is a place for each label; what the labels
-- refuse is what packing refuses; and where nothing is, each shifted label fits.
-- Assumes nothing.
use native.Mathlib.Omega.{arith}
use mathlib.Core.Path.{◌≡◌, sym, ◌∙◌}
use mathlib.Core.List.{List}
use Prim.Native.Nat.{ℕ, ◌/◌, ◌≤◌, ◌<◌}
use lib.ListN.{length, take}
use lib.Seq.{length-take-le}
use Rattle.words.specs.Words.{number_of}
use Rattle.pack_labels.proofs.Insertion.{label_le, label_front, label_redirects}
use Rattle.pack.specs.Packing.{Packable, packable, packing_refusal}
use Rattle.lang.proofs.Entered.{entries_few}
use Rattle.pack.proofs.Packing.{Plan, Taken, taken, font_entered, plan_front, plan_few, plan_redirects, plan_offset, plan_offset_le, plan_offset_lt}
use Rattle.pack.proofs.Packing.{plan_packed, plan_entries, plan_answer, plan_shifts, plan_refusal, packs_refused, packs_taken}
use borrow.Author.Rules.{rules}
use Rattle.pack.proofs.pack_font.Statement.{statement}
use Rattle.pack.proofs.pack_font.Tie as tie

abbrev font : tie.Start → Packable
font s = packable s.args.instructions.now s.args.entries.now (number_of s.args.boundary) (number_of s.args.left)

-- where the labels are known
abbrev start : tie.After-label-found → tie.Start
start l = l.before.before.before

abbrev labels : tie.After-label-found → List ℕ
labels l = take l.label-found.result.count l.label-found.new.labels

few : (s : tie.Start) → length s.args.entries.now / 2 ≤ 256
few s = entries_few 65535 s.args.entries.now (font_entered (font s) s.requires.0)

labels_length : (l : tie.After-label-found) → length (labels l) ≡ l.label-found.result.count
labels_length l = length-take-le l.label-found.result.count l.label-found.new.labels (label_le l.label-found.ensures)

plan : (l : tie.After-label-found) → Plan (font (start l)) (labels l) l.is_present.result l.label-found.result.redirects l.label-found.result.offset
plan l =
    record {
      same = label_front l.label-found.ensures (few (start l));
      bounded = l.is_present.ensures;
      redirects = label_redirects l.label-found.ensures (few (start l));
      offset = l.label-found.ensures.offset;
    }

offset-lt : (l : tie.After-label-found) → l.label-found.result.offset < 65536
offset-lt l = plan_offset_lt (plan l) (omega (arith, labels_length l, label_le l.label-found.ensures, l.label-found.auto))

-- what is refused
asked : (r : tie.After-labels_refusal-refusal) → let l = r.before.before.before.before in
    r.labels_refusal-refusal.result ≡ packing_refusal (font (start (r.before.before.before.before))) (length (start (r.before.before.before.before)).args.out.now) (length (start (r.before.before.before.before)).args.entries_out.now)
asked r =
    let l = r.before.before.before.before in
    let s = start (r.before.before.before.before) in
    r.labels_refusal-refusal.ensures
    ∙ plan_refusal (plan (r.before.before.before.before)) (length s.args.out.now) (length s.args.entries_out.now) r.packed_size-size.result s.requires.0 r.packed_size-size.ensures

-- nothing is
accepted : (e : tie.Else-refusal-ne0) → packing_refusal (font (start (e.before.before.before.before.before))) (length (start (e.before.before.before.before.before)).args.out.now) (length (start (e.before.before.before.before.before)).args.entries_out.now) ≡ 0
accepted e = sym (asked e.before) ∙ e.if-refusal-ne0.false

packs : (e : tie.Else-refusal-ne0) → Taken (font (start (e.before.before.before.before.before))) (length (start (e.before.before.before.before.before)).args.out.now) (length (start (e.before.before.before.before.before)).args.entries_out.now)
packs e =
    let s = start e.before.before.before.before.before in
    taken (font s) (length s.args.out.now) (length s.args.entries_out.now) (accepted e)

is-present-requires : tie.Need-is_present-requires
is-present-requires c κs = search rules

slice-aggregate-label : tie.Need-slice_bounds-label-end
slice-aggregate-label c = search rules

label-requires : tie.Need-label-found-requires
label-requires c κs = search rules

array-share-prefix-table : tie.Need-slice_bounds-table-end
array-share-prefix-table c = label_le c.label-found.ensures

slice-aggregate-labels : tie.Need-slice_bounds-labels-end
slice-aggregate-labels c = sym (labels_length c.before.before)

packed-size-requires : tie.Need-packed_size-size-requires
packed-size-requires c κs = offset-lt c.before.before

labels-refusal-requires : tie.Need-labels_refusal-refusal-requires
labels-refusal-requires c κs = offset-lt c.before.before.before

returns : tie.Need-returns-then-refusal-ne0
returns c =
    let s = start c.before.before.before.before.before in
    packs_refused (font s) s.args.out.now s.args.entries_out.now s.requires.1.0 s.requires.1.1 c.labels_refusal-refusal.result (asked (c.before)) c.if-refusal-ne0.true

put-instructions-requires : tie.Need-put_instructions-requires
put-instructions-requires c κs =
    let p = plan c.before.before.before.before.before.before in
    let q = packs (c.before) in
    ((plan_front p, (plan_few p, (plan_shifts p q, rw (plan_offset p) q.shifts_left))), rw (plan_packed p) q.size)

put-entries-requires : tie.Need-put_entries-requires
put-entries-requires c κs =
    let p = plan c.before.before.before.before.before.before.before.before.before in
    let q = packs (c.before.before.before.before) in
    (rw (plan_redirects p) q.few, (plan_offset_le p q.few, (q.entered, q.entry_size)))

same_length : tie.Need-shape_of-out
same_length c = search rules

same-length-2 : tie.Need-shape_of-entries_out
same-length-2 c = search rules

returns-2 : tie.Need-returns
returns-2 c =
    let s = start (c.before.before.before.before.before.before.before.before.before.before.before) in
    let p = plan (c.before.before.before.before.before.before.before.before.before.before.before) in
    packs_taken (font s) s.args.out.now s.args.entries_out.now s.requires.1.0 s.requires.1.1 _ c.put_instructions.new.out c.put_entries.new.out
    (accepted (c.before.before.before.before.before.before)) (plan_answer p c.packed_size-size.result c.packed_size-size.ensures) (rw (plan_packed p) at c.put_instructions.ensures) (rw (plan_entries p) at c.put_entries.ensures)

pub pack_font_spec : {M : Type 1} → statement M
pack_font_spec =
    tie.close
    (tie.spec
    is-present-requires
    slice-aggregate-label
    label-requires
    array-share-prefix-table
    slice-aggregate-labels
    packed-size-requires
    labels-refusal-requires
    returns
    put-instructions-requires
    put-entries-requires
    same_length
    same-length-2
    returns-2)
