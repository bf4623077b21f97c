-- Lists of zeros: as reading starts with them, and as it leaves them where a text is unreadable.
-- Assumes nothing.
use mathlib.Core.Path.{◌≡◌, ap, ◌∙◌}
use mathlib.Core.List.{List}
use mathlib.Core.Option.{none}
use Prim.Native.Nat.{ℕ, ◌<◌}
use lib.IntN.{ℤ, pos}
use lib.ListN.{length, replicate}
use borrow.Author.Tests.{lt-leb}
use Rattle.words.specs.Words.{number_of}
use Rattle.words.proofs.Lists.{appending_none}
use Rattle.lang.specs.Answers.{list_of}
use Rattle.columns.specs.declared.TextHeads.{TextHeads}
use Rattle.std.specs.Prelude as rust
use Rattle.columns.specs.Texts.{opened, read_text}
use Rattle.columns.specs.Scanned.{text_refusal, ReadsText}
use Rattle.text_scan.specs.declared.progress.TextProgress.{TextProgress}
use Rattle.text_scan.specs.Standing.{zeros, TellsText, Scanning, Zeroed}
use Rattle.text_scan.proofs.Adding.{zeros_long}

-- a list that was zeroed
pub zeroed : {A : Type 0} (o : A) (n : ℕ) (list list' : List A) → length list ≡ n → list' ≡ replicate (length list) o → list' ≡ zeros o n
unfolding zeros
zeroed o n list list' l e = e ∙ ap (λ (k : ℕ). replicate k o) l

-- .. is what an unreadable text leaves
cleared : {A : Type 0} (o : A) (n r : ℕ) (list xs : List A) → r ≡ 16 → list ≡ zeros o n → list ≡ list_of r o n xs
unfolding zeros
cleared o n r list xs e z = rw e z

-- over 65,536 bytes
pub too_long : (text : List ℕ) → 65536 < length text → read_text text ≡ none
too_long text h = rw (lt-leb (length text) 65536 h)

-- reading starts after D with nothing in the lists
pub starts : (text : List ℕ) (p : TextProgress) (instructions kerns entries : List ℤ) (word : List ℕ) → Zeroed instructions kerns entries word →
    TellsText text p (opened (number_of p.design)) → Scanning text p instructions kerns entries
starts text p instructions kerns entries word z t =
    record {
      says = opened (number_of p.design);
      tells = t;
      in_instructions = rw z.no_instructions (appending_none (zeros (pos 0) 2048));
      in_kerns = rw z.no_kerns (appending_none (zeros (pos 0) 512));
      in_entries = rw z.no_entries (appending_none (zeros (pos 0) 5040));
    }

pub clears : (text : List ℕ) (read : rust.Option TextHeads) (instructions kerns entries : List ℤ) (word : List ℕ) → read ≡ rust.None → read_text text ≡ none →
    Zeroed instructions kerns entries word → ReadsText text read instructions kerns entries word
clears text read instructions kerns entries word u e z =
    let r : text_refusal (read_text text) ≡ 16 = ap text_refusal e in
    record {
      answer = rw (u, r);
      long = (
        ap length z.no_instructions ∙ zeros_long (pos 0) 2048,
        ap length z.no_kerns ∙ zeros_long (pos 0) 512,
        ap length z.no_entries ∙ zeros_long (pos 0) 5040,
        ap length z.no_word ∙ zeros_long 0 64,
      );
      instructions = cleared (pos 0) 2048 (text_refusal (read_text text)) instructions _ r z.no_instructions;
      kerns = cleared (pos 0) 512 (text_refusal (read_text text)) kerns _ r z.no_kerns;
      entries = cleared (pos 0) 5040 (text_refusal (read_text text)) entries _ r z.no_entries;
      word = cleared 0 64 (text_refusal (read_text text)) word _ r z.no_word;
    }
