-- The three lists (R91) of a font that is not checked yet: the contract of `write_lists`.
use Rattle.std.specs.Prelude.{◌≡◌, List, ℕ, ℤ, length, replicate}
use Rattle.lang.specs.Answers.{reply_of}
use Rattle.fonts.specs.declared.Compiled.{Compiled}
use Rattle.fonts.specs.Fonts.{Font}
use Rattle.fonts.specs.Compiled.{room_in, build_refusal, compiled_reply, font_counts, ListsWritten}

-- THE contract of write_lists: the counts, or the number; the three lists, or zeros; and the work all zeros
pub record Builds (f : Font) (pairs ops loops : List ℤ) (work : List ℕ) (r : Compiled) (pairs' ops' loops' : List ℤ)
    (work' : List ℕ) : Type 0 where
  pub answer : compiled_reply r ≡ reply_of (build_refusal f (room_in pairs ops loops work)) (font_counts f)
  pub lists : ListsWritten f (build_refusal f (room_in pairs ops loops work)) pairs ops loops pairs' ops' loops'
  pub cleared : work' ≡ replicate (length work) 0
