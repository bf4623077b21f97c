-- The number of the size comes last (R356): compiling is done, and is refused all the same.
use Rattle.std.specs.Prelude.{ℕ, zero, suc}
use Rattle.fonts.specs.declared.Compiled.{Compiled}
use Rattle.fonts.specs.declared.Compiled.TheVariants.{Tables, Refused}

-- the number of the size where the font itself is taken; else what was answered
abbrev pub late_answer : ℕ → Compiled → Compiled
late_answer zero r = r
late_answer (suc n) (Tables p o l) = Refused (suc n)
late_answer (suc n) (Refused m) = Refused m
