-- What compiling a font answers.
use Rattle.std.specs.Prelude.{◌<◌}
use Rattle.fonts.specs.declared.Compiled.{Compiled}
use Rattle.fonts.specs.declared.Compiled.TheVariants.{Tables, Refused}

-- a refusal has a number
abbrev pub Numbered : Compiled → Type 0
Numbered (Tables p o m) = Unit
Numbered (Refused n) = 0 < n
