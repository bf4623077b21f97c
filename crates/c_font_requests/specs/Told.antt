-- What a request, or the start of a word, leaves of the run that stands in a list of twelve numbers (R478): the contract of
-- `ligkern_ask_font` is this of `askFont`, that of `ligkern_start_word` this of `startWord`, on the run that is read.
use Rattle.std.specs.Prelude.{◌≡◌, List, ℕ}
use Rattle.lang.specs.Checks.{unless, lower}
use Rattle.font_runs.specs.declared.FontRun.{FontRun}
use Rattle.font_runs.specs.declared.Requested.{Requested}
use Rattle.font_runs.specs.declared.Requested.TheVariants.{Taken, Refused}
use Rattle.c_font_runs.specs.RunLists.{is_run, outside_run, run_moved}

-- what is refused, 0 where it is taken
abbrev pub request_number : Requested → ℕ
request_number (Taken run) = 0
request_number (Refused n) = n

-- the run that is left where it is taken
abbrev pub request_run : Requested → FontRun
request_run (Taken run) = run
request_run (Refused n) = outside_run

-- 7 for numbers that are no run's, beside what is refused: the lower of the two
abbrev pub run_number : Requested → List ℕ → ℕ
run_number r ns = lower (request_number r) (unless 7 (is_run ns))

-- the number, and the list: the run after it, or as it was
pub record TellsRun (r : Requested) (ns : List ℕ) (n : ℕ) (ns' : List ℕ) : Type 0 where
  pub number : n ≡ run_number r ns
  pub moved : ns' ≡ run_moved (run_number r ns) ns (request_run r)

-- a refusal is not 0, as none of ask_font and start_word is
abbrev pub Refuses : Requested → Type 0
Refuses (Taken run) = Unit {0}
Refuses (Refused n) = n ≡ 0 → ⊥
