-- Each test of a step (R171 to R177; TFtoPL 70 to 77) over those lists alone that it asks of: the tests of crate `repairs`, at a program
-- whose other parts are nothing.
use Rattle.std.specs.Prelude.{Bool, List, [], ℕ, ℤ, pos}
use Rattle.repairs.specs.Damaged.{program_by}
use Rattle.repairs.specs.Repaired.{exists, skip_goes, redirect_warns, is_boundary, right_goes, kern_goes, product_goes, tag_goes}

-- character c exists, by the four words of the set
abbrev pub exists_in : List ℕ → ℕ → Bool
exists_in existing c = exists (program_by [] [] (pos 0) 0 existing [] []) c

-- a right character is the boundary character, where there is one
abbrev pub is_edge : ℤ → ℤ → Bool
is_edge boundary right = is_boundary (program_by [] [] boundary 0 [] [] []) right

-- warning 3: step i is reachable, and its skip passes the end
abbrev pub skip_past_end : List ℤ → List ℕ → ℕ → Bool
skip_past_end s marks i = skip_goes (program_by s [] (pos 0) 0 [] marks []) i

-- warning 9: step i is a redirect whose target is past the end, unless it is unreachable and passed over
abbrev pub redirect_past_end : List ℤ → List ℕ → List ℕ → ℕ → Bool
redirect_past_end s marks passthrough i = redirect_warns (program_by s [] (pos 0) 0 [] marks passthrough) i

-- warning 4 or 5: the right character of step i, no redirect, neither exists nor is the boundary character
abbrev pub right_missing : List ℤ → ℤ → List ℕ → ℕ → Bool
right_missing s boundary existing i = right_goes (program_by s [] boundary 0 existing [] []) i

-- warning 7: the kern index of step i is past the list
abbrev pub kern_past_list : List ℤ → List ℤ → ℕ → Bool
kern_past_list s kerns i = kern_goes (program_by s kerns (pos 0) 0 [] [] []) i

-- warning 6: step i inserts a character that does not exist
abbrev pub product_missing : List ℤ → List ℕ → ℕ → Bool
product_missing s existing i = product_goes (program_by s [] (pos 0) 0 existing [] []) i

-- warning 8: the op byte of step i is not standard
abbrev pub tag_invalid : List ℤ → ℕ → Bool
tag_invalid s i = tag_goes (program_by s [] (pos 0) 0 [] [] []) i
