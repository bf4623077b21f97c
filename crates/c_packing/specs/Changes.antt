-- The replies of the calls that write a program anew (R144 to R147, R154 to R163): each is the reply that the contract of the port's own
-- function states.
use Rattle.std.specs.Prelude.{List, [], ◌∷◌, ℕ, ℤ, pos, length}
use Rattle.lang.specs.Records.{count}
use Rattle.lang.specs.Answers.{Reply, reply_of}
use Rattle.program_kerns.specs.Kerns.{pack_refusal, unpack_kerns_refusal, kerns_of}
use Rattle.pack.specs.Packing.{Packable, packing_refusal, packed_sizes}

-- pack_kerns: how many instructions there are
abbrev pub pack_kerns_reply : List ℤ → List ℤ → ℕ → Reply
pack_kerns_reply s kerns room = reply_of (pack_refusal s kerns room) (pos (count s) ∷ [])

-- unpack_kerns: how many kerns there are
abbrev pub unpack_kerns_reply : List ℤ → ℕ → ℕ → Reply
unpack_kerns_reply s room kernRoom = reply_of (unpack_kerns_refusal s room kernRoom) (pos (length (kerns_of s)) ∷ [])

-- pack_entrypoints: how many instructions there are now, the offset and the number of redirects
abbrev pub pack_reply : Packable → ℕ → ℕ → Reply
pack_reply f room entryRoom = reply_of (packing_refusal f room entryRoom) (packed_sizes f)
