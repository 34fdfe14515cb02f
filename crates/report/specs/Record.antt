-- The 64 bytes of a record of the stream (docs/STREAM.md), numbers highest byte first.
use Rattle.std.specs.Prelude.{ℕ, zero, suc, ◌+◌, min, cond, List, [], ◌∷◌, length, get_or, take, drop, replicate, eqb}
use Rattle.redolog.specs.Number.{be16, be32}
use Rattle.report.specs.declared.record.Record.{Record}

-- all zero, which is no call, where the bytes are not 64
unfoldable pub record_of : List ℕ → Record
record_of b =
    cond (eqb (length b) 64)
    (record { call = get_or b 0 0; name = get_or b 1 0; id = record { 0 = be16 b 2 }; addr = be32 b 4; len = be32 b 8; groups = be32 b 12; allowed = be32 b 16 })
    (record { call = 0; name = 0; id = record { 0 = 0 }; addr = 0; len = 0; groups = 0; allowed = 0 })

-- the data: as many bytes from 24 on as byte 1 says, at most 40
unfoldable pub data_of : List ℕ → List ℕ
data_of b = cond (eqb (length b) 64) (take (min (get_or b 1 0) 40) (drop 24 b)) []

-- the ids of call 19, two bytes each from 24 on: how many byte 1 says, at most 20; and all that there is room for
unfoldable pub ids_count : List ℕ → ℕ
ids_count b = cond (eqb (length b) 64) (min (get_or b 1 0) 20) 0

abbrev pub ids_from : List ℕ → ℕ → ℕ → List ℕ
ids_from b zero at = []
ids_from b (suc n) at = be16 b at ∷ ids_from b n (at + 2)

unfoldable pub ids_of : List ℕ → List ℕ
ids_of b = cond (eqb (length b) 64) (ids_from b 20 24) (replicate 20 0)
