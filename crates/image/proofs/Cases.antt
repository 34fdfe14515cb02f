-- Worked images: M10's, one of a committing and a running transaction, refusals, and images at the limits of the rules.
use Prim.Native.Nat.{ℕ, zero, suc, ◌-◌}
use mathlib.Core.Bool.{Bool, true, false, cond}
use mathlib.Core.List.{List, [], ◌∷◌, ◌++◌, map}
use mathlib.Core.Option.{Option, none, some}
use mathlib.Core.Path.{◌≡◌, refl}
use lib.ListN.{length, take, replicate}
use Rattle.recovery.specs.Group.{Write}
use Rattle.transaction.specs.Rules.{head_ok}
use Rattle.image.specs.Content.{Saved, saved, Content, content_ok}
use Rattle.image.specs.Format.{encode_head, encode_txs, encode_content, content_size}
use Rattle.image.specs.Reading.{undo_here, read_tx, read_content, read_image}

abbrev with : List Saved → Content
with ts = record { logend = 17; ondisk = 1; assigned = 2; lastid = 3; txs = ts }

-- M10: "Checkpoint with no transaction: 4,110 stores", the pointer byte among them
m10 : content_size (with []) ≡ 4109
m10 = refl

m10_bytes : length (encode_content (with []) (replicate 4096 7)) ≡ 4109
m10_bytes = refl

-- id 2 has committed with number 2 after it wrote 2 bytes at 10; id 3 runs and has written nothing
abbrev two : Content
two = with (saved 2 2 2 (record { addr = 10; bytes = 65 ∷ 66 ∷ [] } ∷ []) ∷ saved 3 1 0 [] ∷ [])

head_bytes_lem : encode_head two ≡ 0 ∷ 17 ∷ 0 ∷ 0 ∷ 0 ∷ 1 ∷ 0 ∷ 0 ∷ 0 ∷ 2 ∷ 0 ∷ 3 ∷ 2 ∷ []
head_bytes_lem = refl

tx_bytes : encode_txs two.txs ≡ 0 ∷ 2 ∷ 2 ∷ 0 ∷ 0 ∷ 0 ∷ 2 ∷ 1 ∷ 0 ∷ 10 ∷ 2 ∷ 65 ∷ 66 ∷ 0 ∷ 3 ∷ 1 ∷ 0 ∷ 0 ∷ 0 ∷ 0 ∷ 0 ∷ []
tx_bytes = refl

read_back : read_image (encode_content two (replicate 4096 7) ++ (9 ∷ [])) ≡ some two
unfolding head_ok undo_here read_tx read_content
read_back = refl

-- a byte short
cut_off : read_image (take 4129 (encode_content two (replicate 4096 7))) ≡ none
unfolding head_ok undo_here read_tx read_content
cut_off = refl

same_id : content_ok (with (saved 3 1 0 [] ∷ saved 3 2 1 [] ∷ [])) ≡ false
unfolding head_ok
same_id = refl

same_csn : content_ok (with (saved 2 2 1 [] ∷ saved 3 2 1 [] ∷ [])) ≡ false
unfolding head_ok
same_csn = refl

both_running : content_ok (with (saved 2 1 0 [] ∷ saved 3 1 0 [] ∷ [])) ≡ true
unfolding head_ok
both_running = refl

csn_not_assigned : content_ok (with (saved 3 2 3 [] ∷ [])) ≡ false
unfolding head_ok
csn_not_assigned = refl

running_csn : content_ok (with (saved 3 1 1 [] ∷ [])) ≡ false
unfolding head_ok
running_csn = refl

past_memory : content_ok (with (saved 3 1 0 (record { addr = 4065; bytes = replicate 32 0 } ∷ []) ∷ [])) ≡ false
unfolding head_ok
past_memory = refl

-- ---- the limits: whether an image that is written so is read back, or refused

pub record Limit : Type 0 where
  pub content : Content
  pub kept : Bool

-- n transactions with the same undo records, ids from i on
abbrev alike : ℕ → ℕ → List Write → List Saved
alike zero i us = []
alike (suc n) i us = saved i 1 0 us ∷ alike n (suc i) us

abbrev crowded : ℕ → ℕ → List Write → Content
crowded logend n us = record { logend = logend; ondisk = 1; assigned = 2; lastid = 9; txs = alike n 1 us }

-- n undo records of so many bytes each
abbrev undos : ℕ → ℕ → List Write
undos n size = replicate n (record { addr = 4096 - size; bytes = replicate size 5 })

-- 8 transactions of 16 undo records of 32 bytes each
abbrev largest : Content
largest = crowded 17 8 (undos 16 32)

largest_size : content_size largest ≡ 8653
largest_size = refl

abbrev limits : List Limit
limits =
    -- "at most 8 transactions"
    record { content = crowded 17 8 []; kept = true }
    ∷ record { content = crowded 17 9 []; kept = false }
    -- "at most 16 undo records each"
    ∷ record { content = crowded 17 1 (undos 16 1); kept = true }
    ∷ record { content = crowded 17 1 (undos 17 1); kept = false }
    -- "their ranges as for redo": "the length is 1 to 32"
    ∷ record { content = crowded 17 1 (undos 1 32); kept = true }
    ∷ record { content = crowded 17 1 (undos 1 33); kept = false }
    ∷ record { content = crowded 17 1 (undos 1 0); kept = false }
    -- "log end ≤ 16,384"
    ∷ record { content = crowded 16384 0 []; kept = true }
    ∷ record { content = crowded 16385 0 []; kept = false }
    -- the largest image, of all the bytes that A or B has
    ∷ record { content = largest; kept = true }
    ∷ []

abbrev read_written : Limit → Option Content
read_written r = read_image (encode_content r.content (replicate 4096 7))

abbrev wanted : Limit → Option Content
wanted r = cond r.kept (some r.content) none

at_the_limits : map read_written limits ≡ map wanted limits
unfolding head_ok undo_here read_tx read_content
at_the_limits = refl
