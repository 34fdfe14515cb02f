-- The bytes of an image (document 01, "Image, in this order").
use Rattle.std.specs.Prelude.{ℕ, ◌+◌, List, [], ◌∷◌, ◌++◌, length}
use Rattle.layout.specs.{txs_start, tx_head_len, undo_head_len}
use Rattle.recovery.specs.Group.{Write}
use Rattle.redolog.specs.Number.{bytes16, bytes32}
use Rattle.image.specs.declared.Image.{Image}
use Rattle.image.specs.Content.{Saved, saved, Content, content_of}

-- "log end (2), last commit number on disk (4), last commit number assigned (4), last id given (2), count of transactions (1)"
abbrev pub head_bytes : ℕ → ℕ → ℕ → ℕ → ℕ → List ℕ
head_bytes logend ondisk assigned lastid count = bytes16 logend ++ (bytes32 ondisk ++ (bytes32 assigned ++ (bytes16 lastid ++ (count ∷ []))))

abbrev pub encode_head : Content → List ℕ
encode_head c = head_bytes c.logend c.ondisk c.assigned c.lastid (length c.txs)

-- "id (2), status (1), commit number (4), undo count (1)"
abbrev pub encode_tx_head : Saved → List ℕ
encode_tx_head (saved id status csn us) = bytes16 id ++ (status ∷ (bytes32 csn ++ (length us ∷ [])))

-- "address (2), length (1), old bytes"
abbrev pub encode_undo : Write → List ℕ
encode_undo w = bytes16 w.addr ++ (length w.bytes ∷ w.bytes)

abbrev pub encode_undos : List Write → List ℕ
encode_undos [] = []
encode_undos (u ∷ us) = encode_undo u ++ encode_undos us

abbrev pub undos_in : Saved → List Write
undos_in (saved id status csn us) = us

abbrev pub encode_tx : Saved → List ℕ
encode_tx t = encode_tx_head t ++ encode_undos (undos_in t)

abbrev pub encode_txs : List Saved → List ℕ
encode_txs [] = []
encode_txs (t ∷ ts) = encode_tx t ++ encode_txs ts

-- the head, "the 4,096 memory bytes, then each transaction in order of begin"
abbrev pub encode_content : Content → List ℕ → List ℕ
encode_content c memory = encode_head c ++ (memory ++ encode_txs c.txs)

abbrev pub encode_image : Image → List ℕ → List ℕ
encode_image i memory = encode_content (content_of i) memory

-- ---- how many bytes these are

abbrev pub undos_size : List Write → ℕ
undos_size [] = 0
undos_size (u ∷ us) = undo_head_len + length u.bytes + undos_size us

abbrev pub tx_size : Saved → ℕ
tx_size t = tx_head_len + undos_size (undos_in t)

abbrev pub txs_size : List Saved → ℕ
txs_size [] = 0
txs_size (t ∷ ts) = tx_size t + txs_size ts

-- the bytes that an image uses
abbrev pub content_size : Content → ℕ
content_size c = txs_start + txs_size c.txs

abbrev pub image_size : Image → ℕ
image_size i = content_size (content_of i)
