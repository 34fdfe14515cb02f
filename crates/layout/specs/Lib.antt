-- Sizes, offsets, counts and statuses of documents 01 and 02, each said once; a disk's forms and parts in Parts.
use Rattle.std.specs.Prelude.{ℕ}
pub mod Parts
pub mod Refusal

-- "Memory: 4,096 bytes", "Tail: 16,384 bytes", "Disk: 33,691 bytes"
abbrev pub memory_len : ℕ
memory_len = 4096

abbrev pub tail_len : ℕ
tail_len = 16384

abbrev pub disk_len : ℕ
disk_len = 33691

-- the pages of memory: "16 drawers of 256 bytes" (document 02, A.5)
abbrev pub page_len : ℕ
page_len = 256

abbrev pub pages : ℕ
pages = 16

-- "A is at 1 to 8,653, B at 8,654 to 17,306, the log at 17,307 to 33,690"
abbrev pub image_a : ℕ
image_a = 1

abbrev pub image_b : ℕ
image_b = 8654

abbrev pub image_len : ℕ
image_len = 8653

abbrev pub log_start : ℕ
log_start = 17307

abbrev pub log_len : ℕ
log_len = 16384

-- document 02, A.9: "Form two has 50,077 bytes: pointer byte, two images of 8,654 bytes each, two log areas of 16,384", in this order
abbrev pub disk_len2 : ℕ
disk_len2 = 50077

abbrev pub image_b2 : ℕ
image_b2 = 8655

abbrev pub area_one : ℕ
area_one = 17309

abbrev pub area_two : ℕ
area_two = 33693

-- "its area, 1 or 2"
abbrev pub max_area : ℕ
max_area = 2

-- the pointer byte: "0 no image, 1 image A, 2 image B"
abbrev pub names_a : ℕ
names_a = 1

abbrev pub names_b : ℕ
names_b = 2

-- an image: the counters before the memory bytes, where the transactions start, "id (2), status (1), commit number (4), undo count (1)" of each,
-- "address (2), length (1)" of an undo record
abbrev pub counters_len : ℕ
counters_len = 13

abbrev pub txs_start : ℕ
txs_start = 4109

abbrev pub tx_head_len : ℕ
tx_head_len = 8

abbrev pub undo_head_len : ℕ
undo_head_len = 3

-- log records: the first and last byte of each kind, and "Size 7 + length", "Size 8", "Size 4"
abbrev pub kind_redo : ℕ
kind_redo = 1

abbrev pub kind_commit : ℕ
kind_commit = 2

abbrev pub kind_abort : ℕ
kind_abort = 3

abbrev pub redo_len : ℕ
redo_len = 7

abbrev pub commit_len : ℕ
commit_len = 8

abbrev pub abort_len : ℕ
abort_len = 4

-- "at most 8 transactions", "at most 16 undo records each", "the length is 1 to 32"
abbrev pub max_txs : ℕ
max_txs = 8

abbrev pub max_records : ℕ
max_records = 16

abbrev pub max_write : ℕ
max_write = 32

-- document 02, A.7: "Up to four marks"
abbrev pub max_savepoints : ℕ
max_savepoints = 4

-- "status (1: 1 running, 2 committing)"
abbrev pub status_running : ℕ
status_running = 1

abbrev pub status_committing : ℕ
status_committing = 2
